-- Requests and their adds: what they carry is settled then, and no two that aren't done well write one block.
use Rattle.std.proofs.Common.{◌≡◌, ℕ, ◌<◌, List, [], slice_get, Bool, true, false, Some, refl, arith, subst, inl, inr, ap, ◌∙◌}
use Rattle.std.specs.List.{list_any}
use Rattle.std.proofs.lemmas.Bool.{ne_eqb, true_from_ne_false}
use Rattle.std.proofs.lemmas.Option.{slice_get_within, same_Some}
use Rattle.split_types.specs.declared.ids.ReqId.{ReqId}
use Rattle.split_types.specs.declared.buf.Buf.TheVariants.{Page}
use Rattle.split_types.specs.declared.actor.Actor.{Actor}
use Rattle.split_types.specs.declared.request.Request.{Request}
use Rattle.split_types.specs.declared.workload.Workload.{Workload}
use Rattle.split_types.specs.declared.event.Event.{Event}
use Rattle.split_types.specs.declared.event.Event.TheVariants.{Add, Done}
use Rattle.split_types.specs.History.{◌▹◌, adds}
use Rattle.split_types.specs.Hooks.{maker, covers}
use Rattle.split_types.specs.Requests.{is_numbered, requests, in_flight, unfinished}
use Rattle.split_types.specs.DiskBytes.{Adding, adding, writes}
use Rattle.split_types.specs.DiskContents.{WritesStayApart}
use Rattle.split_types.specs.Accepted.{IsAccepted}
use Rattle.split_types.specs.Legal.{IsLegal}
use Rattle.split_types.specs.Proving.Came.{Came}
use Rattle.split_types.specs.Proving.Came.Came.{came_load, came_add, came_journal, came_done}
use Rattle.split_types.specs.Proving.Known.{HasRun}
use Rattle.split_types.specs.Proving.JournalKnown.{IsJournalRun}
use Rattle.split_types.proofs.Lists.{slice_get-push, find_some, counted_here, count_none}
use Rattle.split_types.proofs.WaitingLaws.{number_here, same_number}
use Rattle.split_types.proofs.CameLaws.{came}
use Rattle.split_types.proofs.KnownLaws.{known, has_run}
use Rattle.split_types.proofs.JournalRows.{journal_apart}
use Rattle.split_types.proofs.JournalStepsAdds.{journal_known}
use Rattle.split_types.proofs.KeptLists.{case_true, case_false, one_passes}
use Rattle.split_types.proofs.PagesKeep.{pages_keep}
use Rattle.split_types.proofs.CoverLaws.{MovesIn, moved, write_tests, block_from, same_page}

-- ---- adds
pub adding_new : (h : List Event) (by : Actor) (r : Request)
    → adding (h ▹ Add by r) r.id ≡ Some (record { request = r; before = h })
adding_new h by r =
    case_true (is_numbered r.id r) (Some (record { request = r; before = h })) (adding h r.id) (number_here r)

pub adding_old : (h : List Event) (by : Actor) (r : Request) (id : ReqId) → is_numbered id r ≡ false
    → adding (h ▹ Add by r) id ≡ adding h id
adding_old h by r id other =
    case_false (is_numbered id r) (Some (record { request = r; before = h })) (adding h id) other

-- a request that is added has the next number
pub add_number : (w : Workload) (h : List Event) (by : Actor) (r : Request) → Came w h (Add by r) → r.id.0 ≡ adds h
add_number w h by r (came_load p c s piece here absent block at) = refl
add_number w h by r (came_add run block at there placed long) = refl
add_number w h by r (came_journal kind first n j) = refl

pub adding_kept : (w : Workload) (h : List Event) (e : Event) (id : ReqId) → IsLegal w (h ▹ e) → id.0 < adds h
    → adding (h ▹ e) id ≡ adding h id
adding_kept w h (Add by r) id legal below =
    let number = add_number w h by r (came w h (maker (Add by r)) (Add by r) legal.0)
    in adding_old h by r id (ne_eqb r.id.0 id.0 (λ (e : r.id.0 ≡ id.0). omega (arith, number, below, e)))
adding_kept w h e id legal below = refl

-- the add of the request that stands at a place
pub adding_there : (w : Workload) (h : List Event) (i : ℕ) (r : Request) → IsAccepted w → IsLegal w h
    → slice_get (requests h) i ≡ Some r
    → (before : List Event) × (adding h r.id ≡ Some (record { request = r; before = before }))
adding_there w [] i r accepted legal at = absurd (cc)
adding_there w (h ▹ Add by q) i r accepted legal at = elim (slice_get-push (requests h) q i r at) [
  | inl old ↦
      (let f = known w h accepted legal.1
      in let rest = adding_there w h i r accepted legal.1 old
      in (
        rest.0,
        adding_kept w h (Add by q) r.id legal
            (omega (arith, f.numbered.number_is i r old, f.numbered.counted, slice_get_within (requests h) i r old))
            ∙ rest.1,
      ))
  | inr new ↦ (
    h,
    subst (λ x. adding (h ▹ Add by q) x.id ≡ Some (record { request = x; before = h })) new.1 (adding_new h by q),
  )
]
adding_there w (h ▹ e) i r accepted legal at = adding_there w h i r accepted legal.1 at

-- before its add the history was legal too
pub before_legal : (w : Workload) (h : List Event) (id : ReqId) (a : Adding) → IsLegal w h → adding h id ≡ Some a
    → IsLegal w a.before
before_legal w [] id a legal at = absurd (cc)
before_legal w (h ▹ Add by r) id a legal at =
    by_test (is_numbered id r) at (λ old. before_legal w h id a legal.1 old)
  where
    by_test : (b : Bool)
        → (elim b [ true ↦ Some (record { request = r; before = h }) | false ↦ adding h id ]) ≡ Some a
        → (adding h id ≡ Some a → IsLegal w a.before) → IsLegal w a.before
    by_test true is rest =
        subst (λ x. IsLegal w x.before) (same_Some (record { request = r; before = h }) a is) legal.1
    by_test false is rest = rest is
before_legal w (h ▹ e) id a legal at = before_legal w h id a legal.1 at

-- ---- requests that aren't done well
pub left_run : (w : Workload) (h : List Event) (k : ℕ) (r : Request) → IsAccepted w → IsLegal w h
    → slice_get (unfinished h) k ≡ Some r → HasRun w h r
left_run w h k r accepted legal at =
    let f = known w h accepted legal
    in has_run w h r.id.0 r f.runs (journal_known w h accepted legal) (f.waiting.left_of k r at)

-- what the commit thread writes lies below what pages are written to
low_high : (w : Workload) (h : List Event) (x : ℕ) (q r : Request) → IsAccepted w → IsLegal w h → IsJournalRun w q
    → MovesIn w h r → writes q x ≡ true → writes r x ≡ true → ⊥
low_high w h x q r accepted legal low run first second =
    let there = moved w h r x run second
    in omega (arith, low.within, write_tests q x first, block_from w h there.serial.0 there.page x accepted legal there.at)

-- no two that write pages write one block
pages_apart : (w : Workload) (h : List Event) (x i j : ℕ) (q r : Request) → IsAccepted w → IsLegal w h
    → slice_get (unfinished h) i ≡ Some q → slice_get (unfinished h) j ≡ Some r
    → MovesIn w h q → MovesIn w h r → writes q x ≡ true → writes r x ≡ true → i ≡ j
pages_apart w h x i j q r accepted legal at there run other first second =
    let f = known w h accepted legal
    in let one = moved w h q x run first
    in let two = moved w h r x other second
    in one_passes (λ z. covers z (Page one.serial one.page)) (unfinished h) i j q r at there one.covers_it
    (subst (λ b. covers r b ≡ true)
    (same_page w h two.serial two.page one.serial one.page x accepted legal
    (pages_keep w h j r two.serial two.page accepted legal there two.covers_it)
    (pages_keep w h i q one.serial one.page accepted legal at one.covers_it) two.at one.at) two.covers_it)
    (f.takes one.serial one.page)

-- no two of them write one block
pub writes_apart : (w : Workload) (h : List Event) (x i j : ℕ) (q r : Request) → IsAccepted w → IsLegal w h
    → slice_get (unfinished h) i ≡ Some q → slice_get (unfinished h) j ≡ Some r → writes q x ≡ true
    → writes r x ≡ true → i ≡ j
writes_apart w h x i j q r accepted legal at there first second =
    by_run (left_run w h i q accepted legal at) (left_run w h j r accepted legal there)
  where
    by_run : HasRun w h q → HasRun w h r → i ≡ j
    by_run (inl run) (inl other) = pages_apart w h x i j q r accepted legal at there run other first second
    by_run (inl run) (inr low) = absurd (low_high w h x r q accepted legal low run second first)
    by_run (inr low) (inl run) = absurd (low_high w h x q r accepted legal low run first second)
    by_run (inr one) (inr two) =
        let lies = write_tests q x first
        in let also = write_tests r x second
        in journal_apart w h x i j q r (journal_known w h accepted legal) at there one.commits two.commits lies.1
        lies.2 also.1 also.2

-- a request that is done now: it was in flight, so not done before
pub record IsDone (w : Workload) (h : List Event) (k : ℕ) (id : ReqId) : Type 0 where
  pub request : Request
  pub before : List Event
  pub number : request.id ≡ id
  pub flying : slice_get (in_flight h) k ≡ Some request
  pub place : ℕ
  pub there : slice_get (unfinished h) place ≡ Some request
  pub added : adding h id ≡ Some (record { request = request; before = before })
  pub run : HasRun w h request

done_of : (w : Workload) (h : List Event) (k : ℕ) (r : Request) → IsAccepted w → IsLegal w h
    → slice_get (in_flight h) k ≡ Some r → IsDone w h k r.id
done_of w h k r accepted legal at =
    let f = known w h accepted legal
    in let own = f.waiting.flight_of k r at
    in let flying = counted_here (is_numbered r.id) (in_flight h) k r at (number_here r)
    in let some = true_from_ne_false (list_any (is_numbered r.id) (unfinished h))
    (λ none. omega (arith, flying, f.waiting.left_once r.id, count_none (is_numbered r.id) (unfinished h) none))
    in let found = find_some (is_numbered r.id) (unfinished h) some
    in let same =
    same_number (requests h) (unfinished h) found.place found.element r f.waiting.left_of found.there own found.passes
    in let add = adding_there w h r.id.0 r accepted legal own
    in record {
      request = r;
      before = add.0;
      number = refl;
      flying = at;
      place = found.place;
      there = found.there ∙ ap Some same;
      added = add.1;
      run = has_run w h r.id.0 r f.runs (journal_known w h accepted legal) own;
    }

pub is_done : (w : Workload) (h : List Event) (k : ℕ) (id : ReqId) → IsAccepted w → IsLegal w (h ▹ Done k id true)
    → IsDone w h k id
is_done w h k id accepted legal = by_row (came w h (maker (Done k id true)) (Done k id true) legal.0)
  where
    by_row : Came w h (Done k id true) → IsDone w h k id
    by_row (came_done k r at) = done_of w h k r accepted legal.1 at

pub writes_stay_apart : WritesStayApart
writes_stay_apart = record { kept = adding_kept; apart = writes_apart }
