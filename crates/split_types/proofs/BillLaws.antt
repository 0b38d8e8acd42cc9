-- What processes bear of a cost adds up to it, and the bills to the clock.
use Rattle.std.proofs.Common.{◌≡◌, ℕ, ◌+◌, ◌==◌, ◌<◌, ◌≤◌, List, [], ◌∷◌, ◌++◌, length, filter, sum_by, count_by, Bool, true, false, not, Some, None, cond, refl, arith, subst, sym, ◌∙◌, ap}
use Rattle.std.proofs.lemmas.Bool.{cond-false, eq-eqb, lt-ltb, ne_eqb}
use Rattle.std.proofs.lemmas.List.Sums.{sum_by-cons}
use Rattle.split_types.specs.declared.ids.ReqId.{ReqId}
use Rattle.split_types.specs.declared.request.Request.{Request}
use Rattle.split_types.specs.declared.workload.Workload.{Workload}
use Rattle.split_types.specs.declared.event.Event.{Event}
use Rattle.split_types.specs.declared.event.Event.TheVariants.{Done, Tick}
use Rattle.split_types.specs.History.{◌▹◌, adds}
use Rattle.split_types.specs.Hooks.{maker}
use Rattle.split_types.specs.Sets.{has}
use Rattle.split_types.specs.Blame.{tag}
use Rattle.split_types.specs.Share.{share_of, bill_of_parts}
use Rattle.split_types.specs.CostAndClock.{cost_of, now, ticks}
use Rattle.split_types.specs.Bills.{parts, bill, billed}
use Rattle.split_types.specs.Requests.{is_numbered, requests, in_flight, unfinished}
use Rattle.split_types.specs.Serving.{request_for}
use Rattle.split_types.specs.Workloads.{processes}
use Rattle.split_types.specs.Accepted.{IsAccepted}
use Rattle.split_types.specs.Legal.{IsLegal}
use Rattle.split_types.specs.LegalHistories.{IsBorneWhole, completions, BillsConserve, PartsAreTags}
use Rattle.split_types.specs.Proving.Came.{Came, read_request, journal_request}
use Rattle.split_types.specs.Proving.Came.Came.{came_enter, came_admit, came_changed, came_exists, came_no_slot, came_make, came_drop, came_no_file, came_too_big}
use Rattle.split_types.specs.Proving.Came.Came.{came_wrote, came_read, came_fault, came_no_space, came_put, came_get, came_zeros, came_evict, came_load}
use Rattle.split_types.specs.Proving.Came.Came.{came_flushed, came_synced, came_seal, came_journal, came_serve, came_skip, came_map, came_grow, came_add, came_send, came_done}
use Rattle.split_types.specs.Proving.Known.{Known, AreOf}
use Rattle.split_types.proofs.CameLaws.{came}
use Rattle.split_types.proofs.KnownLaws.{known, flight_of}
use Rattle.split_types.proofs.WaitingLaws.{none_numbered, count_others, count_gone, one_more, by_number}
use Rattle.split_types.proofs.Lists.{counted_here}
use Rattle.split_types.proofs.ShareLaws.{shares_over, shares_of_set, bill_of_one}
use Rattle.split_types.proofs.SumLaws.{sum_by_both, sum_by_none}
use Rattle.split_types.proofs.TagLaws.{tags_are_payers}

-- ---- parts
pub parts_are_tags : PartsAreTags
parts_are_tags w h id accepted = rw (lt-ltb w.version 3 (omega (arith, accepted.built.version))) refl

-- so a bill is a share
pub bill_is : (w : Workload) (h : List Event) (id p : ℕ) → IsAccepted w
    → bill w h id p ≡ share_of (cost_of h id) (tag h id) p
bill_is w h id p accepted =
    ap (λ l. bill_of_parts (cost_of h id) l p) (parts_are_tags w h id accepted)
    ∙ bill_of_one (cost_of h id) (tag h id) p

sum_same : (f g : ℕ → ℕ) (xs : List ℕ) → ((p : ℕ) → f p ≡ g p) → sum_by f xs ≡ sum_by g xs
sum_same f g [] same = refl
sum_same f g (x ∷ xs) same = omega (arith, sum_by-cons f x xs, sum_by-cons g x xs, same x, sum_same f g xs same)

pub costs_are_borne : (w : Workload) (h : List Event) (id cost : ℕ) → IsAccepted w → IsLegal w h → id < adds h
    → IsBorneWhole w h id cost
costs_are_borne w h id cost accepted legal below =
    let are = tags_are_payers w h id accepted legal below
    in let each : (p : ℕ) → bill_of_parts cost (parts w h id) p ≡ share_of cost (tag h id) p =
    λ p. ap (λ l. bill_of_parts cost l p) (parts_are_tags w h id accepted) ∙ bill_of_one cost (tag h id) p
    in record {
      by_tag =
          sum_same (bill_of_parts cost (parts w h id)) (share_of cost (tag h id)) (tag h id) each
          ∙ shares_of_set cost (tag h id) are.is_set are.some;
      by_all =
          sum_same (bill_of_parts cost (parts w h id)) (share_of cost (tag h id)) (processes w) each
          ∙ shares_over cost (tag h id) (length w.procs) are.is_set are.some are.least are.most;
    }

-- ---- bills
done_below : (w : Workload) (h : List Event) (k : ℕ) (id : ReqId) (ok : Bool) → Known w h → Came w h (Done k id ok)
    → id.0 < adds h
done_below w h k id ok f (came_done j r at) = (flight_of w h j r f at).below

bills_are_clock : (w : Workload) (h : List Event) → IsAccepted w → IsLegal w h
    → sum_by (billed w h) (processes w) + ticks h ≡ now h
bills_are_clock w [] accepted legal = omega (arith, sum_by_none (λ p. billed w [] p) (processes w) (λ p. refl))
bills_are_clock w (h ▹ Done k id ok) accepted legal =
    let below =
    done_below w h k id ok (known w h accepted legal.1) (came w h (maker (Done k id ok)) (Done k id ok) legal.0)
    in let borne = costs_are_borne w h id.0 (cost_of h id.0) accepted legal.1 below
    in omega (
      arith,
      sum_by_both (billed w h) (bill w h id.0) (processes w),
      borne.by_all,
      bills_are_clock w h accepted legal.1,
    )
bills_are_clock w (h ▹ Tick d) accepted legal = let none : None ≡ Some (Tick d) = legal.0 in absurd (cc)
bills_are_clock w (h ▹ e) accepted legal = bills_are_clock w h accepted legal.1

-- ---- completions
-- a request is done or unfinished, once at most
record AreDoneOnce (count : ℕ) (done : ℕ → ℕ) (left : List Request) : Type 0 where
  either : (id : ReqId) → done id.0 + count_by (is_numbered id) left ≤ 1
  none : (id : ℕ) → count ≤ id → done id ≡ 0

once_add : (all left : List Request) (count : ℕ) (done : ℕ → ℕ) (r : Request) → AreOf all left → count ≡ length all
    → r.id.0 ≡ count → AreDoneOnce count done left → AreDoneOnce (count + 1) done (left ++ r ∷ [])
once_add all left count done r of counted id o = record {
  either = by_number r.id (λ j. done j.0 + count_by (is_numbered j) (left ++ r ∷ []) ≤ 1)
      (λ j same. omega (
        arith,
        one_more j left r,
        at_most (r.id.0 == j.0),
        none_numbered all left j of (omega arith),
        o.none j.0 (omega arith),
      ))
      (λ j other. omega (
        arith,
        one_more j left r,
        no_more (r.id.0 == j.0) (ne_eqb r.id.0 j.0 (λ (e : r.id.0 ≡ j.0). other (sym e))),
        o.either j,
      ));
  none = λ j past. o.none j (omega arith);
}
  where
    at_most : (b : Bool) → cond b 1 0 ≤ 1
    at_most true = omega arith
    at_most false = omega arith

    no_more : (b : Bool) → b ≡ false → ◌≡◌ {A = ℕ} (cond b 1 0) 0
    no_more b is = rw is refl

once_done : (left : List Request) (count : ℕ) (done : ℕ → ℕ) (id : ReqId) → id.0 < count
    → 1 ≤ count_by (is_numbered id) left → AreDoneOnce count done left
    → AreDoneOnce count (λ j. cond (id.0 == j) (done j + 1) (done j)) (filter (λ q. not (is_numbered id q)) left)
once_done left count done id below there o = record {
  either =
      by_number id
      (λ j. cond (id.0 == j.0) (done j.0 + 1) (done j.0) + count_by (is_numbered j)
      (filter (λ q. not (is_numbered id q)) left) ≤ 1)
      (λ j same. omega (
        arith,
        count_gone id j left same,
        most (id.0 == j.0) (done j.0),
        subst (λ n. done n + count_by (is_numbered id) left ≤ 1) (sym same) (o.either id),
      ))
      (λ j other. omega (
        arith,
        count_others id j left other,
        cond-false (id.0 == j.0) (done j.0 + 1) (done j.0) (ne_eqb id.0 j.0 (λ (e : id.0 ≡ j.0). other (sym e))),
        o.either j,
      ));
  none =
      λ j past. cond-false (id.0 == j) (done j + 1) (done j) (ne_eqb id.0 j (λ (e : id.0 ≡ j). omega arith))
      ∙ o.none j past;
}
  where
    most : (b : Bool) (n : ℕ) → cond b (n + 1) n ≤ n + 1
    most true n = omega arith
    most false n = omega arith

once_next : (w : Workload) (h : List Event) (e : Event) → Known w h → Came w h e
    → AreDoneOnce (adds h) (completions h) (unfinished h)
    → AreDoneOnce (adds (h ▹ e)) (completions (h ▹ e)) (unfinished (h ▹ e))
once_next w h e f (came_enter p c has out) o = o
once_next w h e f (came_admit p c has in' out may) o = o
once_next w h e f (came_make p name slot admitted idle unused at) o = o
once_next w h e f (came_drop p name serial working idle) o = o
once_next w h e f (came_no_file p c admitted none) o = o
once_next w h e f (came_changed p c admitted names acted) o = o
once_next w h e f (came_exists p name admitted idle taken) o = o
once_next w h e f (came_no_slot p name admitted idle unused none) o = o
once_next w h e f (came_too_big p name off len fill s working big) o = o
once_next w h e f (came_no_space p name off len fill s piece here out none) o = o
once_next w h e f (came_wrote p name off len fill t working none) o = o
once_next w h e f (came_read p name off len t working none) o = o
once_next w h e f (came_fault p c t piece working left bad) o = o
once_next w h e f (came_put p name off len fill t piece here may) o = o
once_next w h e f (came_get p name off len t piece here held) o = o
once_next w h e f (came_zeros p name off len t piece here absent none) o = o
once_next w h e f (came_evict p c t piece here absent v k found) o = o
once_next w h e f (came_load p c t piece here absent block at) o =
    once_add (requests h) (unfinished h) (adds h) (completions h)
    (read_request (adds h) p t piece.page block) f.waiting.left_of f.numbered.counted refl o
once_next w h e f (came_serve run idle found) o = o
once_next w h e f (came_skip run at gone) o = o
once_next w h e f (came_map run free serves there none at) o = o
once_next w h e f (came_grow run block serves there at short) o = o
once_next w h e f (came_add run block at there placed known) o =
    once_add (requests h) (unfinished h) (adds h) (completions h)
    (request_for (adds h) run block) f.waiting.left_of f.numbered.counted refl o
once_next w h e f (came_flushed q name s working idle down) o = o
once_next w h e f (came_synced q name s working acted safe) o = o
once_next w h e f (came_seal may) o = o
once_next w h e f (came_journal kind first n j) o =
    once_add (requests h) (unfinished h) (adds h) (completions h)
    (journal_request (adds h) kind first n) f.waiting.left_of f.numbered.counted refl o
once_next w h e f (came_send r free picked) o = o
once_next w h e f (came_done k r at) o =
    once_done (unfinished h) (adds h) (completions h) r.id (flight_of w h k r f at).below
    (omega (
      arith,
      f.waiting.left_once r.id,
      counted_here (is_numbered r.id) (in_flight h) k r at (eq-eqb r.id.0 r.id.0 refl),
    )) o

done_once : (w : Workload) (h : List Event) → IsAccepted w → IsLegal w h
    → AreDoneOnce (adds h) (completions h) (unfinished h)
done_once w [] accepted legal = record { either = λ id. omega arith; none = λ id past. refl }
done_once w (h ▹ e) accepted legal =
    once_next w h e (known w h accepted legal.1) (came w h (maker e) e legal.0) (done_once w h accepted legal.1)

pub bills_conserve : BillsConserve
bills_conserve w h accepted legal = record {
  tags_are_payers = λ id below. tags_are_payers w h id accepted legal below;
  costs_are_borne = λ id cost below. costs_are_borne w h id cost accepted legal below;
  completes_once = λ id. omega (arith, (done_once w h accepted legal).either (record { 0 = id }));
  bills_are_clock = bills_are_clock w h accepted legal;
}
