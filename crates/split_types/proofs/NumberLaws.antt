-- Requests by their numbers, and those that are outstanding.
use Rattle.std.proofs.Common.{◌≡◌, ℕ, ◌≤◌, List, [], ◌∷◌, ◌++◌, length, slice_get, filter, true, false, not, Some, refl, arith, inl, inr, ◌∙◌, ap, count_by, nat_lt}
use Rattle.std.specs.List.{list_any}
use Rattle.std.proofs.lemmas.Bool.{cases_Bool, both_ways, eq-eqb, ne_eqb, lt-ltb}
use Rattle.std.proofs.lemmas.Option.{slice_get_within}
use Rattle.split_types.specs.declared.ids.ReqId.{ReqId}
use Rattle.split_types.specs.declared.buf.Buf.{Buf}
use Rattle.split_types.specs.declared.actor.Actor.{Actor}
use Rattle.split_types.specs.declared.actor.Actor.TheVariants.{Dn}
use Rattle.split_types.specs.declared.request.Request.{Request}
use Rattle.split_types.specs.declared.workload.Workload.{Workload}
use Rattle.split_types.specs.declared.event.Event.{Event}
use Rattle.split_types.specs.declared.event.Event.TheVariants.{Add, Done}
use Rattle.split_types.specs.History.{◌▹◌}
use Rattle.split_types.specs.Requests.{is_numbered, requests, in_flight, unfinished}
use Rattle.split_types.specs.Reads.{reads, outstanding, request_numbered, is_read_of}
use Rattle.split_types.specs.Accepted.{IsAccepted}
use Rattle.split_types.specs.Legal.{IsLegal}
use Rattle.split_types.specs.Proving.Came.{Came}
use Rattle.split_types.specs.Proving.Known.{Known}
use Rattle.split_types.proofs.HeldLaws.{reads_some}
use Rattle.split_types.proofs.CameLaws.{came}
use Rattle.split_types.proofs.KnownLaws.{known}
use Rattle.split_types.proofs.Lists.{slice_get-push, slice_get-push_new, find_some, list_any_here, counted_here, any_counted}
use Rattle.split_types.proofs.KeptLists.{case_true, case_false}
use Rattle.split_types.proofs.WaitingLaws.{number_here, same_number}

-- no request of a legal history is done badly, so those that are outstanding are those that weren't done well
never_badly : (w : Workload) (h : List Event) (k : ℕ) (id : ReqId) → Came w h (Done k id false) → ⊥
never_badly w h k id row = elim row [ ]

pub all_done_well : (w : Workload) (h : List Event) → IsLegal w h → outstanding h ≡ unfinished h
all_done_well w [] legal = refl
all_done_well w (h ▹ Add by r) legal = ap (λ l. l ++ r ∷ []) (all_done_well w h legal.1)
all_done_well w (h ▹ Done k id true) legal = ap (filter (λ r. not (is_numbered id r))) (all_done_well w h legal.1)
all_done_well w (h ▹ Done k id false) legal =
    absurd (never_badly w h k id (came w h (Dn k) (Done k id false) legal.0))
all_done_well w (h ▹ e) legal = all_done_well w h legal.1

-- the request of a number is the one that stands at that place among all of them
abbrev AreAtNumbers : List Event → Type 0
AreAtNumbers h = (id : ReqId) (r : Request) → slice_get (requests h) id.0 ≡ Some r → request_numbered h id ≡ Some r

numbers_add : (h : List Event) (by : Actor) (r : Request) → r.id.0 ≡ length (requests h) → AreAtNumbers h
    → AreAtNumbers (h ▹ Add by r)
numbers_add h by r new at id q there = elim (slice_get-push (requests h) r id.0 q there) [
  | inl old ↦
      case_false (is_numbered id r) (Some r) (request_numbered h id)
      (ne_eqb r.id.0 id.0 (λ (e : r.id.0 ≡ id.0). omega (arith, new, slice_get_within (requests h) id.0 q old)))
      ∙ at id q old
  | inr this ↦
      case_true (is_numbered id r) (Some r) (request_numbered h id) (eq-eqb r.id.0 id.0 (omega (arith, new, this.0)))
      ∙ ap Some this.1
]

all_at_numbers : (w : Workload) (h : List Event) → IsAccepted w → IsLegal w h → AreAtNumbers h
all_at_numbers w [] accepted legal = λ id r at. absurd (cc)
all_at_numbers w (h ▹ Add by r) accepted legal =
    numbers_add h by r
    ((known w (h ▹ Add by r) accepted legal).numbered.number_is (length (requests h)) r
    (slice_get-push_new (requests h) r)) (all_at_numbers w h accepted legal.1)
all_at_numbers w (h ▹ e) accepted legal = all_at_numbers w h accepted legal.1

-- what is known of the numbers of requests
pub record Numbers (h : List Event) : Type 0 where
  pub left_is : outstanding h ≡ unfinished h
  pub at_number : AreAtNumbers h

pub numbers : (w : Workload) (h : List Event) → IsAccepted w → IsLegal w h → Numbers h
numbers w h accepted legal =
    record { left_is = all_done_well w h legal; at_number = all_at_numbers w h accepted legal }

-- a request in flight stands among those that weren't done well
pub flying_there : (w : Workload) (h : List Event) (k : ℕ) (r : Request) → Known w h
    → slice_get (in_flight h) k ≡ Some r → (j : ℕ) × (slice_get (unfinished h) j ≡ Some r)
flying_there w h k r f at =
    let a = f.waiting
    in let flying = counted_here (is_numbered r.id) (in_flight h) k r at (number_here r)
    in let some : list_any (is_numbered r.id) (unfinished h) ≡ true =
    any_counted (is_numbered r.id) (unfinished h) ∙ below (omega (arith, a.left_once r.id, flying))
    in let found = find_some (is_numbered r.id) (unfinished h) some
    in let same : found.element ≡ r =
    same_number (requests h) (unfinished h) found.place found.element r a.left_of found.there (a.flight_of k r at)
    found.passes
    in (found.place, found.there ∙ ap Some same)
  where
    below : 1 ≤ count_by (is_numbered r.id) (unfinished h)
        → nat_lt 0 (count_by (is_numbered r.id) (unfinished h)) ≡ true
    below some = lt-ltb 0 (count_by (is_numbered r.id) (unfinished h)) (omega (arith, some))

-- where no outstanding request reads a page, none in flight does
pub idle_flight : (w : Workload) (h : List Event) (k : ℕ) (r : Request) (b : Buf) → Known w h → Numbers h
    → slice_get (in_flight h) k ≡ Some r → list_any (λ q. reads q b) (outstanding h) ≡ false
    → is_read_of h r.id b ≡ false
idle_flight w h k r b f n at idle =
    let there = flying_there w h k r f at
    in let out : slice_get (outstanding h) there.0 ≡ Some r =
    ap (λ l. slice_get l there.0) n.left_is ∙ there.1
    in let is : is_read_of h r.id b ≡ reads r b =
    ap (λ o. reads_some o b) (n.at_number r.id r (f.waiting.flight_of k r at))
    in is ∙ elim (cases_Bool (reads r b)) [
      | inr none ↦ none
      | inl reads_it ↦
          absurd (both_ways (list_any (λ q. reads q b) (outstanding h)) idle
          (list_any_here (λ q. reads q b) (outstanding h) there.0 r out reads_it))
    ]
