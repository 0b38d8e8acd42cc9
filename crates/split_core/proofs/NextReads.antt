-- What comes next is read from the parts: what the dispatcher sends.
use Rattle.std.proofs.Common.{◌≡◌, ℕ, ◌+◌, ◌^◌, ◌<◌, ◌≤◌, List, length, slice_get, Option, Some, None, refl, ap, sym}
use Rattle.std.proofs.Common.{◌∙◌, arith}
use Rattle.std.proofs.Common.{nat_lt, not, option_map, subst}
use Rattle.std.proofs.lemmas.Bool.{cond-false, lt-ltb}
use Rattle.std.proofs.lemmas.Option.{slice_get_within, same_Some}
use Rattle.split_types.specs.declared.ids.ReqId.{ReqId}
use Rattle.split_types.specs.declared.request.Request.{Request}
use Rattle.split_types.specs.declared.workload.Workload.{Workload}
use Rattle.split_types.specs.declared.event.Event.{Event}
use Rattle.split_types.specs.declared.event.Event.TheVariants.{Send}
use Rattle.split_types.specs.History.{adds}
use Rattle.split_types.specs.Requests.{requests, in_flight}
use Rattle.split_types.specs.CostAndClock.{head, cost_at}
use Rattle.split_types.specs.Schedulers.{pick}
use Rattle.split_types.specs.Next.{send_of, next_of_dispatcher}
use Rattle.split_types.specs.Accepted.{IsAccepted}
use Rattle.split_types.specs.Legal.{IsLegal}
use Rattle.split_types.proofs.Shared.{known, maps_known, picked_there, has_run, ends_within, journal_known, short}
use Rattle.split_types.proofs.Shared.{adds_most}

-- ---- requests
pub adds_small : (w : Workload) (h : List Event) → IsAccepted w → IsLegal w h → adds h < 2 ^ 31
adds_small w h accepted legal = omega (arith, adds_most h, short w h accepted legal)

-- the request that is sent next
pub record IsPicked (w : Workload) (h : List Event) (r : Request) : Type 0 where
  pub picked : pick w h ≡ Some r
  pub at : slice_get (requests h) r.id.0 ≡ Some r
  pub added : r.id.0 < adds h
  pub head_most : head h ≤ 32768
  pub end_most : r.first + r.n ≤ 32768

is_picked : (w : Workload) (h : List Event) (r : Request) → IsAccepted w → IsLegal w h → pick w h ≡ Some r
    → IsPicked w h r
is_picked w h r accepted legal picked =
    let f = known w h accepted legal in
    let there = picked_there w h r accepted picked in
    let at = f.waiting.queue_of there.0 r there.1 in
    record {
      picked = picked;
      at = at;
      added = omega (arith, f.numbered.counted, slice_get_within (requests h) r.id.0 r at);
      head_most = f.small.head_most;
      end_most =
          ends_within w h r accepted (maps_known.maps w h accepted legal)
          (has_run w h r.id.0 r f.runs (journal_known w h accepted legal) at);
    }

-- by its number
some_numbered : (o : Option Request) (id : ReqId) → Some id ≡ option_map (λ r. r.id) o
    → (r : Request) × (o ≡ Some r) × (r.id ≡ id)
some_numbered None id is = absurd (cc)
some_numbered (Some r) id is = (r, refl, sym (same_Some id r.id is))

pub picked_added : (w : Workload) (h : List Event) (id : ReqId) → IsAccepted w → IsLegal w h
    → Some id ≡ option_map (λ r. r.id) (pick w h) → id.0 < adds h
picked_added w h id accepted legal is =
    let r = some_numbered (pick w h) id is in
    omega (arith, (is_picked w h r.0 accepted legal r.1).added, ap (λ x. x.0) r.2)

pub picked_is : (w : Workload) (h : List Event) (id : ReqId) (r : Request) → IsAccepted w → IsLegal w h
    → Some id ≡ option_map (λ r. r.id) (pick w h) → slice_get (requests h) id.0 ≡ Some r
    → IsPicked w h r × (r.id ≡ id)
picked_is w h id r accepted legal is at =
    let q = some_numbered (pick w h) id is in
    let own = is_picked w h q.0 accepted legal q.1 in
    let same : q.0 ≡ r = same_Some q.0 r (sym own.at ∙ ap (λ x. slice_get (requests h) x.0) q.2 ∙ at) in
    (subst (IsPicked w h) same own, ap (λ x. x.id) (sym same) ∙ q.2)

-- so the dispatcher sends it, where fewer than the depth are in flight
dispatches : (w : Workload) (h : List Event) → length (in_flight h) < w.depth
    → next_of_dispatcher w h ≡ (elim (pick w h) [ None ↦ None | Some r ↦ Some (send_of h r) ])
dispatches w h free =
    cond-false (not (nat_lt (length (in_flight h)) w.depth)) None
    (elim (pick w h) [ None ↦ None | Some q ↦ Some (send_of h q) ])
    (ap not (lt-ltb (length (in_flight h)) w.depth free))

pub sends_picked : (w : Workload) (h : List Event) (id : ReqId) (r : Request) (cost : ℕ) → IsPicked w h r → r.id ≡ id
    → length (in_flight h) < w.depth → cost ≡ cost_at (head h) r.first r.n
    → Some (Send id cost) ≡ next_of_dispatcher w h
sends_picked w h id r cost is own free costs =
    ap (λ n. Some (Send id n)) costs ∙ ap (λ x. Some (Send x (cost_at (head h) r.first r.n))) (sym own)
    ∙ ap (λ o. elim o [ None ↦ None | Some q ↦ Some (send_of h q) ]) (sym is.picked) ∙ sym (dispatches w h free)
