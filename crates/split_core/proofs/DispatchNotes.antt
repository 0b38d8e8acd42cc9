-- What is queued and in flight after one event more.
use Rattle.std.proofs.Common.{◌≡◌, ℕ, suc, ◌<◌, List, [], ◌∷◌, ◌++◌, length, map, filter, slice_get, take}
use Rattle.std.proofs.Common.{drop, Bool, not, Some, refl, ap, sym, ◌∙◌, arith}
use Rattle.std.specs.Prelude.{Any, remove}
use Rattle.std.proofs.lemmas.Option.{slice_get_within, get_or_from_slice_get}
use Rattle.std.proofs.lemmas.List.{map-append, length-map, drop-map}
use Rattle.std.specs.List.{take-map}
use Rattle.split_types.specs.declared.ids.ReqId.{ReqId}
use Rattle.split_types.specs.declared.request.Request.{Request}
use Rattle.split_types.specs.declared.workload.Workload.{Workload}
use Rattle.split_types.specs.declared.event.Event.{Event}
use Rattle.split_types.specs.declared.event.Event.TheVariants.{Send, Done}
use Rattle.split_types.specs.History.{◌▹◌}
use Rattle.split_types.specs.Requests.{is_numbered, queued, in_flight}
use Rattle.split_core.specs.declared.note.dispatch.Dispatch.{Dispatch}
use Rattle.split_core.specs.Fits.{SendFits, DoneFits}
use Rattle.split_core.specs.Dispatch.{OrderedStands, DispatchStands}

-- the requests alone of some with their costs
abbrev alone : List (Request × ℕ) → List Request
alone rs = map (λ x. x.0) rs

alone_at : (cost : ℕ) (rs : List Request) → alone (map {B = Request × ℕ} (λ r. (r, cost)) rs) ≡ rs
alone_at cost [] = refl
alone_at cost (r ∷ rs) = ap (λ l. r ∷ l) (alone_at cost rs)

alone_removed : (rs : List (Request × ℕ)) (k : ℕ) → alone (remove rs k) ≡ remove (alone rs) k
alone_removed rs k =
    map-append (λ (x : Request × ℕ). x.0) (take k rs) (drop (suc k) rs)
    ∙ ap (λ l. l ++ alone (drop (suc k) rs)) (sym (take-map (λ (x : Request × ℕ). x.0) k rs))
    ∙ ap (λ l. take k (alone rs) ++ l) (sym (drop-map (λ (x : Request × ℕ). x.0) (suc k) rs))

-- the request that is sent is queued
pub sent_queued : (w : Workload) (h : List Event) (id : ReqId) (cost : ℕ) (rs : List Request) → SendFits w h id cost
    → rs ≡ queued h → Any (λ r. r.id ≡ id) rs
sent_queued w h id cost rs fits are =
    let at : slice_get rs fits.place ≡ Some fits.request = ap (λ l. slice_get l fits.place) are ∙ fits.queued_at
    in (
      fits.place,
      fits.request,
      slice_get_within rs fits.place fits.request at,
      get_or_from_slice_get rs fits.place fits.request fits.request at,
      fits.numbered,
    )

pub dispatch_send : (h : List Event) (id : ReqId) (cost : ℕ) (d new : Dispatch) → DispatchStands d h
    → new.queue.queued ≡ filter (λ r. not (is_numbered id r)) d.queue.queued
    → new.queue.in_flight
    ≡ d.queue.in_flight ++ map {B = Request × ℕ} (λ r. (r, cost)) (filter (is_numbered id) d.queue.queued)
    → new.queue.next_id ≡ d.queue.next_id → OrderedStands new.ordered (h ▹ Send id cost)
    → DispatchStands new (h ▹ Send id cost)
dispatch_send h id cost d new stands queue flight next ordered =
    let went : List (Request × ℕ) = map {B = Request × ℕ} (λ r. (r, cost)) (filter (is_numbered id) d.queue.queued)
    in record {
      queued_are = queue ∙ ap (filter (λ r. not (is_numbered id r))) stands.queued_are;
      sent_are =
          ap alone flight ∙ map-append (λ (x : Request × ℕ). x.0) d.queue.in_flight went
          ∙ ap (λ l. l ++ alone went) stands.sent_are
          ∙ ap (λ l. in_flight h ++ l) (alone_at cost (filter (is_numbered id) d.queue.queued))
          ∙ ap (λ l. in_flight h ++ filter (is_numbered id) l) stands.queued_are;
      numbers = omega (arith, next, stands.numbers);
      ordered = ordered;
    }

-- the request that is done is in flight
pub done_flies : (w : Workload) (h : List Event) (k : ℕ) (id : ReqId) (ok : Bool) (d : Dispatch)
    → DoneFits w h k id ok → DispatchStands d h → k < length d.queue.in_flight
done_flies w h k id ok d fits stands =
    omega (
      arith,
      fits.within,
      ap length stands.sent_are,
      length-map d.queue.in_flight (λ (x : Request × ℕ). x.0),
    )

pub dispatch_done : (w : Workload) (h : List Event) (k : ℕ) (id : ReqId) (ok : Bool) (d new : Dispatch)
    → DoneFits w h k id ok → DispatchStands d h → new.queue.in_flight ≡ remove d.queue.in_flight k
    → new.queue.queued ≡ d.queue.queued → new.queue.next_id ≡ d.queue.next_id
    → OrderedStands new.ordered (h ▹ Done k id ok) → DispatchStands new (h ▹ Done k id ok)
dispatch_done w h k id ok d new fits stands flight queue next ordered = record {
  queued_are = queue ∙ stands.queued_are;
  sent_are =
      ap alone flight ∙ alone_removed d.queue.in_flight k ∙ ap (λ l. remove l k) stands.sent_are ∙ fits.rest;
  numbers = omega (arith, next, stands.numbers);
  ordered = ordered;
}
