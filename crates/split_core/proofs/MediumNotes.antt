-- What the disk and the bytes of the queued writes have to do with a history of one event more: one that neither adds,
-- sends nor ends a request, and an add.
use Rattle.std.proofs.Common.{◌≡◌, ℕ, List, [], ◌∷◌, ◌++◌, length, map, filter, Bool, true, false, cond, refl, sym, ap, ◌∙◌}
use Rattle.std.proofs.lemmas.List.{map-append, append-nil}
use Rattle.std.proofs.lemmas.List.Elements.{filter-append}
use Rattle.split_types.specs.declared.ids.ReqId.{ReqId}
use Rattle.split_types.specs.declared.actor.Actor.{Actor}
use Rattle.split_types.specs.declared.request.Request.{Request}
use Rattle.split_types.specs.declared.workload.Workload.{Workload}
use Rattle.split_types.specs.declared.event.Event.{Event}
use Rattle.split_types.specs.declared.event.Event.TheVariants.{Add, Send, Done}
use Rattle.split_types.specs.History.{◌▹◌}
use Rattle.split_types.specs.Requests.{is_write, queued, in_flight}
use Rattle.split_types.specs.Accepted.{IsAccepted}
use Rattle.split_types.specs.Legal.{IsLegal}
use Rattle.split_types.proofs.Shared.{filter_there, known, adding_new}
use Rattle.sim_disk.specs.Bytes.{block_at}
use Rattle.split_core.specs.declared.note.medium.Medium.{Medium}
use Rattle.split_core.specs.Takings.{all_carried}
use Rattle.split_core.specs.Medium.{carried_by, cargo, flying, MediumStands}
use Rattle.split_core.proofs.MediumNotesLists.{map_within}
use Rattle.split_core.proofs.MediumNotesCargo.{cargo_kept, flying_kept}

-- ---- another event
pub medium_kept : (w : Workload) (m : Medium) (h : List Event) (e : Event)
    → ((by : Actor) (r : Request) → e ≡ Add by r → ⊥) → ((id : ReqId) (cost : ℕ) → e ≡ Send id cost → ⊥)
    → ((k : ℕ) (id : ReqId) (ok : Bool) → e ≡ Done k id ok → ⊥) → MediumStands w m h → MediumStands w m (h ▹ e)
medium_kept w m h (Add by r) no_add no_send no_done stands = absurd (no_add by r refl)
medium_kept w m h (Send id cost) no_add no_send no_done stands = absurd (no_send id cost refl)
medium_kept w m h (Done k id ok) no_add no_send no_done stands = absurd (no_done k id ok refl)
medium_kept w m h e no_add no_send no_done stands =
    record { size = stands.size; blocks = stands.blocks; writes = stands.writes; carried = stands.carried }

-- ---- an add
-- what the queued writes carry, and the writes in flight, are as before
queued_kept : (w : Workload) (h : List Event) (e : Event) → IsAccepted w → IsLegal w (h ▹ e)
    → map (λ r. cargo w (h ▹ e) r.id) (filter is_write (queued h))
    ≡ map (λ r. cargo w h r.id) (filter is_write (queued h))
queued_kept w h e accepted legal =
    map_within (λ r. cargo w (h ▹ e) r.id) (λ r. cargo w h r.id) (filter is_write (queued h))
    (λ i r at. (let there = filter_there is_write (queued h) i r at
    in cargo_kept w h e r accepted legal ((known w h accepted legal.1).waiting.queue_of there.0 r there.1)))

flight_kept : (w : Workload) (h : List Event) (e : Event) → IsAccepted w → IsLegal w (h ▹ e)
    → map (flying w (h ▹ e)) (filter is_write (in_flight h)) ≡ map (flying w h) (filter is_write (in_flight h))
flight_kept w h e accepted legal =
    map_within (flying w (h ▹ e)) (flying w h) (filter is_write (in_flight h))
    (λ i r at. (let there = filter_there is_write (in_flight h) i r at
    in flying_kept w h e r accepted legal ((known w h accepted legal.1).waiting.flight_of there.0 r there.1)))

-- one request more is kept if it passes
pub filter_push_yes : {X : Type 0} (p : X → Bool) (xs : List X) (x : X) → p x ≡ true
    → filter p (xs ++ x ∷ []) ≡ filter p xs ++ x ∷ []
filter_push_yes p xs x is =
    filter-append p xs (x ∷ []) ∙ ap (λ b. filter p xs ++ cond b (x ∷ []) []) is

pub filter_push_no : {X : Type 0} (p : X → Bool) (xs : List X) (x : X) → p x ≡ false
    → filter p (xs ++ x ∷ []) ≡ filter p xs
filter_push_no p xs x none =
    filter-append p xs (x ∷ []) ∙ ap (λ b. filter p xs ++ cond b (x ∷ []) []) none ∙ append-nil (filter p xs)

pub medium_add_read : (w : Workload) (h : List Event) (by : Actor) (r : Request) (m : Medium) → IsAccepted w
    → IsLegal w (h ▹ Add by r) → MediumStands w m h → is_write r ≡ false → MediumStands w m (h ▹ Add by r)
medium_add_read w h by r m accepted legal stands none = record {
  size = stands.size;
  blocks = stands.blocks;
  writes = stands.writes ∙ sym (flight_kept w h (Add by r) accepted legal);
  carried =
      stands.carried ∙ sym (queued_kept w h (Add by r) accepted legal)
      ∙ ap (map (λ q. cargo w (h ▹ Add by r) q.id)) (sym (filter_push_no is_write (queued h) r none));
}

pub medium_add_write : (w : Workload) (h : List Event) (by : Actor) (r : Request) (m new : Medium) (bytes : List ℕ)
    → IsAccepted w → IsLegal w (h ▹ Add by r) → MediumStands w m h → is_write r ≡ true → bytes ≡ all_carried w h r
    → new.disk ≡ m.disk → new.carried.items ≡ m.carried.items ++ bytes ∷ []
    → MediumStands w new (h ▹ Add by r)
medium_add_write w h by r m new bytes accepted legal stands writing is same pushed = record {
  size = ap (λ d. length d.blocks) same ∙ stands.size;
  blocks = λ x below. ap (λ d. block_at d.blocks x) same ∙ stands.blocks x below;
  writes = ap (λ d. d.writes) same ∙ stands.writes ∙ sym (flight_kept w h (Add by r) accepted legal);
  carried =
      pushed ∙ ap (λ l. l ++ bytes ∷ []) (stands.carried ∙ sym (queued_kept w h (Add by r) accepted legal))
      ∙ ap (λ b. map cargo_after (filter is_write (queued h)) ++ b ∷ []) own
      ∙ sym (map-append cargo_after (filter is_write (queued h)) (r ∷ []))
      ∙ ap (map cargo_after) (sym (filter_push_yes is_write (queued h) r writing));
}
  where
    cargo_after : Request → List ℕ
    cargo_after q = cargo w (h ▹ Add by r) q.id

    own : bytes ≡ cargo w (h ▹ Add by r) r.id
    own = is ∙ sym (ap (carried_by w) (adding_new h by r))
