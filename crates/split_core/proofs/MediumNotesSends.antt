-- A send: one of the queued requests leaves; if it writes it is the first of those that write, so its bytes are those at
-- the front, and start on the disk.
use Rattle.std.proofs.Common.{◌≡◌, ℕ, zero, suc, ◌+◌, ◌*◌, ◌/◌, ◌%◌, ◌≤◌, List, [], ◌∷◌, ◌++◌, length, map, filter, find, slice_get, drop, count_by, cond, Bool, true, false, not, ◌||◌, Option, Some, None, refl, arith, subst, sym, inl, inr, ap, ◌∙◌}
use Rattle.std.specs.Prelude.{All, remove}
use Rattle.std.specs.List.{list_any}
use Rattle.std.proofs.lemmas.Bool.{cond-false}
use Rattle.std.proofs.lemmas.List.{map-append}
use Rattle.std.proofs.lemmas.Option.{same_Some}
use Rattle.split_types.specs.declared.ids.ReqId.{ReqId}
use Rattle.split_types.specs.declared.request.Request.{Request}
use Rattle.split_types.specs.declared.workload.Workload.{Workload}
use Rattle.split_types.specs.declared.event.Event.{Event}
use Rattle.split_types.specs.declared.event.Event.TheVariants.{Send}
use Rattle.split_types.specs.History.{◌▹◌}
use Rattle.split_types.specs.Requests.{is_numbered, is_write, requests, queued, in_flight}
use Rattle.split_types.specs.Accepted.{IsAccepted}
use Rattle.split_types.specs.Legal.{IsLegal}
use Rattle.split_types.specs.Proving.Known.{HasRun}
use Rattle.split_types.proofs.Shared.{filter_there, filter_one, map_there, find_none, counted_here, none_counted, none_in_filter, count_filter_less, number_here, run_within, has_run, maps_known, known, journal_known}
use Rattle.sim_disk.specs.Medium.{InFlight, is_of, write_of, AreApart}
use Rattle.sim_disk.specs.Bytes.{block_at}
use Rattle.split_core.specs.declared.note.medium.Medium.{Medium}
use Rattle.split_core.specs.Fits.{SendFits}
use Rattle.split_core.specs.Medium.{cargo, flying, MediumStands}
use Rattle.split_core.proofs.MediumNotesLists.{filter_swap, all_from}
use Rattle.split_core.proofs.MediumNotesCargo.{cargo_of, requests_apart}
use Rattle.split_core.proofs.MediumNotes.{filter_push_yes, filter_push_no}

-- ---- the request that is sent
-- the others that write are as before where it doesn't
writes_stay : {X : Type 0} (p : X → Bool) (xs : List X) (k : ℕ) (x : X) → slice_get xs k ≡ Some x → p x ≡ false
    → filter p xs ≡ filter p (remove xs k)
writes_stay p [] k x at none = absurd (cc)
writes_stay p (y ∷ ys) zero x at none =
    let out : p y ≡ false = ap p (same_Some y x at) ∙ none in cond-false (p y) (y ∷ filter p ys) (filter p ys) out
writes_stay p (y ∷ ys) (suc k) x at none = by_test (p y) (writes_stay p ys k x at none)
  where
    by_test : (b : Bool) → filter p ys ≡ filter p (remove ys k)
        → cond b (y ∷ filter p ys) (filter p ys)
        ≡ cond b (y ∷ filter p (remove ys k)) (filter p (remove ys k))
    by_test true rest = ap (λ l. y ∷ l) rest
    by_test false rest = rest

-- the first that passes stands before all others that do
found_first : {X : Type 0} (p : X → Bool) (xs : List X) (x : X) → find p xs ≡ Some x
    → filter p xs ≡ x ∷ drop 1 (filter p xs)
found_first p [] x found = absurd (cc)
found_first p (y ∷ ys) x found = by_test (p y) found (found_first p ys x)
  where
    by_test : (b : Bool) → cond b (Some y) (find p ys) ≡ Some x
        → (find p ys ≡ Some x → filter p ys ≡ x ∷ drop 1 (filter p ys))
        → cond b (y ∷ filter p ys) (filter p ys) ≡ x ∷ drop 1 (cond b (y ∷ filter p ys) (filter p ys))
    by_test true here rest = ap (λ z. z ∷ filter p ys) (same_Some y x here)
    by_test false later rest = rest later

rest_removed : {X : Type 0} (xs : List X) → remove xs 0 ≡ drop 1 xs
rest_removed [] = refl
rest_removed (x ∷ xs) = refl

-- a write that is sent stands before the writes that are queued then
writes_first : (w : Workload) (h : List Event) (id : ReqId) (cost : ℕ) → IsAccepted w → IsLegal w h
    → (fits : SendFits w h id cost) → is_write fits.request ≡ true
    → filter is_write (queued h) ≡ fits.request ∷ filter is_write (queued (h ▹ Send id cost))
writes_first w h id cost accepted legal fits writing =
    first ∙ ap (λ l. r ∷ l) (sym (rest_removed writes) ∙ sym one.1
    ∙ filter_swap (λ q. not (is_numbered r.id q)) is_write (queued h)
    ∙ ap (λ n. filter is_write (queued (h ▹ Send n cost))) fits.numbered)
  where
    r : Request
    r = fits.request

    writes : List Request
    writes = filter is_write (queued h)

    first : writes ≡ r ∷ drop 1 writes
    first = found_first is_write (queued h) r (fits.in_turn writing)

    few : count_by (is_numbered r.id) writes ≤ 1
    few =
        omega (
          arith,
          (known w h accepted legal).waiting.once r.id,
          count_filter_less (is_numbered r.id) is_write (queued h),
        )

    one : (filter (is_numbered r.id) writes ≡ r ∷ [])
        × (filter (λ q. not (is_numbered r.id q)) writes ≡ remove writes 0)
    one = filter_one (is_numbered r.id) writes 0 r (ap (λ l. slice_get l 0) first) (number_here r) few

-- ---- a read is sent
pub medium_send_read : (w : Workload) (h : List Event) (id : ReqId) (cost : ℕ) (m : Medium)
    → (fits : SendFits w h id cost) → MediumStands w m h → is_write fits.request ≡ false
    → MediumStands w m (h ▹ Send id cost)
medium_send_read w h id cost m fits stands none = record {
  size = stands.size;
  blocks = stands.blocks;
  writes =
      stands.writes
      ∙ ap (map (flying w h)) (sym (filter_push_no is_write (in_flight h) fits.request none))
      ∙ ap (λ l. map (flying w h) (filter is_write l)) (sym fits.flies);
  carried =
      stands.carried
      ∙ ap (map (λ q. cargo w h q.id)) (writes_stay is_write (queued h) fits.place fits.request fits.queued_at none)
      ∙ ap (λ l. map (λ q. cargo w h q.id) (filter is_write l)) fits.rest;
}

-- ---- a write is sent
-- the bytes at the front are those of the request that is sent, and the others are those of the others
pub front_of : (w : Workload) (h : List Event) (id : ReqId) (cost : ℕ) (m : Medium) → IsAccepted w → IsLegal w h
    → (fits : SendFits w h id cost) → MediumStands w m h → is_write fits.request ≡ true
    → m.carried.items
    ≡ cargo w h fits.request.id ∷ map (λ q. cargo w h q.id) (filter is_write (queued (h ▹ Send id cost)))
front_of w h id cost m accepted legal fits stands writing =
    stands.carried
    ∙ ap (map (λ q. cargo w h q.id)) (writes_first w h id cost accepted legal fits writing)

-- what the disk asks for where a write starts
pub record MayStart (blocks : List (List ℕ)) (flight : List InFlight) (v : InFlight) : Type 0 where
  pub whole : length v.bytes % 4096 ≡ 0
  pub within : v.first + length v.bytes / 4096 ≤ length blocks
  pub apart : All (AreApart v) flight
  pub other : write_of flight v.id ≡ None

-- no write in flight is that of a request that is queued
none_of : (w : Workload) (h : List Event) (k : ℕ) (r : Request) → IsAccepted w → IsLegal w h
    → slice_get (queued h) k ≡ Some r → write_of (map (flying w h) (filter is_write (in_flight h))) r.id ≡ None
none_of w h k r accepted legal at =
    find_none (is_of r.id) (map (flying w h) (filter is_write (in_flight h)))
    (mapped (filter is_write (in_flight h))
    (none_in_filter (is_numbered r.id) is_write (in_flight h)
    (none_counted (is_numbered r.id) (in_flight h)
    (omega (
      arith,
      (known w h accepted legal).waiting.once r.id,
      counted_here (is_numbered r.id) (queued h) k r at (number_here r),
    )))))
  where
    mapped : (flight : List Request) → list_any (is_numbered r.id) flight ≡ false
        → list_any (is_of r.id) (map (flying w h) flight) ≡ false
    mapped [] none = refl
    mapped (q ∷ flight) none = parts (is_numbered r.id q) (list_any (is_numbered r.id) flight) none (mapped flight)
      where
        parts : (a b : Bool) → (a || b) ≡ false
            → (b ≡ false → list_any (is_of r.id) (map (flying w h) flight) ≡ false)
            → (a || list_any (is_of r.id) (map (flying w h) flight)) ≡ false
        parts true b none rest = absurd (cc)
        parts false b none rest = rest none

-- a request ends within the disk
within_disk : (w : Workload) (h : List Event) (r : Request) → IsAccepted w → IsLegal w h → HasRun w h r
    → r.first + r.n ≤ w.device
within_disk w h r accepted legal (inl run) = run_within w h r accepted (maps_known.maps w h accepted legal) run
within_disk w h r accepted legal (inr low) = omega (arith, low.within, accepted.workload.presets.fit)

pub may_start : (w : Workload) (h : List Event) (id : ReqId) (cost : ℕ) (m : Medium) (bytes : List ℕ) → IsAccepted w
    → IsLegal w h → (fits : SendFits w h id cost) → MediumStands w m h → is_write fits.request ≡ true
    → bytes ≡ cargo w h fits.request.id
    → MayStart m.disk.blocks m.disk.writes (record { id = id; first = fits.request.first; bytes = bytes })
may_start w h id cost m bytes accepted legal fits stands writing is =
    let r = fits.request
    in let f = known w h accepted legal
    in let a = f.waiting
    in let own : slice_get (requests h) r.id.0 ≡ Some r = a.queue_of fits.place r fits.queued_at
    in let c = cargo_of w h r accepted legal own writing
    in let long : length bytes ≡ 4096 * r.n = ap length is ∙ c.long
    in let end =
    within_disk w h r accepted legal (has_run w h r.id.0 r f.runs (journal_known w h accepted legal) own)
    in record {
      whole = omega (arith, long);
      within = omega (arith, long, end, stands.size);
      apart =
          subst (All (AreApart (record { id = id; first = r.first; bytes = bytes }))) (sym stands.writes)
          (all_from (AreApart (record { id = id; first = r.first; bytes = bytes }))
          (map (flying w h) (filter is_write (in_flight h)))
          (λ i v at. (let from = map_there (flying w h) (filter is_write (in_flight h)) i v at
          in let there = filter_there is_write (in_flight h) i from.0 from.1
          in let q = from.0
          in let own_other = a.flight_of there.0 q there.1
          in let other = cargo_of w h q accepted legal own_other there.2
          in let either = requests_apart w h r q accepted legal (record {
            place = fits.place;
            queued_at = fits.queued_at;
            flight_place = there.0;
            flying_at = there.1;
            writing = writing;
            flying_writes = there.2;
          })
          in subst (AreApart (record { id = id; first = r.first; bytes = bytes })) from.2
          (elim either [
            | inl before ↦ inl (omega (arith, long, before))
            | inr behind ↦ inr (omega (arith, other.long, behind))
          ]))));
      other =
          ap (λ l. write_of l id) stands.writes
          ∙ ap (write_of (map (flying w h) (filter is_write (in_flight h))))
          (sym fits.numbered)
          ∙ none_of w h fits.place r accepted legal fits.queued_at;
    }

-- the same of the request that is given, with the bytes that are taken from the front
pub given_is : (w : Workload) (h : List Event) (id : ReqId) (cost : ℕ) (r : Request) (given : Option Request)
    → (fits : SendFits w h id cost) → given ≡ slice_get (requests h) id.0 → given ≡ Some r → fits.request ≡ r
given_is w h id cost r given fits at is = same_Some fits.request r (sym fits.at ∙ sym at ∙ is)

pub starts : (w : Workload) (h : List Event) (id : ReqId) (cost : ℕ) (m : Medium) (r : Request) (bytes : List ℕ)
    (rest : List (List ℕ)) → IsAccepted w → IsLegal w h → (fits : SendFits w h id cost) → MediumStands w m h
    → fits.request ≡ r → is_write r ≡ true → m.carried.items ≡ bytes ∷ rest
    → MayStart m.disk.blocks m.disk.writes (record { id = id; first = r.first; bytes = bytes })
starts w h id cost m r bytes rest accepted legal fits stands same writing popped =
    let first : is_write fits.request ≡ true = ap is_write same ∙ writing
    in let both : bytes ∷ rest
    ≡ cargo w h fits.request.id ∷ map (λ q. cargo w h q.id) (filter is_write (queued (h ▹ Send id cost))) =
    sym popped ∙ front_of w h id cost m accepted legal fits stands first
    in let is : bytes ≡ cargo w h fits.request.id = cc
    in subst
    (λ (q : Request). MayStart m.disk.blocks m.disk.writes (record { id = id; first = q.first; bytes = bytes })) same
    (may_start w h id cost m bytes accepted legal fits stands first is)

pub medium_send_write : (w : Workload) (h : List Event) (id : ReqId) (cost : ℕ) (m new : Medium) (bytes : List ℕ)
    → IsAccepted w → IsLegal w h → (fits : SendFits w h id cost) → MediumStands w m h → is_write fits.request ≡ true
    → m.carried.items ≡ bytes ∷ new.carried.items
    → new.disk.blocks ≡ m.disk.blocks
    → new.disk.writes ≡ m.disk.writes ++ record { id = id; first = fits.request.first; bytes = bytes } ∷ []
    → MediumStands w new (h ▹ Send id cost)
medium_send_write w h id cost m new bytes accepted legal fits stands writing popped same started =
    let r = fits.request
    in let front = front_of w h id cost m accepted legal fits stands writing
    in let both : bytes ∷ new.carried.items
    ≡ cargo w h r.id ∷ map (λ q. cargo w h q.id) (filter is_write (queued (h ▹ Send id cost))) = sym popped ∙ front
    in let is : bytes ≡ cargo w h r.id = cc
    in let others : new.carried.items
    ≡ map (λ q. cargo w h q.id) (filter is_write (queued (h ▹ Send id cost))) = cc
    in record {
      size = ap length same ∙ stands.size;
      blocks = λ x below. ap (λ l. block_at l x) same ∙ stands.blocks x below;
      writes =
          started
          ∙ ap (λ v. m.disk.writes ++ v ∷ [])
          (flying_is id r bytes (sym fits.numbered) is)
          ∙ ap (λ l. l ++ flying w h r ∷ []) stands.writes
          ∙ sym (map-append (flying w h) (filter is_write (in_flight h)) (r ∷ []))
          ∙ ap (map (flying w h)) (sym (filter_push_yes is_write (in_flight h) r writing))
          ∙ ap (λ l. map (flying w h) (filter is_write l)) (sym fits.flies);
      carried = others;
    }
  where
    flying_is : (id : ReqId) (r : Request) (bytes : List ℕ) → id ≡ r.id → bytes ≡ cargo w h r.id
        → ◌≡◌ {A = InFlight} (record { id = id; first = r.first; bytes = bytes }) (flying w h r)
    flying_is id r bytes number is =
        ap (λ n. write_with n r.first bytes) number ∙ ap (write_with r.id r.first) is
      where
        write_with : ReqId → ℕ → List ℕ → InFlight
        write_with n first bytes = record { id = n; first = first; bytes = bytes }

pub medium_send_given : (w : Workload) (h : List Event) (id : ReqId) (cost : ℕ) (m new : Medium) (r : Request)
    (bytes : List ℕ) → IsAccepted w → IsLegal w h → (fits : SendFits w h id cost) → MediumStands w m h
    → fits.request ≡ r → is_write r ≡ true
    → m.carried.items ≡ bytes ∷ new.carried.items
    → new.disk.blocks ≡ m.disk.blocks
    → new.disk.writes ≡ m.disk.writes ++ record { id = id; first = r.first; bytes = bytes } ∷ []
    → MediumStands w new (h ▹ Send id cost)
medium_send_given w h id cost m new r bytes accepted legal fits stands same writing popped blocks started =
    medium_send_write w h id cost m new bytes accepted legal fits stands (ap is_write same ∙ writing) popped blocks
    (subst (λ (q : Request). new.disk.writes ≡ m.disk.writes
    ++ record { id = id; first = q.first; bytes = bytes } ∷ []) (sym same) started)
