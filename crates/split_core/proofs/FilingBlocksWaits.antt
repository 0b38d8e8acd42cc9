-- The files whose blocks wait: they were dropped, and the transactions that take their drops aren't committed.
use Rattle.std.proofs.Common.{◌≡◌, ℕ, ◌==◌, ◌<◌, ◌≤◌, List, [], slice_get, Bool, true, false, not, ◌&&◌, ◌||◌, Option, Some, None, refl, arith, sym, inl, inr, ap, ◌∙◌}
use Rattle.std.proofs.lemmas.Bool.{and_parts, and_from, or_cases, or_right, false_from_ne_true, eqb-true}
use Rattle.std.specs.List.{range_with_len}
use Rattle.std.proofs.lemmas.List.FromFn.{length-range_with_len, get_or-range_with_len}
use Rattle.std.proofs.lemmas.Option.{slice_get-get_or}
use Rattle.split_types.specs.declared.ids.Pid.{Pid}
use Rattle.split_types.specs.declared.ids.ReqId.{ReqId}
use Rattle.split_types.specs.declared.ids.Serial.{Serial}
use Rattle.split_types.specs.declared.ids.Slot.{Slot}
use Rattle.split_types.specs.declared.ids.Txn.{Txn}
use Rattle.split_types.specs.declared.request.ReqKind.{ReqKind}
use Rattle.split_types.specs.declared.request.ReqKind.TheVariants.{Commit}
use Rattle.split_types.specs.declared.request.Request.{Request}
use Rattle.split_types.specs.declared.workload.Workload.{Workload}
use Rattle.split_types.specs.declared.event.Event.{Event}
use Rattle.split_types.specs.declared.event.Event.TheVariants.{Make, Drop, Seal, Done}
use Rattle.split_types.specs.History.{◌▹◌}
use Rattle.split_types.specs.Hooks.{maker}
use Rattle.split_types.specs.Reads.{request_numbered}
use Rattle.split_types.specs.Rounds.{seals, next_txn}
use Rattle.split_types.specs.Files.{is_live}
use Rattle.split_types.specs.FileMaps.{is_in_map, serials, is_dropped, drop_txn, commits, is_committed, is_settled, is_going, is_waiting}
use Rattle.split_types.specs.FilesInOrder.{all_files}
use Rattle.split_types.specs.Accepted.{IsAccepted}
use Rattle.split_types.specs.Legal.{IsLegal}
use Rattle.split_types.specs.Proving.Came.{Came}
use Rattle.split_types.specs.Proving.Came.Came.{came_done}
use Rattle.split_types.proofs.Shared.{came, known_requests, find_some, list_any_here}
use Rattle.split_types.proofs.PagesKeep.{made_serial, commit_sealed}
use Rattle.split_types.proofs.MapState.{MapsOf}
use Rattle.split_types.proofs.MapLaws.{maps_of}

-- ---- files that were dropped
-- some transaction takes the drop
pub taker_of : (h : List Event) (s : ℕ) → is_dropped h s ≡ true → (t : Txn) × (drop_txn h s ≡ Some t)
taker_of [] s is = absurd (cc)
taker_of (h ▹ Drop by slot serial) s is = by_test (serial.0 == s) is (λ old. taker_of h s old)
  where
    by_test : (b : Bool) → (b || is_dropped h s) ≡ true
        → (is_dropped h s ≡ true → (t : Txn) × (drop_txn h s ≡ Some t))
        → (t : Txn) × ((elim b [ true ↦ Some (next_txn h) | false ↦ drop_txn h s ]) ≡ Some t)
    by_test true at old = (next_txn h, refl)
    by_test false at old = old at
taker_of (h ▹ e) s is = taker_of h s is

-- no file is there and was dropped
pub live_undropped : (w : Workload) (h : List Event) (s : ℕ) → IsAccepted w → IsLegal w h → is_live w h s ≡ true
    → is_dropped h s ≡ true → ⊥
live_undropped w [] s accepted legal live gone = absurd (cc)
live_undropped w (h ▹ Make by slot serial) s accepted legal live gone =
    elim (or_cases (serial.0 == s) (is_live w h s) live) [
      | inl new ↦
          absurd (omega (
            arith,
            eqb-true serial.0 s new,
            made_serial w h by slot serial (came w h (maker (Make by slot serial)) (Make by slot serial) legal.0),
            (maps_of w h accepted legal.1).numbered s (or_right (is_live w h s) (is_dropped h s) gone),
          ))
      | inr old ↦ live_undropped w h s accepted legal.1 old gone
    ]
live_undropped w (h ▹ Drop by slot serial) s accepted legal live gone =
    by_test (serial.0 == s) live gone (λ is at. live_undropped w h s accepted legal.1 is at)
  where
    by_test : (b : Bool) → (not b && is_live w h s) ≡ true → (b || is_dropped h s) ≡ true
        → (is_live w h s ≡ true → is_dropped h s ≡ true → ⊥) → ⊥
    by_test true is at old = absurd (cc)
    by_test false is at old = old is at
live_undropped w (h ▹ e) s accepted legal live gone = live_undropped w h s accepted legal.1 live gone

-- ---- transactions that are committed
commits_kind : (u : Txn) (r : Request) → commits u (Some r) ≡ true → r.kind ≡ Commit u
commits_kind u r is = by_kind r.kind refl is
  where
    by_kind : (k : ReqKind) → r.kind ≡ k
        → commits u (Some (record { id = r.id; kind = k; first = r.first; n = r.n })) ≡ true → r.kind ≡ Commit u
    by_kind (Commit v) kind at = kind ∙ ap (λ n. Commit (record { 0 = n })) (eqb-true v.0 u.0 at)
    by_kind _ kind at = absurd (cc)

done_sealed : (w : Workload) (h : List Event) (k : ℕ) (id : ReqId) (u : Txn) → IsAccepted w → IsLegal w h
    → Came w h (Done k id true) → commits u (request_numbered h id) ≡ true → u.0 ≤ seals h
done_sealed w h k id u accepted legal (came_done j r at) is =
    let f = known_requests w h accepted legal
    in let there = f.waiting.flight_of j r at
    in commit_sealed w h r.id.0 r u legal there
    (commits_kind u r (sym (ap (commits u) (f.named r.id r there)) ∙ is))

-- they were sealed
committed_sealed : (w : Workload) (h : List Event) (u : Txn) → IsAccepted w → IsLegal w h → is_committed h u ≡ true
    → u.0 ≤ seals h
committed_sealed w [] u accepted legal is = absurd (cc)
committed_sealed w (h ▹ Seal v k) u accepted legal is = omega (arith, committed_sealed w h u accepted legal.1 is)
committed_sealed w (h ▹ Done k id true) u accepted legal is =
    elim (or_cases (commits u (request_numbered h id)) (is_committed h u) is) [
      | inl now ↦
          done_sealed w h k id u accepted legal.1 (came w h (maker (Done k id true)) (Done k id true) legal.0) now
      | inr old ↦ committed_sealed w h u accepted legal.1 old
    ]
committed_sealed w (h ▹ e) u accepted legal is = committed_sealed w h u accepted legal.1 is

-- so the one that is sealed next isn't
pub next_open : (w : Workload) (h : List Event) → IsAccepted w → IsLegal w h → is_committed h (next_txn h) ≡ false
next_open w h accepted legal =
    false_from_ne_true (is_committed h (next_txn h))
    (λ is. absurd (omega (arith, committed_sealed w h (next_txn h) accepted legal is)))

-- ---- blocks that wait
pub range_at : (n k : ℕ) → k < n → slice_get (range_with_len 0 n) k ≡ Some k
range_at n k below =
    slice_get-get_or (range_with_len 0 n) k 0 (omega (arith, below, length-range_with_len 0 n))
    ∙ ap Some (get_or-range_with_len 0 n k 0 below ∙ omega arith)

-- a block in the map of a dropped file whose drop isn't committed
pub waits_by : (w : Workload) (h : List Event) (s x : ℕ) → MapsOf w h → is_going h s ≡ true → is_in_map w h s x ≡ true
    → is_waiting w h x ≡ true
waits_by w h s x f going within =
    list_any_here (λ t. is_going h t && is_in_map w h t x) (serials w h) s s
    (range_at (all_files w h) s
    (f.numbered s (or_right (is_live w h s) (is_dropped h s) (and_parts (is_dropped h s) _ going).0)))
    (and_from (is_going h s) (is_in_map w h s x) going within)

pub waits_of : (w : Workload) (h : List Event) (x : ℕ) → is_waiting w h x ≡ true
    → (s : ℕ) × (is_going h s ≡ true) × (is_in_map w h s x ≡ true)
waits_of w h x waits =
    let found = find_some (λ s. is_going h s && is_in_map w h s x) (serials w h) waits
    in let both = and_parts (is_going h found.element) (is_in_map w h found.element x) found.passes
    in (found.element, both.0, both.1)

-- it waits still where its file does
pub waits_still : (w : Workload) (h later : List Event) (x : ℕ) → MapsOf w later
    → ((s : ℕ) → is_going h s ≡ true → is_in_map w h s x ≡ true
    → (is_going later s ≡ true) × (is_in_map w later s x ≡ true))
    → is_waiting w h x ≡ true → is_waiting w later x ≡ true
waits_still w h later x after stays waits =
    let at = waits_of w h x waits
    in let now = stays at.0 at.1 at.2
    in waits_by w later at.0 x after now.0 now.1

-- ---- from one event to the next
-- the same files were dropped, the same transactions take their drops, and the same are committed
pub record SameDrops (h later : List Event) : Type 0 where
  pub dropped : (s : ℕ) → is_dropped later s ≡ is_dropped h s
  pub takers : (s : ℕ) → drop_txn later s ≡ drop_txn h s
  pub committed : (t : Txn) → is_committed later t ≡ is_committed h t

settled_same : (h later : List Event) (o : Option Txn) → ((t : Txn) → is_committed later t ≡ is_committed h t)
    → is_settled later o ≡ is_settled h o
settled_same h later None same = refl
settled_same h later (Some t) same = same t

pub going_same : (h later : List Event) → SameDrops h later → (s : ℕ) → is_going later s ≡ is_going h s
going_same h later is s =
    ap (λ b. b && not (is_settled later (drop_txn later s))) (is.dropped s)
    ∙ ap (λ o. is_dropped h s && not (is_settled later o)) (is.takers s)
    ∙ ap (λ b. is_dropped h s && not b) (settled_same h later (drop_txn h s) is.committed)

-- a drop makes its file wait, and no other
pub going_drop : (h : List Event) (by : Pid) (slot : Slot) (serial : Serial) (s : ℕ)
    → is_committed h (next_txn h) ≡ false → is_going (h ▹ Drop by slot serial) s ≡ (serial.0 == s || is_going h s)
going_drop h by slot serial s uncommitted = by_test (serial.0 == s)
  where
    by_test : (b : Bool) → ((b || is_dropped h s) && not (is_settled (h ▹ Drop by slot serial)
        (elim b [ true ↦ Some (next_txn h) | false ↦ drop_txn h s ])))
        ≡ (b || is_going h s)
    by_test true = ap not uncommitted
    by_test false =
        ap (λ b. is_dropped h s && not b)
        (settled_same h (h ▹ Drop by slot serial) (drop_txn h s) (λ t. refl))
