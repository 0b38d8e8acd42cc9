-- What a write request carries: whole blocks, as they were settled by its add. And no block is one of two requests that
-- wait.
use Rattle.std.proofs.Common.{◌≡◌, ℕ, ◌+◌, ◌*◌, ◌<◌, ◌≤◌, List, length, slice_get, nat_le, nat_lt, true, ◌&&◌, ◌⊎◌, Some, refl, arith, subst, sym, inl, inr, ap, ◌∙◌, count_by}
use Rattle.std.proofs.lemmas.Bool.{and_from, le-leb, lt-ltb, cases_lt}
use Rattle.std.proofs.lemmas.Option.{slice_get_within, same_Some}
use Rattle.split_types.specs.declared.request.Request.{Request}
use Rattle.split_types.specs.declared.workload.Workload.{Workload}
use Rattle.split_types.specs.declared.event.Event.{Event}
use Rattle.split_types.specs.History.{◌▹◌}
use Rattle.split_types.specs.Requests.{is_numbered, is_write, requests, queued, in_flight, unfinished}
use Rattle.split_types.specs.DiskBytes.{carried, adding, writes}
use Rattle.split_types.specs.Accepted.{IsAccepted}
use Rattle.split_types.specs.Legal.{IsLegal}
use Rattle.split_types.specs.Proving.Known.{Known, HasRun}
use Rattle.split_types.proofs.Shared.{find_some, counted_here, any_counted, number_here, same_number, known, adding_kept, adding_there, before_legal, writes_apart, has_run, journal_known}
use Rattle.sim_disk.specs.Bytes.{block_of}
use Rattle.sim_disk.specs.Medium.{InFlight}
use Rattle.split_core.specs.Takings.{all_carried}
use Rattle.split_core.specs.Medium.{carried_by, cargo, flying}
use Rattle.split_core.proofs.MediumNotesLists.{blocks_long, block_joined}
use Rattle.split_core.proofs.MediumNotesWhole.{carried_whole}

-- ---- what a write carries
-- what a request that was added carries, if it writes
pub record IsCargo (w : Workload) (h : List Event) (r : Request) : Type 0 where
  pub before : List Event
  pub added : adding h r.id ≡ Some (record { request = r; before = before })
  pub cargo_is : cargo w h r.id ≡ all_carried w before r
  pub long : length (cargo w h r.id) ≡ 4096 * r.n
  pub block : (i : ℕ) → i < r.n → block_of (cargo w h r.id) i ≡ carried w before r i

pub cargo_of : (w : Workload) (h : List Event) (r : Request) → IsAccepted w → IsLegal w h
    → slice_get (requests h) r.id.0 ≡ Some r → is_write r ≡ true → IsCargo w h r
cargo_of w h r accepted legal own writing =
    let add = adding_there w h r.id.0 r accepted legal own
    in let earlier : IsLegal w add.0 = before_legal w h r.id (record { request = r; before = add.0 }) legal add.1
    in let each = λ (i : ℕ) (low : 0 ≤ i) (high : i < 0 + r.n). carried_whole w add.0 r i accepted earlier writing
    in let is : cargo w h r.id ≡ all_carried w add.0 r = ap (carried_by w) add.1
    in record {
      before = add.0;
      added = add.1;
      cargo_is = is;
      long = ap length is ∙ blocks_long (carried w add.0 r) 0 r.n each;
      block =
          λ i below. ap (λ l. block_of l i) is ∙ block_joined (carried w add.0 r) 0 r.n each i below
          ∙ ap (carried w add.0 r) (from_none i);
    }
  where
    from_none : (i : ℕ) → 0 + i ≡ i
    from_none i = omega arith

-- ---- what a later event leaves of it
pub cargo_kept : (w : Workload) (h : List Event) (e : Event) (r : Request) → IsAccepted w → IsLegal w (h ▹ e)
    → slice_get (requests h) r.id.0 ≡ Some r → cargo w (h ▹ e) r.id ≡ cargo w h r.id
cargo_kept w h e r accepted legal own =
    ap (carried_by w)
    (adding_kept w h e r.id legal
    (omega (arith, slice_get_within (requests h) r.id.0 r own, (known w h accepted legal.1).numbered.counted)))

abbrev flying_with : Request → List ℕ → InFlight
flying_with r bytes = record { id = r.id; first = r.first; bytes = bytes }

pub flying_kept : (w : Workload) (h : List Event) (e : Event) (r : Request) → IsAccepted w → IsLegal w (h ▹ e)
    → slice_get (requests h) r.id.0 ≡ Some r → flying w (h ▹ e) r ≡ flying w h r
flying_kept w h e r accepted legal own = ap (flying_with r) (cargo_kept w h e r accepted legal own)

-- ---- requests that wait
-- one that is queued or in flight stands among those that weren't done well
left_there : (w : Workload) (h : List Event) (r : Request) → Known w h → slice_get (requests h) r.id.0 ≡ Some r
    → 1 ≤ count_by (is_numbered r.id) (unfinished h) → (j : ℕ) × (slice_get (unfinished h) j ≡ Some r)
left_there w h r f own some =
    let found =
    find_some (is_numbered r.id) (unfinished h)
    (any_counted (is_numbered r.id) (unfinished h)
    ∙ lt-ltb 0 (count_by (is_numbered r.id) (unfinished h)) (omega arith))
    in let same : found.element ≡ r =
    same_number (requests h) (unfinished h) found.place found.element r f.waiting.left_of found.there own found.passes
    in (found.place, found.there ∙ ap Some same)

-- a request moves a block at least
some_blocks : (w : Workload) (h : List Event) (r : Request) → HasRun w h r → 1 ≤ r.n
some_blocks w h r (inl run) = run.run.some
some_blocks w h r (inr low) = low.some

-- the request writes the block, since that is one of its own
writes_own : (r : Request) (x : ℕ) → is_write r ≡ true → r.first ≤ x → x < r.first + r.n → writes r x ≡ true
writes_own r x writing low high =
    and_from (is_write r && nat_le r.first x) (nat_lt x (r.first + r.n))
    (and_from (is_write r) (nat_le r.first x) writing (le-leb r.first x low)) (lt-ltb x (r.first + r.n) high)

-- a write that is queued, and one that is in flight
pub record AreTwo (w : Workload) (h : List Event) (r q : Request) : Type 0 where
  pub place : ℕ
  pub queued_at : slice_get (queued h) place ≡ Some r
  pub flight_place : ℕ
  pub flying_at : slice_get (in_flight h) flight_place ≡ Some q
  pub writing : is_write r ≡ true
  pub flying_writes : is_write q ≡ true

not_one : (w : Workload) (h : List Event) (r q : Request) (x : ℕ) → IsAccepted w → IsLegal w h → AreTwo w h r q
    → writes r x ≡ true → writes q x ≡ true → ⊥
not_one w h r q x accepted legal two first second =
    let f = known w h accepted legal
    in let a = f.waiting
    in let here = counted_here (is_numbered r.id) (queued h) two.place r two.queued_at (number_here r)
    in let there = counted_here (is_numbered q.id) (in_flight h) two.flight_place q two.flying_at (number_here q)
    in let one = left_there w h r f (a.queue_of two.place r two.queued_at) (omega (arith, a.left_once r.id, here))
    in let other =
    left_there w h q f (a.flight_of two.flight_place q two.flying_at) (omega (arith, a.left_once q.id, there))
    in let places : one.0 ≡ other.0 =
    writes_apart w h x one.0 other.0 r q accepted legal one.1 other.1 first second
    in let same : q ≡ r =
    same_Some q r (sym other.1 ∙ ap (slice_get (unfinished h)) (sym places) ∙ one.1)
    in let both : 1 ≤ count_by (is_numbered r.id) (in_flight h) =
    subst (λ z. 1 ≤ count_by (is_numbered z.id) (in_flight h)) same there
    in omega (arith, a.once r.id, here, both)

-- no block is one of both
pub requests_apart : (w : Workload) (h : List Event) (r q : Request) → IsAccepted w → IsLegal w h → AreTwo w h r q
    → (r.first + r.n ≤ q.first) ⊎ (q.first + q.n ≤ r.first)
requests_apart w h r q accepted legal two = elim (cases_lt q.first (r.first + r.n)) [
  | inr before ↦ inl before
  | inl into ↦ elim (cases_lt r.first (q.first + q.n)) [
    | inr behind ↦ inr behind
    | inl over ↦ elim (cases_lt r.first q.first) [
      | inl less ↦
          absurd (not_one w h r q q.first accepted legal two
          (writes_own r q.first two.writing (omega arith) into)
          (writes_own q q.first two.flying_writes (omega arith) (omega (arith, some q (own_flight refl)))))
      | inr most ↦
          absurd (not_one w h r q r.first accepted legal two
          (writes_own r r.first two.writing (omega arith) (omega (arith, some r (own_queued refl))))
          (writes_own q r.first two.flying_writes most over))
    ]
  ]
]
  where
    own_queued : r ≡ r → slice_get (requests h) r.id.0 ≡ Some r
    own_queued e = (known w h accepted legal).waiting.queue_of two.place r two.queued_at

    own_flight : q ≡ q → slice_get (requests h) q.id.0 ≡ Some q
    own_flight e = (known w h accepted legal).waiting.flight_of two.flight_place q two.flying_at

    some : (z : Request) → slice_get (requests h) z.id.0 ≡ Some z → 1 ≤ z.n
    some z own =
        some_blocks w h z (has_run w h z.id.0 z (known w h accepted legal).runs (journal_known w h accepted legal) own)
