-- A completion: a write that is done leaves the disk's writes in flight, and its blocks hold what it carried.
use Rattle.std.proofs.Common.{◌≡◌, ℕ, ◌+◌, ◌-◌, ◌<◌, ◌≤◌, List, [], ◌∷◌, map, filter, find, slice_get, nat_le, nat_lt, cond, option_map, Bool, true, false, not, ◌&&◌, ◌⊎◌, Option, Some, refl, arith, subst, sym, inl, inr, ap, ◌∙◌}
use Rattle.std.specs.Prelude.{IfSome}
use Rattle.std.proofs.lemmas.Bool.{cases_Bool, both_ways, and_parts, and_from, leb-true, ltb-true, le-leb, lt-ltb, cases_lt, not_from_false}
use Rattle.std.proofs.lemmas.Option.{same_Some}
use Rattle.split_types.specs.declared.ids.ReqId.{ReqId}
use Rattle.split_types.specs.declared.request.Request.{Request}
use Rattle.split_types.specs.declared.workload.Workload.{Workload}
use Rattle.split_types.specs.declared.event.Event.{Event}
use Rattle.split_types.specs.declared.event.Event.TheVariants.{Done}
use Rattle.split_types.specs.History.{◌▹◌}
use Rattle.split_types.specs.Requests.{is_numbered, is_write, requests, in_flight}
use Rattle.split_types.specs.DiskBytes.{carried, Adding, adding, writes, after_write, disk_block}
use Rattle.split_types.specs.Accepted.{IsAccepted}
use Rattle.split_types.specs.Legal.{IsLegal}
use Rattle.split_types.proofs.Shared.{filter_there, find_some, list_any_here, number_here, same_number, case_true, case_false, in_filter, known, IsDone, is_done}
use Rattle.sim_disk.specs.Bytes.{block_of, block_at}
use Rattle.sim_disk.specs.Sheet.{Overwrites}
use Rattle.sim_disk.specs.Medium.{InFlight, count_of, is_of, write_of}
use Rattle.split_core.specs.declared.note.medium.Medium.{Medium}
use Rattle.split_core.specs.Medium.{cargo, flying, MediumStands}
use Rattle.split_core.proofs.MediumNotesLists.{filter-map, filter_swap, filter_keeps}
use Rattle.split_core.proofs.MediumNotesCargo.{IsCargo, cargo_of}

-- ---- the request that is done
own_of : (w : Workload) (h : List Event) (k : ℕ) (id : ReqId) → IsAccepted w → IsLegal w h → (d : IsDone w h k id)
    → slice_get (requests h) d.request.id.0 ≡ Some d.request
own_of w h k id accepted legal d = (known w h accepted legal).waiting.flight_of k d.request d.flying

-- it is the one that stands at its number
pub done_is : (w : Workload) (h : List Event) (k : ℕ) (id : ReqId) (r : Request) → IsAccepted w → IsLegal w h
    → (d : IsDone w h k id) → slice_get (requests h) id.0 ≡ Some r → d.request ≡ r
done_is w h k id r accepted legal d at =
    same_Some d.request r
    (sym (own_of w h k id accepted legal d) ∙ ap (λ (i : ReqId). slice_get (requests h) i.0) d.number ∙ at)

-- each request in flight of its number is this one
one_flying : (w : Workload) (h : List Event) (k : ℕ) (id : ReqId) → IsAccepted w → IsLegal w h
    → (d : IsDone w h k id) → (i : ℕ) (q : Request) → slice_get (in_flight h) i ≡ Some q → is_numbered id q ≡ true
    → q ≡ d.request
one_flying w h k id accepted legal d i q at numbered =
    same_number (requests h) (in_flight h) i q d.request (known w h accepted legal).waiting.flight_of at
    (own_of w h k id accepted legal d) (subst (λ (n : ReqId). is_numbered n q ≡ true) (sym d.number) numbered)

-- what a block holds after it
after_done : (w : Workload) (h : List Event) (k : ℕ) (id : ReqId) (d : IsDone w h k id) (x : ℕ) (bytes : List ℕ)
    → writes d.request x ≡ true
    → after_write w (adding h id) x bytes ≡ carried w d.before d.request (x - d.request.first)
after_done w h k id d x bytes is =
    ap (λ a. after_write w a x bytes) d.added
    ∙ case_true (writes d.request x) (carried w d.before d.request (x - d.request.first)) bytes is

after_other : (w : Workload) (h : List Event) (k : ℕ) (id : ReqId) (d : IsDone w h k id) (x : ℕ) (bytes : List ℕ)
    → writes d.request x ≡ false → after_write w (adding h id) x bytes ≡ bytes
after_other w h k id d x bytes none =
    ap (λ a. after_write w a x bytes) d.added
    ∙ case_false (writes d.request x) (carried w d.before d.request (x - d.request.first)) bytes none

-- ---- a read is done
pub medium_done_read : (w : Workload) (h : List Event) (k : ℕ) (id : ReqId) (r : Request) (m : Medium) → IsAccepted w
    → IsLegal w (h ▹ Done k id true) → MediumStands w m h → slice_get (requests h) id.0 ≡ Some r
    → is_write r ≡ false → MediumStands w m (h ▹ Done k id true)
medium_done_read w h k id r m accepted legal stands at reading = record {
  size = stands.size;
  blocks =
      λ x below. stands.blocks x below ∙ sym (after_other w h k id d x (disk_block w h x) (writes_none x));
  writes =
      stands.writes
      ∙ ap (map (flying w h)) (sym (filter_keeps is_write (λ q. not (is_numbered id q)) (in_flight h) stays));
  carried = stands.carried;
}
  where
    d : IsDone w h k id
    d = is_done w h k id accepted legal

    none : is_write d.request ≡ false
    none = ap is_write (done_is w h k id r accepted legal.1 d at) ∙ reading

    writes_none : (x : ℕ) → writes d.request x ≡ false
    writes_none x =
        ap (λ b. (b && nat_le d.request.first x) && nat_lt x (d.request.first + d.request.n)) none

    stays : (i : ℕ) (q : Request) → slice_get (in_flight h) i ≡ Some q → is_write q ≡ true
        → not (is_numbered id q) ≡ true
    stays i q there writing = elim (cases_Bool (is_numbered id q)) [
      | inr other ↦ not_from_false (is_numbered id q) other
      | inl numbered ↦
          absurd (both_ways (is_write d.request) none
          (subst (λ z. is_write z ≡ true) (one_flying w h k id accepted legal.1 d i q there numbered) writing))
    ]

-- ---- a write is done
-- it is in flight on the disk
pub write_found : (w : Workload) (h : List Event) (k : ℕ) (id : ReqId) (m : Medium) → IsAccepted w → IsLegal w h
    → MediumStands w m h → (d : IsDone w h k id) → is_write d.request ≡ true
    → write_of m.disk.writes id ≡ Some (flying w h d.request)
write_found w h k id m accepted legal stands d writing =
    let flight = filter is_write (in_flight h)
    in let here = in_filter is_write (in_flight h) k d.request d.flying writing
    in let found = find_some (λ q. is_of id (flying w h q)) flight
    (list_any_here (λ q. is_of id (flying w h q)) flight here.0 d.request here.1
    (subst (λ (n : ReqId). is_numbered n d.request ≡ true) d.number (number_here d.request)))
    in let there = filter_there is_write (in_flight h) found.place found.element found.there
    in let same : found.element ≡ d.request =
    one_flying w h k id accepted legal d there.0 found.element there.1 found.passes
    in ap (λ l. write_of l id) stands.writes
    ∙ find_mapped flight ∙ ap (option_flying) (found.found ∙ ap Some same)
  where
    option_flying : Option Request → Option InFlight
    option_flying o = option_map (flying w h) o

    find_mapped : (flight : List Request)
        → write_of (map (flying w h) flight) id ≡ option_flying (find (λ q. is_of id (flying w h q)) flight)
    find_mapped [] = refl
    find_mapped (q ∷ flight) = by_test (is_of id (flying w h q)) (find_mapped flight)
      where
        by_test : (b : Bool)
            → write_of (map (flying w h) flight) id ≡ option_flying (find (λ z. is_of id (flying w h z)) flight)
            → cond b (Some (flying w h q)) (write_of (map (flying w h) flight) id)
            ≡ option_flying (cond b (Some q) (find (λ z. is_of id (flying w h z)) flight))
        by_test true rest = refl
        by_test false rest = rest

-- what the disk does with it
pub record Finishes (old new : Medium) (id : ReqId) : Type 0 where
  pub writes : new.disk.writes ≡ filter (λ v. not (is_of id v)) old.disk.writes
  pub blocks : IfSome (write_of old.disk.writes id)
      (λ v. Overwrites old.disk.blocks new.disk.blocks v.first (count_of v) (block_of v.bytes))
  pub carried : new.carried ≡ old.carried

pub medium_done_write : (w : Workload) (h : List Event) (k : ℕ) (id : ReqId) (r : Request) (m new : Medium)
    → IsAccepted w → IsLegal w (h ▹ Done k id true) → MediumStands w m h → slice_get (requests h) id.0 ≡ Some r
    → is_write r ≡ true → Finishes m new id → MediumStands w new (h ▹ Done k id true)
medium_done_write w h k id r m new accepted legal stands at is_one finishes = record {
  size = over.size ∙ stands.size;
  blocks = λ x below. elim (cases_Bool (writes d.request x)) [
    | inl own ↦ written x own ∙ sym (after_done w h k id d x (disk_block w h x) own)
    | inr none ↦
        over.others x (outside x none) ∙ stands.blocks x below
        ∙ sym (after_other w h k id d x (disk_block w h x) none)
  ];
  writes =
      finishes.writes
      ∙ ap (filter (λ v. not (is_of id v))) stands.writes
      ∙ filter-map (λ v. not (is_of id v)) (flying w h) (filter is_write (in_flight h))
      ∙ ap (map (flying w h)) (filter_swap (λ q. not (is_numbered id q)) is_write (in_flight h));
  carried = ap (λ q. q.items) finishes.carried ∙ stands.carried;
}
  where
    d : IsDone w h k id
    d = is_done w h k id accepted legal

    writing : is_write d.request ≡ true
    writing = ap is_write (done_is w h k id r accepted legal.1 d at) ∙ is_one

    c : IsCargo w h d.request
    c = cargo_of w h d.request accepted legal.1 (own_of w h k id accepted legal.1 d) writing

    over : Overwrites m.disk.blocks new.disk.blocks d.request.first (count_of (flying w h d.request))
        (block_of (cargo w h d.request.id))
    over =
        subst (λ o. IfSome o (λ v. Overwrites m.disk.blocks new.disk.blocks v.first (count_of v) (block_of v.bytes)))
        (write_found w h k id m accepted legal.1 stands d writing) finishes.blocks

    -- the requests that were added before are the same
    before_is : c.before ≡ d.before
    before_is =
        ap (λ (a : Adding). a.before)
        (same_Some (record { request = d.request; before = c.before })
        (record { request = d.request; before = d.before }) (sym c.added ∙ ap (adding h) d.number ∙ d.added))

    range : (x : ℕ) → writes d.request x ≡ true
        → (d.request.first ≤ x) × (x < d.request.first + d.request.n)
    range x own =
        let outer =
        and_parts (is_write d.request && nat_le d.request.first x) (nat_lt x (d.request.first + d.request.n)) own
        in let inner = and_parts (is_write d.request) (nat_le d.request.first x) outer.0
        in (leb-true d.request.first x inner.1, ltb-true x (d.request.first + d.request.n) outer.1)

    written : (x : ℕ) → writes d.request x ≡ true
        → block_at new.disk.blocks x ≡ carried w d.before d.request (x - d.request.first)
    written x own =
        let within = range x own
        in let i : ℕ = x - d.request.first
        in let place : x ≡ d.request.first + i = omega (arith, within)
        in let below : i < d.request.n = omega (arith, within)
        in ap (block_at new.disk.blocks) place
        ∙ over.written i (omega (arith, below, c.long))
        ∙ c.block i below
        ∙ ap (λ l. carried w l d.request i) before_is

    outside : (x : ℕ) → writes d.request x ≡ false
        → (x < d.request.first) ⊎ (d.request.first + count_of (flying w h d.request) ≤ x)
    outside x none = elim (cases_lt x d.request.first) [
      | inl before ↦ inl before
      | inr from ↦ elim (cases_lt x (d.request.first + d.request.n)) [
        | inr behind ↦ inr (omega (arith, behind, c.long))
        | inl under ↦
            absurd (both_ways (writes d.request x) none
            (and_from (is_write d.request && nat_le d.request.first x) (nat_lt x (d.request.first + d.request.n))
            (and_from (is_write d.request) (nat_le d.request.first x) writing (le-leb d.request.first x from))
            (lt-ltb x (d.request.first + d.request.n) under)))
      ]
    ]
