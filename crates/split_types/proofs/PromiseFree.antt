-- Free blocks, from one event to the next: they stay while maps have the same blocks, and a map takes its own.
use Rattle.std.proofs.Common.{◌≡◌, ℕ, ◌+◌, ◌-◌, ◌==◌, ◌<◌, ◌≤◌, List, length, nat_lt, nat_le, Bool, true, false, not, ◌&&◌, ◌||◌, Some, refl, arith, sym, subst, inl, inr, cond, ap, ◌∙◌}
use Rattle.std.specs.List.{list_any, range_with_len}
use Rattle.std.proofs.lemmas.Bool.{cases_Bool, and_parts, or_parts, or_cases, or_from, or_left, or_right, both_ways}
use Rattle.std.proofs.lemmas.Bool.Decides.{nat_tests}
use Rattle.std.proofs.lemmas.List.Sums.{length-filter}
use Rattle.split_types.specs.declared.ids.Serial.{Serial}
use Rattle.split_types.specs.declared.ids.Slot.{Slot}
use Rattle.split_types.specs.declared.workload.Workload.{Workload}
use Rattle.split_types.specs.declared.event.Event.{Event}
use Rattle.split_types.specs.declared.event.Event.TheVariants.{Map}
use Rattle.split_types.specs.History.{◌▹◌}
use Rattle.split_types.specs.Workloads.{first_block}
use Rattle.split_types.specs.Files.{is_live}
use Rattle.split_types.specs.FileMaps.{mapped_block, is_in_map, serials, is_going, is_taken, is_waiting, free_blocks}
use Rattle.split_types.specs.Sets.{has}
use Rattle.split_types.proofs.Lists.{find_some}
use Rattle.split_types.proofs.Sets.{filter-same}
use Rattle.split_types.proofs.MapFree.{is_free, not_free}
use Rattle.split_types.proofs.MapState.{MapsOf, keeps_of, keeps_is, live_keeps}
use Rattle.split_types.proofs.PromiseCounts.{count_both, count_fewer, is_within, count_within}

-- ---- blocks in use
-- the block isn't free: it is taken, or it waits
abbrev is_used : Workload → List Event → ℕ → Bool
is_used w h x = is_taken w h x || is_waiting w h x

-- a number of a list that passes a test
any_of : (p : ℕ → Bool) (xs : List ℕ) → list_any p xs ≡ true → (s : ℕ) × (p s ≡ true)
any_of p xs any = let found = find_some p xs any in (found.element, found.passes)

-- a file that keeps its blocks has the block in its map
abbrev keeps_it : Workload → List Event → ℕ → ℕ → Type 0
keeps_it w h x s = (keeps_of w h s ≡ true) × (is_in_map w h s x ≡ true)

-- a block that is in use is in the map of some file that keeps its blocks
used_in_map : (w : Workload) (h : List Event) (x : ℕ) → is_used w h x ≡ true → (s : ℕ) × keeps_it w h x s
used_in_map w h x used = elim (or_cases (is_taken w h x) (is_waiting w h x) used) [
  | inl taken ↦
      (let at = any_of (λ s. is_live w h s && is_in_map w h s x) (serials w h) taken in
      let both = and_parts (is_live w h at.0) (is_in_map w h at.0 x) at.1 in
      (at.0, (live_keeps w h at.0 both.0, both.1)))
  | inr waits ↦
      (let at = any_of (λ s. is_going h s && is_in_map w h s x) (serials w h) waits in
      let both = and_parts (is_going h at.0) (is_in_map w h at.0 x) at.1 in
      (at.0, (keeps_is w h at.0 ∙ or_right (is_live w h at.0) (is_going h at.0) both.0, both.1)))
]

-- and each such block is in use
in_map_used : (w : Workload) (h : List Event) (s x : ℕ) → MapsOf w h → keeps_it w h x s → is_used w h x ≡ true
in_map_used w h s x f own = elim (cases_Bool (is_used w h x)) [
  | inl used ↦ used
  | inr unused ↦ absurd (out (or_parts (is_taken w h x) (is_waiting w h x) unused))
]
  where
    out : (is_taken w h x ≡ false) × (is_waiting w h x ≡ false) → ⊥
    out neither =
        let at = f.blocks.of_map s x own.1 in
        not_free w h s x (f.numbered s (f.kept s at.0 x at.1)) (sym (keeps_is w h s) ∙ own.0) own.1 (record {
          from = f.blocks.from s at.0 x at.1;
          to = f.blocks.to s at.0 x at.1;
          untaken = neither.0;
          settled = neither.1;
        })

-- ---- where maps have the same blocks
-- each block that is in use stays so, where the files that keep it stay the same
used_stays : (w : Workload) (h later : List Event) (x : ℕ) → MapsOf w later
    → ((s : ℕ) → keeps_it w h x s → keeps_it w later x s) → is_used w h x ≡ true → is_used w later x ≡ true
used_stays w h later x after stays used =
    let at = used_in_map w h x used in in_map_used w later at.0 x after (stays at.0 at.1)

-- blocks may become free where drops are committed
free_left : (later used : Bool) → (later ≡ true → used ≡ true) → not used ≡ true → not later ≡ true
free_left false used was is = refl
free_left true true was is = is
free_left true false was is = absurd (cc (was refl))

pub free_grows : (w : Workload) (h later : List Event) → MapsOf w h
    → ((s x : ℕ) → keeps_it w later x s → keeps_it w h x s)
    → length (free_blocks w h) ≤ length (free_blocks w later)
free_grows w h later f was =
    omega (
      arith,
      length-filter (λ x. not (is_used w h x)) area,
      length-filter (λ x. not (is_used w later x)) area,
      count_fewer (λ x. not (is_used w later x)) (λ x. not (is_used w h x)) area weaker,
    )
  where
    area : List ℕ
    area = range_with_len (first_block w) (w.device - first_block w)

    weaker : (x : ℕ) → not (is_used w h x) ≡ true → not (is_used w later x) ≡ true
    weaker x =
        free_left (is_used w later x) (is_used w h x) (λ used. used_stays w later h x f (λ s own. was s x own) used)

-- where the same files keep them the same blocks are free
same_tests : (a b : Bool) → (a ≡ true → b ≡ true) → (b ≡ true → a ≡ true) → a ≡ b
same_tests true b there back = sym (there refl)
same_tests false true there back = back refl
same_tests false false there back = refl

pub free_stays : (w : Workload) (h later : List Event) → MapsOf w h → MapsOf w later
    → ((s x : ℕ) → is_in_map w later s x ≡ is_in_map w h s x)
    → ((s g x : ℕ) → mapped_block w h s g ≡ Some x → keeps_of w later s ≡ keeps_of w h s)
    → free_blocks w later ≡ free_blocks w h
free_stays w h later f after same keep =
    filter-same (λ x. not (is_used w later x)) (λ x. not (is_used w h x))
    (range_with_len (first_block w) (w.device - first_block w))
    (λ x there. ap not (same_tests (is_used w later x) (is_used w h x)
    (λ used. used_stays w later h x f (λ s own. back s x own) used)
    (λ used. used_stays w h later x after (λ s own. forth s x own) used)))
  where
    forth : (s x : ℕ) → keeps_it w h x s → keeps_it w later x s
    forth s x own =
        let at = f.blocks.of_map s x own.1 in (keep s at.0 x at.1 ∙ own.0, same s x ∙ own.1)

    back : (s x : ℕ) → keeps_it w later x s → keeps_it w h x s
    back s x own =
        let within : is_in_map w h s x ≡ true = sym (same s x) ∙ own.1 in
        let at = f.blocks.of_map s x within in (sym (keep s at.0 x at.1) ∙ own.0, within)

-- ---- a map of free blocks
-- a block that was free is free still, or is one of the map
split_test : (used later within : Bool) → (within ≡ true → used ≡ false) → (within ≡ true → later ≡ true)
    → (within ≡ false → used ≡ later)
    → ◌≡◌ {A = ℕ} (cond (not used) 1 0) (cond (not later) 1 0 + cond within 1 0)
split_test used later true free taken same = rw (free refl, taken refl) refl
split_test used later false free taken same = rw (same refl) (omega arith)

-- as many free blocks fewer as the map has
pub free_falls : (w : Workload) (h : List Event) (slot : Slot) (t : Serial) (page n block size : ℕ)
    → is_live w h t.0 ≡ true → MapsOf w h → MapsOf w (h ▹ Map slot t page n block true size) → 1 ≤ n
    → ((k : ℕ) → k < n → has (free_blocks w h) (block + k) ≡ true)
    → length (free_blocks w (h ▹ Map slot t page n block true size)) + n ≡ length (free_blocks w h)
free_falls w h slot t page n block size live f after some each =
    let first = is_free w h (block + 0) (each 0 some) in
    let last = is_free w h (block + (n - 1)) (each (n - 1) (omega (arith, some))) in
    omega (
      arith,
      some,
      first.from,
      last.to,
      length-filter (λ x. not (is_used w h x)) area,
      length-filter (λ x. not (is_used w later x)) area,
      count_both (λ x. not (is_used w h x)) (λ x. not (is_used w later x)) (is_within block (block + n)) area split,
      count_within block (block + n) (first_block w) (w.device - first_block w) (omega arith)
          (omega (arith, some, first.from, last.to)),
    )
  where
    later : List Event
    later = h ▹ Map slot t page n block true size

    area : List ℕ
    area = range_with_len (first_block w) (w.device - first_block w)

    -- the block is one of the map's
    at_map : (x : ℕ) → is_within block (block + n) x ≡ true → (block ≤ x) × (x < block + n)
    at_map x within = grind (arith, nat_tests)

    free : (x : ℕ) → is_within block (block + n) x ≡ true → is_used w h x ≡ false
    free x within =
        let bounds = at_map x within in
        let there : has (free_blocks w h) (block + (x - block)) ≡ true =
        each (x - block) (omega (arith, bounds.0, bounds.1)) in
        let is : block + (x - block) ≡ x = omega (arith, bounds.0) in
        let known = is_free w h x (subst (λ y. has (free_blocks w h) y ≡ true) is there) in
        or_from (is_taken w h x) (is_waiting w h x) known.untaken known.settled

    new_in : (x : ℕ) → is_within block (block + n) x ≡ true
        → (t.0 == t.0 && nat_le block x && nat_lt x (block + n)) ≡ true
    new_in x within = let bounds = at_map x within in grind (arith, nat_tests)

    taken : (x : ℕ) → is_within block (block + n) x ≡ true → is_used w later x ≡ true
    taken x within =
        in_map_used w later t.0 x after (
          live_keeps w h t.0 live,
          or_left (t.0 == t.0 && nat_le block x && nat_lt x (block + n)) (is_in_map w h t.0 x) (new_in x within),
        )

    old_in : (s x : ℕ) → is_within block (block + n) x ≡ false → is_in_map w later s x ≡ true
        → is_in_map w h s x ≡ true
    old_in s x outside is =
        elim (or_cases (t.0 == s && nat_le block x && nat_lt x (block + n)) (is_in_map w h s x) is) [
          | inl new ↦ absurd (both_ways (is_within block (block + n) x) outside (grind (arith, nat_tests)))
          | inr old ↦ old
        ]

    same : (x : ℕ) → is_within block (block + n) x ≡ false → is_used w h x ≡ is_used w later x
    same x outside =
        same_tests (is_used w h x) (is_used w later x)
        (λ used. used_stays w h later x after
        (λ s own. (own.0, or_right (t.0 == s && nat_le block x && nat_lt x (block + n)) (is_in_map w h s x) own.1))
        used)
        (λ used. used_stays w later h x f (λ s own. (own.0, old_in s x outside own.1)) used)

    split : (x : ℕ)
        → ◌≡◌ {A = ℕ} (cond (not (is_used w h x)) 1 0)
        (cond (not (is_used w later x)) 1 0 + cond (is_within block (block + n) x) 1 0)
    split x = split_test (is_used w h x) (is_used w later x) (is_within block (block + n) x) (free x) (taken x) (same x)
