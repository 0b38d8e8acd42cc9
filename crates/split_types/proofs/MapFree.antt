-- Free blocks: none of them is in the map of a file that is there, or whose drop isn't committed.
use Rattle.std.proofs.Common.{◌≡◌, ℕ, ◌+◌, ◌-◌, ◌<◌, ◌≤◌, List, [], ◌∷◌, Bool, true, false, not, ◌&&◌, ◌||◌, arith, sym, inl, inr, ◌∙◌}
use Rattle.std.specs.List.{list_any, range_with_len}
use Rattle.std.proofs.lemmas.Bool.{and_parts, and_from, or_parts, or_cases, both_ways, not-true}
use Rattle.std.proofs.lemmas.Bool.Decides.{nat_tests}
use Rattle.split_types.specs.declared.workload.Workload.{Workload}
use Rattle.split_types.specs.declared.event.Event.{Event}
use Rattle.split_types.specs.Workloads.{first_block}
use Rattle.split_types.specs.Files.{is_live}
use Rattle.split_types.specs.FileMaps.{is_in_map, serials, is_going, is_taken, is_waiting, free_blocks}
use Rattle.split_types.specs.FilesInOrder.{all_files}
use Rattle.split_types.specs.MapsInOrder.{keeps_blocks}
use Rattle.split_types.specs.Sets.{has}
use Rattle.split_types.proofs.Sets.{has-filter, has-range}

-- a block that is free: one of data, neither taken nor waiting
pub record IsFree (w : Workload) (h : List Event) (x : ℕ) : Type 0 where
  pub from : first_block w ≤ x
  pub to : x < w.device
  pub untaken : is_taken w h x ≡ false
  pub settled : is_waiting w h x ≡ false

pub is_free : (w : Workload) (h : List Event) (x : ℕ) → has (free_blocks w h) x ≡ true → IsFree w h x
is_free w h x is =
    let both = and_parts (has area x) (free x) (sym (has-filter free area x) ∙ is) in
    let range = sym (has-range (first_block w) (w.device - first_block w) x) ∙ both.0 in
    let within : (first_block w ≤ x) × (x < first_block w + (w.device - first_block w)) = grind (arith, nat_tests) in
    let neither = or_parts (is_taken w h x) (is_waiting w h x) (not-true _ both.1) in
    record {
      from = within.0;
      to = omega (arith, within.0, within.1);
      untaken = neither.0;
      settled = neither.1;
    }
  where
    area : List ℕ
    area = range_with_len (first_block w) (w.device - first_block w)

    free : ℕ → Bool
    free y = not (is_taken w h y || is_waiting w h y)

-- a test that a number of a list passes
any_at : (p : ℕ → Bool) (xs : List ℕ) (s : ℕ) → has xs s ≡ true → p s ≡ true → list_any p xs ≡ true
any_at p [] s there passes = cc
any_at p (x ∷ xs) s there passes = grind (arith, nat_tests, any_at p xs s)

-- a number that a file has
has_serial : (w : Workload) (h : List Event) (s : ℕ) → s < all_files w h → has (serials w h) s ≡ true
has_serial w h s below = has-range 0 (all_files w h) s ∙ (grind (arith, nat_tests))

-- a block in the map of a file that is there, or whose drop isn't committed, isn't free
pub not_free : (w : Workload) (h : List Event) (s x : ℕ) → s < all_files w h → keeps_blocks w h s ≡ true
    → is_in_map w h s x ≡ true → IsFree w h x → ⊥
not_free w h s x below keeps within free = elim (or_cases (is_live w h s) (is_going h s) keeps) [
  | inl live ↦
      both_ways (is_taken w h x) free.untaken
      (any_at (λ t. is_live w h t && is_in_map w h t x) (serials w h) s (has_serial w h s below)
      (and_from (is_live w h s) (is_in_map w h s x) live within))
  | inr going ↦
      both_ways (is_waiting w h x) free.settled
      (any_at (λ t. is_going h t && is_in_map w h t x) (serials w h) s (has_serial w h s below)
      (and_from (is_going h s) (is_in_map w h s x) going within))
]
