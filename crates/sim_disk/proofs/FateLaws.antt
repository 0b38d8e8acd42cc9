-- A crash from block to block.
use Rattle.std.proofs.Common.{◌≡◌, ℕ, ◌+◌, ◌-◌, ◌<◌, ◌≤◌, List, length, find, cond, true, false, Some, None, sym, ap, ◌∙◌, subst, inl, inr, arith}
use Rattle.std.specs.List.{slice_get}
use Rattle.std.proofs.lemmas.Bool.{cases_Bool, cases_eq}
use Rattle.std.proofs.lemmas.Option.{none-some}
use Rattle.split_types.proofs.Lists.{find_some, find_there, list_any_here}
use Rattle.sim_disk.specs.declared.disk.crash.Fate.{Fate}
use Rattle.sim_disk.specs.Bytes.{block_at}
use Rattle.sim_disk.specs.Sheet.{Overwrites}
use Rattle.sim_disk.specs.Medium.{InFlight, covers, brings, is_in_flight}
use Rattle.sim_disk.specs.Crash.{in_flight_below, fated, struck as struck_by, crashed_at}
use Rattle.sim_disk.proofs.CrashLaws.{below_more, below_le}

-- the blocks below b have had their fates, of which so many are used up, and the others are as they were
pub record AreStruck (before : List (List ℕ)) (writes : List InFlight) (fates : List Fate) (after : List (List ℕ))
    (used b : ℕ) : Type 0 where
  pub size : length after ≡ length before
  pub counted : used ≡ in_flight_below writes b
  pub done : (j : ℕ) → j < b → block_at after j ≡ crashed_at before writes fates j
  pub rest : (j : ℕ) → b ≤ j → block_at after j ≡ block_at before j

-- a block is in flight where a write is found for it, and that write covers it
pub found_covers : (writes : List InFlight) (b : ℕ) (w : InFlight) → find (λ v. covers v b) writes ≡ Some w
    → covers w b ≡ true
found_covers writes b w found = (find_there (λ v. covers v b) writes w found).2

found_in_flight : (writes : List InFlight) (b : ℕ) (w : InFlight) → find (λ v. covers v b) writes ≡ Some w
    → is_in_flight writes b ≡ true
found_in_flight writes b w found =
    let there = find_there (λ v. covers v b) writes w found in
    list_any_here (λ v. covers v b) writes there.0 w there.1 there.2

none_in_flight : (writes : List InFlight) (b : ℕ) → find (λ v. covers v b) writes ≡ None → is_in_flight writes b ≡ false
none_in_flight writes b none = elim (cases_Bool (is_in_flight writes b)) [
  | inl some ↦ (let first = find_some (λ v. covers v b) writes some in
      absurd (none-some first.element (sym none ∙ first.found)))
  | inr past ↦ past
]

module _ (before after : List (List ℕ)) (writes : List InFlight) (fates : List Fate) (used b : ℕ)
    (struck : AreStruck before writes fates after used b) where
  -- a fate is left for a block in flight
  pub fate_left : (w : InFlight) → find (λ v. covers v b) writes ≡ Some w
      → length fates ≡ in_flight_below writes (length before) → b < length before → used < length fates
  fate_left w found count within =
      let rest : b + 1 + (length before - (b + 1)) ≡ length before = omega arith in
      let later : in_flight_below writes (b + 1) ≤ in_flight_below writes (length before) =
      subst (λ n. in_flight_below writes (b + 1) ≤ in_flight_below writes n) rest
      (below_le writes (b + 1) (length before - (b + 1))) in
      omega (
        arith,
        struck.counted,
        count,
        later,
        below_more writes b,
        ap {B = ℕ} (λ x. cond x 1 0) (found_in_flight writes b w found),
      )

  pub struck_none : find (λ v. covers v b) writes ≡ None → AreStruck before writes fates after used (b + 1)
  struck_none none = record {
    size = struck.size;
    counted = omega (
      arith,
      struck.counted,
      below_more writes b,
      ap {B = ℕ} (λ x. cond x 1 0) (none_in_flight writes b none),
    );
    done = λ j below. elim (cases_eq j b) [
      | inl here ↦ rw here (struck.rest b (omega arith)
          ∙ ap (λ o. struck_by o (slice_get fates (in_flight_below writes b)) (block_at before b) b) (sym none))
      | inr other ↦ struck.done j (omega arith)
    ];
    rest = λ j above. struck.rest j (omega arith);
  }

  pub struck_one : (w : InFlight) (fate : Fate) (new : List (List ℕ)) → find (λ v. covers v b) writes ≡ Some w
      → slice_get fates used ≡ Some fate → Overwrites after new b 1
      (λ i. fated (Some fate) (block_at after b) (brings w b))
      → AreStruck before writes fates new (used + 1) (b + 1)
  struck_one w fate new found given over = record {
    size = over.size ∙ struck.size;
    counted = omega (
      arith,
      struck.counted,
      below_more writes b,
      ap {B = ℕ} (λ x. cond x 1 0) (found_in_flight writes b w found),
    );
    done = λ j below. elim (cases_eq j b) [
      | inl here ↦
          (let now : block_at new b ≡ fated (Some fate) (block_at after b) (brings w b) =
          ap (block_at new) (omega arith) ∙ over.written 0 (omega arith) in
          let was : block_at after b ≡ block_at before b = struck.rest b (omega arith) in
          let fate_is : slice_get fates (in_flight_below writes b) ≡ Some fate =
          ap (slice_get fates) (sym struck.counted) ∙ given in
          rw here (now ∙ ap (λ x. fated (Some fate) x (brings w b)) was
          ∙ ap (λ f. fated f (block_at before b) (brings w b)) (sym fate_is)
          ∙ ap (λ o. struck_by o (slice_get fates (in_flight_below writes b)) (block_at before b) b) (sym found)))
      | inr other ↦ over.others j (inl (omega arith)) ∙ struck.done j (omega arith)
    ];
    rest = λ j above. over.others j (inr (omega arith)) ∙ struck.rest j (omega arith);
  }
