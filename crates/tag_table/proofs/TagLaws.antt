-- What the rows say of tags: equal sets have one number, and the numbers in use are those of the rows.
use Rattle.std.proofs.Common.{◌≡◌, ℕ, zero, suc, ◌+◌, ◌<◌, ◌≤◌, List, [], ◌∷◌, length, get_or, Option, Some, None, cond, count_by, is_some, arith, refl, ap, sym, ◌∙◌, inl, inr, add-zero, zero-add, Contains}
use Rattle.std.proofs.lemmas.List.Sums.{sum_by-cons}
use Rattle.std.specs.List.Sorted.{IsStrictlyIncreasing}
use Rattle.std.specs.Option.{option_map, option_map_or}
use Rattle.slab.proofs.SlabLemmas.{Contains-cons, Contains-cons_cases}
use Rattle.tag_table.specs.declared.row.Row.{Row}
use Rattle.tag_table.specs.Rows.{row_at, HasSet, AreDistinct}
use Rattle.tag_table.specs.Tags.{uses_at, members_at, tags_of, AreShared, AreInUse, AreCounted}

-- ---- equal sets

set_of-used : (row : Option Row) → 1 ≤ option_map_or (λ row. row.uses) row 0
    → option_map (λ row. row.set) row ≡ Some (option_map_or (λ row. row.set) row [])
set_of-used None used = absurd (omega arith)
set_of-used (Some row) used = refl

-- a number in use has a row with its members
pub has-members : (rows : List (Option Row)) (n : ℕ) → 1 ≤ uses_at rows n → HasSet rows (members_at rows n) n
has-members rows n used = set_of-used (row_at rows n) used

pub shared-distinct : (rows : List (Option Row)) (spare : ℕ) → AreDistinct rows
    → AreShared (tags_of (record { rows = rows; spare = spare }))
shared-distinct rows spare distinct m n used_m used_n same =
    distinct (members_at rows n) m n (has-members rows m used_m ∙ ap (λ set. Some set) same) (has-members rows n used_n)

-- ---- the numbers in use

-- the numbers of the rows, where the first place has the number k
abbrev numbers_from : ℕ → List (Option Row) → List ℕ
numbers_from k [] = []
numbers_from k (None ∷ rows) = numbers_from (k + 1) rows
numbers_from k (Some row ∷ rows) = k ∷ numbers_from (k + 1) rows

at-least : (k : ℕ) (rows : List (Option Row)) (i : ℕ) → i < length (numbers_from k rows)
    → k ≤ get_or (numbers_from k rows) i 0
at-least k [] i within = absurd (omega arith)
at-least k (None ∷ rows) i within = omega (arith, at-least (k + 1) rows i within)
at-least k (Some row ∷ rows) zero within = omega arith
at-least k (Some row ∷ rows) (suc i) within = omega (arith, at-least (k + 1) rows i (omega arith))

rising : (k : ℕ) (rows : List (Option Row)) → IsStrictlyIncreasing (numbers_from k rows)
rising k [] i more = absurd (omega arith)
rising k (None ∷ rows) i more = rising (k + 1) rows i more
rising k (Some row ∷ rows) zero more = omega (arith, at-least (k + 1) rows 0 (omega arith))
rising k (Some row ∷ rows) (suc i) more =
    let next : suc i + 1 ≡ suc (i + 1) = omega arith in
    rw next (rising (k + 1) rows i (omega arith))

length-numbers : (k : ℕ) (rows : List (Option Row)) → length (numbers_from k rows) ≡ count_by is_some rows
length-numbers k [] = refl
length-numbers k (None ∷ rows) =
    omega (arith, length-numbers (k + 1) rows, sum_by-cons (λ o. cond (is_some o) 1 0) None rows)
length-numbers k (Some row ∷ rows) =
    omega (arith, length-numbers (k + 1) rows, sum_by-cons (λ o. cond (is_some o) 1 0) (Some row) rows)

listed-row : (k : ℕ) (rows : List (Option Row)) (n : ℕ) (row : Row) → row_at rows n ≡ Some row
    → Contains (numbers_from k rows) (k + n)
listed-row k [] n row here = absurd (cc)
listed-row k (held ∷ rows) zero row here = rw (here, add-zero) (0, omega arith, refl)
listed-row k (None ∷ rows) (suc n) row here =
    let shift : k + suc n ≡ k + 1 + n = omega arith in
    rw shift (listed-row (k + 1) rows n row here)
listed-row k (Some other ∷ rows) (suc n) row here =
    let shift : k + suc n ≡ k + 1 + n = omega arith in
    rw shift (Contains-cons _ _ _ (listed-row (k + 1) rows n row here))

row-listed : (k : ℕ) (rows : List (Option Row)) (n : ℕ) → Contains (numbers_from k rows) n
    → (at : ℕ) × (n ≡ k + at) × (row : Row) × (row_at rows at ≡ Some row)
row-listed k [] n listed = absurd (omega (arith, listed.1))
row-listed k (None ∷ rows) n listed =
    let later = row-listed (k + 1) rows n listed in
    (suc later.0, omega (arith, later.1), later.2, later.3)
row-listed k (Some row ∷ rows) n listed =
    elim (Contains-cons_cases _ _ _ listed) [
      | inl here ↦ (0, omega (arith, here), row, refl)
      | inr there ↦
          let later = row-listed (k + 1) rows n there in
          (suc later.0, omega (arith, later.1), later.2, later.3)
    ]

row-used : (row : Option Row) → 1 ≤ option_map_or (λ row. row.uses) row 0 → (r : Row) × (row ≡ Some r)
row-used None used = absurd (omega arith)
row-used (Some row) used = (row, refl)

used-row : (rows : List (Option Row)) (left n : ℕ) (row : Row) → AreCounted rows left → row_at rows n ≡ Some row
    → 1 ≤ uses_at rows n
used-row rows left n row counted here = rw here (counted.used n row here)

pub in_use-counted : (rows : List (Option Row)) (spare left : ℕ) → AreCounted rows left
    → AreInUse (tags_of (record { rows = rows; spare = spare })) (count_by is_some rows)
in_use-counted rows spare left counted = record {
  numbers = numbers_from 0 rows;
  once = rising 0 rows;
  in_use = λ n. (
    λ listed.
        let row = row-listed 0 rows n listed in
        used-row rows left n row.2 counted (ap (row_at rows) (row.1 ∙ zero-add row.0) ∙ row.3),
    λ used.
        let row = row-used (row_at rows n) used in
        rw zero-add at (listed-row 0 rows n row.0 row.1),
  );
  counted = sym (length-numbers 0 rows);
}
