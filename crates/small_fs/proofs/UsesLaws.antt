-- How many pages have a block.
use Rattle.std.proofs.Common.{◌≡◌, ℕ, ◌+◌, ◌<◌, ◌≤◌, Bool, List, [], ◌∷◌, Option, Some, None, true, false, cond, inl, inr, refl, sym, ap, ◌∙◌, arith, nat_lt, ◌||◌, length, get_or, set, take}
use Rattle.std.specs.Prelude.{◌==◌, slice_index, sum_by, count_by, filter_map}
use Rattle.std.specs.List.{list_any}
use Rattle.std.proofs.lemmas.Bool.{cases_lt, cases_eq, lt-ltb, le-ltb, eq-eqb, ne_eqb, or_left}
use Rattle.std.proofs.lemmas.List.{get_or_past, get_or-set_same, get_or-set_other}
use Rattle.std.proofs.lemmas.List.Sums.{sum_by-cons, sum_by-set, sum_by_more_le, get_or-le-sum_by, count_by-le-length}
use mathlib.Core.Path.{fun_ext}
use Rattle.split_types.specs.LiveFiles.{LiveFile, Slots, maps_to, has_block, is_used}
use Rattle.split_types.specs.DiskLayout.{bitmap_block}
use Rattle.small_fs.specs.Uses.{Counts, is_counted, use_of, uses_in, uses_of, all_uses}

-- ---- some one is counted where the sum isn't 0

some_of_two : (m n : ℕ) → (nat_lt 0 m || nat_lt 0 n) ≡ nat_lt 0 (m + n)
some_of_two m n = elim (cases_lt 0 m) [
  | inl some ↦ or_left (nat_lt 0 m) (nat_lt 0 n) (lt-ltb 0 m some) ∙ sym (lt-ltb 0 (m + n) (omega arith))
  | inr none ↦
      let zero_is : m ≡ 0 = omega arith in
      let sum_is : m + n ≡ n = omega arith in
      ap (λ (b : Bool). b || nat_lt 0 n) (le-ltb 0 m none) ∙ sym (ap (nat_lt 0) sum_is)
]

some_counted : {X : Type 0} (p : X → Bool) (f : X → ℕ) → ((x : X) → p x ≡ nat_lt 0 (f x)) → (xs : List X)
    → list_any p xs ≡ nat_lt 0 (sum_by f xs)
some_counted {X} p f each [] = refl
some_counted {X} p f each (x ∷ xs) = ap (λ (b : Bool). b || list_any p xs) (each x)
    ∙ ap (λ (b : Bool). nat_lt 0 (f x) || b) (some_counted p f each xs) ∙ some_of_two (f x) (sum_by f xs)
    ∙ sym (ap (nat_lt 0) (sum_by-cons f x xs))

-- ---- the blocks that are counted are those that are used

one_if : (b : Bool) → b ≡ nat_lt 0 (cond b 1 0)
one_if true = refl
one_if false = refl

has_uses : (block : ℕ) (file : Option LiveFile) → has_block block file ≡ nat_lt 0 (uses_of block file)
has_uses block None = refl
has_uses block (Some f) = some_counted (maps_to block) (λ b. cond (maps_to block b) 1 0)
    (λ b. one_if (maps_to block b)) f.blocks

pub bitmap_counted : (c : Counts) (slots : Slots) → ((block : ℕ) → slice_index c.pages block ≡ all_uses block slots)
    → bitmap_block (is_counted c) ≡ bitmap_block (is_used c.first slots)
bitmap_counted c slots uses = ap bitmap_block (fun_ext (λ block.
    ap (λ (n : ℕ). nat_lt block c.first || nat_lt 0 n) (uses block)
    ∙ ap (λ (b : Bool). nat_lt block c.first || b)
    (sym (some_counted (has_block block) (uses_of block) (has_uses block) slots))))

-- ---- no page has a block

or_none : (b : Bool) (n : ℕ) → n ≡ 0 → b ≡ (b || nat_lt 0 n)
or_none true n e = refl
or_none false n e = sym (ap (nat_lt 0) e)

pub none_counted : (c : Counts) (block : ℕ) → ((i : ℕ) → slice_index c.pages i ≡ 0)
    → nat_lt block c.first ≡ is_counted c block
none_counted c block none = or_none (nat_lt block c.first) (slice_index c.pages block) (none block)

-- ---- one page more or less has a block

use_here : (b block : ℕ) → b ≡ block → use_of b (Some block) ≡ 1
use_here b block e = ap (λ (t : Bool). let n : ℕ = cond t 1 0 in n) (eq-eqb block b (sym e))

use_there : (b block : ℕ) → (b ≡ block → ⊥) → use_of b (Some block) ≡ 0
use_there b block ne = ap (λ (t : Bool). let n : ℕ = cond t 1 0 in n) (ne_eqb block b (λ e. ne (sym e)))

within_counted : (pages : List ℕ) (block : ℕ) → 0 < get_or pages block 0 → block < length pages
within_counted pages block some = elim (cases_lt block (length pages)) [
  | inl lt ↦ lt
  | inr past ↦ absurd (omega (arith, get_or_past pages block 0 past))
]

pub one_more : (pages : List ℕ) (block n : ℕ) → block < length pages → n ≡ get_or pages block 0 + 1 → (b : ℕ)
    → get_or (set pages block n) b 0 ≡ get_or pages b 0 + use_of b (Some block)
one_more pages block n lt e b = elim (cases_eq b block) [
  | inl same ↦
      let here : get_or pages b 0 ≡ get_or pages block 0 = ap (λ (k : ℕ). get_or pages k 0) same in
      let now : get_or (set pages block n) b 0 ≡ n = ap (λ (k : ℕ). get_or (set pages block n) k 0) same
      ∙ get_or-set_same pages block n 0 lt in
      omega (arith, use_here b block same)
  | inr other ↦ omega (arith, get_or-set_other pages block b n 0 other, use_there b block other)
]

pub one_less : (pages : List ℕ) (block n : ℕ) → 0 < get_or pages block 0 → n + 1 ≡ get_or pages block 0 → (b : ℕ)
    → get_or (set pages block n) b 0 + use_of b (Some block) ≡ get_or pages b 0
one_less pages block n some e b = elim (cases_eq b block) [
  | inl same ↦
      let here : get_or pages b 0 ≡ get_or pages block 0 = ap (λ (k : ℕ). get_or pages k 0) same in
      let now : get_or (set pages block n) b 0 ≡ n = ap (λ (k : ℕ). get_or (set pages block n) k 0) same
      ∙ get_or-set_same pages block n 0 (within_counted pages block some) in
      omega (arith, use_here b block same)
  | inr other ↦ omega (arith, get_or-set_other pages block b n 0 other, use_there b block other)
]

-- ---- the pages of a file

-- the pages of a file that have a block, after one of them got a block
pub uses_set : (b : ℕ) (blocks : List (Option ℕ)) (page : ℕ) (has : Option ℕ) → page < length blocks
    → uses_in b (set blocks page has) + use_of b (get_or blocks page None) ≡ uses_in b blocks + use_of b has
uses_set b blocks page has lt = sum_by-set (λ (o : Option ℕ). cond (maps_to b o) 1 0) blocks page has None lt

pub use_le : (b : ℕ) (blocks : List (Option ℕ)) (page : ℕ) → page < length blocks
    → use_of b (get_or blocks page None) ≤ uses_in b blocks
use_le b blocks page lt = get_or-le-sum_by (λ (o : Option ℕ). cond (maps_to b o) 1 0) blocks page None lt

pub uses_few : (b : ℕ) (blocks : List (Option ℕ)) → uses_in b blocks ≤ length blocks
uses_few b blocks = count_by-le-length (maps_to b) blocks

-- the blocks of a file, one after another, count as its pages do
pub uses_again : (b : ℕ) (blocks : List (Option ℕ))
    → count_by (λ (block : ℕ). block == b) (filter_map (λ (o : Option ℕ). o) blocks) ≡ uses_in b blocks
uses_again b [] = refl
uses_again b (None ∷ blocks) =
    omega (arith, uses_again b blocks, sum_by-cons (λ (o : Option ℕ). cond (maps_to b o) 1 0) None blocks)
uses_again b (Some block ∷ blocks) =
    sum_by-cons (λ (c : ℕ). cond (c == b) 1 0) block (filter_map (λ (o : Option ℕ). o) blocks)
    ∙ ap (λ (n : ℕ). cond (block == b) 1 0 + n) (uses_again b blocks)
    ∙ sym (sum_by-cons (λ (o : Option ℕ). cond (maps_to b o) 1 0) (Some block) blocks)

-- of the blocks up to one, fewer are this one than of all
some_left_of : (b : ℕ) (blocks : List ℕ) (i : ℕ) → i < length blocks → get_or blocks i 0 ≡ b
    → count_by (λ (block : ℕ). block == b) (take i blocks) < count_by (λ (block : ℕ). block == b) blocks
some_left_of b blocks i lt is =
    let one : (let n : ℕ = cond (get_or blocks i 0 == b) 1 0 in n) ≡ 1 =
    ap (λ (t : Bool). let n : ℕ = cond t 1 0 in n) (eq-eqb (get_or blocks i 0) b is) in
    let more : count_by (λ (block : ℕ). block == b) (take i blocks)
    + (let n : ℕ = cond (get_or blocks i 0 == b) 1 0 in n)
    ≤ count_by (λ (block : ℕ). block == b) blocks = sum_by_more_le (λ (c : ℕ). cond (c == b) 1 0) blocks i 0 lt in
    omega (arith, one, more)

pub some_left : (blocks : List ℕ) (i : ℕ) → i < length blocks
    → count_by (λ (block : ℕ). block == get_or blocks i 0) (take i blocks)
    < count_by (λ (block : ℕ). block == get_or blocks i 0) blocks
some_left blocks i lt = some_left_of (get_or blocks i 0) blocks i lt refl
