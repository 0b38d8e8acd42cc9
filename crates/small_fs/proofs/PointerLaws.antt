-- The map of a file in memory.
use Rattle.std.proofs.Common.{◌≡◌, ℕ, zero, suc, ◌<◌, ◌≤◌, Bool, false, List, [], ◌∷◌, map, replicate, get_or, take, inl, inr, Option, Some, None, refl, sym, ap, ◌∙◌, cond, arith}
use Rattle.std.specs.Prelude.{not, ◌==◌, filter, filter_map}
use Rattle.std.proofs.lemmas.Bool.{cases_lt, ne_eqb}
use Rattle.std.proofs.lemmas.List.{length-replicate, get_or-replicate, get_or_past}
use Rattle.split_types.specs.LiveFiles.{pointer, unmapped}
use Rattle.small_fs.specs.Pointers.{block_named}

-- numbers that name no block
named-zeros : (n : ℕ) → map block_named (replicate n 0) ≡ replicate n None
named-zeros zero = refl
named-zeros (suc n) = ap (λ (bs : List (Option ℕ)). None ∷ bs) (named-zeros n)

pub named-none : (n : ℕ) → map block_named (replicate n 0) ≡ unmapped n
unfolding unmapped
named-none n = named-zeros n

pointer-named : (n : ℕ) → pointer (block_named n) ≡ n
pointer-named zero = refl
pointer-named (suc n) = refl

pub pointers_again : (ns : List ℕ) → map pointer (map block_named ns) ≡ ns
pointers_again [] = refl
pointers_again (n ∷ ns) = ap (λ (m : ℕ). m ∷ map pointer (map block_named ns)) (pointer-named n)
    ∙ ap (λ (ms : List ℕ). n ∷ ms) (pointers_again ns)

is_zero-suc : (n : ℕ) → (suc n == 0) ≡ false
is_zero-suc n = ne_eqb (suc n) 0 (λ e. omega arith)

pub blocks_kept : (ns : List ℕ) → filter_map (λ b. b) (map block_named ns) ≡ filter (λ n. not (n == 0)) ns
blocks_kept [] = refl
blocks_kept (zero ∷ ns) = blocks_kept ns
blocks_kept (suc n ∷ ns) = ap (λ (ms : List ℕ). suc n ∷ ms) (blocks_kept ns)
    ∙ ap (λ (is_zero : Bool). let ms : List ℕ =
    cond (not is_zero) (suc n ∷ filter (λ n. not (n == 0)) ns) (filter (λ n. not (n == 0)) ns) in ms)
    (sym (is_zero-suc n))

pub block_named-some : (n : ℕ) → 0 < n → block_named n ≡ Some n
block_named-some zero lt = absurd (omega arith)
block_named-some (suc n) lt = refl

pub block_named-none : (n : ℕ) → n ≡ 0 → block_named n ≡ None
block_named-none n e = ap block_named e

-- ---- no page from one on has a block

pub zeros_unmapped : (ns : List ℕ) → ns ≡ replicate 1008 0 → (page : ℕ) → get_or ns page 0 ≡ 0
zeros_unmapped ns e page = elim (cases_lt page 1008) [
  | inl lt ↦ ap (λ (ms : List ℕ). get_or ms page 0) e ∙ get_or-replicate 1008 page 0 0 lt
  | inr past ↦ ap (λ (ms : List ℕ). get_or ms page 0) e
      ∙ get_or_past (replicate 1008 0) page 0 (omega (arith, length-replicate {A = ℕ} 1008 0))
]

-- numbers of which each is 0 name no block
none_kept : (ns : List ℕ) → ((page : ℕ) → get_or ns page 0 ≡ 0) → filter (λ n. not (n == 0)) ns ≡ []
none_kept [] zeros = refl
none_kept (zero ∷ ns) zeros = none_kept ns (λ page. zeros (suc page))
none_kept (suc n ∷ ns) zeros = absurd (omega (arith, zeros 0))

pub kept_below : (ns : List ℕ) (end : ℕ) → ((page : ℕ) → end ≤ page → get_or ns page 0 ≡ 0)
    → filter (λ n. not (n == 0)) (take end ns) ≡ filter (λ n. not (n == 0)) ns
kept_below [] zero rest = refl
kept_below [] (suc end) rest = refl
kept_below (n ∷ ns) zero rest = sym (none_kept (n ∷ ns) (λ page. rest page (omega arith)))
kept_below (n ∷ ns) (suc end) rest =
    ap (λ (ms : List ℕ). let kept : List ℕ = cond (not (n == 0)) (n ∷ ms) ms in kept)
    (kept_below ns end (λ page past. rest (suc page) (omega arith)))
