-- Marks in words of 64 bits: none, one, and those of two sets.
use Rattle.std.proofs.Common.{◌≡◌, ℕ, zero, suc, ◌-◌, ◌*◌, ◌/◌, ◌%◌, ◌^◌, ◌<◌, ◌≤◌, true, false, List, [], ◌∷◌, refl, ap, ◌∙◌, arith, get_or, set, inl, inr}
use Rattle.std.specs.Prelude.{◌&&◌, ◌||◌, nat_le, bit_or}
use Rattle.std.specs.Int.{bit_at}
use Rattle.std.proofs.lemmas.List.{get_or-set_same, get_or-set_other}
use Rattle.std.proofs.lemmas.Bool.{cases_eq}
use Rattle.std.proofs.lemmas.Bool.Decides.{nat_tests}
use Rattle.std.proofs.lemmas.Nat.{one_shl}
use Rattle.std.proofs.lemmas.Nat.Bits.{bit_at-zero, bit_at-lt, bit_at-pow_same, bit_at-pow_other, bit_at_or}
use Rattle.split_types.specs.Sets.{pids, has, some_has, union_of, IsSet}
use Rattle.split_types.proofs.Shared.{has-filter, has-pids, filter-same, filter-is_set, one-is_set}
use Rattle.cause_set.specs.Marks.{is_marked, marked}

-- what the marks say of a process
pub held : (words : List ℕ) (p : ℕ) → has (marked words) p ≡ (nat_le 1 p && nat_le p 256 && is_marked words p)
held words p = has-filter (is_marked words) pids p ∙ ap (λ b. b && is_marked words p) (has-pids p)

pub marked-is_set : (words : List ℕ) → IsSet (marked words)
marked-is_set words = filter-is_set (is_marked words)

-- words of zeros
abbrev pub no_marks : List ℕ
no_marks = 0 ∷ 0 ∷ 0 ∷ 0 ∷ []

pub zeros : (i : ℕ) → get_or no_marks i 0 ≡ 0
zeros zero = refl
zeros (suc zero) = refl
zeros (suc (suc zero)) = refl
zeros (suc (suc (suc zero))) = refl
zeros (suc (suc (suc (suc i)))) = refl

pub marked-none : marked no_marks ≡ []
unfolding pids
marked-none = refl

-- the word with the one mark
mark_here : (p q : ℕ) → q ≡ p → p < 257 → is_marked (set no_marks ((p - 1) / 64) (2 ^ ((p - 1) % 64))) q ≡ true
mark_here p q e within =
    rw (
      e,
      get_or-set_same no_marks ((p - 1) / 64) (2 ^ ((p - 1) % 64)) 0 (omega arith),
      bit_at-pow_same
          ((p - 1) % 64),
    ) refl

no_mark_there : (p q : ℕ) → (q ≡ p → ⊥) → 1 ≤ p → 1 ≤ q → p < 257
    → is_marked (set no_marks ((p - 1) / 64) (2 ^ ((p - 1) % 64))) q ≡ false
no_mark_there p q apart some there within =
    elim (cases_eq ((q - 1) / 64) ((p - 1) / 64)) [
      | inl e ↦
          let bit : bit_at (2 ^ ((p - 1) % 64)) ((q - 1) % 64) ≡ 0 =
          bit_at-pow_other ((p - 1) % 64) ((q - 1) % 64) (λ f. apart (omega arith)) in
          rw (e, get_or-set_same no_marks ((p - 1) / 64) (2 ^ ((p - 1) % 64)) 0 (omega arith), bit) refl
      | inr n ↦
          rw (
            get_or-set_other no_marks ((p - 1) / 64) ((q - 1) / 64) (2 ^ ((p - 1) % 64)) 0 n,
            zeros ((q - 1) / 64),
            bit_at-zero ((q - 1) % 64),
          ) refl
    ]

one_mark : (p q : ℕ) → 1 ≤ p → p ≤ 256 → has pids q ≡ true
    → is_marked (set no_marks ((p - 1) / 64) (2 ^ ((p - 1) % 64))) q ≡ has (p ∷ []) q
one_mark p q first last h =
    elim (cases_eq q p) [
      | inl e ↦ mark_here p q e (omega arith) ∙ grind (arith, nat_tests)
      | inr n ↦
          no_mark_there p q n first (grind (arith, nat_tests, has-pids q)) (omega arith) ∙ grind (arith, nat_tests)
    ]

pub marked-one : (p : ℕ) → 1 ≤ p → p ≤ 256
    → marked (set no_marks ((p - 1) / 64) (1 * 2 ^ ((p - 1) % 64) % 18446744073709551616)) ≡ p ∷ []
marked-one p first last =
    let shift : 1 * 2 ^ ((p - 1) % 64) % 18446744073709551616 ≡ 2 ^ ((p - 1) % 64) =
    one_shl ((p - 1) % 64) 64 (omega arith) in
    rw shift
    (filter-same (is_marked (set no_marks ((p - 1) / 64) (2 ^ ((p - 1) % 64)))) (has (p ∷ [])) pids
    (λ q h. one_mark p q first last h)
    ∙ one-is_set p first last)

-- the words of two sets, joined
abbrev pub joined : List ℕ → List ℕ → List ℕ
joined xs ys =
    bit_or (get_or xs 0 0) (get_or ys 0 0) ∷ bit_or (get_or xs 1 0) (get_or ys 1 0)
    ∷ bit_or (get_or xs 2 0) (get_or ys 2 0) ∷ bit_or (get_or xs 3 0) (get_or ys 3 0) ∷ []

joined_word : (xs ys : List ℕ) (i : ℕ) → i < 4 → get_or (joined xs ys) i 0 ≡ bit_or (get_or xs i 0) (get_or ys i 0)
joined_word xs ys zero l = refl
joined_word xs ys (suc zero) l = refl
joined_word xs ys (suc (suc zero)) l = refl
joined_word xs ys (suc (suc (suc zero))) l = refl
joined_word xs ys (suc (suc (suc (suc i)))) l = absurd (omega arith)

pub joined_mark : (xs ys : List ℕ) (p : ℕ) → p < 257 → is_marked (joined xs ys) p ≡ (is_marked xs p || is_marked ys p)
joined_mark xs ys p l =
    rw (
      joined_word xs ys ((p - 1) / 64) (omega arith),
      bit_at_or (get_or xs ((p - 1) / 64) 0) (get_or ys ((p - 1) / 64) 0) ((p - 1) % 64),
    )
    (grind (
      arith,
      nat_tests,
      bit_at-lt (get_or xs ((p - 1) / 64) 0) ((p - 1) % 64),
      bit_at-lt (get_or ys ((p - 1) / 64) 0) ((p - 1) % 64),
    ))

pub marked-union : (xs ys : List ℕ) → marked (joined xs ys) ≡ union_of (marked xs ∷ marked ys ∷ [])
marked-union xs ys =
    filter-same (is_marked (joined xs ys)) (some_has (marked xs ∷ marked ys ∷ [])) pids
    (λ p h. grind (arith, nat_tests, has-pids p, held xs p, held ys p, joined_mark xs ys p))
