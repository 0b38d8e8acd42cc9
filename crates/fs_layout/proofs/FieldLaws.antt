-- Fields of a block: numbers and zeros.
use Rattle.std.proofs.Common.{◌≡◌, ℕ, zero, suc, ◌+◌, ◌-◌, ◌^◌, ◌<◌, ◌≤◌, Bool, true, false, IsTrue, List, [], ◌∷◌, ◌++◌, length, get_or, take, drop, set, refl, sym, ap, ◌∙◌, arith, add-one}
use Rattle.std.specs.Prelude.{◌↔◌, ◌==◌, fold, max}
use Rattle.std.specs.Int.{w32, from_le_bytes}
use Rattle.std.proofs.Math.Seq.{take-add}
use Rattle.std.proofs.lemmas.List.{drop_more, drop-replicate, length-replicate, replicate-append-replicate, drop-drop, ext_get_or, take_at, drop_at, take_all, take-append-drop, length-take-le, length-drop, length-append, append_assoc, append-nil, set-append_right}
use Rattle.std.proofs.lemmas.Bool.{eqb-true, eq-eqb}
use Rattle.std.proofs.lemmas.Nat.{le_bytes_4, from_le_bytes-to_le_bytes_4}
use Rattle.split_types.specs.DiskLayout.{zeros, number}
use Rattle.fs_layout.specs.Fields.{number_at, with_bytes}

-- a list of bytes
abbrev pub AreBytes : List ℕ → Type 0
AreBytes bytes = (i : ℕ) → get_or bytes i 0 < 256

-- ---- zeros

pub length-zeros : (n : ℕ) → length (zeros n) ≡ n
unfolding zeros
length-zeros n = length-replicate n 0

pub drop-zeros : (m n : ℕ) → drop m (zeros n) ≡ zeros (n - m)
unfolding zeros
drop-zeros m n = drop-replicate m n 0

pub zeros-append : (m n : ℕ) → zeros m ++ zeros n ≡ zeros (m + n)
unfolding zeros
zeros-append m n = replicate-append-replicate m n 0

pub get_or-zeros : (n i : ℕ) → get_or (zeros n) i 0 ≡ 0
unfolding zeros
get_or-zeros zero i = refl
get_or-zeros (suc n) zero = refl
get_or-zeros (suc n) (suc i) = get_or-zeros n i

-- a list of bytes 0 is the list of as many zeros
pub zeros_from_all : (xs : List ℕ) (n : ℕ) → length xs ≡ n → ((i : ℕ) → i < length xs → get_or xs i 0 ≡ 0)
    → xs ≡ zeros n
zeros_from_all xs n len all = ext_get_or 0 xs (zeros n) (len ∙ sym (length-zeros n)) (λ i within. all i within
    ∙ sym (get_or-zeros n i))

-- the greatest byte is 0 exactly where each is
greatest_from : (m : ℕ) (xs : List ℕ) → m ≤ fold max m xs
greatest_from m [] = omega arith
greatest_from m (x ∷ xs) = omega (arith, greatest_from (max m x) xs)

none_greater : (m : ℕ) (xs : List ℕ) → fold max m xs ≡ 0 → (i : ℕ) → i < length xs → get_or xs i 0 ≡ 0
none_greater m [] e i within = absurd (omega arith)
none_greater m (x ∷ xs) e zero within = omega (arith, greatest_from (max m x) xs)
none_greater m (x ∷ xs) e (suc i) within = none_greater (max m x) xs e i (omega arith)

all_zero : (xs : List ℕ) → ((i : ℕ) → i < length xs → get_or xs i 0 ≡ 0) → fold max 0 xs ≡ 0
all_zero [] each = refl
all_zero (x ∷ xs) each =
    ap (λ (m : ℕ). fold max m xs) (omega (arith, each 0 (omega arith)))
    ∙ all_zero xs (λ i within. each (suc i) (omega arith))

pub greatest_zero : (xs : List ℕ) (greatest : ℕ) → greatest ≡ fold max 0 xs
    → IsTrue (greatest == 0) ↔ ((i : ℕ) → i < length xs → get_or xs i 0 ≡ 0)
greatest_zero xs greatest e = (
  λ is. none_greater 0 xs (sym e ∙ eqb-true greatest 0 is),
  λ each. eq-eqb greatest 0 (e ∙ all_zero xs each),
)

-- ---- numbers

pub number_again : (n : ℕ) → n < 2 ^ 32 → from_le_bytes w32 (number n) ≡ n
number_again n fits = from_le_bytes-to_le_bytes_4 n fits

four_bytes : (a b c d : ℕ) → a < 256 → b < 256 → c < 256 → d < 256 → AreBytes (a ∷ b ∷ c ∷ d ∷ [])
four_bytes a b c d p q r s zero = p
four_bytes a b c d p q r s (suc zero) = q
four_bytes a b c d p q r s (suc (suc zero)) = r
four_bytes a b c d p q r s (suc (suc (suc zero))) = s
four_bytes a b c d p q r s (suc (suc (suc (suc i)))) = omega arith

four_split : (b : List ℕ) (at : ℕ) → at + 4 ≤ length b
    → drop at b ≡ (get_or b at 0 ∷ get_or b (at + 1) 0 ∷ get_or b (at + 2) 0 ∷ get_or b (at + 3) 0 ∷ [])
    ++ drop (at + 4) b
four_split b at within =
    let one : drop at b ≡ get_or b at 0 ∷ drop (at + 1) b = drop_more b at 0 (omega arith) in
    let two : drop (at + 1) b ≡ get_or b (at + 1) 0 ∷ drop (at + 1 + 1) b = drop_more b (at + 1) 0 (omega arith) in
    let three : drop (at + 2) b ≡ get_or b (at + 2) 0 ∷ drop (at + 2 + 1) b = drop_more b (at + 2) 0 (omega arith) in
    let four : drop (at + 3) b ≡ get_or b (at + 3) 0 ∷ drop (at + 3 + 1) b = drop_more b (at + 3) 0 (omega arith) in
    grind arith

pub number_splits : (b : List ℕ) (at : ℕ) → AreBytes b → at + 4 ≤ length b → drop at b ≡ number (number_at b at)
    ++ drop (at + 4) b
number_splits b at bytes within =
    let w = get_or b at 0 ∷ get_or b (at + 1) 0 ∷ get_or b (at + 2) 0 ∷ get_or b (at + 3) 0 ∷ [] in
    let fits : AreBytes w = four_bytes _ _ _ _ (bytes at) (bytes (at + 1)) (bytes (at + 2)) (bytes (at + 3)) in
    let back : number (number_at b at) ≡ w = le_bytes_4 w _ refl fits refl in
    four_split b at within ∙ ap (λ (x : List ℕ). x ++ drop (at + 4) b) (sym back)

-- ---- reading from left to right

pub number_taken : (b front : List ℕ) (at : ℕ) → AreBytes b → at + 4 ≤ length b → take at b ≡ front
    → take (at + 4) b ≡ front ++ number (number_at b at)
number_taken b front at bytes within before =
    let split : b ≡ (front ++ number (number_at b at)) ++ drop (at + 4) b = sym (take-append-drop at b)
    ∙ ap (λ (x : List ℕ). x ++ drop at b) before
    ∙ ap (λ (x : List ℕ). front ++ x) (number_splits b at bytes within)
    ∙ sym (append_assoc front (number (number_at b at)) (drop (at + 4) b)) in
    let len : length front ≡ at = ap length (sym before) ∙ length-take-le at b (omega arith) in
    ap (take (at + 4)) split ∙ take_at (front ++ number (number_at b at)) (drop (at + 4) b) (at + 4)
    (omega (arith, length-append front (number (number_at b at)), len))

pub part_taken : (b front part : List ℕ) (at n : ℕ) → take at b ≡ front → take n (drop at b) ≡ part
    → take (at + n) b ≡ front ++ part
part_taken b front part at n before here = take-add at n b ∙ ap (λ (x : List ℕ). x ++ take n (drop at b)) before
    ∙ ap (λ (x : List ℕ). front ++ x) here

-- a block is what it begins with, and zeros
pub zeros_follow : (b front : List ℕ) (at n : ℕ) → at + n ≡ length b → take at b ≡ front
    → take n (drop at b) ≡ zeros n → b ≡ front ++ zeros n
zeros_follow b front at n len before after =
    let all : take n (drop at b) ≡ drop at b = take_all n (drop at b) (omega (arith, length-drop at b)) in
    sym (take-append-drop at b) ∙ ap (λ (x : List ℕ). x ++ drop at b) before
    ∙ ap (λ (x : List ℕ). front ++ x) (sym all ∙ after)

pub zeros_after : (b front : List ℕ) (at n : ℕ) → b ≡ front ++ zeros n → length front ≡ at
    → take n (drop at b) ≡ zeros n
zeros_after b front at n e len = ap (λ (x : List ℕ). take n (drop at x)) e
    ∙ ap (take n) (drop_at front (zeros n) at len) ∙ take_all n (zeros n) (omega (arith, length-zeros n))

-- a test that decides one fact decides each that is the same
pub decides_too : {P Q : Type 0} (test : Bool) → (P ↔ Q) → (IsTrue test ↔ P) → IsTrue test ↔ Q
decides_too test same decides = (λ t. same.0 (decides.0 t), λ q. decides.1 (same.1 q))

-- of two tests the first has passed, so that the second decides
pub second_decides : {P Q R : Type 0} (first second : Bool) → ((P × Q) ↔ R) → (IsTrue first ↔ P) → IsTrue first
    → (IsTrue second ↔ Q) → IsTrue second ↔ R
second_decides first second both is passed decides = (
  λ t. both.0 (is.0 passed, decides.0 t),
  λ r. decides.1
      (both.1 r).1,
)

-- of two tests the first has failed
pub first_decides : {P Q R : Type 0} (first : Bool) → ((P × Q) ↔ R) → (IsTrue first ↔ P) → first ≡ false
    → IsTrue first ↔ R
first_decides first both is failed = (λ t. absurd (let e : true ≡ false = sym t ∙ failed in cc), λ r. is.1 (both.1 r).0)

-- ---- writing from left to right

-- a block that was written up to a place, and is 0 from there on
pub record IsFilled (block front : List ℕ) (rest : ℕ) : Type 0 where
  pub filled : block ≡ front ++ zeros rest

pub filled_none : (block : List ℕ) (n : ℕ) → block ≡ zeros n → IsFilled block [] n
filled_none block n e = record { filled = e }

pub filled_bytes : (block new front bytes : List ℕ) (at rest left : ℕ) → IsFilled block front rest
    → new ≡ with_bytes block at bytes → length front ≡ at → length bytes + left ≡ rest
    → IsFilled new (front ++ bytes) left
filled_bytes block new front bytes at rest left before e len fits =
    let is = before.filled in
    let first : take at block ≡ front = rw is (take_at front (zeros rest) at len) in
    let here : drop at block ≡ zeros rest = rw is (drop_at front (zeros rest) at len) in
    let last : drop (at + length bytes) block ≡ zeros left = sym (drop-drop (length bytes) at block)
    ∙ ap (λ (x : List ℕ). drop (length bytes) x) here ∙ drop-zeros (length bytes) rest ∙ ap zeros (omega arith) in
    record {
      filled = e ∙ ap (λ (x : List ℕ). x ++ bytes ++ drop (at + length bytes) block) first
          ∙ ap (λ (x : List ℕ). front ++ bytes ++ x) last;
    }

-- bytes that stay 0
pub filled_more : (block front : List ℕ) (n left rest : ℕ) → n + left ≡ rest → IsFilled block front rest
    → IsFilled block (front ++ zeros n) left
filled_more block front n left rest sum before =
    record {
      filled = before.filled ∙ ap (λ (x : List ℕ). front ++ x) (ap zeros (sym sum)
          ∙ sym (zeros-append n left)) ∙ sym (append_assoc front (zeros n) (zeros left));
    }

pub filled_all : (block front : List ℕ) → IsFilled block front 0 → block ≡ front
unfolding zeros
filled_all block front before = before.filled ∙ append-nil front

set_zeros : (n v : ℕ) → set (zeros (n + 1)) 0 v ≡ v ∷ zeros n
unfolding zeros
set_zeros n v = rw add-one refl

pub filled_byte : (block new front : List ℕ) (at rest left v : ℕ) → IsFilled block front rest → new ≡ set block at v
    → length front ≡ at → left + 1 ≡ rest → IsFilled new (front ++ v ∷ []) left
filled_byte block new front at rest left v before e len fits =
    let is = before.filled in
    let here : set (front ++ zeros rest) at v ≡ front ++ set (zeros rest) (at - at) v =
    set-append_right front (zeros rest) at at v len (omega arith) in
    let none : at - at ≡ 0 = omega arith in
    let next : set (zeros rest) (at - at) v ≡ v ∷ zeros left = rw (none, ← fits) (set_zeros left v) in
    record {
      filled = e ∙ ap (λ (x : List ℕ). set x at v) is ∙ here ∙ ap (λ (x : List ℕ). front ++ x) next
          ∙ sym (append_assoc front (v ∷ []) (zeros left));
    }
