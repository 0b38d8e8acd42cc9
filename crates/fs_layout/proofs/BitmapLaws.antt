-- Bitmaps.
use Rattle.std.proofs.Common.{◌≡◌, ℕ, zero, suc, ◌+◌, ◌*◌, ◌/◌, ◌%◌, ◌^◌, ◌<◌, ◌≤◌, Bool, true, false, IsTrue, List, [], ◌++◌, ◌∷◌, length, get_or, take, refl, sym, ap, ◌∙◌, arith, inl, inr, ◌==◌, if◌then◌else◌, eq-eqb, ◌≢◌}
use Rattle.std.specs.Prelude.{◌↔◌, EachIndex, slice_index_or}
use Rattle.std.specs.Int.{bit_at}
use Rattle.std.specs.Bool.{then_some}
use Rattle.std.proofs.Math.Nat.{pow-suc}
use Rattle.std.proofs.lemmas.Bool.{cases_lt, eqb-true}
use Rattle.std.proofs.lemmas.List.{ext_get_or, get_or-take, get_or_past, length-take-le}
use Rattle.std.proofs.lemmas.List.FromFn.{get_or-map-range_with_len, length-map-range_with_len, map-range_with_len_more}
use Rattle.std.proofs.lemmas.Nat.Bits.{bit_at_lowest, bit_at-suc, same_from_bits_below, bit_at-lt}
use Rattle.split_types.specs.DiskLayout.{number_of_bits, bitmap_block, taken_block, IsBitmap}
use Rattle.fs_layout.specs.declared.bitmap.BitImage.{BitImage}
use Rattle.fs_layout.specs.BitsOf.{bit_of, bits_of}
use Rattle.fs_layout.specs.Bitmaps.{bitmap_spelling, IsBitImage}
use Rattle.fs_layout.specs.Reading.{IsReading}
use Rattle.fs_layout.proofs.FieldLaws.{AreBytes}
use Rattle.fs_layout.proofs.ReadingLaws.{by_fields}

-- ---- a byte and its bits

abbrev digit : Bool → ℕ
digit b = if b then 1 else 0

digit_most : (b : Bool) → digit b ≤ 1
digit_most true = omega arith
digit_most false = omega arith

number_of_bits-below : (n : ℕ) (f : ℕ → Bool) → number_of_bits n f < 2 ^ n
number_of_bits-below zero f = omega arith
number_of_bits-below (suc n) f = let rest = number_of_bits-below n (λ i. f (i + 1)) in rw pow-suc
    (omega (arith, digit_most (f 0)))

bit_of_number : (n : ℕ) (f : ℕ → Bool) (k : ℕ) → k < n → bit_at (number_of_bits n f) k ≡ digit (f k)
bit_of_number zero f k lt = absurd (omega arith)
bit_of_number (suc n) f zero lt = bit_at_lowest (number_of_bits (suc n) f) ∙ omega (arith, digit_most (f 0))
bit_of_number (suc n) f (suc k) lt =
    let half : number_of_bits (suc n) f / 2 ≡ number_of_bits n (λ i. f (i + 1)) = omega (arith, digit_most (f 0)) in
    bit_at-suc (number_of_bits (suc n) f) k ∙ ap (λ (m : ℕ). bit_at m k) half
    ∙ bit_of_number n (λ i. f (i + 1)) k (omega arith) ∙ ap (λ (i : ℕ). digit (f i)) (omega arith)

digit_is : (n : ℕ) (b : Bool) → n < 2 → (n == 1) ≡ b → n ≡ digit b
digit_is n true lt e = eqb-true n 1 e
digit_is n false lt e = let apart : n ≢ 1 = λ same. let one : (n == 1) ≡ true = eq-eqb n 1 same in absurd cc in omega
    arith

tested_digit : (b : Bool) → (digit b == 1) ≡ b
tested_digit true = refl
tested_digit false = refl

number_from_bits : (n : ℕ) (f : ℕ → Bool) → n < 256 → ((k : ℕ) → k < 8 → (bit_at n k == 1) ≡ f k)
    → n ≡ number_of_bits 8 f
number_from_bits n f lt bits = same_from_bits_below 8 n (number_of_bits 8 f) lt (number_of_bits-below 8 f)
    (λ k within. digit_is (bit_at n k) (f k) (bit_at-lt n k) (bits k within) ∙ sym (bit_of_number 8 f k within))

-- ---- a block and its bits

length-bitmap_block : (f : ℕ → Bool) → length (bitmap_block f) ≡ 4096
unfolding bitmap_block
length-bitmap_block f = length-map-range_with_len (λ (j : ℕ). number_of_bits 8 (λ k. f (8 * j + k))) 0 4096

byte_of_block : (f : ℕ → Bool) (j : ℕ) → j < 4096 → get_or (bitmap_block f) j 0 ≡ number_of_bits 8 (λ k. f (8 * j + k))
unfolding bitmap_block
byte_of_block f j lt = get_or-map-range_with_len (λ (j : ℕ). number_of_bits 8 (λ k. f (8 * j + k))) 0 4096 j j 0 lt
    (omega arith)

pub bit_of_block : (f : ℕ → Bool) (i : ℕ) → i < 32768 → bit_of (bitmap_block f) i ≡ f i
bit_of_block f i lt =
    let byte = byte_of_block f (i / 8) (omega arith) in
    let place : 8 * (i / 8) + i % 8 ≡ i = omega arith in
    ap (λ (n : ℕ). bit_at n (i % 8) == 1) byte ∙ ap (λ (n : ℕ). n == 1) (bit_of_number 8 (λ k. f (8 * (i / 8) + k))
    (i % 8) (omega arith)) ∙ tested_digit (f (8 * (i / 8) + i % 8)) ∙ ap f place

pub block_from_bits : (b : List ℕ) (f : ℕ → Bool) → AreBytes b → length b ≡ 4096 → ((i : ℕ) → i < 32768
    → bit_of b i ≡ f i) → b ≡ bitmap_block f
block_from_bits b f bytes len bits = ext_get_or 0 b (bitmap_block f) (len ∙ sym (length-bitmap_block f)) (λ j within.
    number_from_bits (get_or b j 0) (λ k. f (8 * j + k)) (bytes j) (λ k lt.
    let byte : (8 * j + k) / 8 ≡ j = omega arith in
    let bit : (8 * j + k) % 8 ≡ k = omega arith in
    rw (byte, bit) at (bits (8 * j + k) (omega arith)))
    ∙ sym (byte_of_block f j (omega arith)))

-- a bitmap by its list
pub bitmap_written : (out : List ℕ) (taken : List Bool) → length out ≡ 4096
    → ((j : ℕ) → j < 4096 → get_or out j 0 ≡ number_of_bits 8 (λ k. slice_index_or taken (8 * j + k) false))
    → out ≡ taken_block taken
bitmap_written out taken len bytes = ext_get_or 0 out (taken_block taken) (len ∙ sym (length-bitmap_block _))
    (λ j within. bytes j (omega arith) ∙ sym (byte_of_block (λ i. slice_index_or taken i false) j (omega arith)))

-- ---- reading

pub bits_none : (b : List ℕ) → bits_of b 0 ≡ []
unfolding bits_of
bits_none b = refl

pub bits_more : (b : List ℕ) (n : ℕ) → bits_of b (n + 1) ≡ bits_of b n ++ bit_of b n ∷ []
unfolding bits_of
bits_more b n = map-range_with_len_more (bit_of b) 0 n n (omega arith)

pub length-bits_of : (b : List ℕ) (n : ℕ) → length (bits_of b n) ≡ n
unfolding bits_of
length-bits_of b n = length-map-range_with_len (bit_of b) 0 n

pub get_or-bits_of : (b : List ℕ) (n i : ℕ) → i < n → get_or (bits_of b n) i false ≡ bit_of b i
unfolding bits_of
get_or-bits_of b n i lt = get_or-map-range_with_len (bit_of b) 0 n i i false lt (omega arith)

pub bitmap_parts : (b : List ℕ) (taken : List Bool) → AreBytes b → length b ≡ 4096 → 526 ≤ length taken
    → length taken ≤ 32768 → taken ≡ bits_of b (length taken)
    → (EachIndex (take 526 taken) (λ i. slice_index_or (take 526 taken) i false ≡ true) × ((i : ℕ) → length taken ≤ i
    → i < 32768 → bit_of b i ≡ false)) ↔ (IsBitmap (length taken) taken × (b ≡ taken_block taken))
bitmap_parts b taken bytes len least most is = (
  λ p.
      let bit : (i : ℕ) → i < 32768 → bit_of b i ≡ slice_index_or taken i false =
      λ i lt. elim (cases_lt i (length taken)) [
        | inl inside ↦ sym (get_or-bits_of b (length taken) i inside) ∙ ap (λ (t : List Bool). get_or t i false)
            (sym is)
        | inr past ↦ p.1 i past lt ∙ sym (get_or_past taken i false past)
      ] in (
        record {
          len = refl;
          metadata = λ i lt. sym (get_or-take 526 taken i false lt)
              ∙ p.0 i (omega (arith, length-take-le 526 taken least));
        },
        block_from_bits b (λ i. slice_index_or taken i false) bytes len bit,
      ),
  λ q. (
    λ i within. let lt : i < 526 = omega (arith, length-take-le 526 taken least) in get_or-take 526 taken i false lt
        ∙ q.0.metadata i lt,
    λ i past lt. ap (λ (x : List ℕ). bit_of x i) q.1 ∙ bit_of_block (λ i. slice_index_or taken i false) i lt
        ∙ get_or_past taken i false past,
  ),
)

pub length-taken_block : (taken : List Bool) → length (taken_block taken) ≡ 4096
length-taken_block taken = length-bitmap_block _

pub bitmap_again : (b : List ℕ) (device : ℕ) (taken : List Bool) (y : BitImage) → device ≤ 32768
    → taken ≡ bits_of b device → IsBitImage device y → b ≡ bitmap_spelling y
    → (let x : BitImage = record { device = device; taken = taken } in x ≡ y)
bitmap_again b device taken y most is value e =
    let len : length taken ≡ device = ap length is ∙ length-bits_of b device in
    let same : taken ≡ y.taken = ext_get_or false taken y.taken (len ∙ sym value.bitmap.len) (λ i within.
    let lt : i < device = omega arith in
    ap (λ (t : List Bool). get_or t i false) is ∙ get_or-bits_of b device i lt ∙ ap (λ (x : List ℕ). bit_of x i) e
    ∙ bit_of_block (λ i. slice_index_or y.taken i false) i (omega arith)) in
    rw (sym value.of_disk, same) refl

pub bitmap_read : (b : List ℕ) (device : ℕ) (taken : List Bool) (test : Bool) → device ≤ 32768
    → taken ≡ bits_of b device → (IsTrue test ↔ (IsBitmap (length taken) taken × (b ≡ taken_block taken)))
    → IsReading (IsBitImage device) bitmap_spelling b (then_some {T = BitImage} test (record {
      device =
          device;
      taken = taken;
    }))
bitmap_read b device taken test most is decides =
    let len : length taken ≡ device = ap length is ∙ length-bits_of b device in
    by_fields (IsBitImage device) bitmap_spelling b _ test (λ y value e. bitmap_again b device taken y most
    is value e) (
      λ t. let both = decides.0 t in (record { of_disk = refl; bitmap = rw (← len) both.0 }, both.1),
      λ q. decides.1
          (rw len q.0.bitmap, q.1),
    )
