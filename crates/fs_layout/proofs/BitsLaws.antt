-- A bitmap in memory: one bit changes.
use Rattle.std.proofs.Common.{◌≡◌, ◌≢◌, ℕ, ◌-◌, ◌*◌, ◌/◌, ◌%◌, ◌^◌, ◌<◌, Bool, true, false, List, length, get_or, set, replicate, sym, ap, ◌∙◌, arith, inl, inr, ◌==◌}
use Rattle.std.specs.Prelude.{bit_and, bit_or}
use Rattle.std.specs.Int.{w8, bit_at}
use Rattle.std.proofs.lemmas.Bool.{cases_lt, cases_eq}
use Rattle.std.proofs.lemmas.List.{ext_get_or, get_or_past, get_or-set_same, get_or-set_other, length-set, get_or-replicate, length-replicate}
use Rattle.std.proofs.lemmas.Nat.Bits.{bit_at_set_same, bit_at_set_other, bit_at_clear_same, bit_at_clear_other, bit_at-zero}
use Rattle.fs_layout.specs.BitsOf.{bit_of, all_bits_of}
use Rattle.fs_layout.proofs.BitmapLaws.{length-bits_of, get_or-bits_of, block_from_bits}
use Rattle.fs_layout.proofs.FieldLaws.{AreBytes}
use Rattle.split_types.specs.DiskLayout.{taken_block}

-- the one bit of a byte is set to v, and the others stay
pub record IsSetBit (new old at : ℕ) (v : Bool) : Type 0 where
  pub here : (bit_at new at == 1) ≡ v
  pub others : (k : ℕ) → k < 8 → k ≢ at → bit_at new k ≡ bit_at old k

bit_once_set : (bytes : List ℕ) (new i m : ℕ) (v : Bool) → length bytes ≡ 4096 → i < 32768 → m < 32768
    → IsSetBit new (get_or bytes (i / 8) 0) (i % 8) v → bit_of (set bytes (i / 8) new) m ≡ get_or
    (set (all_bits_of bytes) i v) m false
bit_once_set bytes new i m v len lt within is =
    let size : length (all_bits_of bytes) ≡ 32768 = length-bits_of bytes 32768 in
    elim (cases_eq m i) [
      | inl same ↦
          let byte : get_or (set bytes (i / 8) new) (i / 8) 0 ≡ new = get_or-set_same bytes (i / 8) new 0
          (omega arith) in
          let there : get_or (set (all_bits_of bytes) i v) i false ≡ v = get_or-set_same (all_bits_of bytes) i v
          false (omega arith) in
          rw (same, byte, there) is.here
      | inr apart ↦
          let there : get_or (set (all_bits_of bytes) i v) m false ≡ bit_of bytes m =
          get_or-set_other (all_bits_of bytes) i m v false apart ∙ get_or-bits_of bytes 32768 m within in
          elim (cases_eq (m / 8) (i / 8)) [
            | inl same ↦
                let byte : get_or (set bytes (i / 8) new) (i / 8) 0 ≡ new = get_or-set_same bytes (i / 8) new 0
                (omega arith) in
                let bit : bit_at new (m % 8) ≡ bit_at (get_or bytes (i / 8) 0) (m % 8) =
                is.others (m % 8) (omega arith) (λ e. apart (omega arith)) in
                ap (λ (n : ℕ). bit_at (get_or (set bytes (i / 8) new) n 0) (m % 8) == 1) same
                ∙ ap (λ (n : ℕ). bit_at n (m % 8) == 1) byte ∙ ap (λ (n : ℕ). n == 1) bit
                ∙ ap (λ (n : ℕ). bit_at (get_or bytes n 0) (m % 8) == 1) (sym same) ∙ sym there
            | inr other ↦
                ap (λ (n : ℕ). bit_at n (m % 8) == 1) (get_or-set_other bytes (i / 8) (m / 8) new 0 other) ∙ sym there
          ]
    ]

pub bits_once_set : (bytes : List ℕ) (new i : ℕ) (v : Bool) → length bytes ≡ 4096 → i < 32768
    → IsSetBit new (get_or bytes (i / 8) 0) (i % 8) v → all_bits_of (set bytes (i / 8) new) ≡ set (all_bits_of bytes)
    i v
bits_once_set bytes new i v len lt is =
    let size = length-bits_of (set bytes (i / 8) new) 32768 in
    ext_get_or false _ _ (size ∙ sym (length-set (all_bits_of bytes) i v ∙ length-bits_of bytes 32768)) (λ m within.
    let inside : m < 32768 = omega (arith, size) in
    get_or-bits_of (set bytes (i / 8) new) 32768 m inside ∙ bit_once_set bytes new i m v len lt inside is)

pub set_bit : (old at : ℕ) → at < 8 → IsSetBit (bit_or old (1 * 2 ^ at % 256)) old at true
set_bit old at lt = record {
  here = ap (λ (n : ℕ). n == 1) (bit_at_set_same w8 old at lt);
  others = λ k within apart. bit_at_set_other w8 old at lt k apart;
}

pub clear_bit : (old at : ℕ) → at < 8 → IsSetBit (bit_and old (255 - 1 * 2 ^ at % 256)) old at false
clear_bit old at lt = record {
  here = ap (λ (n : ℕ). n == 1) (bit_at_clear_same w8 old at lt);
  others = λ k within apart. bit_at_clear_other w8 old at lt k within apart;
}

pub no_bits : (bytes : List ℕ) (i : ℕ) → ((j : ℕ) → get_or bytes j 0 ≡ 0) → get_or (all_bits_of bytes) i false ≡ false
no_bits bytes i none =
    elim (cases_lt i 32768) [
      | inl lt ↦ get_or-bits_of bytes 32768 i lt ∙ ap (λ (n : ℕ). bit_at n (i % 8) == 1) (none (i / 8))
          ∙ ap (λ (n : ℕ). n == 1) (bit_at-zero (i % 8))
      | inr past ↦ get_or_past (all_bits_of bytes) i false (omega (arith, length-bits_of bytes 32768))
    ]

pub zeros_everywhere : (bytes : List ℕ) (n j : ℕ) → bytes ≡ replicate n 0 → get_or bytes j 0 ≡ 0
zeros_everywhere bytes n j e =
    elim (cases_lt j n) [
      | inl lt ↦ ap (λ (x : List ℕ). get_or x j 0) e ∙ get_or-replicate n j 0 0 lt
      | inr past ↦ ap (λ (x : List ℕ). get_or x j 0) e
          ∙ get_or_past (replicate n 0) j 0 (omega (arith, length-replicate {A = ℕ} n 0))
    ]

-- the block of the bits of bytes is the bytes
pub bits_again : (bytes : List ℕ) → length bytes ≡ 4096 → AreBytes bytes → bytes ≡ taken_block (all_bits_of bytes)
bits_again bytes len are = block_from_bits bytes (λ i. get_or (all_bits_of bytes) i false) are len
    (λ i lt. sym (get_or-bits_of bytes 32768 i lt))
