-- Sets of numbers as bits of words of 64, with a bit on top for each word.
use Rattle.std.specs.Prelude.{◌≡◌, ℕ, ◌<◌, ◌≤◌, ◌/◌, ◌%◌, ◌*◌, ◌^◌, ◌==◌, Bool, true, false, List, nat_lt, slice_index, slice_set, bit_and, bit_or}
use Rattle.std.specs.Int.{bit_at, bit_not, w64}

-- the number is in the set
abbrev pub is_set : List ℕ → ℕ → Bool
is_set words i = bit_at (slice_index words (i / 64)) (i % 64) == 1

-- each bit on top is set exactly where its word isn't 0
abbrev pub AreTops : List ℕ → List ℕ → Type 0
AreTops words tops = (k : ℕ) → is_set tops k ≡ nat_lt 0 (slice_index words k)

-- the least number of the set
pub record IsFirstSet (words : List ℕ) (i : ℕ) : Type 0 where
  pub set : is_set words i ≡ true
  pub least : (k : ℕ) → k < i → is_set words k ≡ false

-- the least number of the set from one on
pub record IsNextSet (words : List ℕ) (from i : ℕ) : Type 0 where
  pub set : is_set words i ≡ true
  pub low : from ≤ i
  pub least : (k : ℕ) → from ≤ k → k < i → is_set words k ≡ false

-- the set is empty
abbrev pub IsEmptySet : List ℕ → Type 0
IsEmptySet words = (i : ℕ) → is_set words i ≡ false

-- the words with a bit set, and with a bit cleared
unfoldable pub with_bit : List ℕ → ℕ → List ℕ
with_bit words i = slice_set words (i / 64) (bit_or (slice_index words (i / 64)) (1 * 2 ^ (i % 64) % 2 ^ 64))

unfoldable pub without_bit : List ℕ → ℕ → List ℕ
without_bit words i = slice_set words (i / 64) (bit_and (slice_index words (i / 64))
    (bit_not w64 (1 * 2 ^ (i % 64) % 2 ^ 64)))
