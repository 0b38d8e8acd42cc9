-- How a set of pages of one file lies in memory: a bit for each page, in words of 64 bits, and how many there are.
use Rattle.std.specs.Prelude.{◌≡◌, ℕ, ◌+◌, ◌*◌, ◌/◌, ◌%◌, ◌^◌, ◌==◌, Bool, false, List, map, slice_index, slice_index_or, slice_set, bit_and, bit_or}
use Rattle.std.specs.Int.{bit_at, bit_not, w64}
use Rattle.std.specs.List.{range_with_len, count_by}
use Rattle.split_types.specs.DiskLayout.{number_of_bits}

-- the page has its bit
abbrev pub has_page : List ℕ → ℕ → Bool
has_page words g = bit_at (slice_index words (g / 64)) (g % 64) == 1

-- the words with the page's bit set, and with it cleared
unfoldable pub with_page : List ℕ → ℕ → List ℕ
with_page words g = slice_set words (g / 64) (bit_or (slice_index words (g / 64)) (1 * 2 ^ (g % 64) % 2 ^ 64))

unfoldable pub without_page : List ℕ → ℕ → List ℕ
without_page words g =
    slice_set words (g / 64) (bit_and (slice_index words (g / 64)) (bit_not w64 (1 * 2 ^ (g % 64) % 2 ^ 64)))

-- for each page of a file whether it is in the set
unfoldable pub pages_of : List ℕ → List Bool
pages_of words = map (has_page words) (range_with_len 0 1008)

-- the words of a set
unfoldable pub words_of : List Bool → List ℕ
words_of pages = map (λ k. number_of_bits 64 (λ i. slice_index_or pages (64 * k + i) false)) (range_with_len 0 16)

-- how many pages are in the set
unfoldable pub number_of : List Bool → ℕ
number_of pages = count_by (λ is_in. is_in) pages

-- what holds of the fields: they are those that the set gives, so no other bit is set
pub record IsPageSet (words : List ℕ) (count : ℕ) : Type 0 where
  pub words_are : words_of (pages_of words) ≡ words
  pub count_is : number_of (pages_of words) ≡ count
