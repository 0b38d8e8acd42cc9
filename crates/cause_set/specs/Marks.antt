-- How a set of processes lies in memory: a mark for each process, in words of 64 bits.
use Rattle.std.specs.Prelude.{◌≡◌, ℕ, zero, suc, ◌+◌, ◌-◌, ◌*◌, ◌/◌, ◌%◌, ◌^◌, ◌<◌, ◌≤◌, ◌==◌, Bool, if◌then◌else◌, List, [], ◌∷◌, filter, slice_index}
use Rattle.std.specs.Int.{bit_at}
use Rattle.std.specs.List.{range_with_len}
use Rattle.split_types.specs.Sets.{pids, has}

-- the process has its mark
abbrev pub is_marked : List ℕ → ℕ → Bool
is_marked words p = bit_at (slice_index words ((p - 1) / 64)) ((p - 1) % 64) == 1

-- the processes that have their marks, rising
abbrev pub marked : List ℕ → List ℕ
marked words = filter (is_marked words) pids

-- the processes from a number on that have their marks, rising
abbrev pub marked_from : List ℕ → ℕ → List ℕ
marked_from words from = filter (is_marked words) (range_with_len from (257 - from))

-- the marks of a number's word from the number on
abbrev pub shifted_word : List ℕ → ℕ → ℕ
shifted_word words a = slice_index words ((a - 1) / 64) / 2 ^ ((a - 1) % 64)

-- what is left of a word from a number on: 0 where it is not known
abbrev pub IsRest : List ℕ → ℕ → ℕ → Type 0
IsRest words from rest = 0 < rest → (from ≤ 256) × (rest ≡ shifted_word words from)

-- none is passed over from one number to another, whose word has a mark from there on
pub record IsWord (words : List ℕ) (from number word : ℕ) : Type 0 where
  pub some : 1 ≤ number
  pub within : number ≤ 256
  pub same : marked_from words from ≡ marked_from words number
  pub value : word ≡ shifted_word words number
  pub any : 0 < word

-- the number of n bits of which those are set that pass the test
abbrev pub number_of : (ℕ → Bool) → ℕ → ℕ
number_of f zero = 0
number_of f (suc n) = number_of (λ i. f (i + 1)) n * 2 + (if f 0 then 1 else 0)

-- a word of a set
unfoldable pub word_of : List ℕ → ℕ → ℕ
word_of set k = number_of (λ i. has set (64 * k + i + 1)) 64

-- the words of a set
abbrev pub words_of : List ℕ → List ℕ
words_of set = word_of set 0 ∷ word_of set 1 ∷ word_of set 2 ∷ word_of set 3 ∷ []

-- what holds of the words in memory: they are those of the set, so that none but the processes have marks
abbrev pub AreMarks : List ℕ → Type 0
AreMarks words = words_of (marked words) ≡ words
