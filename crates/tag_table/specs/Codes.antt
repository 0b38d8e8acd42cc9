-- The number by which the row of a set is found.
use Rattle.std.specs.Prelude.{ℕ, ◌+◌, ◌*◌, ◌%◌, ◌^◌, List}
use Rattle.cause_set.specs.Marks.{word_of}

-- a code with one more word
abbrev pub mixed : ℕ → ℕ → ℕ
mixed code word = (code * 15463147297127640467 % 2 ^ 64 + word) % 2 ^ 64

-- the code of a set: its four words, mixed
abbrev pub code_of : List ℕ → ℕ
code_of set = mixed (mixed (mixed (word_of set 0) (word_of set 1)) (word_of set 2)) (word_of set 3)
