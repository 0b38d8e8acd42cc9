-- The numbers that end a line.
use Rattle.std.specs.Prelude.{◌≡◌, ◌≢◌, ℕ, ◌<◌, List, [], ◌∷◌, ◌++◌, length, map, take, Bool, true, ◌&&◌, if◌then◌else◌, Option, Some, None}
use Rattle.std.specs.List.{list_all}
use Rattle.std.specs.Borrow.{Bor}
use Rattle.split_types.specs.EventText.{numerals, flag}
use Rattle.workload_reader.specs.Fields.{ends_number, behind}
use Rattle.trace_text.specs.EventLines.{is_small, is_wide}
use Rattle.trace_text.specs.declared.numbers.Numbers.{Numbers}

-- the number, where it has at most 32 bits; else 0
abbrev pub small_or_none : ℕ → ℕ
small_or_none n = if is_small n then n else 0

-- the same of 64 bits
abbrev pub wide_or_none : ℕ → ℕ
wide_or_none n = if is_wide n then n else 0

-- so many numbers stand at the front, each behind a space; they are the first ones kept, and all of them fit or not
pub record SmallsAt (text : List ℕ) (count : ℕ) (small : List ℕ) (within : Bool) (rest : List ℕ) : Type 0 where
  pub ns : List ℕ
  pub number : length ns ≡ count
  pub text_is : text ≡ behind (numerals ns) rest
  pub ends : 0 < count → ends_number rest ≡ true
  pub small_is : take count small ≡ map small_or_none ns
  pub within_is : within ≡ list_all is_small ns
  pub places : length small ≡ 7

-- the numbers of a line: those of 32 bits, and that of 64 behind them
abbrev pub LineNumbers : Type 0
LineNumbers = List ℕ × List ℕ

-- there are so many of them
abbrev pub HasCounts : ℕ → Bool → LineNumbers → Type 0
HasCounts count has_wide x = (length x.0 ≡ count) × (length x.1 ≡ flag has_wide)

abbrev pub number_words : LineNumbers → List (List ℕ)
number_words x = numerals (x.0 ++ x.1)

abbrev pub wide_of : Bool → Numbers → List ℕ
wide_of has_wide n = if has_wide then n.wide ∷ [] else []

-- n has these numbers
pub record Holds (count : ℕ) (has_wide : Bool) (x : LineNumbers) (n : Numbers) : Type 0 where
  pub small : take count n.small ≡ map small_or_none x.0
  pub wide : wide_of has_wide n ≡ map wide_or_none x.1
  pub within : n.within ≡ (list_all is_small x.0 && list_all is_wide x.1)
  pub places : length n.small ≡ 7

-- one number more was read, where it was to follow
pub record WidenedBy (old new : Numbers) (text : List ℕ) (has_wide : Bool) (rest : List ℕ) : Type 0 where
  pub ws : List ℕ
  pub number : length ws ≡ flag has_wide
  pub text_is : text ≡ behind (numerals ws) rest
  pub ends : 0 < length ws → ends_number rest ≡ true
  pub small_is : new.small ≡ old.small
  pub wide_is : wide_of has_wide new ≡ map wide_or_none ws
  pub within_is : new.within ≡ (old.within && list_all is_wide ws)

abbrev pub Widens : Numbers → List ℕ → Bool → Option (Numbers × Bor (List ℕ)) → Type 0
Widens old text has_wide None = (ws : List ℕ) (rest : List ℕ) → length ws ≡ flag has_wide → ends_number rest ≡ true
    → text ≢ behind (numerals ws) rest
Widens old text has_wide (Some r) = WidenedBy old r.0 text has_wide r.1.now
