-- What the words ask for.
use Rattle.std.specs.Prelude.{◌≡◌, ℕ, ◌<◌, ◌^◌, List, [], ◌∷◌, codes}
use Rattle.split_types.specs.Lines.{numeral}
use Rattle.split_top.specs.declared.command.Command.{Command}
use Rattle.split_top.specs.declared.command.Command.TheVariants.{Replay, Gen}

-- the words of what can be asked for
abbrev pub words_of : Command → List (List ℕ)
words_of Replay = codes "replay" ∷ []
words_of (Gen n) = codes "gen" ∷ numeral n ∷ []

-- its number has 32 bits
abbrev pub IsShort : Command → Type 0
IsShort Replay = Unit {0}
IsShort (Gen n) = n < 2 ^ 32

-- the words ask for this
pub record Asks (words : List (List ℕ)) (command : Command) : Type 0 where
  pub words_are : words ≡ words_of command
  pub short : IsShort command

-- the words are those of nothing that can be asked for
abbrev pub AskNothing : List (List ℕ) → Type 0
AskNothing words = (command : Command) → Asks words command → ⊥
