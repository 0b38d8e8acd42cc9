-- Tags of a store: what a store knows of them, what a holder holds of them, and how both change.
use Rattle.std.specs.Prelude.{◌≡◌, ℕ, ◌+◌, ◌<◌, ◌≤◌, ◌==◌, if◌then◌else◌, List, [], map, Option, Some, None, slice_index_or}
use Rattle.std.specs.List.{sum_by}
use Rattle.std.specs.Option.{option_map}

-- how often each number is in use, the members of each number, and for how many more uses there is room
pub record Tags : Type 0 where
  pub uses : ℕ → ℕ
  pub members : ℕ → List ℕ
  pub spare : ℕ

-- no number
abbrev pub no_use : ℕ → ℕ
no_use n = 0

-- the number m once
abbrev pub one_use : ℕ → ℕ → ℕ
one_use m n = if m == n then 1 else 0

-- the uses of both
abbrev pub plus : (ℕ → ℕ) → (ℕ → ℕ) → ℕ → ℕ
plus f g n = f n + g n

-- of each number the uses `gone` went and the uses `come` came; a number with more uses than went keeps its members
pub record Moved (old new : Tags) (gone come : ℕ → ℕ) : Type 0 where
  pub uses : (n : ℕ) → new.uses n + gone n ≡ old.uses n + come n
  pub keeps : (n : ℕ) → gone n < old.uses n → new.members n ≡ old.members n

-- a tag that is seen as its number
abbrev pub same : ℕ → ℕ
same n = n

module _ {T : Type 0} (number : T → ℕ) where
  -- the numbers of a list of places, each with a tag or empty
  abbrev pub numbers : List (Option T) → List (Option ℕ)
  numbers places = map (option_map number) places

  -- the use that a place holds
  abbrev pub use_in : Option T → ℕ → ℕ
  use_in None n = 0
  use_in (Some t) n = one_use (number t) n

  -- the uses that a list of places holds
  abbrev pub held : List (Option T) → ℕ → ℕ
  held places n = sum_by (λ place. use_in place n) places

  -- the store has at least the uses that the places hold
  abbrev pub Covers : List (Option T) → Tags → Type 0
  Covers places tags = (n : ℕ) → held places n ≤ tags.uses n

  -- the members of the tag in a place; nobody where it is empty
  abbrev pub set_in : Tags → Option T → List ℕ
  set_in tags None = []
  set_in tags (Some t) = tags.members (number t)

  -- the members of the tag in one of the places
  abbrev pub set_at : Tags → List (Option T) → ℕ → List ℕ
  set_at tags places i = set_in tags (slice_index_or places i None)

  -- the members of the tags in all places, one after another
  abbrev pub sets_of : Tags → List (Option T) → List (List ℕ)
  sets_of tags places = map (set_in tags) places
