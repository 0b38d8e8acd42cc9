-- How the open pairs lie in memory: each in a place of its own.
use Rattle.std.specs.Prelude.{◌≡◌, ℕ, ◌^◌, ◌<◌, ◌≤◌, Bool, true, false, List, [], ◌∷◌, length, count_by, Option, Some, None}
use Rattle.std.specs.List.{cons_option}
use Rattle.token_ledger.specs.declared.pair.Pair.{Pair}
use Rattle.token_ledger.specs.declared.place.Place.{Place}
use Rattle.token_ledger.specs.declared.place.Place.TheVariants.{Free, Open}
use Rattle.token_ledger.specs.declared.pairs.Owed.{Owed}

-- what is seen of them: the open pairs, and for how many more there is room
pub record OpenOnes : Type 0 where
  pub pairs : List Pair
  pub spare : ℕ

-- the pair in a place, if it has one
abbrev pub pair_in : Option Place → Owed → Option Pair
pair_in None owed = None
pair_in (Some Free) owed = None
pair_in (Some (Open buf mark)) owed = Some (record { buf = buf; by = owed.by; estimate = owed.estimate; mark = mark })

-- the pairs in all places
abbrev pub pairs_in : List (Option Place) → List Owed → List Pair
pairs_in [] owed = []
pairs_in (place ∷ places) [] = []
pairs_in (place ∷ places) (o ∷ owed) = cons_option (pair_in place o) (pairs_in places owed)

abbrev pub is_free : Option Place → Bool
is_free (Some Free) = true
is_free _ = false

-- for each place it is known what is owed, and the free ones are counted
pub record ArePlaces (places : List (Option Place)) (owed : List Owed) (free : ℕ) : Type 0 where
  pub some : 0 < length places
  pub few : length places ≤ 2 ^ 32
  pub owed_len : length owed ≡ length places
  pub counted : free ≡ count_by is_free places
