-- The causes that the tags in places stand for.
use Rattle.std.specs.Prelude.{ℕ, ◌≤◌, List, [], ◌∷◌, map, Option, Some, None}
use Rattle.std.specs.Option.{option_map}
use Rattle.std.specs.List.{filter_map}
use Rattle.split_types.specs.Sets.{union_of}
use Rattle.cause_set.specs.Tags.{Tags}

-- the store has at least these uses
abbrev pub Covered : (ℕ → ℕ) → Tags → Type 0
Covered uses tags = (n : ℕ) → uses n ≤ tags.uses n

module _ {T : Type 0} (number : T → ℕ) where
  -- the members of the tag in a place, if it has one
  abbrev pub causes_in : Tags → Option T → Option (List ℕ)
  causes_in tags place = option_map (λ t. tags.members (number t)) place

  -- those of each place
  abbrev pub causes_at : Tags → List (Option T) → List (Option (List ℕ))
  causes_at tags places = map (causes_in tags) places

-- the causes of a place, with further ones
abbrev pub wider : Option (List ℕ) → List ℕ → List ℕ
wider None more = more
wider (Some causes) more = union_of (causes ∷ more ∷ [])

-- the causes of two places together
abbrev pub joined : Option (List ℕ) → Option (List ℕ) → Option (List ℕ)
joined place None = place
joined place (Some more) = Some (wider place more)

-- those of two lists of places, place by place
abbrev pub joined_all : List (Option (List ℕ)) → List (Option (List ℕ)) → List (Option (List ℕ))
joined_all [] others = []
joined_all (place ∷ places) [] = place ∷ places
joined_all (place ∷ places) (other ∷ others) = joined place other ∷ joined_all places others

-- what the places have that aren't empty
abbrev pub all_in : {X : Type 0} → List (Option X) → List X
all_in places = filter_map (λ place. place) places

-- what lists of processes have together, if there is one
abbrev pub together : List (List ℕ) → Option (List ℕ)
together [] = None
together (causes ∷ more) = Some (union_of (causes ∷ more))

-- what all places have together, if one has any
abbrev pub whole_of : List (Option (List ℕ)) → Option (List ℕ)
whole_of places = together (all_in places)
