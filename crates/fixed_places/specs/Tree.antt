-- A tree whose nodes each hold the lesser key of their two children, in a list: the root at 1, the
-- children of i at 2 * i and 2 * i + 1.
use Rattle.std.specs.Prelude.{◌≡◌, ◌≢◌, ◌⊎◌, ℕ, ◌+◌, ◌*◌, ◌/◌, ◌^◌, ◌<◌, ◌≤◌, false, List, length, Option, Some, None, IsSome, slice_index_or}
use Rattle.std.specs.declared.cmp.Ordering.{Ordering}
use Rattle.std.specs.Ordering.{is_gt}

module _ {K : Type 0} (R : K → K → Ordering) where
  -- the one key isn't above the other; no key is above every key
  abbrev pub Before : Option K → Option K → Type 0
  Before a None = Unit {0}
  Before None (Some y) = ⊥
  Before (Some x) (Some y) = is_gt (R x y) ≡ false

  -- r is the lesser of two
  pub record IsLesser (r a b : Option K) : Type 0 where
    pub left : Before r a
    pub right : Before r b
    pub one_of : (r ≡ a) ⊎ (r ≡ b)

  -- the node at i is the lesser of its children
  abbrev pub IsNode : List (Option K) → ℕ → Type 0
  IsNode nodes i = IsLesser (slice_index_or nodes i None) (slice_index_or nodes (2 * i) None)
      (slice_index_or nodes (2 * i + 1) None)

  -- each node but one is
  abbrev pub AreNodesBut : List (Option K) → ℕ → ℕ → Type 0
  AreNodesBut nodes places but = (i : ℕ) → 0 < i → i < places → i ≢ but → IsNode nodes i

  -- the nodes over that many places, which are the last of them
  pub record IsTree (places : ℕ) (nodes : List (Option K)) : Type 0 where
    pub some : 0 < places
    pub few : places ≤ 2 ^ 32
    pub len : length nodes ≡ 2 * places
    pub node : (i : ℕ) → 0 < i → i < places → IsNode nodes i

  -- a place has a key, and no place has a lesser one
  pub record IsLeast (keys : List (Option K)) (at : ℕ) : Type 0 where
    pub within : at < length keys
    pub some : IsSome (slice_index_or keys at None)
    pub least : (i : ℕ) → Before (slice_index_or keys at None) (slice_index_or keys i None)

-- the other child of a node's parent
pub record IsSibling (at other : ℕ) : Type 0 where
  pub side : ((at ≡ 2 * (at / 2)) × (other ≡ 2 * (at / 2) + 1)) ⊎ ((at ≡ 2 * (at / 2) + 1) × (other ≡ 2 * (at / 2)))

-- every place is empty
abbrev pub HasNone : {K : Type 0} → List (Option K) → Type 0
HasNone keys = (i : ℕ) → slice_index_or keys i None ≡ None
