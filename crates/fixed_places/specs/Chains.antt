-- Places in chains: a chain goes through its places, rising.
use Rattle.std.specs.Prelude.{◌≡◌, ◌==◌, ℕ, ◌+◌, ◌^◌, ◌<◌, ◌≤◌, Bool, true, false, List, length, Option, Some, None, slice_index_or, slice_set, IfSome}

-- how many chains there are, and the chain in each place
pub record Chained : Type 0 where
  pub count : ℕ
  pub places : List (Option ℕ)

-- whether a place is in the chain
abbrev pub is_chain : ℕ → Option ℕ → Bool
is_chain chain None = false
is_chain chain (Some other) = other == chain

abbrev pub is_in : ℕ → List (Option ℕ) → ℕ → Bool
is_in chain places at = is_chain chain (slice_index_or places at None)

-- the least place, from a place on, that passes the test; none where none does
abbrev pub IsFirst : (ℕ → Bool) → ℕ → Option ℕ → Type 0
IsFirst test from None = (i : ℕ) → from ≤ i → test i ≡ false
IsFirst test from (Some at) = (from ≤ at) × (test at ≡ true) × ((i : ℕ) → from ≤ i → i < at → test i ≡ false)

-- the greatest place below a place that passes the test; none where none does
abbrev pub IsLast : (ℕ → Bool) → ℕ → Option ℕ → Type 0
IsLast test below None = (i : ℕ) → i < below → test i ≡ false
IsLast test below (Some at) = (at < below) × (test at ≡ true) × ((i : ℕ) → at < i → i < below → test i ≡ false)

-- from its first place on, a chain goes through all places that pass the test, rising
pub record IsChain (test : ℕ → Bool) (first : Option ℕ) (nexts : List (Option ℕ)) : Type 0 where
  pub start : IsFirst test 0 first
  pub next : (i : ℕ) → test i ≡ true → IsFirst test (i + 1) (slice_index_or nexts i None)

-- each place leads up, if anywhere
abbrev pub Rises : List (Option ℕ) → Type 0
Rises nexts = (i : ℕ) → IfSome (slice_index_or nexts i None) (λ next. (i < next) × (next < length nexts))

-- what a chain has behind a place; behind none, its first place
abbrev pub next_of : Option ℕ → Option ℕ → List (Option ℕ) → Option ℕ
next_of None first nexts = first
next_of (Some at) first nexts = slice_index_or nexts at None

-- the first places and the next ones where a chain goes on elsewhere behind a place; behind none, it begins there
abbrev pub heads_linked : Option ℕ → List (Option ℕ) → ℕ → Option ℕ → List (Option ℕ)
heads_linked None heads chain to = slice_set heads chain to
heads_linked (Some at) heads chain to = heads

abbrev pub nexts_linked : Option ℕ → List (Option ℕ) → Option ℕ → List (Option ℕ)
nexts_linked None nexts to = nexts
nexts_linked (Some at) nexts to = slice_set nexts at to

-- each chain goes through its places
pub record AreChains (heads nexts places : List (Option ℕ)) : Type 0 where
  pub few : length places ≤ 2 ^ 32
  pub few_chains : length heads ≤ 2 ^ 32
  pub nexts_len : length nexts ≡ length places
  pub starts : (chain : ℕ) → IfSome (slice_index_or heads chain None) (λ first. first < length places)
  pub rises : Rises nexts
  pub known : (i : ℕ) → IfSome (slice_index_or places i None) (λ chain. chain < length heads)
  pub chains : (chain : ℕ) → chain < length heads → IsChain (is_in chain places) (slice_index_or heads chain None) nexts
