-- Keys spread over chains by their codes.
use Rattle.std.specs.Prelude.{◌≡◌, ℕ, ◌*◌, ◌/◌, ◌%◌, ◌^◌, ◌<◌, ◌≤◌, List, map, length, Option, Some, None, slice_index_or}
use Rattle.std.specs.Option.{option_map}
use Rattle.fixed_places.specs.Chains.{Chained}

-- the chain, of that many, to which a code belongs: the code is spread by a multiplication
unfoldable pub chain_of : ℕ → ℕ → ℕ
chain_of chains code = code * 11400714819323198485 % 2 ^ 64 / 2 ^ 32 * chains / 2 ^ 32

module _ {K : Type 0} (code : K → ℕ) where
  -- as many chains as places, each key in the chain of its code, and no key twice
  pub record IsTable (chained : Chained) (keys : List (Option K)) : Type 0 where
    pub some : 0 < length keys
    pub few : length keys ≤ 2 ^ 32
    pub count : chained.count ≡ length keys
    pub spread : chained.places ≡ map (option_map (λ key. chain_of (length keys) (code key))) keys
    pub only : (i j : ℕ) (key : K) → slice_index_or keys i None ≡ Some key → slice_index_or keys j None ≡ Some key
        → i ≡ j
