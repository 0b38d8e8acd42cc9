-- What contracts see of the blocks of a disk.
use Rattle.std.specs.Prelude.{◌≡◌, ◌⊎◌, ℕ, ◌+◌, ◌<◌, ◌≤◌, List, length}
use Rattle.sim_disk.specs.Bytes.{block_at}

-- the bytes of each block, for how many more runs of bytes there is room, for how many bytes no shared block is
-- made yet, and for how many shared blocks memory is ready
pub record Sheet : Type 0 where
  pub blocks : List (List ℕ)
  pub room : ℕ
  pub left : ℕ
  pub ready : ℕ

-- the n blocks from `first` on hold these bytes, the i-th of them `bytes i`; all others hold what they held
pub record Overwrites (old new : List (List ℕ)) (first n : ℕ) (bytes : ℕ → List ℕ) : Type 0 where
  pub size : length new ≡ length old
  pub written : (i : ℕ) → i < n → block_at new (first + i) ≡ bytes i
  pub others : (b : ℕ) → (b < first) ⊎ (first + n ≤ b) → block_at new b ≡ block_at old b
