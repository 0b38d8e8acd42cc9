use Rattle.std.proofs.Common.{ℕ, ◌+◌, ◌-◌, ◌≤◌, min, map}
use Rattle.slab.specs.Slab.{slab_len}
use Rattle.sim_disk.specs.Bytes.{spread, block_of}
use Rattle.sim_disk.specs.Sheet.{Overwrites}
use Rattle.sim_disk.specs.Runs.{content, AreHeld}
use Rattle.sim_disk.proofs.blocks.Blocks.hold_filled.Given as goal

-- the blocks so far are shared blocks, and memory is ready for those to come
abbrev pub invariant-loop-at : goal.invariant-loop-at
invariant-loop-at l = record {
  held : AreHeld l.self-inside.places.items l.self-inside.runs l.self-inside.shared.blocks;
  blocks : Overwrites l.fn.self.blocks (map (content l.self-inside.runs) l.self-inside.places.items) l.first l.at
      (block_of (spread l.fills));
  room : l.fn.self.room ≤ l.self-inside.runs.capacity - slab_len l.self-inside.runs;
  ready : (n : ℕ) → min (16 + n) l.fn.self.left ≤ l.fn.self.ready
      → min (16 - l.at + n) l.self-inside.shared.left ≤ l.self-inside.shared.ready;
}
