use Rattle.std.proofs.Common.{◌≡◌, ◌+◌, ◌-◌, ◌≤◌, map}
use Rattle.slab.specs.Slab.{get, slab_len}
use Rattle.sim_disk.specs.Bytes.{block_of}
use Rattle.sim_disk.specs.Sheet.{Overwrites}
use Rattle.sim_disk.specs.Runs.{bytes_in, content, AreHeld}
use Rattle.sim_disk.proofs.blocks.Blocks.hold_run.Given as goal

-- the blocks so far stand in the new run, which is kept
abbrev pub invariant-loop-i : goal.invariant-loop-i
invariant-loop-i l = record {
  held : AreHeld l.self-inside.places.items l.self-inside.runs l.self-inside.shared.blocks;
  run : bytes_in (get l.self-inside.runs l.run) ≡ l.fn.bytes.items;
  blocks : Overwrites l.fn.self.blocks (map (content l.self-inside.runs) l.self-inside.places.items) l.first l.i
      (block_of l.fn.bytes.items);
  room : l.fn.self.room ≤ l.self-inside.runs.capacity - slab_len l.self-inside.runs + 1;
  left : l.self-inside.shared.left ≡ l.fn.self.left;
  ready : l.self-inside.shared.ready ≡ l.fn.self.ready;
}
