use Rattle.std.proofs.Common.{◌≡◌, ◌-◌, ◌≤◌, map}
use Rattle.slab.specs.Slab.{slab_len}
use Rattle.sim_disk.specs.Bytes.{filled}
use Rattle.sim_disk.specs.Shared.{IsMade}
use Rattle.sim_disk.specs.Sheet.{Overwrites}
use Rattle.sim_disk.specs.Runs.{content, AreHeld}
use Rattle.sim_disk.proofs.blocks.Blocks.fill.Given as goal

-- the blocks so far are the shared block of the byte
abbrev pub invariant-loop-i : goal.invariant-loop-i
invariant-loop-i l = record {
  held : AreHeld l.self-inside.places.items l.self-inside.runs l.self-inside.shared.blocks;
  made : IsMade l.self-inside.shared.blocks l.byte;
  blocks : Overwrites l.fn.self.blocks (map (content l.self-inside.runs) l.self-inside.places.items) l.first l.i
      (λ i. filled l.byte);
  room : l.fn.self.room ≤ l.self-inside.runs.capacity - slab_len l.self-inside.runs;
  left : l.self-inside.shared.left ≤ l.fn.self.left;
  ready : l.self-inside.shared.ready ≡ l.fn.self.ready;
}
