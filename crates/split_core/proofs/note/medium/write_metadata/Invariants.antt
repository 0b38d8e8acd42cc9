-- The first blocks hold their metadata.
use Rattle.split_core.specs.Medium.{HasMetadata}
use Rattle.split_core.proofs.note.medium.write_metadata.Given as goal

abbrev pub invariant-loop-block : goal.invariant-loop-block
invariant-loop-block l = HasMetadata l.w l.disk l.block
