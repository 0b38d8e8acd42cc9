-- A block more is written.
use Rattle.std.proofs.Common.{arith}
use Rattle.split_types.proofs.Shared.{data_from}
use Rattle.split_core.proofs.MediumNotesStart.{metadata_next, metadata_all}
use Rattle.split_core.proofs.note.medium.write_metadata.Goals as goal

pub write_block-requires-clause-within : goal.write_block-requires-clause-within
write_block-requires-clause-within c =
    omega (
      arith,
      c.loop-block.invariant.size,
      c.requires.accepted.workload.presets.few,
      c.requires.accepted.workload.presets.fit,
      data_from c.args.w.now,
    )

pub loop-block-preserved : goal.loop-block-preserved
loop-block-preserved c =
    metadata_next c.args.w.now c.loop-block.disk c.write_block.new.disk c.loop-block.block c.in_ok-bytes.bytes.items
    c.loop-block.invariant c.in_ok-bytes.ensures.bytes c.in_ok-write_block.ensures.blocks
    c.in_ok-write_block.ensures.writes

pub returns : goal.returns
returns c =
    metadata_all c.args.w.now c.loop-block.disk c.loop-block.block c.requires.accepted c.loop-block.invariant
    (omega arith)
