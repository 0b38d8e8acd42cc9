use Rattle.std.proofs.Common.{◌≡◌, ◌++◌, take}
use Rattle.std.specs.List.{flat_map}
use Rattle.split_types.specs.DiskLayout.{descriptor_block}
use Rattle.journal_core.specs.Journaled.{image_at}
use Rattle.journal_core.proofs.content.log.Given as goal

abbrev pub invariant-loop-block : goal.invariant-loop-block
invariant-loop-block l = l.bytes.items ≡ descriptor_block l.fn.t.0 l.logged
    ++ flat_map (image_at l.images) (take l.block-index l.logged)
