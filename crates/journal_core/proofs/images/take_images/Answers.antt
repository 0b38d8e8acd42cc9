use Rattle.std.proofs.Common.{arith}
use Rattle.split_types.specs.LiveFiles.{metadata_block}
use Rattle.split_types.specs.Parents.{buffer_at}
use Rattle.journal_core.proofs.LogLaws.{taken-is}
use Rattle.journal_core.proofs.images.take_images.Goals as goal

pub returns : goal.returns
returns g c =
    taken-is (λ block. metadata_block c.args.fs.now.first c.args.fs.now.slots (buffer_at block)) 1 c.args.marks.now
    c.args.images.now.items
    c.loop-place.images.items c.loop-place.invariant.len c.requires.images
    (λ k within. c.loop-place.invariant.taken k (omega (arith, within, c.loop-place-test.false)))
