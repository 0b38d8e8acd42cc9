use Rattle.std.proofs.Common.{length, ap, ◌∙◌}
use Rattle.fs_layout.specs.Super.{super_spelling, IsSuperImage}
use Rattle.fs_layout.proofs.ReadingLaws.{by_fields, none_read}
use Rattle.fs_layout.proofs.SuperLaws.{length-super_block, super_again}
use Rattle.fs_layout.proofs.superblock.read_super.Goals as goal

pub returns-then-b-ne-BLOCK : goal.returns-then-b-ne-BLOCK
returns-then-b-ne-BLOCK c = none_read IsSuperImage super_spelling _ (λ y is spelled. c.if-b-ne-BLOCK.true
    (ap length spelled ∙ length-super_block y.version y.device))

pub returns : goal.returns
returns c =
    rw c.then_some.ensures (by_fields IsSuperImage super_spelling c.args.b.now _ _ (λ y is spelled. super_again y
    c.args.b.now _ _ c.number_at-version.ensures c.number_at-device.ensures is spelled) c.is_spelled.ensures)
