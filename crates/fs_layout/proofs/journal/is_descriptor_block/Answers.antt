use Rattle.std.proofs.Common.{arith}
use Rattle.fs_layout.proofs.FieldLaws.{decides_too}
use Rattle.fs_layout.proofs.DescriptorLaws.{descriptor_parts}
use Rattle.fs_layout.proofs.journal.is_descriptor_block.Goals as goal

pub returns : goal.returns
returns c = decides_too _ (descriptor_parts c.args.b.now c.args.t c.args.homes.now
    (λ i. omega (arith, c.type_inv.b i)) c.requires.block c.requires.few c.requires.number c.requires.count
    c.requires.homes) c.is_framed.ensures
