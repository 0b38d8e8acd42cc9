use Rattle.std.proofs.Common.{◌<◌, ◌^◌, arith}
use Rattle.std.proofs.lemmas.List.Elements.{All-from_get_or}
use Rattle.fs_layout.proofs.FieldLaws.{decides_too}
use Rattle.fs_layout.proofs.InodeLaws.{free_parts}
use Rattle.fs_layout.proofs.inode.is_spelled.Goals as goal

pub returns-in-None : goal.returns-in-None
returns-in-None c =
    let fit = All-from_get_or (λ n. n < 2 ^ 32) c.args.blocks.now 0 (λ i within. omega (arith, c.type_inv.blocks i)) in
    rw c.in-None.is (decides_too _ (free_parts c.args.b.now c.args.size c.args.blocks.now c.requires.block
    c.requires.size c.requires.blocks fit) c.is_zero.ensures)
