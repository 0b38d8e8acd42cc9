use Rattle.std.proofs.Common.{arith}
use Rattle.fs_layout.proofs.FieldLaws.{decides_too}
use Rattle.fs_layout.proofs.JournalLaws.{commit_parts}
use Rattle.fs_layout.proofs.journal.is_commit_block.Goals as goal

pub returns : goal.returns
returns c = decides_too _ (commit_parts c.args.b.now c.args.t (λ i. omega (arith, c.type_inv.b i)) c.requires.block
    c.requires.number) c.is_framed.ensures
