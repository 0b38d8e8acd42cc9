use Rattle.fs_layout.proofs.FieldLaws.{greatest_zero}
use Rattle.fs_layout.proofs.bytes.are_zero.Goals as goal

pub returns : goal.returns
returns c = greatest_zero c.args.bytes.now c.greatest.result c.greatest.ensures
