use Rattle.std.proofs.Common.{arith}
use Rattle.fs_layout.proofs.FieldLaws.{second_decides, first_decides}
use Rattle.fs_layout.proofs.BitmapLaws.{bitmap_parts}
use Rattle.fs_layout.proofs.bitmap.is_bitmap.Goals as goal

pub returns-then-are_used : goal.returns-then-are_used
returns-then-are_used c =
    let parts = bitmap_parts c.args.b.now c.args.taken.now (λ i. omega (arith, c.type_inv.b i)) c.requires.block
    c.requires.least c.requires.most c.requires.bits in
    second_decides c.are_used.result _ parts c.are_used.ensures c.if-are_used.true c.is_clear.ensures

pub returns-else-are_used : goal.returns-else-are_used
returns-else-are_used c =
    let parts = bitmap_parts c.args.b.now c.args.taken.now (λ i. omega (arith, c.type_inv.b i)) c.requires.block
    c.requires.least c.requires.most c.requires.bits in
    first_decides _ parts c.are_used.ensures c.if-are_used.false
