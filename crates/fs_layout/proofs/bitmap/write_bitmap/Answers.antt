use Rattle.std.proofs.Common.{arith}
use Rattle.fs_layout.proofs.BitmapLaws.{bitmap_written}
use Rattle.fs_layout.proofs.bitmap.write_bitmap.Goals as goal

pub returns : goal.returns
returns c = bitmap_written c.loop-j.out c.args.m.now.taken (omega arith) (λ j lt. rw c.as_slice-taken.ensures at
    (c.loop-j.invariant j (omega arith)))
