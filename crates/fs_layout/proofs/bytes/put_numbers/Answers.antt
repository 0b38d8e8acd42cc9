use Rattle.std.proofs.Common.{refl}
use Rattle.fs_layout.proofs.NumberLaws.{put_numbers_more}
use Rattle.fs_layout.proofs.bytes.put_numbers.Goals as goal

pub loop-i-preserved : goal.loop-i-preserved
loop-i-preserved c = put_numbers_more _ _ _ c.args.values.now _ _ _ c.loop-i-test.true c.requires refl
    c.loop-i.invariant c.put_number.ensures
