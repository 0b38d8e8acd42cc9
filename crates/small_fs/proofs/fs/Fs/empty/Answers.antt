use Rattle.std.proofs.Common.{refl, arith}
use Rattle.small_fs.proofs.PresetLaws.{stand_empty}
use Rattle.small_fs.proofs.fs.Fs.empty.Goals as goal

pub invariant_of-result : goal.invariant_of-result
invariant_of-result c =
    let stand = stand_empty 256 c.in_ok-no_files.field-0.items c.in_ok-new.field-0 c.in_ok-new-2.field-0
    c.in_ok-free_slots.field-0 c.in_ok-new-3.field-0.pages refl c.in_ok-no_files.ensures c.in_ok-new.ensures
    c.in_ok-new-2.ensures c.in_ok-free_slots.ensures.len c.in_ok-free_slots.ensures.keys c.in_ok-new-3.ensures.none in
    record { whole = stand.whole; indexed = stand.indexed; counted = stand.counted; fits = omega arith }
