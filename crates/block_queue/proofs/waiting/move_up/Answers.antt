use Rattle.std.proofs.Common.{◌+◌, ◌-◌, ◌<◌, length, drop, arith, ◌∙◌, ap}
use Rattle.block_queue.proofs.Places.{drop-moved_up}
use Rattle.block_queue.proofs.waiting.move_up.Goals as goal

pub returns-clause-left : goal.returns-clause-left
returns-clause-left c =
    let start = c.args.start in
    let within : start + (c.args.place - start) < length c.args.items.now.items = omega arith in
    ap (drop (start + 1)) c.copy_within.ensures.items ∙ drop-moved_up c.args.items.now.items start
    (c.args.place - start) within
