use Rattle.std.proofs.Common.{None}
use Rattle.page_cache.proofs.GuideLaws.{guide-set}
use Rattle.page_cache.proofs.guide.Guide.leave.Goals as goal

pub invariant_of-self : goal.invariant_of-self
invariant_of-self c =
    let i = c.self.inside in
    rw (c.give.ensures, c.take.ensures.rest)
    (guide-set i.keys i.free.taken i.idle.touches i.idle.candidates i.ready i.unsettled i.pins c.args.at None
    c.self.invariant)
