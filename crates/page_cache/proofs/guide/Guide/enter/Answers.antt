use Rattle.std.proofs.Common.{Some}
use Rattle.page_cache.proofs.GuideLaws.{guide-set}
use Rattle.page_cache.proofs.guide.Guide.enter.Goals as goal

pub invariant_of-self : goal.invariant_of-self
invariant_of-self c =
    let i = c.self.inside in
    rw (c.take-at.ensures.taken, c.put.ensures)
    (guide-set i.keys i.free.taken i.idle.touches i.idle.candidates i.ready i.unsettled i.pins c.take-at.result
    (Some c.args.key)
    c.self.invariant)
