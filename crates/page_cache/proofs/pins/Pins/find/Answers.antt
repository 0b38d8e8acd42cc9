use Rattle.std.proofs.Common.{◌≡◌, ◌≢◌, Some, None, get_or, arith}
use Rattle.std.proofs.lemmas.Grind.{common_steps}
use Rattle.page_cache.specs.Pins.{chain_of}
use Rattle.page_cache.proofs.PinLaws.{IsSought, sought-start, sought-more}
use Rattle.page_cache.proofs.pins.Pins.find.Goals as goal

pub loop-next-init : goal.loop-next-init
loop-next-init c =
    rw (← c.self.view_is)
    (sought-start c.self.inside.chains c.self.inside.pins.items c.args.by c.first-next.result c.self.invariant
    c.first-next.ensures.within
    (rw (← c.chain_of.ensures.chain) c.first-next.ensures.first))

pub loop-next-preserved : goal.loop-next-preserved
loop-next-preserved c =
    let pins = c.self.inside.pins.items in
    let at = c.in-Some.at in
    let sought : IsSought c.self.inside.chains.places pins c.args.by (Some at) =
    rw (c.self.view_is, ← c.in-Some.is) c.loop-next.invariant in
    let read : c.index.result.now ≡ get_or pins at None = grind (arith, common_steps) in
    let other : get_or pins at None ≢ Some c.args.by = λ e. grind (arith, common_steps) in
    rw (← c.self.view_is)
    (sought-more c.self.inside.chains pins c.args.by at c.next-next.result c.self.invariant sought other
    c.next-next.ensures.within
    (c.next-next.ensures.next (chain_of c.args.by) sought.linked))
