use Rattle.std.proofs.Common.{◌∙◌, ◌+◌, ◌-◌, ◌*◌, ap, arith}
use Rattle.page_cache.proofs.PatchLaws.{sum-low, sum-middle, sum-high}
use Rattle.page_cache.proofs.patch.Patch.sum_up_to.Goals as goal

pub returns-then-to-self : goal.returns-then-to-self
returns-then-to-self c =
    let i = c.self.inside in
    rw (← c.self.view_is)
    (c.sum_of.ensures.value ∙ sum-low i.base i.from i.to i.byte c.self.invariant.order c.args.to c.if-to-self.true)

pub returns-then-to-self-2 : goal.returns-then-to-self-2
returns-then-to-self-2 c =
    let i = c.self.inside in
    let last = c.sum_of-then-to-self-2 in
    rw (← c.self.view_is)
    (ap (λ s. s + last.result) c.sum_of-before.ensures.value
    ∙ ap (λ s. i.from * i.base + s) last.ensures.value
    ∙ sum-middle i.base i.from i.to i.byte c.self.invariant.order c.args.to (omega (arith, c.if-to-self.false))
    c.if-to-self-2.true)

pub returns : goal.returns
returns c =
    let i = c.self.inside in
    rw (← c.self.view_is)
    (ap (λ s. s + c.sum_of-2.result + c.sum_of-3.result) c.sum_of-before.ensures.value
    ∙ ap (λ s. i.from * i.base + s + c.sum_of-3.result) c.sum_of-2.ensures.value
    ∙ ap (λ s. i.from * i.base + (i.to - i.from) * i.byte + s) c.sum_of-3.ensures.value
    ∙ sum-high i.base i.from i.to i.byte c.self.invariant.order c.args.to (omega (arith, c.if-to-self-2.false))
    c.requires)
