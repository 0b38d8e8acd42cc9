use Rattle.std.proofs.Common.{◌∙◌, ◌≤◌, sym, arith}
use Rattle.page_cache.proofs.PatchLaws.{patch-new, patch-covered}
use Rattle.page_cache.proofs.patch.Patch.base_under.Goals as goal

pub returns : goal.returns
returns c =
    let i = c.self.inside in
    let ordered : c.args.from ≤ c.args.to = omega (arith, c.if-self-from.false, c.if-to-self.false, c.self.invariant.order) in
    rw (← c.self.view_is)
    (λ byte.
    sym (patch-new i.base c.args.from c.args.to byte ordered c.requires)
    ∙ patch-covered i.base i.from i.to i.byte c.self.invariant.order c.args.from c.args.to byte
    (omega (arith, c.if-self-from.false)) (omega (arith, c.if-to-self.false)) c.requires)
