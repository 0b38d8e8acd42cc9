use Rattle.std.proofs.Common.{◌∙◌, replicate, ap, sym}
use Rattle.page_cache.specs.Bytes.{filled}
use Rattle.page_cache.proofs.PatchLaws.{patch-new}
use Rattle.page_cache.proofs.patch.Patch.write_to.Goals as goal

pub returns-clause-value : goal.returns-clause-value
returns-clause-value c =
    let i = c.self.inside in
    let all = c.fill_all.ensures.value ∙ ap (λ n. replicate n i.base) c.requires in
    rw (← c.self.view_is)
    (c.fill.ensures.value ∙ ap (λ bytes. filled bytes i.from i.to i.byte) all
    ∙ sym (patch-new i.base i.from i.to i.byte c.self.invariant.order c.self.invariant.within))
