use Rattle.std.proofs.Common.{sym, subst, ap, ◌∙◌}
use Rattle.sim_disk.specs.Shared.{AreFilled}
use Rattle.sim_disk.proofs.SharedLaws.{copied_all}
use Rattle.sim_disk.proofs.shared.Shared.copy.Goals as goal

pub invariant_of-result : goal.invariant_of-result
invariant_of-result c = subst (λ l. AreFilled l c.self.inside.left)
    (sym (copied_all c.self.inside.blocks.items c.in_ok-clone.field-0.items c.in_ok-clone.ensures.cases.0))
    c.self.invariant

pub returns : goal.returns
returns c =
    copied_all c.self.inside.blocks.items c.in_ok-clone.field-0.items c.in_ok-clone.ensures.cases.0
    ∙ ap (λ s. s.blocks) c.self.view_is
