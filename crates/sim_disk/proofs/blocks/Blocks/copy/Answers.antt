use Rattle.std.proofs.Common.{◌≡◌, All, map, ap, sym, subst, ◌∙◌}
use Rattle.sim_disk.specs.Runs.{content, IsBacked}
use Rattle.sim_disk.proofs.RunLaws.{runs_copied, copied_kept, copied_blocks}
use Rattle.sim_disk.proofs.blocks.Blocks.copy.Goals as goal

pub invariant_of-result : goal.invariant_of-result
invariant_of-result c =
    let same = runs_copied c.self.inside.runs c.in_ok-runs.runs c.in_ok-runs.ensures.cases in
    let places : c.in_ok-places.places.items ≡ c.self.inside.places.items = c.in_ok-places.ensures.items
    ∙ c.deref.ensures.value in
    rw places record {
      kept = copied_kept c.self.inside.places.items c.self.inside.runs c.in_ok-runs.runs same c.self.invariant.kept;
      backed = subst (λ shared. All (IsBacked shared) c.self.inside.places.items) (sym c.in_ok-shared.ensures)
          c.self.invariant.backed;
    }

pub returns : goal.returns
returns c =
    let same = runs_copied c.self.inside.runs c.in_ok-runs.runs c.in_ok-runs.ensures.cases in
    let places : c.in_ok-places.places.items ≡ c.self.inside.places.items = c.in_ok-places.ensures.items
    ∙ c.deref.ensures.value in
    ap (map (content c.in_ok-runs.runs)) places
    ∙ copied_blocks c.self.inside.places.items c.self.inside.runs c.in_ok-runs.runs same ∙ ap (λ s. s.blocks) c.self.view_is
