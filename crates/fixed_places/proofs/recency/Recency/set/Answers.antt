use Rattle.std.proofs.Common.{◌≡◌, ◌∙◌, Bool, ap, map, set, is_some, sym}
use Rattle.std.proofs.lemmas.List.{map-set}
use Rattle.fixed_places.specs.Recency.{Touched}
use Rattle.fixed_places.proofs.recency.Recency.set.Goals as goal
use Rattle.fixed_places.proofs.recency.Recency.set.Goals.{then-is_candidate, else-is_candidate}

pub returns : goal.returns
returns c =
    let is : is_some c.if-is_candidate.set ≡ c.args.is_candidate =
    elim c.if-is_candidate.branch [
      | then-is_candidate w ↦ ap is_some w.set-is ∙ sym w.if-is_candidate.true
      | else-is_candidate w ↦ ap is_some w.set-is ∙ sym w.if-is_candidate.false
    ] in
    let touches = c.self.inside.touches.items in
    rw (← c.self.view_is)
    (ap (λ candidates. record { touches = touches; candidates = candidates })
    (ap (map is_some) c.set.ensures ∙ map-set is_some c.self.inside.candidates c.args.at c.if-is_candidate.set
    ∙ ap (set (map is_some c.self.inside.candidates) c.args.at) is))
