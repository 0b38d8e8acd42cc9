use Rattle.std.proofs.Common.{◌∷◌, []}
use Rattle.journal_core.proofs.CauseLaws.{union-results}
use Rattle.journal_core.proofs.tagging.widened.Goals as goal

pub returns-in-Some-clause-is_set : goal.returns-in-Some-clause-is_set
returns-in-Some-clause-is_set g c =
    let old = g.S.TagStore.now c.args.tags.now in
    union-results c.join.result (λ t. (g.S.TagStore.now c.join.new.self).members (g.S.TagStore.number t))
    (old.members (g.S.TagStore.number c.in-Some.t) ∷ old.members (g.S.TagStore.number c.args.by.now) ∷ [])
    c.join.ensures.set
