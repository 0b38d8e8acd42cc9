use Rattle.std.proofs.Common.{◌≡◌, [], ◌∷◌, ap, sym, ◌∙◌}
use Rattle.split_types.specs.Sets.{union_of}
use Rattle.split_types.specs.Blame.{own_blame}
use Rattle.split_types.proofs.Shared.{union-empty, union-none}
use Rattle.provenance.proofs.blaming.own.Goals as goal

pub returns-in-None : goal.returns-in-None
returns-in-None c =
    let nobody : [] ≡ own_blame c.args.e.now = c.in-None.ensures in
    c.none.ensures ∙ sym (union-empty [] ∙ union-none) ∙ ap (λ xs. union_of (xs ∷ [])) nobody
