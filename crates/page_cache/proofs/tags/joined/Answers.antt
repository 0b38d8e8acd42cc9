use Rattle.std.proofs.Common.{◌∙◌, ◌∷◌, [], sym}
use Rattle.split_types.proofs.Sets.{union-empty, union-one, one-is_set}
use Rattle.page_cache.proofs.tags.joined.Goals as goal

pub returns-in-None-clause-set : goal.returns-in-None-clause-set
returns-in-None-clause-set g c =
    rw c.in-None.is
    (c.in_ok-alone.ensures.set
    ∙ sym (union-empty ((c.args.by.0 ∷ []) ∷ [])
    ∙ union-one (c.args.by.0 ∷ []) (one-is_set c.args.by.0 c.requires.first c.requires.last)))
