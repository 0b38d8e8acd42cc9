use Rattle.std.proofs.Common.{◌∙◌, ap, map, is_some}
use Rattle.fixed_places.proofs.RecencyLaws.{no_candidates}
use Rattle.fixed_places.proofs.recency.Recency.new.Goals as goal

pub returns-clause-candidates : goal.returns-clause-candidates
returns-clause-candidates c = ap (map is_some) c.in_ok-new.ensures ∙ no_candidates c.args.places
