use Rattle.std.proofs.Common.{◌≡◌, ◌∙◌, ap, map, is_some}
use Rattle.fixed_places.specs.Recency.{Touched}
use Rattle.fixed_places.proofs.RecencyLaws.{candidates-rekeyed_one}
use Rattle.fixed_places.proofs.recency.Recency.touch.Goals as goal

pub returns-clause-candidates : goal.returns-clause-candidates
returns-clause-candidates c =
    ap (map is_some) c.rekey.ensures ∙ candidates-rekeyed_one c.number-touch.new.candidates c.args.at
    c.number-touch.result
    ∙ c.number-touch.ensures.candidates ∙ ap (λ (v : Touched). v.candidates) c.self.view_is
