use Rattle.std.proofs.Common.{◌∙◌, get_or, None, ap}
use Rattle.journal_core.specs.Places.{place_of}
use Rattle.journal_core.proofs.HeldLaws.{marked-held}
use Rattle.journal_core.proofs.journal.Journal.marked.Goals as goal

pub returns-clause-tag : goal.returns-clause-tag
returns-clause-tag g c =
    c.get.ensures ∙ ap (λ p. get_or c.self.inside.marks p None) c.place_of.ensures.place
    ∙ ap (λ j. get_or j.marks (place_of c.args.b) None) c.self.view_is

pub returns-clause-held : goal.returns-clause-held
returns-clause-held g c =
    marked-held c.args.self.now c.get.result (λ t. g.S.TagStore.number t.now) (place_of c.args.b)
    (c.get.ensures ∙ ap (λ p. get_or c.self.inside.marks p None) c.place_of.ensures.place
    ∙ ap (λ j. get_or j.marks (place_of c.args.b) None) c.self.view_is)
