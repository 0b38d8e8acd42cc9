use Rattle.std.proofs.Common.{◌∙◌, ap, sym, length}
use Rattle.journal_core.specs.Places.{blocks_of}
use Rattle.journal_core.proofs.PlaceLaws.{blocks-map}
use Rattle.journal_core.proofs.places.Places.taken.Goals as goal

pub returns : goal.returns
returns g c =
    c.self.invariant.counted ∙ ap length (sym (blocks-map g.S.TagStore.number 1 c.self.inside.tags.items))
    ∙ ap (λ places. length (blocks_of places)) c.self.view_is
