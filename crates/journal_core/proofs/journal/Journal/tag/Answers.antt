use Rattle.std.proofs.Common.{◌≡◌, ◌∙◌, get_or, None, ap, sym, subst}
use Rattle.std.specs.Prelude.{IsSome}
use Rattle.journal_core.specs.Places.{place_in}
use Rattle.journal_core.specs.Work.{begun, slot_in}
use Rattle.journal_core.specs.Journaled.{next_home}
use Rattle.journal_core.proofs.LogLaws.{home-some, map-some}
use Rattle.journal_core.proofs.StageLaws.{due-home}
use Rattle.journal_core.proofs.journal.Journal.tag.Goals as goal

pub unwrap-requires-in-None : goal.unwrap-requires-in-None
unwrap-requires-in-None g c =
    let now = c.args.self.now in
    let none : slot_in (begun now.work) ≡ None =
    ap (λ j. slot_in (begun j.work)) (sym c.self.view_is) ∙ sym c.slot.ensures ∙ c.in-None.is in
    let some = (home-some now.round (due-home now c.requires none)).1 in
    map-some c.get-in-None.result (λ t. g.S.TagStore.number t.now)
    (subst IsSome
    (sym (c.get-in-None.ensures ∙ ap (λ p. get_or c.self.inside.round p None) c.next_place.ensures.place
    ∙ ap (λ j. get_or j.round (place_in (next_home now)) None) c.self.view_is))
    some)
