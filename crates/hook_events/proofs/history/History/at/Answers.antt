-- The view lists the events from the newest on; a read counts from the oldest.
use Rattle.std.proofs.Common.{arith, ◌≡◌, ◌<◌, length, map, reverse, Some, ℕ, List, get_or, sym, ap, ◌∙◌}
use Rattle.std.specs.Prelude.{slice_get}
use Rattle.std.specs.Option.{option_map}
use Rattle.std.proofs.lemmas.Grind.{common_steps}
use Rattle.std.proofs.lemmas.List.{reverse-reverse}
use Rattle.std.proofs.lemmas.Option.{slice_get-get_or, slice_get-map}
use Rattle.split_types.specs.declared.event.Event.{Event}
use Rattle.split_types.specs.History.{event_at}
use Rattle.split_types.proofs.History.{slice_get-reverse}
use Rattle.hook_events.specs.declared.packed.Packed.{Packed}
use Rattle.hook_events.specs.Packing.{event_of}
use Rattle.hook_events.proofs.history.History.at.Goals as goal

read : (whole : List Event) (items : List Packed) (i : ℕ) (p : Packed) → i < length items → p ≡ get_or items i p
    → event_at (reverse (map (event_of whole) items)) i ≡ Some (event_of whole p)
read whole items i p lt is =
    let events = map (event_of whole) items in
    sym (slice_get-reverse (reverse events) i) ∙ ap (λ l. slice_get l i) (reverse-reverse events)
    ∙ slice_get-map (event_of whole) items i ∙ ap (option_map (event_of whole)) (slice_get-get_or items i p lt)
    ∙ ap (λ x. Some (event_of whole x)) (sym is)

pub returns-clause-event : goal.returns-clause-event
returns-clause-event g c =
    let i = c.self.inside in
    let within : c.args.i < length i.packed.items = grind (arith, common_steps, c.requires) in
    ap (λ l. event_at l.events c.args.i) (sym c.self.view_is)
    ∙ read i.whole.items i.packed.items c.args.i c.index.result.now within c.index.ensures
    ∙ ap (λ w. Some (event_of w c.index.result.now)) (sym c.deref.ensures.value)
    ∙ ap (λ x. Some x) (sym c.event.ensures)
