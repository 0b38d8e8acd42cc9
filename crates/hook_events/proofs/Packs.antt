-- Events that are packed say the same when further ones are kept whole.
use Rattle.std.proofs.Common.{◌≡◌, List, [], ◌∷◌, ◌++◌, length, map, reverse, refl, ap, ◌∙◌}
use Rattle.std.specs.List.{All}
use Rattle.std.proofs.lemmas.List.{get_or_append_left, map-append, reverse-append}
use Rattle.std.proofs.lemmas.List.Elements.{All-head, All-tail}
use Rattle.split_types.specs.declared.event.Event.{Event}
use Rattle.split_types.specs.declared.event.Event.TheVariants.{Skip}
use Rattle.hook_events.specs.declared.packed.Packed.{Packed}
use Rattle.hook_events.specs.declared.packed.Packed.TheVariants.{Enter, Admit, Put, Ret, Serve, Add, Send, Done, Whole}
use Rattle.hook_events.specs.Packing.{event_of, IsPlaced, IsFront}

event-kept : (p : Packed) (whole rest : List Event) → IsPlaced (length whole) p
    → event_of (whole ++ rest) p ≡ event_of whole p
event-kept (Enter by k) whole rest inside = refl
event-kept (Admit by) whole rest inside = refl
event-kept (Put fill by s from to g) whole rest inside = refl
event-kept (Ret by) whole rest inside = refl
event-kept (Serve s g n) whole rest inside = refl
event-kept (Add n s g first id) whole rest inside = refl
event-kept (Send id cost) whole rest inside = refl
event-kept (Done ok k id) whole rest inside = refl
event-kept (Whole at) whole rest inside = get_or_append_left whole rest Skip at inside

pub events-kept : (ps : List Packed) (whole rest : List Event) → All (IsPlaced (length whole)) ps
    → map (event_of (whole ++ rest)) ps ≡ map (event_of whole) ps
events-kept [] whole rest all = refl
events-kept (p ∷ ps) whole rest all =
    rw (event-kept p whole rest (All-head (IsPlaced (length whole)) p ps all)) (ap (λ l. event_of whole p ∷ l)
    (events-kept ps whole rest (All-tail (IsPlaced (length whole)) p ps all)))

-- with one event more
pub one-more : (ps : List Packed) (p : Packed) (front all : List Event) (e : Event) → All (IsPlaced (length front)) ps
    → IsFront front all → event_of all p ≡ e
    → reverse (map (event_of all) (ps ++ p ∷ [])) ≡ e ∷ reverse (map (event_of front) ps)
one-more ps p front all e placed (rest, is) said =
    ap reverse (map-append (event_of all) ps (p ∷ []))
    ∙ reverse-append (map (event_of all) ps) (event_of all p ∷ [])
    ∙ ap (λ x. x ∷ reverse (map (event_of all) ps)) said
    ∙ ap (λ l. e ∷ reverse l) (ap (λ w. map (event_of w) ps) is ∙ events-kept ps front rest placed)
