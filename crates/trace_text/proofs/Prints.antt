-- Prints of the words of an event.
use Rattle.std.proofs.Common.{ℕ, List, [], ◌∷◌, ◌++◌, sym, append_assoc}
use Rattle.std.proofs.lemmas.List.{append-nil}
use Rattle.line_printer.specs.Puts.{Puts}
use Rattle.line_printer.proofs.Shared.{and_then, in_all}
use Rattle.split_types.specs.declared.event.Event.{Event}
use Rattle.split_types.specs.Hooks.{maker}
use Rattle.split_types.specs.Lines.{numeral, fields, line, actor_word}
use Rattle.split_types.specs.EventText.{numerals, event_word, event_fields, event_words}

-- one number behind a space
pub one_field : (n : ℕ) {P : Type 0} {due : P → List ℕ → P → List ℕ → Type 0} {old now : P}
    → Puts due old now (32 ∷ numeral n) → Puts due old now (fields (numerals (n ∷ [])))
one_field n p = in_all _ p (sym (append-nil (32 ∷ numeral n)))

-- an event's line in three prints: its first word and its actor, what follows them, and the end
pub whole_event : (e : Event) {P : Type 0} {due : P → List ℕ → P → List ℕ → Type 0} {old was mid now : P}
    → Puts due old was (event_word e ++ 32 ∷ actor_word (maker e)) → Puts due was mid (fields (event_fields e))
    → Puts due mid now (10 ∷ []) → Puts due old now (line (event_words e))
whole_event e p q r =
    let actor = actor_word (maker e) in
    let front = in_all (event_word e ++ fields (actor ∷ event_fields e)) (and_then p q)
    (append_assoc (event_word e) (32 ∷ actor) (fields (event_fields e))) in
    in_all _ (and_then front r) (append_assoc (event_word e) (fields (actor ∷ event_fields e)) (10 ∷ []))
