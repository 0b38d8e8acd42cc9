-- One fact more.
use Rattle.std.proofs.Common.{◌≡◌, ℕ, ◌+◌, List, [], ◌∷◌, ◌++◌, map, take, length, refl, slice_get, Some, ap, sym, ◌∙◌}
use Rattle.std.proofs.lemmas.List.{map-append}
use Rattle.std.proofs.lemmas.Option.{slice_get_read}
use Rattle.split_types.specs.declared.facts.ReqFact.{ReqFact}
use Rattle.split_types.specs.FactsOf.{request_fact}
use Rattle.split_types.proofs.Shared.{take_at_some}
use Rattle.split_core.specs.declared.note.book.Entry.{Entry}
use Rattle.split_core.proofs.facts.request_facts.Goals as goal

more : (f : Entry → ReqFact) (xs : List Entry) (k : ℕ) (x : Entry) → slice_get xs k ≡ Some x
    → map f (take k xs) ++ f x ∷ [] ≡ map f (take (k + 1) xs)
more f xs k x at = sym (map-append f (take k xs) (x ∷ [])) ∙ ap (map f) (sym (take_at_some xs k x at))

pub loop-entry-preserved : goal.loop-entry-preserved
loop-entry-preserved c = λ w h accepted are.
    let x = c.entry-item.result in
    let at : slice_get c.args.entries.now c.loop-entry.entry-index ≡ Some x =
    slice_get_read c.args.entries.now (length c.args.entries.now) c.loop-entry.entry-index x refl
    c.loop-entry-test.true c.entry-item.is in
    c.in_ok-push.ensures.items
    ∙ ap (λ l. l ++ c.in_ok-request_fact.field-0 ∷ []) (c.loop-entry.invariant w h accepted are)
    ∙ ap (λ f. map (λ (y : Entry). request_fact w h y.request) (take c.loop-entry.entry-index c.args.entries.now)
    ++ f ∷ []) (c.in_ok-request_fact.ensures w h accepted (are c.loop-entry.entry-index x at))
    ∙ more (λ y. request_fact w h y.request) c.args.entries.now c.loop-entry.entry-index x at
