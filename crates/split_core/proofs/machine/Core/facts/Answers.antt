-- Each part of what is shown is read from the parts of the core.
use Rattle.std.proofs.Common.{◌∙◌, ap, sym, subst, map}
use Rattle.split_types.specs.FactsOf.{request_fact, facts_of}
use Rattle.split_core.specs.declared.note.book.Entry.{Entry}
use Rattle.split_core.specs.Book.{AreEntries}
use Rattle.split_core.specs.StandsFor.{Simulation}
use Rattle.split_core.proofs.FactsReads.{entries_are, facts_are}
use Rattle.split_core.proofs.machine.Core.facts.Goals as goal

pub returns : goal.returns
returns c =
    let i = c.self.inside in
    let w = i.workload in
    let h = i.history.events in
    let s = c.self.invariant in
    let reqs = c.from_vec.ensures ∙ c.in_ok-reqs.ensures w h s.accepted
    (subst (AreEntries h) (sym c.as_slice.ensures.value)
    (entries_are w i.parts.book h s.accepted s.legal s.parts.book))
    ∙ ap (map (λ (x : Entry). request_fact w h x.request)) c.as_slice.ensures.value in
    let bills = c.from_vec-2.ensures ∙ c.in_ok-billed.ensures.items ∙ c.as_slice-2.ensures.value in
    let counts = c.from_vec-3.ensures ∙ c.in_ok-made.ensures.items ∙ c.as_slice-3.ensures.value in
    facts_are w i.plan i.parts h c.from_vec.result c.from_vec-2.result c.new.result c.from_vec-3.result s reqs bills
    c.new.ensures counts
    ∙ ap (λ (v : Simulation). facts_of v.workload v.history) c.self.view_is
