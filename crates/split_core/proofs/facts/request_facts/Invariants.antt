use Rattle.std.proofs.Common.{◌≡◌, List, map, take}
use Rattle.split_types.specs.declared.workload.Workload.{Workload}
use Rattle.split_types.specs.declared.event.Event.{Event}
use Rattle.split_types.specs.Accepted.{IsAccepted}
use Rattle.split_types.specs.FactsOf.{request_fact}
use Rattle.split_core.specs.Book.{AreEntries}
use Rattle.split_core.proofs.facts.request_facts.Given as goal

abbrev pub invariant-loop-entry : goal.invariant-loop-entry
invariant-loop-entry l =
    (w : Workload) (h : List Event) → IsAccepted w → AreEntries h l.entries
    → l.facts.items ≡ map (λ x. request_fact w h x.request) (take l.entry-index l.entries)
