use Rattle.std.proofs.Common.{◌∙◌, sym, arith}
use Rattle.journal_core.proofs.LogLaws.{first-block}
use Rattle.journal_core.proofs.journal.Journal.next_place.Goals as goal

pub overflow_sub-result : goal.overflow_sub-result
overflow_sub-result g c = (first-block c.self.inside.round c.unwrap.result (sym c.next.ensures ∙ c.unwrap.ensures)).0

pub returns-clause-within : goal.returns-clause-within
returns-clause-within g c =
    let found = first-block c.self.inside.round c.unwrap.result (sym c.next.ensures ∙ c.unwrap.ensures) in
    omega (arith, found.1, c.self.invariant.round)
