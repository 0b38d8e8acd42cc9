use Rattle.std.proofs.Common.{ap, ◌∙◌, ◌∷◌, ◌++◌}
use Rattle.split_types.specs.Lines.{numeral}
use Rattle.workload_reader.proofs.Alike.{after_field}
use Rattle.workload_reader.proofs.CallLaws.{action_ends}
use Rattle.workload_reader.proofs.calls.call.Goals as goal

pub returns-in-None : goal.returns-in-None
returns-in-None c =
    λ x rest named e. c.in-None.ensures x.1 rest named (after_field x.0.0 _ c.in_ok-by.ensures.1 e (action_ends x.1 _))

pub returns-in-Some : goal.returns-in-Some
returns-in-Some c =
    let by = c.in_ok-by.ensures in
    let found = c.in-Some.ensures in (
      (record { 0 = by.0 }, found.0),
      found.1,
      by.1.text_is
          ∙ ap (λ l. 32 ∷ numeral by.0 ++ l) found.2,
      c.call_of.ensures c.args.procs _ by.2 found.3,
    )
