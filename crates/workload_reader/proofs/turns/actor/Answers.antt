use Rattle.std.proofs.Common.{ap, ◌∙◌, ◌∷◌}
use Rattle.split_types.specs.declared.actor.Actor.TheVariants.{Client, Dn}
use Rattle.workload_reader.proofs.turns.actor.Goals as goal

pub returns-in_ok-by : goal.returns-in_ok-by
returns-in_ok-by c =
    let found = c.in_ok-by.ensures in (
      Client (record { 0 = found.0 }),
      record {
        text_is = c.in-Some-after-4.ensures ∙ ap (λ l. 32 ∷ 99 ∷ l) found.1.text_is;
        ends = found.1.ends;
      },
      c.client_of.ensures found.0 c.args.procs found.2,
    )

pub returns-in_ok-place : goal.returns-in_ok-place
returns-in_ok-place c =
    let found = c.in_ok-place.ensures in (
      Dn found.0,
      record {
        text_is = c.in_ok-after.ensures ∙ ap (λ l. 32 ∷ 100 ∷ 110 ∷ l) found.1.text_is;
        ends = found.1.ends;
      },
      c.completion_of.ensures found.0 c.args.procs found.2,
    )
