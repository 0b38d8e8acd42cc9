use Rattle.std.proofs.Common.{refl, ap, ◌∙◌, ◌∷◌, ◌++◌}
use Rattle.split_types.specs.Lines.{numeral, actor_word}
use Rattle.workload_reader.proofs.Alike.{after_field}
use Rattle.workload_reader.proofs.ActorLaws.{after_actor, ended}
use Rattle.workload_reader.proofs.turns.turns.Goals as goal

pub returns-in_err-times : goal.returns-in_err-times
returns-in_err-times c = rw c.from_residual-in_err-times.ensures (λ g rest formed e.
    c.in_err-times.ensures g.times _ (record {
      text_is = after_actor g.actor _ c.in_ok-actor.ensures.1 e (ended g.actor _);
      ends = refl;
    }))

pub returns-in_err-rest : goal.returns-in_err-rest
returns-in_err-rest c = rw c.from_residual-in_err-rest.ensures (λ g rest formed e.
    let e1 = after_actor g.actor _ c.in_ok-actor.ensures.1 e (ended g.actor _) in
    c.in_err-rest.ensures rest (after_field g.times _ c.in_ok-times.ensures.1 e1 refl))

pub returns : goal.returns
returns c =
    let actor = c.in_ok-actor.ensures in
    let times = c.in_ok-times.ensures in (
      record { actor = actor.0; times = times.0 },
      tt,
      actor.1.text_is
          ∙ ap (λ l. 32 ∷ actor_word actor.0 ++ l)
          (times.1.text_is ∙ ap (λ l. 32 ∷ numeral times.0 ++ l) c.in_ok-rest.ensures),
      c.go_of.ensures _ c.args.procs actor.2 times.2,
    )
