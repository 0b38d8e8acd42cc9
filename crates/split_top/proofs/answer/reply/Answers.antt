-- An input with a byte more than the limit was read is too long.
use Rattle.std.proofs.Common.{rules, refl, inr, arith}
use Rattle.outside.specs.Whole.{TakesOver}
use Rattle.workload_reader.specs.declared.cause.Cause.TheVariants as cause
use Rattle.workload_reader.specs.declared.fault.LineFault.{LineFault}
use Rattle.split_top.specs.declared.call.Status.TheVariants as status
use Rattle.split_top.specs.Answers.{Answers}
use Rattle.split_top.specs.Refusals.{refusal_text}
use Rattle.split_top.proofs.Stops.{replies_stop}
use Rattle.split_top.proofs.answer.reply.Goals as goal

pub returns-in_err-refuse-in-Err-Long-clause-sink : goal.returns-in_err-refuse-in-Err-Long-clause-sink
returns-in_err-refuse-in-Err-Long-clause-sink g c =
    let left = g.S.Source.left c.args.source.now in
    let left_now = g.S.Source.left c.read_all.new.source in
    let fault : LineFault = record { line = 0; cause = cause.Long } in
    let long : TakesOver left left_now 16777216 = search rules in
    let answer : Answers left left_now (refusal_text fault) status.Refused = record {
      input = long.0;
      read = long.1;
      enough = inr (long.2);
      answer = (fault, (refl, omega (arith, long.2)), refl);
    } in
    replies_stop left left_now (refusal_text fault) status.Refused answer c.refuse.ensures
    c.in_err-refuse-in-Err-Long.was (search rules)
