-- The answer was written, or why it wasn't is passed on.
use Rattle.std.proofs.Common.{rules, refl}
use Rattle.split_types.specs.WorkloadText.{Spells}
use Rattle.workload_reader.specs.Refusal.{Refuses}
use Rattle.split_top.specs.declared.call.Status.TheVariants as status
use Rattle.split_top.specs.Refusals.{refusal_text}
use Rattle.split_top.specs.Replay.{text_of, run_of}
use Rattle.split_top.proofs.Stops.{answers, stops, is_run}
use Rattle.split_top.proofs.answer.answer.Goals as goal

pub returns-in_err-refuse-in-Err-Line : goal.returns-in_err-refuse-in-Err-Line
returns-in_err-refuse-in-Err-Line g c =
    let input = c.args.input.items in
    let fault = c.in-Err-Line.fault in
    let refuses : Refuses input fault = search rules in
    stops input (refusal_text fault) status.Refused (fault, refuses, refl) c.refuse.ensures
    c.in_err-refuse-in-Err-Line.was (search rules)

pub returns-in_err-replay-in-Ok : goal.returns-in_err-replay-in-Ok
returns-in_err-replay-in-Ok g c =
    let input = c.args.input.items in
    let w = c.in-Ok.workload in
    let spells : Spells input w = search rules in
    stops input (text_of w (run_of w)) status.Ok (is_run input w spells) c.replay.ensures c.in_err-replay-in-Ok.was
    (search rules)

pub returns-in_ok-replay-in-Ok : goal.returns-in_ok-replay-in-Ok
returns-in_ok-replay-in-Ok g c =
    let input = c.args.input.items in
    let w = c.in-Ok.workload in
    let spells : Spells input w = search rules in
    answers input (text_of w (run_of w)) status.Ok (is_run input w spells) c.replay.ensures c.in_ok-replay-in-Ok.was
