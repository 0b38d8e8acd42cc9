-- The call, and how far the making has come with it.
use Rattle.std.proofs.Common.{◌∙◌, ap}
use Rattle.workload_reader.proofs.GeneratedLaws.{call_logs, call_mails, logs, logs_not}
use Rattle.workload_reader.proofs.generator.Maker.next_call.Goals as goal

pub returns-then-by-eq-LOGGER-clause-call : goal.returns-then-by-eq-LOGGER-clause-call
returns-then-by-eq-LOGGER-clause-call c = λ n i made.
    let drawn = c.draw-drawn.ensures.drawn n i made.state_is in
    ap (λ call. (record { 0 = c.draw-drawn.result.by }, call)) c.log_call-call.ensures
    ∙ call_logs _ drawn c.if-by-eq-LOGGER.true (c.draw-drawn.ensures.logged ∙ made.log_is)

pub returns-then-by-eq-LOGGER-clause-made : goal.returns-then-by-eq-LOGGER-clause-made
returns-then-by-eq-LOGGER-clause-made c = λ n i made. record {
  state_is = c.draw-drawn.ensures.state n i made.state_is;
  log_is =
      logs _ (c.draw-drawn.ensures.drawn n i made.state_is) c.if-by-eq-LOGGER.true
      (c.draw-drawn.ensures.logged ∙ made.log_is);
}

pub returns-else-by-eq-LOGGER-clause-call : goal.returns-else-by-eq-LOGGER-clause-call
returns-else-by-eq-LOGGER-clause-call c = λ n i made.
    ap (λ call. (record { 0 = c.draw-drawn.result.by }, call)) c.mail_call.ensures
    ∙ call_mails (c.draw-drawn.ensures.drawn n i made.state_is) c.if-by-eq-LOGGER.false

pub returns-else-by-eq-LOGGER-clause-made : goal.returns-else-by-eq-LOGGER-clause-made
returns-else-by-eq-LOGGER-clause-made c = λ n i made. record {
  state_is = c.draw-drawn.ensures.state n i made.state_is;
  log_is = logs_not _ (c.draw-drawn.ensures.drawn n i made.state_is) c.if-by-eq-LOGGER.false
      (c.draw-drawn.ensures.logged ∙ made.log_is);
}
