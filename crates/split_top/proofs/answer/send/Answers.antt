-- The trace and the report are the text.
use Rattle.std.proofs.Common.{rules, ◌≡◌, ◌++◌, [], List, ℕ, ◌∙◌, ap, subst, sym}
use Rattle.split_types.specs.declared.facts.Facts.{Facts}
use Rattle.split_types.specs.declared.workload.Workload.{Workload}
use Rattle.std.proofs.lemmas.List.{append-nil}
use Rattle.split_types.specs.FactsOf.{facts_of}
use Rattle.split_types.specs.TraceText.{trace_text}
use Rattle.split_types.specs.ReportText.{report_text}
use Rattle.line_printer.proofs.Shared.{and_then, in_all}
use Rattle.sink_printer.specs.Due.{Told, Sent}
use Rattle.sink_printer.specs.DueAt.{DueAt}
use Rattle.split_top.specs.Replay.{text_of}
use Rattle.split_top.proofs.answer.send.Goals as goal

pub returns : goal.returns
unfolding text_of
returns g c =
    let told : Told g.row.K.Denot = record { held = g.K.Sink.held; faults = g.K.Sink.faults; room = g.K.Sink.room } in
    let w = c.args.core.now.workload in
    let h = c.args.core.now.history in
    let trace = trace_text w h in
    let report = report_text (facts_of w h) w.sched in
    let start = c.new-out.result in
    let shown = ap (λ (f : Facts). report_text f c.workload-2.result.now.sched) c.requires.facts
    ∙ ap (λ (v : Workload). report_text (facts_of w h) v.sched) c.workload-2.ensures in
    let both = and_then (in_all trace c.put_trace.ensures (cc)) (in_all report c.put_report.ensures shown) in
    let at_first = subst (λ rest. DueAt told start (trace ++ report) start rest) (sym (append-nil (trace ++ report)))
    (c.new-out.ensures.due c.requires.page (trace ++ report)) in
    let ended = c.finish.ensures start (trace ++ report) (both.printed start (trace ++ report) [] at_first) in
    let same : c.finish.new.self.sink.ghost_name ≡ start.sink.ghost_name = ended.0 in
    let sent : Sent told c.args.sink.now c.finish.new.self.sink.now (trace ++ report) c.finish.result =
    subst (λ before. Sent told before c.finish.new.self.sink.now (trace ++ report) c.finish.result)
    c.new-out.ensures.sink ended.1 in
    subst (λ after. Sent told c.args.sink.now after (trace ++ report) c.finish.result) (search rules) sent
