-- One part of the report after another.
use Rattle.std.proofs.Common.{◌++◌, [], ◌∷◌, List, ℕ, length, take, drop, codes, sym, append_assoc}
use Rattle.std.specs.List.{enumerate_from}
use Rattle.split_types.specs.declared.facts.Facts.{Facts}
use Rattle.split_types.specs.declared.workload.Sched.{Sched}
use Rattle.split_types.specs.Lines.{numeral, line, lines_of}
use Rattle.split_types.specs.ReportText.{request_words, billed_words, account_lines, made_words, made_lines, report_text}
use Rattle.line_printer.specs.Puts.{Puts}
use Rattle.line_printer.proofs.Shared.{and_then, in_all}
use Rattle.billing_report.proofs.put_report.Goals as goal

parts : {P : Type 0} {due : P → List ℕ → P → List ℕ → Type 0} {a b c d e h : P} (f : Facts) (sched : Sched)
    → Puts due a b (line (codes "report" ∷ numeral 1 ∷ []) ++ line (codes "requests" ∷ numeral (length f.reqs) ∷ [])
    ++ lines_of request_words f.reqs)
    → Puts due b c (lines_of billed_words (enumerate_from 1 f.billed))
    → Puts due c d (account_lines sched f.accounts)
    → Puts due d e (lines_of made_words (enumerate_from 1 (take (length f.billed) f.made))
    ++ made_lines (drop (length f.billed) f.made))
    → Puts due e h (line (codes "clock" ∷ numeral f.clock ∷ []) ++ line (codes "end" ∷ []))
    → Puts due a h (report_text f sched)
parts f sched p q r s t =
    let front = line (codes "report" ∷ numeral 1 ∷ []) ++ line (codes "requests" ∷ numeral (length f.reqs) ∷ [])
    ++ lines_of request_words f.reqs in
    let paid = front ++ lines_of billed_words (enumerate_from 1 f.billed) ++ account_lines sched f.accounts in
    let clients = lines_of made_words (enumerate_from 1 (take (length f.billed) f.made)) in
    let stack = made_lines (drop (length f.billed) f.made) in
    let clock = line (codes "clock" ∷ numeral f.clock ∷ []) in
    let made = in_all (paid ++ clients ++ stack) (and_then (and_then (and_then p q) r) s)
    (sym (append_assoc paid clients stack)) in
    in_all (report_text f sched) (and_then made t) (sym
    (append_assoc (paid ++ clients ++ stack) clock (line (codes "end" ∷ []))))

pub returns : goal.returns
returns g c =
    let f = c.args.f.now in
    parts f c.args.sched c.put_front.ensures
    (in_all (lines_of billed_words (enumerate_from 1 f.billed)) c.put_billed.ensures (cc))
    (in_all (account_lines c.args.sched f.accounts) c.put_account_lines.ensures (cc))
    (in_all (lines_of made_words (enumerate_from 1 (take (length f.billed) f.made))
    ++ made_lines (drop (length f.billed) f.made)) c.put_made.ensures (cc))
    c.put_end.ensures
