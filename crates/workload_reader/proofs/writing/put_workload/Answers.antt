-- One part of the text after another.
use Rattle.line_printer.proofs.Shared.{and_then, in_all}
use Rattle.workload_reader.proofs.writing.put_workload.Goals as goal

pub returns : goal.returns
returns g c =
    let head = and_then c.put_settings.ensures c.put_lines.ensures in
    let files = and_then (and_then head c.put_lines-2.ensures) c.put_lines-3.ensures in
    let calls = and_then (and_then files c.put_lines-4.ensures) c.put_fails.ensures in
    in_all _ (and_then (and_then calls c.put_lines-5.ensures) c.put.ensures) (cc)
