use Rattle.std.proofs.Common.{[], ◌∷◌, ◌++◌, List, ℕ, map, codes}
use Rattle.split_types.specs.EventText.{kind_word}
use Rattle.split_types.specs.Lines.{numeral}
use Rattle.line_printer.proofs.Shared.{whole_line, fields_then}
use Rattle.split_types.specs.ReportText.{share_word, state_word}
use Rattle.billing_report.proofs.requests.put_request.Goals as goal

pub returns : goal.returns
returns g c =
    let f = c.args.f.now in
    let what : List (List ℕ) = numeral f.req.id.0 ∷ kind_word f.req.kind ∷ numeral f.req.first ∷ numeral f.req.n ∷ [] in
    let outcome : List (List ℕ) = state_word f.state ∷ numeral f.cost ∷ map share_word f.shares in
    whole_line (codes "req") (what ++ outcome) c.put.ensures
    (fields_then what outcome c.put_what.ensures c.put_outcome.ensures) c.end_line.ensures
