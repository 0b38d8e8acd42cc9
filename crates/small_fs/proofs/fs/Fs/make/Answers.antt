use Rattle.std.proofs.Common.{sym, ap, ◌∙◌}
use Rattle.split_types.specs.LiveFiles.{made_file}
use Rattle.small_fs.specs.Files.{Files, next_file}
use Rattle.small_fs.proofs.FilesLaws.{made_live}
use Rattle.small_fs.proofs.fs.Fs.make.Goals as goal

pub returns-clause-live : goal.returns-clause-live
returns-clause-live c =
    let i = c.self.inside in
    let fs : Files = record { first = i.uses.first; slots = i.files.items; next = i.next; spare = i.maps } in
    made_live fs c.in-Some.made.0 c.in-Some.made.1 (made_file (record { 0 = i.next }) c.args.n)
    c.insert.new.self.slots (ap next_file c.self.view_is ∙ sym c.in-Some.ensures)
    (ap (λ (g : Files). g.slots) c.insert.ensures)
