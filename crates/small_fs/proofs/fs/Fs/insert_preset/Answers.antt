use Rattle.std.proofs.Common.{ℕ, ◌+◌, ◌*◌, ap, ◌∙◌}
use Rattle.split_types.specs.LiveFiles.{Slots, grown_file, mapped_file}
use Rattle.small_fs.specs.Files.{Files, changed}
use Rattle.small_fs.proofs.FilesLaws.{next_free, is_free}
use Rattle.small_fs.proofs.PresetLaws.{preset_in}
use Rattle.small_fs.proofs.fs.Fs.insert_preset.Goals as goal

pub returns : goal.returns
returns c =
    let fs = c.args.self.now in
    let f = c.args.f.now in
    let at = c.args.at.0 in
    let size : ℕ = 4096 * f.pages in
    let free = is_free fs.slots at (next_free fs c.args.at _ c.requires.free) in
    let grow : Files → Files = λ g. record g { slots = changed (grown_file size) at g.slots } in
    let map : Files → Files = λ g. record g { slots = changed (mapped_file 0 f.pages c.args.block size) at g.slots } in
    let with : Slots → Files = λ slots. record fs { slots = slots; next = fs.next + 1 } in
    c.map_run.ensures ∙ ap map (c.grow.ensures ∙ ap grow c.insert.ensures)
    ∙ ap with (preset_in fs.slots at fs.next c.args.block f free.within c.requires.pages)
