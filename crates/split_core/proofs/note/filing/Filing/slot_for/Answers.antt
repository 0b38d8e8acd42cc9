-- The slot of the file of a call.
use Rattle.std.proofs.Common.{ap, ◌∙◌}
use Rattle.split_types.specs.LiveFiles.{slot_named}
use Rattle.split_core.proofs.FilingFilesFound.{slot_is_for}
use Rattle.split_core.proofs.note.filing.Filing.slot_for.Goals as goal

pub returns-in_default : goal.returns-in_default
returns-in_default c =
    let is = slot_is_for c.args.w.now c.args.h.now.events c.args.call.now c.args.self.now.fs.slots c.find.result
    c.requires.accepted c.requires.legal c.requires.stands.files.slots c.in_default.not-Creat
    (c.find.ensures.slot ∙ ap (slot_named c.args.self.now.fs.slots) c.name_of.ensures)
    in record { slot = is.slot; live = is.live; file = is.file }
