-- The block of a page of a file.
use Rattle.split_core.proofs.FilingFilesFound.{block_found, serial_there}
use Rattle.split_core.proofs.note.filing.Filing.block_of.Goals as goal

pub returns-in_err-slot : goal.returns-in_err-slot
returns-in_err-slot c =
    absurd (serial_there c.args.w.now c.args.h.now.events c.args.self.now.fs.slots c.args.serial c.requires.accepted
    c.requires.legal c.requires.stands.files.slots c.requires.page.live c.in_err-slot.ensures.slot)

pub returns : goal.returns
returns c =
    block_found c.args.w.now c.args.h.now.events c.args.self.now.fs.slots c.args.serial c.args.page c.in_ok-slot.slot
    c.map_of.result c.requires.accepted c.requires.legal c.requires.stands.files.slots c.requires.page.live
    c.requires.page.page c.in_ok-slot.ensures.slot c.map_of.ensures
