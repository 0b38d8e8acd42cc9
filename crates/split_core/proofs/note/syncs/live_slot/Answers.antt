-- A file is found in its slot.
use Rattle.split_core.proofs.SyncFiles.{slot_is}
use Rattle.split_core.proofs.note.syncs.live_slot.Goals as goal

pub returns : goal.returns
returns c =
    slot_is c.args.w.now c.args.h.now.events c.args.fs.now c.args.serial _ c.requires.accepted c.requires.legal
    c.requires.files c.slot_of.ensures.slot
