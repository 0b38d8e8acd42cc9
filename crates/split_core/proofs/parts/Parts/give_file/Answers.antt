-- The file of the slot that is found is the one that the call works on.
use Rattle.split_types.specs.LiveFiles.{file_at}
use Rattle.split_core.proofs.PartNotes.{for_file, for_size}
use Rattle.split_core.proofs.parts.Parts.give_file.Goals as goal

pub returns-in-Some-clause-file : goal.returns-in-Some-clause-file
returns-in-Some-clause-file c =
    for_file c.args.w.now c.args.h.now.events c.args.call.now
    (file_at c.args.self.now.filing.fs.slots c.in-Some.slot.0) c.serial_of.result c.in-Some.ensures.live
    c.in-Some.ensures.file c.serial_of.ensures

pub returns-in-Some-clause-size : goal.returns-in-Some-clause-size
returns-in-Some-clause-size c =
    for_size c.args.w.now c.args.h.now.events c.args.call.now
    (file_at c.args.self.now.filing.fs.slots c.in-Some.slot.0) c.size_of-given.result c.in-Some.ensures.live
    c.in-Some.ensures.file c.size_of-given.ensures
