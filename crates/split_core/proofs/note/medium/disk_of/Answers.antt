-- A new disk has zeros alone.
use Rattle.split_core.proofs.MediumNotesStart.{zeros_are}
use Rattle.split_core.proofs.note.medium.disk_of.Goals as goal

pub write_metadata-requires-clause-zeros : goal.write_metadata-requires-clause-zeros
write_metadata-requires-clause-zeros c =
    zeros_are c.args.w.now c.in_ok-disk.disk c.in_ok-disk.ensures.size c.in_ok-disk.ensures.writes
    c.in_ok-disk.ensures.zeros
