-- The pages of the files so far stand on the disk.
use Rattle.split_core.proofs.MediumNotesStart.{IsFilledTo}
use Rattle.split_core.proofs.note.medium.write_files.Given as goal

abbrev pub invariant-loop-file : goal.invariant-loop-file
invariant-loop-file l = IsFilledTo l.w l.disk l.block l.file-index
