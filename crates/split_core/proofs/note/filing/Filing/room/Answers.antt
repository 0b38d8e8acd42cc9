-- The same files are there.
use Rattle.split_core.proofs.FilingFilesNotes.{files_roomy}
use Rattle.split_core.proofs.note.filing.Filing.room.Goals as goal

pub returns-clause-stands : goal.returns-clause-stands
returns-clause-stands c = λ w h stands. record {
  files = files_roomy w h c.args.self.now.fs c.room.new.self c.room.ensures.rest stands.files;
  blocks = stands.blocks;
}
