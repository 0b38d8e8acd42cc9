-- The first buffers of the list are marked.
use Rattle.split_types.specs.Hooks.{dirties}
use Rattle.tag_table.specs.Tags.{tags_of}
use Rattle.split_core.proofs.JournalNotesMarks.{IsMarked}
use Rattle.split_core.proofs.note.journaling.Journaling.mark.Given as goal

abbrev pub invariant-loop-b : goal.invariant-loop-b
invariant-loop-b l =
    IsMarked (tags_of l.initial.tags) (tags_of l.tags) l.initial.self.journal l.self.journal (dirties l.e) l.by.number
    l.b-index
