-- The journal at the start.
use Rattle.split_core.proofs.JournalNotes.{journal_start}
use Rattle.split_core.proofs.note.journaling.Journaling.new.Goals as goal

pub returns-clause-stands : goal.returns-clause-stands
returns-clause-stands c = λ tags.
    journal_start c.args.w.now (record { journal = c.in_ok-journal.journal }) tags c.slots.result
    c.in_ok-journal.journal.images c.slots.ensures c.in_ok-journal.ensures.images c.in_ok-journal.ensures.empty
