-- Each holder's tags stay where those of another move.
use Rattle.std.proofs.Common.{arith}
use Rattle.split_types.specs.History.{◌▹◌}
use Rattle.tag_table.specs.Tags.{tags_of}
use Rattle.split_core.specs.Pages.{held_by_pages}
use Rattle.split_core.specs.Journaling.{held_by_journal}
use Rattle.split_core.specs.Served.{held_by_service}
use Rattle.split_core.proofs.PartNotes.{pages_stay, journal_stays}
use Rattle.split_core.proofs.ServiceNotes.{served_stays}
use Rattle.split_core.proofs.parts.Parts.note_holders.Goals as goal

pub note-requires-2-clause-pages : goal.note-requires-2-clause-pages
note-requires-2-clause-pages c =
    let p = c.args.self.now in
    pages_stay c.args.w.now p.pages (tags_of p.tags) (tags_of c.note.new.tags) (held_by_journal p.journaling)
    (held_by_journal c.note.new.self) c.args.h.now.events c.note.ensures.moved
    (λ n. omega (arith, c.requires.stands.tags n)) c.requires.stands.pages

pub note-taken-requires-clause-stands : goal.note-taken-requires-clause-stands
note-taken-requires-clause-stands c =
    let p = c.args.self.now in
    pages_stay c.args.w.now p.pages (tags_of c.note.new.tags) (tags_of c.note-2.new.tags) (held_by_service p.service)
    (held_by_service c.note-2.new.self) c.args.h.now.events c.note-2.ensures.moved
    (λ n. omega (arith, c.requires.stands.tags n, c.note.ensures.moved.uses n))
    (pages_stay c.args.w.now p.pages (tags_of p.tags) (tags_of c.note.new.tags) (held_by_journal p.journaling)
    (held_by_journal c.note.new.self) c.args.h.now.events c.note.ensures.moved
    (λ n. omega (arith, c.requires.stands.tags n)) c.requires.stands.pages)

pub returns-clause-journaling : goal.returns-clause-journaling
returns-clause-journaling c =
    let p = c.args.self.now in
    let l = c.args.h.now.events ▹ c.args.e.now in
    journal_stays c.args.w.now c.note.new.self (tags_of c.note-2.new.tags) (tags_of c.note-taken.new.tags)
    (held_by_pages p.pages) (held_by_pages c.note-taken.new.self) l c.note-taken.ensures.moved
    (λ n. omega (arith, c.requires.stands.tags n, c.note.ensures.moved.uses n, c.note-2.ensures.moved.uses n))
    (journal_stays c.args.w.now c.note.new.self (tags_of c.note.new.tags) (tags_of c.note-2.new.tags)
    (held_by_service p.service) (held_by_service c.note-2.new.self) l c.note-2.ensures.moved
    (λ n. omega (arith, c.requires.stands.tags n, c.note.ensures.moved.uses n)) c.note.ensures.stands)

pub returns-clause-service : goal.returns-clause-service
returns-clause-service c =
    let p = c.args.self.now in
    served_stays c.note-2.new.self (tags_of c.note-2.new.tags) (tags_of c.note-taken.new.tags)
    (held_by_pages p.pages) (held_by_pages c.note-taken.new.self) (c.args.h.now.events ▹ c.args.e.now)
    c.note-taken.ensures.moved
    (λ n. omega (arith, c.requires.stands.tags n, c.note.ensures.moved.uses n, c.note-2.ensures.moved.uses n))
    c.note-2.ensures.stands
