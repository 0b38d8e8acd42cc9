-- Each kind of event that the journal takes note of.
use Rattle.std.proofs.Common.{◌≡◌, ◌∙◌, sym, Some}
use Rattle.split_types.specs.declared.event.Event.TheVariants.{Add}
use Rattle.tag_table.specs.Tags.{tags_of}
use Rattle.split_core.proofs.FilingFilesNotes.{slot_within}
use Rattle.split_core.proofs.JournalNotesAdds.{due_some}
use Rattle.split_core.proofs.JournalNotesBlame.{metadata_map}
use Rattle.split_core.proofs.JournalNotesKinds.{changes_metadata, journal_changed, journal_map, may_seal, sealed_few, journal_seal, under_way, journal_done, journal_undone}
use Rattle.split_core.proofs.note.journaling.Journaling.note.Goals.{in_default-via-in-None-1, in_default-via-in-Some-request+else-is_of_commit-2}
use Rattle.split_core.proofs.note.journaling.Journaling.note.Goals as goal

pub mark_by-requires-clause-metadata : goal.mark_by-requires-clause-metadata
mark_by-requires-clause-metadata c =
    changes_metadata c.args.w.now c.args.h.now.events c.args.e.now c.in-Make.by c.requires.accepted c.requires.fits
    c.in-Make.is

pub returns-in-Make-clause-stands : goal.returns-in-Make-clause-stands
returns-in-Make-clause-stands c =
    journal_changed c.args.w.now c.args.h.now.events c.args.e.now c.in-Make.by c.args.self.now c.mark_by.new.self
    (tags_of c.args.tags.now) (tags_of c.mark_by.new.tags) c.requires.fits c.requires.stands c.mark_by.ensures.marked
    c.in-Make.is

pub mark-requires-clause-metadata : goal.mark-requires-clause-metadata
mark-requires-clause-metadata c =
    let m = c.in-Map in
    let fits = rw m.is at c.requires.fits in
    rw m.is (metadata_map m.slot m.serial m.page m.n m.block m.new m.size
    (slot_within c.args.w.now c.args.h.now.events m.slot m.serial c.requires.accepted fits.legal.1 fits.kind.file))

pub returns-in-Some-clause-stands : goal.returns-in-Some-clause-stands
returns-in-Some-clause-stands c =
    let m = c.in-Map in
    let fits = rw m.is at c.requires.fits in
    let marked = rw m.is at c.mark.ensures.marked in
    rw m.is (journal_map c.args.w.now c.args.h.now.events m.slot m.serial m.page m.n m.block m.new m.size
    c.args.self.now c.mark.new.self (tags_of c.args.tags.now) (tags_of c.mark.new.tags) c.args.service.now
    c.in-Some.causes.now fits c.requires.stands c.requires.service c.in-Some.ensures marked)

pub seal-requires-clause-due : goal.seal-requires-clause-due
seal-requires-clause-due c =
    let fits = rw c.in-Seal.is at c.requires.fits in
    may_seal c.args.w.now c.args.h.now.events c.in-Seal.t c.in-Seal.k c.args.self.now (tags_of c.args.tags.now)
    c.requires.accepted fits c.requires.stands

pub seal-requires-clause-few : goal.seal-requires-clause-few
seal-requires-clause-few c =
    sealed_few c.args.w.now c.args.h.now.events c.args.e.now c.args.self.now (tags_of c.args.tags.now)
    c.requires.accepted c.requires.fits c.requires.stands

pub returns-in-Seal-clause-stands : goal.returns-in-Seal-clause-stands
returns-in-Seal-clause-stands c =
    let files = c.requires.files c.in-Seal.t c.in-Seal.k c.in-Seal.is in
    let sealed = rw c.unwrap-sealed.ensures at c.seal.ensures.sealed in
    rw c.in-Seal.is (journal_seal c.args.w.now c.args.h.now.events c.in-Seal.t c.in-Seal.k c.args.self.now
    (record { journal = c.seal.new.self }) (tags_of c.args.tags.now) (tags_of c.seal.new.tags) c.args.fs.now files
    c.requires.stands sealed)

pub added-requires-clause-due : goal.added-requires-clause-due
added-requires-clause-due c =
    let fits = rw c.in-Add.is at c.requires.fits in
    due_some c.args.w.now c.args.h.now.events (Add c.in-Add.by c.in-Add.req) c.args.self.now
    (tags_of c.args.tags.now) c.requires.accepted fits.legal c.requires.stands
    (sym c.is_of_commit.ensures ∙ c.if-is_of_commit.true)

pub on_done-requires-clause-under_way : goal.on_done-requires-clause-under_way
on_done-requires-clause-under_way c =
    let d = c.in-Done in
    let fits = rw d.is at c.requires.fits in
    let given = rw d.is at c.requires.given in
    under_way c.args.w.now c.args.h.now.events d.k d.id d.ok c.in-Some-request.request c.args.self.now
    (tags_of c.args.tags.now) c.requires.accepted fits.legal c.requires.stands
    (sym given.request_is ∙ c.in-Some-request.is)
    (sym c.is_of_commit-in-Done.ensures ∙ c.if-is_of_commit-2.true)

pub returns-then-is_of_commit-2-clause-stands : goal.returns-then-is_of_commit-2-clause-stands
returns-then-is_of_commit-2-clause-stands c =
    let d = c.in-Done in
    let fits = rw d.is at c.requires.fits in
    let given = rw d.is at c.requires.given in
    rw d.is (journal_done c.args.w.now c.args.h.now.events d.k d.id d.ok c.in-Some-request.request c.args.self.now
    (record { journal = c.on_done.new.self }) (tags_of c.args.tags.now) (tags_of c.on_done.new.tags)
    c.requires.accepted fits.legal.1 c.requires.stands (sym given.request_is ∙ c.in-Some-request.is)
    (sym c.is_of_commit-in-Done.ensures ∙ c.if-is_of_commit-2.true) c.on_done.ensures.done)

pub returns-in_default-clause-stands : goal.returns-in_default-clause-stands
returns-in_default-clause-stands c =
    let d = c.in-Done in
    let fits = rw d.is at c.requires.fits in
    let given = rw d.is at c.requires.given in
    let some : c.args.given.now.request ≡ Some fits.kind.request = given.request_is ∙ fits.kind.at in
    elim c.in_default.branch [
      | in_default-via-in-None-1 v ↦ absurd (cc)
      | in_default-via-in-Some-request+else-is_of_commit-2 v ↦
          rw d.is (journal_undone c.args.w.now c.args.h.now.events d.k d.id d.ok v.in-Some-request.request
          c.args.self.now (tags_of c.args.tags.now) c.requires.accepted fits.legal.1 c.requires.stands
          (sym given.request_is ∙ v.in-Some-request.is)
          (sym v.is_of_commit-in-Done.ensures ∙ v.if-is_of_commit-2.false))
    ]
