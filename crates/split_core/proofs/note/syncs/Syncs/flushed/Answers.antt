-- An fsync awaits the last change of its file.
use Rattle.std.proofs.Common.{arith, sym, ◌∙◌}
use Rattle.split_types.proofs.Shared.{files_are_in_order}
use Rattle.split_core.proofs.SyncCallSteps.{slot_facts, flushed_none, flushed_live, syncs_flushed}
use Rattle.split_core.proofs.note.syncs.Syncs.flushed.Goals as goal

pub flush-requires-clause-slot : goal.flush-requires-clause-slot
flush-requires-clause-slot c =
    let facts = slot_facts c.args.w.now c.args.h.now.events c.in-Some.serial c.in-Some-live_slot.slot
    (files_are_in_order c.args.w.now c.args.h.now.events c.requires.accepted c.requires.fits.legal.1)
    (sym c.live_slot.ensures ∙ c.in-Some-live_slot.is)
    in omega (arith, facts.0, c.requires.stands.files_many)

pub returns-in-Some-live_slot : goal.returns-in-Some-live_slot
returns-in-Some-live_slot c =
    syncs_flushed c.args.w.now c.args.h.now.events c.args.by c.in-Some.serial c.in-Some-live_slot.slot c.args.self.now
    c.flush.new.self c.requires.accepted c.requires.fits (sym c.in-Some.is ∙ c.file_of.ensures)
    (sym c.live_slot.ensures ∙ c.in-Some-live_slot.is) c.flush.ensures.files c.flush.ensures.calls
    c.flush.ensures.admitted c.requires.stands

pub returns-in_default-live_slot : goal.returns-in_default-live_slot
returns-in_default-live_slot c =
    absurd (flushed_live c.args.w.now c.args.h.now.events c.args.by c.args.self.now c.in-Some.serial c.requires.fits
    c.requires.stands (sym c.in-Some.is ∙ c.file_of.ensures) (sym c.live_slot.ensures ∙ c.in_default-live_slot.is))

pub returns-in_default : goal.returns-in_default
returns-in_default c =
    absurd (flushed_none c.args.w.now c.args.h.now.events c.args.by c.args.self.now c.requires.fits c.requires.stands
    (sym c.in_default.is ∙ c.file_of.ensures))
