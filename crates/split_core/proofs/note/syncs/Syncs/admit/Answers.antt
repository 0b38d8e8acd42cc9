-- An fsync is admitted with what its file has to be written; nothing else that is kept changes.
use Rattle.std.proofs.Common.{◌≡◌, inl, inr, None, arith, sym, ◌∙◌}
use Rattle.split_types.specs.Files.{file_for}
use Rattle.split_types.specs.Calls.{call_of}
use Rattle.split_types.proofs.Shared.{files_are_in_order}
use Rattle.split_core.proofs.SyncCallSteps.{slot_facts, admit_live, syncs_admit, syncs_admit_other}
use Rattle.split_core.proofs.note.syncs.Syncs.admit.Goals as goal

pub returns-then-not-given : goal.returns-then-not-given
returns-then-not-given c =
    syncs_admit_other c.args.w.now c.args.h.now.events c.args.by c.args.self.now c.requires.accepted c.requires.fits
    (inl (sym c.requires.given.syncs_is ∙ c.if-not-given.true)) c.requires.stands

pub begin-requires-clause-slot : goal.begin-requires-clause-slot
begin-requires-clause-slot c =
    let facts = slot_facts c.args.w.now c.args.h.now.events c.in-Some.serial c.in-Some-live_slot.slot
    (files_are_in_order c.args.w.now c.args.h.now.events c.requires.accepted c.requires.fits.legal.1)
    (sym c.live_slot.ensures ∙ c.in-Some-live_slot.is)
    in omega (arith, facts.0, c.requires.stands.files_many)

pub returns-in-Some-live_slot : goal.returns-in-Some-live_slot
returns-in-Some-live_slot c =
    syncs_admit c.args.w.now c.args.h.now.events c.args.by c.in-Some.serial c.in-Some-live_slot.slot c.args.self.now
    c.begin.new.self c.requires.accepted c.requires.fits (sym c.requires.given.syncs_is ∙ c.if-not-given.false)
    (sym c.requires.given.file_is ∙ c.in-Some.is) (sym c.live_slot.ensures ∙ c.in-Some-live_slot.is)
    c.begin.ensures.files c.begin.ensures.calls c.begin.ensures.admitted c.requires.stands

pub returns-in_default-live_slot : goal.returns-in_default-live_slot
returns-in_default-live_slot c =
    absurd (admit_live c.args.w.now c.args.h.now.events c.args.by c.in-Some.serial c.requires.accepted
    c.requires.fits.legal.1 (sym c.in-Some.is ∙ c.requires.given.file_is)
    (sym c.live_slot.ensures ∙ c.in_default-live_slot.is))

pub returns-in_default : goal.returns-in_default
returns-in_default c =
    let none : file_for c.args.w.now c.args.h.now.events (call_of c.args.w.now c.args.h.now.events c.args.by.0) ≡ None =
    sym c.requires.given.file_is ∙ c.in_default.is
    in syncs_admit_other c.args.w.now c.args.h.now.events c.args.by c.args.self.now c.requires.accepted c.requires.fits
    (inr none) c.requires.stands
