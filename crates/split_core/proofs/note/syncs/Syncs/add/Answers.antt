-- A request takes pages of a file.
use Rattle.split_core.proofs.SyncCallSteps.{slot_within}
use Rattle.split_core.proofs.SyncSteps.{syncs_add, syncs_add_other}
use Rattle.split_core.proofs.SyncEndSteps.{added_within, covers_none}
use Rattle.split_core.proofs.note.syncs.Syncs.add.Goals as goal

pub take-requires-clause-slot : goal.take-requires-clause-slot
take-requires-clause-slot c =
    slot_within c.args.w.now c.args.h.now.events c.in-Pages.serial c.live_slot.result c.args.self.now
    c.requires.accepted c.requires.fits.legal.1 c.requires.stands c.live_slot.ensures

pub take-requires-clause-pages : goal.take-requires-clause-pages
take-requires-clause-pages c =
    added_within c.args.w.now c.args.h.now.events c.args.by c.args.request.now c.in-Pages.serial c.in-Pages.page
    c.requires.fits c.in-Pages.is

pub returns-in-Pages : goal.returns-in-Pages
returns-in-Pages c =
    syncs_add c.args.w.now c.args.h.now.events c.args.by c.args.request.now c.in-Pages.serial c.in-Pages.page
    c.args.self.now c.take.new.self c.requires.accepted c.requires.fits.legal c.in-Pages.is
    (added_within c.args.w.now c.args.h.now.events c.args.by c.args.request.now c.in-Pages.serial c.in-Pages.page
    c.requires.fits c.in-Pages.is)
    (rw (c.live_slot.ensures) at c.take.ensures.files) c.take.ensures.calls c.take.ensures.admitted c.requires.stands

pub returns-in_default : goal.returns-in_default
returns-in_default c =
    syncs_add_other c.args.w.now c.args.h.now.events c.args.by c.args.request.now c.args.self.now c.requires.accepted
    c.requires.fits.legal (λ t g. covers_none c.args.request.now t g c.in_default.not-Pages) c.requires.stands
