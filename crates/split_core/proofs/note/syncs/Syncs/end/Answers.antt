-- The request for pages of a file is done.
use Rattle.split_core.proofs.SyncCallSteps.{slot_within}
use Rattle.split_core.proofs.SyncEndSteps.{done_within, syncs_end, syncs_end_other}
use Rattle.split_core.proofs.note.syncs.Syncs.end.Goals as goal

pub done-requires-clause-slot : goal.done-requires-clause-slot
done-requires-clause-slot c =
    slot_within c.args.w.now c.args.h.now.events c.in-Pages.serial c.live_slot.result c.args.self.now
    c.requires.accepted c.requires.fits.legal.1 c.requires.stands c.live_slot.ensures

pub done-requires-clause-pages : goal.done-requires-clause-pages
done-requires-clause-pages c =
    done_within c.args.w.now c.args.h.now.events c.args.e.now c.args.request.now c.in-Pages.serial c.in-Pages.page
    c.requires.accepted c.requires.fits c.requires.done c.in-Pages.is

pub returns-in-Pages : goal.returns-in-Pages
returns-in-Pages c =
    syncs_end c.args.w.now c.args.h.now.events c.args.e.now c.args.request.now c.in-Pages.serial c.in-Pages.page
    c.args.self.now c.done.new.self c.requires.accepted c.requires.fits c.requires.done c.in-Pages.is
    (rw (c.live_slot.ensures) at c.done.ensures.files) c.done.ensures.calls c.done.ensures.admitted c.requires.stands

pub returns-in_default : goal.returns-in_default
returns-in_default c =
    syncs_end_other c.args.w.now c.args.h.now.events c.args.e.now c.args.request.now c.args.self.now
    c.requires.accepted c.requires.fits c.requires.done c.in_default.not-Pages c.requires.stands
