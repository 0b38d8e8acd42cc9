-- A request comes in at the end of the queue, goes over to those in flight, and leaves.
use Rattle.std.proofs.Common.{arith}
use Rattle.split_types.proofs.Shared.{adds_most}
use Rattle.split_core.proofs.DispatchNotes.{sent_queued, dispatch_send, dispatch_done}
use Rattle.split_core.proofs.note.dispatch.Dispatch.note.Goals as goal

pub add-requires-clause-few : goal.add-requires-clause-few
add-requires-clause-few c =
    let fits = rw c.in-Add.is at c.requires.fits.kind
    in omega (arith, fits.number, adds_most c.args.h.now.events, c.requires.fits.short)

pub send-requires : goal.send-requires
send-requires c =
    let fits = rw c.in-Send.is at c.requires.fits.kind
    in sent_queued c.args.w.now c.args.h.now.events c.in-Send.id c.in-Send.cost c.args.self.now.queue.queued fits
    c.requires.stands.queued_are

pub returns-in-Send : goal.returns-in-Send
returns-in-Send c =
    rw c.in-Send.is (dispatch_send c.args.h.now.events c.in-Send.id c.in-Send.cost c.args.self.now _ c.requires.stands
    c.send.ensures.queued c.send.ensures.in_flight c.send.ensures.next_id (rw c.in-Send.is at c.note.ensures))

pub returns-in-Done : goal.returns-in-Done
returns-in-Done c =
    let fits = rw c.in-Done.is at c.requires.fits.kind
    in rw c.in-Done.is (dispatch_done c.args.w.now c.args.h.now.events c.in-Done.k c.in-Done.id c.in-Done.ok
    c.args.self.now _ fits c.requires.stands c.done-done.ensures.in_flight c.done-done.ensures.queued
    c.done-done.ensures.next_id (rw c.in-Done.is at c.note.ensures))
