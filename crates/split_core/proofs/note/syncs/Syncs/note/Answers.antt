-- An event is taken note of.
use Rattle.std.proofs.Common.{arith, refl, ap, ◌∙◌}
use Rattle.split_core.specs.Syncs.{file_changed, file_put}
use Rattle.split_core.proofs.SyncFileSteps.{make_slot, own_slot_within, live_slot_within, syncs_make, syncs_map, syncs_put, syncs_drop, syncs_other}
use Rattle.split_core.proofs.SyncCallSteps.{syncs_ret}
use Rattle.split_core.proofs.note.syncs.Syncs.note.Goals as goal

pub make-requires : goal.make-requires
make-requires c =
    make_slot c.args.w.now c.args.h.now.events c.in-Make.by c.in-Make.slot c.in-Make.serial c.args.self.now
    (rw c.in-Make.is at c.requires.fits) c.requires.stands

pub returns-in-Make : goal.returns-in-Make
returns-in-Make c =
    let fits = rw c.in-Make.is at c.requires.fits
    in let given = rw c.in-Make.is at c.requires.given
    in let does = c.make.ensures
    in rw c.in-Make.is (syncs_make c.args.w.now c.args.h.now.events c.in-Make.by c.in-Make.slot c.in-Make.serial
    c.args.given.now.next c.args.self.now c.make.new.self c.requires.accepted fits given.next_is does.files does.calls
    does.admitted c.requires.stands)

pub change-requires : goal.change-requires
change-requires c =
    let fits = rw c.in-Map.is at c.requires.fits
    in own_slot_within c.args.w.now c.args.h.now.events c.in-Map.slot c.in-Map.serial c.args.self.now
    c.requires.accepted fits.legal.1 fits.kind.file c.requires.stands

pub returns-in-Map : goal.returns-in-Map
returns-in-Map c =
    let fits = rw c.in-Map.is at c.requires.fits
    in let given = rw c.in-Map.is at c.requires.given
    in let does = c.change.ensures
    in rw c.in-Map.is (syncs_map c.args.w.now c.args.h.now.events c.in-Map.slot c.in-Map.serial c.in-Map.page
    c.in-Map.n c.in-Map.block c.in-Map.new c.in-Map.size c.args.given.now.next c.args.self.now c.change.new.self
    c.requires.accepted fits given does.files does.calls does.admitted c.requires.stands)

pub put-requires : goal.put-requires
put-requires c =
    let fits = rw c.in-Put.is at c.requires.fits
    in record {
      slot = rw c.live_slot.ensures
          (live_slot_within c.args.w.now c.args.h.now.events c.in-Put.serial c.args.self.now c.requires.accepted
          fits.legal.1 c.requires.stands);
      page = fits.kind.page.page;
    }

pub returns-in-Put : goal.returns-in-Put
returns-in-Put c =
    let fits = rw c.in-Put.is at c.requires.fits
    in let does = c.put.ensures
    in rw c.in-Put.is (syncs_put c.args.w.now c.args.h.now.events c.in-Put.by c.in-Put.serial c.in-Put.page
    c.in-Put.from c.in-Put.to c.in-Put.fill c.args.self.now c.put.new.self c.requires.accepted fits
    (does.files ∙ ap (λ o. file_changed (file_put c.in-Put.page) o c.args.self.now.files.items) c.live_slot.ensures)
    does.calls does.admitted c.requires.stands)

pub returns-in-Drop : goal.returns-in-Drop
returns-in-Drop c =
    let fits = rw c.in-Drop.is at c.requires.fits
    in let does = c.drop_file.ensures
    in rw c.in-Drop.is (syncs_drop c.args.w.now c.args.h.now.events c.in-Drop.by c.in-Drop.slot c.in-Drop.serial
    c.args.self.now c.drop_file.new.self c.requires.accepted fits does.files does.calls does.admitted
    c.requires.stands)

pub ret-requires : goal.ret-requires
ret-requires c =
    let fits = rw c.in-Ret.is at c.requires.fits
    in let client = fits.by c.in-Ret.by refl
    in record {
      first = client.first;
      last = omega (arith, client.last, c.requires.stands.calls_many);
      admitted = c.requires.stands.admitted;
    }

pub returns-in-Ret : goal.returns-in-Ret
returns-in-Ret c =
    let fits = rw c.in-Ret.is at c.requires.fits
    in let does = c.ret.ensures
    in rw c.in-Ret.is (syncs_ret c.args.w.now c.args.h.now.events c.in-Ret.by c.in-Ret.reply c.args.self.now
    c.ret.new.self c.requires.accepted fits.legal.1 fits does.files does.calls does.admitted c.requires.stands)

pub returns-in_default : goal.returns-in_default
returns-in_default c =
    syncs_other c.args.w.now c.args.h.now.events c.args.e.now c.args.self.now c.in_default.not-Make c.in_default.not-Map
    c.in_default.not-Put c.in_default.not-Drop c.in_default.not-Admit c.in_default.not-Flushed c.in_default.not-Ret
    c.in_default.not-Add c.in_default.not-Done c.requires.stands
