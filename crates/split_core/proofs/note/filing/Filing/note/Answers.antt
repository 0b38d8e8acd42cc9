-- An event is taken note of.
use Rattle.std.proofs.Common.{refl}
use Rattle.split_core.proofs.FilingFilesEvents.{stands_quiet, stands_done, make_may, stands_make, drop_may, stands_drop, stands_put, map_may, stands_map}
use Rattle.split_core.proofs.FilingBlocks.{put_promises}
use Rattle.split_core.proofs.note.filing.Filing.note.Goals as goal

pub make-requires : goal.make-requires
make-requires c =
    let fits = rw c.in-Make.is at c.requires.fits
    in let room = rw c.in-Make.is at c.requires.room
    in let given = rw c.in-Make.is at c.requires.given
    in record {
      may = make_may c.args.w.now c.args.h.now.events c.in-Make.by c.in-Make.slot c.in-Make.serial c.args.self.now
          c.args.given.now.name c.requires.accepted fits c.requires.stands given.name_is (room refl);
    }

pub returns-in-Make : goal.returns-in-Make
returns-in-Make c =
    let fits = rw c.in-Make.is at c.requires.fits
    in let given = rw c.in-Make.is at c.requires.given
    in let does = c.make.ensures
    in rw c.in-Make.is (stands_make c.args.w.now c.args.h.now.events c.in-Make.by c.in-Make.slot c.in-Make.serial
    c.args.self.now c.make.new.self c.args.given.now.name c.requires.accepted fits c.requires.stands given.name_is
    does.slots does.counted does.first does.blocks)

pub drop_file-requires : goal.drop_file-requires
drop_file-requires c =
    let fits = rw c.in-Drop.is at c.requires.fits
    in let given = rw c.in-Drop.is at c.requires.given
    in let may = drop_may c.args.w.now c.args.h.now.events c.in-Drop.by c.in-Drop.slot c.in-Drop.serial
    c.args.self.now c.args.given.now.promised c.requires.accepted fits c.requires.stands given.promised_is
    in record { live = may.live; taken = may.taken; promised = may.promised }

pub returns-in-Drop : goal.returns-in-Drop
returns-in-Drop c =
    let fits = rw c.in-Drop.is at c.requires.fits
    in let given = rw c.in-Drop.is at c.requires.given
    in rw c.in-Drop.is (stands_drop c.args.w.now c.args.h.now.events c.in-Drop.by c.in-Drop.slot c.in-Drop.serial
    c.args.self.now c.drop_file.new.self c.args.given.now c.requires.accepted fits c.requires.stands given
    c.drop_file.ensures.files c.drop_file.ensures.blocks)

pub put-requires : goal.put-requires
put-requires c =
    let fits = rw c.in-Put.is at c.requires.fits
    in let given = rw c.in-Put.is at c.requires.given
    in record {
      page = fits.kind.page.page;
      to = fits.kind.most;
      promise = put_promises c.args.w.now c.args.h.now.events c.in-Put.by c.in-Put.serial c.in-Put.page c.in-Put.from
          c.in-Put.to c.in-Put.fill c.args.given.now.promise c.args.self.now.alloc c.requires.accepted fits.legal fits
          given c.requires.stands.blocks;
    }

pub returns-in-Put : goal.returns-in-Put
returns-in-Put c =
    let fits = rw c.in-Put.is at c.requires.fits
    in let given = rw c.in-Put.is at c.requires.given
    in let does = c.put.ensures
    in rw c.in-Put.is (stands_put c.args.w.now c.args.h.now.events c.in-Put.by c.in-Put.serial c.in-Put.page
    c.in-Put.from c.in-Put.to c.in-Put.fill c.args.self.now c.put.new.self c.args.given.now.promise
    c.requires.accepted fits c.requires.stands given does.files does.promised does.kept)

pub map-requires : goal.map-requires
map-requires c =
    let fits = rw c.in-Map.is at c.requires.fits
    in let may = map_may c.args.w.now c.args.h.now.events c.in-Map.slot c.in-Map.serial c.in-Map.page c.in-Map.n
    c.in-Map.block c.in-Map.new c.in-Map.size c.args.self.now c.requires.accepted fits c.requires.stands
    in record {
      live = may.live;
      pages = may.pages;
      first = may.first;
      blocks = may.blocks;
      size = may.size;
      some = may.some;
      promised = may.promised;
    }

pub returns-in-Map : goal.returns-in-Map
returns-in-Map c =
    let fits = rw c.in-Map.is at c.requires.fits
    in let does = c.map.ensures
    in rw c.in-Map.is (stands_map c.args.w.now c.args.h.now.events c.in-Map.slot c.in-Map.serial c.in-Map.page
    c.in-Map.n c.in-Map.block c.in-Map.new c.in-Map.size c.args.self.now c.map.new.self c.requires.accepted fits
    c.requires.stands does.files does.taken does.kept)

pub returns-in-Done : goal.returns-in-Done
returns-in-Done c =
    let fits = rw c.in-Done.is at c.requires.fits
    in let given = rw c.in-Done.is at c.requires.given
    in rw c.in-Done.is (stands_done c.args.w.now c.args.h.now.events c.in-Done.k c.in-Done.id c.in-Done.ok
    c.args.self.now c.settle.new.self c.args.given.now.request c.requires.accepted fits c.requires.stands
    given.request_is c.settle.ensures.files c.settle.ensures.blocks)

pub returns-in_default : goal.returns-in_default
returns-in_default c =
    stands_quiet c.args.w.now c.args.h.now.events c.args.e.now c.args.self.now c.requires.accepted c.requires.fits
    c.in_default.not-Make c.in_default.not-Put c.in_default.not-Drop c.in_default.not-Map c.in_default.not-Done
    c.requires.stands
