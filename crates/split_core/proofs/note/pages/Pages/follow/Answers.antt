-- What stands after each kind of event.
use Rattle.tag_table.specs.Tags.{tags_of}
use Rattle.std.proofs.Common.{arith, refl}
use Rattle.split_core.proofs.PageTags.{tags_kept}
use Rattle.split_core.proofs.PageKinds.{after_ret, get_loaded, after_get, drop_within, after_drop, evicts, after_evict}
use Rattle.split_core.proofs.PageQuiet.{pages_other}
use Rattle.split_core.proofs.note.pages.Pages.follow.Goals as goal

pub returns-in-Ret-clause-pages : goal.returns-in-Ret-clause-pages
returns-in-Ret-clause-pages c =
    after_ret c.args.w.now c.args.h.now.events c.args.e.now c.in-Ret.by c.in-Ret.reply c.args.self.now _
    (tags_of c.args.tags.now) c.in-Ret.is c.requires.before c.unpin.ensures.pages c.unpin.ensures.tags

pub get-requires : goal.get-requires
get-requires c =
    let known = get_loaded c.args.w.now c.args.h.now.events c.args.e.now c.in-Get.by c.in-Get.serial c.in-Get.page
    c.in-Get.from c.in-Get.to c.in-Get.sum c.args.self.now (tags_of c.args.tags.now) c.in-Get.is c.requires.before
    in record { loaded = known.0; order = known.1; within = known.2 }

pub returns-in-Get-clause-pages : goal.returns-in-Get-clause-pages
returns-in-Get-clause-pages c =
    after_get c.args.w.now c.args.h.now.events c.args.e.now c.in-Get.by c.in-Get.serial c.in-Get.page c.in-Get.from
    c.in-Get.to c.in-Get.sum c.args.self.now c.get.new.self (tags_of c.args.tags.now) c.in-Get.is c.requires.before
    c.get.ensures

pub free-requires : goal.free-requires
free-requires c =
    record {
      tags = λ n. omega (arith, c.requires.before.tags n);
      below = λ g held. omega (
        arith,
        drop_within c.args.w.now c.args.h.now.events c.args.e.now c.in-Drop.by c.in-Drop.slot c.in-Drop.serial
            c.args.self.now (tags_of c.args.tags.now) c.args.given.now c.in-Drop.is c.requires.before c.requires.given g held,
        c.div_ceil.ensures,
      );
    }

pub returns-in-Drop-clause-pages : goal.returns-in-Drop-clause-pages
returns-in-Drop-clause-pages c =
    after_drop c.args.w.now c.args.h.now.events c.args.e.now c.in-Drop.by c.in-Drop.slot c.in-Drop.serial
    c.args.self.now _ (tags_of c.args.tags.now) (tags_of c.free.new.tags) c.in-Drop.is c.requires.before
    c.free.ensures.pages c.free.ensures.moved

pub evict-requires : goal.evict-requires
evict-requires c =
    evicts c.args.w.now c.args.h.now.events c.args.e.now c.in-Evict.by c.in-Evict.serial c.in-Evict.page
    c.args.self.now (tags_of c.args.tags.now) c.in-Evict.is c.requires.before

pub returns-in-Evict-clause-pages : goal.returns-in-Evict-clause-pages
returns-in-Evict-clause-pages c =
    after_evict c.args.w.now c.args.h.now.events c.args.e.now c.in-Evict.by c.in-Evict.serial c.in-Evict.page
    c.args.self.now _ (tags_of c.args.tags.now) c.in-Evict.is c.requires.before c.evict.ensures.page
    c.evict.ensures.touches

pub returns-in_default-clause-pages : goal.returns-in_default-clause-pages
returns-in_default-clause-pages c =
    let b = c.requires.before
    in record {
      stands = pages_other c.args.w.now c.args.h.now.events c.args.e.now c.args.self.now.cache
          (tags_of c.args.tags.now) b.accepted b.fits.legal b.fits.kind c.in_default.not-Put c.in_default.not-Get
          c.in_default.not-Drop c.in_default.not-Ret c.in_default.not-Evict c.requires.other c.in_default.not-Done b.stands;
      tags = tags_kept (tags_of c.args.tags.now) c.args.self.now.cache c.args.self.now.cache (λ n. refl);
    }
