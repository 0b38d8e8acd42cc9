-- A put writes its page, and frees the page that was kept for its process.
use Rattle.std.proofs.Common.{arith, refl}
use Rattle.tag_table.specs.Tags.{tags_of}
use Rattle.split_core.proofs.PageTags.{on_ok, tags_moved}
use Rattle.split_core.proofs.PagePuts.{pages_put}
use Rattle.split_core.proofs.note.pages.Pages.put.Goals as goal

pub returns-clause-pages : goal.returns-clause-pages
returns-clause-pages c =
    let fits = c.requires.fits
    in let client = fits.by c.args.by refl
    in let room = c.requires.room refl
    in let made = c.write.ensures.succeeds room.cache (omega (arith, room.tags))
    in record {
      stands = pages_put c.args.w.now c.args.h.now.events c.args.by c.args.serial c.args.page c.args.from c.args.to
          c.args.fill c.args.self.now.cache c.write.new.self c.unpin.new.self (tags_of c.args.tags.now)
          (tags_of c.write.new.tags) c.requires.accepted fits.legal client.first
          (omega (arith, client.last, fits.procs)) fits.kind (on_ok c.write.result _ made c.write.ensures.ok)
          c.unpin.ensures.pages c.requires.stands;
      tags = tags_moved (tags_of c.args.tags.now) (tags_of c.write.new.tags) c.args.self.now.cache c.write.new.self
          c.unpin.new.self c.write.ensures.moved c.unpin.ensures.tags;
    }
