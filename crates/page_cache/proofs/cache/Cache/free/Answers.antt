use Rattle.std.proofs.Common.{◌<◌, arith}
use Rattle.page_cache.proofs.RunLaws.{frees-start, frees-next, frees-all}
use Rattle.page_cache.proofs.cache.Cache.free.Goals as goal

pub loop-page-init : goal.loop-page-init
loop-page-init g c =
    record {
      frees = frees-start (g.S.TagStore.now c.args.tags.now) c.args.self.now c.args.s c.requires.tags;
      tags_spare = omega arith;
    }

pub free_page-requires : goal.free_page-requires
free_page-requires g c = c.loop-page.invariant.frees.covers

pub loop-page-preserved : goal.loop-page-preserved
loop-page-preserved g c =
    let store = g.S.TagStore.now in
    let low : c.loop-page.page < 1008 = omega (arith, c.min-end.ensures) in
    record {
      frees = frees-next (store c.args.tags.now) (store c.loop-page.tags) (store c.free_page.new.tags) c.args.self.now
          c.loop-page.self
          c.free_page.new.self c.args.s c.loop-page.page c.loop-page.invariant.frees low c.free_page.ensures.numbers
          c.free_page.ensures.page
          c.free_page.ensures.touches c.free_page.ensures.spare c.free_page.ensures.causes c.free_page.ensures.moved;
      tags_spare = omega (arith, c.loop-page.invariant.tags_spare, c.free_page.ensures.tags_spare);
    }

pub returns-clause-pages : goal.returns-clause-pages
returns-clause-pages g c =
    frees-all (g.S.TagStore.now c.args.tags.now) (g.S.TagStore.now c.loop-page.tags) c.args.self.now c.loop-page.self
    c.args.s c.args.pages c.loop-page.page (omega (arith, c.loop-page.auto.page-end, c.min-end.ensures)) c.requires.below
    c.loop-page.invariant.frees
