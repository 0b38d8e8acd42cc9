use Rattle.std.proofs.Common.{◌≡◌, ◌∙◌, ◌+◌, ap, arith}
use Rattle.split_types.specs.declared.buf.Buf.TheVariants.{Page}
use Rattle.page_cache.specs.Cached.{is_ready}
use Rattle.page_cache.specs.Changes.{IsReady}
use Rattle.page_cache.specs.Steps.{IsPlaced}
use Rattle.page_cache.proofs.CallLaws.{is-there, some-at, tag-covered}
use Rattle.page_cache.proofs.TakeLaws.{takes-still, takes-more, takes-all, takes-causes, not-held}
use Rattle.page_cache.proofs.cache.Cache.take_tag.Goals as goal

pub unwrap-at-requires : goal.unwrap-at-requires
unwrap-at-requires g c =
    let old = c.args.self.now in
    let k = c.loop-k.k in
    let cur = c.loop-k.self in
    let store = g.S.TagStore.now in
    let b = Page c.args.s (c.args.page + k) in
    let ready : IsReady old b = c.requires.ready k c.loop-k-test.true in
    let still = takes-still (store c.whole_tag.new.tags) (store c.loop-k.tags) old cur c.args.s c.args.page k
    c.loop-k.invariant.takes in
    let ready_now : IsReady cur b = ap is_ready still ∙ ready in
    is-there c.place_of.result _ c.place_of.ensures.none (not-held cur b ready_now)

pub take_page-requires-clause-live : goal.take_page-requires-clause-live
take_page-requires-clause-live g c =
    tag-covered (g.S.TagStore.now c.loop-k.tags) c.loop-k.self.places c.unwrap-at.result c.loop-k.invariant.takes.covers

pub loop-k-preserved : goal.loop-k-preserved
loop-k-preserved g c =
    let old = c.args.self.now in
    let k = c.loop-k.k in
    let cur = c.loop-k.self in
    let store = g.S.TagStore.now in
    let b = Page c.args.s (c.args.page + k) in
    let placed = some-at c.place_of.result c.unwrap-at.result (IsPlaced cur.places b) c.unwrap-at.ensures
    c.place_of.ensures.some in
    record {
      takes = takes-more (store c.whole_tag.new.tags) (store c.loop-k.tags) (store c.take_page.new.tags) old cur
          c.take_page.new.self c.args.s c.args.page k c.unwrap-at.result c.loop-k.invariant.takes
          (c.requires.ready k c.loop-k-test.true) placed c.take_page.ensures.page c.take_page.ensures.moved;
      tags_spare = omega (arith, c.loop-k.invariant.tags_spare, c.take_page.ensures.spare);
    }

pub returns-clause-pages : goal.returns-clause-pages
returns-clause-pages g c =
    let all : c.loop-k.k ≡ c.args.n = omega (arith, c.loop-k.auto.k-end) in
    let done = rw all at c.loop-k.invariant.takes in
    takes-all (g.S.TagStore.now c.whole_tag.new.tags) (g.S.TagStore.now c.loop-k.tags) c.args.self.now c.loop-k.self
    c.args.s c.args.page c.args.n done

pub returns-clause-causes : goal.returns-clause-causes
returns-clause-causes g c =
    let all : c.loop-k.k ≡ c.args.n = omega (arith, c.loop-k.auto.k-end) in
    let done = rw all at c.loop-k.invariant.takes in
    takes-causes (g.S.TagStore.now c.args.tags.now) (g.S.TagStore.now c.whole_tag.new.tags)
    (g.S.TagStore.now c.loop-k.tags) c.args.self.now c.loop-k.self c.args.s c.args.page c.args.n
    (g.S.TagStore.number c.in_ok-tag.tag) c.in_ok-tag.ensures.moved c.requires.covers done
