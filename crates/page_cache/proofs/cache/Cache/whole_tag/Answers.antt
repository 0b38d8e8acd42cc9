use Rattle.std.proofs.Common.{◌+◌, arith}
use Rattle.split_types.specs.declared.buf.Buf.TheVariants.{Page}
use Rattle.page_cache.proofs.TakeLaws.{ready-first, ready-numbers, tag-live, whole-start, whole-more}
use Rattle.page_cache.proofs.cache.Cache.whole_tag.Goals as goal

pub ready_tag-first-requires : goal.ready_tag-first-requires
ready_tag-first-requires g c = ready-first c.args.self.now c.args.s c.args.page c.args.n c.requires.ready
    c.requires.some

pub again-requires : goal.again-requires
again-requires g c =
    tag-live (g.S.TagStore.now c.args.tags.now) c.args.self.now (Page c.args.s c.args.page)
    (g.S.TagStore.number c.ready_tag-first.result.now)
    c.requires.covers c.ready_tag-first.ensures.tag

pub returns-in_err-whole-clause-numbers : goal.returns-in_err-whole-clause-numbers
returns-in_err-whole-clause-numbers g c = ready-numbers c.args.self.now c.args.s c.args.page c.args.n c.requires.ready
    c.requires.some c.ready_tag-first.ensures.numbers

pub loop-k-init : goal.loop-k-init
loop-k-init g c =
    let store = g.S.TagStore.now in
    whole-start (store c.args.tags.now) (store c.again.new.self) c.args.self.now c.args.s c.args.page
    (g.S.TagStore.number c.ready_tag-first.result.now) (g.S.TagStore.number c.in_ok-whole.whole)
    c.ready_tag-first.ensures.tag
    c.in_ok-whole.ensures.moved c.in_ok-whole.ensures.set c.in_ok-whole.ensures.is_set c.in_ok-whole.ensures.spare

pub overflow_add-page : goal.overflow_add-page
overflow_add-page g c = let numbers = ready-numbers c.args.self.now c.args.s c.args.page c.args.n c.requires.ready
    c.requires.some c.ready_tag-first.ensures.numbers in omega (arith, numbers, c.loop-k-test.true)

pub ready_tag-other-requires : goal.ready_tag-other-requires
ready_tag-other-requires g c = c.requires.ready c.loop-k.k c.loop-k-test.true

pub merged-requires-clause-other : goal.merged-requires-clause-other
merged-requires-clause-other g c =
    let t = g.S.TagStore.number c.ready_tag-other.result.now in
    let live =
    tag-live (g.S.TagStore.now c.args.tags.now) c.args.self.now (Page c.args.s (c.args.page + c.loop-k.k)) t
    c.requires.covers
    c.ready_tag-other.ensures.tag in
    omega (arith, live, c.loop-k.invariant.moved.uses t)

pub loop-k-preserved : goal.loop-k-preserved
loop-k-preserved g c =
    let store = g.S.TagStore.now in
    whole-more (store c.args.tags.now) (store c.loop-k.tags) (store c.merged.new.tags) c.args.self.now c.args.s
    c.args.page c.loop-k.k
    (g.S.TagStore.number c.loop-k.whole) (g.S.TagStore.number c.ready_tag-other.result.now) _ c.loop-k.invariant
    c.requires.covers
    c.ready_tag-other.ensures.tag c.in_ok-whole-2.ensures.moved c.in_ok-whole-2.ensures.set
    c.in_ok-whole-2.ensures.spare

pub returns-in_err-whole-2-clause-numbers : goal.returns-in_err-whole-2-clause-numbers
returns-in_err-whole-2-clause-numbers g c = ready-numbers c.args.self.now c.args.s c.args.page c.args.n c.requires.ready
    c.requires.some c.ready_tag-first.ensures.numbers

pub returns-clause-numbers : goal.returns-clause-numbers
returns-clause-numbers g c = ready-numbers c.args.self.now c.args.s c.args.page c.args.n c.requires.ready
    c.requires.some c.ready_tag-first.ensures.numbers
