use Rattle.std.proofs.Common.{None, get_or, refl}
use Rattle.cause_set.specs.Tags.{same, use_in, no_use}
use Rattle.cause_set.proofs.TagLaws.{use_in-same, moved-as}
use Rattle.page_cache.specs.Cached.{tag_in}
use Rattle.page_cache.proofs.CallLaws.{tag-covered, leaves, leaves-touches}
use Rattle.page_cache.proofs.FreeLaws.{gone-causes, gone-held}
use Rattle.page_cache.proofs.cache.Cache.free_page.Goals as goal

pub let_go-requires : goal.let_go-requires
let_go-requires g c =
    record {
      live = λ n.
          rw (← use_in-same g.S.TagStore.number c.leave-tag.result n, c.leave-tag.ensures.tag)
          (tag-covered (g.S.TagStore.now c.args.tags.now) c.args.self.now.places _ c.requires n);
    }

pub returns-clause-page : goal.returns-clause-page
returns-clause-page g c =
    leaves c.args.self.now c.leave-tag.new.self c.args.b c.in-Some.at c.in-Some.ensures.some c.leave-tag.ensures.rest

pub returns-clause-touches : goal.returns-clause-touches
returns-clause-touches g c =
    leaves-touches c.args.self.now c.leave-tag.new.self c.args.b c.in-Some.at c.in-Some.ensures.some
    c.leave-tag.ensures.rest

pub returns-clause-causes : goal.returns-clause-causes
returns-clause-causes g c =
    let number = g.S.TagStore.number in
    let store = g.S.TagStore.now in
    let tag = c.leave-tag.result in
    let x = get_or c.args.self.now.places c.in-Some.at None in
    let went =
    moved-as (store c.args.tags.now) (store c.let_go.new.tags) (use_in number tag) no_use (use_in same (tag_in x))
    no_use c.let_go.ensures.moved
    (λ n. rw (← c.leave-tag.ensures.tag) (use_in-same number tag n)) (λ n. refl) in
    gone-causes (store c.args.tags.now) (store c.let_go.new.tags) c.args.self.now c.leave-tag.new.self c.args.b
    c.in-Some.at
    c.in-Some.ensures.some c.leave-tag.ensures.rest went c.requires

pub returns-clause-moved : goal.returns-clause-moved
returns-clause-moved g c =
    let number = g.S.TagStore.number in
    let store = g.S.TagStore.now in
    let tag = c.leave-tag.result in
    let x = get_or c.args.self.now.places c.in-Some.at None in
    let went =
    moved-as (store c.args.tags.now) (store c.let_go.new.tags) (use_in number tag) no_use (use_in same (tag_in x))
    no_use c.let_go.ensures.moved
    (λ n. rw (← c.leave-tag.ensures.tag) (use_in-same number tag n)) (λ n. refl) in
    gone-held (store c.args.tags.now) (store c.let_go.new.tags) c.args.self.now c.leave-tag.new.self c.args.b
    c.in-Some.at
    c.in-Some.ensures.some c.leave-tag.ensures.rest went c.requires
