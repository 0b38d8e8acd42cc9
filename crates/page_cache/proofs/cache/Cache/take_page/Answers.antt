use Rattle.std.proofs.Common.{◌≡◌, ◌∙◌, None, true, refl, ap, set, get_or}
use Rattle.std.specs.Option.{option_map}
use Rattle.cause_set.specs.Tags.{same, use_in, no_use}
use Rattle.cause_set.proofs.TagLaws.{use_in-same, moved-as}
use Rattle.page_cache.specs.declared.page.State.{State}
use Rattle.page_cache.specs.Cached.{Cached, tag_in}
use Rattle.page_cache.specs.Steps.{changed}
use Rattle.page_cache.specs.Changes.{taken}
use Rattle.page_cache.proofs.cache.Cache.take_page.Goals as goal

pub let_go-requires : goal.let_go-requires
let_go-requires g c =
    record {
      live = λ n. rw (← use_in-same g.S.TagStore.number c.change-tag.result n, c.change-tag.ensures.tag)
          (c.requires.live n);
    }

pub returns-clause-page : goal.returns-clause-page
returns-clause-page g c =
    let page = c.page.result.now in
    let x = get_or c.args.self.now.places c.args.at None in
    let state : State = record page.state { busy = true } in
    let now : changed None state x ≡ option_map taken x = rw c.page.ensures.page refl in
    c.change-tag.ensures.rest ∙ ap (λ y. let v : Cached =
    record c.args.self.now { places = set c.args.self.now.places c.args.at y } in v) now

pub returns-clause-moved : goal.returns-clause-moved
returns-clause-moved g c =
    let x = get_or c.args.self.now.places c.args.at None in
    let number = g.S.TagStore.number in
    let tag = c.change-tag.result in
    let store = g.S.TagStore.now in
    moved-as (store c.args.tags.now) (store c.let_go.new.tags) (use_in number tag) no_use (use_in same (tag_in x))
    no_use c.let_go.ensures.moved
    (λ n. rw (← c.change-tag.ensures.tag) (use_in-same number tag n)) (λ n. refl)
