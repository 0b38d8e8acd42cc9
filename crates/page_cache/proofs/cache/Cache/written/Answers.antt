use Rattle.std.proofs.Common.{◌≡◌, None, true, ap, sym}
use Rattle.std.specs.Option.{option_map}
use Rattle.page_cache.specs.Held.{Held}
use Rattle.page_cache.specs.Cached.{Cached, is_busy, is_loading}
use Rattle.page_cache.specs.Steps.{IsPlaced}
use Rattle.page_cache.proofs.CallLaws.{is-there, some-at}
use Rattle.page_cache.proofs.MoreLaws.{written-page, written-touches}
use Rattle.page_cache.proofs.cache.Cache.written.Goals as goal

pub unwrap-at-requires : goal.unwrap-at-requires
unwrap-at-requires g c =
    is-there c.place_of.result _ c.place_of.ensures.none
    (λ none. let no : is_busy None ≡ true = rw none at c.requires in absurd (cc))

pub page-requires : goal.page-requires
page-requires g c =
    (some-at c.place_of.result c.unwrap-at.result (IsPlaced c.args.self.now.places c.args.b) c.unwrap-at.ensures
    c.place_of.ensures.some).held

pub restate-requires : goal.restate-requires
restate-requires g c =
    record {
      page = (some-at c.place_of.result c.unwrap-at.result (IsPlaced c.args.self.now.places c.args.b)
          c.unwrap-at.ensures
          c.place_of.ensures.some).held;
      loading = sym (ap is_loading c.page.ensures.page);
    }

pub returns-clause-page : goal.returns-clause-page
returns-clause-page g c =
    let page = c.page.result.now in
    let p : Held = record {
      key = page.key;
      bytes = page.bytes;
      tag = option_map g.S.TagStore.number page.tag;
      state = page.state;
    } in
    let placed =
    some-at c.place_of.result c.unwrap-at.result (IsPlaced c.args.self.now.places c.args.b) c.unwrap-at.ensures
    c.place_of.ensures.some in
    written-page c.args.self.now c.restate.new.self c.args.b c.unwrap-at.result p placed c.page.ensures.page
    c.restate.ensures

pub returns-clause-touches : goal.returns-clause-touches
returns-clause-touches g c =
    let page = c.page.result.now in
    let p : Held = record {
      key = page.key;
      bytes = page.bytes;
      tag = option_map g.S.TagStore.number page.tag;
      state = page.state;
    } in
    let placed =
    some-at c.place_of.result c.unwrap-at.result (IsPlaced c.args.self.now.places c.args.b) c.unwrap-at.ensures
    c.place_of.ensures.some in
    written-touches c.args.self.now c.restate.new.self c.args.b c.unwrap-at.result p placed c.page.ensures.page
    c.restate.ensures

pub returns-clause-spare : goal.returns-clause-spare
returns-clause-spare g c = ap (λ (v : Cached). v.spare) c.restate.ensures
