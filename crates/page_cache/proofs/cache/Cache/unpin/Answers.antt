use Rattle.std.proofs.Common.{◌≡◌, ◌∙◌, ◌<◌, Some, None, true, get_or, set, length, ap, sym}
use Rattle.std.specs.Option.{option_map}
use Rattle.page_cache.specs.Held.{Held}
use Rattle.page_cache.specs.Fields.{all_seen}
use Rattle.page_cache.specs.Cached.{Cached, is_loading}
use Rattle.page_cache.specs.Steps.{with_state}
use Rattle.page_cache.proofs.SlotLaws.{some-inside}
use Rattle.page_cache.proofs.EachLaws.{all_unpinned, is_pinning, unpins, unpins-tags, unpinned-all, none-pinned, pinned-found, pinning-some, unpin-more, unpin-fewer}
use Rattle.page_cache.proofs.cache.Cache.unpin.Goals as goal

pub page-requires : goal.page-requires
page-requires g c =
    let i = c.self.inside in
    let number = g.S.TagStore.number in
    let seen = ap (λ (v : Cached). v.places) c.self.view_is in
    let pinned = pinned-found c.args.by (all_seen number i.places.items) i.guide.pins c.in-Some.at
    c.self.invariant.guided.pins c.in-Some.ensures.found in
    let now_pinned : is_pinning c.args.by (get_or c.loop-at.self.places c.in-Some.at None) ≡ true = rw seen at pinned in
    pinning-some c.args.by (get_or c.loop-at.self.places c.in-Some.at None) now_pinned

pub restate-requires : goal.restate-requires
restate-requires g c =
    let i = c.self.inside in
    let number = g.S.TagStore.number in
    let seen = ap (λ (v : Cached). v.places) c.self.view_is in
    let pinned = pinned-found c.args.by (all_seen number i.places.items) i.guide.pins c.in-Some.at
    c.self.invariant.guided.pins c.in-Some.ensures.found in
    let now_pinned : is_pinning c.args.by (get_or c.loop-at.self.places c.in-Some.at None) ≡ true = rw seen at pinned in
    record {
      page = pinning-some c.args.by (get_or c.loop-at.self.places c.in-Some.at None) now_pinned;
      loading = sym (ap is_loading c.page.ensures.page);
    }

pub loop-at-preserved : goal.loop-at-preserved
loop-at-preserved g c =
    let i = c.self.inside in
    let number = g.S.TagStore.number in
    let seen = ap (λ (v : Cached). v.places) c.self.view_is in
    let pinned = pinned-found c.args.by (all_seen number i.places.items) i.guide.pins c.in-Some.at
    c.self.invariant.guided.pins c.in-Some.ensures.found in
    let now_pinned : is_pinning c.args.by (get_or c.loop-at.self.places c.in-Some.at None) ≡ true = rw seen at pinned in
    let page = c.page.result.now in
    let p : Held = record {
      key = page.key;
      bytes = page.bytes;
      tag = option_map number page.tag;
      state =
          page.state;
    } in
    let here : get_or c.loop-at.self.places c.in-Some.at None ≡ Some p = c.page.ensures.page in
    let p_pinned : is_pinning c.args.by (Some p) ≡ true = sym (ap (is_pinning c.args.by) here) ∙ now_pinned in
    let within : c.in-Some.at < length c.loop-at.self.places =
    some-inside c.loop-at.self.places c.in-Some.at (pinning-some c.args.by
    (get_or c.loop-at.self.places c.in-Some.at None) now_pinned) in
    let places : c.restate.new.self.places ≡ set c.loop-at.self.places c.in-Some.at
    (Some record p { state = record p.state { pin = None } }) =
    ap (λ (v : Cached). v.places) c.restate.ensures
    ∙ ap (λ x. set c.loop-at.self.places c.in-Some.at (with_state record p.state { pin = None } x)) here in
    record {
      unpinned = ap (all_unpinned c.args.by) places ∙ unpin-more c.args.by c.loop-at.self.places c.in-Some.at p here
          p_pinned
          ∙ c.loop-at.invariant.unpinned;
      touches = ap (λ (v : Cached). v.touches) c.restate.ensures ∙ c.loop-at.invariant.touches;
      limit = ap (λ (v : Cached). v.limit) c.restate.ensures ∙ c.loop-at.invariant.limit;
      spare = ap (λ (v : Cached). v.spare) c.restate.ensures ∙ c.loop-at.invariant.spare;
    }

pub loop-at-smaller : goal.loop-at-smaller
loop-at-smaller g c =
    let i = c.self.inside in
    let number = g.S.TagStore.number in
    let seen = ap (λ (v : Cached). v.places) c.self.view_is in
    let pinned = pinned-found c.args.by (all_seen number i.places.items) i.guide.pins c.in-Some.at
    c.self.invariant.guided.pins c.in-Some.ensures.found in
    let now_pinned : is_pinning c.args.by (get_or c.loop-at.self.places c.in-Some.at None) ≡ true = rw seen at pinned in
    let page = c.page.result.now in
    let p : Held = record {
      key = page.key;
      bytes = page.bytes;
      tag = option_map number page.tag;
      state =
          page.state;
    } in
    let here : get_or c.loop-at.self.places c.in-Some.at None ≡ Some p = c.page.ensures.page in
    let p_pinned : is_pinning c.args.by (Some p) ≡ true = sym (ap (is_pinning c.args.by) here) ∙ now_pinned in
    let within : c.in-Some.at < length c.loop-at.self.places =
    some-inside c.loop-at.self.places c.in-Some.at (pinning-some c.args.by
    (get_or c.loop-at.self.places c.in-Some.at None) now_pinned) in
    let places : c.restate.new.self.places ≡ set c.loop-at.self.places c.in-Some.at
    (Some record p { state = record p.state { pin = None } }) =
    ap (λ (v : Cached). v.places) c.restate.ensures
    ∙ ap (λ x. set c.loop-at.self.places c.in-Some.at (with_state record p.state { pin = None } x)) here in
    rw places (unpin-fewer c.args.by c.loop-at.self.places c.in-Some.at p here p_pinned within)

pub returns-clause-pages : goal.returns-clause-pages
returns-clause-pages g c =
    let i = c.self.inside in
    let number = g.S.TagStore.number in
    let seen = ap (λ (v : Cached). v.places) c.self.view_is in
    let none = none-pinned c.args.by (all_seen number i.places.items) i.guide.pins c.self.invariant.guided.pins
    c.in_default.ensures.none in
    let still : all_unpinned c.args.by c.loop-at.self.places ≡ c.loop-at.self.places =
    rw seen at (unpinned-all c.args.by (all_seen number i.places.items) none) in
    let places : c.loop-at.self.places ≡ all_unpinned c.args.by c.args.self.now.places = sym still
    ∙ c.loop-at.invariant.unpinned in
    unpins c.args.self.now c.loop-at.self c.args.by places c.loop-at.invariant.touches c.loop-at.invariant.limit

pub returns-clause-tags : goal.returns-clause-tags
returns-clause-tags g c =
    let i = c.self.inside in
    let number = g.S.TagStore.number in
    let seen = ap (λ (v : Cached). v.places) c.self.view_is in
    let none = none-pinned c.args.by (all_seen number i.places.items) i.guide.pins c.self.invariant.guided.pins
    c.in_default.ensures.none in
    let still : all_unpinned c.args.by c.loop-at.self.places ≡ c.loop-at.self.places =
    rw seen at (unpinned-all c.args.by (all_seen number i.places.items) none) in
    let places : c.loop-at.self.places ≡ all_unpinned c.args.by c.args.self.now.places = sym still
    ∙ c.loop-at.invariant.unpinned in
    unpins-tags c.args.self.now c.loop-at.self c.args.by places

pub returns-clause-spare : goal.returns-clause-spare
returns-clause-spare g c = c.loop-at.invariant.spare
