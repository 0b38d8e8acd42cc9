use Rattle.std.proofs.Common.{◌≡◌, ◌∙◌, Some, None, get_or, ap}
use Rattle.std.specs.Option.{option_map}
use Rattle.std.specs.List.{position_or_len}
use Rattle.page_cache.specs.Held.{Held}
use Rattle.page_cache.specs.Fields.{all_seen, cached_of}
use Rattle.page_cache.specs.Cached.{Cached, is_page}
use Rattle.page_cache.proofs.ListLaws.{none-anyway}
use Rattle.page_cache.proofs.ChoiceLaws.{ready-none, least-ready, least-held, first-ready}
use Rattle.page_cache.proofs.cache.Cache.first_dirty.Goals as goal

pub returns-in_err-at-clause-none : goal.returns-in_err-at-clause-none
returns-in_err-at-clause-none g c =
    let i = c.self.inside in
    let places = all_seen g.S.TagStore.number i.places.items in
    rw (← c.self.view_is)
    (none-anyway c.from_residual.result _
    (λ b h. ready-none i.guide places (position_or_len (is_page b) places) c.self.invariant.guided
    c.in_err-at.ensures.none h))

pub page-requires : goal.page-requires
page-requires g c =
    let i = c.self.inside in
    let places = all_seen g.S.TagStore.number i.places.items in
    rw (← c.self.view_is)
    (least-held (get_or places c.in_ok-at.at None) (least-ready i.guide places c.in_ok-at.at c.self.invariant.guided
    c.in_ok-at.ensures.first))

pub returns-clause-first : goal.returns-clause-first
returns-clause-first g c =
    let i = c.self.inside in
    let number = g.S.TagStore.number in
    let page = c.page.result.now in
    let p : Held = record {
      key = page.key;
      bytes = page.bytes;
      tag = option_map number page.tag;
      state =
          page.state;
    } in
    let here : get_or (all_seen number i.places.items) c.in_ok-at.at None ≡ Some p =
    ap (λ (v : Cached). get_or v.places c.in_ok-at.at None) c.self.view_is ∙ c.page.ensures.page in
    rw (c.buf.ensures, ← c.self.view_is)
    (first-ready (cached_of number i.limit i.spare i.places.items i.guide) i.guide c.in_ok-at.at p
    c.self.invariant.guided
    c.self.invariant.distinct c.in_ok-at.ensures.first here)
