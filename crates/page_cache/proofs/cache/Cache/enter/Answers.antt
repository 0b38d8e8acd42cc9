use Rattle.std.proofs.Common.{◌≡◌, ◌∙◌, ℕ, ◌+◌, ◌-◌, length, ap}
use Rattle.std.proofs.lemmas.List.{length-replicate}
use Rattle.page_cache.specs.Bytes.{zeros}
use Rattle.page_cache.specs.Guide.{Guided, marked}
use Rattle.page_cache.specs.Held.{mark_of}
use Rattle.page_cache.specs.Fields.{all_seen}
use Rattle.page_cache.specs.Pool.{Pooled}
use Rattle.page_cache.proofs.PageLaws.{as-one, keys-absent, free-keys, keeps-entered, view-entered}
use Rattle.page_cache.proofs.cache.Cache.enter.Goals as goal

pub enter-at-requires-clause-absent : goal.enter-at-requires-clause-absent
enter-at-requires-clause-absent g c =
    let i = c.self.inside in
    keys-absent i.guide (all_seen g.S.TagStore.number i.places.items) c.args.key c.self.invariant.guided
    (rw (← c.self.view_is) at c.requires.absent)

pub enter-at-requires-clause-free : goal.enter-at-requires-clause-free
enter-at-requires-clause-free g c =
    let i = c.self.inside in
    free-keys i.limit i.spare (all_seen g.S.TagStore.number i.places.items) i.guide i.pool c.self.invariant
    (rw (← c.self.view_is) at c.requires.free)

pub invariant_of-self : goal.invariant_of-self
invariant_of-self g c =
    let i = c.self.inside in
    let mark = c.of.ensures ∙ ap (λ dirty. mark_of dirty c.args.state) c.is_some.ensures in
    let guide = c.mark.ensures ∙ ap (λ v. marked v c.enter-at.result c.args.key c.of.result) c.enter-at.ensures.keys in
    let clear : length c.filled.result ≡ 4096 = ap length c.filled.ensures ∙ length-replicate {A = ℕ} 4096 0 in
    keeps-entered g.S.TagStore.number i.limit i.spare i.places.items i.guide i.pool c.enter-at.result c.args.key
    c.filled.result c.args.tag
    c.args.state c.of.result c.mark.new.self c.reserve.new.self c.from-2.result c.self.invariant c.enter-at.ensures.within
    c.enter-at.ensures.empty
    (rw (← c.self.view_is) at c.requires.ready) (rw (← c.self.view_is) at c.requires.free) clear
    c.requires.number
    (rw (← c.self.view_is) at c.requires.absent) mark guide (c.from-2.ensures
    ∙ as-one c.args.state.loading) (c.reserve.ensures
    ∙ ap (λ n. let v : Pooled = record i.pool { pages = i.pool.pages - n; reserved = i.pool.reserved + n } in v)
    (c.from.ensures ∙ as-one c.args.state.loading))

pub returns : goal.returns
unfolding zeros
returns g c =
    let i = c.self.inside in
    let touches = ap (λ (v : Guided). v.touches) c.mark.ensures
    ∙ ap (λ (v : Guided). v.touches) c.enter-at.ensures.keys in
    rw (← c.self.view_is)
    (view-entered g.S.TagStore.number i.limit i.spare i.places.items i.guide i.pool c.enter-at.result c.mark.new.self
    c.args.key c.filled.result
    c.args.tag c.args.state c.from-2.result c.self.invariant.guided c.enter-at.ensures.within c.enter-at.ensures.empty
    c.filled.ensures (c.from-2.ensures ∙ as-one c.args.state.loading) touches)
