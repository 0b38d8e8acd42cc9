use Rattle.std.proofs.Common.{◌≡◌, ◌∙◌, ◌-◌, refl, ap, sym, arith}
use Rattle.std.specs.Option.{option_map}
use Rattle.cause_set.specs.Tags.{same, use_in, no_use}
use Rattle.cause_set.proofs.TagLaws.{use_in-same, moved-as, moved-none}
use Rattle.page_cache.specs.Held.{Held}
use Rattle.page_cache.specs.Cached.{Cached, page_of, tag_in, is_loading}
use Rattle.page_cache.specs.declared.page.State.{State}
use Rattle.page_cache.specs.Changes.{one_if}
use Rattle.page_cache.proofs.SlotLaws.{slot-free}
use Rattle.page_cache.proofs.MoreLaws.{key-buf, key-number, key-there}
use Rattle.page_cache.proofs.WriteLaws.{dirties-held, dirties-new}
use Rattle.page_cache.proofs.cache.Cache.dirty.Goals as goal

pub page-requires : goal.page-requires
page-requires g c = c.in-Some.ensures.some.held

pub change-old-requires : goal.change-old-requires
change-old-requires g c =
    record { page = c.in-Some.ensures.some.held; loading = sym (ap is_loading c.page.ensures.page) }

pub let_go-requires : goal.let_go-requires
let_go-requires g c =
    record {
      live = λ n.
          rw (
            ← use_in-same g.S.TagStore.number c.change-old.result n,
            c.change-old.ensures.tag,
            ← c.in-Some.ensures.some.slot.page,
          ) (c.requires.live n);
    }

pub returns-in-Some-clause-slot : goal.returns-in-Some-clause-slot
returns-in-Some-clause-slot g c = rw c.in-Some.ensures.some.slot.page c.in-Some.ensures.some.slot

pub returns-in-Some-clause-places : goal.returns-in-Some-clause-places
returns-in-Some-clause-places g c =
    let page = c.page.result.now in
    let number = g.S.TagStore.number in
    let p : Held = record {
      key = page.key;
      bytes = page.bytes;
      tag = option_map number page.tag;
      state =
          page.state;
    } in
    dirties-held c.args.self.now c.change-old.new.self c.args.b c.in-Some.at (number c.args.tag) p
    c.in-Some.ensures.some c.page.ensures.page
    c.change-old.ensures.rest

pub returns-in-Some-clause-spare : goal.returns-in-Some-clause-spare
returns-in-Some-clause-spare g c = ap (λ (v : Cached). v.spare) c.change-old.ensures.rest

pub returns-in-Some-clause-moved : goal.returns-in-Some-clause-moved
returns-in-Some-clause-moved g c =
    let store = g.S.TagStore.now in
    let number = g.S.TagStore.number in
    let old = c.change-old.result in
    moved-as (store c.args.tags.now) (store c.let_go.new.tags) (use_in number old) no_use
    (use_in same (tag_in (page_of c.args.self.now c.args.b))) no_use
    c.let_go.ensures.moved (λ n. rw (c.in-Some.ensures.some.slot.page, ← c.change-old.ensures.tag)
    (use_in-same number old n)) (λ n. refl)

pub unwrap-requires : goal.unwrap-requires
unwrap-requires g c = rw c.of.ensures (key-there c.args.b c.requires.page)

pub enter-requires-clause-absent : goal.enter-requires-clause-absent
enter-requires-clause-absent g c =
    rw (key-buf c.args.b c.unwrap.result (sym c.of.ensures ∙ c.unwrap.ensures)) c.in_default.ensures.none

pub enter-requires-clause-number : goal.enter-requires-clause-number
enter-requires-clause-number g c = key-number c.args.b c.unwrap.result (sym c.of.ensures
    ∙ c.unwrap.ensures) c.requires.page

pub enter-requires-clause-free : goal.enter-requires-clause-free
enter-requires-clause-free g c = rw c.in_default.ensures.none at c.requires.place

pub returns-clause-slot : goal.returns-clause-slot
returns-clause-slot g c =
    rw c.in_default.ensures.none
    (slot-free c.args.b c.args.self.now.places c.enter.result c.enter.ensures.within c.enter.ensures.empty
    c.in_default.ensures.none)

pub returns-clause-places : goal.returns-clause-places
returns-clause-places g c =
    dirties-new c.args.self.now c.enter.new.self c.args.b c.enter.result
    (g.S.TagStore.number c.args.tag) c.unwrap.result
    c.new.result (sym c.of.ensures ∙ c.unwrap.ensures) c.in_default.ensures.none c.new.ensures c.enter.ensures

pub returns-clause-spare : goal.returns-clause-spare
returns-clause-spare g c =
    let less : c.enter.new.self.spare ≡ c.args.self.now.spare - 0 = ap (λ (v : Cached). v.spare) c.enter.ensures.is
    ∙ ap (λ (s : State). c.args.self.now.spare - one_if s.loading) c.new.ensures in
    omega (arith, less)

pub returns-clause-moved : goal.returns-clause-moved
returns-clause-moved g c = rw c.in_default.ensures.none (moved-none (g.S.TagStore.now c.args.tags.now))
