use Rattle.std.proofs.Common.{◌≡◌, ◌∙◌, ◌-◌, Some, None, length, refl, ap, arith, length-set, get_or-set_same}
use Rattle.std.specs.List.{position_or_len}
use Rattle.cause_set.proofs.TagLaws.{moved-none}
use Rattle.page_cache.specs.Held.{state_in}
use Rattle.page_cache.specs.Cached.{Cached, is_page, page_of, tags_in}
use Rattle.page_cache.specs.Changes.{page_as, bytes_in}
use Rattle.page_cache.proofs.ListLaws.{err-anyway}
use Rattle.page_cache.proofs.StoreLaws.{still-held}
use Rattle.page_cache.proofs.CallLaws.{as-some, tag-covered, writes-all, writes-moved}
use Rattle.page_cache.proofs.WriteLaws.{written-slot, written-places, written-limit, written-len, written-touched}
use Rattle.page_cache.proofs.cache.Cache.write.Goals as goal

pub returns-in_err-room-clause-moved : goal.returns-in_err-room-clause-moved
returns-in_err-room-clause-moved g c = rw c.in_err-room.ensures.err record { uses = λ n. refl; keeps = λ n some. refl }

pub returns-in_err-room-clause-err_tags : goal.returns-in_err-room-clause-err_tags
returns-in_err-room-clause-err_tags g c = err-anyway c.from_residual.result _
    (moved-none (g.S.TagStore.now c.args.tags.now))

pub joined-requires-clause-live : goal.joined-requires-clause-live
joined-requires-clause-live g c =
    λ n. rw (c.tag.ensures, c.in_ok-room.ensures.rest)
    (tag-covered (g.S.TagStore.now c.args.tags.now) c.args.self.now.places
    (position_or_len (is_page c.args.b) c.args.self.now.places)
    c.requires.covers n)

pub returns-in_err-tag-clause-moved : goal.returns-in_err-tag-clause-moved
returns-in_err-tag-clause-moved g c =
    rw c.in_ok-room.ensures.rest
    (still-held (g.S.TagStore.now c.args.tags.now) (g.S.TagStore.now c.joined.new.tags) (tags_in c.args.self.now)
    c.in_err-tag.ensures.err)

pub dirty-at-requires-clause-place : goal.dirty-at-requires-clause-place
dirty-at-requires-clause-place g c = rw c.in_ok-room.ensures.rest c.requires.place

pub dirty-at-requires-clause-live : goal.dirty-at-requires-clause-live
dirty-at-requires-clause-live g c =
    λ n. rw c.in_ok-room.ensures.rest
    (let below =
    tag-covered (g.S.TagStore.now c.args.tags.now) c.args.self.now.places
    (position_or_len (is_page c.args.b) c.args.self.now.places)
    c.requires.covers n in
    omega (arith, below, c.in_ok-tag.ensures.moved.uses n))

pub fill-requires-clause-page : goal.fill-requires-clause-page
fill-requires-clause-page g c =
    let v1 = c.room.new.self in
    let slot = c.dirty-at.ensures.slot in
    let x = page_of v1 c.args.b in
    let t = g.S.TagStore.number c.in_ok-tag.tag in
    let y = page_as c.args.b (bytes_in x) (Some t) (state_in x) in
    rw (
      ap (λ (v : Cached). v.places) c.dirty-at.ensures.places,
      get_or-set_same v1.places c.dirty-at.result y None slot.within,
    )
    (as-some c.args.b (bytes_in x) (Some t) (state_in x) c.requires.page)

pub touch-requires : goal.touch-requires
touch-requires g c =
    let v1 = c.room.new.self in
    let slot = c.dirty-at.ensures.slot in
    let last : length c.fill.new.self.places ≡ length c.dirty-at.new.self.places =
    ap (λ (v : Cached). length v.places) c.fill.ensures ∙ length-set c.dirty-at.new.self.places c.dirty-at.result _ in
    let first : length c.dirty-at.new.self.places ≡ length v1.places =
    ap (λ (v : Cached). length v.places) c.dirty-at.ensures.places ∙ length-set v1.places c.dirty-at.result _ in
    rw (last, first) slot.within

pub returns-clause-ok : goal.returns-clause-ok
returns-clause-ok g c =
    let store = g.S.TagStore.now in
    let v0 = c.args.self.now in
    let v1 = c.room.new.self in
    let v2 = c.dirty-at.new.self in
    let v3 = c.fill.new.self in
    let v4 = c.touch.new.self in
    let b = c.args.b in
    let at = c.dirty-at.result in
    let t = g.S.TagStore.number c.in_ok-tag.tag in
    let rest = c.in_ok-room.ensures.rest in
    let slot = written-slot v0 v1 v2 v3 v4 b at c.args.from c.args.to c.args.fill t rest c.dirty-at.ensures.slot
    c.dirty-at.ensures.places c.fill.ensures c.touch.ensures.rest in
    let places = written-places v0 v1 v2 v3 v4 b at c.args.from c.args.to c.args.fill t rest c.dirty-at.ensures.slot
    c.dirty-at.ensures.places c.fill.ensures c.touch.ensures.rest in
    let limit = written-limit v0 v1 v2 v3 v4 b at c.args.from c.args.to c.args.fill t rest c.dirty-at.ensures.slot
    c.dirty-at.ensures.places c.fill.ensures c.touch.ensures.rest in
    let len = written-len v0 v1 v2 v3 v4 b at c.args.from c.args.to c.args.fill t rest c.dirty-at.ensures.slot
    c.dirty-at.ensures.places c.fill.ensures c.touch.ensures.rest c.touch.ensures.len in
    let touched = written-touched v0 v1 v2 v3 v4 b at c.args.from c.args.to c.args.fill t rest c.dirty-at.ensures.slot
    c.dirty-at.ensures.places c.fill.ensures c.touch.ensures.rest c.touch.ensures.touches in
    let went = rw rest at c.dirty-at.ensures.moved in
    let members = rw (c.tag.ensures, rest) at c.in_ok-tag.ensures.set in
    writes-all (store c.args.tags.now) (store c.joined.new.tags) (store c.dirty-at.new.tags) v0 v4 b c.args.from
    c.args.to c.args.fill c.args.by at t slot
    places c.requires.page c.in_ok-tag.ensures.moved went c.requires.covers limit len touched members

pub returns-clause-moved : goal.returns-clause-moved
returns-clause-moved g c =
    let store = g.S.TagStore.now in
    let v0 = c.args.self.now in
    let v1 = c.room.new.self in
    let v2 = c.dirty-at.new.self in
    let v3 = c.fill.new.self in
    let v4 = c.touch.new.self in
    let b = c.args.b in
    let at = c.dirty-at.result in
    let t = g.S.TagStore.number c.in_ok-tag.tag in
    let rest = c.in_ok-room.ensures.rest in
    let slot = written-slot v0 v1 v2 v3 v4 b at c.args.from c.args.to c.args.fill t rest c.dirty-at.ensures.slot
    c.dirty-at.ensures.places c.fill.ensures c.touch.ensures.rest in
    let places = written-places v0 v1 v2 v3 v4 b at c.args.from c.args.to c.args.fill t rest c.dirty-at.ensures.slot
    c.dirty-at.ensures.places c.fill.ensures c.touch.ensures.rest in
    let went = rw rest at c.dirty-at.ensures.moved in
    writes-moved (store c.args.tags.now) (store c.joined.new.tags) (store c.dirty-at.new.tags) v0 v4 b c.args.from
    c.args.to c.args.fill c.args.by at t slot
    places c.requires.page c.in_ok-tag.ensures.moved went c.requires.covers

pub returns-clause-spare : goal.returns-clause-spare
returns-clause-spare g c =
    let last : c.touch.new.self.spare ≡ c.dirty-at.new.self.spare - 1 =
    ap (λ (v : Cached). v.spare) c.touch.ensures.rest ∙ ap (λ (v : Cached). v.spare) c.fill.ensures in
    omega (arith, last, c.dirty-at.ensures.spare, c.in_ok-room.ensures.spare)
