use Rattle.std.proofs.Common.{◌∙◌, ◌+◌, ap}
use Rattle.split_types.specs.declared.buf.Buf.TheVariants.{Page}
use Rattle.page_cache.specs.Cached.{Cached}
use Rattle.page_cache.specs.Changes.{taken_among}
use Rattle.page_cache.proofs.TakeLaws.{ready-as, each-as}
use Rattle.page_cache.proofs.cache.Cache.take_out.Goals as goal

pub run_bytes-bytes-requires-clause-ready : goal.run_bytes-bytes-requires-clause-ready
run_bytes-bytes-requires-clause-ready g c =
    let places = ap (λ (v : Cached). v.places) c.in_ok-room.ensures.rest in
    λ k low. ready-as c.args.self.now c.room.new.self (Page c.args.s (c.args.page + k)) places (c.requires.ready k low)

pub take_tag-requires-clause-ready : goal.take_tag-requires-clause-ready
take_tag-requires-clause-ready g c =
    let places = ap (λ (v : Cached). v.places) c.run_bytes-bytes.ensures.rest
    ∙ ap (λ (v : Cached). v.places) c.in_ok-room.ensures.rest in
    λ k low.
    ready-as c.args.self.now c.run_bytes-bytes.new.self (Page c.args.s (c.args.page + k)) places
    (c.requires.ready k low)

pub returns-clause-pages : goal.returns-clause-pages
returns-clause-pages g c =
    let rest = c.run_bytes-bytes.ensures.rest in
    let first = c.in_ok-room.ensures.rest in
    each-as c.args.self.now c.run_bytes-bytes.new.self c.take_tag.new.self
    (taken_among c.args.s c.args.page c.args.n)
    (ap (λ (v : Cached). v.places) rest ∙ ap (λ (v : Cached). v.places) first)
    (ap (λ (v : Cached). v.touches) rest ∙ ap (λ (v : Cached). v.touches) first)
    (ap (λ (v : Cached). v.limit) rest ∙ ap (λ (v : Cached). v.limit) first) c.in_ok-tag.ensures.pages
