use Rattle.std.proofs.Common.{◌≡◌, ◌∙◌, ◌<◌, true, false, get_or, length, ap, sym}
use Rattle.std.specs.Vec.{vec_capacity}
use Rattle.fixed_places.specs.Free.{Free}
use Rattle.fixed_places.proofs.FreeLaws.{free-give, room-left}
use Rattle.fixed_places.proofs.free_places.FreePlaces.give.Goals as goal

pub push_reserved-requires : goal.push_reserved-requires
push_reserved-requires c =
    let taken = c.self.inside.taken.items in
    let returned = c.self.inside.returned in
    let is_taken : get_or taken c.args.at false ≡ true =
    ap (λ (v : Free). get_or v.taken c.args.at false) c.self.view_is ∙ c.requires in
    let room : length returned.items < vec_capacity returned =
    room-left taken c.self.inside.used returned.items c.self.inside.count (vec_capacity returned) c.args.at
    c.self.invariant is_taken in
    rw returned.ok.0 room

pub invariant_of-self : goal.invariant_of-self
invariant_of-self c =
    let taken = c.self.inside.taken.items in
    let is_taken : get_or taken c.args.at false ≡ true =
    ap (λ (v : Free). get_or v.taken c.args.at false) c.self.view_is ∙ c.requires in
    rw (c.push_reserved.ensures.items, c.push_reserved.ensures.capacity)
    (free-give taken c.self.inside.used c.self.inside.returned.items c.self.inside.count
    (vec_capacity c.self.inside.returned) c.args.at c.self.invariant is_taken)
