use Rattle.std.proofs.Common.{◌≡◌, ◌∙◌, ◌<◌, length, [], sym, ap}
use Rattle.fixed_places.specs.Free.{Free}
use Rattle.std.proofs.lemmas.List.{nil_from_length}
use Rattle.std.specs.Vec.{vec_capacity}
use Rattle.fixed_places.proofs.FreeLaws.{free-retaken, free-taken}
use Rattle.fixed_places.proofs.free_places.FreePlaces.take.Goals as goal

pub invariant_of-self : goal.invariant_of-self
invariant_of-self c =
    rw c.in-Some.ensures.capacity
    (free-retaken c.self.inside.taken.items c.self.inside.used c.self.inside.returned.items c.pop.new.self.items
    c.self.inside.count
    (vec_capacity c.self.inside.returned) c.in-Some.place c.self.invariant c.in-Some.ensures.items)

pub invariant_of-self-2 : goal.invariant_of-self-2
invariant_of-self-2 c =
    let taken = c.self.inside.taken.items in
    let count = c.self.inside.count in
    let none_now : c.pop.new.self.items ≡ [] = nil_from_length c.pop.new.self.items (sym c.pop.new.self.ok.0
    ∙ c.in_default.ensures.cases.1) in
    let none : c.self.inside.returned.items ≡ [] = nil_from_length c.self.inside.returned.items
    (sym c.self.inside.returned.ok.0 ∙ c.in_default.ensures.cases.0) in
    let seen : taken ≡ c.args.self.now.taken = ap (λ (v : Free). v.taken) c.self.view_is in
    let some : count < length taken = rw (c.self.invariant.counted, seen) c.requires in
    rw c.in_default.ensures.capacity
    (free-taken taken c.self.inside.used c.self.inside.returned.items c.pop.new.self.items count
    (vec_capacity c.self.inside.returned)
    c.self.invariant none none_now some)
