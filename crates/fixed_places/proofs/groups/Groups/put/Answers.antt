use Rattle.std.proofs.Common.{◌≡◌, ◌<◌, length, rules, arith}
use Rattle.std.proofs.lemmas.Grind.{common_steps}
use Rattle.fixed_places.proofs.GroupLaws.{covers, put_on}
use Rattle.fixed_places.proofs.groups.Groups.put.Goals as goal

pub invariant_of-self : goal.invariant_of-self
invariant_of-self g c =
    let keys = c.self.inside.keys.items in
    let place : c.map.result ≡ c.lift-top.result = search rules in
    let lifted = c.lift-top.ensures in
    let covered = covers keys c.self.inside.tops c.lift-top.new.tops c.self.inside.below.items c.args.key
    c.lift-top.result c.self.invariant lifted in
    let within : c.args.at < length keys = grind (arith, common_steps) in
    rw (c.put.ensures, place)
    (put_on keys c.self.inside.tops c.lift-top.new.tops c.self.inside.below.items c.args.at c.args.key c.lift-top.result
    c.self.invariant lifted covered.0 covered.1 within (rw c.self.view_is c.requires.empty))
