use Rattle.std.proofs.Common.{◌≡◌, get_or, None, Some, arith}
use Rattle.std.proofs.lemmas.Grind.{common_steps}
use Rattle.fixed_places.proofs.GroupLaws.{at_within, next-within, take_off, take_last}
use Rattle.fixed_places.proofs.groups.Groups.take.Goals as goal

pub put-requires-clause-place : goal.put-requires-clause-place
put-requires-clause-place g c =
    let i = c.self.inside in
    let lifted = c.in_ok-at.ensures in
    let within = at_within i.keys.items i.tops c.lift.new.tops i.below.items c.in_ok-at.at c.args.key.now
    c.self.invariant lifted in
    let len = c.self.invariant.below_len in
    let leads : get_or i.below.items c.in_ok-at.at None ≡ Some c.in-Some.next = grind (arith, common_steps) in
    next-within i.keys.items i.tops c.lift.new.tops i.below.items c.in_ok-at.at c.args.key.now c.self.invariant lifted
    c.in-Some.next leads

pub invariant_of-self-in-Some : goal.invariant_of-self-in-Some
invariant_of-self-in-Some g c =
    let i = c.self.inside in
    let lifted = c.in_ok-at.ensures in
    let within = at_within i.keys.items i.tops c.lift.new.tops i.below.items c.in_ok-at.at c.args.key.now
    c.self.invariant lifted in
    let len = c.self.invariant.below_len in
    let leads : get_or i.below.items c.in_ok-at.at None ≡ Some c.in-Some.next = grind (arith, common_steps) in
    rw c.put.ensures
    (take_off i.keys.items i.tops c.lift.new.tops i.below.items c.in_ok-at.at c.args.key.now c.self.invariant lifted
    c.in-Some.next leads)

pub invariant_of-self-in_default : goal.invariant_of-self-in_default
invariant_of-self-in_default g c =
    let i = c.self.inside in
    let lifted = c.in_ok-at.ensures in
    let within = at_within i.keys.items i.tops c.lift.new.tops i.below.items c.in_ok-at.at c.args.key.now
    c.self.invariant lifted in
    let len = c.self.invariant.below_len in
    let leads : get_or i.below.items c.in_ok-at.at None ≡ None = grind (arith, common_steps) in
    take_last i.keys.items i.tops c.lift.new.tops i.below.items c.in_ok-at.at c.args.key.now c.self.invariant lifted
    leads
