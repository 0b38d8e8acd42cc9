use Rattle.std.proofs.Common.{◌+◌, ◌-◌, ◌≤◌, ◌^◌, length, arith}
use Rattle.fixed_places.proofs.GroupLaws.{piles-wider}
use Rattle.fixed_places.proofs.groups.Groups.wider.Goals as goal

pub invariant_of-result : goal.invariant_of-result
invariant_of-result g c =
    let i = c.self.inside in
    let n = c.args.places - length i.keys.items in
    let more : length i.keys.items ≤ c.args.places = rw c.self.view_is c.requires.more in
    let few : length i.keys.items + n ≤ 2 ^ 32 = omega (arith, more, c.requires.few) in
    rw (
      c.in_ok-widened-2.ensures,
      c.in_ok-wider.ensures,
      c.in_ok-widened.ensures,
      c.deref.ensures.value,
      c.deref-2.ensures.value,
      c.self.invariant.tops_len,
      c.self.invariant.below_len,
    )
    (piles-wider i.keys.items i.tops i.below.items n few c.self.invariant)
