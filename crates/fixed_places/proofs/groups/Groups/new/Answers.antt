use Rattle.std.proofs.Common.{arith}
use Rattle.std.proofs.lemmas.Grind.{common_steps}
use Rattle.fixed_places.proofs.GroupLaws.{piles-new}
use Rattle.fixed_places.proofs.groups.Groups.new.Goals as goal

pub invariant_of-result : goal.invariant_of-result
invariant_of-result g c =
    rw (
      c.in_ok-vec.ensures.items_if_clones_equal (λ y h. grind (arith, common_steps)),
      c.in_ok-vec-2.ensures.items_if_clones_equal (λ y h. grind (arith, common_steps)),
      c.in_ok-new.ensures,
    )
    (piles-new c.args.places c.requires.few)
