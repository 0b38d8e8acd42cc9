use Rattle.std.proofs.Common.{arith}
use Rattle.std.proofs.lemmas.Grind.{common_steps}
use Rattle.page_cache.proofs.PinLaws.{pins-new}
use Rattle.page_cache.proofs.pins.Pins.new.Goals as goal

pub invariant_of-result : goal.invariant_of-result
invariant_of-result c =
    rw (c.in_ok-new.ensures, c.in_ok-vec.ensures.items_if_clones_equal (λ y h. grind (arith, common_steps)))
    (pins-new c.args.places c.requires)
