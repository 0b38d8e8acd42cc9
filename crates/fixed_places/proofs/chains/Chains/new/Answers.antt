use Rattle.std.proofs.Common.{◌≡◌, ℕ, arith}
use Rattle.std.proofs.lemmas.Grind.{common_steps}
use Rattle.fixed_places.proofs.ChainLaws.{chains-new}
use Rattle.fixed_places.proofs.chains.Chains.new.Goals as goal

pub invariant_of-result : goal.invariant_of-result
invariant_of-result c =
    rw (
      c.in_ok-vec.ensures.items_if_clones_equal (λ y h. grind (arith, common_steps)),
      c.in_ok-vec-2.ensures.items_if_clones_equal (λ y h. grind (arith, common_steps)),
      c.in_ok-vec-3.ensures.items_if_clones_equal (λ y h. grind (arith, common_steps)),
    )
    (chains-new c.args.chains c.args.places c.requires.few_chains c.requires.few)
