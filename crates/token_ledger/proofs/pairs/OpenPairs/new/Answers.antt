use Rattle.std.proofs.Common.{arith}
use Rattle.std.proofs.lemmas.Grind.{common_steps}
use Rattle.token_ledger.specs.declared.pairs.Owed.{Owed}
use Rattle.token_ledger.proofs.PlaceLaws.{all_empty, new_places, places_new}
use Rattle.token_ledger.proofs.pairs.OpenPairs.new.Goals as goal

pub free_from-requires-clause-empty : goal.free_from-requires-clause-empty
free_from-requires-clause-empty c = λ i low. all_empty 16 c.in_ok-places.places c.in_ok-places.ensures i

pub invariant_of-result : goal.invariant_of-result
invariant_of-result c =
    let nothing : Owed = record { by = record { 0 = 0 }; estimate = 0 } in
    rw (
      new_places 16 c.in_ok-places.places c.free_from.new.places c.in_ok-places.ensures c.free_from.ensures,
      c.in_ok-owed.ensures.items_if_clones_equal (λ y h. grind (arith, common_steps)),
    )
    (places_new 16 nothing (omega arith) (omega arith))
