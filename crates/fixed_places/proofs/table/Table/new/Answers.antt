use Rattle.std.proofs.Common.{◌≡◌, ℕ, arith}
use Rattle.std.proofs.lemmas.Grind.{common_steps}
use Rattle.fixed_places.proofs.TableLaws.{table-new}
use Rattle.fixed_places.proofs.table.Table.new.Goals as goal

pub invariant_of-result : goal.invariant_of-result
invariant_of-result g c =
    rw (c.in_ok-new.ensures, c.in_ok-vec.ensures.items_if_clones_equal (λ y h. grind (arith, common_steps)))
    (table-new g.K.Key.code_of c.args.places c.requires.some c.requires.few)
