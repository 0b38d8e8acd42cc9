use Rattle.std.proofs.Common.{◌∙◌, arith}
use Rattle.std.proofs.lemmas.Grind.{elements}
use Rattle.fs_layout.proofs.NumberLaws.{numbers_more}
use Rattle.fs_layout.proofs.bytes.numbers_at.Goals as goal

pub loop-i-preserved : goal.loop-i-preserved
loop-i-preserved c = record {
  spelled = numbers_more c.args.bytes.now c.loop-i.values.items _ c.args.at c.loop-i.i _
      (λ i. omega (arith, c.type_inv.bytes i)) (omega arith) c.loop-i.invariant.spelled c.number_at.ensures
      c.push_reserved.ensures.items;
  len = omega (arith, c.push_reserved.ensures.len);
  capacity = c.push_reserved.ensures.capacity ∙ c.loop-i.invariant.capacity;
  fit = grind (arith, elements);
}
