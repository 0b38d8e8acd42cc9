use Rattle.std.proofs.Common.{◌≡◌, ap, ◌∙◌, arith, nat_lt}
use Rattle.small_fs.proofs.UsesLaws.{none_counted}
use Rattle.small_fs.proofs.uses.Uses.new.Goals as goal

pub invariant_of-result : goal.invariant_of-result
invariant_of-result c =
    let first = c.args.first in
    let end : c.loop-block.block ≡ first = omega (arith, c.loop-block.auto.block-end, c.loop-block-test.false) in
    record {
      blocks = c.in_ok-zeros.ensures.len;
      bits_len = c.loop-block.invariant.len;
      before = c.requires;
      bits = λ block. c.loop-block.invariant.before block ∙ ap (nat_lt block) end
          ∙ none_counted (record { first = first; pages = c.in_ok-zeros.field-0.items }) block
          c.in_ok-zeros.ensures.none;
    }
