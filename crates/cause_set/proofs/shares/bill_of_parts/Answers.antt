-- One set more.
use Rattle.std.proofs.Common.{◌≡◌, ◌+◌, length, ap, ◌∙◌, arith}
use Rattle.split_types.specs.Share.{share, share_of}
use Rattle.cause_set.proofs.Parts.{first_parts, first_parts-le, first_parts-more, first_parts-all}
use Rattle.cause_set.proofs.shares.bill_of_parts.Goals as goal

more : (c : goal.After-share_of-bill)
    → c.loop-at.bill + c.share_of-bill.result
    ≡ first_parts c.args.cost c.args.parts.now c.args.p.0 (c.loop-at.at + 1)
more c =
    let part : c.share_of-bill.result
    ≡ share_of (share c.args.cost c.loop-at.at (length c.args.parts.now)) c.index-parts-at.result c.args.p.0 =
    c.share_of-bill.ensures ∙ ap (λ s. share_of s c.index-parts-at.result c.args.p.0) c.share_among.ensures in
    omega (
      arith,
      c.loop-at.invariant,
      part,
      first_parts-more c.args.cost c.args.parts.now c.args.p.0 c.loop-at.at c.index-parts-at.result
          c.loop-at-test.true c.index-parts-at.is,
    )

pub overflow_add-bill : goal.overflow_add-bill
overflow_add-bill c = omega (arith, more c, first_parts-le c.args.cost c.args.parts.now c.args.p.0 (c.loop-at.at + 1))

pub loop-at-preserved : goal.loop-at-preserved
loop-at-preserved c = more c

pub returns : goal.returns
returns c =
    c.loop-at.invariant ∙ first_parts-all c.args.cost c.args.parts.now c.args.p.0 c.loop-at.at c.loop-at-test.false
