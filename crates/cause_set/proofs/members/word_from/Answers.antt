-- What the word shows from the number on.
use Rattle.std.proofs.Common.{sym, ◌∙◌, arith}
use Rattle.cause_set.proofs.Listing.{marked_from-word}
use Rattle.cause_set.proofs.members.word_from.Goals as goal

pub loop-number-preserved : goal.loop-number-preserved
loop-number-preserved c = (
  omega arith,
  c.loop-number.invariant.1
      ∙ marked_from-word c.args.marks.now c.loop-number.number c.loop-number.invariant.0 c.loop-number-test.true
      (sym c.marks_from-word.ensures.value ∙ c.if-word-ne0.false),
)
