-- A number that no process has is in no set.
use Rattle.std.proofs.Common.{arith}
use Rattle.std.proofs.lemmas.Bool.Decides.{nat_tests}
use Rattle.cause_set.proofs.Marks.{held}
use Rattle.cause_set.proofs.causes.holds.Goals.{then-number-ge1, else-number-ge1}
use Rattle.cause_set.proofs.causes.holds.Goals as goal

pub returns-then-number-le-LAST : goal.returns-then-number-le-LAST
returns-then-number-le-LAST c =
    elim c.if-number-ge1.branch [
      | then-number-ge1 w ↦
          grind (
            arith,
            nat_tests,
            held c.args.marks.now c.args.number,
            c.is_marked.ensures,
            w.if-number-ge1,
            w.t-4-is,
            c.if-number-le-LAST.true,
          )
      | else-number-ge1 w ↦
          grind (
            arith,
            nat_tests,
            held c.args.marks.now c.args.number,
            c.is_marked.ensures,
            w.if-number-ge1,
            w.t-4-is,
            c.if-number-le-LAST.true,
          )
    ]

pub returns-else-number-le-LAST : goal.returns-else-number-le-LAST
returns-else-number-le-LAST c =
    elim c.if-number-ge1.branch [
      | then-number-ge1 w ↦
          grind (
            arith,
            nat_tests,
            held c.args.marks.now c.args.number,
            w.if-number-ge1,
            w.t-4-is,
            c.if-number-le-LAST.either,
          )
      | else-number-ge1 w ↦
          grind (
            arith,
            nat_tests,
            held c.args.marks.now c.args.number,
            w.if-number-ge1,
            w.t-4-is,
            c.if-number-le-LAST.either,
          )
    ]
