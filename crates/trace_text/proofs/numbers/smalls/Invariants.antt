-- The numbers so far were read.
use Rattle.trace_text.specs.Numbers.{SmallsAt}
use Rattle.trace_text.proofs.numbers.smalls.Given as goal

abbrev pub invariant-loop-i : goal.invariant-loop-i
invariant-loop-i l = record {
  read : SmallsAt l.text l.i l.numbers.small l.numbers.within l.rest;
}
