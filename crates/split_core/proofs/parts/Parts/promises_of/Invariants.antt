-- The pages so far to which a free block is promised.
use Rattle.std.proofs.Common.{◌≡◌, ◌≤◌}
use Rattle.split_core.proofs.PromiseReads.{promised_to}
use Rattle.split_core.proofs.parts.Parts.promises_of.Given as goal

abbrev pub invariant-loop-page : goal.invariant-loop-page
invariant-loop-page l = record {
  few : l.promised ≤ l.page;
  counted : l.promised ≡ promised_to l.w l.h.events l.serial l.page;
}
