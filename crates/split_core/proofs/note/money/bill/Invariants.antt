-- What is billed so far, and what is still to be billed, are all that is due.
use Rattle.std.proofs.Common.{◌≡◌, ℕ, ◌+◌, ◌<◌, length, slice_index}
use Rattle.split_types.specs.Share.{share_of}
use Rattle.split_core.proofs.MoneyNotes.{IsLeftOf, to_come}
use Rattle.split_core.proofs.note.money.bill.Given as goal

abbrev pub invariant-loop-p : goal.invariant-loop-p
invariant-loop-p l = record {
  left : IsLeftOf l.tag l.p-iterator;
  due : (i : ℕ) → i < length l.billed → slice_index l.billed i + to_come l.cost l.tag l.p-iterator (i + 1)
      ≡ slice_index l.fn.billed i + share_of l.cost l.tag (i + 1);
}
