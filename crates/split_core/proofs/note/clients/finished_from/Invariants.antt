-- The processes so far have no call left.
use Rattle.std.proofs.Common.{◌≡◌, ℕ, ◌+◌, ◌<◌, ◌≤◌, length, slice_get, Some}
use Rattle.split_types.specs.Workloads.{calls_of}
use Rattle.split_core.specs.declared.note.clients.Client.{Client}
use Rattle.split_core.proofs.note.clients.finished_from.Given as goal

abbrev pub invariant-loop-i : goal.invariant-loop-i
invariant-loop-i l = (i : ℕ) (x : Client) → l.known ≤ i → i < l.i → slice_get l.clients i ≡ Some x
    → x.returned ≡ length (calls_of l.w (i + 1))
