-- So many promises are taken back so far.
use Rattle.std.proofs.Common.{◌≡◌, ◌-◌}
use Rattle.split_core.proofs.note.filing.take_back.Given as goal

abbrev pub invariant-loop-taken : goal.invariant-loop-taken
invariant-loop-taken l = record {
  states : l.alloc.states ≡ l.initial.alloc.states;
  reserved : l.alloc.reserved ≡ l.initial.alloc.reserved - l._taken;
}
