use Rattle.std.proofs.Common.{◌≡◌, ◌≤◌, List, ℕ, ◌++◌, length}
use Rattle.std.specs.Io.KnownBytes.{Appends}
use Rattle.outside.proofs.whole.write_all.Given as goal

-- the bytes before the rest were handed over
abbrev pub invariant-loop-rest : goal.invariant-loop-rest
invariant-loop-rest g l =
    let sink = g.K.Sink in
    record {
      front : (front : List ℕ) × (l.bytes ≡ front ++ l.rest) × Appends (sink.held l.fn.sink) (sink.held l.sink) front;
      later : sink.faults l.fn.sink ≤ sink.faults l.sink;
      same_room : sink.room l.sink ≡ sink.room l.fn.sink;
    }

abbrev pub decreases-loop-rest : goal.decreases-loop-rest
decreases-loop-rest g l = length l.rest
