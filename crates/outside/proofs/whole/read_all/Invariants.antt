use Rattle.std.proofs.Common.{◌≡◌, ◌≤◌, ◌+◌, ◌-◌, vec_len}
use Rattle.std.specs.Io.KnownBytes.{Consumes}
use Rattle.outside.proofs.whole.read_all.Given as goal

-- what was taken is in `bytes`, and is no more than the limit
abbrev pub invariant-loop-piece : goal.invariant-loop-piece
invariant-loop-piece g l =
    let left = g.S.Source.left in
    let faults = g.S.Source.faults in
    record {
      taken : Consumes (left l.fn.source) (left l.source) l.bytes.items;
      limited : vec_len l.bytes ≤ l.limit;
      later : faults l.fn.source ≤ faults l.source;
      room : vec_len l.piece ≡ 65536;
    }

abbrev pub decreases-loop-piece : goal.decreases-loop-piece
decreases-loop-piece g l = (l.limit + 1) - vec_len l.bytes
