-- The places so far are free.
use Rattle.std.proofs.Common.{◌≡◌}
use Rattle.token_ledger.proofs.PlaceLaws.{freed}
use Rattle.token_ledger.proofs.pairs.free_from.Given as goal

abbrev pub invariant-loop-at : goal.invariant-loop-at
invariant-loop-at l = l.places ≡ freed l.fn.places l.from l.at
