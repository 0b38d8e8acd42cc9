-- Each pair becomes what it was to become.
use Rattle.std.proofs.Common.{◌≡◌, map, None}
use Rattle.std.specs.Prelude.{count_by}
use Rattle.token_ledger.specs.Books.{marked}
use Rattle.token_ledger.specs.Places.{pairs_in, ArePlaces}
use Rattle.token_ledger.proofs.PlaceLaws.{has_pair}
use Rattle.token_ledger.proofs.pairs.OpenPairs.mark.Given as goal

abbrev pub invariant-loop-at : goal.invariant-loop-at
invariant-loop-at l = record {
  places : ArePlaces l.self-inside.places l.self-inside.owed.items l.self-inside.free;
  pairs : map (marked l.buf l.id) (pairs_in l.self-inside.places l.self-inside.owed.items) ≡ map
      (marked l.buf l.id) l.fn.self.pairs;
  spare : l.self-inside.free ≡ l.fn.self.spare;
}

-- how many places have an unmarked pair of the buffer
abbrev pub decreases-loop-at : goal.decreases-loop-at
decreases-loop-at l = count_by (has_pair l.buf None) l.self-inside.places
