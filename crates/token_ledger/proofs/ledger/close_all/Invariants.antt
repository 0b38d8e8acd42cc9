-- The pairs that are to stay are there, and nothing changes of an account but what is held back from it.
use Rattle.std.proofs.Common.{◌≡◌, ◌≤◌, length, map, filter, not}
use Rattle.token_ledger.specs.Books.{is_of}
use Rattle.token_ledger.specs.Standings.{AreKept}
use Rattle.token_ledger.proofs.ledger.close_all.Given as goal

abbrev pub invariant-loop-pair : goal.invariant-loop-pair
invariant-loop-pair l = record {
  kept : AreKept l.standings l.owners l.pairs.pairs;
  pairs : filter (λ q. not (is_of l.b l.mark q)) l.pairs.pairs ≡ filter
      (λ q. not (is_of l.b l.mark q)) l.fn.pairs.pairs;
  spare : l.fn.pairs.spare ≤ l.pairs.spare;
  accounts : map (λ s. s.account) l.standings ≡ map (λ s. s.account) l.fn.standings;
  granted : map (λ s. s.granted) l.standings ≡ map (λ s. s.granted) l.fn.standings;
  billed : map (λ s. s.billed) l.standings ≡ map (λ s. s.billed) l.fn.standings;
}

-- how many pairs are open
abbrev pub decreases-loop-pair : goal.decreases-loop-pair
decreases-loop-pair l = length l.pairs.pairs
