use Rattle.std.proofs.Common.{ℕ, ◌<◌, Bool, length, IfSome}
use Rattle.fixed_places.specs.Chains.{IsChain}
use Rattle.fixed_places.proofs.ChainLaws.{IsReached, left_from}
use Rattle.fixed_places.proofs.chains.last_below.Given as goal

abbrev pub invariant-loop-next : goal.invariant-loop-next
invariant-loop-next l = record {
  last : IfSome l.last (λ at. at < length l.nexts);
  next : IfSome l.next (λ at. at < length l.nexts);
  reached : (test : ℕ → Bool) → IsChain test l.fn.first l.nexts → IsReached test l.below l.last l.next;
}

abbrev pub decreases-loop-next : goal.decreases-loop-next
decreases-loop-next l = left_from (length l.nexts) l.next
