use Rattle.std.proofs.Common.{length}
use Rattle.page_cache.proofs.PinLaws.{IsSought, left_from}
use Rattle.page_cache.proofs.pins.Pins.find.Given as goal

abbrev pub invariant-loop-next : goal.invariant-loop-next
invariant-loop-next l = IsSought l.self-inside.chains.places l.self l.by l.next

abbrev pub decreases-loop-next : goal.decreases-loop-next
decreases-loop-next l = left_from (length l.self) l.next
