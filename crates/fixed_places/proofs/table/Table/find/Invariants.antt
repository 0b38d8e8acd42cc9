use Rattle.std.proofs.Common.{length}
use Rattle.fixed_places.proofs.ChainLaws.{left_from}
use Rattle.fixed_places.proofs.TableLaws.{IsSought}
use Rattle.fixed_places.proofs.table.Table.find.Given as goal

abbrev pub invariant-loop-next : goal.invariant-loop-next
invariant-loop-next g l = IsSought g.K.Key.code_of l.self-inside.chains.places l.self l.key l.next

abbrev pub decreases-loop-next : goal.decreases-loop-next
decreases-loop-next g l = left_from (length l.self) l.next
