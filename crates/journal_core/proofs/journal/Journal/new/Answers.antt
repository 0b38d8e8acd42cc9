use Rattle.std.proofs.Common.{refl, []}
use Rattle.journal_core.proofs.HeldLaws.{new-held}
use Rattle.journal_core.proofs.journal.Journal.new.Goals as goal

pub returns-clause-empty : goal.returns-clause-empty
returns-clause-empty g c =
    rw (
      c.in_ok-new.ensures,
      c.in_ok-new-2.ensures,
      c.in_ok-new-3.ensures,
      c.in_ok-with_capacity.ensures.items,
      c.new-4.ensures,
    ) refl

pub returns-clause-held : goal.returns-clause-held
returns-clause-held g c = λ n.
    rw (c.in_ok-new.ensures, c.in_ok-new-2.ensures, c.in_ok-new-3.ensures) (new-held c.args.slots [] n)
