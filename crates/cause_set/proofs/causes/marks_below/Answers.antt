-- The marks of the first processes, counted by words.
use Rattle.cause_set.proofs.Counts.{marks-counted}
use Rattle.cause_set.proofs.causes.marks_below.Goals as goal

pub returns : goal.returns
returns c =
    rw (
      c.ones_below.ensures.value,
      c.ones_below-2.ensures.value,
      c.ones_below-3.ensures.value,
      c.ones_below-4.ensures.value,
      c.saturating_sub.ensures,
      c.saturating_sub-2.ensures,
      c.saturating_sub-3.ensures,
    )
    (marks-counted c.args.marks.now c.args.processes c.requires)
