use Rattle.tag_table.proofs.TagLaws.{shared-distinct, in_use-counted}
use Rattle.tag_table.proofs.table.Table.sets.Goals as goal

pub returns-clause-count : goal.returns-clause-count
returns-clause-count c =
    rw (c.len.ensures.count, ← c.self.view_is)
    (in_use-counted c.self.inside.rows.rows _ c.self.inside.left c.self.invariant)

pub returns-clause-shared : goal.returns-clause-shared
returns-clause-shared c =
    rw (← c.self.view_is) (shared-distinct c.self.inside.rows.rows 0 c.len.ensures.distinct)
