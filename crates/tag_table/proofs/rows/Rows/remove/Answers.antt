use Rattle.tag_table.proofs.RowLaws.{indexed-removed}
use Rattle.tag_table.proofs.rows.Rows.remove.Goals as goal

pub invariant_of-self : goal.invariant_of-self
invariant_of-self c =
    rw (c.remove.ensures.slots, c.take.ensures.rest, c.remove.ensures.capacity)
    (indexed-removed c.self.inside.rows.slots c.self.inside.index c.self.inside.rows.capacity c.args.number
    c.self.invariant)
