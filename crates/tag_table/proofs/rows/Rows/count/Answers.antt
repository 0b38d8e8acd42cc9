use Rattle.tag_table.proofs.RowLaws.{indexed-counted}
use Rattle.tag_table.proofs.rows.Rows.count.Goals as goal

pub invariant_of-self : goal.invariant_of-self
invariant_of-self c =
    indexed-counted c.self.inside.rows.slots c.self.inside.index c.self.inside.rows.capacity c.args.number c.args.uses
    c.index_mut.result.now c.self.invariant c.index_mut.ensures.value
