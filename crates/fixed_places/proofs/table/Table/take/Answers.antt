use Rattle.std.proofs.Common.{◌≡◌, ◌∙◌, ℕ, ◌<◌, None, List, Option, length, set, sym, ap}
use Rattle.fixed_places.proofs.PlaceLaws.{some-within}
use Rattle.fixed_places.proofs.TableLaws.{table-set, taken-only}
use Rattle.fixed_places.proofs.table.Table.take.Goals as goal

pub invariant_of-self : goal.invariant_of-self
invariant_of-self g c =
    let keys = c.self.inside.keys.items in
    let at = c.args.at in
    let code = g.K.Key.code_of in
    let place : at < length keys = some-within keys at (rw c.self.view_is c.requires) in
    rw c.take.ensures
    (table-set code c.self.inside.chains keys at None c.self.invariant
    (taken-only code keys at place c.self.invariant.only))
