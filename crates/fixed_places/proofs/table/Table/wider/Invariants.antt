use Rattle.std.proofs.Common.{◌≡◌, ◌-◌, ◌++◌, None, take, replicate}
use Rattle.fixed_places.proofs.table.Table.wider.Given as goal

-- the first keys stand in their places
abbrev pub invariant-loop-at : goal.invariant-loop-at
invariant-loop-at g l = l.wider ≡ take l.at l.keys ++ replicate (l.places - l.at) None
