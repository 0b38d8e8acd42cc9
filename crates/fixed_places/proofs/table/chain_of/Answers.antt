use Rattle.std.proofs.Common.{refl}
use Rattle.fixed_places.specs.Spread.{chain_of}
use Rattle.fixed_places.proofs.table.chain_of.Goals as goal

pub returns-clause-chain : goal.returns-clause-chain
unfolding chain_of
returns-clause-chain c = refl
