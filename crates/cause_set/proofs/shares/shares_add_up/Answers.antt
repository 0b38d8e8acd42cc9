-- The law of shares.
use Rattle.cause_set.proofs.AddUp.{shares_add_up}
use Rattle.cause_set.proofs.shares.shares_add_up.Goals as goal

pub returns : goal.returns
returns c = shares_add_up
