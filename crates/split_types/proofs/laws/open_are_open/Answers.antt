use Rattle.split_types.proofs.OpenDirtyings as law
use Rattle.split_types.proofs.laws.open_are_open.Goals as goal

pub returns : goal.returns
returns c = law.open_are_open
