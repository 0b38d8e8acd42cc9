use Rattle.split_types.proofs.FileLaws as law
use Rattle.split_types.proofs.filing.files_are_in_order.Goals as goal

pub returns : goal.returns
returns c = law.files_are_in_order
