use Rattle.split_types.proofs.ByteLaws as law
use Rattle.split_types.proofs.caching.bytes_by_byte.Goals as goal

pub returns : goal.returns
returns c = law.bytes_by_byte
