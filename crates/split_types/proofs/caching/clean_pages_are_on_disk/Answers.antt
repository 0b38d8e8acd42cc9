use Rattle.split_types.proofs.DiskLaws as law
use Rattle.split_types.proofs.caching.clean_pages_are_on_disk.Goals as goal

pub returns : goal.returns
returns c = law.clean_pages_are_on_disk
