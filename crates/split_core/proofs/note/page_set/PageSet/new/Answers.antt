-- Words of zeros are no pages.
use Rattle.split_core.proofs.PageBits.{new-pages, new-is_set}
use Rattle.split_core.proofs.note.page_set.PageSet.new.Goals as goal

pub invariant_of-result : goal.invariant_of-result
invariant_of-result c = new-is_set

pub returns : goal.returns
returns c = new-pages
