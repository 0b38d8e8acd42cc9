-- The page is touched, and then the process pins nothing.
use Rattle.split_core.proofs.note.pages.Pages.get.Goals as goal

pub returns : goal.returns
returns c = record {
  mid = c.touch.new.self.cache;
  touches = c.touch.ensures;
  pages = c.unpin.ensures.pages;
  tags = c.unpin.ensures.tags;
}
