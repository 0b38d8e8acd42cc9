use Rattle.split_core.specs.Pages.{Releases}
use Rattle.split_core.proofs.note.pages.Pages.release.Given as goal

abbrev pub invariant-loop-k : goal.invariant-loop-k
invariant-loop-k l = Releases l.initial.self.cache l.self.cache l.serial l.page l.k
