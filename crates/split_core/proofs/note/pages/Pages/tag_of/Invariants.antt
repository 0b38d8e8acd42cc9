-- The tag so far has all for whom the pages so far are dirty.
use Rattle.tag_table.specs.Tags.{tags_of}
use Rattle.split_core.proofs.PageUnions.{IsUnion}
use Rattle.split_core.proofs.note.pages.Pages.tag_of.Given as goal

abbrev pub invariant-loop-k : goal.invariant-loop-k
invariant-loop-k l =
    IsUnion (tags_of l.fn.tags) (tags_of l.tags) l.self.cache l.run.serial l.run.page l.k l.all.number
