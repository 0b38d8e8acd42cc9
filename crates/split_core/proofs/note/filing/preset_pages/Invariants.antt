-- The pages of the files so far are added up.
use Rattle.std.proofs.Common.{◌≡◌, take}
use Rattle.std.specs.Prelude.{sum_by}
use Rattle.split_core.proofs.note.filing.preset_pages.Given as goal

abbrev pub invariant-loop-file : goal.invariant-loop-file
invariant-loop-file l = l.pages ≡ sum_by (λ f. f.pages) (take l.file-index l.w.files)
