-- The pages of the files so far.
use Rattle.std.proofs.Common.{◌≡◌, length, slice_get, slice_index_or, Some, arith, ap, ◌∙◌}
use Rattle.split_core.proofs.MediumNotesLists.{read_at}
use Rattle.split_core.proofs.FilingFilesMade.{pages_fit, pages_next, pages_all}
use Rattle.split_core.proofs.note.filing.preset_pages.Goals as goal

pub overflow_add-pages : goal.overflow_add-pages
overflow_add-pages c =
    let files = c.args.w.now.files
    in let n = c.loop-file.file-index
    in let at : slice_get files n ≡ Some c.file-item.result =
    read_at files n c.file-item.result (omega (arith, c.loop-file-test.true, ap length c.as_slice-file-items.ensures))
    (c.file-item.is ∙ ap (λ l. slice_index_or l n c.file-item.result) c.as_slice-file-items.ensures)
    in omega (arith, pages_fit c.args.w.now n c.loop-file.pages c.file-item.result c.requires c.loop-file.invariant at)

pub loop-file-preserved : goal.loop-file-preserved
loop-file-preserved c =
    let files = c.args.w.now.files
    in let n = c.loop-file.file-index
    in let at : slice_get files n ≡ Some c.file-item.result =
    read_at files n c.file-item.result (omega (arith, c.loop-file-test.true, ap length c.as_slice-file-items.ensures))
    (c.file-item.is ∙ ap (λ l. slice_index_or l n c.file-item.result) c.as_slice-file-items.ensures)
    in pages_next c.args.w.now n c.loop-file.pages c.file-item.result c.loop-file.invariant at

pub returns : goal.returns
returns c =
    pages_all c.args.w.now c.loop-file.file-index c.loop-file.pages c.loop-file.invariant
    (omega (arith, c.loop-file-test.false, ap length c.as_slice-file-items.ensures))
