-- Each file's pages stand behind those of the files before it.
use Rattle.std.proofs.Common.{◌≡◌, length, slice_get, slice_index_or, Some, arith, ap, ◌∙◌}
use Rattle.split_core.proofs.MediumNotesLists.{read_at}
use Rattle.split_core.proofs.MediumNotesStart.{filled_none, next_within, filled_next, all_filled}
use Rattle.split_core.proofs.note.medium.write_files.Goals as goal

pub fill-requires : goal.fill-requires
fill-requires c =
    let files = c.args.w.now.files
    in let n = c.loop-file.file-index
    in let at : slice_get files n ≡ Some c.file-item.result =
    read_at files n c.file-item.result (omega (arith, c.loop-file-test.true, ap length c.as_slice-file-items.ensures))
    (c.file-item.is ∙ ap (λ l. slice_index_or l n c.file-item.result) c.as_slice-file-items.ensures)
    in omega (
      arith,
      c.loop-file.invariant.size,
      next_within c.args.w.now c.loop-file.disk c.loop-file.block n c.file-item.result c.requires.accepted
          c.loop-file.invariant
          at,
    )

pub loop-file-preserved : goal.loop-file-preserved
loop-file-preserved c =
    let files = c.args.w.now.files
    in let n = c.loop-file.file-index
    in let at : slice_get files n ≡ Some c.file-item.result =
    read_at files n c.file-item.result (omega (arith, c.loop-file-test.true, ap length c.as_slice-file-items.ensures))
    (c.file-item.is ∙ ap (λ l. slice_index_or l n c.file-item.result) c.as_slice-file-items.ensures)
    in filled_next c.args.w.now c.loop-file.disk c.fill.new.self c.loop-file.block n c.file-item.result
    c.loop-file.invariant at c.in_ok-fill.ensures.blocks (ap (λ d. d.writes) c.in_ok-fill.ensures.rest)

pub loop-file-init : goal.loop-file-init
loop-file-init c =
    filled_none c.args.w.now c.args.disk.now c.first_block-block.result c.requires.metadata c.first_block-block.ensures

pub returns : goal.returns
returns c =
    all_filled c.args.w.now c.loop-file.disk c.loop-file.block c.loop-file.file-index c.loop-file.invariant
    (omega (arith, c.loop-file-test.false, ap length c.as_slice-file-items.ensures))
