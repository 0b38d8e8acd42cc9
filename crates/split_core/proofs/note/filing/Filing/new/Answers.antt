-- The preset files, and their blocks.
use Rattle.std.proofs.Common.{◌≡◌, ◌+◌, ◌-◌, [], length, arith, subst, sym, ap, ◌∙◌}
use Rattle.split_types.specs.Workloads.{first_block, preset_pages}
use Rattle.split_types.specs.LiveFiles.{preset_slots}
use Rattle.split_types.proofs.Shared.{data_from}
use Rattle.delayed_alloc.specs.Blocks.{new_blocks}
use Rattle.split_core.specs.Filing.{BlocksAre}
use Rattle.split_core.proofs.FilingFilesNotes.{files_new}
use Rattle.split_core.proofs.FilingFilesMade.{may_start, used_within}
use Rattle.split_core.proofs.FilingBlocksStart.{blocks_start}
use Rattle.split_core.proofs.note.filing.Filing.new.Goals as goal

pub new-requires : goal.new-requires
new-requires c =
    let may = may_start c.args.w.now c.first_block-first.result c.as_slice.result.now c.requires
    c.first_block-first.ensures c.as_slice.ensures
    in record { few = may.few; pages = may.pages; apart = may.apart; first = may.one; fit = may.fit }

pub overflow_sub-used : goal.overflow_sub-used
overflow_sub-used c = omega (arith, c.first_block-first.ensures, data_from c.args.w.now)

pub new-requires-2 : goal.new-requires-2
new-requires-2 c =
    (used_within c.args.w.now c.first_block-first.result c.preset_pages.result c.requires c.first_block-first.ensures
    c.preset_pages.ensures).1

pub returns : goal.returns
returns c =
    let w = c.args.w.now
    in let first = c.first_block-first.result
    in let pages = c.preset_pages.result
    in let used : first - 526 + pages ≡ first_block w - 526 + preset_pages w =
    ap (λ n. n - 526 + pages) c.first_block-first.ensures
    ∙ ap (λ n. first_block w - 526 + n) c.preset_pages.ensures
    in record {
      files = files_new w c.in_ok-fs.fs c.requires (c.in_ok-fs.ensures.first ∙ c.first_block-first.ensures)
          (c.in_ok-fs.ensures.slots ∙ ap (preset_slots first) c.as_slice.ensures
          ∙ ap (λ n. preset_slots n w.files) c.first_block-first.ensures)
          (c.in_ok-fs.ensures.next ∙ ap length c.as_slice.ensures);
      blocks = subst (λ a. BlocksAre w a [])
          (sym (c.in_ok-blocks.ensures ∙ ap (λ n. new_blocks w.device (526 + n)) used))
          (blocks_start w c.requires);
    }
