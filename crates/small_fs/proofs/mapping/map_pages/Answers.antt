use Rattle.std.proofs.Common.{◌≡◌, ℕ, ◌+◌, ◌<◌, length, Option, Some, List, set, ap, ◌∙◌, arith}
use Rattle.split_types.specs.LiveFiles.{LiveFile}
use Rattle.small_fs.proofs.UsesLaws.{uses_few}
use Rattle.small_fs.proofs.FilesLaws.{length-with_run, with_run-more}
use Rattle.small_fs.proofs.mapping.map_pages.Goals as goal

pub map_page-requires-clause-pages : goal.map_page-requires-clause-pages
map_page-requires-clause-pages c =
    let f = c.args.file.now in
    let lt : c.loop-i.i < c.args.n = c.loop-i-test.true in
    ap (λ (g : LiveFile). length g.blocks) c.loop-i.invariant.file
    ∙ length-with_run c.args.page c.loop-i.i c.args.first f.blocks (omega (arith, c.requires.fit, c.requires.pages))
    ∙ c.requires.pages

pub map_page-requires-clause-few : goal.map_page-requires-clause-few
map_page-requires-clause-few c b =
    let f = c.args.file.now in
    let lt : c.loop-i.i < c.args.n = c.loop-i-test.true in
    let len : length c.loop-i.file.blocks ≡ 1008 = ap (λ (g : LiveFile). length g.blocks) c.loop-i.invariant.file
    ∙ length-with_run c.args.page c.loop-i.i c.args.first f.blocks (omega (arith, c.requires.fit, c.requires.pages))
    ∙ c.requires.pages in
    omega (arith, c.loop-i.invariant.counted b, c.requires.few b, uses_few b c.loop-i.file.blocks)

pub loop-i-preserved : goal.loop-i-preserved
loop-i-preserved c =
    let f = c.args.file.now in
    let i = c.loop-i.i in
    let lt : i < c.args.n = c.loop-i-test.true in
    let with : List (Option ℕ) → LiveFile = λ bs.
    record { serial = f.serial; name = f.name; size = f.size; disk_size = f.disk_size; blocks = bs } in
    record {
      file = c.map_page.ensures.file
          ∙ ap (λ (g : LiveFile). let h : LiveFile =
          record g { blocks = set g.blocks (c.args.page + i) (Some (c.args.first + i)) } in h) c.loop-i.invariant.file
          ∙ ap with
          (with_run-more c.args.page i c.args.first f.blocks (omega (arith, c.requires.fit, c.requires.pages)));
      first = c.map_page.ensures.first ∙ c.loop-i.invariant.first;
      counted = λ b. omega (arith, c.map_page.ensures.counted b, c.loop-i.invariant.counted b);
    }
