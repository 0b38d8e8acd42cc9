use Rattle.std.proofs.Common.{◌≡◌, ℕ, ◌+◌, ◌≤◌, length, set, Some, refl, ap, ◌∙◌, arith}
use Rattle.std.specs.Prelude.{slice_index}
use Rattle.split_types.specs.LiveFiles.{LiveFile, Slots, mapped_file}
use Rattle.small_fs.specs.Files.{Files, changed}
use Rattle.small_fs.specs.Uses.{uses_in}
use Rattle.small_fs.proofs.KeyLaws.{whole_at}
use Rattle.small_fs.proofs.FilesLaws.{few_uses, length-with_run, put_back, stand_changed}
use Rattle.small_fs.proofs.fs.Fs.map_run.Goals as goal

pub map_pages-requires-clause-few : goal.map_pages-requires-clause-few
map_pages-requires-clause-few c =
    let i = c.self.inside in
    few_uses i.next i.files.items i.uses.pages c.self.invariant.whole c.self.invariant.counted

pub invariant_of-self : goal.invariant_of-self
invariant_of-self c =
    let i = c.self.inside in
    let v = c.self.invariant in
    let s = c.args.s.0 in
    let f = c.take-file.result in
    let change = mapped_file c.args.page c.args.n c.args.first c.args.disk_size in
    let is = c.take-file.ensures.file in
    let fit : c.args.page + c.args.n ≤ length f.blocks =
    omega (arith, c.requires.pages, (whole_at i.next i.files.items v.whole s f is).pages) in
    let done : c.set_disk_size.new.self ≡ change f = c.set_disk_size.ensures
    ∙ ap (λ (g : LiveFile). let h : LiveFile = record g { disk_size = c.args.disk_size } in h)
    c.map_pages.ensures.file in
    let stand = stand_changed i.next i.files.items _ i.names i.serials i.free i.uses.pages c.map_pages.new.uses.pages
    change s f is (record {
      name = refl;
      serial = refl;
      pages = length-with_run c.args.page c.args.n c.args.first f.blocks fit;
    }) v.whole v.indexed v.counted (put_back i.files.items _ change s f _ is c.take-file.ensures.rest done)
    (λ b. c.map_pages.ensures.counted b
    ∙ ap (λ (g : LiveFile). slice_index i.uses.pages b + uses_in b g.blocks) c.map_pages.ensures.file) in
    record { whole = stand.whole; indexed = stand.indexed; counted = stand.counted; fits = v.fits }

pub returns : goal.returns
returns c =
    let i = c.self.inside in
    let s = c.args.s.0 in
    let f = c.take-file.result in
    let change = mapped_file c.args.page c.args.n c.args.first c.args.disk_size in
    let done : c.set_disk_size.new.self ≡ change f = c.set_disk_size.ensures
    ∙ ap (λ (g : LiveFile). let h : LiveFile = record g { disk_size = c.args.disk_size } in h)
    c.map_pages.ensures.file in
    let made : ℕ → Slots → Files = λ first slots.
    record { first = first; slots = slots; next = i.next; spare = i.maps } in
    ap (λ (first : ℕ). made first (set c.take-file.new.files.items s (Some c.set_disk_size.new.self)))
    c.map_pages.ensures.first
    ∙ ap (made i.uses.first)
    (put_back i.files.items _ change s f _ c.take-file.ensures.file c.take-file.ensures.rest done)
    ∙ ap (λ (fs : Files). let g : Files = record fs { slots = changed change s fs.slots } in g) c.self.view_is
