use Rattle.std.proofs.Common.{◌≡◌, ℕ, List, Option, Some, map, set, ap, ◌∙◌}
use Rattle.std.proofs.lemmas.List.{map-set}
use Rattle.split_types.specs.LiveFiles.{LiveFile}
use Rattle.small_fs.specs.Pointers.{block_named}
use Rattle.small_fs.proofs.PointerLaws.{block_named-some}
use Rattle.small_fs.proofs.file.File.set_block.Goals as goal

pub returns-clause-has : goal.returns-clause-has
returns-clause-has c =
    let i = c.self.inside in
    let with : List (Option ℕ) → LiveFile = λ bs.
    record { serial = i.serial; name = i.name; size = i.size; disk_size = i.disk_size; blocks = bs } in
    let stored : map block_named (set i.pointers.items c.args.page c.args.block)
    ≡ set (map block_named i.pointers.items)
    c.args.page (Some c.args.block) = map-set block_named i.pointers.items c.args.page c.args.block
    ∙ ap (λ (b : Option ℕ). set (map block_named i.pointers.items) c.args.page b)
    (block_named-some c.args.block c.requires.block) in
    ap with stored
    ∙ ap (λ (f : LiveFile). let g : LiveFile = record f { blocks = set f.blocks c.args.page (Some c.args.block) } in g)
    c.self.view_is
