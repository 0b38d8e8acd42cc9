use Rattle.std.proofs.Common.{ℕ, List, Option, map, ap, ◌∙◌, length, arith}
use Rattle.std.proofs.lemmas.List.{length-replicate}
use Rattle.split_types.specs.LiveFiles.{LiveFile}
use Rattle.small_fs.specs.Pointers.{block_named}
use Rattle.small_fs.proofs.PointerLaws.{named-none, zeros_unmapped}
use Rattle.small_fs.proofs.file.File.made.Goals as goal

pub invariant_of-result : goal.invariant_of-result
invariant_of-result c = record {
  pages = ap length c.requires.map ∙ length-replicate {A = ℕ} 1008 0;
  serial = omega (arith, c.requires.serial);
  unmapped = λ page past. zeros_unmapped c.args.pointers.items c.requires.map page;
}

pub returns : goal.returns
returns c =
    let made : List (Option ℕ) → LiveFile = λ bs.
    record { serial = c.args.serial; name = c.args.name; size = 0; disk_size = 0; blocks = bs } in
    ap made (ap (map block_named) c.requires.map ∙ named-none 1008)
