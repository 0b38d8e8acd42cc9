use Rattle.std.proofs.Common.{◌≡◌, All, map, replicate, arith, sym, subst}
use Rattle.std.proofs.lemmas.Grind.{common_steps}
use Rattle.sim_disk.specs.declared.runs.Place.TheVariants.{Filled}
use Rattle.sim_disk.specs.Bytes.{filled}
use Rattle.sim_disk.specs.Runs.{content}
use Rattle.sim_disk.proofs.RunLaws.{new_blocks}
use Rattle.sim_disk.proofs.blocks.Blocks.new.Goals as goal

pub returns-clause-zeros : goal.returns-clause-zeros
returns-clause-zeros c =
    let all : c.in_ok-places.places.items ≡ replicate c.args.n (Filled 0) =
    c.in_ok-places.ensures.items_if_clones_equal (λ y h. grind (arith, common_steps)) in
    subst (λ places. All (λ bytes. bytes ≡ filled 0) (map (content c.new-2.result) places)) (sym all)
    (new_blocks c.args.n 0 c.new-2.result)
