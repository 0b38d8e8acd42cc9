use Rattle.std.proofs.Common.{◌≡◌, ◌-◌, ◌*◌, ◌∙◌, ap, arith, None, replicate}
use Rattle.std.proofs.lemmas.List.{drop-replicate}
use Rattle.std.proofs.lemmas.Grind.{common_steps}
use Rattle.fixed_places.proofs.least.Least.new.Goals as goal

pub returns : goal.returns
returns g c =
    rw (c.in_ok-nodes.ensures.items_if_clones_equal (λ y h. grind (arith, common_steps)))
    (let half : 2 * c.args.places - c.args.places ≡ c.args.places = omega arith in
    drop-replicate c.args.places (2 * c.args.places) None ∙ ap (λ n. replicate n None) half)
