use Rattle.std.proofs.Common.{◌<◌, length, arith, ap, ◌∙◌}
use Rattle.std.proofs.lemmas.List.{length-map}
use Rattle.sim_disk.specs.Runs.{content}
use Rattle.sim_disk.proofs.RunLaws.{block_at-content}
use Rattle.sim_disk.proofs.blocks.Blocks.fill_of.Goals as goal

pub returns-in-Filled : goal.returns-in-Filled
returns-in-Filled c =
    let places = c.self.inside.places.items in
    let runs = c.self.inside.runs in
    let inside : c.args.b < length places = omega (
      arith,
      c.requires,
      ap (λ s. length s.blocks) c.self.view_is,
      length-map places (content runs),
    ) in
    rw (← c.self.view_is) (block_at-content places runs c.args.b c.index.result.now inside c.index.ensures
    ∙ ap (content runs) c.in-Filled.is)
