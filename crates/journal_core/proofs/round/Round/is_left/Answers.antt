use Rattle.std.proofs.Common.{length, ap, arith}
use Rattle.journal_core.specs.Places.{blocks_of}
use Rattle.journal_core.proofs.PlaceLaws.{blocks-map, round-left, left-test}
use Rattle.journal_core.proofs.round.Round.is_left.Goals as goal

pub returns : goal.returns
returns g c =
    let r = c.self.inside in
    left-test r.carried c.len.result (length (blocks_of c.args.self.now))
    (omega (
      arith,
      ap (λ xs. length (blocks_of xs)) c.self.view_is,
      ap length (blocks-map g.S.TagStore.number 1 r.tags.items),
      round-left r.tags.items r.homes.items r.carried c.self.invariant.left,
      c.len.ensures,
      r.homes.ok.0,
    ))
