use Rattle.std.proofs.Common.{◌<◌, ◌∙◌, length, sym, arith}
use Rattle.journal_core.specs.Places.{blocks_of}
use Rattle.journal_core.proofs.PlaceLaws.{next-is, left-within, seen-first, some-left}
use Rattle.journal_core.proofs.round.Round.next.Goals as goal

pub index-requires : goal.index-requires
index-requires g c =
    let r = c.self.inside in
    let some : 0 < length (blocks_of c.args.self.now) =
    some-left (length (blocks_of c.args.self.now)) (sym c.is_left.ensures ∙ c.if-is_left.true) in
    omega (
      arith,
      r.homes.ok.0,
      left-within g.S.TagStore.number r.tags.items c.args.self.now r.homes.items r.carried
          c.self.invariant.left c.self.view_is some,
    )

pub returns-then-is_left : goal.returns-then-is_left
returns-then-is_left g c =
    let r = c.self.inside in
    let some : 0 < length (blocks_of c.args.self.now) =
    some-left (length (blocks_of c.args.self.now)) (sym c.is_left.ensures ∙ c.if-is_left.true) in
    let within = left-within g.S.TagStore.number r.tags.items c.args.self.now r.homes.items r.carried
    c.self.invariant.left c.self.view_is some in
    let next = next-is r.tags.items r.homes.items r.carried c.index.result.now c.self.invariant.left within
    c.index.ensures in
    sym (seen-first g.S.TagStore.number r.tags.items c.args.self.now c.index.result.now c.self.view_is next.here)
