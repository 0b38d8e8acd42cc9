use Rattle.std.proofs.Common.{◌≡◌, ◌<◌, ap, arith}
use Rattle.delayed_alloc.specs.Blocks.{Blocks}
use Rattle.delayed_alloc.proofs.HeldLaws.{some-free, least_run}
use Rattle.delayed_alloc.proofs.alloc.Alloc.peek_run.Goals as goal

pub unwrap-first-requires : goal.unwrap-first-requires
unwrap-first-requires c =
    let i = c.self.inside in
    let reserved : i.reserved ≡ c.args.self.now.reserved = ap (λ (a : Blocks). a.reserved) c.self.view_is in
    let some : 0 < i.reserved = omega (arith, reserved, c.requires.some, c.requires.promised) in
    some-free i.free.words.items i.waiting.words.items i.txns.items i.unused i.reserved c.first.result
    c.self.invariant some c.first.ensures.none

pub returns : goal.returns
returns c =
    let i = c.self.inside in
    rw (← c.self.view_is)
    (least_run i.free.words.items i.waiting.words.items i.txns.items i.unused i.reserved c.args.n
    c.unwrap-first.result c.run-m.result c.self.invariant c.requires.some
    (rw c.unwrap-first.ensures at c.first.ensures.first) c.run-m.ensures.most c.run-m.ensures.run c.run-m.ensures.ends)
