use Rattle.std.proofs.Common.{◌≡◌, ◌-◌, length, ap, arith}
use Rattle.delayed_alloc.specs.Blocks.{Blocks}
use Rattle.delayed_alloc.specs.Held.{states_of}
use Rattle.delayed_alloc.proofs.SettleLaws.{marked-taken}
use Rattle.delayed_alloc.proofs.TurnLaws.{run-within, held-taken, takes_run}
use Rattle.delayed_alloc.proofs.alloc.Alloc.take_run.Goals as goal

pub remove_run-requires-clause-within : goal.remove_run-requires-clause-within
remove_run-requires-clause-within c =
    let i = c.self.inside in
    let run = rw (← c.self.view_is) at c.peek_run-first.ensures in
    let within = run-within i.free.words.items i.waiting.words.items i.txns.items i.unused i.reserved c.args.n
    c.peek_run-first.result.0 c.peek_run-first.result.1 c.self.invariant run in
    omega (arith, within, c.self.invariant.room, i.free.words.ok.0)

pub invariant_of-self-inside : goal.invariant_of-self-inside
invariant_of-self-inside c =
    let i = c.self.inside in
    let words = c.remove_run.new.self.words in
    let waits = i.waiting.words.items in
    let txns = i.txns.items in
    let run = rw (← c.self.view_is) at c.peek_run-first.ensures in
    let reserved : i.reserved ≡ c.args.self.now.reserved = ap (λ (a : Blocks). a.reserved) c.self.view_is in
    let len : length words.items ≡ length i.free.words.items =
    omega (arith, words.ok.0, i.free.words.ok.0, c.remove_run.ensures.len) in (
      marked-taken (record { states = states_of i.free.words.items waits txns; reserved = i.reserved })
          (record { states = states_of words.items waits txns; reserved = i.reserved - c.peek_run-first.result.1 })
          i.marks.bits c.peek_run-first.result.0 c.peek_run-first.result.1
          (takes_run i.free.words.items words.items waits txns i.unused i.reserved c.args.n c.peek_run-first.result.0
          c.peek_run-first.result.1 c.self.invariant run (rw reserved c.requires.promised) len c.remove_run.ensures.run
          c.remove_run.ensures.others) i.marked,
      tt,
    )

pub invariant_of-self : goal.invariant_of-self
invariant_of-self c =
    let i = c.self.inside in
    let words = c.remove_run.new.self.words in
    let run = rw (← c.self.view_is) at c.peek_run-first.ensures in
    let reserved : i.reserved ≡ c.args.self.now.reserved = ap (λ (a : Blocks). a.reserved) c.self.view_is in
    let len : length words.items ≡ length i.free.words.items =
    omega (arith, words.ok.0, i.free.words.ok.0, c.remove_run.ensures.len) in
    held-taken i.free.words.items words.items i.waiting.words.items i.txns.items i.unused i.reserved c.args.n
    c.peek_run-first.result.0 c.peek_run-first.result.1 c.self.invariant run
    (rw reserved c.requires.promised) len c.remove_run.ensures.run c.remove_run.ensures.others

pub returns-clause-taken : goal.returns-clause-taken
returns-clause-taken c =
    let i = c.self.inside in
    let words = c.remove_run.new.self.words in
    let run = rw (← c.self.view_is) at c.peek_run-first.ensures in
    let reserved : i.reserved ≡ c.args.self.now.reserved = ap (λ (a : Blocks). a.reserved) c.self.view_is in
    let len : length words.items ≡ length i.free.words.items =
    omega (arith, words.ok.0, i.free.words.ok.0, c.remove_run.ensures.len) in
    rw (← c.self.view_is)
    (takes_run i.free.words.items words.items i.waiting.words.items i.txns.items i.unused i.reserved c.args.n
    c.peek_run-first.result.0 c.peek_run-first.result.1 c.self.invariant run
    (rw reserved c.requires.promised) len c.remove_run.ensures.run c.remove_run.ensures.others)
