use Rattle.std.proofs.Common.{◌≡◌, ◌<◌, length, refl, ap, arith}
use Rattle.delayed_alloc.specs.Blocks.{Blocks, Taken}
use Rattle.delayed_alloc.specs.Held.{states_of}
use Rattle.delayed_alloc.proofs.SettleLaws.{marked-waiting}
use Rattle.delayed_alloc.proofs.HeldLaws.{length-states_of, found-state, states-waiting, held-waiting}
use Rattle.delayed_alloc.proofs.alloc.Alloc.free_later.Goals as goal

pub insert-requires : goal.insert-requires
insert-requires c =
    let i = c.self.inside in
    let states = ap (λ (a : Blocks). a.states) c.self.view_is in
    let within = (found-state i.free.words.items i.waiting.words.items i.txns.items c.args.block Taken
    (rw states c.requires)).0 in
    omega (arith, within, c.self.invariant.waits_room, i.waiting.words.ok.0)

pub index_mut-requires : goal.index_mut-requires
index_mut-requires c =
    let i = c.self.inside in
    let states = ap (λ (a : Blocks). a.states) c.self.view_is in
    let within = (found-state i.free.words.items i.waiting.words.items i.txns.items c.args.block Taken
    (rw states c.requires)).0 in
    omega (arith, within, i.txns.ok.0)

pub invariant_of-self-inside : goal.invariant_of-self-inside
invariant_of-self-inside c =
    let i = c.self.inside in
    let words = i.free.words.items in
    let waits = i.waiting.words.items in
    let states = ap (λ (a : Blocks). a.states) c.self.view_is in
    let within = (found-state words waits i.txns.items c.args.block Taken (rw states c.requires)).0 in
    let len = length-states_of words waits i.txns.items in
    let inside : c.args.block < length (states_of words waits i.txns.items) = omega arith in (
      rw (states-waiting words waits c.insert.new.self.words.items i.txns.items c.args.block c.args.t
          (rw states c.requires) c.insert.ensures.set)
          (marked-waiting (states_of words waits i.txns.items) i.marks.bits c.add.new.self.bits c.args.block c.args.t
          i.marked c.add.ensures.kept c.add.ensures.added inside),
      tt,
    )

pub invariant_of-self : goal.invariant_of-self
invariant_of-self c =
    let i = c.self.inside in
    let waits = c.insert.new.self.words in
    let states = ap (λ (a : Blocks). a.states) c.self.view_is in
    let len : length waits.items ≡ length i.waiting.words.items =
    omega (arith, waits.ok.0, i.waiting.words.ok.0, c.insert.ensures.len) in
    held-waiting i.free.words.items i.waiting.words.items waits.items i.txns.items c.args.block c.args.t
    (rw states c.requires) c.insert.ensures.set i.unused i.reserved c.self.invariant len

pub returns : goal.returns
returns c =
    let i = c.self.inside in
    let waits = c.insert.new.self.words in
    let states = ap (λ (a : Blocks). a.states) c.self.view_is in
    let reserved = ap (λ (a : Blocks). a.reserved) c.self.view_is in
    let waiting = states-waiting i.free.words.items i.waiting.words.items waits.items i.txns.items c.args.block c.args.t
    (rw states c.requires) c.insert.ensures.set in
    rw (waiting, states, reserved) refl
