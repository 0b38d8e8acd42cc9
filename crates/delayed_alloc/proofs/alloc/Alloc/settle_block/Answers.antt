use Rattle.std.proofs.Common.{◌≡◌, ◌+◌, length, refl, sym, ap, ◌∙◌, arith}
use Rattle.std.proofs.lemmas.List.{get_or_read}
use Rattle.std.proofs.lemmas.List.Sums.{count_by-le-length}
use Rattle.split_types.specs.declared.ids.Txn.{Txn}
use Rattle.delayed_alloc.specs.Bits.{is_set}
use Rattle.delayed_alloc.specs.Blocks.{is_free, Free}
use Rattle.delayed_alloc.specs.Held.{states_of}
use Rattle.delayed_alloc.proofs.BitLaws.{cleared-here}
use Rattle.delayed_alloc.proofs.HeldLaws.{length-states_of, waiting-within, held-freed, states-freed}
use Rattle.delayed_alloc.proofs.SettleLaws.{waits-read, state-read, settles-freed, settles-other, marked-other, marked-unwaiting, unset-unwaiting, marked-set}
use Rattle.delayed_alloc.proofs.alloc.Alloc.settle_block.Goals as goal

pub index-waits_for-requires : goal.index-waits_for-requires
index-waits_for-requires c =
    let i = c.self.inside in
    let waiting = sym (waits-read i.free.words.items i.waiting.words.items i.txns.items i.unused i.reserved
    c.args.self.now c.self.invariant c.self.view_is c.args.block) ∙ c.requires in
    let within = waiting-within i.free.words.items i.waiting.words.items i.txns.items i.unused i.reserved c.args.block
    c.self.invariant waiting in
    omega (arith, within, i.txns.ok.0)

pub returns-then-waits_for-t-clause-settled : goal.returns-then-waits_for-t-clause-settled
returns-then-waits_for-t-clause-settled c =
    let i = c.self.inside in
    let waiting = sym (waits-read i.free.words.items i.waiting.words.items i.txns.items i.unused i.reserved
    c.args.self.now c.self.invariant c.self.view_is c.args.block) ∙ c.requires in
    let within = waiting-within i.free.words.items i.waiting.words.items i.txns.items i.unused i.reserved c.args.block
    c.self.invariant waiting in
    let read = get_or_read i.txns.items c.args.block c.index-waits_for.result.now within c.index-waits_for.ensures
    (record { 0 = 0 }) in
    let state = state-read i.free.words.items i.waiting.words.items i.txns.items i.unused i.reserved c.args.self.now
    c.args.block c.index-waits_for.result.now c.self.invariant c.self.view_is waiting read in
    settles-other c.args.t c.args.self.now c.args.block c.index-waits_for.result.now state c.if-waits_for-t.true

pub returns-then-waits_for-t-clause-marked : goal.returns-then-waits_for-t-clause-marked
returns-then-waits_for-t-clause-marked c =
    let i = c.self.inside in
    let waiting = sym (waits-read i.free.words.items i.waiting.words.items i.txns.items i.unused i.reserved
    c.args.self.now c.self.invariant c.self.view_is c.args.block) ∙ c.requires in
    let within = waiting-within i.free.words.items i.waiting.words.items i.txns.items i.unused i.reserved c.args.block
    c.self.invariant waiting in
    let read = get_or_read i.txns.items c.args.block c.index-waits_for.result.now within c.index-waits_for.ensures
    (record { 0 = 0 }) in
    let state = state-read i.free.words.items i.waiting.words.items i.txns.items i.unused i.reserved c.args.self.now
    c.args.block c.index-waits_for.result.now c.self.invariant c.self.view_is waiting read in
    marked-other c.args.self.now.states c.add.new.self.bits c.args.block c.index-waits_for.result.now state
    c.add.ensures.added

pub remove-requires : goal.remove-requires
remove-requires c =
    let i = c.self.inside in
    let waiting = sym (waits-read i.free.words.items i.waiting.words.items i.txns.items i.unused i.reserved
    c.args.self.now c.self.invariant c.self.view_is c.args.block) ∙ c.requires in
    let within = waiting-within i.free.words.items i.waiting.words.items i.txns.items i.unused i.reserved c.args.block
    c.self.invariant waiting in
    omega (arith, within, c.self.invariant.waits_room, i.waiting.words.ok.0)

pub insert-requires : goal.insert-requires
insert-requires c =
    let i = c.self.inside in
    let waiting = sym (waits-read i.free.words.items i.waiting.words.items i.txns.items i.unused i.reserved
    c.args.self.now c.self.invariant c.self.view_is c.args.block) ∙ c.requires in
    let within = waiting-within i.free.words.items i.waiting.words.items i.txns.items i.unused i.reserved c.args.block
    c.self.invariant waiting in
    omega (arith, within, c.self.invariant.room, i.free.words.ok.0)

pub overflow_add-self : goal.overflow_add-self
overflow_add-self c =
    let i = c.self.inside in
    let waiting = sym (waits-read i.free.words.items i.waiting.words.items i.txns.items i.unused i.reserved
    c.args.self.now c.self.invariant c.self.view_is c.args.block) ∙ c.requires in
    let words = c.insert.new.self.words in
    let waits = c.remove.new.self.words in
    let words_len : length words.items ≡ length i.free.words.items =
    omega (arith, words.ok.0, i.free.words.ok.0, c.insert.ensures.len) in
    let waits_len : length waits.items ≡ length i.waiting.words.items =
    omega (arith, waits.ok.0, i.waiting.words.ok.0, c.remove.ensures.len) in
    let held = held-freed i.free.words.items words.items i.waiting.words.items waits.items i.txns.items i.unused
    i.reserved c.args.block c.self.invariant waiting c.insert.ensures.set c.remove.ensures.set words_len waits_len in
    omega (
      arith,
      held.counted,
      held.few,
      count_by-le-length is_free (states_of words.items waits.items i.txns.items),
      length-states_of words.items waits.items i.txns.items,
    )

pub invariant_of-self-inside : goal.invariant_of-self-inside
invariant_of-self-inside c =
    let i = c.self.inside in
    let waiting = sym (waits-read i.free.words.items i.waiting.words.items i.txns.items i.unused i.reserved
    c.args.self.now c.self.invariant c.self.view_is c.args.block) ∙ c.requires in
    let words = c.insert.new.self.words in
    let waits = c.remove.new.self.words in
    let states = states-freed i.free.words.items words.items i.waiting.words.items waits.items i.txns.items i.unused
    i.reserved c.args.block c.self.invariant waiting c.insert.ensures.set c.remove.ensures.set in (
      rw states (marked-set (states_of i.free.words.items i.waiting.words.items i.txns.items) i.marks.bits c.args.block
          Free i.marked refl),
      tt,
    )

pub invariant_of-self : goal.invariant_of-self
invariant_of-self c =
    let i = c.self.inside in
    let waiting = sym (waits-read i.free.words.items i.waiting.words.items i.txns.items i.unused i.reserved
    c.args.self.now c.self.invariant c.self.view_is c.args.block) ∙ c.requires in
    let words = c.insert.new.self.words in
    let waits = c.remove.new.self.words in
    let words_len : length words.items ≡ length i.free.words.items =
    omega (arith, words.ok.0, i.free.words.ok.0, c.insert.ensures.len) in
    let waits_len : length waits.items ≡ length i.waiting.words.items =
    omega (arith, waits.ok.0, i.waiting.words.ok.0, c.remove.ensures.len) in
    held-freed i.free.words.items words.items i.waiting.words.items waits.items i.txns.items i.unused i.reserved
    c.args.block c.self.invariant waiting c.insert.ensures.set c.remove.ensures.set words_len waits_len

pub returns-clause-settled : goal.returns-clause-settled
returns-clause-settled c =
    let i = c.self.inside in
    let waiting = sym (waits-read i.free.words.items i.waiting.words.items i.txns.items i.unused i.reserved
    c.args.self.now c.self.invariant c.self.view_is c.args.block) ∙ c.requires in
    let within = waiting-within i.free.words.items i.waiting.words.items i.txns.items i.unused i.reserved c.args.block
    c.self.invariant waiting in
    let read = get_or_read i.txns.items c.args.block c.index-waits_for.result.now within c.index-waits_for.ensures
    (record { 0 = 0 }) in
    rw (← c.self.view_is) (settles-freed i.free.words.items c.insert.new.self.words.items i.waiting.words.items
    c.remove.new.self.words.items i.txns.items i.unused i.reserved c.args.block c.args.t c.self.invariant waiting
    c.insert.ensures.set c.remove.ensures.set (sym (ap (λ (u : Txn). u.0) read) ∙ c.if-waits_for-t.false))

pub returns-clause-marked : goal.returns-clause-marked
returns-clause-marked c =
    let words = c.insert.new.self.words.items in
    let waits = c.remove.new.self.words.items in
    let txns = c.self.inside.txns.items in
    marked-unwaiting (states_of words waits txns) c.args.marks.now.bits c.args.block (c.args.block + 1) (λ b from to.
    let here : b ≡ c.args.block = omega arith in
    rw here (unset-unwaiting words waits txns c.args.block
    (cleared-here (is_set c.self.inside.waiting.words.items) (is_set waits) c.args.block c.remove.ensures.set)))
