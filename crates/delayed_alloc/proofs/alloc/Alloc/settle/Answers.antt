use Rattle.std.proofs.Common.{◌≡◌, ◌+◌, ◌*◌, ◌≤◌, false, length, subst, sym, ◌∙◌, arith}
use Rattle.delayed_alloc.specs.Blocks.{Blocks}
use Rattle.delayed_alloc.specs.Held.{states_of}
use Rattle.delayed_alloc.specs.Marks.{is_marked, AllMarked}
use Rattle.delayed_alloc.proofs.SettleLaws.{waits-read, unmarked-settles, settles-next, settles-last, settles-all, marked-all}
use Rattle.delayed_alloc.proofs.alloc.Alloc.settle.Goals as goal

pub returns-then-not-has : goal.returns-then-not-has
returns-then-not-has c =
    let i = c.self.inside in
    let marked : AllMarked c.args.self.now.states i.marks.bits =
    subst (λ (a : Blocks). AllMarked a.states i.marks.bits) c.self.view_is i.marked in
    let off : is_marked i.marks.bits c.args.t ≡ false = sym c.has.ensures ∙ c.if-not-has.true in
    unmarked-settles c.args.t c.args.self.now i.marks.bits marked off

pub loop-at-preserved : goal.loop-at-preserved
loop-at-preserved c =
    let l = c.loop-at in
    let i = c.self-in-loop-at.inside in
    let at = c.in-Some.at in
    let low : l.from ≤ at = c.in-Some.ensures.from in
    let next : 64 * (at + 1) ≡ 64 * at + 64 = omega arith in
    let both = settles-next c.args.t c.args.self.now l.self c.settle_word.new.self l.marks.bits
    c.settle_word.new.marks.bits 0 (64 * l.from) (64 * at) (64 * at + 64) (omega arith) (omega arith) (omega arith)
    l.invariant.settled l.invariant.marked
    (λ b from to. waits-read i.free.words.items i.waiting.words.items i.txns.items i.unused i.reserved l.self
    c.self-in-loop-at.invariant c.self-in-loop-at.view_is b ∙ c.in-Some.ensures.passed b from to)
    c.settle_word.ensures.settled c.settle_word.ensures.marked c.settle_word.ensures.kept in
    record {
      settled = rw next both.0;
      marked = rw next both.1;
    }

pub invariant_of-self-inside : goal.invariant_of-self-inside
invariant_of-self-inside c =
    let l = c.loop-at in
    let i = c.self-2.inside in
    let was = c.self-in-loop-at.inside in
    let states = states_of i.free.words.items i.waiting.words.items i.txns.items in
    let both = settles-last c.args.t c.args.self.now l.self l.marks.bits 0 (64 * l.from)
    (64 * l.from + length states) (omega arith) (omega arith) l.invariant.settled l.invariant.marked
    (λ b from to. waits-read was.free.words.items was.waiting.words.items was.txns.items was.unused was.reserved l.self
    c.self-in-loop-at.invariant c.self-in-loop-at.view_is b ∙ c.in_default.ensures.none b from) in
    let marked = rw (← c.self-2.view_is) at both.1 in
    (marked-all states l.marks.bits (64 * l.from + length states) (omega arith) marked, tt)

pub returns : goal.returns
returns c =
    let l = c.loop-at in
    let was = c.self-in-loop-at.inside in
    let old = c.args.self.now in
    let both = settles-last c.args.t old l.self l.marks.bits 0 (64 * l.from)
    (64 * l.from + length old.states) (omega arith) (omega arith) l.invariant.settled l.invariant.marked
    (λ b from to. waits-read was.free.words.items was.waiting.words.items was.txns.items was.unused was.reserved l.self
    c.self-in-loop-at.invariant c.self-in-loop-at.view_is b ∙ c.in_default.ensures.none b from) in
    c.self-2.view_is ∙ settles-all c.args.t old l.self (64 * l.from + length old.states) both.0 (omega arith)
