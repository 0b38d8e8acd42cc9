use Rattle.std.proofs.Common.{◌+◌, ◌*◌, ◌<◌, ◌∙◌, arith}
use Rattle.delayed_alloc.proofs.SettleLaws.{waits-read, word-start, word-waits, word-step, word-end}
use Rattle.delayed_alloc.proofs.alloc.Alloc.settle_word.Goals as goal

pub loop-rest-init : goal.loop-rest-init
loop-rest-init c =
    let i = c.self.inside in
    word-start c.args.t c.args.self.now c.args.marks.now.bits c.args.at c.word-rest.result c.word-rest.ensures.fits
    (λ k low. waits-read i.free.words.items i.waiting.words.items i.txns.items i.unused i.reserved c.args.self.now
    c.self.invariant c.self.view_is (64 * c.args.at + k) ∙ c.word-rest.ensures.bits k low)

pub settle_block-requires : goal.settle_block-requires
settle_block-requires c =
    let l = c.loop-rest in
    let some : 0 < l.rest = omega (arith, c.loop-rest-test.true) in
    word-waits c.args.t c.args.self.now l.self c.args.marks.now.bits c.args.at l.marks.bits l.block l.rest
    c.lowest_bit-zeros.result l.invariant some c.lowest_bit-zeros.ensures.fits c.lowest_bit-zeros.ensures.place

pub loop-rest-preserved : goal.loop-rest-preserved
loop-rest-preserved c =
    let l = c.loop-rest in
    let some : 0 < l.rest = omega (arith, c.loop-rest-test.true) in
    rw c.bits_from-rest.ensures.value
    (word-step c.args.t c.args.self.now l.self c.args.marks.now.bits c.args.at l.marks.bits l.block l.rest
    c.lowest_bit-zeros.result l.invariant some c.lowest_bit-zeros.ensures.fits c.lowest_bit-zeros.ensures.place
    c.settle_block.new.self c.settle_block.new.marks.bits c.settle_block.ensures.settled c.settle_block.ensures.marked
    c.settle_block.ensures.kept)

pub returns-clause-settled : goal.returns-clause-settled
returns-clause-settled c =
    let l = c.loop-rest in
    (word-end c.args.t c.args.self.now l.self c.args.marks.now.bits c.args.at l.marks.bits l.block l.rest l.invariant
    c.loop-rest-test.false).0

pub returns-clause-marked : goal.returns-clause-marked
returns-clause-marked c =
    let l = c.loop-rest in
    (word-end c.args.t c.args.self.now l.self c.args.marks.now.bits c.args.at l.marks.bits l.block l.rest l.invariant
    c.loop-rest-test.false).1
