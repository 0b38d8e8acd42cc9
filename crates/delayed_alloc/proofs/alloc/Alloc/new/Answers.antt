use Rattle.std.proofs.Common.{◌≡◌, ◌+◌, ◌-◌, ◌*◌, ◌^◌, ◌<◌, ◌≤◌, ℕ, length, arith, ◌∙◌, ap}
use Rattle.std.specs.Prelude.{nat_le, nat_lt, ◌&&◌}
use Rattle.delayed_alloc.specs.Bits.{is_set}
use Rattle.delayed_alloc.proofs.SettleLaws.{marked-none}
use Rattle.delayed_alloc.proofs.TurnLaws.{range-more, held-started, states-started}
use Rattle.delayed_alloc.proofs.alloc.Alloc.new.Goals as goal

pub loop-block-preserved : goal.loop-block-preserved
loop-block-preserved c = record {
  bits = λ k. c.insert.ensures.set k ∙ rw (c.loop-block.invariant.bits k)
      (range-more (526 + c.args.used) c.loop-block.block k c.loop-block.auto.block);
  len = c.insert.ensures.len ∙ c.loop-block.invariant.len;
}

pub invariant_of-result : goal.invariant_of-result
invariant_of-result c = (
  marked-none c.loop-block.free.words.items c.in_ok-new.field-0.words.items c.in_ok-vec.field-0.items _
      c.in_ok-new.ensures.empty,
  tt,
)

pub invariant_of-result-2 : goal.invariant_of-result-2
invariant_of-result-2 c =
    let words = c.loop-block.free.words in
    let device = c.args.device in
    let end : c.loop-block.block ≡ device = omega (
      arith,
      c.loop-block.auto.block-end,
      c.loop-block-test.false,
      c.requires,
    ) in
    let bits : (k : ℕ) → is_set words.items k ≡ (nat_le (526 + c.args.used) k && nat_lt k device) =
    λ k. c.loop-block.invariant.bits k ∙ ap (λ b. nat_le (526 + c.args.used) k && nat_lt k b) end in
    let room : device ≤ 64 * length words.items = omega (
      arith,
      words.ok.0,
      c.loop-block.invariant.len,
      c.in_ok-free.ensures.room,
    ) in
    let few : device < 2 ^ 32 = omega arith in
    let unused : device - 526 - c.args.used ≡ device - (526 + c.args.used) = omega arith in
    let waits = c.in_ok-new.field-0.words in
    let waits_room : device ≤ 64 * length waits.items = omega (arith, waits.ok.0, c.in_ok-new.ensures.room) in
    rw (c.in_ok-vec.ensures.items_if_clones_equal (λ y same. same), unused)
    (held-started words.items waits.items device (526 + c.args.used) c.requires few room waits_room bits
    c.in_ok-new.ensures.empty)

pub returns : goal.returns
returns c =
    let words = c.loop-block.free.words in
    let device = c.args.device in
    let end : c.loop-block.block ≡ device = omega (
      arith,
      c.loop-block.auto.block-end,
      c.loop-block-test.false,
      c.requires,
    ) in
    let bits : (k : ℕ) → is_set words.items k ≡ (nat_le (526 + c.args.used) k && nat_lt k device) =
    λ k. c.loop-block.invariant.bits k ∙ ap (λ b. nat_le (526 + c.args.used) k && nat_lt k b) end in
    rw (c.in_ok-vec.ensures.items_if_clones_equal (λ y same. same))
    (states-started words.items c.in_ok-new.field-0.words.items device (526 + c.args.used) c.requires bits
    c.in_ok-new.ensures.empty)
