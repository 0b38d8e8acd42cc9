use Rattle.std.proofs.Common.{sym, ◌∙◌, arith}
use Rattle.fs_layout.proofs.BitmapLaws.{bits_none, bits_more}
use Rattle.fs_layout.proofs.bitmap.bits_of.Goals as goal

pub loop-i-init : goal.loop-i-init
loop-i-init c = record {
  bits = c.in_ok-bits.ensures.items ∙ sym (bits_none c.args.b.now);
  len = c.in_ok-bits.ensures.len;
  capacity = c.in_ok-bits.ensures.exact;
}

pub loop-i-preserved : goal.loop-i-preserved
loop-i-preserved c = record {
  bits = rw (c.push_reserved.ensures.items, c.loop-i.invariant.bits, c.bit_of.ensures)
      (sym (bits_more c.args.b.now c.loop-i.i));
  len = omega (arith, c.push_reserved.ensures.len);
  capacity = c.push_reserved.ensures.capacity ∙ c.loop-i.invariant.capacity;
}
