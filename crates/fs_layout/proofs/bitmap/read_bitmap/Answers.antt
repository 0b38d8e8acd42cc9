use Rattle.std.proofs.Common.{length, ap, sym, ◌∙◌}
use Rattle.fs_layout.specs.Bitmaps.{bitmap_spelling, IsBitImage}
use Rattle.fs_layout.specs.BitsOf.{bits_of}
use Rattle.fs_layout.proofs.ReadingLaws.{none_read}
use Rattle.fs_layout.proofs.BitmapLaws.{length-taken_block, length-bits_of, bitmap_read}
use Rattle.fs_layout.proofs.bitmap.read_bitmap.Goals as goal

pub returns-then-b-ne-BLOCK : goal.returns-then-b-ne-BLOCK
returns-then-b-ne-BLOCK c = none_read (IsBitImage c.args.device) bitmap_spelling _
    (λ y is spelled. c.if-b-ne-BLOCK.true (ap length spelled ∙ length-taken_block y.taken))

pub is_bitmap-is_read-requires-clause-bits : goal.is_bitmap-is_read-requires-clause-bits
is_bitmap-is_read-requires-clause-bits c =
    let is = c.deref.ensures.value ∙ c.in_ok-taken.ensures.bits in
    is ∙ ap (bits_of c.args.b.now) (sym (ap length is ∙ length-bits_of c.args.b.now c.args.device))

pub returns : goal.returns
returns c = rw (c.then_some.ensures, c.from_vec-taken.ensures) (bitmap_read c.args.b.now c.args.device
    c.in_ok-taken.taken.items _ c.requires.most c.in_ok-taken.ensures.bits (rw c.deref.ensures.value at
    c.is_bitmap-is_read.ensures))
