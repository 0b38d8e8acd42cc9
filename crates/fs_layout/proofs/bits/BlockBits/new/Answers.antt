use Rattle.fs_layout.proofs.BitmapLaws.{length-bits_of}
use Rattle.fs_layout.proofs.BitsLaws.{no_bits}
use Rattle.fs_layout.proofs.bits.BlockBits.new.Goals as goal

pub returns-clause-len : goal.returns-clause-len
returns-clause-len c = length-bits_of _ 32768

pub returns-clause-none : goal.returns-clause-none
returns-clause-none c = λ i. no_bits _ i c.in_ok-zero_bytes.ensures.zeros
