-- The buffers that a walk looks for.
use Rattle.split_types.specs.declared.buf.Buf.{Buf}
use Rattle.split_types.specs.declared.buf.Buf.TheVariants as buf
use Rattle.provenance.specs.declared.target.Target.{Target}
use Rattle.provenance.specs.declared.target.Target.TheVariants as target

-- the buffer that a target is
abbrev pub buffer_of : Target → Buf
buffer_of (target.Page s g) = buf.Page s g
buffer_of target.Bitmap = buf.Bitmap
buffer_of (target.Dir k) = buf.Dir k
buffer_of (target.Inode slot) = buf.Inode slot
