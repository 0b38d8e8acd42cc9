-- The buffers that an event dirties, frees and writes out, and the actor that makes it.
use Rattle.std.specs.Prelude.{ℕ, ◌+◌, ◌/◌, ◌==◌, List, [], ◌∷◌, Bool, true, false, ◌&&◌, nat_le, nat_lt, Option, Some, None}
use Rattle.std.specs.List.{list_any}
use Rattle.split_types.specs.declared.ids.Serial.{Serial}
use Rattle.split_types.specs.declared.buf.Buf.{Buf}
use Rattle.split_types.specs.declared.buf.Buf.TheVariants.{Page, Bitmap, Dir, Inode}
use Rattle.split_types.specs.declared.actor.Actor.{Actor}
use Rattle.split_types.specs.declared.actor.Actor.TheVariants.{Client, Wb, Cm, Dq, Dn, Tk}
use Rattle.split_types.specs.declared.request.ReqKind.{ReqKind}
use Rattle.split_types.specs.declared.request.ReqKind.TheVariants.{Pages}
use Rattle.split_types.specs.declared.request.Request.{Request}
use Rattle.split_types.specs.declared.event.Event.{Event}
use Rattle.split_types.specs.declared.event.Event.TheVariants.{Enter, Admit, Make, Put, Get, Drop, Flushed, Ret, Serve, Map, Skip, Seal, Add, Send, Done, Evict, Tick}

-- the buffers that an event dirties
abbrev pub dirties : Event → List Buf
dirties (Make by slot serial) = Dir (slot.0 / 64) ∷ Inode slot ∷ []
dirties (Put by serial page from to fill) = Page serial page ∷ []
dirties (Drop by slot serial) = Dir (slot.0 / 64) ∷ Inode slot ∷ Bitmap ∷ []
dirties (Map slot serial page n block true size) = Inode slot ∷ Bitmap ∷ []
dirties (Map slot serial page n block false size) = Inode slot ∷ []
dirties _ = []

-- the file of which an event frees all pages
abbrev pub freed_file : Event → Option Serial
freed_file (Drop by slot serial) = Some serial
freed_file _ = None

-- the actor that makes an event
abbrev pub maker : Event → Actor
maker (Enter by k) = Client by
maker (Admit by) = Client by
maker (Make by slot serial) = Client by
maker (Put by serial page from to fill) = Client by
maker (Get by serial page from to sum) = Client by
maker (Drop by slot serial) = Client by
maker (Flushed by) = Client by
maker (Ret by reply) = Client by
maker (Serve serial page n) = Wb
maker (Map slot serial page n block new size) = Wb
maker Skip = Wb
maker (Seal t k) = Cm
maker (Add by r) = by
maker (Send id cost) = Dq
maker (Done k id ok) = Dn k
maker (Evict by serial page) = Client by
maker (Tick d) = Tk

-- the two are one buffer
abbrev pub same_buf : Buf → Buf → Bool
same_buf (Page s g) (Page t k) = s.0 == t.0 && g == k
same_buf Bitmap Bitmap = true
same_buf (Dir k) (Dir j) = k == j
same_buf (Inode s) (Inode t) = s.0 == t.0
same_buf _ _ = false

-- the buffer is a block of metadata
abbrev pub is_metadata : Buf → Bool
is_metadata (Page s g) = false
is_metadata _ = true

-- the buffer is one of the n pages of a file from this page on
abbrev pub is_among : Serial → ℕ → ℕ → Buf → Bool
is_among s g n (Page t k) = s.0 == t.0 && nat_le g k && nat_lt k (g + n)
is_among s g n _ = false

-- the request writes the buffer as a page of a file
abbrev pub covers : Request → Buf → Bool
covers r b = covers_by r.kind r.n b where
  covers_by : ReqKind → ℕ → Buf → Bool
  covers_by (Pages s g) n c = is_among s g n c
  covers_by _ n c = false

-- the event dirties the buffer
abbrev pub is_dirtied : Event → Buf → Bool
is_dirtied e b = list_any (same_buf b) (dirties e)

-- the event frees the buffer: it drops the file of which the buffer is a page
abbrev pub is_freed : Event → Buf → Bool
is_freed (Drop by slot serial) (Page s g) = serial.0 == s.0
is_freed _ _ = false

-- the event takes the buffer to be written out: a request for pages takes these pages, a seal all metadata
abbrev pub is_out : Event → Buf → Bool
is_out (Add by r) b = covers r b
is_out (Seal t k) b = is_metadata b
is_out _ b = false
