-- The block of a page, whether one can be promised to it, and whether writeback has just given it one.
use Rattle.std.specs.Prelude.{ℕ, Bool, false, not, ◌&&◌, nat_le, nat_lt, Option, Some, None, is_some, is_none, if◌then◌else◌}
use Rattle.split_types.specs.declared.ids.Serial.{Serial}
use Rattle.split_types.specs.declared.buf.Buf.{Buf}
use Rattle.split_types.specs.declared.buf.Buf.TheVariants.{Page}
use Rattle.split_types.specs.declared.request.Run.{Run}
use Rattle.split_types.specs.Hooks.{is_among}
use Rattle.split_types.specs.LiveFiles.{LiveFile, Slots, file_at, slot_of_serial, block_of_page}
use Rattle.delayed_alloc.specs.Blocks.{Blocks, free_count}
use Rattle.page_cache.specs.Held.{Held}
use Rattle.page_cache.specs.Cached.{page_of, tag_in}
use Rattle.client_calls.specs.View.{View}

-- the block of a page of a file, if there is one; a page beyond the 1,008 that a file can have has none
abbrev pub block_in : Option LiveFile → ℕ → Option ℕ
block_in None page = None
block_in (Some f) page = if nat_lt page 1008 then block_of_page f page else None

-- the block of a page of the file of a slot
abbrev pub block_at : Slots → ℕ → ℕ → Option ℕ
block_at slots slot page = block_in (file_at slots slot) page

-- the block of a page of the file of a serial; none where no such file is there
abbrev pub block_of : Slots → Serial → ℕ → Option ℕ
block_of slots serial page =
    elim (slot_of_serial slots serial) [ None ↦ None | Some slot ↦ block_at slots slot page ]

-- a page is dirty
abbrev pub is_dirty : Option Held → Bool
is_dirty x = is_some (tag_in x)

-- all free blocks are promised
abbrev pub is_used_up : Blocks → Bool
is_used_up a = nat_le (free_count a) a.reserved

-- the page has no block and none is promised to it, as one is while it is dirty, and all free blocks are promised
abbrev pub is_without_space : View → Serial → ℕ → Bool
is_without_space v serial page =
    is_none (block_of v.files.slots serial page)
    && not (is_dirty (page_of v.cache (Page serial page)))
    && is_used_up v.blocks

-- the buffer is a page of the run, if there is one
abbrev pub is_in_run : Option Run → Buf → Bool
is_in_run None b = false
is_in_run (Some run) b = is_among run.serial run.page run.n b
