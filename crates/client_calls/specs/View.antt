-- What a process sees.
use Rattle.std.specs.Prelude.{ℕ, ◌-◌, nat_le, Bool, Option, Some, None}
use Rattle.split_types.specs.declared.ids.ReqId.{ReqId}
use Rattle.split_types.specs.declared.request.Run.{Run}
use Rattle.split_types.specs.Pieces.{Piece, next_piece}
use Rattle.small_fs.specs.Files.{Files}
use Rattle.delayed_alloc.specs.Blocks.{Blocks}
use Rattle.page_cache.specs.Cached.{Cached, held_in, unsettled_in}
use Rattle.client_calls.specs.declared.progress.Progress.{Progress}

-- the cache; how many pages may be held; how many processes there are; the live files; the blocks of the disk; the run
-- that writeback has mapped and not added, if there is one; how far the process has come; whether the scheduler lets its
-- call in; of an fsync, whether what was put in its file is on the disk, and whether the file's last change is committed;
-- the number of requests so far
pub record View : Type 0 where
  pub cache : Cached
  pub places : ℕ
  pub n : ℕ
  pub files : Files
  pub blocks : Blocks
  pub mapped : Option Run
  pub progress : Progress
  pub may_admit : Bool
  pub flushable : Bool
  pub committed : Bool
  pub next_id : ReqId

-- all pages of the cache but one for each process, or more, are dirty or busy
abbrev pub is_crowded : View → Bool
is_crowded v = nat_le (v.places - v.n) (unsettled_in v.cache)

-- as many pages are held as may be
abbrev pub is_full : View → Bool
is_full v = nat_le v.places (held_in v.cache)

-- the first piece that is left of the call; none where none is left, or there is no call
abbrev pub piece_left : Progress → Option Piece
piece_left p = elim p.call [ None ↦ None | Some call ↦ next_piece call p.size_at_admit p.moved ]
