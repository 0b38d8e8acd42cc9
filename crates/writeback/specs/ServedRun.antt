-- Which run of pages writeback serves next, where a cache says which pages are dirty and files which have blocks.
use Rattle.std.specs.Prelude.{◌≡◌, ℕ, ◌+◌, ◌<◌, ◌≤◌, Bool, true, false, ◌&&◌, Option, Some, None, IsSome}
use Rattle.std.specs.Option.{option_and_then}
use Rattle.split_types.specs.declared.ids.Serial.{Serial}
use Rattle.split_types.specs.declared.buf.Buf.{Buf}
use Rattle.split_types.specs.declared.buf.Buf.TheVariants.{Page}
use Rattle.split_types.specs.declared.request.Run.{Run}
use Rattle.split_types.specs.LiveFiles.{LiveFile, Slots, file_at, slot_of_serial, block_of_page}
use Rattle.split_types.specs.ServedRuns.{are_apart}
use Rattle.small_fs.specs.Files.{Files}
use Rattle.page_cache.specs.Cached.{Cached, page_of, is_ready}
use Rattle.page_cache.specs.Changes.{IsReady, IsFirstReady}

-- each page that is dirty and not busy has a number that a page of a file can have, and its file is live
pub record CanServe (c : Cached) (fs : Files) : Type 0 where
  pub numbers : (s : Serial) (g : ℕ) → IsReady c (Page s g) → g < 1008
  pub files : (s : Serial) (g : ℕ) → IsReady c (Page s g) → IsSome (slot_of_serial fs.slots s)

-- the live file of a serial, if there is one
abbrev pub file_of : Slots → Serial → Option LiveFile
file_of slots s = option_and_then (file_at slots) (slot_of_serial slots s)

-- the block of page g of a file, if it has one
abbrev pub block_of : Files → Serial → ℕ → Option ℕ
block_of fs s g = option_and_then (λ f. block_of_page f g) (file_of fs.slots s)

-- the page k pages behind page g of a file goes on with the run that begins there: it is dirty and not busy, and either
-- both pages have no block, or their blocks are k blocks apart
abbrev pub goes_on : Cached → Files → Serial → ℕ → ℕ → Bool
goes_on c fs s g k = is_ready (page_of c (Page s (g + k))) && are_apart k (block_of fs s g) (block_of fs s (g + k))

-- the run begins at the first page that is dirty and not busy, it has at most 16 pages, all of them go on with it, and
-- where it has fewer than 16, the page behind its last one doesn't
pub record IsServedRun (c : Cached) (fs : Files) (run : Run) : Type 0 where
  pub first : IsFirstReady c (Page run.serial run.page)
  pub some : 1 ≤ run.n
  pub most : run.n ≤ 16
  pub goes : (k : ℕ) → k < run.n → goes_on c fs run.serial run.page k ≡ true
  pub stops : run.n < 16 → goes_on c fs run.serial run.page run.n ≡ false

-- the run that is served next; none exactly where no page is dirty and not busy
abbrev pub IsNextRun : Cached → Files → Option Run → Type 0
IsNextRun c fs None = (b : Buf) → ¬ IsReady c b
IsNextRun c fs (Some run) = IsServedRun c fs run
