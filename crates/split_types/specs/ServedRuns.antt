-- Runs of pages and of blocks, in files that grow: which pages writeback serves together, and which blocks it maps.
use Rattle.std.specs.Prelude.{ℕ, ◌+◌, ◌==◌, List, [], ◌∷◌, length, filter, take_while, nat_le, nat_lt, Bool, true, false, ◌&&◌, ◌||◌, Option, Some, None, if◌then◌else◌}
use Rattle.std.specs.List.{list_any, range_with_len}
use Rattle.split_types.specs.declared.ids.Serial.{Serial}
use Rattle.split_types.specs.declared.buf.Buf.{Buf}
use Rattle.split_types.specs.declared.buf.Buf.TheVariants.{Page}
use Rattle.split_types.specs.declared.request.Run.{Run}
use Rattle.split_types.specs.declared.workload.Workload.{Workload}
use Rattle.split_types.specs.declared.event.Event.{Event}
use Rattle.split_types.specs.Pages.{is_ready}
use Rattle.split_types.specs.HeldPages.{known_pages}
use Rattle.split_types.specs.FileMaps.{mapped_block, free_blocks}

-- the one page isn't behind the other, by file and then by page
abbrev pub is_up_to : Buf → Buf → Bool
is_up_to (Page s g) (Page t k) = nat_lt s.0 t.0 || (s.0 == t.0 && nat_le g k)
is_up_to _ _ = false

-- of a page and another, where there is one, the first by file and then by page
abbrev pub lesser_page : Buf → Option Buf → Option Buf
lesser_page b None = Some b
lesser_page b (Some c) = if is_up_to b c then Some b else Some c

-- the first page of some
abbrev pub least_page : List Buf → Option Buf
least_page [] = None
least_page (b ∷ bufs) = lesser_page b (least_page bufs)

-- the first page that writeback may serve
abbrev pub first_ready : Workload → List Event → Option Buf
first_ready w h = least_page (filter (is_ready w h) (known_pages h))

-- two pages, k pages apart, both have no block, or have blocks that are k blocks apart
abbrev pub are_apart : ℕ → Option ℕ → Option ℕ → Bool
are_apart k None None = true
are_apart k (Some x) (Some y) = y == x + k
are_apart k _ _ = false

-- the page k pages behind page g of a file goes on with the run that begins there
abbrev pub goes_on : Workload → List Event → Serial → ℕ → ℕ → Bool
goes_on w h s g k =
    is_ready w h (Page s (g + k)) && are_apart k (mapped_block w h s.0 g) (mapped_block w h s.0 (g + k))

-- the run that begins at a page: at most 16 pages, all of which may be served, without blocks or with blocks in a row
abbrev pub run_from : Workload → List Event → Buf → Option Run
run_from w h (Page s g) =
    Some (record { serial = s; page = g; n = length (take_while (goes_on w h s g) (range_with_len 0 16)) })
run_from w h _ = None

-- the run that writeback serves next; none where no page may be served
abbrev pub run_to_serve : Workload → List Event → Option Run
run_to_serve w h = elim (first_ready w h) [ None ↦ None | Some b ↦ run_from w h b ]

-- the blocks that some pages get: the least free block, and how many, at most n, are free from there on
pub record FreeRun : Type 0 where
  pub first : ℕ
  pub n : ℕ

-- how many of these rising blocks, at most n, stand in a row from this one on
abbrev pub in_a_row : List ℕ → ℕ → ℕ → ℕ
in_a_row blocks first n =
    length (take_while (λ k. list_any (λ x. x == first + k) blocks) (range_with_len 0 n))

abbrev pub free_run_of : List ℕ → ℕ → Option FreeRun
free_run_of [] n = None
free_run_of (x ∷ blocks) n = Some (record { first = x; n = in_a_row (x ∷ blocks) x n })

-- the run of free blocks for at most n pages; none where no block is free
abbrev pub free_run : Workload → List Event → ℕ → Option FreeRun
free_run w h n = free_run_of (free_blocks w h) n
