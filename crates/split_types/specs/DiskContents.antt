-- What the disk holds of the pages of files in every history that a workload may have, and what the requests carry that
-- write them.
use Rattle.std.specs.Prelude.{◌≡◌, ℕ, ◌-◌, ◌<◌, ◌≤◌, List, length, slice_get, true, Some, IsTrue, IsFalse}
use Rattle.split_types.specs.declared.ids.ReqId.{ReqId}
use Rattle.split_types.specs.declared.ids.Serial.{Serial}
use Rattle.split_types.specs.declared.buf.Buf.TheVariants.{Page}
use Rattle.split_types.specs.declared.request.Request.{Request}
use Rattle.split_types.specs.declared.workload.Workload.{Workload}
use Rattle.split_types.specs.declared.event.Event.{Event}
use Rattle.split_types.specs.declared.event.Event.TheVariants.{Done}
use Rattle.split_types.specs.History.{◌▹◌, adds}
use Rattle.split_types.specs.Hooks.{covers}
use Rattle.split_types.specs.Workloads.{first_block}
use Rattle.split_types.specs.Requests.{unfinished}
use Rattle.split_types.specs.Files.{is_live}
use Rattle.split_types.specs.Pages.{is_dirty}
use Rattle.split_types.specs.Reads.{is_read_of, is_loading}
use Rattle.split_types.specs.HeldPages.{is_unsettled}
use Rattle.split_types.specs.FileMaps.{mapped_block}
use Rattle.split_types.specs.PageBytes.{page_bytes}
use Rattle.split_types.specs.DiskBytes.{carried, start_block, adding, writes, disk_block}
use Rattle.split_types.specs.Accepted.{IsAccepted}
use Rattle.split_types.specs.Legal.{IsLegal}

-- ---- pages and their blocks

-- the request writes these bytes to block x: what it carries there is by the history before its add
pub record IsCarried (w : Workload) (h : List Event) (r : Request) (x : ℕ) (bytes : List ℕ) : Type 0 where
  pub before : List Event
  pub added : adding h r.id ≡ Some (record { request = r; before = before })
  pub written : IsTrue (writes r x)
  pub bytes_are : carried w before r (x - r.first) ≡ bytes

-- what is known of page g of a file that is there, whose block is x
pub record IsOnDisk (w : Workload) (h : List Event) (s : Serial) (g x : ℕ) : Type 0 where
  -- where the page is neither dirty nor busy its block holds its bytes
  pub clean : IsFalse (is_unsettled w h (Page s g)) → disk_block w h x ≡ page_bytes w h s g
  -- where it is busy and not dirty a request that writes it, and isn't done well, carries its bytes
  pub busy : (k : ℕ) (r : Request) → IsFalse (is_dirty w h (Page s g)) → slice_get (unfinished h) k ≡ Some r
      → IsTrue (covers r (Page s g)) → IsCarried w h r x (page_bytes w h s g)
  -- while it is loading it is neither dirty nor busy
  pub settled : IsTrue (is_loading w h (Page s g)) → IsFalse (is_unsettled w h (Page s g))
  -- so a read of it finds its bytes when it is done
  pub found : (k : ℕ) (id : ReqId) → IsLegal w (h ▹ Done k id true) → IsTrue (is_read_of h id (Page s g))
      → disk_block w h x ≡ page_bytes w h s g

-- in every history that an accepted workload may have: what is known of each page that has a block and whose file is
-- there; a block of data that no page of any file ever had keeps what it held at the start; each block of data is whole
pub record CleanPagesAreOnDisk : Type 0 where
  pub pages : (w : Workload) (h : List Event) (s : Serial) (g x : ℕ) → IsAccepted w → IsLegal w h
      → IsTrue (is_live w h s.0) → mapped_block w h s.0 g ≡ Some x → IsOnDisk w h s g x
  pub others : (w : Workload) (h : List Event) (x : ℕ) → IsAccepted w → IsLegal w h → first_block w ≤ x
      → ((s : Serial) (g : ℕ) → mapped_block w h s.0 g ≡ Some x → ⊥) → disk_block w h x ≡ start_block w x
  pub whole : (w : Workload) (h : List Event) (x : ℕ) → IsAccepted w → IsLegal w h → first_block w ≤ x
      → length (disk_block w h x) ≡ 4096

-- ---- requests that write

-- what a request carries is settled at its add, whatever comes later; and of the requests that aren't done well no two
-- write one block
pub record WritesStayApart : Type 0 where
  pub kept : (w : Workload) (h : List Event) (e : Event) (id : ReqId) → IsLegal w (h ▹ e) → id.0 < adds h
      → adding (h ▹ e) id ≡ adding h id
  pub apart : (w : Workload) (h : List Event) (x i j : ℕ) (q r : Request) → IsAccepted w → IsLegal w h
      → slice_get (unfinished h) i ≡ Some q → slice_get (unfinished h) j ≡ Some r → IsTrue (writes q x)
      → IsTrue (writes r x) → i ≡ j
