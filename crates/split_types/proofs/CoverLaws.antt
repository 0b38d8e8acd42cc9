-- The pages of files and their blocks, and which of them a request covers, writes and carries.
use Rattle.std.proofs.Common.{◌≡◌, ℕ, ◌+◌, ◌-◌, ◌<◌, ◌≤◌, List, slice_get, nat_le, nat_lt, true, false, ◌&&◌, Some, refl, arith, subst, sym, inl, inr, ap, ◌∙◌}
use Rattle.std.proofs.lemmas.Bool.{both_ways, and_parts, and_from, or_left, le-leb, lt-ltb, leb-true, ltb-true, false_from_ne_true}
use Rattle.std.proofs.lemmas.Bool.Decides.{nat_tests}
use Rattle.std.proofs.lemmas.Option.{same_Some}
use Rattle.split_types.specs.declared.ids.Pid.{Pid}
use Rattle.split_types.specs.declared.ids.Serial.{Serial}
use Rattle.split_types.specs.declared.buf.Buf.{Buf}
use Rattle.split_types.specs.declared.buf.Buf.TheVariants.{Page}
use Rattle.split_types.specs.declared.request.ReqKind.TheVariants.{Read, Pages}
use Rattle.split_types.specs.declared.request.Request.{Request}
use Rattle.split_types.specs.declared.workload.Workload.{Workload}
use Rattle.split_types.specs.declared.event.Event.{Event}
use Rattle.split_types.specs.Hooks.{covers, is_among}
use Rattle.split_types.specs.Requests.{is_write, unfinished}
use Rattle.split_types.specs.Transactions.{is_of_commit}
use Rattle.split_types.specs.Workloads.{first_block}
use Rattle.split_types.specs.Files.{is_live}
use Rattle.split_types.specs.FileMaps.{mapped_block, is_going}
use Rattle.split_types.specs.PageBytes.{page_bytes}
use Rattle.split_types.specs.DiskBytes.{carried, writes}
use Rattle.split_types.specs.FilesInOrder.{all_files}
use Rattle.split_types.specs.MapsInOrder.{keeps_blocks}
use Rattle.split_types.specs.Accepted.{IsAccepted}
use Rattle.split_types.specs.Legal.{IsLegal}
use Rattle.split_types.specs.Proving.Runs.{MovesPages, MovesRun}
use Rattle.split_types.specs.Proving.Known.{HasRun}
use Rattle.split_types.proofs.MapLaws.{maps_of}
use Rattle.split_types.proofs.KnownLaws.{maps_known}
use Rattle.split_types.proofs.MapState.{keeps_is}
use Rattle.split_types.proofs.PagesKeep.{pages_keep}
use Rattle.split_types.proofs.JournalAdds.{covers_moves}

-- ---- what a request covers and what it writes
covers_pages : (r : Request) (s : Serial) (g : ℕ) (b : Buf) → r.kind ≡ Pages s g → covers r b ≡ is_among s g r.n b
covers_pages r s g b kind = rw kind refl

covers_none : (r : Request) (by : Pid) (s : Serial) (g : ℕ) (b : Buf) → r.kind ≡ Read by s g → covers r b ≡ false
covers_none r by s g b kind = rw kind refl

is_write_pages : (r : Request) (s : Serial) (g : ℕ) → r.kind ≡ Pages s g → is_write r ≡ true
is_write_pages r s g kind = rw kind refl

is_write_none : (r : Request) (by : Pid) (s : Serial) (g : ℕ) → r.kind ≡ Read by s g → is_write r ≡ false
is_write_none r by s g kind = rw kind refl

carried_pages : (w : Workload) (h : List Event) (r : Request) (s : Serial) (g i : ℕ) → r.kind ≡ Pages s g
    → carried w h r i ≡ page_bytes w h s (g + i)
carried_pages w h r s g i kind = rw kind refl

-- the request moves pages that files have after h, in their blocks
abbrev pub MovesIn : Workload → List Event → Request → Type 0
MovesIn w h r = MovesRun (all_files w h) (mapped_block w h) r

-- the request writes pages of a file from this one on, and page g is one of them; x is its block
pub record IsCovered (r : Request) (s : Serial) (g x : ℕ) : Type 0 where
  pub start : ℕ
  pub kind : r.kind ≡ Pages s start
  pub low : start ≤ g
  pub high : g < start + r.n
  pub place : x ≡ r.first + (g - start)

pub among_parts : (s t : Serial) (g n k : ℕ) → is_among s g n (Page t k) ≡ true → (s.0 ≡ t.0) × (g ≤ k) × (k < g + n)
among_parts s t g n k is = grind (arith, nat_tests)

among_from : (s : Serial) (g n k : ℕ) → g ≤ k → k < g + n → is_among s g n (Page s k) ≡ true
among_from s g n k low high = grind (arith, nat_tests)

pub covered : (w : Workload) (h : List Event) (r : Request) (s : Serial) (g x : ℕ) → HasRun w h r
    → mapped_block w h s.0 g ≡ Some x → covers r (Page s g) ≡ true → IsCovered r s g x
covered w h r s g x (inr j) at is =
    absurd (both_ways (is_of_commit r) (covers_moves r (Page s g) is) j.commits)
covered w h r s g x (inl run) at is = by_kind run.kind
  where
    of_pages : (t : Serial) (k : ℕ) → t ≡ s → k ≡ g → r.kind ≡ Pages t run.page → run.page ≤ g → g < run.page + r.n
        → mapped_block w h t.0 k ≡ Some (r.first + (g - run.page)) → IsCovered r s g x
    of_pages t k same page kind low high place = record {
      start = run.page;
      kind = kind ∙ ap (λ u. Pages u run.page) same;
      low = low;
      high = high;
      place =
          same_Some x (r.first + (g - run.page))
          (sym at
          ∙ ap (λ u. mapped_block w h u.0 g) (sym same)
          ∙ ap (λ j. mapped_block w h t.0 j) (sym page)
          ∙ place);
    }

    by_kind : MovesPages r.kind run.serial run.page → IsCovered r s g x
    by_kind (inr (by, kind)) =
        absurd (both_ways (covers r (Page s g)) (covers_none r by run.serial run.page (Page s g) kind) is)
    by_kind (inl kind) =
        let parts =
        among_parts run.serial s run.page r.n g (sym (covers_pages r run.serial run.page (Page s g) kind) ∙ is)
        in of_pages run.serial (run.page + (g - run.page)) (ap (λ n. record { 0 = n }) parts.0)
        (omega (arith, parts)) kind parts.1 parts.2 (run.place (g - run.page) (omega (arith, parts)))

-- the request writes the block of the page, and carries there what the page is before its add
pub writes_covered : (r : Request) (s : Serial) (g x : ℕ) → IsCovered r s g x → writes r x ≡ true
writes_covered r s g x c =
    and_from (is_write r && nat_le r.first x) (nat_lt x (r.first + r.n))
    (and_from (is_write r) (nat_le r.first x) (is_write_pages r s c.start c.kind)
    (le-leb r.first x (omega (arith, c.place))))
    (lt-ltb x (r.first + r.n) (omega (arith, c.place, c.low, c.high)))

pub carried_covered : (w : Workload) (before : List Event) (r : Request) (s : Serial) (g x : ℕ) → IsCovered r s g x
    → carried w before r (x - r.first) ≡ page_bytes w before s g
carried_covered w before r s g x c =
    carried_pages w before r s c.start (x - r.first) c.kind
    ∙ ap (page_bytes w before s) (omega (arith, c.place, c.low))

-- what a request that writes block x writes there: a page that it covers
pub record IsWritten (w : Workload) (h : List Event) (r : Request) (x : ℕ) : Type 0 where
  pub serial : Serial
  pub page : ℕ
  pub covers_it : covers r (Page serial page) ≡ true
  pub at : mapped_block w h serial.0 page ≡ Some x

-- the blocks that a request writes are those of its run
pub write_tests : (r : Request) (x : ℕ) → writes r x ≡ true
    → (is_write r ≡ true) × (r.first ≤ x) × (x < r.first + r.n)
write_tests r x is =
    let outer = and_parts (is_write r && nat_le r.first x) (nat_lt x (r.first + r.n)) is
    in let inner = and_parts (is_write r) (nat_le r.first x) outer.0
    in (inner.0, leb-true r.first x inner.1, ltb-true x (r.first + r.n) outer.1)

-- a request that moves pages writes one in each of its blocks
pub moved : (w : Workload) (h : List Event) (r : Request) (x : ℕ) → MovesIn w h r → writes r x ≡ true
    → IsWritten w h r x
moved w h r x run is = by_kind run.kind
  where
    tests : (is_write r ≡ true) × (r.first ≤ x) × (x < r.first + r.n)
    tests = write_tests r x is

    by_kind : MovesPages r.kind run.serial run.page → IsWritten w h r x
    by_kind (inr (by, kind)) =
        absurd (both_ways (is_write r) (is_write_none r by run.serial run.page kind) tests.0)
    by_kind (inl kind) =
        record {
          serial = run.serial;
          page = run.page + (x - r.first);
          covers_it =
              covers_pages r run.serial run.page (Page run.serial (run.page + (x - r.first))) kind
              ∙ among_from run.serial run.page r.n (run.page + (x - r.first)) (omega arith) (omega (arith, tests));
          at = run.place (x - r.first) (omega (arith, tests)) ∙ ap Some (omega (arith, tests));
        }

-- whatever request writes a block of data writes a page there
pub written : (w : Workload) (h : List Event) (r : Request) (x : ℕ) → HasRun w h r → first_block w ≤ x
    → writes r x ≡ true → IsWritten w h r x
written w h r x (inl run) from is = moved w h r x run is
written w h r x (inr j) from is = absurd (omega (arith, j.within, from, write_tests r x is))

-- pages of files that keep their blocks, and that have one block, are one page
pub same_page : (w : Workload) (h : List Event) (s : Serial) (g : ℕ) (t : Serial) (k x : ℕ) → IsAccepted w
    → IsLegal w h → keeps_blocks w h s.0 ≡ true → keeps_blocks w h t.0 ≡ true → mapped_block w h s.0 g ≡ Some x
    → mapped_block w h t.0 k ≡ Some x → ◌≡◌ {A = Buf} (Page s g) (Page t k)
same_page w h s g t k x accepted legal keeps also at there =
    let same =
    (maps_of w h accepted legal).blocks.apart s.0 t.0 g k x at there (keeps_is w h s.0 ∙ keeps)
    (keeps_is w h t.0 ∙ also)
    in ap (λ n. Page (record { 0 = n }) g) same.0 ∙ ap (Page t) same.1

-- the block of a page is one of data
pub block_from : (w : Workload) (h : List Event) (s g x : ℕ) → IsAccepted w → IsLegal w h
    → mapped_block w h s g ≡ Some x → first_block w ≤ x
block_from w h s g x accepted legal at = ((maps_known.maps w h accepted legal).placed s g x at).from

-- an unfinished request that doesn't cover a page of a file that is there doesn't write its block
pub writes_other : (w : Workload) (h : List Event) (i : ℕ) (r : Request) (s : Serial) (g x : ℕ) → IsAccepted w
    → IsLegal w h → slice_get (unfinished h) i ≡ Some r → HasRun w h r → is_live w h s.0 ≡ true
    → mapped_block w h s.0 g ≡ Some x → covers r (Page s g) ≡ false → writes r x ≡ false
writes_other w h i r s g x accepted legal left run live at none =
    false_from_ne_true (writes r x) (λ is. (let there = written w h r x run (block_from w h s.0 g x accepted legal at) is
    in let keeps = pages_keep w h i r there.serial there.page accepted legal left there.covers_it
    in both_ways (covers r (Page s g)) none
    (subst (λ b. covers r b ≡ true)
    (same_page w h there.serial there.page s g x accepted legal keeps (or_left (is_live w h s.0) (is_going h s.0) live)
    there.at at)
    there.covers_it)))
