-- What is known of the maps of files and of the run that is served, by the notions on which it rests.
use Rattle.std.proofs.Common.{◌≡◌, ℕ, ◌+◌, ◌<◌, ◌≤◌, List, Bool, true, false, not, ◌&&◌, ◌||◌, Option, Some, None, refl, arith, ap, is_some}
use Rattle.std.specs.List.{list_any}
use Rattle.std.proofs.lemmas.Bool.{and_parts, or_left}
use Rattle.split_types.specs.declared.ids.Serial.{Serial}
use Rattle.split_types.specs.declared.ids.Txn.{Txn}
use Rattle.split_types.specs.declared.buf.Buf.TheVariants.{Page}
use Rattle.split_types.specs.declared.request.Run.{Run}
use Rattle.split_types.specs.declared.request.Service.{Service}
use Rattle.split_types.specs.declared.request.Service.TheVariants.{Mapped}
use Rattle.split_types.specs.declared.workload.Workload.{Workload}
use Rattle.split_types.specs.declared.event.Event.{Event}
use Rattle.split_types.specs.Hooks.{covers}
use Rattle.split_types.specs.Requests.{unfinished}
use Rattle.split_types.specs.Files.{is_live}
use Rattle.split_types.specs.Pages.{is_put_since, is_ready}
use Rattle.split_types.specs.FileMaps.{mapped_block, is_in_map, is_dropped, drop_txn, is_committed, is_settled}
use Rattle.split_types.specs.ServedRuns.{are_apart}
use Rattle.split_types.specs.Writeback.{service, served_run}
use Rattle.split_types.specs.FilesInOrder.{all_files}
use Rattle.split_types.specs.MapsInOrder.{keeps_blocks}
use Rattle.split_types.proofs.MapBlocks.{AreBlocks}

-- a run of 1 to 16 pages of one of so many files, without blocks or with blocks in a row; they are ready while the file
-- is there
pub record Serves (count : ℕ) (m : ℕ → ℕ → Option ℕ) (live : ℕ → Bool) (ready : Serial → ℕ → Bool) (run : Run) : Type 0
  where
    pub numbered : run.serial.0 < count
    pub some : 1 ≤ run.n
    pub most : run.n ≤ 16
    pub within : run.page + run.n ≤ 1008
    pub in_a_row : (k : ℕ) → k < run.n
        → are_apart k (m run.serial.0 run.page) (m run.serial.0 (run.page + k)) ≡ true
    pub all_ready : live run.serial.0 ≡ true → (k : ℕ) → k < run.n → ready run.serial (run.page + k) ≡ true

-- ---- files that keep their blocks
-- the transaction that takes a drop, if there is one, is committed
abbrev pub settles : (Txn → Bool) → Option Txn → Bool
settles committed None = false
settles committed (Some t) = committed t

-- the file is there, or the transaction that takes its drop isn't committed
abbrev pub keeps_by : (ℕ → Bool) → (ℕ → Bool) → (ℕ → Option Txn) → (Txn → Bool) → ℕ → Bool
keeps_by live dropped taker committed s = live s || (dropped s && not (settles committed (taker s)))

abbrev pub keeps_of : Workload → List Event → ℕ → Bool
keeps_of w h =
    keeps_by (λ s. is_live w h s) (λ s. is_dropped h s) (λ s. drop_txn h s) (λ t. is_committed h t)

settles_is : (h : List Event) (t : Option Txn) → settles (λ t. is_committed h t) t ≡ is_settled h t
settles_is h None = refl
settles_is h (Some t) = refl

pub keeps_is : (w : Workload) (h : List Event) (s : ℕ) → keeps_of w h s ≡ keeps_blocks w h s
keeps_is w h s = ap (λ b. is_live w h s || (is_dropped h s && not b)) (settles_is h (drop_txn h s))

-- a file that is there keeps its blocks
pub live_keeps : (w : Workload) (h : List Event) (s : ℕ) → is_live w h s ≡ true → keeps_of w h s ≡ true
live_keeps w h s live =
    or_left (is_live w h s) (is_dropped h s && not (settles (λ t. is_committed h t) (drop_txn h s))) live

-- ---- all that is known
-- the files with blocks are there or were dropped, and have one of so many numbers; the pages that were put are ones
-- that a file may have; and what is served is such a run
pub record Maps (w : Workload) (count : ℕ) (m : ℕ → ℕ → Option ℕ) (i : ℕ → ℕ → Bool) (live dropped : ℕ → Bool)
    (taker : ℕ → Option Txn) (committed : Txn → Bool) (puts ready : Serial → ℕ → Bool) (now : Service) : Type 0
  where
    pub blocks : AreBlocks w m i (keeps_by live dropped taker committed)
    pub kept : (s g x : ℕ) → m s g ≡ Some x → (live s || dropped s) ≡ true
    pub numbered : (s : ℕ) → (live s || dropped s) ≡ true → s < count
    pub put : (s : Serial) (g : ℕ) → puts s g ≡ true → (s.0 < count) × (g < 1008)
    pub served : (run : Run) → served_run now ≡ Some run → Serves count m live ready run
    pub mapped : (run : Run) → now ≡ Mapped run → is_some (m run.serial.0 run.page) ≡ true

abbrev pub ServesOf : Workload → List Event → Run → Type 0
ServesOf w h run =
    Serves (all_files w h) (λ s g. mapped_block w h s g) (λ s. is_live w h s) (λ s g. is_ready w h (Page s g)) run

abbrev pub MapsOf : Workload → List Event → Type 0
MapsOf w h =
    Maps w (all_files w h) (λ s g. mapped_block w h s g) (λ s x. is_in_map w h s x) (λ s. is_live w h s)
    (λ s. is_dropped h s) (λ s. drop_txn h s) (λ t. is_committed h t) (λ s g. is_put_since h (Page s g))
    (λ s g. is_ready w h (Page s g)) (service h)

-- ---- the pages of a run stay ready
ready_bits : (live put busy live' put' busy' : Bool) → ((live && put) && not (live && busy)) ≡ true → live' ≡ true
    → (put ≡ true → put' ≡ true) → (busy ≡ false → busy' ≡ false) → ((live' && put') && not (live' && busy')) ≡ true
ready_bits false put busy live' put' busy' ready there puts idle = absurd (cc)
ready_bits true false busy live' put' busy' ready there puts idle = absurd (cc)
ready_bits true true true live' put' busy' ready there puts idle = absurd (cc)
ready_bits true true false live' put' busy' ready there puts idle = rw (there, puts refl, idle refl) refl

-- a page that is ready stays so while its file is there, it stays put, and no request takes it
pub ready_stays : (w : Workload) (h later : List Event) (s : Serial) (g : ℕ) → is_ready w h (Page s g) ≡ true
    → is_live w later s.0 ≡ true → (is_put_since h (Page s g) ≡ true → is_put_since later (Page s g) ≡ true)
    → (list_any (λ r. covers r (Page s g)) (unfinished h) ≡ false
    → list_any (λ r. covers r (Page s g)) (unfinished later) ≡ false)
    → is_ready w later (Page s g) ≡ true
ready_stays w h later s g ready there puts idle =
    ready_bits (is_live w h s.0) (is_put_since h (Page s g)) (list_any (λ r. covers r (Page s g)) (unfinished h))
    (is_live w later s.0) (is_put_since later (Page s g)) (list_any (λ r. covers r (Page s g)) (unfinished later))
    ready there puts idle

-- what is known of a page that is ready
pub ready_put : (w : Workload) (h : List Event) (s : Serial) (g : ℕ) → is_ready w h (Page s g) ≡ true
    → (is_live w h s.0 ≡ true) × (is_put_since h (Page s g) ≡ true)
ready_put w h s g ready =
    let busy = list_any (λ r. covers r (Page s g)) (unfinished h) in
    and_parts (is_live w h s.0) (is_put_since h (Page s g))
    (and_parts (is_live w h s.0 && is_put_since h (Page s g)) (not (is_live w h s.0 && busy)) ready).0

pub serves_stay : (count more : ℕ) (m : ℕ → ℕ → Option ℕ) (live live' : ℕ → Bool) (ready ready' : Serial → ℕ → Bool)
    (run : Run) → Serves count m live ready run → count ≤ more
    → (live' run.serial.0 ≡ true → live run.serial.0 ≡ true)
    → (live' run.serial.0 ≡ true → (g : ℕ) → ready run.serial g ≡ true → ready' run.serial g ≡ true)
    → Serves more m live' ready' run
serves_stay count more m live live' ready ready' run s least was stays = record {
  numbered = omega (arith, s.numbered, least);
  some = s.some;
  most = s.most;
  within = s.within;
  in_a_row = s.in_a_row;
  all_ready = λ there k below. stays there (run.page + k) (s.all_ready (was there) k below);
}
