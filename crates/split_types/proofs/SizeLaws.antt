-- No file is larger than 1,008 pages, and bytes are below 256.
use Rattle.std.proofs.Common.{◌≡◌, ℕ, ◌+◌, ◌-◌, ◌*◌, ◌==◌, ◌<◌, ◌≤◌, min, max, List, [], ◌++◌, slice_get, take}
use Rattle.std.proofs.Common.{drop, replicate, option_map, unwrap_or, nat_lt, Bool, true, false, Option, Some, None, refl}
use Rattle.std.proofs.Common.{ap, arith, if◌then◌else◌}
use Rattle.std.specs.Prelude.{All, IsTrue, slice_range}
use Rattle.std.proofs.lemmas.Bool.{eqb-true}
use Rattle.std.proofs.lemmas.List.{length-take}
use Rattle.std.proofs.lemmas.List.Elements.{All-append, All-take, All-drop, All-replicate}
use Rattle.std.proofs.lemmas.List.Sums.{sum_by-le}
use Rattle.split_types.specs.declared.ids.Pid.{Pid}
use Rattle.split_types.specs.declared.ids.Serial.{Serial}
use Rattle.split_types.specs.declared.buf.Buf.TheVariants.{Page}
use Rattle.split_types.specs.declared.call.Call.TheVariants.{Read}
use Rattle.split_types.specs.declared.workload.Preset.{Preset}
use Rattle.split_types.specs.declared.workload.Workload.{Workload}
use Rattle.split_types.specs.declared.event.Event.{Event}
use Rattle.split_types.specs.declared.event.Event.TheVariants.{Admit, Put}
use Rattle.split_types.specs.History.{◌▹◌}
use Rattle.split_types.specs.Hooks.{maker, same_buf}
use Rattle.split_types.specs.Workloads.{pages_in}
use Rattle.split_types.specs.Calls.{moved, call_of}
use Rattle.split_types.specs.Files.{is_live, file_for, bound_file}
use Rattle.split_types.specs.FileSizes.{size_of, disk_size_of, size_of_some, size_at_admit}
use Rattle.split_types.specs.PageBytes.{filled_page, filled, fill_of, start_fill, page_bytes, sum_of_bytes}
use Rattle.split_types.specs.Pieces.{Piece, got}
use Rattle.split_types.specs.IsWorkload.{IsPreset}
use Rattle.split_types.specs.Accepted.{IsAccepted}
use Rattle.split_types.specs.Legal.{IsLegal}
use Rattle.split_types.specs.Proving.Came.{Came, IsAtPiece}
use Rattle.split_types.specs.Proving.Came.Came.{came_enter, came_admit, came_changed, came_exists, came_no_slot, came_make, came_drop, came_no_file, came_too_big}
use Rattle.split_types.specs.Proving.Came.Came.{came_wrote, came_read, came_fault, came_no_space, came_put, came_get, came_zeros, came_evict, came_load}
use Rattle.split_types.specs.Proving.Came.Came.{came_flushed, came_synced, came_seal, came_journal, came_serve, came_skip, came_map, came_grow, came_add, came_send, came_done}
use Rattle.split_types.proofs.Lists.{all_at}
use Rattle.split_types.proofs.CameLaws.{came}
use Rattle.split_types.proofs.FileLaws.{live_of}
use Rattle.split_types.proofs.PutLaws.{piece_is, piece_bytes, put_in_legal}

-- ---- preset files
preset_at : (w : Workload) (s : ℕ) (f : Preset) → IsAccepted w → slice_get w.files s ≡ Some f → IsPreset f
preset_at w s f accepted at = all_at IsPreset w.files s f accepted.workload.presets.each at

fill_most : (w : Workload) (s : ℕ) → IsAccepted w → fill_of w s ≤ 255
fill_most w s accepted = by_file (slice_get w.files s) refl
  where
    by_file : (o : Option Preset) → slice_get w.files s ≡ o → unwrap_or (option_map (λ f. f.fill) o) 0 ≤ 255
    by_file None is = omega arith
    by_file (Some f) is = (preset_at w s f accepted is).fill_most

pub pages_most : (w : Workload) (s : ℕ) → IsAccepted w → pages_in w s ≤ 1008
pages_most w s accepted = by_file (slice_get w.files s) refl
  where
    by_file : (o : Option Preset) → slice_get w.files s ≡ o → unwrap_or (option_map (λ f. f.pages) o) 0 ≤ 1008
    by_file None is = omega arith
    by_file (Some f) is = (preset_at w s f accepted is).pages_most

-- ---- the bytes of a page
abbrev is_small : ℕ → Type 0
is_small byte = byte ≤ 255

start_most : (w : Workload) (s g : ℕ) → IsAccepted w → start_fill w s g ≤ 255
start_most w s g accepted = by_test (nat_lt g (pages_in w s))
  where
    by_test : (b : Bool) → (if b then fill_of w s else 0) ≤ 255
    by_test true = fill_most w s accepted
    by_test false = omega arith

filled_most : (bytes : List ℕ) (from to byte : ℕ) → byte ≤ 255 → All is_small bytes
    → All is_small (filled bytes from to byte)
filled_most bytes from to byte most all =
    All-append is_small (take from bytes ++ replicate (to - from) byte) (drop to bytes)
    (All-append is_small (take from bytes) (replicate (to - from) byte) (All-take is_small from bytes all)
    (All-replicate is_small (to - from) byte most)) (All-drop is_small to bytes all)

either_most : (b : Bool) (xs ys : List ℕ) → All is_small xs → All is_small ys
    → All is_small (elim b [ true ↦ xs | false ↦ ys ])
either_most true xs ys first second = first
either_most false xs ys first second = second

page_bytes_most : (w : Workload) (h : List Event) (s : Serial) (g : ℕ) → IsAccepted w → IsLegal w h
    → All is_small (page_bytes w h s g)
unfolding filled_page
page_bytes_most w [] s g accepted legal =
    All-replicate is_small 4096 (start_fill w s.0 g) (start_most w s.0 g accepted)
page_bytes_most w (h ▹ Put by t k from to fill) s g accepted legal =
    let old = page_bytes_most w h s g accepted legal.1
    in either_most (same_buf (Page t k) (Page s g)) (filled (page_bytes w h s g) from to fill) (page_bytes w h s g)
    (filled_most (page_bytes w h s g) from to fill (put_in_legal w h by t k from to fill accepted legal).fill_most old)
    old
page_bytes_most w (h ▹ e) s g accepted legal = page_bytes_most w h s g accepted legal.1

pub sum_most : (w : Workload) (h : List Event) (s : Serial) (g from to : ℕ) → IsAccepted w → IsLegal w h
    → sum_of_bytes w h s g from to ≤ 255 * (to - from)
sum_most w h s g from to accepted legal =
    let bytes = page_bytes w h s g
    in let all =
    All-take is_small (to - from) (drop from bytes)
    (All-drop is_small from bytes (page_bytes_most w h s g accepted legal))
    in omega (
      arith,
      sum_by-le (λ x. x) 255 (slice_range bytes from to) all,
      length-take (to - from) (drop from bytes),
    )

-- ---- what a process got
got_more : (b : Bool) (g m s d : ℕ) → s ≤ 255 * d → g ≤ 255 * m
    → (if b then g + s else g) ≤ 255 * (if b then m + d else m)
got_more true g m s d small most = omega (arith, small, most)
got_more false g m s d small most = most

moved_more : (b : Bool) (g m d : ℕ) → g ≤ 255 * m → g ≤ 255 * (if b then m + d else m)
moved_more true g m d most = omega (arith, most)
moved_more false g m d most = most

got_anew : (b : Bool) (g m : ℕ) → g ≤ 255 * m → (if b then 0 else g) ≤ 255 * (if b then 0 else m)
got_anew true g m most = omega arith
got_anew false g m most = most

got_next : (w : Workload) (h : List Event) (e : Event) (p : ℕ) → IsAccepted w → IsLegal w h → Came w h e
    → got h p ≤ 255 * moved h p → got (h ▹ e) p ≤ 255 * moved (h ▹ e) p
got_next w h e p accepted legal (came_enter q c has out) most = got_anew (q.0 == p) (got h p) (moved h p) most
got_next w h e p accepted legal (came_put q name off len fill s piece here may) most =
    moved_more (q.0 == p) (got h p) (moved h p) (piece.to - piece.from) most
got_next w h e p accepted legal (came_get q name off len s piece here held) most =
    got_more (q.0 == p) (got h p) (moved h p) (sum_of_bytes w h s piece.page piece.from piece.to)
    (piece.to - piece.from) (sum_most w h s piece.page piece.from piece.to accepted legal) most
got_next w h e p accepted legal (came_zeros q name off len s piece here absent none) most =
    got_more (q.0 == p) (got h p) (moved h p) 0 (piece.to - piece.from) (omega arith) most
got_next w h e p accepted legal (came_admit q c has in' out may) most = most
got_next w h e p accepted legal (came_make q name slot admitted idle unused at) most = most
got_next w h e p accepted legal (came_drop q name serial working idle) most = most
got_next w h e p accepted legal (came_no_file q c admitted none) most = most
got_next w h e p accepted legal (came_changed q c admitted names acted) most = most
got_next w h e p accepted legal (came_exists q name admitted idle taken) most = most
got_next w h e p accepted legal (came_no_slot q name admitted idle unused none) most = most
got_next w h e p accepted legal (came_too_big q name off len fill s working big) most = most
got_next w h e p accepted legal (came_no_space q name off len fill s piece here out none) most = most
got_next w h e p accepted legal (came_wrote q name off len fill s working none) most = most
got_next w h e p accepted legal (came_read q name off len s working none) most = most
got_next w h e p accepted legal (came_fault q c s piece working left bad) most = most
got_next w h e p accepted legal (came_evict q c s piece here absent t g found) most = most
got_next w h e p accepted legal (came_load q c s piece here absent block at) most = most
got_next w h e p accepted legal (came_serve run idle found) most = most
got_next w h e p accepted legal (came_skip run at gone) most = most
got_next w h e p accepted legal (came_map run free serves there none at) most = most
got_next w h e p accepted legal (came_grow run block serves there at short) most = most
got_next w h e p accepted legal (came_add run block at there placed known) most = most
got_next w h e p accepted legal (came_flushed q name s working idle down) most = most
got_next w h e p accepted legal (came_synced q name s working acted safe) most = most
got_next w h e p accepted legal (came_seal may) most = most
got_next w h e p accepted legal (came_journal kind first n j) most = most
got_next w h e p accepted legal (came_send r free picked) most = most
got_next w h e p accepted legal (came_done k r at) most = most

-- the sum of the bytes that a process got is at most that of as many bytes as it moved
pub got_most : (w : Workload) (h : List Event) (p : ℕ) → IsAccepted w → IsLegal w h → got h p ≤ 255 * moved h p
got_most w [] p accepted legal = omega arith
got_most w (h ▹ e) p accepted legal =
    got_next w h e p accepted legal.1 (came w h (maker e) e legal.0) (got_most w h p accepted legal.1)

-- ---- the sizes of files
size_put : (b : Bool) (size g to : ℕ) → size ≤ 4128768 → g < 1008 → to ≤ 4096
    → (if b then max size (4096 * g + to) else size) ≤ 4128768
size_put true size g to old page most = omega (arith, old, page, most)
size_put false size g to old page most = old

-- no file has more than 1,008 pages
pub size_most : (w : Workload) (h : List Event) (s : ℕ) → IsAccepted w → IsLegal w h → size_of w h s ≤ 4128768
size_most w [] s accepted legal = omega (arith, pages_most w s accepted)
size_most w (h ▹ Put by t g from to fill) s accepted legal =
    let put = put_in_legal w h by t g from to fill accepted legal
    in size_put (t.0 == s) (size_of w h s) g to (size_most w h s accepted legal.1) put.page put.to_most
size_most w (h ▹ e) s accepted legal = size_most w h s accepted legal.1

put_grows : (b : Bool) (disk size end : ℕ) → disk ≤ size → disk ≤ (if b then max size end else size)
put_grows true disk size end most = omega (arith, most)
put_grows false disk size end most = most

-- a map makes the inode say the bytes of some pages of the file, or what it said before
mapped_most : (b : Bool) (disk size disk' size' end : ℕ) → (b ≡ true → (disk' ≡ disk) × (size' ≡ size)) → disk ≤ size
    → (if b then max disk' (min size' end) else disk) ≤ size
mapped_most true disk size disk' size' end same most = omega (arith, (same refl).0, (same refl).1, most)
mapped_most false disk size disk' size' end same most = most

disk_map : (w : Workload) (h : List Event) (t s end : ℕ) → disk_size_of w h s ≤ size_of w h s
    → (if t == s then max (disk_size_of w h t) (min (size_of w h t) end) else disk_size_of w h s) ≤ size_of w h s
disk_map w h t s end most =
    mapped_most (t == s) (disk_size_of w h s) (size_of w h s) (disk_size_of w h t) (size_of w h t) end
    (λ same. (ap (disk_size_of w h) (eqb-true t s same), ap (size_of w h) (eqb-true t s same))) most

disk_next : (w : Workload) (h : List Event) (e : Event) (s : ℕ) → Came w h e → disk_size_of w h s ≤ size_of w h s
    → disk_size_of w (h ▹ e) s ≤ size_of w (h ▹ e) s
disk_next w h e s (came_put p name off len fill t piece here may) most =
    put_grows (t.0 == s) (disk_size_of w h s) (size_of w h s) (4096 * piece.page + piece.to) most
disk_next w h e s (came_map run free serves there none at) most =
    disk_map w h run.serial.0 s (4096 * (run.page + free.n)) most
disk_next w h e s (came_grow run block serves there at short) most =
    disk_map w h run.serial.0 s (4096 * (run.page + run.n)) most
disk_next w h e s (came_enter p c has out) most = most
disk_next w h e s (came_admit p c has in' out may) most = most
disk_next w h e s (came_make p name slot admitted idle unused at) most = most
disk_next w h e s (came_drop p name serial working idle) most = most
disk_next w h e s (came_no_file p c admitted none) most = most
disk_next w h e s (came_changed p c admitted names acted) most = most
disk_next w h e s (came_exists p name admitted idle taken) most = most
disk_next w h e s (came_no_slot p name admitted idle unused none) most = most
disk_next w h e s (came_too_big p name off len fill t working big) most = most
disk_next w h e s (came_no_space p name off len fill t piece here out none) most = most
disk_next w h e s (came_wrote p name off len fill t working none) most = most
disk_next w h e s (came_read p name off len t working none) most = most
disk_next w h e s (came_fault p c t piece working left bad) most = most
disk_next w h e s (came_get p name off len t piece here held) most = most
disk_next w h e s (came_zeros p name off len t piece here absent none) most = most
disk_next w h e s (came_evict p c t piece here absent v k found) most = most
disk_next w h e s (came_load p c t piece here absent block at) most = most
disk_next w h e s (came_serve run idle found) most = most
disk_next w h e s (came_skip run at gone) most = most
disk_next w h e s (came_add run block at there placed known) most = most
disk_next w h e s (came_flushed q name t working idle down) most = most
disk_next w h e s (came_synced q name t working acted safe) most = most
disk_next w h e s (came_seal may) most = most
disk_next w h e s (came_journal kind first n j) most = most
disk_next w h e s (came_send r free picked) most = most
disk_next w h e s (came_done k r at) most = most

-- no inode says more bytes than its file has
pub disk_size_most : (w : Workload) (h : List Event) (s : ℕ) → IsLegal w h → disk_size_of w h s ≤ size_of w h s
disk_size_most w [] s legal = omega arith
disk_size_most w (h ▹ e) s legal = disk_next w h e s (came w h (maker e) e legal.0) (disk_size_most w h s legal.1)

-- the size that the file of an admitted call had then
some_most : (w : Workload) (h : List Event) (o : Option Serial) → IsAccepted w → IsLegal w h
    → size_of_some w h o ≤ 4128768
some_most w h None accepted legal = omega arith
some_most w h (Some s) accepted legal = size_most w h s.0 accepted legal

either_size : (b : Bool) (x y : ℕ) → x ≤ 4128768 → y ≤ 4128768 → (elim b [ true ↦ x | false ↦ y ]) ≤ 4128768
either_size true x y first second = first
either_size false x y first second = second

pub admitted_most : (w : Workload) (h : List Event) (p : ℕ) → IsAccepted w → IsLegal w h → size_at_admit w h p ≤ 4128768
admitted_most w [] p accepted legal = omega arith
admitted_most w (h ▹ Admit by) p accepted legal =
    either_size (by.0 == p) (size_of_some w h (file_for w h (call_of w h p))) (size_at_admit w h p)
    (some_most w h (file_for w h (call_of w h p)) accepted legal.1) (admitted_most w h p accepted legal.1)
admitted_most w (h ▹ e) p accepted legal = admitted_most w h p accepted legal.1

-- ---- the pieces of a read
-- the piece is some bytes of a page that a file may have, of a file that is there
pub record PieceIn (w : Workload) (h : List Event) (s : Serial) (piece : Piece) : Type 0 where
  pub file : IsTrue (is_live w h s.0)
  pub page : piece.page < 1008
  pub some : piece.from < piece.to
  pub most : piece.to ≤ 4096

pub get_in : (w : Workload) (h : List Event) (p : Pid) (name : List ℕ) (off len : ℕ) (s : Serial) (piece : Piece)
    → IsAccepted w → IsLegal w h → IsAtPiece w h p (Read name off len) s piece → PieceIn w h s piece
get_in w h p name off len s piece accepted legal here =
    let size = admitted_most w h p.0 accepted legal
    in let first = piece_is w h p (Read name off len) piece here.working.admitted.has.call here.left
    in let bytes = piece_bytes (Read name off len) (size_at_admit w h p.0) (moved h p.0) piece first
    in record {
      file = live_of w h (bound_file w h p.0) s here.working.file;
      page = omega (arith, bytes.page, first.some, size);
      some = omega (arith, bytes.from, bytes.to, first.some);
      most = omega (arith, bytes.to);
    }
