-- The events of a legal history have lines.
use Rattle.std.proofs.Common.{◌≡◌, ℕ, ◌+◌, ◌-◌, ◌*◌, ◌==◌, ◌<◌, ◌≤◌, ◌^◌, ◌∙◌, ◌&&◌, ◌||◌, max, nat_le, nat_lt, Bool, inl, inr}
use Rattle.std.proofs.Common.{true, false, List, [], ◌∷◌, length, slice_get, Option, Some, IsTrue, ap, refl, sym, subst}
use Rattle.std.proofs.Common.{arith, if◌then◌else◌}
use Rattle.std.proofs.lemmas.Bool.{lt-ltb, eq-eqb}
use Rattle.std.proofs.lemmas.Bool.Decides.{nat_tests}
use Rattle.std.proofs.lemmas.Option.{slice_get_within}
use Rattle.std.specs.List.{list_all}
use Rattle.split_types.specs.declared.ids.Pid.{Pid}
use Rattle.split_types.specs.declared.ids.Serial.{Serial}
use Rattle.split_types.specs.declared.ids.Slot.{Slot}
use Rattle.split_types.specs.declared.buf.Buf.TheVariants.{Page}
use Rattle.split_types.specs.declared.call.Call.{Call}
use Rattle.split_types.specs.declared.call.Call.TheVariants.{Read}
use Rattle.split_types.specs.declared.request.Request.{Request}
use Rattle.split_types.specs.declared.request.Run.{Run}
use Rattle.split_types.specs.declared.request.Service.TheVariants.{Serving}
use Rattle.split_types.specs.declared.workload.Workload.{Workload}
use Rattle.split_types.specs.declared.event.Event.{Event}
use Rattle.split_types.specs.declared.event.Event.TheVariants.{Make, Put, Serve, Seal, Add}
use Rattle.split_types.specs.declared.request.ReqKind.{ReqKind}
use Rattle.split_types.specs.declared.request.ReqKind.TheVariants as kind
use Rattle.split_types.specs.declared.actor.Actor.TheVariants.{Cm}
use Rattle.split_types.specs.History.{◌▹◌, adds}
use Rattle.split_types.specs.Hooks.{maker}
use Rattle.split_types.specs.IsWorkload.{most_processes}
use Rattle.split_types.specs.Workloads.{calls_of}
use Rattle.split_types.specs.Calls.{returned, moved}
use Rattle.split_types.specs.EventText.{flag, subject}
use Rattle.split_types.specs.Files.{is_live, bound_file}
use Rattle.split_types.specs.FileMaps.{mapped_block, makes, free_blocks}
use Rattle.split_types.specs.FileSizes.{disk_size_of}
use Rattle.split_types.specs.FileSlots.{slot_of, next_serial}
use Rattle.split_types.specs.FilesInOrder.{all_files}
use Rattle.split_types.specs.MapsInOrder.{IsServed}
use Rattle.split_types.specs.PageBytes.{sum_of_bytes}
use Rattle.split_types.specs.Pieces.{Piece, got}
use Rattle.split_types.specs.Requests.{in_flight, requests}
use Rattle.split_types.specs.Rounds.{seals, next_txn}
use Rattle.split_types.specs.Transactions.{marked_buffers, is_of_commit}
use Rattle.split_types.specs.Proving.JournalKnown.{IsOfSealed}
use Rattle.split_types.specs.Victims.{victim}
use Rattle.split_types.specs.CostAndClock.{head, cost_at, distance}
use Rattle.split_types.specs.Writeback.{service, served_run}
use Rattle.split_types.specs.Serving.{service_state, bytes_up_to, map_of}
use Rattle.split_types.specs.Accepted.{IsAccepted}
use Rattle.split_types.specs.Legal.{IsLegal}
use Rattle.split_types.specs.Proving.Came.{Came, HasCall, IsAtPiece, Journals, journal_request}
use Rattle.split_types.specs.Proving.Came.Came.{came_enter, came_admit, came_changed, came_exists, came_no_slot, came_make}
use Rattle.split_types.specs.Proving.Came.Came.{came_drop, came_no_file, came_too_big, came_wrote, came_read, came_fault}
use Rattle.split_types.specs.Proving.Came.Came.{came_no_space, came_put, came_get, came_zeros, came_evict, came_load}
use Rattle.split_types.specs.Proving.Came.Came.{came_serve, came_skip, came_map, came_grow, came_add, came_send, came_done}
use Rattle.split_types.specs.Proving.Came.Came.{came_seal, came_journal, came_flushed, came_synced}
use Rattle.split_types.specs.Proving.Known.{Known}
use Rattle.split_types.proofs.Shared.{came, known, maps_known, files_are_in_order, queued_of, flight_of}
use Rattle.split_types.proofs.Shared.{calls_most, short, adds_most, put_in, live_of, free_is, moved_most}
use Rattle.split_types.proofs.Shared.{seek_most, picked_there, has_run, longest, ends_within, journal_known}
use Rattle.split_types.proofs.Shared.{slice_get-push_new}
use Rattle.split_types.proofs.Shared.{sum_most, got_most, size_most, disk_size_most, get_in, victim_file}
use Rattle.workload_reader.specs.Table.{IsOneOf}
use Rattle.trace_text.specs.EventLines.{is_small, is_wide, AreInRange, IsAskedBy}
use Rattle.trace_text.specs.ReadsEvent.{HasLine}
use Rattle.trace_text.specs.Events.{HaveLines}

-- numbers that are small
small_more : (n : ℕ) (ns : List ℕ) → n < 2 ^ 32 → list_all is_small ns ≡ true → list_all is_small (n ∷ ns) ≡ true
small_more n ns few small = ap (λ b. b && list_all is_small ns) (lt-ltb n (2 ^ 32) few) ∙ small

one_wide : (n : ℕ) → n < 2 ^ 64 → list_all is_wide (n ∷ []) ≡ true
one_wide n few = ap (λ b. b && true) (lt-ltb n (2 ^ 64) few)

-- a legal history is short
pub few : (w : Workload) (h : List Event) → IsAccepted w → IsLegal w h → length h < 2 ^ 32
few w h accepted legal = omega (arith, short w h accepted legal)

-- a process of the workload
client : (w : Workload) (h : List Event) (p : Pid) (c : Call) → IsAccepted w → HasCall w h p c
    → IsOneOf (most_processes w) p.0
client w h p c accepted call = record {
  least = call.first;
  most = omega (arith, call.last, accepted.workload.processes.few);
}

-- each file but the preset ones was made
makes_most : (h : List Event) → makes h ≤ length h
makes_most [] = omega arith
makes_most (h ▹ Make by slot serial) = omega (arith, makes_most h)
makes_most (h ▹ e) = omega (arith, makes_most h)

-- each seal is an event
seals_most : (h : List Event) → seals h ≤ length h
seals_most [] = omega arith
seals_most (h ▹ Seal t k) = omega (arith, seals_most h)
seals_most (h ▹ e) = omega (arith, seals_most h)

-- so there were few
few_files : (w : Workload) (h : List Event) → IsAccepted w → IsLegal w h → all_files w h < 2 ^ 32
few_files w h accepted legal =
    omega (arith, accepted.workload.presets.few, makes_most h, short w h accepted legal)

-- a page that a file may have
page_small : (w : Workload) (h : List Event) (s : Serial) (g : ℕ) (ns : List ℕ) → IsAccepted w → IsLegal w h
    → s.0 < all_files w h → g < 1008 → list_all is_small ns ≡ true → list_all is_small (s.0 ∷ g ∷ ns) ≡ true
page_small w h s g ns accepted legal file page small =
    small_more s.0 (g ∷ ns) (omega (arith, file, few_files w h accepted legal))
    (small_more g ns (omega (arith, page)) small)

-- a page of a file that is there
live_page : (w : Workload) (h : List Event) (s : Serial) (g : ℕ) (ns : List ℕ) → IsAccepted w → IsLegal w h
    → IsTrue (is_live w h s.0) → g < 1008 → list_all is_small ns ≡ true → list_all is_small (s.0 ∷ g ∷ ns) ≡ true
live_page w h s g ns accepted legal live page small =
    page_small w h s g ns accepted legal ((files_are_in_order w h accepted legal).live s live).numbered page small

-- a file that is there, in its slot
file_small : (w : Workload) (h : List Event) (s : Serial) (ns : List ℕ) → IsAccepted w → IsLegal w h
    → IsTrue (is_live w h s.0) → list_all is_small ns ≡ true
    → list_all is_small ((slot_of w h s).0 ∷ s.0 ∷ ns) ≡ true
file_small w h s ns accepted legal live small =
    let file = (files_are_in_order w h accepted legal).live s live in
    small_more (slot_of w h s).0 (s.0 ∷ ns) (omega (arith, file.slot_within))
    (small_more s.0 ns (omega (arith, file.numbered, few_files w h accepted legal)) small)

-- the file that is made: it is there then
make_line : (w : Workload) (h : List Event) (p : Pid) (slot : Slot) (s : Serial) → IsAccepted w
    → IsLegal w (h ▹ Make p slot s) → AreInRange (slot.0 ∷ s.0 ∷ []) []
make_line w h p slot s accepted legal =
    let self : (s.0 == s.0) ≡ true = eq-eqb s.0 s.0 refl in
    let live : is_live w (h ▹ Make p slot s) s.0 ≡ true = ap (λ b. b || is_live w h s.0) self in
    let here : slot_of w (h ▹ Make p slot s) s ≡ slot =
    ap (λ b. elim b [ true ↦ slot | false ↦ slot_of w h s ]) self in
    record {
      small =
          subst (λ k. list_all is_small (k.0 ∷ s.0 ∷ []) ≡ true) here
          (file_small w (h ▹ Make p slot s) s [] accepted legal live refl);
      wide = refl;
    }

put_line : (w : Workload) (h : List Event) (by : Pid) (s : Serial) (g start end fill : ℕ) → IsAccepted w → IsLegal w h
    → Came w h (Put by s g start end fill) → AreInRange (s.0 ∷ g ∷ start ∷ end ∷ fill ∷ []) []
put_line w h by s g start end fill accepted legal c =
    let p = put_in w h by s g start end fill accepted c in
    record {
      small = live_page w h s g (start ∷ end ∷ fill ∷ []) accepted legal p.file p.page
          (small_more start (end ∷ fill ∷ []) (omega (arith, p.some, p.to_most))
          (small_more end (fill ∷ []) (omega (arith, p.to_most))
          (small_more fill [] (omega (arith, p.fill_most)) refl)));
      wide = refl;
    }

-- some bytes of a page that a read gets, and the sum of as many bytes at most
get_line : (w : Workload) (h : List Event) (p : Pid) (name : List ℕ) (off len : ℕ) (s : Serial) (piece : Piece)
    (sum : ℕ) → IsAccepted w → IsLegal w h → IsAtPiece w h p (Read name off len) s piece
    → sum ≤ 255 * (piece.to - piece.from)
    → AreInRange (s.0 ∷ piece.page ∷ piece.from ∷ piece.to ∷ []) (sum ∷ [])
get_line w h p name off len s piece sum accepted legal here most =
    let at = get_in w h p name off len s piece accepted legal here in
    record {
      small = live_page w h s piece.page (piece.from ∷ piece.to ∷ []) accepted legal at.file at.page
          (small_more piece.from (piece.to ∷ []) (omega (arith, at.some, at.most))
          (small_more piece.to [] (omega (arith, at.most)) refl));
      wide = one_wide sum (omega (arith, most, at.most));
    }

-- what a process has moved
moved_line : (w : Workload) (h : List Event) (p : ℕ) → IsAccepted w → IsLegal w h → AreInRange (moved h p ∷ []) []
moved_line w h p accepted legal = record {
  small = small_more (moved h p) [] (omega (arith, moved_most w h p accepted legal)) refl;
  wide = refl;
}

-- what a read returns
read_line : (w : Workload) (h : List Event) (p : ℕ) → IsAccepted w → IsLegal w h
    → AreInRange (moved h p ∷ []) (got h p ∷ [])
read_line w h p accepted legal =
    let moves = moved_most w h p accepted legal in
    record {
      small = small_more (moved h p) [] (omega (arith, moves)) refl;
      wide = one_wide (got h p) (omega (arith, moves, got_most w h p accepted legal));
    }

-- the page that is evicted
evict_line : (w : Workload) (h : List Event) (s : Serial) (g : ℕ) → IsAccepted w → IsLegal w h
    → victim w h ≡ Some (Page s g) → AreInRange (s.0 ∷ g ∷ []) []
evict_line w h s g accepted legal found =
    let at = victim_file w h s g accepted legal found in
    record { small = page_small w h s g [] accepted legal at.0 at.1 refl; wide = refl }

-- a block of a page
block_most : (w : Workload) (h : List Event) (s g block : ℕ) → IsAccepted w → IsLegal w h
    → mapped_block w h s g ≡ Some block → block < 32768
block_most w h s g block accepted legal at =
    omega (arith, ((maps_known.maps w h accepted legal).placed s g block at).to, accepted.workload.machine.device_most)

-- the read of a page
load_line : (w : Workload) (h : List Event) (s : Serial) (g block : ℕ) → IsAccepted w → IsLegal w h
    → mapped_block w h s.0 g ≡ Some block → AreInRange (block ∷ 1 ∷ s.0 ∷ g ∷ []) []
load_line w h s g block accepted legal at =
    let is = (maps_known.maps w h accepted legal).placed s.0 g block at in
    record {
      small = small_more block (1 ∷ s.0 ∷ g ∷ []) (omega (arith, block_most w h s.0 g block accepted legal at))
          (small_more 1 (s.0 ∷ g ∷ []) (omega arith)
          (page_small w h s g [] accepted legal is.numbered is.page refl));
      wide = refl;
    }

-- the first page of a run that may be served
run_small : (w : Workload) (h : List Event) (run : Run) (ns : List ℕ) → IsAccepted w → IsLegal w h → IsServed w h run
    → list_all is_small ns ≡ true → list_all is_small (run.serial.0 ∷ run.page ∷ ns) ≡ true
run_small w h run ns accepted legal served small =
    page_small w h run.serial run.page ns accepted legal served.numbered
    (omega (arith, served.within, served.some)) small

-- the run that is served
serve_line : (w : Workload) (h : List Event) (s : Serial) (g n : ℕ) → IsAccepted w → IsLegal w (h ▹ Serve s g n)
    → AreInRange (s.0 ∷ g ∷ n ∷ []) []
serve_line w h s g n accepted legal =
    let run : Run = record { serial = s; page = g; n = n } in
    let served = maps_known.served w (h ▹ Serve s g n) run accepted legal refl in
    record {
      small = run_small w (h ▹ Serve s g n) run (n ∷ []) accepted legal served
          (small_more n [] (omega (arith, served.most)) refl);
      wide = refl;
    }

-- the first page of a map gets its first block
first_mapped : (t page n block : ℕ) (old : Option ℕ) → 1 ≤ n
    → (if t == t && nat_le page page && nat_lt page (page + n) then Some (block + (page - page)) else old)
    ≡ Some block
first_mapped t page n block old some = grind (arith, nat_tests)

flag_small : (b : Bool) → flag b < 2 ^ 32
flag_small true = omega arith
flag_small false = omega arith

-- the map of the first pages of the run that is served
map_line : (w : Workload) (h : List Event) (run : Run) (n block : ℕ) (new : Bool) → IsAccepted w
    → IsLegal w (h ▹ map_of (service_state w h run) n block new) → service h ≡ Serving run
    → IsTrue (is_live w h run.serial.0) → 1 ≤ n → n ≤ run.n
    → AreInRange ((slot_of w h run.serial).0 ∷ run.serial.0 ∷ run.page ∷ n ∷ block ∷ flag new
    ∷ max (disk_size_of w h run.serial.0) (bytes_up_to (service_state w h run) n) ∷ []) []
map_line w h run n block new accepted legal serving live some most =
    let state = service_state w h run in
    let served = maps_known.served w h run accepted legal.1 (ap served_run serving) in
    let first = first_mapped run.serial.0 run.page n block (mapped_block w h run.serial.0 run.page) some in
    let block_few =
    block_most w (h ▹ map_of state n block new) run.serial.0 run.page block accepted legal first in
    let size = max (disk_size_of w h run.serial.0) (bytes_up_to state n) in
    let size_few : size < 2 ^ 32 =
    omega (arith, disk_size_most w h run.serial.0 legal.1, size_most w h run.serial.0 accepted legal.1) in
    record {
      small = file_small w h run.serial (run.page ∷ n ∷ block ∷ flag new ∷ size ∷ []) accepted legal.1 live
          (small_more run.page (n ∷ block ∷ flag new ∷ size ∷ []) (omega (arith, served.within))
          (small_more n (block ∷ flag new ∷ size ∷ []) (omega (arith, most, served.most))
          (small_more block (flag new ∷ size ∷ []) (omega (arith, block_few))
          (small_more (flag new) (size ∷ []) (flag_small new) (small_more size [] size_few refl)))));
      wide = refl;
    }

add_line : (w : Workload) (h : List Event) (run : Run) (block : ℕ) → IsAccepted w → IsLegal w h
    → served_run (service h) ≡ Some run → mapped_block w h run.serial.0 run.page ≡ Some block
    → AreInRange (block ∷ run.n ∷ run.serial.0 ∷ run.page ∷ []) []
add_line w h run block accepted legal serves at =
    let served = maps_known.served w h run accepted legal serves in
    record {
      small = small_more block (run.n ∷ run.serial.0 ∷ run.page ∷ [])
          (omega (arith, block_most w h run.serial.0 run.page block accepted legal at))
          (small_more run.n (run.serial.0 ∷ run.page ∷ []) (omega (arith, served.most))
          (run_small w h run [] accepted legal served refl));
      wide = refl;
    }

send_line : (w : Workload) (h : List Event) (r : Request) → IsAccepted w → IsLegal w h → r.id.0 < adds h → r.n ≤ 262
    → AreInRange (r.id.0 ∷ []) (cost_at (head h) r.first r.n ∷ [])
send_line w h r accepted legal added most = record {
  small = small_more r.id.0 [] (omega (arith, added, adds_most h, few w h accepted legal)) refl;
  wide = one_wide (cost_at (head h) r.first r.n) (omega (arith, seek_most (distance r.first (head h)), most));
}

done_line : (w : Workload) (h : List Event) (k : ℕ) (r : Request) → IsAccepted w → IsLegal w h → Known w h
    → slice_get (in_flight h) k ≡ Some r → AreInRange (k ∷ r.id.0 ∷ []) []
done_line w h k r accepted legal f flies =
    let of = flight_of w h k r f flies in
    let short = few w h accepted legal in
    let within = slice_get_within (in_flight h) k r flies in
    record {
      small = small_more k (r.id.0 ∷ [])
          (omega (arith, within, f.waiting.flight_long, f.waiting.queue_long, f.numbered.counted, adds_most h, short))
          (small_more r.id.0 [] (omega (arith, of.below, adds_most h, short)) refl);
      wide = refl;
    }

-- a call returns with nothing to count
returns : (w : Workload) (h : List Event) (p : Pid) (c : Call) → IsAccepted w → HasCall w h p c
    → IsOneOf (most_processes w) p.0 × AreInRange [] []
returns w h p c accepted call = (client w h p c accepted call, record { small = refl; wide = refl })

-- the transaction that is sealed, and how many buffers it takes
seal_line : (w : Workload) (h : List Event) → IsAccepted w → IsLegal w (h ▹ Seal (next_txn h) (length (marked_buffers h)))
    → AreInRange ((next_txn h).0 ∷ length (marked_buffers h) ∷ []) []
seal_line w h accepted legal =
    let sealed = h ▹ Seal (next_txn h) (length (marked_buffers h)) in
    let j = journal_known w sealed accepted legal in
    record {
      small = small_more (seals h + 1) (length (marked_buffers h) ∷ [])
          (omega (arith, seals_most h, few w sealed accepted legal))
          (small_more (length (marked_buffers h)) [] (omega (arith, j.stands.4)) refl);
      wide = refl;
    }

-- the transaction of a request of the commit thread is one of those that were sealed
subject_small : (n : ℕ) (kind : ReqKind) (first long id : ℕ) → is_of_commit (journal_request id kind first long) ≡ true
    → IsOfSealed n kind → n < 2 ^ 32 → list_all is_small (subject kind) ≡ true
subject_small n (kind.Read p s g) first long id is of small = absurd (cc)
subject_small n (kind.Pages s g) first long id is of small = absurd (cc)
subject_small n (kind.Log t) first long id is of small = small_more t.0 [] (omega (arith, of.1, small)) refl
subject_small n (kind.Commit t) first long id is of small = small_more t.0 [] (omega (arith, of.1, small)) refl
subject_small n (kind.Home t) first long id is of small = small_more t.0 [] (omega (arith, of.1, small)) refl
subject_small n (kind.Clear t) first long id is of small = small_more t.0 [] (omega (arith, of.1, small)) refl

-- a request of the commit thread, of those in the journal
journal_of_commit : (w : Workload) (h : List Event) (kind : ReqKind) (first n : ℕ) → Journals w h kind first n
    → is_of_commit (journal_request (adds h) kind first n) ≡ true
journal_of_commit w h (kind.Read p s g) first n j = elim j [ ]
journal_of_commit w h (kind.Pages s g) first n j = elim j [ ]
journal_of_commit w h (kind.Log t) first n j = refl
journal_of_commit w h (kind.Commit t) first n j = refl
journal_of_commit w h (kind.Home t) first n j = refl
journal_of_commit w h (kind.Clear t) first n j = refl

-- it is asked for by that thread
asked_by : (w : Workload) (h : List Event) (kind : ReqKind) (first n : ℕ) → Journals w h kind first n
    → IsAskedBy Cm kind n
asked_by w h (kind.Read p s g) first n j = elim j [ ]
asked_by w h (kind.Pages s g) first n j = elim j [ ]
asked_by w h (kind.Log t) first n j = refl
asked_by w h (kind.Commit t) first n j = (refl, j.long)
asked_by w h (kind.Home t) first n j = (refl, j.long)
asked_by w h (kind.Clear t) first n j = (refl, j.long)

journal_line : (w : Workload) (h : List Event) (kind : ReqKind) (first n : ℕ) → IsAccepted w
    → IsLegal w (h ▹ Add Cm (journal_request (adds h) kind first n)) → Journals w h kind first n
    → AreInRange (first ∷ n ∷ subject kind) []
journal_line w h kind first n accepted legal j =
    let r = journal_request (adds h) kind first n in
    let added = h ▹ Add Cm r in
    let known = journal_known w added accepted legal in
    let here : slice_get (requests added) (length (requests h)) ≡ Some r = slice_get-push_new (requests h) r in
    let is = journal_of_commit w h kind first n j in
    let run = known.runs (length (requests h)) r here is in
    let end = ends_within w added r accepted (maps_known.maps w added accepted legal) (inr run) in
    record {
      small = small_more first (n ∷ subject kind) (omega (arith, end))
          (small_more n (subject kind) (omega (arith, run.most))
          (subject_small (seals added) kind first n (adds h) is (known.numbers (length (requests h)) r here)
          (omega (arith, seals_most added, few w added accepted legal))));
      wide = refl;
    }

-- what comes next has its line
has_line : (w : Workload) (h : List Event) (e : Event) → IsAccepted w → IsLegal w (h ▹ e) → Came w h e
    → HasLine (most_processes w) (adds h) e
has_line w h e accepted legal (came_enter p c call out) =
    let left = slice_get_within (calls_of w p.0) (returned h p.0) c call.call in
    let calls = accepted.workload.calls.few in
    record {
      formed = tt;
      range = (
        client w h p c accepted call,
        record {
          small = small_more (returned h p.0) [] (omega (arith, left, calls_most w p.0, calls)) refl;
          wide = refl;
        },
      );
    }
has_line w h e accepted legal (came_admit p c call in' out may) =
    record { formed = tt; range = returns w h p c accepted call }
has_line w h e accepted legal (came_changed p c admitted names acted) =
    record { formed = tt; range = returns w h p c accepted admitted.has }
has_line w h e accepted legal (came_exists p name admitted idle taken) =
    record { formed = tt; range = returns w h p _ accepted admitted.has }
has_line w h e accepted legal (came_no_slot p name admitted idle unused none) =
    record { formed = tt; range = returns w h p _ accepted admitted.has }
has_line w h e accepted legal (came_make p name slot admitted idle unused at) =
    record {
      formed = tt;
      range = (
        client w h p _ accepted admitted.has,
        make_line w h p (record { 0 = slot }) (next_serial w h) accepted legal,
      );
    }
has_line w h e accepted legal (came_drop p name s working idle) =
    let live = live_of w h (bound_file w h p.0) s working.file in
    record {
      formed = tt;
      range = (
        client w h p _ accepted working.admitted.has,
        record { small = file_small w h s [] accepted legal.1 live refl; wide = refl },
      );
    }
has_line w h e accepted legal (came_no_file p c admitted none) =
    record { formed = tt; range = returns w h p c accepted admitted.has }
has_line w h e accepted legal (came_too_big p name off len fill s working big) =
    record { formed = tt; range = returns w h p _ accepted working.admitted.has }
has_line w h e accepted legal (came_wrote p name off len fill s working none) =
    record { formed = tt; range = returns w h p _ accepted working.admitted.has }
has_line w h e accepted legal (came_read p name off len s working none) =
    record { formed = tt; range = (client w h p _ accepted working.admitted.has, read_line w h p.0 accepted legal.1) }
has_line w h e accepted legal (came_fault p c s piece working left bad) =
    record { formed = tt; range = returns w h p c accepted working.admitted.has }
has_line w h e accepted legal (came_no_space p name off len fill s piece here out none) =
    record {
      formed = tt;
      range = (client w h p _ accepted here.working.admitted.has, moved_line w h p.0 accepted legal.1);
    }
has_line w h e accepted legal (came_put p name off len fill s piece here may) =
    record {
      formed = tt;
      range = (
        client w h p _ accepted here.working.admitted.has,
        put_line w h p s piece.page piece.from piece.to fill accepted legal.1
            (came_put p name off len fill s piece here may),
      );
    }
has_line w h e accepted legal (came_get p name off len s piece here held) =
    record {
      formed = tt;
      range = (
        client w h p _ accepted here.working.admitted.has,
        get_line w h p name off len s piece (sum_of_bytes w h s piece.page piece.from piece.to) accepted legal.1 here
            (sum_most w h s piece.page piece.from piece.to accepted legal.1),
      );
    }
has_line w h e accepted legal (came_zeros p name off len s piece here absent none) =
    record {
      formed = tt;
      range = (
        client w h p _ accepted here.working.admitted.has,
        get_line w h p name off len s piece 0 accepted legal.1 here (omega arith),
      );
    }
has_line w h e accepted legal (came_evict p c s piece here absent t g found) =
    record {
      formed = tt;
      range = (client w h p c accepted here.working.admitted.has, evict_line w h t g accepted legal.1 found);
    }
has_line w h e accepted legal (came_load p c s piece here absent block at) =
    record {
      formed = (refl, (refl, refl));
      range = (
        client w h p c accepted here.working.admitted.has,
        load_line w h s piece.page block accepted legal.1 at,
      );
    }
has_line w h e accepted legal (came_serve run idle found) =
    record { formed = tt; range = (tt, serve_line w h run.serial run.page run.n accepted legal) }
has_line w h e accepted legal (came_skip run serves gone) =
    record { formed = tt; range = (tt, record { small = refl; wide = refl }) }
has_line w h e accepted legal (came_map run free serving live none found) =
    let served = maps_known.served w h run accepted legal.1 (ap served_run serving) in
    let is = free_is (free_blocks w h) run.n free found in
    record {
      formed = tt;
      range = (
        tt,
        map_line w h run free.n free.first true accepted legal serving live (is.some served.some) is.most,
      );
    }
has_line w h e accepted legal (came_grow run block serving live at short) =
    let served = maps_known.served w h run accepted legal.1 (ap served_run serving) in
    record {
      formed = tt;
      range = (tt, map_line w h run run.n block false accepted legal serving live served.some (omega arith));
    }
has_line w h e accepted legal (came_add run block serves live at grown) =
    record { formed = (refl, refl); range = (tt, add_line w h run block accepted legal.1 serves at) }
has_line w h e accepted legal (came_flushed p name s working idle written) =
    record { formed = tt; range = returns w h p _ accepted working.admitted.has }
has_line w h e accepted legal (came_synced p name s working acted safe) =
    record { formed = tt; range = returns w h p _ accepted working.admitted.has }
has_line w h e accepted legal (came_seal may) =
    record { formed = tt; range = (tt, seal_line w h accepted legal) }
has_line w h e accepted legal (came_journal kind first n j) =
    record {
      formed = (refl, asked_by w h kind first n j);
      range = (tt, journal_line w h kind first n accepted legal j);
    }
has_line w h e accepted legal (came_send r free picked) =
    let f = known w h accepted legal.1 in
    let there = picked_there w h r accepted picked in
    let of = queued_of w h there.0 r f there.1 in
    let run = has_run w h r.id.0 r f.runs (journal_known w h accepted legal.1) (f.waiting.queue_of there.0 r there.1) in
    record { formed = tt; range = (tt, send_line w h r accepted legal.1 of.below (longest w h r run)) }
has_line w h e accepted legal (came_done k r flies) =
    record { formed = tt; range = (tt, done_line w h k r accepted legal.1 (known w h accepted legal.1) flies) }

pub legal_lines : (w : Workload) (h : List Event) → IsAccepted w → IsLegal w h → HaveLines (most_processes w) h
legal_lines w [] accepted legal = tt
legal_lines w (h ▹ e) accepted legal = (
  legal_lines w h accepted legal.1,
  has_line w h e accepted legal (came w h (maker e) e legal.0),
)
