-- What is known of an event that comes next in a legal history, by its kind: its numbers are those of the workload, and
-- what it adds up fits.
use Rattle.std.specs.Prelude.{◌≡◌, ℕ, ◌+◌, ◌^◌, ◌<◌, ◌≤◌, ◌==◌, List, [], ◌∷◌, ◌++◌, length, find, remove}
use Rattle.std.specs.Prelude.{slice_get, Some, None, is_none, Bool, true, false, not, ◌&&◌, ◌||◌, IsTrue, IsFalse}
use Rattle.std.specs.List.{list_any}
use Rattle.split_types.specs.declared.ids.Pid.{Pid}
use Rattle.split_types.specs.declared.ids.Serial.{Serial}
use Rattle.split_types.specs.declared.ids.Slot.{Slot}
use Rattle.split_types.specs.declared.ids.ReqId.{ReqId}
use Rattle.split_types.specs.declared.ids.Txn.{Txn}
use Rattle.split_types.specs.declared.buf.Buf.{Buf}
use Rattle.split_types.specs.declared.buf.Buf.TheVariants.{Page}
use Rattle.split_types.specs.declared.actor.Actor.{Actor}
use Rattle.split_types.specs.declared.actor.Actor.TheVariants.{Client, Wb, Cm}
use Rattle.split_types.specs.declared.request.ReqKind.{ReqKind}
use Rattle.split_types.specs.declared.request.ReqKind.TheVariants.{Read, Pages}
use Rattle.split_types.specs.declared.request.Request.{Request}
use Rattle.split_types.specs.declared.request.Run.{Run}
use Rattle.split_types.specs.declared.request.Service.TheVariants.{Serving}
use Rattle.split_types.specs.declared.call.Call.TheVariants.{Creat}
use Rattle.split_types.specs.declared.facts.ReqState.TheVariants.{Queued}
use Rattle.split_types.specs.declared.workload.Workload.{Workload}
use Rattle.split_types.specs.declared.event.Event.{Event}
use Rattle.split_types.specs.declared.event.Event.TheVariants.{Enter, Admit, Make, Put, Get, Drop, Flushed, Ret, Serve, Map, Skip, Seal, Add, Send, Done, Evict, Tick}
use Rattle.split_types.specs.History.{◌▹◌, adds}
use Rattle.split_types.specs.Hooks.{maker, covers}
use Rattle.split_types.specs.Rounds.{seals, next_txn}
use Rattle.split_types.specs.Schedulers.{pick}
use Rattle.split_types.specs.Committing.{next_of_commit}
use Rattle.split_types.specs.Requests.{is_write, requests, queued, in_flight, unfinished, state_of}
use Rattle.split_types.specs.CostAndClock.{head, cost_of, now}
use Rattle.split_types.specs.Blame.{tag}
use Rattle.split_types.specs.Sets.{has}
use Rattle.split_types.specs.Share.{share_of}
use Rattle.split_types.specs.Bills.{bill, billed}
use Rattle.split_types.specs.Calls.{returned, moved, call_of}
use Rattle.split_types.specs.Pieces.{got}
use Rattle.split_types.specs.Files.{is_live, live_named}
use Rattle.split_types.specs.Pages.{is_ready}
use Rattle.split_types.specs.Reads.{is_loading}
use Rattle.split_types.specs.HeldPages.{is_held, is_full}
use Rattle.split_types.specs.Victims.{victim}
use Rattle.split_types.specs.Workloads.{calls_of, first_block}
use Rattle.split_types.specs.FileMaps.{mapped_block, is_without_space, is_reserved, reserved_pages}
use Rattle.split_types.specs.FileSlots.{live_files, next_serial, slot_of, file_in_slot}
use Rattle.split_types.specs.LiveFiles.{free_slot}
use Rattle.split_types.specs.FilesInOrder.{all_files}
use Rattle.split_types.specs.ServedRuns.{free_run}
use Rattle.split_types.specs.Writeback.{service}
use Rattle.split_types.specs.Legal.{IsLegal}

-- a process that acts is one of the workload's, and has a call left
pub record ClientFits (w : Workload) (h : List Event) (p : Pid) : Type 0 where
  pub first : 1 ≤ p.0
  pub last : p.0 ≤ length w.procs
  pub left : returned h p.0 < length (calls_of w p.0)
  pub few : length (calls_of w p.0) < 2 ^ 31

-- a page that a file which is there may have
pub record IsFilePage (w : Workload) (h : List Event) (s : Serial) (g : ℕ) : Type 0 where
  pub live : IsTrue (is_live w h s.0)
  pub numbered : s.0 < all_files w h
  pub page : g < 1008

-- a call that makes a file: no file has its name, and the file gets the least free slot and the next number
pub record MakeFits (w : Workload) (h : List Event) (by : Pid) (slot : Slot) (serial : Serial) : Type 0 where
  pub name : List ℕ
  pub call : call_of w h by.0 ≡ Some (Creat name)
  pub fresh : live_named w h name ≡ None
  pub slot_is : free_slot (live_files w h) ≡ Some slot.0
  pub serial_is : serial ≡ next_serial w h
  pub few : serial.0 < 4294967295

-- a file that is there, with its slot
pub record DropFits (w : Workload) (h : List Event) (slot : Slot) (serial : Serial) : Type 0 where
  pub live : IsTrue (is_live w h serial.0)
  pub slot_is : slot ≡ slot_of w h serial
  pub in_slot : file_in_slot w h slot.0 ≡ Some serial

-- some bytes of a page that isn't loading; it is held, or there is a place for it and all of it is put, or all of it
-- that isn't zero; it has a block, or one that is promised to it, or one is left
pub record PutFits (w : Workload) (h : List Event) (by : Pid) (s : Serial) (g from to fill : ℕ) : Type 0 where
  pub page : IsFilePage w h s g
  pub some : from < to
  pub most : to ≤ 4096
  pub byte : fill ≤ 255
  pub short : moved h by.0 < 2 ^ 31
  pub loaded : IsFalse (is_loading w h (Page s g))
  pub room : IsTrue (is_held w h (Page s g) || not (is_full w h))
  pub whole : IsTrue (is_held w h (Page s g) || (from == 0 && to == 4096) || is_none (mapped_block w h s.0 g))
  pub space : IsFalse (is_without_space w h (Page s g))

-- some bytes of a page that isn't loading; it is held, or it has no block
pub record GetFits (w : Workload) (h : List Event) (by : Pid) (s : Serial) (g from to sum : ℕ) : Type 0 where
  pub page : IsFilePage w h s g
  pub some : from < to
  pub most : to ≤ 4096
  pub short : moved h by.0 < 2 ^ 31
  pub small : got h by.0 + sum < 2 ^ 63
  pub loaded : IsFalse (is_loading w h (Page s g))
  pub held : IsTrue (is_held w h (Page s g) || is_none (mapped_block w h s.0 g))

-- some pages of a file, with the blocks from this one on
pub record HaveBlocks (w : Workload) (h : List Event) (s : Serial) (g n first : ℕ) : Type 0 where
  pub some : 1 ≤ n
  pub most : n ≤ 16
  pub within : g + n ≤ 1008
  pub from : first_block w ≤ first
  pub to : first + n ≤ w.device
  pub place : (k : ℕ) → k < n → mapped_block w h s.0 (g + k) ≡ Some (first + k)

-- pages that get free blocks: none of them has a block, and these are the first free blocks for the run
pub record MapsFree (w : Workload) (h : List Event) (run : Run) (n block : ℕ) : Type 0 where
  pub some : 1 ≤ n
  pub most : n ≤ run.n
  pub free : free_run w h run.n ≡ Some (record { first = block; n = n })
  pub promised : (k : ℕ) → k < run.n → IsTrue (is_reserved w h (Page run.serial (run.page + k)))
  pub enough : run.n ≤ length (reserved_pages w h)
  pub from : first_block w ≤ block
  pub to : block + n ≤ w.device

-- what is asked of a map by whether it gives blocks
abbrev pub MapsKind : Workload → List Event → Run → ℕ → ℕ → Bool → Type 0
MapsKind w h run n block true = MapsFree w h run n block
MapsKind w h run n block false = HaveBlocks w h run.serial run.page n block

-- a map of the first n pages of the run that is served, whose file is there
pub record MapFits (w : Workload) (h : List Event) (slot : Slot) (s : Serial) (g n block : ℕ) (new : Bool) (size : ℕ) : Type 0 where
  pub run : Run
  pub served : service h ≡ Serving run
  pub serial : s ≡ run.serial
  pub page : g ≡ run.page
  pub within : g + run.n ≤ 1008
  pub file : DropFits w h slot s
  pub most : size ≤ 4128768
  pub kind : MapsKind w h run n block new

-- a request for a run of pages that are ready
pub record RunFits (w : Workload) (h : List Event) (s : Serial) (g n first : ℕ) : Type 0 where
  pub live : IsTrue (is_live w h s.0)
  pub blocks : HaveBlocks w h s g n first
  pub ready : (k : ℕ) → k < n → IsTrue (is_ready w h (Page s (g + k)))

-- a request for a page that isn't held, while the cache has a place for it
pub record LoadFits (w : Workload) (h : List Event) (s : Serial) (g n first : ℕ) : Type 0 where
  pub page : IsFilePage w h s g
  pub one : n ≡ 1
  pub blocks : HaveBlocks w h s g n first
  pub absent : IsFalse (is_held w h (Page s g))
  pub free : IsFalse (is_full w h)

-- some blocks below those of data
pub record IsBelowData (w : Workload) (n first : ℕ) : Type 0 where
  pub some : 1 ≤ n
  pub most : n ≤ 262
  pub within : first + n ≤ first_block w

-- what is asked of an added request, by its kind: all others are of the commit thread
abbrev pub AddsKind : Workload → List Event → Actor → ReqKind → ℕ → ℕ → Type 0
AddsKind w h by (Pages s g) n first = (by ≡ Wb) × RunFits w h s g n first
AddsKind w h by (Read p s g) n first = (by ≡ Client p) × LoadFits w h s g n first
AddsKind w h by _ n first = (by ≡ Cm) × IsBelowData w n first

-- a request of which nothing is known yet
pub record AddFits (w : Workload) (h : List Event) (by : Actor) (r : Request) : Type 0 where
  pub number : r.id.0 ≡ adds h
  pub counted : adds h ≡ length (requests h)
  pub unsent : cost_of h (adds h) ≡ 0
  pub undone : state_of h (adds h) ≡ Queued
  pub kind : AddsKind w h by r.kind r.n r.first

-- the request that the scheduler picks among those that are queued; a write is the first of those
pub record SendFits (w : Workload) (h : List Event) (id : ReqId) (cost : ℕ) : Type 0 where
  pub added : id.0 < adds h
  pub request : Request
  pub at : slice_get (requests h) id.0 ≡ Some request
  pub numbered : request.id ≡ id
  pub cost_is : cost ≡ cost_of (h ▹ Send id cost) id.0
  pub free : length (in_flight h) < w.depth
  pub picked : pick w h ≡ Some request
  pub place : ℕ
  pub queued_at : slice_get (queued h) place ≡ Some request
  pub rest : remove (queued h) place ≡ queued (h ▹ Send id cost)
  -- a write is the first of the writes that are queued
  pub in_turn : IsTrue (is_write request) → find is_write (queued h) ≡ Some request
  pub flies : in_flight (h ▹ Send id cost) ≡ in_flight h ++ request ∷ []
  pub end_is : request.first + request.n ≡ head (h ▹ Send id cost)
  pub end_most : request.first + request.n ≤ 32768

-- the buffers that are still to be written once a request is done are those that it doesn't write
abbrev pub Frees : List Event → Event → Request → Type 0
Frees h e r = (b : Buf) → list_any (λ q. covers q b) (unfinished (h ▹ e))
    ≡ (not (covers r b) && list_any (λ q. covers q b) (unfinished h))

-- what is asked of a request that is done, by its kind: a run of pages with their blocks, whose file may be gone, or one
-- such page, which is loading where its file is there, or blocks below those of data
abbrev pub DoneKind : Workload → List Event → ReqKind → ℕ → ℕ → Type 0
DoneKind w h (Pages s g) n first = HaveBlocks w h s g n first
DoneKind w h (Read p s g) n first =
    (n ≡ 1) × HaveBlocks w h s g n first × (IsTrue (is_live w h s.0) → IsTrue (is_loading w h (Page s g)))
DoneKind w h _ n first = IsBelowData w n first

-- one of the requests in flight, which is done well
pub record DoneFits (w : Workload) (h : List Event) (k : ℕ) (id : ReqId) (ok : Bool) : Type 0 where
  pub added : id.0 < adds h
  pub request : Request
  pub at : slice_get (requests h) id.0 ≡ Some request
  pub ok_is : ok ≡ true
  pub kind : DoneKind w h request.kind request.n request.first
  pub within : k < length (in_flight h)
  pub rest : remove (in_flight h) k ≡ in_flight (h ▹ Done k id ok)
  pub frees : Frees h (Done k id ok) request
  pub clock_fits : now h + cost_of h id.0 < 2 ^ 63
  pub bills_fit : (p : ℕ) → billed w h p + bill w h id.0 p < 2 ^ 63
  pub payers : (p : ℕ) → IsTrue (has (tag h id.0) p) → (1 ≤ p) × (p ≤ length w.procs)
  pub bill_is : (p : ℕ) → bill w h id.0 p ≡ share_of (cost_of h id.0) (tag h id.0) p

-- a seal takes the next number, which fits
pub record SealFits (w : Workload) (h : List Event) (t : Txn) (k : ℕ) : Type 0 where
  pub number : t ≡ next_txn h
  pub few : seals h < 2 ^ 31
  pub next : next_of_commit w h ≡ Some (Seal t k)

-- what is known of an event by its kind; no time passes without a request
abbrev pub FitsKind : Workload → List Event → Event → Type 0
FitsKind w h (Enter p k) = Unit {0}
FitsKind w h (Admit p) = Unit {0}
FitsKind w h (Make by slot serial) = MakeFits w h by slot serial
FitsKind w h (Put by s g from to fill) = PutFits w h by s g from to fill
FitsKind w h (Get by s g from to sum) = GetFits w h by s g from to sum
FitsKind w h (Drop by slot serial) = DropFits w h slot serial
FitsKind w h (Flushed p) = Unit {0}
FitsKind w h (Ret p r) = Unit {0}
FitsKind w h (Serve s g n) = Unit {0}
FitsKind w h (Map slot s g n block new size) = MapFits w h slot s g n block new size
FitsKind w h Skip = Unit {0}
FitsKind w h (Seal t k) = SealFits w h t k
FitsKind w h (Add by r) = AddFits w h by r
FitsKind w h (Send id cost) = SendFits w h id cost
FitsKind w h (Done k id ok) = DoneFits w h k id ok
FitsKind w h (Evict by s g) = victim w h ≡ Some (Page s g)
FitsKind w h (Tick d) = ⊥

pub record Fits (w : Workload) (h : List Event) (e : Event) : Type 0 where
  pub legal : IsLegal w (h ▹ e)
  pub by : (p : Pid) → maker e ≡ Client p → ClientFits w h p
  pub short : length h < 2 ^ 31
  pub procs : length w.procs ≤ 32
  pub kind : FitsKind w h e
