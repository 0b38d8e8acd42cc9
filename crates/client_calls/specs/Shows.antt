-- How what a process sees has to do with what decides its next event.
use Rattle.std.specs.Prelude.{◌≡◌, ℕ, Bool, ◌&&◌, List, false, sum, slice_range, Option, Some, None, is_some, IsSomeAnd, IfSome}
use Rattle.split_types.specs.declared.ids.Pid.{Pid}
use Rattle.split_types.specs.declared.ids.Serial.{Serial}
use Rattle.split_types.specs.declared.buf.Buf.{Buf}
use Rattle.split_types.specs.declared.buf.Buf.TheVariants.{Page}
use Rattle.split_types.specs.declared.call.Call.{Call}
use Rattle.split_types.specs.declared.call.Call.TheVariants.{Fsync}
use Rattle.split_types.specs.declared.event.Event.{Event}
use Rattle.split_types.specs.LiveFiles.{free_slot}
use Rattle.split_types.specs.Pieces.{Piece}
use Rattle.split_types.specs.Clients.{PieceState, ClientState}
use Rattle.page_cache.specs.Cached.{Cached, page_of, is_loading, is_unsettled, is_idle}
use Rattle.page_cache.specs.Changes.{IsVictim, IsLoaded, bytes_in}
use Rattle.client_calls.specs.declared.next.ClientNext.{ClientNext}
use Rattle.client_calls.specs.declared.next.ClientNext.TheVariants.{Nothing, Wait, Act}
use Rattle.client_calls.specs.declared.progress.Progress.{Progress}
use Rattle.client_calls.specs.View.{View, is_crowded, is_full, piece_left}
use Rattle.client_calls.specs.CallFile.{slot_in, file_in, is_name_taken}
use Rattle.client_calls.specs.Space.{block_of, is_without_space, is_in_run}

-- the page that is evicted next, where the cache says which one that is; none where no page may be evicted
pub record IsEvicted (c : Cached) (next : Option Buf) : Type 0 where
  pub some : (b : Buf) → IsVictim c b → next ≡ Some b
  pub none : ((b : Buf) → is_idle (page_of c b) ≡ false) → next ≡ None

-- what decides how the call of process p goes on with a piece of a file is what the process sees; the sum counts
-- where the bytes of the page are there
pub record ShowsPiece (p : Pid) (file : Serial) (left : Piece) (v : View) (s : PieceState) : Type 0 where
  pub by : s.by ≡ p
  pub serial : s.serial ≡ file
  pub piece : s.piece ≡ left
  pub read_badly : s.read_badly ≡ v.progress.bad_read
  pub moved : s.moved ≡ v.progress.moved
  pub loading : s.loading ≡ is_loading (page_of v.cache (Page file left.page))
  pub in_mapped_run : s.in_mapped_run ≡ is_in_run v.mapped (Page file left.page)
  pub unsettled : s.unsettled ≡ is_unsettled (page_of v.cache (Page file left.page))
  pub held : s.held ≡ is_some (page_of v.cache (Page file left.page))
  pub block : s.block ≡ block_of v.files.slots file left.page
  pub without_space : s.without_space ≡ is_without_space v file left.page
  pub crowded : s.crowded ≡ is_crowded v
  pub full : s.full ≡ is_full v
  pub victim : IsEvicted v.cache s.victim
  pub adds : s.adds ≡ v.next_id.0
  pub sum :
      IsLoaded v.cache (Page file left.page)
      → s.sum ≡ sum (slice_range (bytes_in (page_of v.cache (Page file left.page))) left.from left.to)

-- the same of the first piece that is left of a call, where one is left and the file is there
abbrev pub ShowsLeft : Pid → View → Option Serial → Option Piece → Option PieceState → Type 0
ShowsLeft p v (Some file) (Some left) s = IsSomeAnd s (ShowsPiece p file left v)
ShowsLeft p v (Some file) None s = s ≡ None
ShowsLeft p v None left s = s ≡ None

-- what decides the next event of process p is what the process sees
pub record Shows (p : Pid) (v : View) (s : ClientState) : Type 0 where
  pub by : s.by ≡ p
  pub number : s.number ≡ v.progress.number
  pub call : s.call ≡ v.progress.call
  pub entered : s.entered ≡ v.progress.entered
  pub may_admit : s.may_admit ≡ v.may_admit
  pub admitted : s.admitted ≡ v.progress.admitted
  pub acted : s.acted ≡ v.progress.acted
  -- what an fsync waits for counts in an fsync alone
  pub flushable : (name : List ℕ) → v.progress.call ≡ Some (Fsync name) → s.flushable ≡ v.flushable
  pub committed : (name : List ℕ) → v.progress.call ≡ Some (Fsync name) → s.committed ≡ v.committed
  pub name_taken : s.name_taken ≡ is_name_taken v.files.slots v.progress.call
  pub free_slot : s.free_slot ≡ free_slot v.files.slots
  pub new_serial : s.new_serial ≡ record { 0 = v.files.next }
  pub file : s.file ≡ file_in v.files.slots v.progress.bound
  -- the slot counts where the file is there
  pub slot : IfSome (slot_in v.files.slots v.progress.bound) (λ slot. s.slot ≡ record { 0 = slot })
  pub moved : s.moved ≡ v.progress.moved
  pub got : s.got ≡ v.progress.sum
  pub piece : ShowsLeft p v (file_in v.files.slots v.progress.bound) (piece_left v.progress) s.piece

-- the call is under way, and was let in
abbrev pub is_let_in : Progress → Bool
is_let_in progress = is_some progress.call && progress.entered && progress.admitted

-- what decides the next event of process p, as long as its call isn't let in, is how far it has come, and whether the
-- scheduler lets its call in
pub record ShowsCall (p : Pid) (progress : Progress) (may_admit : Bool) (s : ClientState) : Type 0 where
  pub by : s.by ≡ p
  pub number : s.number ≡ progress.number
  pub call : s.call ≡ progress.call
  pub entered : s.entered ≡ progress.entered
  pub may_admit_is : s.may_admit ≡ may_admit
  pub admitted : s.admitted ≡ progress.admitted

-- the answer where this event comes next, if one does, and this call is under way or left, if one is
abbrev pub answer_of : Option Event → Option Call → ClientNext
answer_of (Some e) call = Act e
answer_of None (Some call) = Wait
answer_of None None = Nothing
