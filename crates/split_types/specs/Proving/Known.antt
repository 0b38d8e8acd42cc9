-- Only proofs need this: what is known of every legal history of an accepted workload, each part over what it speaks
-- of.
use Rattle.std.specs.Prelude.{◌≡◌, ℕ, ◌+◌, ◌*◌, ◌<◌, ◌≤◌, List, [], ◌∷◌, length, slice_get, count_by, IsFalse, ◌⊎◌, false, Option, Some}
use Rattle.split_types.specs.declared.ids.ReqId.{ReqId}
use Rattle.split_types.specs.declared.ids.Serial.{Serial}
use Rattle.split_types.specs.declared.buf.Buf.TheVariants.{Page}
use Rattle.split_types.specs.declared.request.Request.{Request}
use Rattle.split_types.specs.declared.facts.ReqState.{ReqState}
use Rattle.split_types.specs.declared.facts.ReqState.TheVariants as state
use Rattle.split_types.specs.declared.workload.Workload.{Workload}
use Rattle.split_types.specs.declared.event.Event.{Event}
use Rattle.split_types.specs.declared.event.Event.TheVariants.{Done}
use Rattle.split_types.specs.History.{◌▹◌, adds}
use Rattle.split_types.specs.Hooks.{covers}
use Rattle.split_types.specs.Requests.{is_numbered, requests, queued, in_flight, unfinished, state_of, sends}
use Rattle.split_types.specs.Reads.{request_numbered}
use Rattle.split_types.specs.CostAndClock.{head, cost_of, now, first_of, length_of}
use Rattle.split_types.specs.FileMaps.{mapped_block}
use Rattle.split_types.specs.Schedulers.{has_stopped}
use Rattle.split_types.specs.FilesInOrder.{all_files}
use Rattle.split_types.specs.Transactions.{is_of_commit}
use Rattle.split_types.specs.Proving.Runs.{MovesRun}
use Rattle.split_types.specs.Proving.JournalKnown.{IsJournalRun}

-- the number of completions
abbrev pub dones : List Event → ℕ
dones [] = 0
dones (h ▹ Done k id ok) = dones h + 1
dones (h ▹ e) = dones h

-- requests are numbered in the order in which they were added
pub record AreNumbered (all : List Request) (count : ℕ) (first long : ℕ → ℕ) : Type 0 where
  pub counted : count ≡ length all
  pub number_is : (i : ℕ) (r : Request) → slice_get all i ≡ Some r → r.id.0 ≡ i
  pub first_is : (i : ℕ) (r : Request) → slice_get all i ≡ Some r → first i ≡ r.first
  pub length_is : (i : ℕ) (r : Request) → slice_get all i ≡ Some r → long i ≡ r.n

-- each of some requests stands among all of them, at its number
abbrev pub AreOf : List Request → List Request → Type 0
AreOf all some = (k : ℕ) (r : Request) → slice_get some k ≡ Some r → slice_get all r.id.0 ≡ Some r

-- each request is queued, in flight, or done; those that aren't done are unfinished
pub record AreWaiting (all queue flight left : List Request) (sent done : ℕ) : Type 0 where
  pub queue_of : AreOf all queue
  pub flight_of : AreOf all flight
  pub left_of : AreOf all left
  pub once : (id : ReqId) → count_by (is_numbered id) queue + count_by (is_numbered id) flight ≤ 1
  pub left_once : (id : ReqId)
      → count_by (is_numbered id) left ≡ count_by (is_numbered id) queue + count_by (is_numbered id) flight
  pub queue_long : length queue + sent ≡ length all
  pub flight_long : length flight + done ≡ sent

-- these requests have rising numbers, from one on and up to another
abbrev pub RiseTo : ℕ → List Request → ℕ → Type 0
RiseTo low [] high = low ≤ high
RiseTo low (r ∷ rs) high = (low ≤ r.id.0) × RiseTo (r.id.0 + 1) rs high

-- a request that isn't added yet has cost nothing, and isn't done
pub record AreUnmade (count : ℕ) (cost : ℕ → ℕ) (state_at : ℕ → ReqState) : Type 0 where
  pub cost_none : (id : ℕ) → count ≤ id → cost id ≡ 0
  pub state_none : (id : ℕ) → count ≤ id → state_at id ≡ state.Queued

-- each request that isn't the commit thread's moves a run of pages
abbrev pub MoveRuns : ℕ → (ℕ → ℕ → Option ℕ) → List Request → Type 0
MoveRuns total block_of all =
    (i : ℕ) (r : Request) → slice_get all i ≡ Some r → is_of_commit r ≡ false → MovesRun total block_of r

-- a request moves a run of pages, or some of the blocks below those of data where it is the commit thread's
abbrev pub HasRun : Workload → List Event → Request → Type 0
HasRun w h r = MovesRun (all_files w h) (mapped_block w h) r ⊎ IsJournalRun w r

-- one unfinished request at most writes a page
abbrev pub TakeOnce : List Request → Type 0
TakeOnce left = (s : Serial) (g : ℕ) → count_by (λ r. covers r (Page s g)) left ≤ 1

-- the numbers stay small
pub record AreSmall (stands : ℕ) (cost : ℕ → ℕ) (clock done : ℕ) : Type 0 where
  pub head_most : stands ≤ 32768
  pub cost_most : (id : ℕ) → cost id ≤ 624
  pub clock_most : clock ≤ 624 * done

-- what is known of the requests, whatever they move
pub record KnownRequests (h : List Event) : Type 0 where
  pub numbered : AreNumbered (requests h) (adds h) (first_of h) (length_of h)
  pub waiting : AreWaiting (requests h) (queued h) (in_flight h) (unfinished h) (sends h) (dones h)
  pub unmade : AreUnmade (adds h) (cost_of h) (state_of h)
  pub rises : RiseTo 0 (queued h) (adds h)
  -- the request of a number stands at that place; one that isn't unfinished was done well
  pub named : (id : ReqId) (r : Request) → slice_get (requests h) id.0 ≡ Some r → request_numbered h id ≡ Some r
  pub finished : (id : ReqId) → id.0 < adds h → count_by (is_numbered id) (unfinished h) ≡ 0
      → state_of h id.0 ≡ state.Done
  -- no write was done badly
  pub going : IsFalse (has_stopped h)

pub record Known (w : Workload) (h : List Event) : Type 0 where
  pub numbered : AreNumbered (requests h) (adds h) (first_of h) (length_of h)
  pub waiting : AreWaiting (requests h) (queued h) (in_flight h) (unfinished h) (sends h) (dones h)
  pub unmade : AreUnmade (adds h) (cost_of h) (state_of h)
  pub runs : MoveRuns (all_files w h) (mapped_block w h) (requests h)
  pub takes : TakeOnce (unfinished h)
  pub rises : RiseTo 0 (queued h) (adds h)
  pub small : AreSmall (head h) (cost_of h) (now h) (dones h)
  -- no write was done badly
  pub going : IsFalse (has_stopped h)
