-- What is known of every legal history of an accepted workload, event by event.
use Rattle.std.proofs.Common.{◌≡◌, ℕ, zero, suc, ◌+◌, ◌-◌, ◌==◌, ◌<◌, ◌≤◌, List, [], ◌∷◌, ◌++◌, slice_get, Bool, true, false, not, Option, Some, None, refl, arith, subst, sym, inl, inr, ap, cond, nat_lt, if◌then◌else◌}
use Rattle.std.specs.List.{list_any}
use Rattle.std.proofs.lemmas.Bool.{both_ways, cond_both, eqb-true, cases_Bool}
use Rattle.std.proofs.lemmas.Bool.Decides.{nat_tests}
use Rattle.std.proofs.lemmas.Option.{slice_get_within}
use Rattle.split_types.specs.declared.ids.Pid.{Pid}
use Rattle.split_types.specs.declared.ids.Serial.{Serial}
use Rattle.split_types.specs.declared.buf.Buf.{Buf}
use Rattle.split_types.specs.declared.buf.Buf.TheVariants.{Page}
use Rattle.split_types.specs.declared.actor.Actor.{Actor}
use Rattle.split_types.specs.declared.request.Request.{Request}
use Rattle.split_types.specs.declared.request.Run.{Run}
use Rattle.split_types.specs.declared.workload.Workload.{Workload}
use Rattle.split_types.specs.declared.event.Event.{Event}
use Rattle.split_types.specs.declared.event.Event.TheVariants.{Make, Add, Send, Done, Tick}
use Rattle.split_types.specs.History.{◌▹◌, adds}
use Rattle.split_types.specs.Hooks.{maker, covers, is_among}
use Rattle.split_types.specs.Requests.{is_numbered, requests, queued, in_flight, unfinished}
use Rattle.split_types.specs.CostAndClock.{head, cost_at, cost_of, now, first_of, length_of, seek, distance}
use Rattle.split_types.specs.Pages.{is_ready}
use Rattle.split_types.specs.FileMaps.{mapped_block}
use Rattle.split_types.specs.Schedulers.{pick}
use Rattle.split_types.specs.Transactions.{is_of_commit}
use Rattle.split_types.specs.Workloads.{first_block}
use Rattle.split_types.specs.Writeback.{service, served_run}
use Rattle.split_types.specs.Serving.{request_for}
use Rattle.split_types.specs.ServedRuns.{are_apart}
use Rattle.split_types.specs.FilesInOrder.{all_files}
use Rattle.split_types.specs.MapsInOrder.{AreMaps, IsServed, MapsAreInOrder}
use Rattle.split_types.specs.Next.{send_of}
use Rattle.split_types.specs.Accepted.{IsAccepted}
use Rattle.split_types.specs.Legal.{IsLegal}
use Rattle.split_types.specs.Proving.Came.{Came, read_request, journal_request}
use Rattle.split_types.specs.Proving.Came.Came.{came_load, came_add, came_journal, came_send, came_done}
use Rattle.split_types.specs.Proving.Runs.{MovesRun}
use Rattle.split_types.specs.Proving.JournalKnown.{JournalKnown}
use Rattle.split_types.specs.Proving.Known.{Known, KnownRequests, MoveRuns, HasRun, TakeOnce, AreSmall, dones}
use Rattle.split_types.proofs.CameLaws.{came}
use Rattle.split_types.proofs.MapLaws.{maps_are_in_order}
use Rattle.split_types.proofs.PromiseLaws.{promised}
use Rattle.split_types.proofs.Lists.{slice_get-push, count_push, count_none, count_filter_less}
use Rattle.split_types.proofs.JournalAdds.{of_journal}
use Rattle.split_types.proofs.JournalStepsAdds.{journal_known}
use Rattle.split_types.proofs.RequestLaws.{picked_there, known_requests}
use Rattle.split_types.proofs.ReadyLaws.{ready_parts}

-- ---- pages that are taken
same_serial : (s t : Serial) → s.0 ≡ t.0 → s ≡ t
same_serial s t e = ap (λ n. record { 0 = n }) e

-- a page of a run that is ready isn't taken
pub take_add : (w : Workload) (h : List Event) (run : Run) (block : ℕ)
    → ((k : ℕ) → k < run.n → is_ready w h (Page run.serial (run.page + k)) ≡ true)
    → TakeOnce (unfinished h) → TakeOnce (unfinished h ++ request_for (adds h) run block ∷ [])
take_add w h run block all_ready once s g =
    let more = count_push (λ r. covers r (Page s g)) (unfinished h) (request_for (adds h) run block)
    in elim (cases_Bool (is_among run.serial run.page run.n (Page s g))) [
      | inr other ↦ omega (arith, more, out other, once s g)
      | inl among ↦
          omega (
            arith,
            more,
            at_most (is_among run.serial run.page run.n (Page s g)),
            count_none (λ r. covers r (Page s g)) (unfinished h) (idle among),
          )
    ]
  where
    out : {b : Bool} → b ≡ false → ◌≡◌ {A = ℕ} (cond b 1 0) 0
    out e = rw e refl

    at_most : (b : Bool) → cond b 1 0 ≤ 1
    at_most true = omega arith
    at_most false = omega arith

    idle : is_among run.serial run.page run.n (Page s g) ≡ true
        → list_any (λ r. covers r (Page s g)) (unfinished h) ≡ false
    idle among =
        let within : (run.serial.0 ≡ s.0) × (run.page ≤ g) × (g < run.page + run.n) = grind (arith, nat_tests)
        in let offset : run.page + (g - run.page) ≡ g = omega (arith, within)
        in let here = all_ready (g - run.page) (omega (arith, within))
        in let ready : is_ready w h (Page s g) ≡ true =
        subst (λ k. is_ready w h (Page s k) ≡ true) offset
        (subst (λ t. is_ready w h (Page t (run.page + (g - run.page))) ≡ true)
        (same_serial run.serial s within.0) here)
        in (ready_parts w h s g ready).idle

-- ---- runs
runs_push : (total : ℕ) (block_of : ℕ → ℕ → Option ℕ) (all : List Request) (r : Request)
    → (is_of_commit r ≡ false → MovesRun total block_of r) → MoveRuns total block_of all
    → MoveRuns total block_of (all ++ r ∷ [])
runs_push total block_of all r run runs i q at none =
    elim (slice_get-push all r i q at) [
      | inl old ↦ runs i q old none
      | inr new ↦
          subst (MovesRun total block_of) new.1 (run (subst (λ x. is_of_commit x ≡ false) (sym new.1) none))
    ]

-- a request keeps its pages where there come more files, and a page that has a block keeps it
pub runs_stay : (total more : ℕ) (was now : ℕ → ℕ → Option ℕ) (all : List Request) → total ≤ more
    → ((s g x : ℕ) → was s g ≡ Some x → now s g ≡ Some x) → MoveRuns total was all → MoveRuns more now all
runs_stay total more was now all most stays runs i r at none =
    let run = runs i r at none
    in record {
      serial = run.serial;
      page = run.page;
      kind = run.kind;
      run = record {
        file = omega (arith, most, run.run.file);
        some = run.run.some;
        most = run.run.most;
        within = run.run.within;
      };
      place = λ k below. stays run.serial.0 (run.page + k) ((r.first + k)) (run.place k below);
    }

-- of two pages that are k pages apart in a run, the second has a block k behind that of the first
apart_by : (k x : ℕ) (o : Option ℕ) → are_apart k (Some x) o ≡ true → o ≡ Some (x + k)
apart_by k x None is = absurd (cc)
apart_by k x (Some y) is = ap Some (eqb-true y (x + k) is)

-- a request for the run that is served writes that run
pub moves_served : (w : Workload) (h : List Event) (id : ℕ) (run : Run) (block : ℕ) → IsServed w h run
    → mapped_block w h run.serial.0 run.page ≡ Some block
    → MovesRun (all_files w h) (mapped_block w h) (request_for id run block)
moves_served w h id run block served at = record {
  serial = run.serial;
  page = run.page;
  kind = inl refl;
  run = record { file = served.numbered; some = served.some; most = served.most; within = served.within };
  place =
      λ k below. apart_by k block (mapped_block w h run.serial.0 (run.page + k))
      (subst (λ o. are_apart k o (mapped_block w h run.serial.0 (run.page + k)) ≡ true) at (served.in_a_row k below));
}

pub moves_load : (w : Workload) (h : List Event) (id : ℕ) (by : Pid) (serial : Serial) (page block : ℕ)
    → AreMaps w h → mapped_block w h serial.0 page ≡ Some block
    → MovesRun (all_files w h) (mapped_block w h) (read_request id by serial page block)
moves_load w h id by serial page block maps at =
    let is = maps.placed serial.0 page block at in
    record {
      serial = serial;
      page = page;
      kind = inr (by, refl);
      run = record { file = is.numbered; some = omega arith; most = omega arith; within = omega (arith, is.page) };
      place = λ k below. first k (omega (arith, below));
    }
  where
    first : (k : ℕ) → k ≡ 0 → mapped_block w h serial.0 (page + k) ≡ Some (block + k)
    first zero is =
        let same : page ≡ page + 0 = omega arith
        in let next : block ≡ block + 0 = omega arith
        in subst (λ g. mapped_block w h serial.0 g ≡ Some (block + 0)) same
        (subst (λ x. mapped_block w h serial.0 page ≡ Some x) next at)
    first (suc k) is = absurd (omega (arith, is))

-- a run ends within the disk
pub run_within : (w : Workload) (h : List Event) (r : Request) → IsAccepted w → AreMaps w h
    → MovesRun (all_files w h) (mapped_block w h) r → r.first + r.n ≤ w.device
run_within w h r accepted maps run =
    let last = run.place (r.n - 1) (omega (arith, run.run.some))
    in let placed = maps.placed run.serial.0 (run.page + (r.n - 1)) (r.first + (r.n - 1)) last
    in omega (arith, placed.to, run.run.some)

-- whatever a request moves
pub has_run : (w : Workload) (h : List Event) (i : ℕ) (r : Request)
    → MoveRuns (all_files w h) (mapped_block w h) (requests h) → JournalKnown w h → slice_get (requests h) i ≡ Some r
    → HasRun w h r
has_run w h i r runs j at = elim (cases_Bool (is_of_commit r)) [
  | inl is ↦ inr (j.runs i r at is)
  | inr none ↦ inl (runs i r at none)
]

-- the blocks of data begin early on the disk
first_block_most : (w : Workload) → first_block w ≤ 1318
first_block_most w = by_version (nat_lt w.version 2)
  where
    by_version : (b : Bool) → ◌≤◌ (if b then 526 else 1318) 1318
    by_version true = omega arith
    by_version false = omega arith

-- it ends within the largest disk
pub ends_within : (w : Workload) (h : List Event) (r : Request) → IsAccepted w → AreMaps w h → HasRun w h r
    → r.first + r.n ≤ 32768
ends_within w h r accepted maps (inl run) =
    omega (arith, run_within w h r accepted maps run, accepted.workload.machine.device_most)
ends_within w h r accepted maps (inr j) = omega (arith, j.within, first_block_most w)

-- and is at most as long as the longest log
pub longest : (w : Workload) (h : List Event) (r : Request) → HasRun w h r → r.n ≤ 262
longest w h r (inl run) = omega (arith, run.run.most)
longest w h r (inr j) = j.most

-- ---- numbers
pub seek_most : (x : ℕ) → seek x ≤ 100
seek_most x = grind (arith, nat_tests)

-- what is known of the request of a number
pub record RequestOf (w : Workload) (h : List Event) (id : ℕ) (r : Request) : Type 0 where
  pub number : r.id.0 ≡ id
  pub first_is : first_of h id ≡ r.first
  pub length_is : length_of h id ≡ r.n
  pub run : is_of_commit r ≡ false → MovesRun (all_files w h) (mapped_block w h) r
  pub below : id < adds h

pub request_of : (w : Workload) (h : List Event) (id : ℕ) (r : Request) → Known w h
    → slice_get (requests h) id ≡ Some r → RequestOf w h id r
request_of w h id r f at = record {
  number = f.numbered.number_is id r at;
  first_is = f.numbered.first_is id r at;
  length_is = f.numbered.length_is id r at;
  run = f.runs id r at;
  below = omega (arith, f.numbered.counted, slice_get_within (requests h) id r at);
}

-- the request that is queued or in flight at a place
pub queued_of : (w : Workload) (h : List Event) (k : ℕ) (r : Request) → Known w h → slice_get (queued h) k ≡ Some r
    → RequestOf w h r.id.0 r
queued_of w h k r f at = request_of w h r.id.0 r f (f.waiting.queue_of k r at)

pub flight_of : (w : Workload) (h : List Event) (k : ℕ) (r : Request) → Known w h
    → slice_get (in_flight h) k ≡ Some r → RequestOf w h r.id.0 r
flight_of w h k r f at = request_of w h r.id.0 r f (f.waiting.flight_of k r at)

cost_sent : (w : Workload) (h : List Event) (id : ℕ) (r : Request) → RequestOf w h id r → HasRun w h r
    → cost_at (head h) (first_of h id) (length_of h id) ≤ 624
cost_sent w h id r of run =
    omega (arith, seek_most (distance (first_of h id) (head h)), of.length_is, longest w h r run)

small_send : (w : Workload) (h : List Event) (r : Request) → IsAccepted w → AreMaps w h → RequestOf w h r.id.0 r
    → HasRun w h r → AreSmall (head h) (cost_of h) (now h) (dones h)
    → AreSmall (head (h ▹ send_of h r)) (cost_of (h ▹ send_of h r)) (now h) (dones h)
small_send w h r accepted maps of run small = record {
  head_most =
      omega (arith, of.first_is, of.length_is, ends_within w h r accepted maps run);
  cost_most =
      λ id. cond_both (id == r.id.0) (cost_at (head h) (first_of h id) (length_of h id)) (cost_of h id)
      (λ n. n ≤ 624)
      (λ same. subst (λ j. cost_at (head h) (first_of h j) (length_of h j) ≤ 624) (sym (eqb-true id r.id.0 same))
      (cost_sent w h r.id.0 r of run))
      (λ other. small.cost_most id);
  clock_most = small.clock_most;
}

small_done : (stands : ℕ) (cost : ℕ → ℕ) (clock done id : ℕ) → AreSmall stands cost clock done
    → AreSmall stands cost (clock + cost id) (done + 1)
small_done stands cost clock done id small = record {
  head_most = small.head_most;
  cost_most = small.cost_most;
  clock_most = omega (arith, small.clock_most, small.cost_most id);
}

-- ---- every legal history
-- what is known of the runs that requests move, of the pages that are taken, and of the numbers
record KnownMoves (w : Workload) (h : List Event) : Type 0 where
  pub runs : MoveRuns (all_files w h) (mapped_block w h) (requests h)
  pub takes : TakeOnce (unfinished h)
  pub small : AreSmall (head h) (cost_of h) (now h) (dones h)

-- with what is known of the requests, that is all
both_known : (w : Workload) (h : List Event) → KnownRequests h → KnownMoves w h → Known w h
both_known w h f m = record {
  numbered = f.numbered;
  waiting = f.waiting;
  unmade = f.unmade;
  runs = m.runs;
  takes = m.takes;
  rises = f.rises;
  small = m.small;
  going = f.going;
}

moves_none : (w : Workload) → KnownMoves w []
moves_none w = record {
  runs = λ i r at. absurd (cc);
  takes = λ s g. omega arith;
  small = record { head_most = omega arith; cost_most = λ id. omega arith; clock_most = omega arith };
}

-- what the maps are before an event and after it
pub record MapsBoth (w : Workload) (h : List Event) (e : Event) : Type 0 where
  pub before : AreMaps w h
  pub files : all_files w h ≤ all_files w (h ▹ e)
  pub stays : (s g x : ℕ) → mapped_block w h s g ≡ Some x → mapped_block w (h ▹ e) s g ≡ Some x
  pub served : (run : Run) → served_run (service h) ≡ Some run → IsServed w h run

runs_next : (w : Workload) (h : List Event) (e : Event) → MapsBoth w h e
    → MoveRuns (all_files w h) (mapped_block w h) (requests h)
    → MoveRuns (all_files w (h ▹ e)) (mapped_block w (h ▹ e)) (requests h)
runs_next w h e maps runs =
    runs_stay (all_files w h) (all_files w (h ▹ e)) (mapped_block w h) (mapped_block w (h ▹ e)) (requests h) maps.files
    maps.stays runs

-- a request of the journal takes no page
take_none : (left : List Request) (r : Request) → ((b : Buf) → covers r b ≡ false) → TakeOnce left
    → TakeOnce (left ++ r ∷ [])
take_none left r none once s g =
    omega (arith, count_push (λ q. covers q (Page s g)) left r, out (covers r (Page s g)) (none (Page s g)), once s g)
  where
    out : (b : Bool) → b ≡ false → ◌≡◌ {A = ℕ} (cond b 1 0) 0
    out b e = rw e refl

moves_add : (w : Workload) (h : List Event) (by : Actor) (r : Request) → MapsBoth w h (Add by r) → KnownMoves w h
    → Came w h (Add by r) → KnownMoves w (h ▹ Add by r)
moves_add w h by r maps f (came_load p c s piece here absent block at) = record {
  runs =
      runs_push (all_files w h) (mapped_block w h) (requests h) (read_request (adds h) p s piece.page block)
      (λ none. moves_load w h (adds h) p s piece.page block maps.before at) f.runs;
  takes = take_none (unfinished h) (read_request (adds h) p s piece.page block) (λ b. refl) f.takes;
  small = f.small;
}
moves_add w h by r maps f (came_add run block at there placed long) =
    let served = maps.served run at
    in record {
      runs =
          runs_push (all_files w h) (mapped_block w h) (requests h) (request_for (adds h) run block)
          (λ none. moves_served w h (adds h) run block served placed) f.runs;
      takes = take_add w h run block (served.ready there) f.takes;
      small = f.small;
    }
moves_add w h by r maps f (came_journal kind first n j) =
    let of = of_journal w h (adds h) kind first n j
    in record {
      runs =
          runs_push (all_files w h) (mapped_block w h) (requests h) (journal_request (adds h) kind first n)
          (λ none. absurd (both_ways (is_of_commit (journal_request (adds h) kind first n)) none of.commits)) f.runs;
      takes = take_none (unfinished h) (journal_request (adds h) kind first n) of.covers_none f.takes;
      small = f.small;
    }

moves_send : (w : Workload) (h : List Event) (r : Request) → IsAccepted w → AreMaps w h → pick w h ≡ Some r
    → KnownRequests h → JournalKnown w h → KnownMoves w h → KnownMoves w (h ▹ send_of h r)
moves_send w h r accepted maps picked known j f =
    let there = picked_there w h r accepted picked
    in let of = queued_of w h there.0 r (both_known w h known f) there.1
    in let run = has_run w h r.id.0 r f.runs j (known.waiting.queue_of there.0 r there.1)
    in record { runs = f.runs; takes = f.takes; small = small_send w h r accepted maps of run f.small }

moves_done : (w : Workload) (h : List Event) (k : ℕ) (r : Request) → KnownMoves w h
    → KnownMoves w (h ▹ Done k r.id true)
moves_done w h k r f = record {
  runs = f.runs;
  takes =
      λ s g. omega (
        arith,
        count_filter_less (λ q. covers q (Page s g)) (λ q. not (is_numbered r.id q)) (unfinished h),
        f.takes s g,
      );
  small = small_done (head h) (cost_of h) (now h) (dones h) r.id.0 f.small;
}

-- one more event that comes next
moves_next : (w : Workload) (h : List Event) (e : Event) → IsAccepted w → MapsBoth w h e → KnownRequests h
    → JournalKnown w h → KnownMoves w h → Came w h e → KnownMoves w (h ▹ e)
moves_next w h (Add by r) accepted maps known j f row = moves_add w h by r maps f row
moves_next w h (Send id cost) accepted maps known j f (came_send r free picked) =
    moves_send w h r accepted maps.before picked known j f
moves_next w h (Done i id ok) accepted maps known j f (came_done k r at) = moves_done w h k r f
moves_next w h (Tick d) accepted maps known j f row = absurd (elim row [ ])
moves_next w h e accepted maps known j f row = record {
  runs = runs_next w h e maps f.runs;
  takes = f.takes;
  small = f.small;
}

-- ---- files and maps are in order
pub maps_known : MapsAreInOrder
maps_known = maps_are_in_order promised

-- there come more files with each event, and none fewer
pub more_files : (w : Workload) (h : List Event) (e : Event) → all_files w h ≤ all_files w (h ▹ e)
more_files w h (Make by slot serial) = omega arith
more_files w h e = omega arith

maps_both : (w : Workload) (h : List Event) (e : Event) → IsAccepted w → IsLegal w (h ▹ e) → MapsBoth w h e
maps_both w h e accepted legal = record {
  before = maps_known.maps w h accepted legal.1;
  files = more_files w h e;
  stays = λ s g x at. maps_known.stays w h e s g x accepted legal at;
  served = λ run at. maps_known.served w h run accepted legal.1 at;
}

moves : (w : Workload) (h : List Event) → IsAccepted w → IsLegal w h → KnownMoves w h
moves w [] accepted legal = moves_none w
moves w (h ▹ e) accepted legal =
    moves_next w h e accepted (maps_both w h e accepted legal) (known_requests w h accepted legal.1)
    (journal_known w h accepted legal.1) (moves w h accepted legal.1) (came w h (maker e) e legal.0)

pub known : (w : Workload) (h : List Event) → IsAccepted w → IsLegal w h → Known w h
known w h accepted legal = both_known w h (known_requests w h accepted legal) (moves w h accepted legal)
