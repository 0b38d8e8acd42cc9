-- A legal history of an accepted workload stays below the bound.
use Rattle.std.proofs.Common.{◌≡◌, ℕ, ◌+◌, ◌*◌, ◌==◌, ◌<◌, ◌≤◌, ◌^◌, List, [], ◌∷◌, length, Bool, true, false, not, ◌||◌, Option, Some, None, is_some, refl, arith, ap, subst, cond, sum_by, inl, inr}
use Rattle.std.proofs.lemmas.Bool.{cases_Bool}
use Rattle.std.proofs.lemmas.Option.{get_or_from_slice_get}
use Rattle.std.proofs.lemmas.List.Sums.{sum_by-le-sum_by, sum_by_more, sum_by-take-le, sum_by-cons}
use Rattle.split_types.specs.declared.ids.Pid.{Pid}
use Rattle.split_types.specs.declared.ids.Serial.{Serial}
use Rattle.split_types.specs.declared.ids.Slot.{Slot}
use Rattle.split_types.specs.declared.call.Call.{Call}
use Rattle.split_types.specs.declared.call.Call.TheVariants.{Creat, Write, Read, Fsync}
use Rattle.split_types.specs.declared.call.Reply.{Reply}
use Rattle.split_types.specs.declared.call.Reply.TheVariants as reply
use Rattle.split_types.specs.declared.actor.Actor.TheVariants.{Wb, Cm}
use Rattle.split_types.specs.declared.request.ReqKind.{ReqKind}
use Rattle.split_types.specs.declared.request.ReqKind.TheVariants.{Log, Commit, Home, Clear}
use Rattle.split_types.specs.declared.request.Run.{Run}
use Rattle.split_types.specs.declared.request.Service.{Service}
use Rattle.split_types.specs.declared.request.Service.TheVariants.{Serving}
use Rattle.split_types.specs.declared.workload.Workload.{Workload}
use Rattle.split_types.specs.declared.event.Event.{Event}
use Rattle.split_types.specs.declared.event.Event.TheVariants.{Make, Get, Drop, Ret, Serve, Map, Skip, Add}
use Rattle.split_types.specs.History.{◌▹◌, adds}
use Rattle.split_types.specs.Hooks.{maker}
use Rattle.split_types.specs.Requests.{sends}
use Rattle.split_types.specs.Rounds.{seals}
use Rattle.split_types.specs.Workloads.{processes, calls_of, span, spans}
use Rattle.split_types.specs.Accepted.{IsAccepted}
use Rattle.split_types.specs.Calls.{moved}
use Rattle.split_types.specs.Files.{is_live}
use Rattle.split_types.specs.FileSlots.{next_serial, slot_of}
use Rattle.split_types.specs.PageBytes.{sum_of_bytes}
use Rattle.split_types.specs.Pieces.{got}
use Rattle.split_types.specs.Writeback.{after_add, service, served_run}
use Rattle.split_types.specs.MapsInOrder.{AreMaps, IsServed}
use Rattle.split_types.specs.Proving.Came.{Came, HasCall, Journals, journal_request}
use Rattle.split_types.specs.Proving.Came.Came.{came_enter, came_admit, came_changed, came_exists, came_no_slot, came_make, came_drop, came_no_file, came_too_big}
use Rattle.split_types.specs.Proving.Came.Came.{came_wrote, came_read, came_fault, came_no_space, came_put, came_get, came_zeros, came_evict, came_load}
use Rattle.split_types.specs.Proving.Came.Came.{came_flushed, came_synced, came_seal, came_journal, came_serve, came_skip, came_map, came_grow, came_add, came_send, came_done}
use Rattle.split_types.specs.Legal.{IsLegal}
use Rattle.split_types.specs.Proving.Known.{dones}
use Rattle.split_types.specs.Draining.{StaysBelow}
use Rattle.split_types.proofs.CameLaws.{came}
use Rattle.split_types.proofs.KnownLaws.{known, maps_known}
use Rattle.split_types.proofs.Lists.{some_at}
use Rattle.split_types.proofs.SumLaws.{sum_by_both, sum_of, sum_of_each}
use Rattle.split_types.proofs.WorkLaws.{WorkAt, Work, ChangesAt, Changes, acts, changes, pieces, stage, work_kept}
use Rattle.split_types.proofs.WorkLaws.{changes_kept}
use Rattle.split_types.proofs.DirtyLaws.{dirty_pages, serves_live, dirty_none, dirty_put, dirty_load, dirty_add}
use Rattle.split_types.proofs.DirtyLaws.{dirty_make, dirty_drop, dirty_journal}
use Rattle.split_types.proofs.EvictLaws.{evicts, placed_pages, placed_done, placed_evict}
use Rattle.split_types.proofs.LoadLaws.{loads, AsksAt, asked}
use Rattle.split_types.proofs.JournalAdds.{of_journal}
use Rattle.split_types.proofs.BoundJournal.{maps, journal_adds, one_more, journal_tally}

-- the number of serves
abbrev pub serves : List Event → ℕ
serves [] = 0
serves (h ▹ Serve serial page n) = serves h + 1
serves (h ▹ e) = serves h

-- the number of skips
abbrev pub skips : List Event → ℕ
skips [] = 0
skips (h ▹ Skip) = skips h + 1
skips (h ▹ e) = skips h

-- the number of requests that writeback added
abbrev pub takes : List Event → ℕ
takes [] = 0
takes (h ▹ Add Wb r) = takes h + 1
takes (h ▹ e) = takes h

-- a run was served, and not mapped since
abbrev pub is_serving : Service → Bool
is_serving (Serving run) = true
is_serving _ = false

-- the file of a run, if there is one, was dropped
abbrev pub is_gone : Workload → List Event → Option Run → Bool
is_gone w h o = elim o [ None ↦ false | Some run ↦ not (is_live w h run.serial.0) ]

-- the events of a legal history, counted by kinds
pub record Tally (w : Workload) (h : List Event) : Type 0 where
  -- each is one of a process, among them those that make or drop a file or say that it is flushed, or a serve, a map, a
  -- skip, a seal, an add, a send, a completion or an eviction
  pub all : length h
      ≤ sum_by (acts h) (processes w) + sum_by (changes h) (processes w) + serves h + maps h + skips h + seals h
      + adds h + sends h + dones h + evicts h
  -- each add is one of writeback, of a process or of the commit thread
  pub added : adds h ≤ takes h + sum_by (loads h) (processes w) + journal_adds h
  -- for each add of writeback, and each page that is dirty, a piece was put
  pub dirtied : takes h + dirty_pages w h ≤ sum_by (pieces h) (processes w)
  -- each serve but the last led to an add or a skip
  pub served : serves h ≤ takes h + skips h + cond (is_some (served_run (service h))) 1 0
  -- for each map, and a run that is served and not mapped, there was a serve
  pub mapped : maps h + cond (is_serving (service h)) 1 0 ≤ serves h
  -- for each skip, and a run that is served and whose file is gone, a file was dropped
  pub skipped : skips h + cond (is_gone w h (served_run (service h))) 1 0 ≤ sum_by (changes h) (processes w)
  -- for each eviction, and each page that is placed, a piece was put or a request was done
  pub evicted : evicts h + length (placed_pages h) ≤ sum_by (pieces h) (processes w) + dones h

tally_ret : (w : Workload) (h : List Event) (q : Pid) (c : Call) (r : Reply) → HasCall w h q c → Tally w h
    → Tally w (h ▹ Ret q r)
tally_ret w h q c r has k =
    let more = one_more (acts h) q (length w.procs) has.first has.last
    in record {
      all = omega (arith, k.all, more);
      added = k.added;
      dirtied = k.dirtied;
      served = k.served;
      mapped = k.mapped;
      skipped = k.skipped;
      evicted = k.evicted;
    }

tally_get : (w : Workload) (h : List Event) (q : Pid) (c : Call) (s : Serial) (g from to sum : ℕ) → HasCall w h q c
    → Tally w h → Tally w (h ▹ Get q s g from to sum)
tally_get w h q c s g from to sum has k =
    let more = one_more (acts h) q (length w.procs) has.first has.last
    in let moved = one_more (pieces h) q (length w.procs) has.first has.last
    in record {
      all = omega (arith, k.all, more);
      added = k.added;
      dirtied = omega (arith, k.dirtied, moved);
      served = k.served;
      mapped = k.mapped;
      skipped = k.skipped;
      evicted = omega (arith, k.evicted, moved);
    }

-- a file is made: no more files are gone
gone_make : (w : Workload) (h : List Event) (q : Pid) (slot : Slot) (s : Serial) (o : Option Run)
    → cond (is_gone w (h ▹ Make q slot s) o) 1 0 ≤ cond (is_gone w h o) 1 0
gone_make w h q slot s None = omega arith
gone_make w h q slot s (Some run) = fewer (s.0 == run.serial.0) (is_live w h run.serial.0)
  where
    fewer : (a b : Bool) → cond (not (a || b)) 1 0 ≤ cond (not b) 1 0
    fewer true true = omega arith
    fewer false true = omega arith
    fewer true false = omega arith
    fewer false false = omega arith

at_most_one : (b : Bool) → cond b 1 0 ≤ 1
at_most_one true = omega arith
at_most_one false = omega arith

-- a run that was served is mapped, in part or whole
tally_map : (w : Workload) (h : List Event) (run : Run) (slot : Slot) (n block : ℕ) (new : Bool) (size : ℕ)
    → service h ≡ Serving run → is_live w h run.serial.0 ≡ true → Tally w h
    → Tally w (h ▹ Map slot run.serial run.page n block new size)
tally_map w h run slot n block new size is there k =
    record {
      all = omega (arith, k.all);
      added = k.added;
      dirtied = k.dirtied;
      served = subst (λ o. serves h ≤ takes h + skips h + cond (is_some (served_run o)) 1 0) is k.served;
      mapped = mapped (subst (λ o. maps h + cond (is_serving o) 1 0 ≤ serves h) is k.mapped);
      skipped = rw there (omega (arith, k.skipped));
      evicted = k.evicted;
    }
  where
    mapped : maps h + 1 ≤ serves h → maps h + 1 + 0 ≤ serves h
    mapped l = omega arith

-- the commit thread adds a request
journal_add : (w : Workload) (h : List Event) (kind : ReqKind) (first n : ℕ) → Journals w h kind first n
    → journal_adds (h ▹ Add Cm (journal_request (adds h) kind first n)) ≡ journal_adds h + 1
journal_add w h (Log t) first n j = omega arith
journal_add w h (Commit t) first n j = omega arith
journal_add w h (Home t) first n j = omega arith
journal_add w h (Clear t) first n j = omega arith
journal_add w h kind first n j = absurd (j)

tally_journal : (w : Workload) (h : List Event) (kind : ReqKind) (first n : ℕ) → Journals w h kind first n → Tally w h
    → Tally w (h ▹ Add Cm (journal_request (adds h) kind first n))
tally_journal w h kind first n j k =
    let of = of_journal w h (adds h) kind first n j
    in let stays : after_add kind (service h) ≡ service h = of.service_stays (service h)
    in record {
      all = omega (arith, k.all);
      added = omega (arith, k.added, journal_add w h kind first n j);
      dirtied = omega (arith, k.dirtied, dirty_journal w h kind first n j);
      served = rw stays k.served;
      mapped = rw stays k.mapped;
      skipped = rw stays k.skipped;
      evicted = k.evicted;
    }

-- an event that comes next keeps the counts
tally_kept : (w : Workload) (h : List Event) (e : Event) → AreMaps w h
    → ((run : Run) → served_run (service h) ≡ Some run → IsServed w h run) → Came w h e → Tally w h → Tally w (h ▹ e)
tally_kept w h e places runs (came_enter q c has out) k =
    let more = one_more (acts h) q (length w.procs) has.first has.last
    in record {
      all = omega (arith, k.all, more);
      added = k.added;
      dirtied = k.dirtied;
      served = k.served;
      mapped = k.mapped;
      skipped = k.skipped;
      evicted = k.evicted;
    }
tally_kept w h e places runs (came_admit q c has is out may) k =
    let more = one_more (acts h) q (length w.procs) has.first has.last
    in record {
      all = omega (arith, k.all, more);
      added = k.added;
      dirtied = k.dirtied;
      served = k.served;
      mapped = k.mapped;
      skipped = k.skipped;
      evicted = k.evicted;
    }
tally_kept w h e places runs (came_make q name slot admitted idle unused at) k =
    let has = admitted.has
    in let more = one_more (changes h) q (length w.procs) has.first has.last
    in let gone = gone_make w h q (record { 0 = slot }) (next_serial w h) (served_run (service h))
    in record {
      all = omega (arith, k.all, more);
      added = k.added;
      dirtied = omega (arith, k.dirtied, dirty_make w h q (record { 0 = slot }) places);
      served = k.served;
      mapped = k.mapped;
      skipped = omega (arith, k.skipped, more, gone);
      evicted = k.evicted;
    }
tally_kept w h e places runs (came_drop q name s working idle) k =
    let has = working.admitted.has
    in let more = one_more (changes h) q (length w.procs) has.first has.last
    in let gone = at_most_one (is_gone w (h ▹ Drop q (slot_of w h s) s) (served_run (service h)))
    in record {
      all = omega (arith, k.all, more);
      added = k.added;
      dirtied = omega (arith, k.dirtied, dirty_drop w h q (slot_of w h s) s);
      served = k.served;
      mapped = k.mapped;
      skipped = omega (arith, k.skipped, more, gone);
      evicted = k.evicted;
    }
tally_kept w h e places runs (came_no_file q c admitted none) k = tally_ret w h q c reply.NoFile admitted.has k
tally_kept w h e places runs (came_changed q c admitted names acted) k = tally_ret w h q c reply.Done admitted.has k
tally_kept w h e places runs (came_exists q name admitted idle taken) k =
    tally_ret w h q (Creat name) reply.Exists admitted.has k
tally_kept w h e places runs (came_no_slot q name admitted idle unused none) k =
    tally_ret w h q (Creat name) reply.NoSlot admitted.has k
tally_kept w h e places runs (came_too_big q name off len fill s working big) k =
    tally_ret w h q (Write name off len fill) reply.TooBig working.admitted.has k
tally_kept w h e places runs (came_no_space q name off len fill s piece here out none) k =
    tally_ret w h q (Write name off len fill) (reply.NoSpace (moved h q.0)) here.working.admitted.has k
tally_kept w h e places runs (came_wrote q name off len fill s working none) k =
    tally_ret w h q (Write name off len fill) reply.Done working.admitted.has k
tally_kept w h e places runs (came_read q name off len s working none) k =
    tally_ret w h q (Read name off len) (reply.Count (moved h q.0) (got h q.0)) working.admitted.has k
tally_kept w h e places runs (came_fault q c s piece working left bad) k =
    tally_ret w h q c reply.ReadFault working.admitted.has k
tally_kept w h e places runs (came_put q name off len fill s piece here may) k =
    let has = here.working.admitted.has
    in let more = one_more (acts h) q (length w.procs) has.first has.last
    in let put = one_more (pieces h) q (length w.procs) has.first has.last
    in record {
      all = omega (arith, k.all, more);
      added = k.added;
      dirtied = omega (arith, k.dirtied, put, dirty_put w h q s piece.page piece.from piece.to fill);
      served = k.served;
      mapped = k.mapped;
      skipped = k.skipped;
      evicted = omega (arith, k.evicted, put);
    }
tally_kept w h e places runs (came_get q name off len s piece here held) k =
    tally_get w h q (Read name off len) s piece.page piece.from piece.to
    (sum_of_bytes w h s piece.page piece.from piece.to) here.working.admitted.has k
tally_kept w h e places runs (came_zeros q name off len s piece here absent none) k =
    tally_get w h q (Read name off len) s piece.page piece.from piece.to 0 here.working.admitted.has k
tally_kept w h e places runs (came_evict q c s piece here absent t g found) k =
    record {
      all = omega (arith, k.all);
      added = k.added;
      dirtied = k.dirtied;
      served = k.served;
      mapped = k.mapped;
      skipped = k.skipped;
      evicted = omega (arith, k.evicted, placed_evict w h t g found);
    }
tally_kept w h e places runs (came_load q c s piece here absent block at) k =
    let has = here.working.admitted.has
    in let more = one_more (loads h) q (length w.procs) has.first has.last
    in record {
      all = omega (arith, k.all);
      added = omega (arith, k.added, more);
      dirtied = omega (arith, k.dirtied, dirty_load w h q s piece.page block);
      served = k.served;
      mapped = k.mapped;
      skipped = k.skipped;
      evicted = k.evicted;
    }
tally_kept w h e places runs (came_serve run none found) k =
    record {
      all = omega (arith, k.all);
      added = k.added;
      dirtied = k.dirtied;
      served = later (subst (λ o. serves h ≤ takes h + skips h + cond (is_some o) 1 0) none k.served);
      mapped = mapped k.mapped;
      skipped = rw (serves_live w h run found) (omega (arith, k.skipped));
      evicted = k.evicted;
    }
  where
    later : serves h ≤ takes h + skips h + 0 → serves h + 1 ≤ takes h + skips h + 1
    later l = omega arith

    mapped : maps h + cond (is_serving (service h)) 1 0 ≤ serves h → maps h + 1 ≤ serves h + 1
    mapped l = omega arith
tally_kept w h e places runs (came_skip run at gone) k =
    record {
      all = omega (arith, k.all);
      added = k.added;
      dirtied = k.dirtied;
      served = later (subst (λ o. serves h ≤ takes h + skips h + cond (is_some o) 1 0) at k.served);
      mapped = omega (arith, k.mapped);
      skipped = skipped (subst (λ b. skips h + cond (not b) 1 0 ≤ sum_by (changes h) (processes w)) gone
          (subst (λ o. skips h + cond (is_gone w h o) 1 0 ≤ sum_by (changes h) (processes w)) at k.skipped));
      evicted = k.evicted;
    }
  where
    later : serves h ≤ takes h + skips h + 1 → serves h ≤ takes h + (skips h + 1) + 0
    later l = omega arith

    skipped : skips h + 1 ≤ sum_by (changes h) (processes w) → skips h + 1 + 0 ≤ sum_by (changes h) (processes w)
    skipped l = omega arith
tally_kept w h e places runs (came_map run free is there none at) k =
    tally_map w h run (slot_of w h run.serial) free.n free.first true _ is there k
tally_kept w h e places runs (came_grow run block is there at less) k =
    tally_map w h run (slot_of w h run.serial) run.n block false _ is there k
tally_kept w h e places runs (came_add run block is there at grown) k =
    record {
      all = omega (arith, k.all);
      added = omega (arith, k.added);
      dirtied = omega (arith, k.dirtied, dirty_add w h run block there (runs run is));
      served = later (subst (λ o. serves h ≤ takes h + skips h + cond (is_some o) 1 0) is k.served);
      mapped = omega (arith, k.mapped);
      skipped = omega (arith, k.skipped);
      evicted = k.evicted;
    }
  where
    later : serves h ≤ takes h + skips h + 1 → serves h ≤ takes h + 1 + skips h + 0
    later l = omega arith
tally_kept w h e places runs (came_flushed q name s working idle down) k =
    let has = working.admitted.has
    in let more = one_more (changes h) q (length w.procs) has.first has.last
    in record {
      all = omega (arith, k.all, more);
      added = k.added;
      dirtied = k.dirtied;
      served = k.served;
      mapped = k.mapped;
      skipped = omega (arith, k.skipped, more);
      evicted = k.evicted;
    }
tally_kept w h e places runs (came_synced q name s working acted safe) k =
    tally_ret w h q (Fsync name) reply.Done working.admitted.has k
tally_kept w h e places runs (came_seal may) k =
    record {
      all = omega (arith, k.all);
      added = k.added;
      dirtied = k.dirtied;
      served = k.served;
      mapped = k.mapped;
      skipped = k.skipped;
      evicted = k.evicted;
    }
tally_kept w h e places runs (came_journal kind first n j) k = tally_journal w h kind first n j k
tally_kept w h e places runs (came_send r few oldest) k =
    record {
      all = omega (arith, k.all);
      added = k.added;
      dirtied = k.dirtied;
      served = k.served;
      mapped = k.mapped;
      skipped = k.skipped;
      evicted = k.evicted;
    }
tally_kept w h e places runs (came_done j r at) k =
    record {
      all = omega (arith, k.all);
      added = k.added;
      dirtied = k.dirtied;
      served = k.served;
      mapped = k.mapped;
      skipped = k.skipped;
      evicted = omega (arith, k.evicted, placed_done h j r.id);
    }

pub tally : (w : Workload) (h : List Event) → IsAccepted w → IsLegal w h → Tally w h
tally w [] accepted legal = record {
  all = omega arith;
  added = omega arith;
  dirtied = omega (arith, dirty_none w);
  served = omega arith;
  mapped = omega arith;
  skipped = omega arith;
  evicted = omega arith;
}
tally w (h ▹ e) accepted legal =
    tally_kept w h e (maps_known.maps w h accepted legal.1) (λ run at. maps_known.served w h run accepted legal.1 at)
    (came w h (maker e) e legal.0) (tally w h accepted legal.1)

-- what each process has done
pub work : (w : Workload) (h : List Event) (p : ℕ) → IsAccepted w → IsLegal w h → Work w h p
work w [] p accepted legal = record {
  few = omega arith;
  waits = λ e. refl;
  within = omega arith;
  pieces = omega arith;
  idle = λ e. refl;
  fresh = λ e f. absurd (cc);
  along = λ e. absurd (cc);
}
work w (h ▹ e) p accepted legal = work_kept w h e p (came w h (maker e) e legal.0) (work w h p accepted legal.1)

-- what each process has made or dropped
changed : (w : Workload) (h : List Event) (p : ℕ) → IsAccepted w → IsLegal w h → Changes h p
changed w [] p accepted legal = record { counted = omega arith; inside = λ acted. absurd (cc) }
changed w (h ▹ e) p accepted legal =
    changes_kept w h e p (came w h (maker e) e legal.0) (changed w h p accepted legal.1)

sum_by_same : {X : Type 0} (n : ℕ) (xs : List X) → sum_by (λ x. n) xs ≡ n * length xs
sum_by_same n [] = omega arith
sum_by_same n (x ∷ xs) = omega (arith, sum_by-cons (λ y. n) x xs, sum_by_same n xs)

-- the pieces that a process has put or got are at most those that its calls span
few_pieces : (calls : List Call) (a r u n m s : ℕ) (en ad : Bool) → WorkAt calls a r u n m s en ad
    → u ≤ sum_by span calls
few_pieces calls a r u n m s false ad k = omega (arith, k.pieces, k.idle refl, sum_by-take-le span calls r)
few_pieces calls a r u n m s true ad k =
    let below : r < length calls = omega (arith, k.within)
    in let c = some_at calls r below
    in omega (
      arith,
      k.pieces,
      (k.along refl c.0 c.1).room,
      sum_by_more span calls r c.0 below,
      ap span (get_or_from_slice_get calls r c.0 c.0 c.1),
      sum_by-take-le span calls (r + 1),
    )

-- the events that a process made are at most those that its calls allow
few_acts : (calls : List Call) (a r u n m s : ℕ) (en ad : Bool) → WorkAt calls a r u n m s en ad
    → a ≤ sum_by (λ c. 3 + span c) calls
few_acts calls a r u n m s en ad k =
    omega (
      arith,
      few_pieces calls a r u n m s en ad k,
      most en ad k.few k.within,
      sum_by_both (λ c. 3) span calls,
      sum_by_same 3 calls,
    )
  where
    most : (x y : Bool) → a ≤ 3 * r + stage x y + u → r + cond x 1 0 ≤ length calls → a ≤ 3 * length calls + u
    most false y few within = omega arith
    most true false few within = omega arith
    most true true few within = omega arith

-- a process makes or drops one file in each of its calls at most
few_changes : (calls : List Call) (a r u n m s t : ℕ) (en ad ac : Bool) → WorkAt calls a r u n m s en ad
    → ChangesAt t r en ac → t ≤ sum_by (λ c. 1) calls
few_changes calls a r u n m s t en ad ac k changes =
    omega (arith, most ac en changes.inside changes.counted k.within, sum_by_same 1 calls)
  where
    most : (x y : Bool) → (x ≡ true → y ≡ true) → t ≤ r + cond x 1 0 → r + cond y 1 0 ≤ length calls → t ≤ length calls
    most false false in' few within = omega arith
    most false true in' few within = omega arith
    most true true in' few within = omega arith
    most true false in' few within = absurd (let e = in' refl in cc)

-- the reads that a process added are at most those that its calls allow: one for each piece, and one for each call that
-- ends before the piece that it was added for
few_loads : (calls : List Call) (a r u n m s l : ℕ) (en ad asked : Bool) → WorkAt calls a r u n m s en ad
    → AsksAt l u r asked en ad → l ≤ sum_by (λ c. 1 + span c) calls
few_loads calls a r u n m s l en ad asked k asks =
    omega (
      arith,
      few_pieces calls a r u n m s en ad k,
      most asked en asks.inside asks.counted k.within,
      sum_by_both (λ c. 1) span calls,
      sum_by_same 1 calls,
    )
  where
    most : (x y : Bool) → (x ≡ true → y ≡ true) → l ≤ u + r + cond x 1 0 → r + cond y 1 0 ≤ length calls
        → l ≤ length calls + u
    most false false in' few within = omega arith
    most false true in' few within = omega arith
    most true true in' few within = omega arith
    most true false in' few within = absurd (let e = in' refl in cc)

all_pieces : (w : Workload) (h : List Event) → IsAccepted w → IsLegal w h → sum_by (pieces h) (processes w) ≤ spans w
all_pieces w h accepted legal =
    omega (
      arith,
      sum_of_each span w.calls 1 (length w.procs),
      sum_by-le-sum_by (pieces h) (sum_of span w.calls) (processes w)
          (λ p. few_pieces (calls_of w p) _ _ _ _ _ _ _ _ (work w h p accepted legal)),
    )

all_acts : (w : Workload) (h : List Event) → IsAccepted w → IsLegal w h
    → sum_by (acts h) (processes w) ≤ 3 * length w.calls + spans w
all_acts w h accepted legal =
    omega (
      arith,
      sum_of_each (λ c. 3 + span c) w.calls 1 (length w.procs),
      sum_by_both (λ c. 3) (λ c. span c.1) w.calls,
      sum_by_same 3 w.calls,
      sum_by-le-sum_by (acts h) (sum_of (λ c. 3 + span c) w.calls) (processes w)
          (λ p. few_acts (calls_of w p) _ _ _ _ _ _ _ _ (work w h p accepted legal)),
    )

all_changes : (w : Workload) (h : List Event) → IsAccepted w → IsLegal w h
    → sum_by (changes h) (processes w) ≤ length w.calls
all_changes w h accepted legal =
    omega (
      arith,
      sum_of_each (λ c. 1) w.calls 1 (length w.procs),
      sum_by_same 1 w.calls,
      sum_by-le-sum_by (changes h) (sum_of (λ c. 1) w.calls) (processes w)
          (λ p. few_changes (calls_of w p) _ _ _ _ _ _ _ _ _ _ (work w h p accepted legal)
          (changed w h p accepted legal)),
    )

all_loads : (w : Workload) (h : List Event) → IsAccepted w → IsLegal w h
    → sum_by (loads h) (processes w) ≤ length w.calls + spans w
all_loads w h accepted legal =
    omega (
      arith,
      sum_of_each (λ c. 1 + span c) w.calls 1 (length w.procs),
      sum_by_both (λ c. 1) (λ c. span c.1) w.calls,
      sum_by_same 1 w.calls,
      sum_by-le-sum_by (loads h) (sum_of (λ c. 1 + span c) w.calls) (processes w)
          (λ p. few_loads (calls_of w p) _ _ _ _ _ _ _ _ _ _ (work w h p accepted legal)
          (asked w h p accepted legal).asks),
    )

-- at most as many serves as pieces and as files that were made or dropped
few_serves : (w : Workload) (h : List Event) (o : Option Run) → ((run : Run) → o ≡ Some run → IsServed w h run)
    → Tally w h → served_run (service h) ≡ o
    → serves h ≤ sum_by (pieces h) (processes w) + sum_by (changes h) (processes w)
few_serves w h None runs t is =
    omega (
      arith,
      t.dirtied,
      t.skipped,
      none (subst (λ o. serves h ≤ takes h + skips h + cond (is_some o) 1 0) is t.served),
    )
  where
    none : serves h ≤ takes h + skips h + 0 → serves h ≤ takes h + skips h
    none l = omega arith
few_serves w h (Some run) runs t is = elim (cases_Bool (is_live w h run.serial.0)) [
  | inl there ↦ omega (arith, t.dirtied, t.skipped, some, dirty_add w h run 0 there (runs run refl))
  | inr gone ↦
      omega (
        arith,
        t.dirtied,
        some,
        one (subst (λ b. skips h + cond (not b) 1 0 ≤ sum_by (changes h) (processes w)) gone
            (subst (λ o. skips h + cond (is_gone w h o) 1 0 ≤ sum_by (changes h) (processes w)) is t.skipped)),
      )
]
  where
    some : serves h ≤ takes h + skips h + 1
    some = subst (λ o. serves h ≤ takes h + skips h + cond (is_some o) 1 0) is t.served

    one : skips h + 1 ≤ sum_by (changes h) (processes w) → skips h + 1 ≤ sum_by (changes h) (processes w)
    one l = l

-- at most as many maps and seals
few_maps : (w : Workload) (h : List Event) → IsAccepted w → IsLegal w h → maps h ≤ length w.calls + spans w
few_maps w h accepted legal =
    let t = tally w h accepted legal
    in omega (
      arith,
      t.mapped,
      few_serves w h (served_run (service h)) (λ run at. maps_known.served w h run accepted legal at) t refl,
      all_pieces w h accepted legal,
      all_changes w h accepted legal,
    )

few_seals : (w : Workload) (h : List Event) → IsAccepted w → IsLegal w h → seals h ≤ 2 * length w.calls + spans w
few_seals w h accepted legal =
    omega (
      arith,
      (journal_tally w h accepted legal).sealed,
      all_changes w h accepted legal,
      few_maps w h accepted legal,
    )

-- the requests: those of the journal among them
few_adds : (w : Workload) (h : List Event) → IsAccepted w → IsLegal w h → adds h ≤ 12 * length w.calls + 7 * spans w
few_adds w h accepted legal =
    let t = tally w h accepted legal
    in omega (
      arith,
      t.added,
      t.dirtied,
      (journal_tally w h accepted legal).added,
      few_seals w h accepted legal,
      few_maps w h accepted legal,
      all_changes w h accepted legal,
      all_pieces w h accepted legal,
      all_loads w h accepted legal,
    )

-- at most as many completions
few_dones : (w : Workload) (h : List Event) → IsAccepted w → IsLegal w h
    → (sends h ≤ 12 * length w.calls + 7 * spans w) × (dones h ≤ 12 * length w.calls + 7 * spans w)
few_dones w h accepted legal =
    let facts = known w h accepted legal
    in let few = few_adds w h accepted legal
    in let sent : sends h ≤ adds h = omega (arith, facts.numbered.counted, facts.waiting.queue_long)
    in (omega (arith, few, sent), omega (arith, few, sent, facts.waiting.flight_long))

-- a legal history has at most so many events
pub few_events : (w : Workload) (h : List Event) → IsAccepted w → IsLegal w h
    → length h ≤ 57 * length w.calls + 33 * spans w
few_events w h accepted legal =
    let t = tally w h accepted legal
    in let done = few_dones w h accepted legal
    in omega (
      arith,
      t.all,
      t.skipped,
      t.evicted,
      few_adds w h accepted legal,
      done.0,
      done.1,
      few_serves w h (served_run (service h)) (λ run at. maps_known.served w h run accepted legal at) t refl,
      few_maps w h accepted legal,
      few_seals w h accepted legal,
      all_pieces w h accepted legal,
      all_changes w h accepted legal,
      all_acts w h accepted legal,
    )

-- and so it is short
pub short : (w : Workload) (h : List Event) → IsAccepted w → IsLegal w h → length h < 2 ^ 31
short w h accepted legal =
    omega (arith, few_events w h accepted legal, accepted.workload.calls.few, accepted.workload.calls.few_pages)

-- each request is added by an event
pub adds_most : (h : List Event) → adds h ≤ length h
adds_most [] = omega arith
adds_most (h ▹ Add by r) = omega (arith, adds_most h)
adds_most (h ▹ e) = omega (arith, adds_most h)

pub stays_below : StaysBelow
stays_below w h accepted legal = omega (arith, few_events w h accepted legal)
