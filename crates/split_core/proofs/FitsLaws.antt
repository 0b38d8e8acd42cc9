-- An event that comes next in a legal history fits.
use Rattle.std.proofs.Common.{◌≡◌, ℕ, ◌+◌, ◌*◌, ◌/◌, ◌%◌, ◌==◌, ◌<◌, ◌≤◌, List, [], ◌++◌, length, slice_get}
use Rattle.std.proofs.Common.{Bool, true, false, not, find, is_none, Option, Some, None, refl, ap, sym, ◌∙◌, subst}
use Rattle.std.proofs.Common.{arith, nat_lt, inl, inr, if◌then◌else◌}
use Rattle.std.specs.List.{list_any}
use Rattle.std.proofs.lemmas.Bool.{and_from, or_left, or_right, both_ways, not-true, eq-eqb, cond-true}
use Rattle.std.proofs.Math.Nat.{div-le_self}
use Rattle.std.proofs.lemmas.Option.{slice_get_within}
use Rattle.split_types.specs.declared.ids.Pid.{Pid}
use Rattle.split_types.specs.declared.ids.Serial.{Serial}
use Rattle.split_types.specs.declared.buf.Buf.TheVariants.{Page}
use Rattle.split_types.specs.declared.call.Call.{Call}
use Rattle.split_types.specs.declared.call.Call.TheVariants.{Creat, Write, Read, Fsync, Unlink}
use Rattle.split_types.specs.declared.actor.Actor.{Actor}
use Rattle.split_types.specs.declared.actor.Actor.TheVariants.{Client}
use Rattle.split_types.specs.declared.request.ReqKind.{ReqKind}
use Rattle.split_types.specs.declared.request.ReqKind.TheVariants as kind
use Rattle.split_types.specs.declared.request.Request.{Request}
use Rattle.split_types.specs.declared.workload.Workload.{Workload}
use Rattle.split_types.specs.declared.event.Event.{Event}
use Rattle.split_types.specs.declared.event.Event.TheVariants.{Seal, Done}
use Rattle.split_types.specs.History.{◌▹◌}
use Rattle.split_types.specs.Hooks.{maker}
use Rattle.split_types.specs.Rounds.{seals, next_txn}
use Rattle.split_types.specs.Transactions.{is_of_commit, marked_buffers}
use Rattle.split_types.specs.Requests.{is_write, requests, queued, in_flight, unfinished, sends}
use Rattle.split_types.specs.CostAndClock.{head, cost_at, cost_of, first_of, length_of, now}
use Rattle.split_types.specs.Bills.{bill, billed}
use Rattle.split_types.specs.Sets.{has}
use Rattle.split_types.specs.Share.{rank, share_of}
use Rattle.split_types.specs.Blame.{tag}
use Rattle.split_types.specs.Workloads.{calls_of}
use Rattle.split_types.specs.Calls.{returned}
use Rattle.split_types.specs.Files.{is_live, bound_file}
use Rattle.split_types.specs.FileMaps.{mapped_block}
use Rattle.split_types.specs.HeldPages.{is_held}
use Rattle.split_types.specs.PageBytes.{sum_of_bytes}
use Rattle.split_types.specs.Reads.{reads, outstanding, is_loading}
use Rattle.split_types.specs.Schedulers.{pick, is_eligible, eligible_write, oldest_write, oldest_read}
use Rattle.split_types.specs.Committing.{next_of_commit}
use Rattle.split_types.specs.Writeback.{served_run}
use Rattle.split_types.specs.Next.{next, send_of}
use Rattle.split_types.specs.Accepted.{IsAccepted}
use Rattle.split_types.specs.Legal.{IsLegal}
use Rattle.split_types.specs.Proving.Came.{Came, HasCall}
use Rattle.split_types.specs.Proving.Came.Came.{came_enter, came_admit, came_changed, came_exists, came_no_slot}
use Rattle.split_types.specs.Proving.Came.Came.{came_make, came_drop, came_no_file, came_too_big, came_wrote, came_read}
use Rattle.split_types.specs.Proving.Came.Came.{came_fault, came_no_space, came_put, came_get, came_zeros, came_evict}
use Rattle.split_types.specs.Proving.Came.Came.{came_load, came_serve, came_skip, came_map, came_grow, came_add}
use Rattle.split_types.specs.Proving.Came.Came.{came_flushed, came_synced, came_seal, came_journal, came_send, came_done}
use Rattle.split_types.specs.Proving.Known.{Known, HasRun, dones}
use Rattle.split_types.specs.Proving.JournalKnown.{IsJournalRun}
use Rattle.split_types.proofs.Shared.{came, maker_is, RequestOf, known, maps_known, queued_of, flight_of, queue_one}
use Rattle.split_types.proofs.Shared.{flight_one, has_run, ends_within, frees, picked_there, tags_are_payers, bill_is}
use Rattle.split_types.proofs.Shared.{find_there, journal_known, short}
use Rattle.split_types.proofs.RequestLaws.{earlier_is, fifo_picks}
use Rattle.split_types.proofs.Shared.{calls_most, procs_most, list_any_here, same_buf-self, is_known, IsFlying, flying}
use Rattle.split_types.proofs.Shared.{loading_pages, live_of, sum_most, get_in}
use Rattle.split_core.specs.Fits.{ClientFits, IsBelowData, SendFits, DoneKind, DoneFits, SealFits, FitsKind, Fits}
use Rattle.split_core.proofs.FitsLawsBlocks.{have_blocks, served_blocks, maps_free, add_fits, load_fits, journal_fits}
use Rattle.split_core.proofs.FitsLawsFiles.{make_fits, drop_fits, put_fits, get_fits, map_fits}

-- ---- numbers
share_most : (cost : ℕ) (set : List ℕ) (p : ℕ) → share_of cost set p ≤ cost + 1
share_most cost set p = by_test (has set p) (nat_lt (rank set p) (cost % length set))
  where
    by_test : (a b : Bool) → (if a then cost / length set + (if b then 1 else 0) else 0) ≤ cost + 1
    by_test true true = omega (arith, div-le_self cost (length set))
    by_test true false = omega (arith, div-le_self cost (length set))
    by_test false b = omega arith

bill_most : (w : Workload) (h : List Event) (id p : ℕ) → IsAccepted w → Known w h → bill w h id p ≤ 625
bill_most w h id p accepted f = omega (
  arith,
  bill_is w h id p accepted,
  share_most (cost_of h id) (tag h id) p,
  f.small.cost_most id,
)

dones_most : (h : List Event) → dones h ≤ length h
dones_most [] = omega arith
dones_most (h ▹ Done k id ok) = omega (arith, dones_most h)
dones_most (h ▹ e) = omega (arith, dones_most h)

clock_most : (w : Workload) (h : List Event) → IsAccepted w → IsLegal w h → now h ≤ 624 * length h
clock_most w h accepted legal = omega (arith, (known w h accepted legal).small.clock_most, dones_most h)

billed_most : (w : Workload) (h : List Event) (p : ℕ) → IsAccepted w → IsLegal w h → billed w h p ≤ 625 * length h
billed_most w [] p accepted legal = omega arith
billed_most w (h ▹ Done k id ok) p accepted legal =
    omega (arith, bill_most w h id.0 p accepted (known w h accepted legal.1), billed_most w h p accepted legal.1)
billed_most w (h ▹ e) p accepted legal = omega (arith, billed_most w h p accepted legal.1)

-- ---- clients
client_fits : (w : Workload) (h : List Event) (p : Pid) (c : Call) → IsAccepted w → HasCall w h p c → ClientFits w h p
client_fits w h p c accepted call = record {
  first = call.first;
  last = call.last;
  left = slice_get_within (calls_of w p.0) (returned h p.0) c call.call;
  few = omega (arith, calls_most w p.0, accepted.workload.calls.few);
}

same_client : (w : Workload) (h : List Event) (p q : Pid) → Client p ≡ Client q → ClientFits w h p → ClientFits w h q
same_client w h p q same fits = subst (ClientFits w h) (cc) fits

-- ---- requests that are sent
-- the cost of a request that is sent, and where the head stands then
sent_costs : (w : Workload) (h : List Event) (r : Request) → RequestOf w h r.id.0 r
    → cost_of (h ▹ send_of h r) r.id.0 ≡ cost_at (head h) r.first r.n
sent_costs w h r of =
    cond-true (r.id.0 == r.id.0) (cost_at (head h) (first_of h r.id.0) (length_of h r.id.0)) (cost_of h r.id.0)
    (eq-eqb r.id.0 r.id.0 refl)
    ∙ ap (λ n. cost_at (head h) n (length_of h r.id.0)) of.first_is ∙ ap (cost_at (head h) r.first) of.length_is

-- the oldest write is picked only if it is sent
eligible_first : (h : List Event) (o : Option Request) (r : Request)
    → (elim o [ None ↦ None | Some q ↦ if is_eligible h q then Some q else None ]) ≡ Some r → o ≡ Some r
eligible_first h None r is = absurd (cc)
eligible_first h (Some q) r is = by_test (is_eligible h q) is
  where
    by_test : (b : Bool) → (if b then Some q else None) ≡ Some r → Some q ≡ Some r
    by_test true at = at
    by_test false at = absurd (cc)

-- a write that is picked is the first of those in the queue
picked_first : (w : Workload) (h : List Event) (r : Request) → IsAccepted w → pick w h ≡ Some r → is_write r ≡ true
    → find is_write (queued h) ≡ Some r
picked_first w h r accepted picked writing =
    elim (earlier_is (eligible_write h) (oldest_read h) r (sym (fifo_picks w h accepted) ∙ picked)) [
      | inl write ↦ eligible_first h (oldest_write h) r write
      | inr read ↦
          (let there = find_there (λ q. not (is_write q)) (queued h) r read
          in absurd (both_ways (is_write r) (not-true (is_write r) there.2) writing))
    ]

send_fits : (w : Workload) (h : List Event) (r : Request) → IsAccepted w → IsLegal w h → length (in_flight h) < w.depth
    → pick w h ≡ Some r → SendFits w h r.id (cost_at (head h) r.first r.n)
send_fits w h r accepted legal free picked =
    let f = known w h accepted legal
    in let there = picked_there w h r accepted picked
    in let own = f.waiting.queue_of there.0 r there.1
    in let of = queued_of w h there.0 r f there.1
    in let one =
    queue_one (requests h) (queued h) (in_flight h) (unfinished h) (sends h) (dones h) there.0 r f.waiting there.1
    in let run = has_run w h r.id.0 r f.runs (journal_known w h accepted legal) own
    in record {
      added = of.below;
      request = r;
      at = own;
      numbered = refl;
      cost_is = sym (sent_costs w h r of);
      free = free;
      picked = picked;
      place = there.0;
      queued_at = there.1;
      rest = sym one.1;
      in_turn = picked_first w h r accepted picked;
      flies = ap (λ l. in_flight h ++ l) one.0;
      end_is = omega (arith, of.first_is, of.length_is);
      end_most = ends_within w h r accepted (maps_known.maps w h accepted legal) run;
    }

-- ---- requests that are done
read_does : (r : Request) (by : Pid) (s : Serial) (g : ℕ) → r.kind ≡ kind.Read by s g → reads r (Page s g) ≡ true
read_does r by s g is = rw is (same_buf-self (Page s g))

-- the page that a request in flight reads is loading where its file is there
done_loading : (w : Workload) (h : List Event) (r : Request) (by : Pid) (s : Serial) (g : ℕ) → IsFlying w h r
    → r.kind ≡ kind.Read by s g → is_live w h s.0 ≡ true → is_loading w h (Page s g) ≡ true
done_loading w h r by s g fly is live =
    and_from (is_live w h s.0) (list_any (λ x. reads x (Page s g)) (outstanding h)) live
    (list_any_here (λ x. reads x (Page s g)) (outstanding h) fly.place r fly.out (read_does r by s g is))

-- what a request of the commit thread moves lies below the blocks of data
done_below : (w : Workload) (h : List Event) (r : Request) → IsJournalRun w r → DoneKind w h r.kind r.n r.first
done_below w h r low = by_kind r.kind refl
  where
    below : IsBelowData w r.n r.first
    below = record { some = low.some; most = low.most; within = low.within }

    by_kind : (k : ReqKind) → r.kind ≡ k → DoneKind w h k r.n r.first
    by_kind (kind.Read p s g) is = absurd (both_ways (is_of_commit r) (rw is refl) low.commits)
    by_kind (kind.Pages s g) is = absurd (both_ways (is_of_commit r) (rw is refl) low.commits)
    by_kind (kind.Log t) is = below
    by_kind (kind.Commit t) is = below
    by_kind (kind.Home t) is = below
    by_kind (kind.Clear t) is = below

done_kind : (w : Workload) (h : List Event) (r : Request) → IsAccepted w → IsLegal w h → IsFlying w h r
    → HasRun w h r → DoneKind w h r.kind r.n r.first
done_kind w h r accepted legal fly (inr low) = done_below w h r low
done_kind w h r accepted legal fly (inl run) =
    let blocks =
    have_blocks w h run.serial run.page r.n r.first accepted legal run.run.some run.run.most run.run.within run.place
    in elim run.kind [
      | inl writes ↦ subst (λ k. DoneKind w h k r.n r.first) (sym writes) blocks
      | inr read ↦
          (let does = read_does r read.0 run.serial run.page read.1
          in let one = (loading_pages.blocks w h r.id.0 r (Page run.serial run.page) accepted legal fly.added does).one
          in subst (λ k. DoneKind w h k r.n r.first) (sym read.1)
          (one, blocks, λ live. done_loading w h r read.0 run.serial run.page fly read.1 live))
    ]

done_fits : (w : Workload) (h : List Event) (k : ℕ) (r : Request) → IsAccepted w → IsLegal w h
    → slice_get (in_flight h) k ≡ Some r → DoneFits w h k r.id true
done_fits w h k r accepted legal flies =
    let f = known w h accepted legal
    in let of = flight_of w h k r f flies
    in let one = flight_one (requests h) (queued h) (in_flight h) (unfinished h) (sends h) (dones h) k r f.waiting flies
    in let payers = tags_are_payers w h r.id.0 accepted legal of.below
    in let few = short w h accepted legal
    in let fly = flying w h k r (is_known w h accepted legal) flies
    in let run = has_run w h r.id.0 r f.runs (journal_known w h accepted legal) fly.added
    in record {
      added = of.below;
      request = r;
      at = f.waiting.flight_of k r flies;
      ok_is = refl;
      kind = done_kind w h r accepted legal fly run;
      within = slice_get_within (in_flight h) k r flies;
      rest = sym one.1;
      frees = λ b. frees w h k r b f flies;
      clock_fits = omega (arith, few, clock_most w h accepted legal, f.small.cost_most r.id.0);
      bills_fit = λ p. omega (arith, few, billed_most w h p accepted legal, bill_most w h r.id.0 p accepted f);
      payers = λ p among. (payers.least p among, payers.most p among);
      bill_is = λ p. bill_is w h r.id.0 p accepted;
    }

-- ---- seals
seals_most : (h : List Event) → seals h ≤ length h
seals_most [] = omega arith
seals_most (h ▹ Seal t k) = omega (arith, seals_most h)
seals_most (h ▹ e) = omega (arith, seals_most h)

seal_fits : (w : Workload) (h : List Event) (k : ℕ) → IsAccepted w → IsLegal w h
    → next_of_commit w h ≡ Some (Seal (next_txn h) k) → SealFits w h (next_txn h) k
seal_fits w h k accepted legal next = record {
  number = refl;
  few = omega (arith, seals_most h, short w h accepted legal);
  next = next;
}

-- ---- all events
kind_fits : (w : Workload) (h : List Event) (e : Event) → IsAccepted w → IsLegal w h → next w h (maker e) ≡ Some e
    → Came w h e → FitsKind w h e
kind_fits w h e accepted legal comes (came_enter p c call out) = tt
kind_fits w h e accepted legal comes (came_admit p c call in' out may) = tt
kind_fits w h e accepted legal comes (came_changed p c admitted names acted) = tt
kind_fits w h e accepted legal comes (came_exists p name admitted idle taken) = tt
kind_fits w h e accepted legal comes (came_no_slot p name admitted idle unused none) = tt
kind_fits w h e accepted legal comes (came_no_file p c admitted none) = tt
kind_fits w h e accepted legal comes (came_too_big p name off len fill s working big) = tt
kind_fits w h e accepted legal comes (came_wrote p name off len fill s working none) = tt
kind_fits w h e accepted legal comes (came_read p name off len s working none) = tt
kind_fits w h e accepted legal comes (came_fault p c s piece working left bad) = tt
kind_fits w h e accepted legal comes (came_no_space p name off len fill s piece here out none) = tt
kind_fits w h e accepted legal comes (came_make p name slot admitted idle unused at) =
    make_fits w h p name slot accepted legal admitted unused at
kind_fits w h e accepted legal comes (came_drop p name s working idle) =
    drop_fits w h s accepted legal (live_of w h (bound_file w h p.0) s working.file)
kind_fits w h e accepted legal comes (came_put p name off len fill s piece here may) =
    put_fits w h p name off len fill s piece accepted legal here may
kind_fits w h e accepted legal comes (came_get p name off len s piece here held) =
    get_fits w h p name off len s piece (sum_of_bytes w h s piece.page piece.from piece.to) accepted legal here
    (omega (
      arith,
      sum_most w h s piece.page piece.from piece.to accepted legal,
      (get_in w h p name off len s piece accepted legal here).most,
    )) (or_left (is_held w h (Page s piece.page)) (is_none (mapped_block w h s.0 piece.page)) held)
kind_fits w h e accepted legal comes (came_zeros p name off len s piece here absent none) =
    get_fits w h p name off len s piece 0 accepted legal here (omega arith)
    (or_right (is_held w h (Page s piece.page)) (is_none (mapped_block w h s.0 piece.page)) (ap is_none none))
kind_fits w h e accepted legal comes (came_evict p c s piece here absent t g found) = found
kind_fits w h e accepted legal comes (came_load p c s piece here absent block at) =
    load_fits w h p c s piece block accepted legal here absent at
kind_fits w h e accepted legal comes (came_serve run idle found) = tt
kind_fits w h e accepted legal comes (came_skip run at gone) = tt
kind_fits w h e accepted legal comes (came_map run free serves there none at) =
    map_fits w h run free.n free.first true accepted legal serves there
    (maps_free w h run free (maps_known.served w h run accepted legal (ap served_run serves)) there none at)
kind_fits w h e accepted legal comes (came_grow run block serves there at short) =
    map_fits w h run run.n block false accepted legal serves there
    (served_blocks w h run block accepted legal (maps_known.served w h run accepted legal (ap served_run serves)) at)
kind_fits w h e accepted legal comes (came_add run block at there placed long) =
    add_fits w h run block accepted legal (maps_known.served w h run accepted legal at) there placed
kind_fits w h e accepted legal comes (came_flushed p name s working idle written) = tt
kind_fits w h e accepted legal comes (came_synced p name s working acted safe) = tt
kind_fits w h e accepted legal comes (came_seal may) =
    seal_fits w h (length (marked_buffers h)) accepted legal comes
kind_fits w h e accepted legal comes (came_journal kind first n next) =
    journal_fits w h kind first n accepted legal next
kind_fits w h e accepted legal comes (came_send r free picked) = send_fits w h r accepted legal free picked
kind_fits w h e accepted legal comes (came_done k r flies) = done_fits w h k r accepted legal flies

-- the call of the process that makes an event
by_fits : (w : Workload) (h : List Event) (e : Event) (p : Pid) → IsAccepted w → Came w h e → maker e ≡ Client p
    → ClientFits w h p
by_fits w h e p accepted (came_enter q c call out) is =
    same_client w h q p is (client_fits w h q c accepted call)
by_fits w h e p accepted (came_admit q c call in' out may) is =
    same_client w h q p is (client_fits w h q c accepted call)
by_fits w h e p accepted (came_changed q c admitted names acted) is =
    same_client w h q p is (client_fits w h q c accepted admitted.has)
by_fits w h e p accepted (came_exists q name admitted idle taken) is =
    same_client w h q p is (client_fits w h q (Creat name) accepted admitted.has)
by_fits w h e p accepted (came_no_slot q name admitted idle unused none) is =
    same_client w h q p is (client_fits w h q (Creat name) accepted admitted.has)
by_fits w h e p accepted (came_make q name slot admitted idle unused at) is =
    same_client w h q p is (client_fits w h q (Creat name) accepted admitted.has)
by_fits w h e p accepted (came_drop q name s working idle) is =
    same_client w h q p is (client_fits w h q (Unlink name) accepted working.admitted.has)
by_fits w h e p accepted (came_no_file q c admitted none) is =
    same_client w h q p is (client_fits w h q c accepted admitted.has)
by_fits w h e p accepted (came_too_big q name off len fill s working big) is =
    same_client w h q p is (client_fits w h q (Write name off len fill) accepted working.admitted.has)
by_fits w h e p accepted (came_wrote q name off len fill s working none) is =
    same_client w h q p is (client_fits w h q (Write name off len fill) accepted working.admitted.has)
by_fits w h e p accepted (came_read q name off len s working none) is =
    same_client w h q p is (client_fits w h q (Read name off len) accepted working.admitted.has)
by_fits w h e p accepted (came_fault q c s piece working left bad) is =
    same_client w h q p is (client_fits w h q c accepted working.admitted.has)
by_fits w h e p accepted (came_no_space q name off len fill s piece here out none) is =
    same_client w h q p is (client_fits w h q (Write name off len fill) accepted here.working.admitted.has)
by_fits w h e p accepted (came_put q name off len fill s piece here may) is =
    same_client w h q p is (client_fits w h q (Write name off len fill) accepted here.working.admitted.has)
by_fits w h e p accepted (came_get q name off len s piece here held) is =
    same_client w h q p is (client_fits w h q (Read name off len) accepted here.working.admitted.has)
by_fits w h e p accepted (came_zeros q name off len s piece here absent none) is =
    same_client w h q p is (client_fits w h q (Read name off len) accepted here.working.admitted.has)
by_fits w h e p accepted (came_evict q c s piece here absent t g found) is =
    same_client w h q p is (client_fits w h q c accepted here.working.admitted.has)
by_fits w h e p accepted (came_load q c s piece here absent block at) is =
    same_client w h q p is (client_fits w h q c accepted here.working.admitted.has)
by_fits w h e p accepted (came_flushed q name s working idle written) is =
    same_client w h q p is (client_fits w h q (Fsync name) accepted working.admitted.has)
by_fits w h e p accepted (came_synced q name s working acted safe) is =
    same_client w h q p is (client_fits w h q (Fsync name) accepted working.admitted.has)
by_fits w h e p accepted (came_serve run idle found) is = absurd (cc)
by_fits w h e p accepted (came_skip run at gone) is = absurd (cc)
by_fits w h e p accepted (came_map run free serves there none at) is = absurd (cc)
by_fits w h e p accepted (came_grow run block serves there at short) is = absurd (cc)
by_fits w h e p accepted (came_add run block at there placed long) is = absurd (cc)
by_fits w h e p accepted (came_seal may) is = absurd (cc)
by_fits w h e p accepted (came_journal kind first n next) is = absurd (cc)
by_fits w h e p accepted (came_send r free picked) is = absurd (cc)
by_fits w h e p accepted (came_done k r flies) is = absurd (cc)

pub fits : (w : Workload) (h : List Event) (a : Actor) (e : Event) → IsAccepted w → IsLegal w h → next w h a ≡ Some e
    → Fits w h e
fits w h a e accepted legal is =
    let c = came w h a e is
    in let comes = ap (next w h) (maker_is w h a e is) ∙ is
    in record {
      legal = (comes, legal);
      by = λ p is. by_fits w h e p accepted c is;
      short = short w h accepted legal;
      procs = procs_most w accepted;
      kind = kind_fits w h e accepted legal comes c;
    }
