-- What is known of the requests of every legal history of an accepted workload, whatever they move.
use Rattle.std.proofs.Common.{◌≡◌, ℕ, ◌+◌, ◌==◌, ◌<◌, ◌≤◌, List, [], ◌∷◌, ◌++◌, length, slice_get, filter, Bool, true, false, not, ◌⊎◌, Option, Some, None, refl, arith, sym, inl, inr, ◌∙◌, ap, cond, count_by, nat_lt, if◌then◌else◌}
use Rattle.std.proofs.lemmas.Bool.{cond-true, cond-false, cases_eq, eq-eqb, ne_eqb, eqb-true}
use Rattle.std.proofs.lemmas.Option.{slice_get_within}
use Rattle.split_types.specs.declared.ids.ReqId.{ReqId}
use Rattle.split_types.specs.declared.actor.Actor.{Actor}
use Rattle.split_types.specs.declared.request.Request.{Request}
use Rattle.split_types.specs.declared.workload.Workload.{Workload}
use Rattle.split_types.specs.declared.facts.ReqState.{ReqState}
use Rattle.split_types.specs.declared.facts.ReqState.TheVariants as state
use Rattle.split_types.specs.declared.event.Event.{Event}
use Rattle.split_types.specs.declared.event.Event.TheVariants.{Add, Send, Done}
use Rattle.split_types.specs.History.{◌▹◌, adds}
use Rattle.split_types.specs.Hooks.{maker}
use Rattle.split_types.specs.Requests.{is_numbered, is_write, requests, queued, in_flight, unfinished, state_of, sends}
use Rattle.split_types.specs.Reads.{request_numbered}
use Rattle.split_types.specs.CostAndClock.{head, cost_at, cost_of, first_of, length_of}
use Rattle.split_types.specs.Schedulers.{pick, earlier, eligible_write, is_eligible, oldest_read, oldest_write}
use Rattle.split_types.specs.Next.{send_of}
use Rattle.split_types.specs.Accepted.{IsAccepted}
use Rattle.split_types.specs.Legal.{IsLegal}
use Rattle.split_types.specs.Proving.Came.{Came}
use Rattle.split_types.specs.Proving.Came.Came.{came_load, came_add, came_journal, came_send, came_done}
use Rattle.split_types.specs.Proving.Known.{KnownRequests, AreUnmade, RiseTo, dones}
use Rattle.split_types.proofs.CameLaws.{came}
use Rattle.split_types.proofs.Lists.{slice_get-push, find_there, counted_here}
use Rattle.split_types.proofs.KeptLists.{case_true, case_false}
use Rattle.split_types.proofs.WaitingLaws.{numbered_push, waiting_add, waiting_send, waiting_done, one_more, none_numbered, count_others, number_here}

-- ---- what is picked is queued
pub earlier_is : (a b : Option Request) (r : Request) → earlier a b ≡ Some r → (a ≡ Some r) ⊎ (b ≡ Some r)
earlier_is None b r is = inr is
earlier_is (Some q) None r is = inl is
earlier_is (Some q) (Some p) r is = by_test (nat_lt q.id.0 p.id.0) is
  where
    by_test : (b : Bool) → (if b then Some q else Some p) ≡ Some r → (Some q ≡ Some r) ⊎ (Some p ≡ Some r)
    by_test true at = inl at
    by_test false at = inr at

eligible_is : (h : List Event) (o : Option Request) (r : Request)
    → (elim o [ None ↦ None | Some q ↦ if is_eligible h q then Some q else None ]) ≡ Some r → o ≡ Some r
eligible_is h None r is = absurd (cc)
eligible_is h (Some q) r is = by_test (is_eligible h q) is
  where
    by_test : (b : Bool) → (if b then Some q else None) ≡ Some r → Some q ≡ Some r
    by_test true at = at
    by_test false at = absurd (cc)

pub fifo_picks : (w : Workload) (h : List Event) → IsAccepted w → pick w h ≡ earlier (eligible_write h) (oldest_read h)
fifo_picks w h accepted = rw accepted.built.sched refl

pub picked_there : (w : Workload) (h : List Event) (r : Request) → IsAccepted w → pick w h ≡ Some r
    → (k : ℕ) × (slice_get (queued h) k ≡ Some r)
picked_there w h r accepted picked = elim (earlier_is (eligible_write h) (oldest_read h) r
    (sym (fifo_picks w h accepted) ∙ picked)) [
      | inl write ↦
          (let there = find_there is_write (queued h) r (eligible_is h (oldest_write h) r write)
          in (there.0, there.1))
      | inr read ↦ (let there = find_there (λ q. not (is_write q)) (queued h) r read in (there.0, there.1))
    ]

-- ---- requests that aren't added yet
unmade_add : (count : ℕ) (cost : ℕ → ℕ) (at : ℕ → ReqState) → AreUnmade count cost at → AreUnmade (count + 1) cost at
unmade_add count cost at u = record {
  cost_none = λ id past. u.cost_none id (omega arith);
  state_none = λ id past. u.state_none id (omega arith);
}

unmade_done : (count n : ℕ) (to : ReqState) (cost : ℕ → ℕ) (at : ℕ → ReqState) → n < count → AreUnmade count cost at
    → AreUnmade count cost (λ id. cond (n == id) to (at id))
unmade_done count n to cost at below u = record {
  cost_none = u.cost_none;
  state_none =
      λ id past. cond-false (n == id) to (at id) (ne_eqb n id (λ (e : n ≡ id). omega arith)) ∙ u.state_none id past;
}

-- ---- rising numbers
rise_push : (low : ℕ) (rs : List Request) (high : ℕ) (r : Request) → r.id.0 ≡ high → RiseTo low rs high
    → RiseTo low (rs ++ r ∷ []) (high + 1)
rise_push low [] high r is rise = (omega (arith, is, rise), omega (arith, is))
rise_push low (q ∷ rs) high r is rise = (rise.0, rise_push (q.id.0 + 1) rs high r is rise.1)

rise_lower : (low least : ℕ) (rs : List Request) (high : ℕ) → least ≤ low → RiseTo low rs high → RiseTo least rs high
rise_lower low least [] high below rise = omega (arith, below, rise)
rise_lower low least (r ∷ rs) high below rise = (omega (arith, below, rise.0), rise.1)

rise_filter : (low : ℕ) (rs : List Request) (high : ℕ) (p : Request → Bool) → RiseTo low rs high
    → RiseTo low (filter p rs) high
rise_filter low [] high p rise = rise
rise_filter low (r ∷ rs) high p rise = by_test (p r) (rise_filter (r.id.0 + 1) rs high p rise.1)
  where
    by_test : (b : Bool) → RiseTo (r.id.0 + 1) (filter p rs) high
        → RiseTo low (if b then r ∷ filter p rs else filter p rs) high
    by_test true rest = (rise.0, rest)
    by_test false rest = rise_lower (r.id.0 + 1) low (filter p rs) high (omega (arith, rise.0)) rest

-- ---- the request of a number, and what became of it
-- a request in the queue or in flight was added
pub below_queued : (h : List Event) (k : ℕ) (r : Request) → KnownRequests h → slice_get (queued h) k ≡ Some r
    → r.id.0 < adds h
below_queued h k r f at =
    omega (arith, f.numbered.counted, slice_get_within (requests h) r.id.0 r (f.waiting.queue_of k r at))

pub below_flight : (h : List Event) (k : ℕ) (r : Request) → KnownRequests h → slice_get (in_flight h) k ≡ Some r
    → r.id.0 < adds h
below_flight h k r f at =
    omega (arith, f.numbered.counted, slice_get_within (requests h) r.id.0 r (f.waiting.flight_of k r at))

named_add : (h : List Event) (by : Actor) (r : Request) → r.id.0 ≡ length (requests h)
    → ((id : ReqId) (q : Request) → slice_get (requests h) id.0 ≡ Some q → request_numbered h id ≡ Some q)
    → (id : ReqId) (q : Request) → slice_get (requests h ++ r ∷ []) id.0 ≡ Some q
    → request_numbered (h ▹ Add by r) id ≡ Some q
named_add h by r new at id q there = elim (slice_get-push (requests h) r id.0 q there) [
  | inl old ↦
      case_false (is_numbered id r) (Some r) (request_numbered h id)
      (ne_eqb r.id.0 id.0 (λ (e : r.id.0 ≡ id.0). omega (arith, new, slice_get_within (requests h) id.0 q old)))
      ∙ at id q old
  | inr this ↦
      case_true (is_numbered id r) (Some r) (request_numbered h id) (eq-eqb r.id.0 id.0 (omega (arith, new, this.0)))
      ∙ ap Some this.1
]

-- a request that was added and isn't unfinished was done well
abbrev AreFinished : ℕ → List Request → (ℕ → ReqState) → Type 0
AreFinished count left at = (id : ReqId) → id.0 < count → count_by (is_numbered id) left ≡ 0 → at id.0 ≡ state.Done

finished_add : (count : ℕ) (left : List Request) (at : ℕ → ReqState) (r : Request) → r.id.0 ≡ count
    → AreFinished count left at → AreFinished (count + 1) (left ++ r ∷ []) at
finished_add count left at r new f id below none = elim (cases_eq r.id.0 id.0) [
  | inl same ↦ absurd (omega (arith, one_more id left r, one (r.id.0 == id.0) (eq-eqb r.id.0 id.0 same), none))
  | inr other ↦ f id (omega (arith, new, below, other)) (omega (arith, one_more id left r, none))
]
  where
    one : (b : Bool) → b ≡ true → ◌≡◌ {A = ℕ} (cond b 1 0) 1
    one b is = rw is refl

finished_done : (count : ℕ) (left : List Request) (at : ℕ → ReqState) (i : ReqId)
    → AreFinished count left at
    → AreFinished count (filter (λ r. not (is_numbered i r)) left) (λ id. cond (i.0 == id) state.Done (at id))
finished_done count left at i f id below none = elim (cases_eq i.0 id.0) [
  | inl same ↦ cond-true (i.0 == id.0) state.Done (at id.0) (eq-eqb i.0 id.0 same)
  | inr other ↦
      cond-false (i.0 == id.0) state.Done (at id.0) (ne_eqb i.0 id.0 other)
      ∙ f id below (omega (arith, none, count_others i id left (λ (e : id.0 ≡ i.0). other (sym e))))
]

-- ---- every legal history
requests_none : KnownRequests []
requests_none = record {
  numbered = record {
    counted = refl;
    number_is = λ i r at. absurd (cc);
    first_is = λ i r at. absurd (cc);
    length_is = λ i r at. absurd (cc);
  };
  waiting = record {
    queue_of = λ k r at. absurd (cc);
    flight_of = λ k r at. absurd (cc);
    left_of = λ k r at. absurd (cc);
    once = λ id. omega arith;
    left_once = λ id. refl;
    queue_long = refl;
    flight_long = refl;
  };
  unmade = record { cost_none = λ id past. refl; state_none = λ id past. refl };
  rises = omega arith;
  named = λ id r at. absurd (cc);
  finished = λ id below none. absurd (omega (arith, below));
  going = refl;
}

-- a request that is added has the next number
new_number : (w : Workload) (h : List Event) (by : Actor) (r : Request) → Came w h (Add by r) → r.id.0 ≡ adds h
new_number w h by r (came_load p c s piece here absent block at) = refl
new_number w h by r (came_add run block at there placed long) = refl
new_number w h by r (came_journal kind first n j) = refl

requests_add : (h : List Event) (by : Actor) (r : Request) → r.id.0 ≡ adds h → KnownRequests h
    → KnownRequests (h ▹ Add by r)
requests_add h by r new f =
    let id : r.id.0 ≡ length (requests h) = new ∙ f.numbered.counted
    in record {
      numbered = numbered_push (requests h) (adds h) (first_of h) (length_of h) r new f.numbered;
      waiting =
          waiting_add (requests h) (queued h) (in_flight h) (unfinished h) (sends h) (dones h) r id f.waiting;
      unmade = unmade_add (adds h) (cost_of h) (state_of h) f.unmade;
      rises = rise_push 0 (queued h) (adds h) r new f.rises;
      named = named_add h by r id f.named;
      finished = finished_add (adds h) (unfinished h) (state_of h) r new f.finished;
      going = f.going;
    }

requests_send : (w : Workload) (h : List Event) (r : Request) → IsAccepted w → pick w h ≡ Some r → KnownRequests h
    → KnownRequests (h ▹ send_of h r)
requests_send w h r accepted picked f =
    let there = picked_there w h r accepted picked
    in record {
      numbered = f.numbered;
      waiting =
          waiting_send (requests h) (queued h) (in_flight h) (unfinished h) (sends h)
          (dones h) there.0 r there.1 f.waiting;
      unmade = sent_unmade (below_queued h there.0 r f there.1);
      rises = rise_filter 0 (queued h) (adds h) (λ q. not (is_numbered r.id q)) f.rises;
      named = f.named;
      finished = f.finished;
      going = f.going;
    }
  where
    sent_unmade : r.id.0 < adds h → AreUnmade (adds h) (cost_of (h ▹ send_of h r)) (state_of h)
    sent_unmade below = record {
      cost_none =
          λ id past. cond-false (id == r.id.0) (cost_at (head h) (first_of h id) (length_of h id)) (cost_of h id)
          (ne_eqb id r.id.0 (λ (e : id ≡ r.id.0). omega arith))
          ∙ f.unmade.cost_none id past;
      state_none = f.unmade.state_none;
    }

requests_done : (h : List Event) (k : ℕ) (r : Request) → slice_get (in_flight h) k ≡ Some r → KnownRequests h
    → KnownRequests (h ▹ Done k r.id true)
requests_done h k r at f = record {
  numbered = f.numbered;
  waiting = waiting_done (requests h) (queued h) (in_flight h) (unfinished h) (sends h) (dones h) k r at f.waiting;
  unmade = unmade_done (adds h) r.id.0 state.Done (cost_of h) (state_of h) (below_flight h k r f at) f.unmade;
  rises = f.rises;
  named = f.named;
  finished = finished_done (adds h) (unfinished h) (state_of h) r.id f.finished;
  going = f.going;
}

-- one more event that comes next
requests_next : (w : Workload) (h : List Event) (e : Event) → IsAccepted w → KnownRequests h → Came w h e
    → KnownRequests (h ▹ e)
requests_next w h (Add by r) accepted f row = requests_add h by r (new_number w h by r row) f
requests_next w h (Send id cost) accepted f (came_send r free picked) = requests_send w h r accepted picked f
requests_next w h (Done j id ok) accepted f (came_done k r at) = requests_done h k r at f
requests_next w h e accepted f row = record {
  numbered = f.numbered;
  waiting = f.waiting;
  unmade = f.unmade;
  rises = f.rises;
  named = f.named;
  finished = f.finished;
  going = f.going;
}

pub known_requests : (w : Workload) (h : List Event) → IsAccepted w → IsLegal w h → KnownRequests h
known_requests w [] accepted legal = requests_none
known_requests w (h ▹ e) accepted legal =
    requests_next w h e accepted (known_requests w h accepted legal.1) (came w h (maker e) e legal.0)
