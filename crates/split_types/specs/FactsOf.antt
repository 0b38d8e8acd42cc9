-- The facts of a history that a report shows.
use Rattle.std.specs.Prelude.{ℕ, ◌==◌, List, [], ◌∷◌, ◌++◌, map, count_by, Bool, true, false, if◌then◌else◌}
use Rattle.split_types.specs.declared.ids.Pid.{Pid}
use Rattle.split_types.specs.declared.actor.Actor.{Actor}
use Rattle.split_types.specs.declared.actor.Actor.TheVariants.{Client, Wb, Cm, Dq, Dn, Tk}
use Rattle.split_types.specs.declared.request.Request.{Request}
use Rattle.split_types.specs.declared.facts.ReqState.{ReqState}
use Rattle.split_types.specs.declared.facts.ReqState.TheVariants as state
use Rattle.split_types.specs.declared.facts.ReqFact.{ReqFact}
use Rattle.split_types.specs.declared.facts.Facts.{Facts}
use Rattle.split_types.specs.declared.workload.Workload.{Workload}
use Rattle.split_types.specs.declared.event.Event.{Event}
use Rattle.split_types.specs.Hooks.{maker}
use Rattle.split_types.specs.Blame.{tag}
use Rattle.split_types.specs.Share.{bill_of_parts}
use Rattle.split_types.specs.CostAndClock.{cost_of, now}
use Rattle.split_types.specs.Bills.{parts, billed}
use Rattle.split_types.specs.Requests.{requests, state_of}
use Rattle.split_types.specs.Workloads.{processes}

-- the request has no completion yet
abbrev pub is_queued : ReqState → Bool
is_queued state.Queued = true
is_queued _ = false

-- the processes of a tag, each with what it bears of a cost that is split over some sets
abbrev pub shares_of : ℕ → List (List ℕ) → List ℕ → List (Pid × ℕ)
shares_of cost sets tag = map (λ p. (record { 0 = p }, bill_of_parts cost sets p)) tag

-- what is shown of a request: its cost, and what each process of its tag bears of it; all 0 where it isn't done
abbrev pub request_fact : Workload → List Event → Request → ReqFact
request_fact w h r =
    let shown = if is_queued (state_of h r.id.0) then 0 else cost_of h r.id.0 in
    record {
      req = r;
      state = state_of h r.id.0;
      cost = shown;
      shares =
          shares_of shown (parts w h r.id.0) (tag h r.id.0);
    }

-- the event is made by the same actor; completions count together
abbrev pub is_by : Actor → Event → Bool
is_by a e = same a (maker e) where
  same : Actor → Actor → Bool
  same (Client p) (Client q) = p.0 == q.0
  same Wb Wb = true
  same Cm Cm = true
  same Dq Dq = true
  same (Dn k) (Dn j) = true
  same Tk Tk = true
  same _ _ = false

-- the number of events that an actor made
abbrev pub made : List Event → Actor → ℕ
made h a = count_by (is_by a) h

-- the actors that a report shows
abbrev pub shown_actors : Workload → List Actor
shown_actors w = map (λ p. Client (record { 0 = p })) (processes w) ++ Wb ∷ Cm ∷ Dq ∷ Dn 0 ∷ Tk ∷ []

abbrev pub facts_of : Workload → List Event → Facts
facts_of w h = record {
  reqs = map (request_fact w h) (requests h);
  billed = map (billed w h) (processes w);
  accounts = [];
  made = map (made h) (shown_actors w);
  clock = now h;
}
