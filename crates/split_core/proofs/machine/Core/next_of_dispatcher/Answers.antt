-- The request is sent that the scheduler picks.
use Rattle.std.proofs.Common.{◌≡◌, List, length, slice_get, false, Option, Some, option_map, arith, ap, sym, ◌∙◌}
use Rattle.std.proofs.lemmas.List.{length-map}
use Rattle.split_types.specs.declared.ids.ReqId.{ReqId}
use Rattle.split_types.specs.declared.request.Request.{Request}
use Rattle.split_types.specs.declared.workload.Workload.{Workload}
use Rattle.split_types.specs.declared.event.Event.{Event}
use Rattle.split_types.specs.Requests.{requests}
use Rattle.split_types.specs.CostAndClock.{cost_at}
use Rattle.split_types.specs.Schedulers.{pick}
use Rattle.split_types.specs.Next.{next_of_dispatcher}
use Rattle.sched_api.specs.View.{View}
use Rattle.sched_api.specs.Picks.{fifo_pick}
use Rattle.split_core.specs.declared.plan.Plan.{Plan}
use Rattle.split_core.specs.declared.parts.Parts.{Parts}
use Rattle.split_core.specs.Dispatch.{is_ordered_done}
use Rattle.split_core.specs.StandsFor.{Simulation, StandsFor}
use Rattle.split_core.proofs.OrderedNotesPicks.{picks_same}
use Rattle.split_core.proofs.NextReads.{IsPicked, picked_added, picked_is, sends_picked}
use Rattle.split_core.proofs.machine.Core.next_of_dispatcher.Goals as goal

-- the scheduler picks what the definitions say
record Picks (w : Workload) (plan : Plan) (p : Parts) (h : List Event) (f : View) (v : Simulation) (o : Option ReqId)
    : Type 0 where
  stands : StandsFor w plan p h
  view : (let s : Simulation = record { workload = w; history = h } in s) ≡ v
  stopped : f.stopped ≡ false
  ordered : f.ordered_done ≡ is_ordered_done v.history
  is : o ≡ option_map (λ r. r.id) (fifo_pick f p.dispatch.queue.queued)

is_pick : (w : Workload) (plan : Plan) (p : Parts) (h : List Event) (f : View) (v : Simulation) (o : Option ReqId)
    → Picks w plan p h f v o → o ≡ option_map (λ r. r.id) (pick w h)
is_pick w plan p h f v o k =
    let ordered : f.ordered_done ≡ is_ordered_done h =
    k.ordered ∙ ap (λ (s : Simulation). is_ordered_done s.history) (sym k.view) in
    k.is ∙ ap (λ l. option_map (λ (r : Request). r.id) (fifo_pick f l)) k.stands.parts.dispatch.queued_are
    ∙ ap (option_map (λ (r : Request). r.id))
    (picks_same w h f k.stands.accepted k.stands.legal k.stopped ordered)

-- what is written of it
is_entry : (w : Workload) (plan : Plan) (p : Parts) (h : List Event) (f : View) (v : Simulation) (o : Option ReqId)
    (id : ReqId) (r : Request) → Picks w plan p h f v o → o ≡ Some id → slice_get (requests h) id.0 ≡ Some r
    → IsPicked w h r × (r.id ≡ id)
is_entry w plan p h f v o id r k was at =
    picked_is w h id r k.stands.accepted k.stands.legal (sym was ∙ is_pick w plan p h f v o k) at

pub entry-requires-clause-added : goal.entry-requires-clause-added
entry-requires-clause-added c =
    let i = c.self.inside in
    picked_added i.workload i.history.events c.in_ok-id.id c.self.invariant.accepted c.self.invariant.legal
    (sym c.in_ok-id.was
    ∙ is_pick i.workload i.plan i.parts i.history.events c.sched_view.result c.args.self.now c.pick.result (record {
      stands = c.self.invariant;
      view = c.self.view_is;
      stopped = c.sched_view.ensures.stopped;
      ordered = c.sched_view.ensures.ordered;
      is = c.pick.ensures;
    }))

pub cost-requires : goal.cost-requires
cost-requires c =
    let i = c.self.inside in
    let picked =
    is_entry i.workload i.plan i.parts i.history.events c.sched_view.result c.args.self.now c.pick.result c.in_ok-id.id
    c.entry.result.now.request (record {
      stands = c.self.invariant;
      view = c.self.view_is;
      stopped = c.sched_view.ensures.stopped;
      ordered = c.sched_view.ensures.ordered;
      is = c.pick.ensures;
    }) c.in_ok-id.was c.entry.ensures.request_is in
    record {
      head = omega (arith, picked.0.head_most, c.self.invariant.parts.time.head_is);
      first = omega (arith, picked.0.end_most);
      n = omega (arith, picked.0.end_most);
    }

pub returns : goal.returns
returns c =
    let i = c.self.inside in
    let r = c.entry.result.now.request in
    let picked =
    is_entry i.workload i.plan i.parts i.history.events c.sched_view.result c.args.self.now c.pick.result c.in_ok-id.id
    r (record {
      stands = c.self.invariant;
      view = c.self.view_is;
      stopped = c.sched_view.ensures.stopped;
      ordered = c.sched_view.ensures.ordered;
      is = c.pick.ensures;
    }) c.in_ok-id.was c.entry.ensures.request_is in
    sends_picked i.workload i.history.events c.in_ok-id.id r c.cost.result picked.0 picked.1
    (omega (
      arith,
      c.if-in_flight-self.false,
      c.in_flight.ensures,
      length-map i.parts.dispatch.queue.in_flight (λ x. x.0),
      ap length c.self.invariant.parts.dispatch.sent_are,
    ))
    (c.cost.ensures ∙ ap (λ n. cost_at n r.first r.n) c.self.invariant.parts.time.head_is)
    ∙ ap (λ (v : Simulation). next_of_dispatcher v.workload v.history) c.self.view_is
