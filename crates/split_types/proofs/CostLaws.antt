-- In a legal history each request is sent once at most, and its send shows its cost.
use Rattle.std.proofs.Common.{◌≡◌, ℕ, ◌==◌, ◌<◌, List, [], length, Bool, false, not, Some, refl, arith, subst, sym, inl, inr, cond, count_by, ◌∙◌, ap}
use Rattle.std.proofs.lemmas.Bool.{cases_order, cond-true, cond-false, eq-eqb, ne_eqb}
use Rattle.std.proofs.lemmas.Option.{same_Some}
use Rattle.split_types.specs.declared.ids.ReqId.{ReqId}
use Rattle.split_types.specs.declared.actor.Actor.{Actor}
use Rattle.split_types.specs.declared.actor.Actor.TheVariants.{Client, Wb, Cm}
use Rattle.split_types.specs.declared.request.Request.{Request}
use Rattle.split_types.specs.declared.workload.Workload.{Workload}
use Rattle.split_types.specs.declared.event.Event.{Event}
use Rattle.split_types.specs.declared.event.Event.TheVariants.{Add, Send}
use Rattle.split_types.specs.History.{◌▹◌, adds, event_at}
use Rattle.split_types.specs.Hooks.{maker}
use Rattle.split_types.specs.Requests.{is_numbered, queued}
use Rattle.split_types.specs.CostAndClock.{head, cost_at, cost_of, first_of, length_of}
use Rattle.split_types.specs.Serving.{request_for}
use Rattle.split_types.specs.Accepted.{IsAccepted}
use Rattle.split_types.specs.Legal.{IsLegal}
use Rattle.split_types.specs.LegalHistories.{SendsShowCosts}
use Rattle.split_types.specs.Proving.Came.{Came, read_request, journal_request}
use Rattle.split_types.specs.Proving.Came.Came.{came_enter, came_admit, came_changed, came_exists, came_no_slot, came_make, came_drop, came_no_file, came_too_big}
use Rattle.split_types.specs.Proving.Came.Came.{came_wrote, came_read, came_fault, came_no_space, came_put, came_get, came_zeros, came_evict, came_load}
use Rattle.split_types.specs.Proving.Came.Came.{came_flushed, came_synced, came_seal, came_journal, came_serve, came_skip, came_map, came_grow, came_add, came_send, came_done}
use Rattle.split_types.specs.Proving.Known.{Known}
use Rattle.split_types.proofs.CameLaws.{came}
use Rattle.split_types.proofs.History.{event_at-new, event_at-stays, event_at-within}
use Rattle.split_types.proofs.KnownLaws.{known, queued_of}
use Rattle.split_types.proofs.RequestLaws.{picked_there}
use Rattle.split_types.proofs.Lists.{count_push, count_filter_less, count_filter_out, counted_here}

-- a request that was sent isn't queued any more
pub record IsSent (h : List Event) (id : ReqId) (cost : ℕ) : Type 0 where
  pub below : id.0 < adds h
  pub gone : count_by (is_numbered id) (queued h) ≡ 0
  pub shown : cost_of h id.0 ≡ cost

-- a request that is added later doesn't queue it again
sent_add : (w : Workload) (h : List Event) (by : Actor) (r : Request) (id : ReqId) (cost : ℕ) → r.id.0 ≡ adds h
    → IsSent h id cost → IsSent (h ▹ Add by r) id cost
sent_add w h by r id cost numbered s = record {
  below = omega (arith, s.below);
  gone =
      omega (
        arith,
        count_push (is_numbered id) (queued h) r,
        other (r.id.0 == id.0) (ne_eqb r.id.0 id.0 (λ (e : r.id.0 ≡ id.0). omega (arith, s.below, numbered))),
        s.gone,
      );
  shown = s.shown;
}
  where
    other : (b : Bool) → b ≡ false → ◌≡◌ {A = ℕ} (cond b 1 0) 0
    other b is = rw is refl

sent_next : (w : Workload) (h : List Event) (e : Event) (id : ReqId) (cost : ℕ) → IsAccepted w → Known w h
    → Came w h e → IsSent h id cost → IsSent (h ▹ e) id cost
sent_next w h e id cost accepted f (came_enter p c has out) s = record {
  below = s.below;
  gone = s.gone;
  shown = s.shown;
}
sent_next w h e id cost accepted f (came_admit p c has in' out may) s = record {
  below = s.below;
  gone = s.gone;
  shown = s.shown;
}
sent_next w h e id cost accepted f (came_make p name slot admitted idle unused at) s = record {
  below = s.below;
  gone = s.gone;
  shown = s.shown;
}
sent_next w h e id cost accepted f (came_drop p name serial working idle) s = record {
  below = s.below;
  gone = s.gone;
  shown = s.shown;
}
sent_next w h e id cost accepted f (came_no_file p c admitted none) s = record {
  below = s.below;
  gone = s.gone;
  shown = s.shown;
}
sent_next w h e id cost accepted f (came_changed p c admitted names acted) s = record {
  below = s.below;
  gone = s.gone;
  shown = s.shown;
}
sent_next w h e id cost accepted f (came_exists p name admitted idle taken) s = record {
  below = s.below;
  gone = s.gone;
  shown = s.shown;
}
sent_next w h e id cost accepted f (came_no_slot p name admitted idle unused none) s = record {
  below = s.below;
  gone = s.gone;
  shown = s.shown;
}
sent_next w h e id cost accepted f (came_too_big p name off len fill t working big) s = record {
  below = s.below;
  gone = s.gone;
  shown = s.shown;
}
sent_next w h e id cost accepted f (came_no_space p name off len fill t piece here out none) s = record {
  below = s.below;
  gone = s.gone;
  shown = s.shown;
}
sent_next w h e id cost accepted f (came_wrote p name off len fill t working none) s = record {
  below = s.below;
  gone = s.gone;
  shown = s.shown;
}
sent_next w h e id cost accepted f (came_read p name off len t working none) s = record {
  below = s.below;
  gone = s.gone;
  shown = s.shown;
}
sent_next w h e id cost accepted f (came_fault p c t piece working left bad) s = record {
  below = s.below;
  gone = s.gone;
  shown = s.shown;
}
sent_next w h e id cost accepted f (came_put p name off len fill t piece here may) s = record {
  below = s.below;
  gone = s.gone;
  shown = s.shown;
}
sent_next w h e id cost accepted f (came_get p name off len t piece here held) s = record {
  below = s.below;
  gone = s.gone;
  shown = s.shown;
}
sent_next w h e id cost accepted f (came_zeros p name off len t piece here absent none) s = record {
  below = s.below;
  gone = s.gone;
  shown = s.shown;
}
sent_next w h e id cost accepted f (came_evict p c t piece here absent v k found) s = record {
  below = s.below;
  gone = s.gone;
  shown = s.shown;
}
sent_next w h e id cost accepted f (came_serve run idle found) s = record {
  below = s.below;
  gone = s.gone;
  shown = s.shown;
}
sent_next w h e id cost accepted f (came_skip run at gone) s = record {
  below = s.below;
  gone = s.gone;
  shown = s.shown;
}
sent_next w h e id cost accepted f (came_map run free serves there none at) s = record {
  below = s.below;
  gone = s.gone;
  shown = s.shown;
}
sent_next w h e id cost accepted f (came_grow run block serves there at short) s = record {
  below = s.below;
  gone = s.gone;
  shown = s.shown;
}
sent_next w h e id cost accepted f (came_done k r at) s = record { below = s.below; gone = s.gone; shown = s.shown }
sent_next w h e id cost accepted f (came_load p c t piece here absent block at) s =
    sent_add w h (Client p) (read_request (adds h) p t piece.page block) id cost refl s
sent_next w h e id cost accepted f (came_add run block at there placed known) s =
    sent_add w h Wb (request_for (adds h) run block) id cost refl s
sent_next w h e id cost accepted f (came_flushed p name t working idle down) s = record {
  below = s.below;
  gone = s.gone;
  shown = s.shown;
}
sent_next w h e id cost accepted f (came_synced p name t working acted safe) s = record {
  below = s.below;
  gone = s.gone;
  shown = s.shown;
}
sent_next w h e id cost accepted f (came_seal may) s = record {
  below = s.below;
  gone = s.gone;
  shown = s.shown;
}
sent_next w h e id cost accepted f (came_journal kind first n j) s =
    sent_add w h Cm (journal_request (adds h) kind first n) id cost refl s
sent_next w h e id cost accepted f (came_send r free picked) s =
    let there = picked_there w h r accepted picked
    in let apart : (id.0 ≡ r.id.0 → ⊥) =
    λ same. omega
    (arith, counted_here (is_numbered id) (queued h) there.0 r there.1 (eq-eqb r.id.0 id.0 (sym same)), s.gone)
    in record {
      below = s.below;
      gone = omega (arith, count_filter_less (is_numbered id) (λ q. not (is_numbered r.id q)) (queued h), s.gone);
      shown =
          cond-false (id.0 == r.id.0) (cost_at (head h) (first_of h id.0) (length_of h id.0)) (cost_of h id.0)
          (ne_eqb id.0 r.id.0 apart)
          ∙ s.shown;
    }

-- the send itself
sent_now : (w : Workload) (h : List Event) (id : ReqId) (cost : ℕ) → IsAccepted w → Known w h
    → Came w h (Send id cost) → IsSent (h ▹ Send id cost) id cost
sent_now w h id cost accepted f (came_send r free picked) =
    let there = picked_there w h r accepted picked
    in let of = queued_of w h there.0 r f there.1
    in record {
      below = of.below;
      gone =
          count_filter_out (is_numbered r.id) (λ q. not (is_numbered r.id q)) (queued h)
          (λ q numbered. ap not numbered);
      shown =
          cond-true (r.id.0 == r.id.0) (cost_at (head h) (first_of h r.id.0) (length_of h r.id.0))
          (cost_of h r.id.0) (eq-eqb r.id.0 r.id.0 refl)
          ∙ ap (λ n. cost_at (head h) n (length_of h r.id.0)) of.first_is ∙ ap (cost_at (head h) r.first) of.length_is;
    }

pub sent_is : (w : Workload) (h : List Event) (i : ℕ) (id : ReqId) (cost : ℕ) → IsAccepted w → IsLegal w h
    → event_at h i ≡ Some (Send id cost) → IsSent h id cost
sent_is w [] i id cost accepted legal at = absurd (cc)
sent_is w (h ▹ e) i id cost accepted legal at =
    let f = known w h accepted legal.1
    in let c = came w h (maker e) e legal.0
    in elim (cases_order i (length h)) [
      | inl same ↦
          (let here : e ≡ Send id cost =
          same_Some e (Send id cost) (sym (event_at-new h e) ∙ ap (event_at (h ▹ e)) (sym same) ∙ at)
          in subst (λ d. IsSent (h ▹ d) id cost) (sym here) (sent_now w h id cost accepted f (subst (Came w h) here c)))
      | inr (inl below) ↦
          sent_next w h e id cost accepted f c
          (sent_is w h i id cost accepted legal.1 (sym (event_at-stays h e i below) ∙ at))
      | inr (inr past) ↦ (let within = event_at-within (h ▹ e) (Send id cost) i at in absurd (omega arith))
    ]

pub sends_show_costs : SendsShowCosts
sends_show_costs w h i id cost accepted legal at = (sent_is w h i id cost accepted legal at).shown
