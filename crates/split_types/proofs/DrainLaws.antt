-- Turns and plays keep a history legal, and draining ends with one that is drained.
use Rattle.std.proofs.Common.{◌≡◌, ℕ, zero, suc, ◌+◌, ◌≤◌, List, [], ◌∷◌, length, Bool, true, false, Option, Some, None, refl, arith, subst, sym, ◌∙◌, if◌then◌else◌}
use Rattle.split_types.specs.declared.actor.Actor.{Actor}
use Rattle.split_types.specs.declared.workload.Workload.{Workload}
use Rattle.split_types.specs.declared.event.Event.{Event}
use Rattle.split_types.specs.History.{◌▹◌}
use Rattle.split_types.specs.Workloads.{bound}
use Rattle.split_types.specs.Accepted.{IsAccepted}
use Rattle.split_types.specs.Next.{next}
use Rattle.split_types.specs.Legal.{IsLegal, is_drained, first_next, turn_order, turn, drained_for, play}
use Rattle.split_types.specs.Draining.{IsWhole, DrainsWhole, PlaysLegal}
use Rattle.split_types.proofs.CameLaws.{maker_is}
use Rattle.split_types.proofs.BoundLaws.{stays_below}
use Rattle.split_types.proofs.StuckLaws.{never_stuck}

-- a legal history stays legal by the next event of an actor
pub next_legal : (w : Workload) (h : List Event) (a : Actor) (e : Event) → IsLegal w h → next w h a ≡ Some e
    → IsLegal w (h ▹ e)
next_legal w h a e legal n = (subst (λ b. next w h b ≡ Some e) (sym (maker_is w h a e n)) n, legal)

pub first_next_legal : (w : Workload) (h : List Event) (actors : List Actor) (e : Event) → IsLegal w h
    → first_next w h actors ≡ Some e → IsLegal w (h ▹ e)
first_next_legal w h [] e legal n = absurd (cc)
first_next_legal w h (a ∷ actors) e legal n = go (next w h a) refl (first_next_legal w h actors e legal) n
  where
    go : (o : Option Event) → next w h a ≡ o → (first_next w h actors ≡ Some e → IsLegal w (h ▹ e))
        → (elim o [ Some d ↦ Some d | None ↦ first_next w h actors ]) ≡ Some e → IsLegal w (h ▹ e)
    go None is later n = later n
    go (Some d) is later n = next_legal w h a e legal (is ∙ n)

-- a turn is the next event of an actor; without one a history is drained
pub turn_legal : (w : Workload) (h : List Event) (e : Event) → IsLegal w h → turn w h ≡ Some e → IsLegal w (h ▹ e)
turn_legal w h e legal is = go (is_drained w h) is
  where
    go : (b : Bool) → (if b then None else first_next w h (turn_order w)) ≡ Some e → IsLegal w (h ▹ e)
    go true at = absurd (cc)
    go false at = first_next_legal w h (turn_order w) e legal at

pub turn_none : (w : Workload) (h : List Event) → IsAccepted w → IsLegal w h → turn w h ≡ None → is_drained w h ≡ true
turn_none w h accepted legal none = go (is_drained w h) refl none
  where
    go : (b : Bool) → is_drained w h ≡ b → (if b then None else first_next w h (turn_order w)) ≡ None
        → is_drained w h ≡ true
    go true is at = is
    go false is at = never_stuck w h accepted legal at

-- playing keeps a history legal
pub play_legal : PlaysLegal
play_legal w h [] legal = legal
play_legal w h (a ∷ actors) legal = go (next w h a) refl (λ k l. play_legal w k actors l)
  where
    go : (o : Option Event) → next w h a ≡ o → ((k : List Event) → IsLegal w k → IsLegal w (play w k actors))
        → IsLegal w (elim o [ None ↦ play w h actors | Some e ↦ play w (h ▹ e) actors ])
    go None is more = more h legal
    go (Some e) is more = more (h ▹ e) (next_legal w h a e legal is)

-- with fuel up to the bound it ends with a drained history
pub drained_for_whole : (w : Workload) (n : ℕ) (h : List Event) → IsAccepted w → IsLegal w h
    → bound w ≤ length h + n → IsWhole w (drained_for n w h)
drained_for_whole w zero h accepted legal fuel = absurd (omega (arith, stays_below w h accepted legal))
drained_for_whole w (suc n) h accepted legal fuel =
    go (turn w h) refl (λ e l. drained_for_whole w n (h ▹ e) accepted l (omega arith))
  where
    go : (o : Option Event) → turn w h ≡ o → ((e : Event) → IsLegal w (h ▹ e) → IsWhole w (drained_for n w (h ▹ e)))
        → IsWhole w (elim o [ None ↦ h | Some e ↦ drained_for n w (h ▹ e) ])
    go None is more = record {
      legal = legal;
      drained = turn_none w h accepted legal is;
      short = omega (arith, stays_below w h accepted legal);
    }
    go (Some e) is more = more e (turn_legal w h e legal is)

pub drains_whole : DrainsWhole
drains_whole w h accepted legal = drained_for_whole w (bound w) h accepted legal (omega arith)
