-- When a page is ready, when it stays so, and which run a serve takes.
use Rattle.std.proofs.Common.{◌≡◌, ℕ, List, [], ◌∷◌, true, false, not, ◌&&◌, ◌||◌, sym, ◌∙◌, ap}
use Rattle.std.specs.List.{list_any}
use Rattle.std.proofs.lemmas.Bool.{and_parts, and_from, or_right, not-true, not_from_false}
use Rattle.std.proofs.lemmas.List.Folds.{list_any-append}
use Rattle.split_types.specs.declared.ids.ReqId.{ReqId}
use Rattle.split_types.specs.declared.ids.Pid.{Pid}
use Rattle.split_types.specs.declared.ids.Serial.{Serial}
use Rattle.split_types.specs.declared.buf.Buf.TheVariants.{Page}
use Rattle.split_types.specs.declared.actor.Actor.TheVariants.{Client}
use Rattle.split_types.specs.declared.workload.Workload.{Workload}
use Rattle.split_types.specs.declared.event.Event.{Event}
use Rattle.split_types.specs.declared.event.Event.TheVariants.{Put, Add, Done}
use Rattle.split_types.specs.History.{◌▹◌, adds}
use Rattle.split_types.specs.Hooks.{covers, same_buf}
use Rattle.split_types.specs.Requests.{is_numbered, unfinished}
use Rattle.split_types.specs.Files.{is_live}
use Rattle.split_types.specs.Pages.{is_put_since, is_dirty, is_busy, is_ready}
use Rattle.split_types.specs.Proving.Came.{read_request}
use Rattle.split_types.proofs.Lists.{none_in_filter}

-- ---- the parts of being ready
pub record ReadyParts (w : Workload) (h : List Event) (s : Serial) (g : ℕ) : Type 0 where
  pub live : is_live w h s.0 ≡ true
  pub put : is_put_since h (Page s g) ≡ true
  pub idle : list_any (λ r. covers r (Page s g)) (unfinished h) ≡ false

pub ready_parts : (w : Workload) (h : List Event) (s : Serial) (g : ℕ) → is_ready w h (Page s g) ≡ true
    → ReadyParts w h s g
ready_parts w h s g ready =
    let both = and_parts (is_dirty w h (Page s g)) (not (is_busy w h (Page s g))) ready
    in let dirty = and_parts (is_live w h s.0) (is_put_since h (Page s g)) both.0
    in record {
      live = dirty.0;
      put = dirty.1;
      idle =
          sym (ap (λ b. b && list_any (λ r. covers r (Page s g)) (unfinished h)) dirty.0)
          ∙ not-true (is_busy w h (Page s g)) both.1;
    }

pub ready_from : (w : Workload) (h : List Event) (s : Serial) (g : ℕ) → ReadyParts w h s g
    → is_ready w h (Page s g) ≡ true
ready_from w h s g p =
    let any = list_any (λ r. covers r (Page s g)) (unfinished h)
    in and_from (is_dirty w h (Page s g)) (not (is_busy w h (Page s g)))
    (and_from (is_live w h s.0) (is_put_since h (Page s g)) p.live p.put)
    (not_from_false (is_busy w h (Page s g)) (ap (λ b. b && any) p.live ∙ p.idle))

-- ---- a page stays ready
pub ready_load : (w : Workload) (h : List Event) (s : Serial) (g : ℕ) (by : Pid) (t : Serial) (k block : ℕ)
    → is_ready w h (Page s g) ≡ true
    → is_ready w (h ▹ Add (Client by) (read_request (adds h) by t k block)) (Page s g) ≡ true
ready_load w h s g by t k block ready =
    let parts = ready_parts w h s g ready
    in ready_from w (h ▹ Add (Client by) (read_request (adds h) by t k block)) s g (record {
      live = parts.live;
      put = parts.put;
      idle =
          list_any-append (λ r. covers r (Page s g)) (unfinished h) (read_request (adds h) by t k block ∷ [])
          ∙ ap (λ b. b || false) parts.idle;
    })

pub ready_put : (w : Workload) (h : List Event) (s : Serial) (g : ℕ) (by : Pid) (t : Serial) (k from to fill : ℕ)
    → is_ready w h (Page s g) ≡ true → is_ready w (h ▹ Put by t k from to fill) (Page s g) ≡ true
ready_put w h s g by t k from to fill ready =
    let p = ready_parts w h s g ready
    in ready_from w (h ▹ Put by t k from to fill) s g
    (record {
      live = p.live;
      put = or_right (same_buf (Page s g) (Page t k)) (is_put_since h (Page s g)) p.put;
      idle = p.idle;
    })

pub ready_done : (w : Workload) (h : List Event) (s : Serial) (g k : ℕ) (id : ReqId)
    → is_ready w h (Page s g) ≡ true → is_ready w (h ▹ Done k id true) (Page s g) ≡ true
ready_done w h s g k id ready =
    let p = ready_parts w h s g ready
    in ready_from w (h ▹ Done k id true) s g
    (record {
      live = p.live;
      put = p.put;
      idle = none_in_filter (λ r. covers r (Page s g)) (λ r. not (is_numbered id r)) (unfinished h) p.idle;
    })
