-- How the order in which pages were touched changes with each event.
use Rattle.std.proofs.Common.{◌≡◌, ℕ, ◌+◌, ◌≤◌, List, [], length, Bool, true, false, ◌&&◌, Some, None, refl, arith, sym, inl, inr, ap, ◌∙◌, if◌then◌else◌}
use Rattle.std.proofs.lemmas.Bool.{and_parts, both_ways, or_cases}
use Rattle.std.proofs.lemmas.Option.{same_Some}
use Rattle.split_types.specs.declared.buf.Buf.{Buf}
use Rattle.split_types.specs.declared.buf.Buf.TheVariants.{Page}
use Rattle.split_types.specs.declared.workload.Workload.{Workload}
use Rattle.split_types.specs.declared.event.Event.{Event}
use Rattle.split_types.specs.declared.event.Event.TheVariants.{Put, Get, Done}
use Rattle.split_types.specs.History.{◌▹◌}
use Rattle.split_types.specs.Hooks.{maker, same_buf}
use Rattle.split_types.specs.Pages.{is_live_page}
use Rattle.split_types.specs.Reads.{reads, is_loading, is_read_of}
use Rattle.split_types.specs.HeldPages.{is_placed}
use Rattle.split_types.specs.Victims.{last_touch}
use Rattle.split_types.specs.PagesInCache.{TouchAfter, IsThere, TouchesChange}
use Rattle.split_types.specs.Accepted.{IsAccepted}
use Rattle.split_types.specs.Legal.{IsLegal}
use Rattle.split_types.specs.Proving.Came.{Came}
use Rattle.split_types.specs.Proving.Came.Came.{came_done}
use Rattle.split_types.proofs.CameLaws.{came}
use Rattle.split_types.proofs.VictimLaws.{touched_before, same_touch}
use Rattle.split_types.proofs.CacheLaws.{IsKnown, is_known, flying}

touch_next : (w : Workload) (h : List Event) (e : Event) (b : Buf) → IsKnown w h → Came w h e → TouchAfter h e b
touch_next w h e b f (came_done k r at) = λ x there.
    (let fly = flying w h k r f at
    in ap (λ o. if elim o [ None ↦ false | Some y ↦ reads y b ] then length h else last_touch h b) fly.numbered
    ∙ ap (λ y. if reads y b then length h else last_touch h b) (same_Some r x (sym fly.added ∙ there)))
touch_next w h e b f c = refl

touch_change : (w : Workload) (h : List Event) (e : Event) (b : Buf) → IsAccepted w → IsLegal w (h ▹ e)
    → TouchAfter h e b
touch_change w h e b accepted legal =
    touch_next w h e b (is_known w h accepted legal.1) (came w h (maker e) e legal.0)

-- ---- the places of touches
later : (t : Bool) (old n : ℕ) → old ≤ n → (if t then n else old) ≤ n + 1
later true old n most = omega arith
later false old n most = omega arith

touched_most : (h : List Event) (b : Buf) → last_touch h b ≤ length h
touched_most [] b = omega arith
touched_most (h ▹ Put by s g from to fill) b =
    let all = later (same_buf b (Page s g)) (last_touch h b) (length h) (touched_most h b) in omega (arith, all)
touched_most (h ▹ Get by s g from to sum) b =
    let all = later (same_buf b (Page s g)) (last_touch h b) (length h) (touched_most h b) in omega (arith, all)
touched_most (h ▹ Done k id true) b =
    let all = later (is_read_of h id b) (last_touch h b) (length h) (touched_most h b) in omega (arith, all)
touched_most (h ▹ e) b = let all = touched_most h b in omega (arith, all)

-- what is there was put or loaded
pub there_placed : (w : Workload) (h : List Event) (b : Buf) → IsThere w h b → is_placed h b ≡ true
there_placed w h b there = elim (or_cases (is_loading w h b) (is_live_page w h b && is_placed h b) there.held) [
  | inl loading ↦ absurd (both_ways (is_loading w h b) there.loaded loading)
  | inr placed ↦ (and_parts (is_live_page w h b) (is_placed h b) placed).1
]

pub touches_change : TouchesChange
touches_change = record {
  change = touch_change;
  most = touched_most;
  before = λ w h b there. touched_before h b (there_placed w h b there);
  apart = λ w h b c first second same.
      same_touch h b c (there_placed w h b first) (there_placed w h c second) same;
}
