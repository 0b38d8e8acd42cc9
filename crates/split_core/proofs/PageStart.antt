-- A cache before any event, a cache with more room, and a page that is found dirty.
use Rattle.std.proofs.Common.{◌≡◌, ℕ, List, [], Bool, true, false, ◌&&◌, ◌||◌, Option, Some, None, is_some, refl}
use Rattle.std.proofs.Common.{ap, sym, subst, ◌∙◌, if◌then◌else◌}
use Rattle.std.specs.Prelude.{IsSomeAnd}
use Rattle.std.specs.Option.{option_map}
use Rattle.std.proofs.lemmas.Bool.{both_ways}
use Rattle.std.proofs.lemmas.Option.{same_Some}
use Rattle.split_types.specs.declared.ids.Pid.{Pid}
use Rattle.split_types.specs.declared.ids.Serial.{Serial}
use Rattle.split_types.specs.declared.buf.Buf.{Buf}
use Rattle.split_types.specs.declared.buf.Buf.TheVariants.{Page}
use Rattle.split_types.specs.declared.workload.Workload.{Workload}
use Rattle.split_types.specs.declared.event.Event.{Event}
use Rattle.split_types.specs.Pages.{is_live_page}
use Rattle.split_types.specs.HeldPages.{is_held}
use Rattle.split_types.proofs.Shared.{union-none}
use Rattle.cause_set.specs.Tags.{Tags}
use Rattle.page_cache.specs.declared.state.PageState.{PageState}
use Rattle.page_cache.specs.Held.{Held}
use Rattle.page_cache.specs.Cached.{Cached, page_of, held_in, unsettled_in, is_busy, is_loading, tag_in, state_of}
use Rattle.split_core.specs.Pages.{CacheStands}
use Rattle.split_core.proofs.PageFacts.{Mirrors}
use Rattle.split_core.proofs.PageNotes.{stands_by}

-- ---- before any event
and_false : (b : Bool) → (b && false) ≡ false
and_false true = refl
and_false false = refl

none_held : (w : Workload) (b : Buf) → is_held w [] b ≡ false
none_held w b =
    ap (λ t. t || (is_live_page w [] b && false)) (and_false (is_live_page w [] b)) ∙ and_false (is_live_page w [] b)

no_pin : (t u : Bool) → ◌≡◌ {A = Option Pid} (if t then (if u then None else None) else None) None
no_pin true true = refl
no_pin true false = refl
no_pin false u = refl

no_page : (w : Workload) (tags : Tags) (s : Serial) (g : ℕ) → Mirrors w [] tags None s g
no_page w tags s g =
    let none = and_false (is_live_page w [] (Page s g))
    in record {
      held_is = sym (none_held w (Page s g));
      loading_is = sym none;
      dirty_is = sym none;
      busy_is = sym none;
      pin_is = sym (no_pin (is_live_page w [] (Page s g)) (is_live_page w [] (Page s g) && false));
      causes_is = sym union-none;
      bytes_is = λ there. absurd (both_ways (is_held w [] (Page s g)) (none_held w (Page s g)) there.held);
    }

pub pages_none : (w : Workload) (c : Cached) (tags : Tags) → c.limit ≡ w.cache → ((b : Buf) → page_of c b ≡ None)
    → held_in c ≡ 0 → unsettled_in c ≡ 0 → CacheStands w c tags []
pages_none w c tags limit empty none settled =
    stands_by w [] c tags limit
    (λ s g. subst (λ (x : Option Held). Mirrors w [] tags x s g) (sym (empty (Page s g))) (no_page w tags s g))
    (λ s t g k one two less. absurd (both_ways (is_held w [] (Page s g)) (none_held w (Page s g)) one.held))
    none settled
    (λ b held. absurd (both_ways (is_some (page_of c b)) (ap is_some (empty b)) held))

-- ---- more room
roomy : (w : Workload) (c : Cached) (tags : Tags) (h : List Event) (n : ℕ) → CacheStands w c tags h
    → CacheStands w (record c { spare = n }) tags h
roomy w c tags h n stands = record {
  limit = stands.limit;
  held_are = stands.held_are;
  loading_are = stands.loading_are;
  dirty_are = stands.dirty_are;
  busy_are = stands.busy_are;
  pins_are = stands.pins_are;
  causes_are = stands.causes_are;
  bytes_are = stands.bytes_are;
  order = stands.order;
  held_counted = stands.held_counted;
  unsettled_counted = stands.unsettled_counted;
  pages_alone = stands.pages_alone;
}

pub pages_roomy : (w : Workload) (old new : Cached) (tags : Tags) (h : List Event)
    → new ≡ record old { spare = new.spare } → CacheStands w old tags h → CacheStands w new tags h
pages_roomy w old new tags h is stands =
    subst (λ (c : Cached). CacheStands w c tags h) (sym is) (roomy w old tags h new.spare stands)

-- ---- how a page is found
pub found_dirty : (x : Option Held) (found : PageState) → Some found ≡ option_map state_of x
    → found.dirty ≡ is_some (tag_in x)
found_dirty None found is = absurd (cc)
found_dirty (Some p) found is = ap (λ (s : PageState). s.dirty) (same_Some found (state_of p) is)

pub none_dirty : (x : Option Held) → ◌≡◌ {A = Option PageState} None (option_map state_of x)
    → false ≡ is_some (tag_in x)
none_dirty None is = refl
none_dirty (Some p) is = absurd (cc)

pub found_busy : (x : Option Held) (found : PageState) → Some found ≡ option_map state_of x
    → found.busy ≡ is_busy x
found_busy None found is = absurd (cc)
found_busy (Some p) found is = ap (λ (s : PageState). s.busy) (same_Some found (state_of p) is)

pub none_busy : (x : Option Held) → ◌≡◌ {A = Option PageState} None (option_map state_of x) → false ≡ is_busy x
none_busy None is = refl
none_busy (Some p) is = absurd (cc)

pub found_loading : (x : Option Held) (found : PageState) → Some found ≡ option_map state_of x
    → found.loading ≡ is_loading x
found_loading None found is = absurd (cc)
found_loading (Some p) found is = ap (λ (s : PageState). s.loading) (same_Some found (state_of p) is)

pub none_loading : (x : Option Held) → ◌≡◌ {A = Option PageState} None (option_map state_of x)
    → false ≡ is_loading x
none_loading None is = refl
none_loading (Some p) is = absurd (cc)

pub found_held : (x : Option Held) → is_some (option_map state_of x) ≡ is_some x
found_held None = refl
found_held (Some p) = refl

pub found_loaded : (x : Option Held) → is_some x ≡ true → is_loading x ≡ false
    → IsSomeAnd x (λ p. p.state.loading ≡ false)
found_loaded None held loaded = absurd (cc)
found_loaded (Some p) held loaded = loaded
