-- Which pages of the cache may be evicted, and which one is evicted next.
use Rattle.std.proofs.Common.{◌≡◌, ◌==◌, ℕ, ◌<◌, List, [], Bool, true, false, not, ◌&&◌, ◌||◌}
use Rattle.std.proofs.Common.{Option, Some, None, is_some, is_none, refl, ap, sym, ◌∙◌, arith, inl, inr, IsTrue}
use Rattle.std.proofs.lemmas.Bool.{and_parts, cases_Bool, both_ways}
use Rattle.split_types.specs.declared.ids.Pid.{Pid}
use Rattle.split_types.specs.declared.ids.ReqId.{ReqId}
use Rattle.split_types.specs.declared.actor.Actor.TheVariants.{Dn}
use Rattle.split_types.specs.declared.buf.Buf.{Buf}
use Rattle.split_types.specs.declared.buf.Buf.TheVariants.{Page, Bitmap, Dir, Inode}
use Rattle.split_types.specs.declared.workload.Workload.{Workload}
use Rattle.split_types.specs.declared.event.Event.{Event}
use Rattle.split_types.specs.declared.event.Event.TheVariants.{Ret, Done}
use Rattle.split_types.specs.History.{◌▹◌}
use Rattle.split_types.specs.Hooks.{same_buf}
use Rattle.split_types.specs.Pages.{is_dirty, is_busy}
use Rattle.split_types.specs.Reads.{is_loading, is_read_badly}
use Rattle.split_types.specs.HeldPages.{is_held, is_unsettled}
use Rattle.split_types.specs.Victims.{last_touch, is_pinned, is_evictable, victim, IsVictim}
use Rattle.split_types.specs.PagesInCache.{IsThere, pin_of}
use Rattle.split_types.specs.Legal.{IsLegal}
use Rattle.split_types.specs.Proving.Came.{Came}
use Rattle.split_types.proofs.Shared.{came, same_buf-is, pins_change, victims_are_oldest}
use Rattle.cause_set.specs.Tags.{Tags}
use Rattle.page_cache.specs.Held.{Held}
use Rattle.page_cache.specs.Cached as cached
use Rattle.page_cache.specs.Changes as changes
use Rattle.client_calls.specs.Shows.{IsEvicted}
use Rattle.split_core.specs.declared.note.pages.Pages.{Pages}
use Rattle.split_core.specs.Pages.{PagesStand}

-- ---- reads that were done badly
never_badly : (w : Workload) (h : List Event) (k : ℕ) (id : ReqId) → Came w h (Done k id false) → ⊥
never_badly w h k id row = elim row [ ]

and_false : (b : Bool) → (b && false) ≡ false
and_false true = refl
and_false false = refl

-- there are none in a legal history
pub none_badly : (w : Workload) (h : List Event) (p : ℕ) (b : Buf) → IsLegal w h → is_read_badly h p b ≡ false
none_badly w [] p b legal = refl
none_badly w (h ▹ Done k id false) p b legal =
    absurd (never_badly w h k id (came w h (Dn k) (Done k id false) legal.0))
none_badly w (h ▹ Ret by reply) p b legal =
    ap (λ x. not (by.0 == p) && x) (none_badly w h p b legal.1) ∙ and_false (not (by.0 == p))
none_badly w (h ▹ e) p b legal = none_badly w h p b legal.1

-- ---- pages in the cache
-- a page is dirty or busy in the cache
pub unsettled_in : (x : Option Held) → cached.is_unsettled x ≡ (is_some (cached.tag_in x) || cached.is_busy x)
unsettled_in None = refl
unsettled_in (Some p) = refl

idle_of : (dirty busy loading : Bool) (pin : Option Pid)
    → (true && not ((dirty || busy) || loading || is_some pin)) ≡ (not dirty && not busy && not loading && is_none pin)
idle_of true busy loading pin = refl
idle_of false true loading pin = refl
idle_of false false true pin = refl
idle_of false false false None = refl
idle_of false false false (Some p) = refl

-- it is held, and neither dirty, busy, loading nor kept for a process
idle_in : (x : Option Held) (pin : Option Pid) → (IsTrue (is_some x) → cached.pin_in x ≡ pin)
    → (is_some x && not ((is_some (cached.tag_in x) || cached.is_busy x) || cached.is_loading x || is_some pin))
    ≡ cached.is_idle x
idle_in None pin at = refl
idle_in (Some p) pin at =
    ap (λ o. true && not ((is_some p.tag || p.state.busy) || p.state.loading || is_some o)) (sym (at refl))
    ∙ idle_of (is_some p.tag) p.state.busy p.state.loading p.state.pin

not_there : (x : Option Held) → (IsTrue (is_some x) → ⊥) → false ≡ cached.is_idle x
not_there None none = refl
not_there (Some p) none = absurd (none refl)

-- a page may be evicted where it is so in the cache
evictable_is : (w : Workload) (p : Pages) (tags : Tags) (h : List Event) (b : Buf) → PagesStand w p tags h
    → is_evictable w h b ≡ cached.is_idle (cached.page_of p.cache b)
evictable_is w p tags h (Page s g) stands =
    let b = Page s g in
    let x = cached.page_of p.cache b in
    let pin = pin_of w h b in
    pins_change.free w h b
    ∙ ap (λ t. t && not ((is_dirty w h b || is_busy w h b) || is_loading w h b || is_some pin))
    (sym (stands.held_are s g))
    ∙ ap (λ t. is_some x && not ((t || is_busy w h b) || is_loading w h b || is_some pin)) (sym (stands.dirty_are s g))
    ∙ ap (λ t. is_some x && not ((is_some (cached.tag_in x) || t) || is_loading w h b || is_some pin))
    (sym (stands.busy_are s g))
    ∙ ap (λ t. is_some x && not ((is_some (cached.tag_in x) || cached.is_busy x) || t || is_some pin))
    (sym (stands.loading_are s g))
    ∙ idle_in x pin (λ there. stands.pins_are s g (sym (stands.held_are s g) ∙ there))
evictable_is w p tags h Bitmap stands = not_there (cached.page_of p.cache Bitmap) (stands.pages_alone Bitmap)
evictable_is w p tags h (Dir k) stands = not_there (cached.page_of p.cache (Dir k)) (stands.pages_alone (Dir k))
evictable_is w p tags h (Inode t) stands = not_there (cached.page_of p.cache (Inode t)) (stands.pages_alone (Inode t))

-- ---- the page that is evicted next
not_loading : (unsettled loading pinned : Bool) → not (unsettled || loading || pinned) ≡ true → loading ≡ false
not_loading true loading pinned is = absurd (cc (is))
not_loading false true pinned is = absurd (cc (is))
not_loading false false pinned is = refl

evictable_there : (w : Workload) (h : List Event) (b : Buf) → is_evictable w h b ≡ true → IsThere w h b
evictable_there w h b may =
    let parts = and_parts (is_held w h b) (not (is_unsettled w h b || is_loading w h b || is_pinned w h b)) may in
    record {
      held = parts.0;
      loaded = not_loading (is_unsettled w h b) (is_loading w h b) (is_pinned w h b) parts.1;
    }

-- of two pages that are there, the one that was touched earlier is that of the lesser touch
touched_before : (w : Workload) (p : Pages) (tags : Tags) (h : List Event) (b d : Buf) → PagesStand w p tags h
    → IsThere w h b → IsThere w h d → last_touch h b < last_touch h d
    → cached.touch_of p.cache b < cached.touch_of p.cache d
touched_before w p tags h (Page s g) (Page t k) stands first second before = stands.order s t g k first second before
touched_before w p tags h (Page s g) Bitmap stands first second before =
    let no : false ≡ true = second.held in absurd (cc (no))
touched_before w p tags h (Page s g) (Dir k) stands first second before =
    let no : false ≡ true = second.held in absurd (cc (no))
touched_before w p tags h (Page s g) (Inode t) stands first second before =
    let no : false ≡ true = second.held in absurd (cc (no))
touched_before w p tags h Bitmap d stands first second before =
    let no : false ≡ true = first.held in absurd (cc (no))
touched_before w p tags h (Dir k) d stands first second before =
    let no : false ≡ true = first.held in absurd (cc (no))
touched_before w p tags h (Inode t) d stands first second before =
    let no : false ≡ true = first.held in absurd (cc (no))

-- the cache's victim is the page that is evicted next
one_victim : (w : Workload) (p : Pages) (tags : Tags) (h : List Event) (b d : Buf) → PagesStand w p tags h
    → IsVictim w h d → changes.IsVictim p.cache b → d ≡ b
one_victim w p tags h b d stands first oldest = elim (cases_Bool (same_buf d b)) [
  | inl same ↦ same_buf-is d b same
  | inr other ↦
      (let may = evictable_is w p tags h b stands ∙ oldest.idle in
      let idle : cached.is_idle (cached.page_of p.cache d) ≡ true =
      sym (evictable_is w p tags h d stands) ∙ first.evictable in
      let before = touched_before w p tags h d b stands (evictable_there w h d first.evictable)
      (evictable_there w h b may) (first.oldest b may other) in
      absurd (omega (arith, before, oldest.oldest d idle)))
]

pub evicted : (w : Workload) (p : Pages) (tags : Tags) (h : List Event) → PagesStand w p tags h
    → IsEvicted p.cache (victim w h)
evicted w p tags h stands = by_victim (victim w h) refl
  where
    by_victim : (o : Option Buf) → victim w h ≡ o → IsEvicted p.cache o
    by_victim None is = record {
      some = λ b oldest. absurd (both_ways (is_evictable w h b) (victims_are_oldest.none w h b is)
          (evictable_is w p tags h b stands ∙ oldest.idle));
      none = λ no. refl;
    }
    by_victim (Some d) is = record {
      some = λ b oldest. ap Some (one_victim w p tags h b d stands (victims_are_oldest.some w h d is) oldest);
      none = λ no. absurd (both_ways (is_evictable w h d) (evictable_is w p tags h d stands ∙ no d)
          (victims_are_oldest.some w h d is).evictable);
    }
