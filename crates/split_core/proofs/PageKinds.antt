-- What stands after an event, by its kind.
use Rattle.std.proofs.Common.{◌≡◌, ℕ, ◌*◌, ◌<◌, ◌≤◌, List, Bool, true, false, Option, None, is_some, refl, ap, sym, subst}
use Rattle.std.proofs.Common.{◌∙◌, arith}
use Rattle.split_types.specs.declared.ids.Pid.{Pid}
use Rattle.split_types.specs.declared.ids.Serial.{Serial}
use Rattle.split_types.specs.declared.ids.Slot.{Slot}
use Rattle.split_types.specs.declared.buf.Buf.TheVariants.{Page}
use Rattle.split_types.specs.declared.call.Reply.{Reply}
use Rattle.split_types.specs.declared.workload.Workload.{Workload}
use Rattle.split_types.specs.declared.event.Event.{Event}
use Rattle.split_types.specs.declared.event.Event.TheVariants.{Get, Drop, Ret, Evict}
use Rattle.split_types.specs.History.{◌▹◌}
use Rattle.cause_set.specs.Tags.{Tags, held, same, use_in}
use Rattle.page_cache.specs.Cached.{Cached, page_of, is_loading, tags_in}
use Rattle.page_cache.specs.Changes.{ChangesOnly, ChangesEach, Frees, KeepsTouches, IsVictim, unpinned}
use Rattle.split_core.specs.declared.parts.Given.{Given}
use Rattle.split_core.specs.declared.note.pages.Pages.{Pages}
use Rattle.split_core.specs.Givens.{IsGiven, GivenDrop}
use Rattle.split_core.specs.Pages.{CacheStands, PagesBefore, PagesAfter, Gets}
use Rattle.split_core.proofs.PageNotes.{pages_ret, pages_get, pages_hole}
use Rattle.split_core.proofs.PageTags.{Moves, tags_kept}
use Rattle.split_core.proofs.PageLoads.{none_held}
use Rattle.split_core.proofs.PageDrops.{pages_drop}
use Rattle.split_core.proofs.HeldWithin.{held_size}
use Rattle.split_core.proofs.PageEvicts.{idle_rests, victim_is, pages_evict}

pub after_as : (w : Workload) (p q : Pages) (before after : Tags) (h : List Event) (e d : Event) → e ≡ d
    → PagesAfter w p q before after (h ▹ d) → PagesAfter w p q before after (h ▹ e)
after_as w p q before after h e d is = subst (λ (x : Event). PagesAfter w p q before after (h ▹ x)) (sym is)

pub before_as : (w : Workload) (p : Pages) (tags : Tags) (h : List Event) (e d : Event) → e ≡ d
    → PagesBefore w p tags h e → PagesBefore w p tags h d
before_as w p tags h e d is = subst (PagesBefore w p tags h) is

pub after_ret : (w : Workload) (h : List Event) (e : Event) (by : Pid) (reply : Reply) (p q : Pages) (tags : Tags)
    → e ≡ Ret by reply → PagesBefore w p tags h e → ChangesEach p.cache q.cache (λ k. unpinned by)
    → tags_in q.cache ≡ tags_in p.cache → PagesAfter w p q tags tags (h ▹ e)
after_ret w h e by reply p q tags is before each same_tags =
    let b = before_as w p tags h e (Ret by reply) is before
    in after_as w p q tags tags h e (Ret by reply) is record {
      stands = pages_ret w h by reply p.cache q.cache tags b.accepted b.fits.legal each b.stands;
      tags = tags_kept tags p.cache q.cache (λ n. ap (λ l. held same l n) same_tags);
    }

pub after_get : (w : Workload) (h : List Event) (e : Event) (by : Pid) (s : Serial) (g from to sum : ℕ) (p q : Pages)
    (tags : Tags) → e ≡ Get by s g from to sum → PagesBefore w p tags h e → Gets p.cache q.cache (Page s g) by
    → PagesAfter w p q tags tags (h ▹ e)
after_get w h e by s g from to sum p q tags is before gets =
    after_as w p q tags tags h e (Get by s g from to sum) is record {
      stands = by_held (is_some (page_of p.cache (Page s g))) refl;
      tags = tags_kept tags p.cache q.cache
          (λ n. ap (λ l. held same l n) gets.tags
          ∙ ap (λ (c : Cached). held same (tags_in c) n) gets.touches.rest);
    }
  where
    b : PagesBefore w p tags h (Get by s g from to sum)
    b = before_as w p tags h e (Get by s g from to sum) is before

    by_held : (t : Bool) → is_some (page_of p.cache (Page s g)) ≡ t
        → CacheStands w q.cache tags (h ▹ Get by s g from to sum)
    by_held true here =
        pages_get w h by s g from to sum p.cache gets.mid q.cache tags b.accepted b.fits.legal gets.touches.rest
        (gets.touches.touched here) gets.pages b.stands
    by_held false out =
        pages_hole w h by s g from to sum p.cache q.cache tags b.accepted b.fits.legal
        (none_held (page_of p.cache (Page s g)) out)
        (subst (λ (c : Cached). ChangesEach c q.cache (λ k. unpinned by)) (gets.touches.still out) gets.pages) b.stands

-- the page isn't loading, if it is held
pub get_loaded : (w : Workload) (h : List Event) (e : Event) (by : Pid) (s : Serial) (g from to sum : ℕ) (p : Pages)
    (tags : Tags) → e ≡ Get by s g from to sum → PagesBefore w p tags h e
    → (is_loading (page_of p.cache (Page s g)) ≡ false) × (from < to) × (to ≤ 4096)
get_loaded w h e by s g from to sum p tags is before =
    let b = before_as w p tags h e (Get by s g from to sum) is before
    in (b.stands.loading_are s g ∙ b.fits.kind.loaded, b.fits.kind.some, b.fits.kind.most)

-- ---- a drop
-- each page of the file that is held lies below the size that is handed on
pub drop_within : (w : Workload) (h : List Event) (e : Event) (by : Pid) (slot : Slot) (s : Serial) (p : Pages)
    (tags : Tags) (given : Given) → e ≡ Drop by slot s → PagesBefore w p tags h e → IsGiven w h e given → (g : ℕ)
    → is_some (page_of p.cache (Page s g)) ≡ true → 4096 * g < given.size
drop_within w h e by slot s p tags given is before handed g held =
    let b = before_as w p tags h e (Drop by slot s) is before
    in let drop : GivenDrop w h s given = subst (λ (x : Event). IsGiven w h x given) is handed
    in let below = held_size w h s g b.accepted b.fits.legal.1 (sym (b.stands.held_are s g) ∙ held)
    in omega (arith, below, drop.size_is)

pub after_drop : (w : Workload) (h : List Event) (e : Event) (by : Pid) (slot : Slot) (s : Serial) (p q : Pages)
    (before after : Tags) → e ≡ Drop by slot s → PagesBefore w p before h e → Frees before after p.cache q.cache s
    → Moves before after p.cache q.cache → PagesAfter w p q before after (h ▹ e)
after_drop w h e by slot s p q before after is known frees moved =
    let b = before_as w p before h e (Drop by slot s) is known
    in after_as w p q before after h e (Drop by slot s) is record {
      stands = pages_drop w h by slot s p.cache q.cache before after b.accepted b.fits.legal frees b.stands;
      tags = moved;
    }

pub evicts : (w : Workload) (h : List Event) (e : Event) (by : Pid) (s : Serial) (g : ℕ) (p : Pages) (tags : Tags)
    → e ≡ Evict by s g → PagesBefore w p tags h e → IsVictim p.cache (Page s g)
evicts w h e by s g p tags is before =
    let b = before_as w p tags h e (Evict by s g) is before
    in victim_is w h p.cache tags s g b.accepted b.fits.legal.1 b.fits.kind b.stands

pub after_evict : (w : Workload) (h : List Event) (e : Event) (by : Pid) (s : Serial) (g : ℕ) (p q : Pages)
    (tags : Tags) → e ≡ Evict by s g → PagesBefore w p tags h e → ChangesOnly p.cache q.cache (Page s g) None
    → KeepsTouches p.cache q.cache → PagesAfter w p q tags tags (h ▹ e)
after_evict w h e by s g p q tags is before page keeps =
    let b = before_as w p tags h e (Evict by s g) is before
    in let rested = idle_rests (page_of p.cache (Page s g)) (evicts w h e by s g p tags is before).idle
    in after_as w p q tags tags h e (Evict by s g) is record {
      stands = pages_evict w h by s g p.cache q.cache tags b.accepted b.fits.legal b.fits.kind page keeps b.stands;
      tags = tags_kept tags p.cache q.cache
          (λ n. omega (arith, page.tags n, ap (λ (t : Option ℕ). use_in same t n) rested.clean));
    }
