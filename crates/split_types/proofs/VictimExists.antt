-- Where no request waits and no page is ready, the cache has room, or a page that may be evicted.
use Rattle.std.proofs.Common.{◌≡◌, ℕ, ◌-◌, ◌≤◌, List, [], ◌∷◌, length, filter, count_by, Bool, true, false, not, ◌&&◌, ◌||◌, is_some, Option, Some, None, refl, arith, subst, sym, ap, ◌∙◌}
use Rattle.std.specs.List.{list_any}
use Rattle.std.proofs.lemmas.Bool.{and_parts, and_from, and_right, or_from, or_left, both_ways, cond-false, eqb-true, eq-eqb, leb-true, lt-leb, not_from_false, false_from_ne_true}
use Rattle.split_types.specs.declared.ids.Pid.{Pid}
use Rattle.split_types.specs.declared.ids.Serial.{Serial}
use Rattle.split_types.specs.declared.buf.Buf.{Buf}
use Rattle.split_types.specs.declared.buf.Buf.TheVariants.{Page, Bitmap, Dir, Inode}
use Rattle.split_types.specs.declared.workload.Workload.{Workload}
use Rattle.split_types.specs.declared.event.Event.{Event}
use Rattle.split_types.specs.Hooks.{same_buf, covers}
use Rattle.split_types.specs.Requests.{unfinished}
use Rattle.split_types.specs.Pages.{is_live_page, is_dirty, is_busy, is_ready}
use Rattle.split_types.specs.Reads.{reads, outstanding, is_loading, is_process}
use Rattle.split_types.specs.HeldPages.{is_held, is_unsettled, known_pages, held_pages, is_full, unsettled_pages, is_crowded}
use Rattle.split_types.specs.Victims.{pinned_by, is_pinned, is_evictable, victim}
use Rattle.split_types.specs.Accepted.{IsAccepted}
use Rattle.split_types.specs.Legal.{IsLegal}
use Rattle.split_types.proofs.Lists.{list_any_here, find_some, filter_there, count_filter_less}
use Rattle.split_types.proofs.HeldLaws.{same_buf-is, pages_are_known}
use Rattle.split_types.proofs.VictimLaws.{victims_are_oldest}
use Rattle.split_types.proofs.Pigeonhole.{count_once, few_elements}
use Rattle.split_types.proofs.NumberLaws.{all_done_well}
use Rattle.split_types.proofs.PinLaws.{Pins, pins, pins_one}

-- ---- no page loads, or is dirty or busy
-- no page is loading, dirty or busy
pub record IsQuiet (w : Workload) (h : List Event) : Type 0 where
  pub loading : (b : Buf) → is_loading w h b ≡ false
  pub dirty : (b : Buf) → is_dirty w h b ≡ false
  pub busy : (b : Buf) → is_busy w h b ≡ false

-- where no request is left no page is busy or loading, and what is dirty is ready
none_busy : (w : Workload) (h : List Event) (b : Buf) → unfinished h ≡ [] → is_busy w h b ≡ false
none_busy w h b none =
    ap (λ l. is_live_page w h b && list_any (λ r. covers r b) l) none ∙ and_right (is_live_page w h b) false refl

none_loading : (w : Workload) (h : List Event) (b : Buf) → outstanding h ≡ [] → is_loading w h b ≡ false
none_loading w h b none =
    ap (λ l. is_live_page w h b && list_any (λ r. reads r b) l) none ∙ and_right (is_live_page w h b) false refl

none_dirty : (w : Workload) (h : List Event) (b : Buf) → unfinished h ≡ []
    → list_any (is_ready w h) (known_pages h) ≡ false → is_dirty w h b ≡ false
none_dirty w h b none ready = false_from_ne_true (is_dirty w h b) (λ dirty. not_ready dirty)
  where
    not_ready : is_dirty w h b ≡ true → ⊥
    not_ready dirty =
        let known = pages_are_known.unsettled w h b (or_left (is_dirty w h b) (is_busy w h b) dirty)
        in let found = find_some (same_buf b) (known_pages h) known
        in both_ways (list_any (is_ready w h) (known_pages h)) ready
        (list_any_here (is_ready w h) (known_pages h) found.place found.element found.there
        (subst (λ x. is_ready w h x ≡ true) (same_buf-is b found.element found.passes)
        (and_from (is_dirty w h b) (not (is_busy w h b)) dirty
        (not_from_false (is_busy w h b) (none_busy w h b none)))))

-- no page is loading, dirty or busy where no request is left, and no page that was put may be served
pub quiet : (w : Workload) (h : List Event) → IsAccepted w → IsLegal w h → unfinished h ≡ []
    → list_any (is_ready w h) (known_pages h) ≡ false → IsQuiet w h
quiet w h accepted legal none ready = record {
  loading = λ b. none_loading w h b (all_done_well w h legal ∙ none);
  dirty = λ b. none_dirty w h b none ready;
  busy = λ b. none_busy w h b none;
}

settled : (w : Workload) (h : List Event) (b : Buf) → IsQuiet w h → is_unsettled w h b ≡ false
settled w h b q = or_from (is_dirty w h b) (is_busy w h b) (q.dirty b) (q.busy b)

-- ---- the stack isn't crowded
none_kept : {X : Type 0} (p : X → Bool) (xs : List X) → ((x : X) → p x ≡ false) → filter p xs ≡ []
none_kept p [] none = refl
none_kept p (x ∷ xs) none = cond-false (p x) (x ∷ filter p xs) (filter p xs) (none x) ∙ none_kept p xs none

pub not_crowded : (w : Workload) (h : List Event) → IsAccepted w → IsQuiet w h → is_crowded w h ≡ false
not_crowded w h accepted q =
    lt-leb (w.cache - length w.procs) (length (unsettled_pages w h))
    (omega (
      arith,
      accepted.workload.processes.below_cache,
      ap length (none_kept (is_unsettled w h) (known_pages h) (λ b. settled w h b q)),
    ))

-- ---- a full cache has a victim
-- what is held and may not be evicted is pinned
held_pinned : (w : Workload) (h : List Event) (b : Buf) → IsQuiet w h → is_held w h b ≡ true
    → is_evictable w h b ≡ false → is_pinned w h b ≡ true
held_pinned w h b q held stays =
    only (is_held w h b) (is_unsettled w h b) (is_loading w h b) (is_pinned w h b) held (settled w h b q) (q.loading b)
    stays
  where
    only : (x u l p : Bool) → x ≡ true → u ≡ false → l ≡ false → (x && not (u || l || p)) ≡ false → p ≡ true
    only true false false true first second third all = refl
    only true false false false first second third all = absurd (cc)
    only true false true p first second third all = absurd (cc)
    only true true l p first second third all = absurd (cc)
    only false u l p first second third all = absurd (cc)

-- a process of the workload pins the page
pinner : (w : Workload) (h : List Event) (b : Buf) → Pins w h → is_pinned w h b ≡ true
    → (p : ℕ) × (1 ≤ p) × (p ≤ length w.procs) × (is_process p (pinned_by h b) ≡ true)
pinner w h b all pinned =
    by_process (pinned_by h b) refl (and_parts (is_live_page w h b) (is_some (pinned_by h b)) pinned).1
  where
    by_process : (o : Option Pid) → pinned_by h b ≡ o → is_some o ≡ true
        → (p : ℕ) × (1 ≤ p) × (p ≤ length w.procs) × (is_process p o ≡ true)
    by_process None at some = absurd (cc)
    by_process (Some p) at some =
        let works = all.pins p b at in (p.0, works.least, works.most, eq-eqb p.0 p.0 refl)

-- of the known pages a process pins one at most
pinned_once : (w : Workload) (h : List Event) (p : ℕ) → Pins w h
    → count_by (λ b. is_process p (pinned_by h b)) (known_pages h) ≤ 1
pinned_once w h p all =
    count_once (λ b. is_process p (pinned_by h b)) (known_pages h)
    (λ i j b c first second one two. pages_are_known.once h i j c
    (first ∙ ap Some (by_process b c (pinned_by h b) (pinned_by h c) refl refl one two)) second)
  where
    by_process : (b c : Buf) (x y : Option Pid) → pinned_by h b ≡ x → pinned_by h c ≡ y → is_process p x ≡ true
        → is_process p y ≡ true → b ≡ c
    by_process b c None y first second one two = absurd (cc)
    by_process b c (Some q) None first second one two = absurd (cc)
    by_process b c (Some q) (Some r) first second one two =
        pins_one w h q r b c all first second (eqb-true q.0 p one ∙ sym (eqb-true r.0 p two))

-- where no page may be evicted, no more are held than there are processes
few_held : (w : Workload) (h : List Event) → Pins w h → IsQuiet w h → victim w h ≡ None
    → length (held_pages w h) ≤ length w.procs
few_held w h all q none =
    few_elements (λ p b. is_process p (pinned_by h b)) (length w.procs) (held_pages w h)
    (λ i b at. (let there = filter_there (is_held w h) (known_pages h) i b at
    in pinner w h b all (held_pinned w h b q there.2 (victims_are_oldest.none w h b none))))
    (λ p. omega (
      arith,
      count_filter_less (λ b. is_process p (pinned_by h b)) (is_held w h) (known_pages h),
      pinned_once w h p all,
    ))

-- the victim is a page
pub record HasVictim (w : Workload) (h : List Event) : Type 0 where
  pub serial : Serial
  pub page : ℕ
  pub is : victim w h ≡ Some (Page serial page)

pub victim_there : (w : Workload) (h : List Event) → IsAccepted w → IsLegal w h → IsQuiet w h
    → is_full w h ≡ true → HasVictim w h
victim_there w h accepted legal q full = by_victim (victim w h) refl
  where
    by_victim : (o : Option Buf) → victim w h ≡ o → HasVictim w h
    by_victim None none =
        absurd (omega (
          arith,
          accepted.workload.processes.below_cache,
          leb-true w.cache (length (held_pages w h)) full,
          few_held w h (pins w h accepted legal) q none,
        ))
    by_victim (Some (Page s g)) at = record { serial = s; page = g; is = at }
    by_victim (Some Bitmap) at = absurd (let may = (victims_are_oldest.some w h Bitmap at).evictable in cc)
    by_victim (Some (Dir k)) at = absurd (let may = (victims_are_oldest.some w h (Dir k) at).evictable in cc)
    by_victim (Some (Inode s)) at = absurd (let may = (victims_are_oldest.some w h (Inode s) at).evictable in cc)
