-- What the cache holds is what the history holds, after a put.
use Rattle.std.proofs.Common.{◌≡◌, ℕ, ◌+◌, ◌≤◌, ◌==◌, List, [], ◌∷◌, ◌++◌, length, Bool, true, false, ◌&&◌, ◌||◌}
use Rattle.std.proofs.Common.{Option, Some, None, is_some, IsSome, refl, ap, sym, subst, ◌∙◌, arith, if◌then◌else◌}
use Rattle.std.proofs.Common.{eqb-true, inl, inr, ◌⊎◌}
use Rattle.std.specs.Prelude.{replicate, is_none}
use Rattle.std.specs.Option.{option_map}
use Rattle.std.proofs.lemmas.Bool.{and_parts}
use Rattle.std.proofs.lemmas.List.{length-replicate, drop_all}
use Rattle.split_types.specs.declared.ids.Pid.{Pid}
use Rattle.split_types.specs.declared.ids.Serial.{Serial}
use Rattle.split_types.specs.declared.buf.Buf.{Buf}
use Rattle.split_types.specs.declared.buf.Buf.TheVariants.{Page}
use Rattle.split_types.specs.declared.workload.Workload.{Workload}
use Rattle.split_types.specs.declared.event.Event.{Event}
use Rattle.split_types.specs.declared.event.Event.TheVariants.{Put}
use Rattle.split_types.specs.History.{◌▹◌}
use Rattle.split_types.specs.Hooks.{same_buf}
use Rattle.split_types.specs.Sets.{union_of}
use Rattle.split_types.specs.Blame.{blame, causes}
use Rattle.split_types.specs.Pages.{is_dirty}
use Rattle.split_types.specs.Reads.{other_than}
use Rattle.split_types.specs.HeldPages.{is_held, is_unsettled, held_pages, unsettled_pages}
use Rattle.split_types.specs.FileMaps.{mapped_block}
use Rattle.split_types.specs.PageBytes.{page_bytes, filled, filled_page}
use Rattle.split_types.specs.PagesInCache.{CountsAre, IsThere}
use Rattle.split_types.specs.Accepted.{IsAccepted}
use Rattle.split_types.specs.Legal.{IsLegal}
use Rattle.split_types.proofs.Shared.{same_buf-is, same_buf-self}
use Rattle.split_types.proofs.Shared.{pages_change}
use Rattle.split_types.proofs.Shared.{pins_change}
use Rattle.split_types.proofs.Shared.{counts_change}
use Rattle.split_types.proofs.Shared.{one-is_set, union-one}
use Rattle.split_types.proofs.Shared.{blame-new}
use Rattle.split_types.proofs.Shared.{running_causes}
use Rattle.split_types.proofs.Shared.{whole_page}
use Rattle.split_types.proofs.Shared.{case_true, case_false}
use Rattle.cause_set.specs.Tags.{Tags, same, set_in}
use Rattle.page_cache.specs.Bytes.{zeros}
use Rattle.page_cache.specs.Held.{Held, state_in}
use Rattle.page_cache.specs.Cached as cached
use Rattle.page_cache.specs.Cached.{Cached, page_of, held_in, unsettled_in, IsDataPage}
use Rattle.page_cache.specs.Changes.{ChangesEach, Writes, bytes_in, one_if, page_as, unpinned}
use Rattle.split_core.specs.Fits.{PutFits}
use Rattle.split_core.specs.Pages.{CacheStands}
use Rattle.split_core.proofs.PageFacts.{Mirrors, mirrors, mirrors_at, Leaves, looks_same, looks_then, looks_unpinned}
use Rattle.split_core.proofs.PageFacts.{pin_unpinned, there_before, mirrors_left}
use Rattle.split_core.proofs.PageOrder.{apart_pages, same_buf-other, order_kept, order_touched}
use Rattle.split_core.proofs.PageHoles.{hole_zero}
use Rattle.split_core.proofs.PageNotes.{stands_by, there_held}

-- ---- bytes
long_zeros : length zeros ≡ 4096
unfolding zeros
long_zeros = length-replicate {A = ℕ} 4096 0

-- where all bytes of a page are put, it doesn't matter which they were
filled_whole : (xs ys : List ℕ) (fill : ℕ) → length xs ≡ 4096 → length ys ≡ 4096
    → filled xs 0 4096 fill ≡ filled ys 0 4096 fill
filled_whole xs ys fill first second = ap (λ l. replicate 4096 fill ++ l)
    (drop_all 4096 xs (omega (arith, first)) ∙ sym (drop_all 4096 ys (omega (arith, second))))

new_bytes : (x : Option Held) → is_some x ≡ false → length (bytes_in x) ≡ 4096
new_bytes None out = long_zeros
new_bytes (Some p) out = absurd (cc)

-- a page that isn't held has zeros in the cache
zero_bytes : (x : Option Held) → is_some x ≡ false → bytes_in x ≡ filled_page 0
unfolding zeros filled_page
zero_bytes None out = refl
zero_bytes (Some p) out = absurd (cc)

-- a page that isn't held is put whole, or has no block
new_put : (held whole none : Bool) → held ≡ false → (held || whole || none) ≡ true → (whole ≡ true) ⊎ (none ≡ true)
new_put true whole none out is = absurd (cc)
new_put false true none out is = inl refl
new_put false false none out is = inr is

whole_put : (from to : ℕ) → (from == 0 && to == 4096) ≡ true → (from ≡ 0) × (to ≡ 4096)
whole_put from to is =
    let parts = and_parts (from == 0) (to == 4096) is in (eqb-true from 0 parts.0, eqb-true to 4096 parts.1)

none_mapped : (o : Option ℕ) → is_none o ≡ true → o ≡ None
none_mapped None is = refl
none_mapped (Some x) is = absurd (cc)

put_bytes : (w : Workload) (h : List Event) (tags : Tags) (x : Option Held) (by : Pid) (s : Serial) (g from to fill : ℕ)
    → IsAccepted w → IsLegal w h → PutFits w h by s g from to fill → Mirrors w h tags x s g
    → filled (bytes_in x) from to fill ≡ filled (page_bytes w h s g) from to fill
put_bytes w h tags x by s g from to fill accepted legal fits m = by_held (is_held w h (Page s g)) refl
  where
    by_held : (b : Bool) → is_held w h (Page s g) ≡ b
        → filled (bytes_in x) from to fill ≡ filled (page_bytes w h s g) from to fill
    by_held true is = ap (λ l. filled l from to fill) (m.bytes_is record { held = is; loaded = fits.loaded })
    by_held false is = elim (new_put (is_held w h (Page s g)) (from == 0 && to == 4096)
        (is_none (mapped_block w h s.0 g)) is fits.whole) [
          | inl whole ↦
              (let all = whole_put from to whole
              in ap (λ n. filled (bytes_in x) n to fill) all.0 ∙ ap (λ n. filled (bytes_in x) 0 n fill) all.1
              ∙ filled_whole (bytes_in x) (page_bytes w h s g) fill (new_bytes x (m.held_is ∙ is))
              (whole_page w h s g accepted legal)
              ∙ ap (λ n. filled (page_bytes w h s g) 0 n fill) (sym all.1)
              ∙ ap (λ n. filled (page_bytes w h s g) n to fill) (sym all.0))
          | inr none ↦
              ap (λ l. filled l from to fill) (zero_bytes x (m.held_is ∙ is)
              ∙ sym (hole_zero w h s g accepted legal fits.page.live (none_mapped (mapped_block w h s.0 g) none) is))
        ]

-- ---- the page that is put
-- what a page becomes that is written, under this tag
abbrev written_as : Serial → ℕ → Option Held → ℕ → ℕ → ℕ → ℕ → Option Held
written_as s g x from to fill tag = page_as (Page s g) (filled (bytes_in x) from to fill) (Some tag) (state_in x)

state_loading : (x : Option Held) → (state_in x).loading ≡ cached.is_loading x
state_loading None = refl
state_loading (Some p) = refl

state_busy : (x : Option Held) → (state_in x).busy ≡ cached.is_busy x
state_busy None = refl
state_busy (Some p) = refl

state_pin : (x : Option Held) → (state_in x).pin ≡ cached.pin_in x
state_pin None = refl
state_pin (Some p) = refl

-- the process that puts is to blame
causes_put : (w : Workload) (h : List Event) (by : Pid) (s : Serial) (g from to fill : ℕ) → 1 ≤ by.0 → by.0 ≤ 256
    → causes (h ▹ Put by s g from to fill) (Page s g ∷ []) ≡ union_of (causes h (Page s g ∷ []) ∷ (by.0 ∷ []) ∷ [])
causes_put w h by s g from to fill least most =
    let e = Put by s g from to fill
    in let blamed : blame (h ▹ e) (length h) ≡ by.0 ∷ [] =
    blame-new h e ∙ union-one (by.0 ∷ []) (one-is_set by.0 least most)
    in running_causes.dirtied h e (Page s g) (ap (λ b. b || false) (same_buf-self (Page s g))) refl
    ∙ ap (λ set. union_of (causes h (Page s g ∷ []) ∷ set ∷ [])) blamed

put_page : (w : Workload) (h : List Event) (by : Pid) (s : Serial) (g from to fill tag : ℕ) (before after : Tags)
    (x y z : Option Held) → IsAccepted w → IsLegal w (h ▹ Put by s g from to fill) → 1 ≤ by.0 → by.0 ≤ 256
    → PutFits w h by s g from to fill → y ≡ written_as s g x from to fill tag → z ≡ option_map (unpinned by) y
    → set_in same after (cached.tag_in y) ≡ union_of (set_in same before (cached.tag_in x) ∷ (by.0 ∷ []) ∷ [])
    → Mirrors w h before x s g → Mirrors w (h ▹ Put by s g from to fill) after z s g
put_page w h by s g from to fill tag before after x y z accepted legal least most fits is freed set m =
    let after_put = pages_change w h (Put by s g from to fill) (Page s g) accepted legal
    in let looks = looks_then (written_as s g x from to fill tag) y z
    (looks_same (written_as s g x from to fill tag) y is) (looks_unpinned by y z freed)
    in let self = same_buf-self (Page s g)
    in record {
      held_is = looks.held_is ∙ sym (after_put.held_is ∙ ap (λ b. b || is_held w h (Page s g)) self);
      loading_is = looks.loading_is ∙ state_loading x ∙ m.loading_is ∙ sym after_put.loading_is;
      dirty_is = ap is_some looks.tag_is
          ∙ sym (after_put.dirty_is ∙ ap (λ b. b || is_dirty w h (Page s g)) self);
      busy_is = looks.busy_is ∙ state_busy x ∙ m.busy_is ∙ sym after_put.busy_is;
      pin_is = pin_unpinned by y z freed ∙ ap (λ (u : Option Held). other_than by (cached.pin_in u)) is
          ∙ ap (other_than by) (state_pin x ∙ m.pin_is)
          ∙ sym (pins_change.change w h (Put by s g from to fill) (Page s g) accepted legal);
      causes_is = ap (set_in same after) (looks_unpinned by y z freed).tag_is ∙ set
          ∙ ap (λ l. union_of (l ∷ (by.0 ∷ []) ∷ [])) m.causes_is ∙ sym (causes_put w h by s g from to fill least most);
      bytes_is = λ there. looks.bytes_are ∙ put_bytes w h before x by s g from to fill accepted legal.1 fits m
          ∙ sym (case_true (same_buf (Page s g) (Page s g)) (filled (page_bytes w h s g) from to fill)
          (page_bytes w h s g) self);
    }

-- ---- the other pages
leaves_put : (w : Workload) (h : List Event) (by : Pid) (s t : Serial) (g from to fill k : ℕ) → IsAccepted w
    → IsLegal w (h ▹ Put by s g from to fill) → same_buf (Page t k) (Page s g) ≡ false
    → Leaves w h (h ▹ Put by s g from to fill) t k
leaves_put w h by s t g from to fill k accepted legal other =
    let after = pages_change w h (Put by s g from to fill) (Page t k) accepted legal
    in record {
      page = record {
        held_is = after.held_is ∙ ap (λ b. b || is_held w h (Page t k)) other;
        loading_is = after.loading_is;
        dirty_is = after.dirty_is ∙ ap (λ b. b || is_dirty w h (Page t k)) other;
        busy_is = after.busy_is;
      };
      causes_are = running_causes.kept h (Put by s g from to fill) (Page t k) (ap (λ b. b || false) other) refl;
      bytes_are = case_false (same_buf (Page s g) (Page t k)) (filled (page_bytes w h t k) from to fill)
          (page_bytes w h t k) (same_buf-other (Page t k) (Page s g) other);
    }

-- ---- counts
count_put : (t : Bool) (mid old n m : ℕ) → mid + one_if t ≡ old + 1 → old ≡ n → m ≡ (if t then n else n + 1)
    → mid ≡ m
count_put true mid old n m counted is made = omega (arith, counted, is, made)
count_put false mid old n m counted is made = omega (arith, counted, is, made)

pub unsettled_by : (x : Option Held) → cached.is_unsettled x ≡ (is_some (cached.tag_in x) || cached.is_busy x)
unsettled_by None = refl
unsettled_by (Some p) = refl

pub unsettled_is : (w : Workload) (h : List Event) (tags : Tags) (x : Option Held) (s : Serial) (g : ℕ)
    → Mirrors w h tags x s g → cached.is_unsettled x ≡ is_unsettled w h (Page s g)
unsettled_is w h tags x s g m =
    unsettled_by x ∙ ap (λ b. b || cached.is_busy x) m.dirty_is ∙ ap (λ b. is_dirty w h (Page s g) || b) m.busy_is

-- ---- a put
pub pages_put : (w : Workload) (h : List Event) (by : Pid) (s : Serial) (g from to fill : ℕ) (old mid new : Cached)
    (before after : Tags) → IsAccepted w → IsLegal w (h ▹ Put by s g from to fill) → 1 ≤ by.0 → by.0 ≤ 256
    → PutFits w h by s g from to fill → Writes before after old mid (Page s g) from to fill by
    → ChangesEach mid new (λ k. unpinned by) → CacheStands w old before h
    → CacheStands w new after (h ▹ Put by s g from to fill)
pages_put w h by s g from to fill old mid new before after accepted legal least most fits writes each stands =
    stands_by w l new after (each.limit ∙ writes.page.limit ∙ stands.limit)
    (λ t k. page t k (same_buf (Page t k) (Page s g)) refl)
    (order_kept w l l mid new each.touches
    (λ t k there. (let was : IsSome (page_of mid (Page t k)) = held t k there (same_buf (Page t k) (Page s g)) refl
    in record {
      there = there;
      touch = refl;
      was = was;
      is = (looks_unpinned by (page_of mid (Page t k)) (page_of new (Page t k)) (each.pages (Page t k))).held_is ∙ was;
    }))
    (order_touched w h l old mid (Page s g) writes.touched
    (λ t k there. record {
      is = held t k there (same_buf (Page t k) (Page s g)) refl;
      touch = refl;
      there = λ other. there_before w h l t k (leaves_put w h by s t g from to fill k accepted legal other) there;
    })
    stands.order))
    (each.count
    ∙ count_put (is_held w h (Page s g)) (held_in mid) (held_in old) (length (held_pages w h)) (length (held_pages w l))
    (ap (λ b. held_in mid + one_if b) (sym m.held_is) ∙ writes.page.count) stands.held_counted counts.held_is)
    (each.unsettled
    ∙ count_put (is_unsettled w h (Page s g)) (unsettled_in mid) (unsettled_in old) (length (unsettled_pages w h))
    (length (unsettled_pages w l))
    (ap (λ b. unsettled_in mid + one_if b) (sym (unsettled_is w h before (page_of old (Page s g)) s g m))
    ∙ writes.page.unsettled) stands.unsettled_counted counts.unsettled_is)
    (λ b there. alone b
    (sym (looks_unpinned by (page_of mid b) (page_of new b) (each.pages b)).held_is ∙ there)
    (same_buf b (Page s g)) refl)
  where
    l : List Event
    l = h ▹ Put by s g from to fill

    m : Mirrors w h before (page_of old (Page s g)) s g
    m = mirrors w h old before s g accepted legal.1 stands

    counts : CountsAre w l (if is_held w h (Page s g) then length (held_pages w h) else length (held_pages w h) + 1)
        (if is_unsettled w h (Page s g) then length (unsettled_pages w h) else length (unsettled_pages w h) + 1)
    counts = counts_change w h (Put by s g from to fill) accepted legal

    page : (t : Serial) (k : ℕ) (b : Bool) → same_buf (Page t k) (Page s g) ≡ b
        → Mirrors w l after (page_of new (Page t k)) t k
    page t k true is =
        mirrors_at w l new after s t g k (sym (same_buf-is (Page t k) (Page s g) is))
        (put_page w h by s g from to fill writes.tag before after (page_of old (Page s g)) (page_of mid (Page s g))
        (page_of new (Page s g)) accepted legal least most fits writes.page.page (each.pages (Page s g)) writes.causes
        m)
    page t k false other =
        let apart = apart_pages (Page t k) (Page s g) other
        in let kept : page_of mid (Page t k) ≡ page_of old (Page t k) = writes.page.others (Page t k) apart
        in let own = mirrors w h old before t k accepted legal.1 stands
        in let second = looks_unpinned by (page_of mid (Page t k)) (page_of new (Page t k)) (each.pages (Page t k))
        in mirrors_left w h l before after (page_of old (Page t k)) (page_of new (Page t k)) t k
        (leaves_put w h by s t g from to fill k accepted legal other)
        (looks_then (page_of old (Page t k)) (page_of mid (Page t k)) (page_of new (Page t k))
        (looks_same (page_of old (Page t k)) (page_of mid (Page t k)) kept) second)
        (pin_unpinned by (page_of mid (Page t k)) (page_of new (Page t k)) (each.pages (Page t k))
        ∙ ap (λ (z : Option Held). other_than by (cached.pin_in z)) kept ∙ ap (other_than by) own.pin_is
        ∙ sym (pins_change.change w h (Put by s g from to fill) (Page t k) accepted legal))
        (ap (set_in same after) second.tag_is ∙ writes.others (Page t k) apart) own

    held : (t : Serial) (k : ℕ) → IsThere w l (Page t k) → (b : Bool) → same_buf (Page t k) (Page s g) ≡ b
        → IsSome (page_of mid (Page t k))
    held t k there true is =
        ap (λ d. is_some (page_of mid d)) (same_buf-is (Page t k) (Page s g) is) ∙ ap is_some writes.page.page
    held t k there false other =
        ap is_some (writes.page.others (Page t k) (apart_pages (Page t k) (Page s g) other))
        ∙ there_held w h old before t k stands
        (there_before w h l t k (leaves_put w h by s t g from to fill k accepted legal other) there)

    alone : (b : Buf) → is_some (page_of mid b) ≡ true → (t : Bool) → same_buf b (Page s g) ≡ t → IsDataPage b
    alone b there true is =
        subst IsDataPage (sym (same_buf-is b (Page s g) is)) fits.page.page
    alone b there false other =
        stands.pages_alone b (sym (ap is_some (writes.page.others b (apart_pages b (Page s g) other))) ∙ there)
