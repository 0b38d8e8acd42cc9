-- Pages stand in the cache in the order in which they were touched last; from before an event to after it.
use Rattle.std.proofs.Common.{◌≡◌, ◌≢◌, ℕ, ◌<◌, List, length, Bool, true, false, IsSome, refl, ap, sym, ◌∙◌, arith}
use Rattle.std.proofs.Common.{if◌then◌else◌}
use Rattle.std.proofs.lemmas.Bool.{both_ways}
use Rattle.split_types.specs.declared.ids.Serial.{Serial}
use Rattle.split_types.specs.declared.buf.Buf.{Buf}
use Rattle.split_types.specs.declared.buf.Buf.TheVariants.{Page}
use Rattle.split_types.specs.declared.workload.Workload.{Workload}
use Rattle.split_types.specs.declared.event.Event.{Event}
use Rattle.split_types.specs.Hooks.{same_buf}
use Rattle.split_types.specs.Victims.{last_touch}
use Rattle.split_types.specs.PagesInCache.{IsThere}
use Rattle.split_types.proofs.Shared.{same_buf-is, same_buf-self}
use Rattle.split_types.proofs.Shared.{touches_change}
use Rattle.page_cache.specs.Cached.{Cached, page_of, touch_of}
use Rattle.page_cache.specs.Changes.{KeepsTouches, Touches}

-- of two pages the one that was touched earlier is the one of the lesser touch
abbrev pub Ordered : Workload → List Event → Cached → Type 0
Ordered w h c =
    (s t : Serial) (g k : ℕ) → IsThere w h (Page s g) → IsThere w h (Page t k)
    → last_touch h (Page s g) < last_touch h (Page t k)
    → touch_of c (Page s g) < touch_of c (Page t k)

-- ---- two pages are one, or not
pub apart_pages : (b c : Buf) → same_buf b c ≡ false → b ≢ c
apart_pages b c other = λ (is : b ≡ c). both_ways (same_buf b c) other (ap (same_buf b) (sym is) ∙ same_buf-self b)

pub same_buf-other : (b c : Buf) → same_buf b c ≡ false → same_buf c b ≡ false
same_buf-other b c other = by_test (same_buf c b) refl
  where
    by_test : (t : Bool) → same_buf c b ≡ t → same_buf c b ≡ false
    by_test false is = is
    by_test true is = absurd (apart_pages b c other (sym (same_buf-is c b is)))

-- ---- no page is touched
-- the page was held before and after, and was last touched when it was
pub record Stays (w : Workload) (h l : List Event) (old new : Cached) (b : Buf) : Type 0 where
  pub there : IsThere w h b
  pub touch : last_touch l b ≡ last_touch h b
  pub was : IsSome (page_of old b)
  pub is : IsSome (page_of new b)

pub order_kept : (w : Workload) (h l : List Event) (old new : Cached) → KeepsTouches old new
    → ((s : Serial) (g : ℕ) → IsThere w l (Page s g) → Stays w h l old new (Page s g)) → Ordered w h old
    → Ordered w l new
order_kept w h l old new keeps stays order = λ s t g k one two less.
    let a = stays s g one
    in let b = stays t k two
    in let before : last_touch h (Page s g) < last_touch h (Page t k) = omega (arith, less, a.touch, b.touch)
    in omega (
      arith,
      order s t g k a.there b.there before,
      keeps (Page s g) a.was a.is,
      keeps (Page t k) b.was b.is,
    )

-- ---- one page is touched
-- the page is held after; its touch is the last one or, where it is another page than d, the one that it was
pub record Touched (w : Workload) (h l : List Event) (new : Cached) (d b : Buf) : Type 0 where
  pub is : IsSome (page_of new b)
  pub touch : last_touch l b ≡ (if same_buf b d then length h else last_touch h b)
  pub there : same_buf b d ≡ false → IsThere w h b

order_two : (w : Workload) (h l : List Event) (old new : Cached) (d b c : Buf) → Touches old new d
    → Touched w h l new d b → Touched w h l new d c → last_touch l b < last_touch l c
    → (IsThere w h b → IsThere w h c → last_touch h b < last_touch h c → touch_of old b < touch_of old c)
    → touch_of new b < touch_of new c
order_two w h l old new d b c touches one two less order = by_tests (same_buf b d) (same_buf c d) refl refl
  where
    first : (t : Bool) → same_buf b d ≡ t → last_touch l b ≡ (if t then length h else last_touch h b)
    first t is = one.touch ∙ ap (λ x. if x then length h else last_touch h b) is

    second : (t : Bool) → same_buf c d ≡ t → last_touch l c ≡ (if t then length h else last_touch h c)
    second t is = two.touch ∙ ap (λ x. if x then length h else last_touch h c) is

    by_tests : (t u : Bool) → same_buf b d ≡ t → same_buf c d ≡ u → touch_of new b < touch_of new c
    by_tests true true is same = absurd (omega (arith, less, first true is, second true same))
    by_tests true false is same =
        absurd (omega (arith, less, first true is, second false same, touches_change.most h c))
    by_tests false true is same =
        let here : touch_of new d ≡ touch_of new c = ap (touch_of new) (sym (same_buf-is c d same))
        in let last : touch_of new b < touch_of new d = touches.last b (apart_pages b d is) one.is
        in omega (arith, last, here)
    by_tests false false is same =
        touches.order b c (apart_pages b d is) (apart_pages c d same) one.is two.is
        (order (one.there is) (two.there same) (omega (arith, less, first false is, second false same)))

pub order_touched : (w : Workload) (h l : List Event) (old new : Cached) (d : Buf) → Touches old new d
    → ((s : Serial) (g : ℕ) → IsThere w l (Page s g) → Touched w h l new d (Page s g)) → Ordered w h old
    → Ordered w l new
order_touched w h l old new d touches touched order = λ s t g k one two less.
    order_two w h l old new d (Page s g) (Page t k) touches (touched s g one) (touched t k two) less
    (order s t g k)
