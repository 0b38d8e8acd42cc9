-- What the cache has of one page is what the history says of it; from before an event to after it.
use Rattle.std.proofs.Common.{◌≡◌, ℕ, List, [], ◌∷◌, Bool, true, false, Option, Some, None, is_some, refl, ap, sym}
use Rattle.std.proofs.Common.{subst, ◌∙◌, if◌then◌else◌}
use Rattle.std.specs.Option.{option_map}
use Rattle.split_types.specs.declared.ids.Pid.{Pid}
use Rattle.split_types.specs.declared.ids.Serial.{Serial}
use Rattle.split_types.specs.declared.buf.Buf.{Buf}
use Rattle.split_types.specs.declared.buf.Buf.TheVariants.{Page}
use Rattle.split_types.specs.declared.workload.Workload.{Workload}
use Rattle.split_types.specs.declared.event.Event.{Event}
use Rattle.split_types.specs.Blame.{causes}
use Rattle.split_types.specs.Pages.{is_dirty, is_busy}
use Rattle.split_types.specs.Reads.{is_loading, other_than}
use Rattle.split_types.specs.HeldPages.{is_held}
use Rattle.split_types.specs.PageBytes.{page_bytes}
use Rattle.split_types.specs.PagesInCache.{PageIs, IsThere, pin_of}
use Rattle.split_types.specs.Accepted.{IsAccepted}
use Rattle.split_types.specs.Legal.{IsLegal}
use Rattle.split_types.proofs.Shared.{pins_change}
use Rattle.cause_set.specs.Tags.{Tags, same, set_in}
use Rattle.page_cache.specs.Held.{Held}
use Rattle.page_cache.specs.Cached as cached
use Rattle.page_cache.specs.Cached.{Cached, page_of}
use Rattle.page_cache.specs.Changes.{bytes_in, is_pinned_by, unpinned}
use Rattle.split_core.specs.Pages.{CacheStands}

-- ---- one page
-- x is what the history says of page g of a file
pub record Mirrors (w : Workload) (h : List Event) (tags : Tags) (x : Option Held) (s : Serial) (g : ℕ) : Type 0 where
  pub held_is : is_some x ≡ is_held w h (Page s g)
  pub loading_is : cached.is_loading x ≡ is_loading w h (Page s g)
  pub dirty_is : is_some (cached.tag_in x) ≡ is_dirty w h (Page s g)
  pub busy_is : cached.is_busy x ≡ is_busy w h (Page s g)
  pub pin_is : cached.pin_in x ≡ pin_of w h (Page s g)
  pub causes_is : set_in same tags (cached.tag_in x) ≡ causes h (Page s g ∷ [])
  pub bytes_is : IsThere w h (Page s g) → bytes_in x ≡ page_bytes w h s g

-- a page that isn't held stays for no process
pub unkept : (w : Workload) (h : List Event) (b : Buf) → IsAccepted w → IsLegal w h → is_held w h b ≡ false
    → pin_of w h b ≡ None
unkept w h b accepted legal out = by_pin (pin_of w h b) refl
  where
    by_pin : (o : Option Pid) → pin_of w h b ≡ o → pin_of w h b ≡ None
    by_pin None is = is
    by_pin (Some p) is =
        let kept : is_held w h b ≡ true = (pins_change.kept w h b p accepted legal is).held in absurd (cc)

pin_known : (x : Option Held) (held : Bool) (pin : Option Pid) → is_some x ≡ held
    → (held ≡ true → cached.pin_in x ≡ pin) → (held ≡ false → pin ≡ None) → cached.pin_in x ≡ pin
pin_known x true pin is here none = here refl
pin_known None false pin is here none = sym (none refl)
pin_known (Some p) false pin is here none = absurd (cc)

pub mirrors : (w : Workload) (h : List Event) (c : Cached) (tags : Tags) (s : Serial) (g : ℕ) → IsAccepted w
    → IsLegal w h → CacheStands w c tags h → Mirrors w h tags (page_of c (Page s g)) s g
mirrors w h c tags s g accepted legal stands = record {
  held_is = stands.held_are s g;
  loading_is = stands.loading_are s g;
  dirty_is = stands.dirty_are s g;
  busy_is = stands.busy_are s g;
  pin_is = pin_known (page_of c (Page s g)) (is_held w h (Page s g)) (pin_of w h (Page s g)) (stands.held_are s g)
      (stands.pins_are s g) (unkept w h (Page s g) accepted legal);
  causes_is = stands.causes_are s g;
  bytes_is = stands.bytes_are s g;
}

-- ---- a page that an event leaves, but for its pin
-- from h to l the page is as it was, but for its pin
pub record Leaves (w : Workload) (h l : List Event) (s : Serial) (g : ℕ) : Type 0 where
  pub page : PageIs w l (Page s g) (is_held w h (Page s g)) (is_loading w h (Page s g)) (is_dirty w h (Page s g))
      (is_busy w h (Page s g))
  pub causes_are : causes l (Page s g ∷ []) ≡ causes h (Page s g ∷ [])
  pub bytes_are : page_bytes w l s g ≡ page_bytes w h s g

-- y is x, but for its pin
pub record LooksAs (x y : Option Held) : Type 0 where
  pub held_is : is_some y ≡ is_some x
  pub loading_is : cached.is_loading y ≡ cached.is_loading x
  pub tag_is : cached.tag_in y ≡ cached.tag_in x
  pub busy_is : cached.is_busy y ≡ cached.is_busy x
  pub bytes_are : bytes_in y ≡ bytes_in x

pub looks_same : (x y : Option Held) → y ≡ x → LooksAs x y
looks_same x y is = record {
  held_is = ap is_some is;
  loading_is = ap cached.is_loading is;
  tag_is = ap cached.tag_in is;
  busy_is = ap cached.is_busy is;
  bytes_are = ap bytes_in is;
}

unpinned_looks : (by : Pid) (x : Option Held) → LooksAs x (option_map (unpinned by) x)
unpinned_looks by None =
    record { held_is = refl; loading_is = refl; tag_is = refl; busy_is = refl; bytes_are = refl }
unpinned_looks by (Some p) =
    record { held_is = refl; loading_is = refl; tag_is = refl; busy_is = refl; bytes_are = refl }

unpinned_pin : (by : Pid) (x : Option Held) → cached.pin_in (option_map (unpinned by) x)
    ≡ other_than by (cached.pin_in x)
unpinned_pin by None = refl
unpinned_pin by (Some p) = by_pin p.state.pin
  where
    by_pin : (o : Option Pid) → (if is_pinned_by by o then None else o) ≡ other_than by o
    by_pin None = refl
    by_pin (Some q) = refl

pub looks_then : (x y z : Option Held) → LooksAs x y → LooksAs y z → LooksAs x z
looks_then x y z a b = record {
  held_is = b.held_is ∙ a.held_is;
  loading_is = b.loading_is ∙ a.loading_is;
  tag_is = b.tag_is ∙ a.tag_is;
  busy_is = b.busy_is ∙ a.busy_is;
  bytes_are = b.bytes_are ∙ a.bytes_are;
}

-- the page that is left when a process pins nothing any more
pub looks_unpinned : (by : Pid) (x y : Option Held) → y ≡ option_map (unpinned by) x → LooksAs x y
looks_unpinned by x y is =
    looks_then x (option_map (unpinned by) x) y (unpinned_looks by x) (looks_same (option_map (unpinned by) x) y is)

pub pin_unpinned : (by : Pid) (x y : Option Held) → y ≡ option_map (unpinned by) x
    → cached.pin_in y ≡ other_than by (cached.pin_in x)
pin_unpinned by x y is = ap cached.pin_in is ∙ unpinned_pin by x

pub there_before : (w : Workload) (h l : List Event) (s : Serial) (g : ℕ) → Leaves w h l s g → IsThere w l (Page s g)
    → IsThere w h (Page s g)
there_before w h l s g leaves there = record {
  held = sym leaves.page.held_is ∙ there.held;
  loaded = sym leaves.page.loading_is ∙ there.loaded;
}

pub mirrors_left : (w : Workload) (h l : List Event) (before after : Tags) (x y : Option Held) (s : Serial) (g : ℕ)
    → Leaves w h l s g → LooksAs x y → cached.pin_in y ≡ pin_of w l (Page s g)
    → set_in same after (cached.tag_in y) ≡ set_in same before (cached.tag_in x) → Mirrors w h before x s g
    → Mirrors w l after y s g
mirrors_left w h l before after x y s g leaves looks pin set m = record {
  held_is = looks.held_is ∙ m.held_is ∙ sym leaves.page.held_is;
  loading_is = looks.loading_is ∙ m.loading_is ∙ sym leaves.page.loading_is;
  dirty_is = ap is_some looks.tag_is ∙ m.dirty_is ∙ sym leaves.page.dirty_is;
  busy_is = looks.busy_is ∙ m.busy_is ∙ sym leaves.page.busy_is;
  pin_is = pin;
  causes_is = set ∙ m.causes_is ∙ sym leaves.causes_are;
  bytes_is =
      λ there. looks.bytes_are ∙ m.bytes_is (there_before w h l s g leaves there) ∙ sym leaves.bytes_are;
}

-- ---- one page that is named twice
serial_of : Buf → Serial
serial_of (Page s g) = s
serial_of b = record { 0 = 0 }

page_number : Buf → ℕ
page_number (Page s g) = g
page_number b = 0

pub mirrors_at : (w : Workload) (h : List Event) (c : Cached) (tags : Tags) (s t : Serial) (g k : ℕ)
    → Page s g ≡ Page t k → Mirrors w h tags (page_of c (Page s g)) s g → Mirrors w h tags (page_of c (Page t k)) t k
unfolding serial_of page_number
mirrors_at w h c tags s t g k is m =
    subst (λ (u : Serial). Mirrors w h tags (page_of c (Page u k)) u k) (ap serial_of is)
    (subst (λ (n : ℕ). Mirrors w h tags (page_of c (Page s n)) s n) (ap page_number is) m)
