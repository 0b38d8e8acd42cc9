-- What the calls do that take more than one step.
use Rattle.std.proofs.Common.{◌≡◌, ℕ, ◌<◌, true, false, List, length, get_or, set, Option, Some, None, IsSome, refl, ap, sym, ◌∙◌, length-set, get_or-set_same}
use Rattle.std.specs.Option.{option_map}
use Rattle.std.proofs.lemmas.List.{set-set}
use Rattle.fixed_places.specs.Recency.{IsTouched}
use Rattle.split_types.specs.declared.buf.Buf.{Buf}
use Rattle.split_types.specs.declared.buf.Buf.TheVariants.{Page, Bitmap, Dir, Inode}
use Rattle.page_cache.specs.declared.key.PageKey.{PageKey}
use Rattle.page_cache.specs.declared.page.State.{State}
use Rattle.page_cache.specs.Keys.{key_of, buf_of}
use Rattle.page_cache.specs.Held.{Held}
use Rattle.page_cache.specs.Cached.{Cached, is_page, page_of, IsDataPage}
use Rattle.page_cache.specs.Steps.{IsPlaced, with_state}
use Rattle.page_cache.specs.Changes.{ChangesOnly, KeepsTouches, Touches, page_as, loaded, written}
use Rattle.page_cache.proofs.SlotLaws.{page-key}
use Rattle.page_cache.proofs.CallLaws.{restates, restates-keeps, restates-touches}

-- a place that is written twice
pub set-twice : (places v1 v2 : List (Option Held)) (at : ℕ) (y : Option Held) (f : Option Held → Option Held)
    → at < length places
    → v1 ≡ set places at y → v2 ≡ set v1 at (f (get_or v1 at None)) → v2 ≡ set places at (f y)
set-twice places v1 v2 at y f within first second =
    second ∙ ap (λ v. set v at (f (get_or v at None))) first
    ∙ ap (λ z. set (set places at y) at (f z)) (get_or-set_same places at y None within)
    ∙ set-set places at y (f y)

-- a page of a buffer that a place holds
pub as-held : (b : Buf) (p : Held) (bytes : List ℕ) (tag : Option ℕ) (state : State) → is_page b (Some p) ≡ true
    → page_as b bytes tag state ≡ Some record { key = p.key; bytes = bytes; tag = tag; state = state }
as-held b p bytes tag state own =
    ap (option_map (λ key. let q : Held = record { key = key; bytes = bytes; tag = tag; state = state } in q))
    (sym (page-key b (Some p) own))

pub as-keyed : (b : Buf) (key : PageKey) (bytes : List ℕ) (tag : Option ℕ) (state : State) → key_of b ≡ Some key
    → page_as b bytes tag state ≡ Some record { key = key; bytes = bytes; tag = tag; state = state }
as-keyed b key bytes tag state is =
    ap (option_map (λ key. let q : Held = record { key = key; bytes = bytes; tag = tag; state = state } in q)) is

pub key-buf : (b : Buf) (key : PageKey) → key_of b ≡ Some key → buf_of key ≡ b
key-buf (Page s g) key is =
    let e : record { serial = s.0; page = g } ≡ key = cc in
    sym (ap buf_of e)
key-buf Bitmap key is = absurd (cc)
key-buf (Dir k) key is = absurd (cc)
key-buf (Inode k) key is = absurd (cc)

pub key-number : (b : Buf) (key : PageKey) → key_of b ≡ Some key → IsDataPage b → key.page < 1008
key-number (Page s g) key is h =
    let made : PageKey = record { serial = s.0; page = g } in
    let e : made ≡ key = cc in
    let number : g ≡ key.page = ap (λ (k : PageKey). k.page) e in
    rw (← number) h
key-number Bitmap key is h = absurd h
key-number (Dir k) key is h = absurd h
key-number (Inode k) key is h = absurd h

pub key-there : (b : Buf) → IsDataPage b → IsSome (key_of b)
key-there (Page s g) h = refl
key-there Bitmap h = absurd h
key-there (Dir k) h = absurd h
key-there (Inode k) h = absurd h

-- ---- a page that is written or loaded

module _ (old new : Cached) (b : Buf) (at : ℕ) (p : Held) (placed : IsPlaced old.places b at)
    (here : get_or old.places at None ≡ Some p)
    (e : new ≡ record old {
      places = set old.places at
          (with_state record p.state { busy = false } (get_or old.places at None));
    }) where
  writtens : new.places ≡ set old.places at (Some (written p))
  writtens = ap (λ (c : Cached). c.places) e ∙ ap (λ x.
      set old.places at (with_state record p.state { busy = false } x)) here

  pub written-page : ChangesOnly old new b (option_map written (page_of old b))
  written-page = restates old new b at p (written p) written placed here refl refl writtens
      (ap (λ (c : Cached). c.limit) e)

  pub written-touches : KeepsTouches old new
  written-touches = restates-keeps old new b at p (written p) written placed here refl refl writtens
      (ap (λ (c : Cached). c.touches) e)

some-held : (x : Option Held) → IsSome x → (p : Held) × (x ≡ Some p)
some-held None h = absurd (cc)
some-held (Some p) h = (p, refl)

module _ (v0 v1 v2 : Cached) (b : Buf) (at : ℕ) (bytes : List ℕ) (placed : IsPlaced v0.places b at)
    (e1 : v1 ≡ record v0 { places = set v0.places at (option_map (loaded bytes) (get_or v0.places at None)) })
    (e2 : v2 ≡ record v1 { touches = v2.touches }) where
  there : (p : Held) × (get_or v0.places at None ≡ Some p)
  there = some-held (get_or v0.places at None) placed.held

  abbrev p : Held
  p = there.0

  here : get_or v0.places at None ≡ Some p
  here = there.1

  comes : v1.places ≡ set v0.places at (Some (loaded bytes p))
  comes = ap (λ (c : Cached). c.places) e1 ∙ ap (λ x. set v0.places at (option_map (loaded bytes) x)) here

  loads : v2.places ≡ set v0.places at (Some (loaded bytes p))
  loads = ap (λ (c : Cached). c.places) e2 ∙ comes

  pub loaded-page : ChangesOnly v0 v2 b (option_map (loaded bytes) (page_of v0 b))
  loaded-page =
      restates v0 v2 b at p (loaded bytes p) (loaded bytes) placed here refl refl loads
      (ap (λ (c : Cached). c.limit) e2 ∙ ap (λ (c : Cached). c.limit) e1)

  pub loaded-touched : length v1.touches ≡ length v1.places → IsTouched v1.touches v2.touches at → Touches v0 v2 b
  loaded-touched len touched =
      let touches : v1.touches ≡ v0.touches = ap (λ (c : Cached). c.touches) e1 in
      let same_len : length v1.places ≡ length v0.places = ap length comes
      ∙ length-set v0.places at (Some (loaded bytes p)) in
      restates-touches v0 v2 b at p (loaded bytes p) (loaded bytes) placed here refl refl loads
      (sym (ap length touches) ∙ len ∙ same_len) (rw touches at touched)

  pub loaded-spare : v2.spare ≡ v0.spare
  loaded-spare = ap (λ (c : Cached). c.spare) e2 ∙ ap (λ (c : Cached). c.spare) e1
