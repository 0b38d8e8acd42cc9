-- What the calls do, put together from their steps.
use Rattle.std.proofs.Common.{◌≡◌, ◌≢◌, ℕ, ◌<◌, ◌≤◌, true, false, List, [], ◌∷◌, map, length, get_or, set, Option, Some, None, IsSome, IfNone, IfSome, is_some, arith, refl, ap, sym, subst, ◌∙◌, inl, inr}
use Rattle.std.specs.Option.{option_map}
use Rattle.std.specs.List.{position_or_len}
use Rattle.std.proofs.lemmas.Bool.{cases_Bool}
use Rattle.std.proofs.Math.ListN.{get_or-map}
use Rattle.std.proofs.lemmas.List.{map-set, length-map, set-get_or}
use Rattle.fixed_places.specs.Recency.{IsTouched}
use Rattle.split_types.specs.declared.ids.Pid.{Pid}
use Rattle.split_types.specs.declared.buf.Buf.{Buf}
use Rattle.split_types.specs.declared.buf.Buf.TheVariants.{Page, Bitmap, Dir, Inode}
use Rattle.split_types.specs.Hooks.{same_buf}
use Rattle.split_types.specs.Sets.{union_of}
use Rattle.cause_set.specs.Tags.{Tags, Moved, no_use, one_use, same, use_in, held, Covers, set_in}
use Rattle.cause_set.proofs.TagLaws.{use_in-held}
use Rattle.page_cache.specs.declared.page.State.{State}
use Rattle.page_cache.specs.Bytes.{filled}
use Rattle.page_cache.specs.declared.key.PageKey.{PageKey}
use Rattle.page_cache.specs.Keys.{buf_of}
use Rattle.page_cache.specs.Held.{Held, state_in}
use Rattle.page_cache.specs.Cached.{Cached, is_page, page_of, tag_in, tags_in, causes_of, IsDataPage}
use Rattle.page_cache.specs.Steps.{IsSlot, IsPlaced}
use Rattle.page_cache.specs.Changes.{ChangesOnly, KeepsTouches, Touches, Writes, page_as, bytes_in}
use Rattle.page_cache.proofs.SlotLaws.{page-own, slot-changes, slot-touches, slot-keeps, other-page, held-apart}
use Rattle.page_cache.proofs.StoreLaws.{put-moved, put-set, put-others}

-- ---- what a look-up found

pub some-at : {X : Type 0} (r : Option X) (x : X) (P : X → Type 0) → r ≡ Some x → IfSome r P → P x
some-at r x P e h = rw e at h

pub is-there : {X : Type 0} (r : Option X) (Q : Type 0) → IfNone r Q → (Q → ⊥) → IsSome r
is-there None Q h no_such = absurd (no_such h)
is-there (Some x) Q h no_such = refl

-- ---- pages of a buffer

pub as-own : (b : Buf) (bytes : List ℕ) (tag : Option ℕ) (state : State)
    → is_page b (page_as b bytes tag state) ≡ is_some (page_as b bytes tag state)
as-own (Page s g) bytes tag state = page-own record {
  key = record { serial = s.0; page = g };
  bytes = bytes;
  tag = tag;
  state = state;
}
as-own Bitmap bytes tag state = refl
as-own (Dir k) bytes tag state = refl
as-own (Inode k) bytes tag state = refl

pub as-some : (b : Buf) (bytes : List ℕ) (tag : Option ℕ) (state : State) → IsDataPage b
    → IsSome (page_as b bytes tag state)
as-some (Page s g) bytes tag state h = refl
as-some Bitmap bytes tag state h = absurd h
as-some (Dir k) bytes tag state h = absurd h
as-some (Inode k) bytes tag state h = absurd h

as-tag : (b : Buf) (bytes : List ℕ) (t : ℕ) (state : State) → IsDataPage b
    → tag_in (page_as b bytes (Some t) state) ≡ Some t
as-tag (Page s g) bytes t state h = refl
as-tag Bitmap bytes t state h = absurd h
as-tag (Dir k) bytes t state h = absurd h
as-tag (Inode k) bytes t state h = absurd h

-- ---- causes

-- the tag of a place
pub tag-at : (places : List (Option Held)) (i : ℕ) → get_or (map tag_in places) i None ≡ tag_in (get_or places i None)
tag-at places i = get_or-map tag_in places i None

-- the tag of a page is in use
pub tag-covered : (tags : Tags) (places : List (Option Held)) (i : ℕ) → Covers same (map tag_in places) tags
    → (n : ℕ) → use_in same (tag_in (get_or places i None)) n ≤ tags.uses n
tag-covered tags places i covers n =
    let below : use_in same (tag_in (get_or places i None)) n ≤ held same (map tag_in places) n =
    rw (← tag-at places i) (use_in-held same (map tag_in places) i n)
    in
    omega (arith, below, covers n)

-- the causes of another page
pub other-causes : (before after : Tags) (old new : Cached) (b k : Buf) (at : ℕ) (x y : Option Held)
    → IsSlot old.places b at x
    → is_page b y ≡ is_some y → new.places ≡ set old.places at y → k ≢ b
    → ((i : ℕ) → i ≢ at → set_in same after (get_or (tags_in old) i None)
    ≡ set_in same before (get_or (tags_in old) i None))
    → causes_of after new k ≡ causes_of before old k
other-causes before after old new b k at x y slot own e apart stay =
    let first = position_or_len (is_page k) old.places in
    let page : page_of new k ≡ page_of old k = rw e (other-page b old.places at x y slot own k apart) in
    let page_stays : set_in same after (tag_in (page_of old k)) ≡ set_in same before (tag_in (page_of old k)) =
    elim (cases_Bool (is_some (page_of old k))) [
      | inl some ↦ rw (← tag-at old.places first) (stay first (held-apart b k old.places at x slot apart some))
      | inr none ↦ untagged (page_of old k) none
    ]
    in
    ap (λ p. set_in same after (tag_in p)) page ∙ page_stays
  where
    untagged : (p : Option Held) → is_some p ≡ false → set_in same after (tag_in p) ≡ set_in same before (tag_in p)
    untagged None h = refl
    untagged (Some p) h = absurd (cc)

-- ---- a page that is written

module _ (before mid after : Tags) (old new : Cached) (b : Buf) (from to byte : ℕ) (by : Pid) (at t : ℕ)
    (slot : IsSlot old.places b at (page_of old b))
    (is : new.places ≡ set old.places at (page_as b (filled (bytes_in (page_of old b)) from to byte) (Some t)
    (state_in (page_of old b))))
    (page : IsDataPage b) (came : Moved before mid no_use (one_use t))
    (went : Moved mid after (use_in same (tag_in (page_of old b))) no_use)
    (covers : Covers same (tags_in old) before) where
  now : Option Held
  now = page_as b (filled (bytes_in (page_of old b)) from to byte) (Some t) (state_in (page_of old b))

  went-at : Moved mid after (use_in same (get_or (tags_in old) at None)) no_use
  went-at =
      let e : get_or (tags_in old) at None ≡ tag_in (page_of old b) = tag-at old.places at ∙ ap tag_in slot.here in
      rw e went

  inside : at < length (tags_in old)
  inside = rw (length-map old.places tag_in) slot.within

  pub writes-moved : Moved before after (held same (tags_in old)) (held same (tags_in new))
  unfolding now
  writes-moved =
      let tags : tags_in new ≡ set (tags_in old) at (Some t) =
      ap (map tag_in) is ∙ map-set tag_in old.places at
      (page_as b (filled (bytes_in (page_of old b)) from to byte) (Some t) (state_in (page_of old b)))
      ∙ ap (set (tags_in old) at) (as-tag b (filled (bytes_in (page_of old b)) from to byte) t
      (state_in (page_of old b)) page)
      in
      rw tags (put-moved (tags_in old) at t before mid after came went-at covers inside)

  pub writes-all : new.limit ≡ old.limit → length old.touches ≡ length old.places → IsTouched old.touches new.touches at
      → mid.members t ≡ union_of (causes_of before old b ∷ (by.0 ∷ []) ∷ [])
      → Writes before after old new b from to byte by
  unfolding now
  writes-all limit len touched members =
      let x = page_of old b in
      let y = page_as b (filled (bytes_in x) from to byte) (Some t) (state_in x) in
      let own = as-own b (filled (bytes_in x) from to byte) (Some t) (state_in x) in
      let changes = slot-changes old new b at x y slot own is limit in
      record {
        tag = t;
        page = changes;
        causes =
            ap (λ p. set_in same after (tag_in p)) changes.page
            ∙ ap (set_in same after) (as-tag b (filled (bytes_in x) from to byte) t (state_in x) page)
            ∙ put-set (tags_in old) at t before mid after came went-at covers inside
            ∙ members;
        others = λ k apart.
            other-causes before after old new b k at x y slot own is apart
            (put-others (tags_in old) at t before mid after came went-at covers inside);
        touched = slot-touches old new b at x y slot own
            (as-some b (filled (bytes_in x) from to byte) (Some t) (state_in x) page) is len touched;
      }

-- ---- a page that leaves, or stands otherwise

pub leaves : (old new : Cached) (b : Buf) (at : ℕ) → IsPlaced old.places b at
    → new ≡ record old { places = set old.places at None }
    → ChangesOnly old new b None
leaves old new b at placed e =
    slot-changes old new b at (get_or old.places at None) None placed.slot refl (ap (λ (c : Cached). c.places) e)
    (ap (λ (c : Cached). c.limit) e)

pub leaves-touches : (old new : Cached) (b : Buf) (at : ℕ) → IsPlaced old.places b at
    → new ≡ record old { places = set old.places at None }
    → KeepsTouches old new
leaves-touches old new b at placed e =
    slot-keeps old new b at (get_or old.places at None) None placed.slot refl (ap (λ (c : Cached). c.places) e)
    (ap (λ (c : Cached). c.touches) e)

-- a page that is held keeps its key, whatever else becomes of it
own-same : (b : Buf) (places : List (Option Held)) (at : ℕ) (p q : Held) → IsPlaced places b at
    → get_or places at None ≡ Some p
    → q.key ≡ p.key → is_page b (Some q) ≡ true
own-same b places at p q placed here key =
    let own : is_page b (Some p) ≡ is_some (Some p) = rw here at placed.slot.own in
    let as_key : PageKey → Type 0 = λ k. same_buf (buf_of k) b ≡ true in
    subst as_key (sym key) own

module _ (old new : Cached) (b : Buf) (at : ℕ) (p q : Held) (f : Held → Held) (placed : IsPlaced old.places b at)
    (here : get_or old.places at None ≡ Some p) (is : f p ≡ q) (key : q.key ≡ p.key) (places : new.places
    ≡ set old.places at (Some q)) where
  becomes : Some q ≡ option_map f (page_of old b)
  becomes = let e : page_of old b ≡ Some p = placed.slot.page ∙ here in rw (e, is) refl

  pub restates : new.limit ≡ old.limit → ChangesOnly old new b (option_map f (page_of old b))
  restates limit =
      let changes = slot-changes old new b at (get_or old.places at None) (Some q) placed.slot
      (own-same b old.places at p q placed here key) places limit in
      let as_page : Option Held → Type 0 = λ y. ChangesOnly old new b y in
      subst as_page becomes changes

  pub restates-keeps : new.touches ≡ old.touches → KeepsTouches old new
  restates-keeps touches =
      slot-keeps old new b at (get_or old.places at None) (Some q) placed.slot
      (own-same b old.places at p q placed here key) places touches

  pub restates-touches : length old.touches ≡ length old.places → IsTouched old.touches new.touches at
      → Touches old new b
  restates-touches len touched =
      slot-touches old new b at (get_or old.places at None) (Some q) placed.slot
      (own-same b old.places at p q placed here key) refl places len touched

-- a page that is touched, and stays as it is
pub touches-alone : (old new : Cached) (b : Buf) (at : ℕ) → IsPlaced old.places b at → new.places ≡ old.places
    → length old.touches ≡ length old.places → IsTouched old.touches new.touches at → Touches old new b
touches-alone old new b at placed same len touched =
    let x = get_or old.places at None in
    slot-touches old new b at x x placed.slot placed.slot.own placed.held (same
    ∙ sym (set-get_or old.places at None)) len touched

-- ---- a page that comes

pub enters : (old new : Cached) (b : Buf) (at : ℕ) (y : Option Held) → IsSlot old.places b at None
    → is_page b y ≡ is_some y
    → new.places ≡ set old.places at y → new.limit ≡ old.limit → ChangesOnly old new b y
enters old new b at y slot own places limit = slot-changes old new b at None y slot own places limit
