-- Where pages are found, and how many there are.
use Rattle.std.proofs.Common.{◌≡◌, ◌≢◌, ℕ, ◌<◌, ◌≤◌, true, false, List, length, get_or, Option, Some, None, IsSome, is_some, refl, ap, sym, ◌∙◌, inl, inr}
use Rattle.std.specs.Prelude.{count_by}
use Rattle.std.specs.List.{position_or_len}
use Rattle.std.proofs.lemmas.Bool.{cases_Bool}
use Rattle.std.proofs.lemmas.List.{length-map}
use Rattle.std.proofs.Math.ListN.{get_or-map}
use Rattle.split_types.specs.declared.buf.Buf.{Buf}
use Rattle.split_types.specs.declared.buf.Buf.TheVariants.{Page, Bitmap, Dir, Inode}
use Rattle.fixed_places.specs.Keys.{IsAbsent, IsPlaceOf}
use Rattle.page_cache.specs.declared.key.PageKey.{PageKey}
use Rattle.page_cache.specs.Keys.{key_of, buf_of}
use Rattle.page_cache.specs.Guide.{Guided}
use Rattle.page_cache.specs.Held.{Held, key_in}
use Rattle.page_cache.specs.Cached.{is_page, is_unsettled}
use Rattle.page_cache.specs.Kept.{AreGuided}
use Rattle.page_cache.specs.Steps.{IsPlaced}
use Rattle.page_cache.proofs.ListLaws.{count-map, count-same, count-below}
use Rattle.page_cache.proofs.SlotLaws.{page-key, key-page, page-own, page-some, page-absent, slot-here}

-- what is no page is in no place
pub no-key : (b : Buf) (places : List (Option Held)) → key_of b ≡ None
    → get_or places (position_or_len (is_page b) places) None ≡ None
no-key b places none = page-absent b places (λ i. nowhere (get_or places i None))
  where
    nowhere : (x : Option Held) → is_page b x ≡ false
    nowhere x =
        elim (cases_Bool (is_page b x)) [
          | inl is ↦ let e = page-key b x is in let some : IsSome (key_in x) = has-key x (page-some b x is) in
              let none_here : IsSome {T = PageKey} None = rw (e ∙ none) at some in absurd (cc)
          | inr other ↦ other
        ]
      where
        has-key : (y : Option Held) → is_some y ≡ true → IsSome (key_in y)
        has-key None h = absurd (cc)
        has-key (Some p) h = refl

-- a page has the key of its buffer, and the place with that key has the page
has-page : (b : Buf) (key : PageKey) (x : Option Held) → key_of b ≡ Some key → key_in x ≡ Some key → is_page b x ≡ true
has-page (Page s g) key x is h = key-page s g x (h ∙ sym is)
has-page Bitmap key x is h = absurd (cc)
has-page (Dir k) key x is h = absurd (cc)
has-page (Inode k) key x is h = absurd (cc)

pub place-absent : (b : Buf) (key : PageKey) (g : Guided) (places : List (Option Held)) → key_of b ≡ Some key
    → AreGuided g places
    → IsAbsent g.keys key → get_or places (position_or_len (is_page b) places) None ≡ None
place-absent b key g places is a absent =
    page-absent b places
    (λ i.
    elim (cases_Bool (is_page b (get_or places i None))) [
      | inl here ↦
          absurd
          (absent i (ap (λ keys. get_or keys i None) a.keys ∙ get_or-map key_in places i None
          ∙ page-key b (get_or places i None) here ∙ is))
      | inr other ↦ other
    ])

pub place-found : (b : Buf) (key : PageKey) (g : Guided) (places : List (Option Held)) (at : ℕ) → key_of b ≡ Some key
    → AreGuided g places
    → IsPlaceOf g.keys key at → IsPlaced places b at
place-found b key g places at is a found =
    let within : at < length places = rw (ap length a.keys ∙ length-map places key_in) at found.within in
    let read : (i : ℕ) → get_or g.keys i None ≡ key_in (get_or places i None) =
    λ i. ap (λ keys. get_or keys i None) a.keys ∙ get_or-map key_in places i None
    in
    let here : is_page b (get_or places at None) ≡ true =
    has-page b key (get_or places at None) is (sym (read at) ∙ found.here) in
    record {
      slot = slot-here b places at (get_or places at None) within refl here
          (λ i there. found.only i (read i ∙ page-key b (get_or places i None) there ∙ is));
      held = page-some b (get_or places at None) here;
    }

-- a page that isn't held has a key that no place has
pub key-absent : (key : PageKey) (places : List (Option Held))
    → ((i : ℕ) → is_page (buf_of key) (get_or places i None) ≡ false)
    → (i : ℕ) (p : Held) → get_or places i None ≡ Some p → p.key ≢ key
key-absent key places none i p here is =
    let own : is_page (buf_of key) (get_or places i None) ≡ true = rw (here, ← is) (page-own p) in let no = none i in
    absurd (cc)

-- ---- counts

pub held-count : (g : Guided) (places : List (Option Held)) → AreGuided g places
    → count_by is_some g.keys ≡ count_by is_some places
held-count g places a =
    ap (count_by is_some) a.keys ∙ count-map is_some key_in places
    ∙ count-same (λ x. is_some (key_in x)) is_some places each
  where
    each : (x : Option Held) → is_some (key_in x) ≡ is_some x
    each None = refl
    each (Some p) = refl

pub unsettled-count : (g : Guided) (places : List (Option Held)) → AreGuided g places
    → count_by (λ mark. mark) g.unsettled ≡ count_by is_unsettled places
unsettled-count g places a = ap (count_by (λ mark. mark)) a.unsettled ∙ count-map (λ mark. mark) is_unsettled places

pub unsettled-held : (places : List (Option Held)) → count_by is_unsettled places ≤ count_by is_some places
unsettled-held places = count-below is_unsettled is_some places each
  where
    each : (x : Option Held) → is_unsettled x ≡ true → is_some x ≡ true
    each None h = absurd (cc)
    each (Some p) h = refl
