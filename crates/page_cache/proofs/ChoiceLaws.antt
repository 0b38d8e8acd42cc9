-- Which page is chosen: the first that is ready, and the victim.
use Rattle.std.proofs.Common.{◌≡◌, ℕ, true, false, List, get_or, Option, Some, None, IsSome, refl, ap, sym, subst, ◌∙◌, inl, inr}
use Rattle.std.specs.List.{position_or_len}
use Rattle.std.proofs.lemmas.Bool.{cases_Bool}
use Rattle.std.proofs.lemmas.List.Sums.{passes_at_first}
use Rattle.std.proofs.Math.ListN.{get_or-map}
use Rattle.split_types.specs.declared.buf.Buf.{Buf}
use Rattle.fixed_places.specs.Tree.{HasNone}
use Rattle.fixed_places.specs.Recency.{IsOldest, NoCandidate}
use Rattle.page_cache.specs.declared.key.PageKey.{PageKey}
use Rattle.page_cache.specs.Keys.{buf_of}
use Rattle.page_cache.specs.Guide.{Guided, IsLeastKey}
use Rattle.page_cache.specs.Held.{Held, key_in}
use Rattle.page_cache.specs.Cached.{Cached, is_page, is_idle, is_ready}
use Rattle.page_cache.specs.Kept.{ready_in, AreGuided, AreDistinct}
use Rattle.page_cache.specs.Steps.{IsSlot}
use Rattle.page_cache.specs.Changes.{IsVictim, IsUpTo, IsFirstReady}
use Rattle.page_cache.proofs.SlotLaws.{page-key, page-buf, page-own, some-inside, slot-here, slot-place}

-- the page in a place is found there
pub own-slot : (places : List (Option Held)) (at : ℕ) (p : Held) → AreDistinct places → get_or places at None ≡ Some p
    → IsSlot places (buf_of p.key) at (Some p)
own-slot places at p distinct here =
    slot-here (buf_of p.key) places at (Some p) (some-inside places at (rw here refl)) here (page-own p)
    (λ i there. only i (get_or places i None) refl (page-key (buf_of p.key) (get_or places i None) there))
  where
    only : (i : ℕ) (x : Option Held) → get_or places i None ≡ x → key_in x ≡ Some p.key → i ≡ at
    only i None e h = absurd (cc)
    only i (Some q) e h = let same : q.key ≡ p.key = cc in distinct i at q p e here same

-- ---- the first that is ready

ready-key : (p : Held) → is_ready (Some p) ≡ true → ready_in (Some p) ≡ Some p.key
ready-key p h = rw h refl

key-ready : (x : Option Held) → IsSome (ready_in x) → is_ready x ≡ true
key-ready None h = absurd (cc)
key-ready (Some p) h =
    elim (cases_Bool (is_ready (Some p))) [
      | inl is ↦ is
      | inr fails ↦ let none : ready_in (Some p) ≡ None = rw fails refl in
          let no : IsSome {T = PageKey} None = rw none at h in absurd (cc)
    ]

read-ready : (g : Guided) (places : List (Option Held)) (i : ℕ) → AreGuided g places
    → get_or g.ready i None ≡ ready_in (get_or places i None)
read-ready g places i a = ap (λ ready. get_or ready i None) a.ready ∙ get_or-map ready_in places i None

pub ready-none : (g : Guided) (places : List (Option Held)) (i : ℕ) → AreGuided g places → HasNone g.ready
    → is_ready (get_or places i None) ≡ true → ⊥
ready-none g places i a none h = clash (get_or places i None) (sym (read-ready g places i a) ∙ none i) h
  where
    clash : (x : Option Held) → ready_in x ≡ None → is_ready x ≡ true → ⊥
    clash None e is = cc
    clash (Some p) e is = let key = ready-key p is in cc

pub least-ready : (g : Guided) (places : List (Option Held)) (at : ℕ) → AreGuided g places → IsLeastKey g.ready at
    → is_ready (get_or places at None) ≡ true
least-ready g places at a least =
    let some : IsSome (ready_in (get_or places at None)) = rw (read-ready g places at a) at least.some in
    key-ready (get_or places at None) some

pub least-held : (x : Option Held) → is_ready x ≡ true → IsSome x
least-held None h = absurd (cc)
least-held (Some p) h = refl

pub first-ready : (c : Cached) (g : Guided) (at : ℕ) (p : Held) → AreGuided g c.places → AreDistinct c.places
    → IsLeastKey g.ready at
    → get_or c.places at None ≡ Some p → IsFirstReady c (buf_of p.key)
first-ready c g at p a distinct least here =
    let slot = own-slot c.places at p distinct here in
    let ready : is_ready (Some p) ≡ true = rw here at (least-ready g c.places at a least) in
    let key : get_or g.ready at None ≡ Some p.key = read-ready g c.places at a ∙ ap ready_in here ∙ ready-key p ready in
    record {
      ready = rw slot.page ready;
      first = λ k is_there. later k (get_or c.places (position_or_len (is_page k) c.places) None) refl is_there key;
    }
  where
    later : (k : Buf) (x : Option Held) → get_or c.places (position_or_len (is_page k) c.places) None ≡ x
        → is_ready x ≡ true
        → get_or g.ready at None ≡ Some p.key → IsUpTo (buf_of p.key) k
    later k None e h key = absurd (cc)
    later k (Some q) e h key =
        let i = position_or_len (is_page k) c.places in
        let own : is_page k (Some q) ≡ true = sym (ap (is_page k) e)
        ∙ passes_at_first (is_page k) c.places None (some-inside c.places i (rw e refl)) in
        let up_to : Buf → Type 0 = λ b. IsUpTo (buf_of p.key) b in
        subst up_to (page-buf k q own) (least.least i p.key q.key key (read-ready g c.places i a ∙ ap ready_in e
        ∙ ready-key q h))

-- ---- the victim

read-idle : (g : Guided) (places : List (Option Held)) (i : ℕ) → AreGuided g places
    → get_or g.idle i false ≡ is_idle (get_or places i None)
read-idle g places i a = ap (λ idle. get_or idle i false) a.idle ∙ get_or-map is_idle places i None

pub no-victim : (g : Guided) (places : List (Option Held)) (i : ℕ) → AreGuided g places
    → NoCandidate record { touches = g.touches; candidates = g.idle } → is_idle (get_or places i None) ≡ false
no-victim g places i a none = sym (read-idle g places i a) ∙ none i

pub oldest-idle : (g : Guided) (places : List (Option Held)) (at : ℕ) → AreGuided g places
    → IsOldest record { touches = g.touches; candidates = g.idle } at → is_idle (get_or places at None) ≡ true
oldest-idle g places at a oldest = sym (read-idle g places at a) ∙ oldest.candidate

pub idle-held : (x : Option Held) → is_idle x ≡ true → IsSome x
idle-held None h = absurd (cc)
idle-held (Some p) h = refl

pub is-victim : (c : Cached) (g : Guided) (at : ℕ) (p : Held) → AreGuided g c.places → AreDistinct c.places
    → c.touches ≡ g.touches
    → IsOldest record { touches = g.touches; candidates = g.idle } at → get_or c.places at None ≡ Some p
    → IsVictim c (buf_of p.key)
is-victim c g at p a distinct touches oldest here =
    let slot = own-slot c.places at p distinct here in
    let place : position_or_len (is_page (buf_of p.key)) c.places ≡ at =
    slot-place (buf_of p.key) c.places at (Some p) slot refl in
    let idle : is_idle (Some p) ≡ true = rw here at (oldest-idle g c.places at a oldest) in
    record {
      idle = rw slot.page idle;
      oldest = λ k is_there.
          let i = position_or_len (is_page k) c.places in
          rw (place, touches) (oldest.oldest i (read-idle g c.places i a ∙ is_there));
    }
