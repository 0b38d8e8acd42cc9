-- What a write does, and what the beginning of a load does, put together from their steps.
use Rattle.std.proofs.Common.{◌≡◌, ℕ, ◌<◌, true, false, List, length, get_or, set, Option, Some, None, refl, ap, sym, ◌∙◌, ◌-◌, length-set}
use Rattle.std.specs.List.{position_or_len}
use Rattle.fixed_places.specs.Recency.{IsTouched}
use Rattle.split_types.specs.declared.ids.Pid.{Pid}
use Rattle.split_types.specs.declared.buf.Buf.{Buf}
use Rattle.split_types.specs.declared.buf.Buf.TheVariants.{Page, Bitmap, Dir, Inode}
use Rattle.page_cache.specs.declared.key.PageKey.{PageKey}
use Rattle.page_cache.specs.declared.page.State.{State}
use Rattle.page_cache.specs.Bytes.{filled, zeros}
use Rattle.page_cache.specs.Keys.{key_of}
use Rattle.page_cache.specs.Held.{Held, state_in}
use Rattle.page_cache.specs.Cached.{Cached, is_page, page_of}
use Rattle.page_cache.specs.Steps.{IsSlot, IsPlaced, Enters, changed, with_bytes}
use Rattle.page_cache.specs.Changes.{BeginsLoad, page_as, bytes_in}
use Rattle.page_cache.proofs.SlotLaws.{slot-free, slot-changes, slot-keeps}
use Rattle.page_cache.proofs.CallLaws.{as-own}
use Rattle.page_cache.proofs.MoreLaws.{set-twice, as-held, as-keyed}

rewritten-as : (b : Buf) (bytes : List ℕ) (tag : Option ℕ) (state : State) (f : List ℕ → List ℕ)
    → with_bytes f (page_as b bytes tag state) ≡ page_as b (f bytes) tag state
rewritten-as (Page s g) bytes tag state f = refl
rewritten-as Bitmap bytes tag state f = refl
rewritten-as (Dir k) bytes tag state f = refl
rewritten-as (Inode k) bytes tag state f = refl

module _ (v0 v1 v2 v3 v4 : Cached) (b : Buf) (at from to byte t : ℕ) (e1 : v1 ≡ record v0 { spare = v1.spare })
    (slot : IsSlot v1.places b at (page_of v1 b))
    (e2 : v2 ≡ record v1 {
      places = set v1.places at (page_as b (bytes_in (page_of v1 b)) (Some t) (state_in (page_of v1 b)));
      spare = v2.spare;
    })
    (e3 : v3 ≡ record v2 {
      places = set v2.places at (with_bytes (λ bytes. filled bytes from to byte)
          (get_or v2.places at None));
      spare = v2.spare - 1;
    })
    (e4 : v4 ≡ record v3 { touches = v4.touches }) where
  same_places : v1.places ≡ v0.places
  same_places = ap (λ (c : Cached). c.places) e1

  pub written-slot : IsSlot v0.places b at (page_of v0 b)
  written-slot = rw same_places at slot

  pub written-places : v4.places ≡ set v0.places at (page_as b (filled (bytes_in (page_of v0 b)) from to byte) (Some t)
      (state_in (page_of v0 b)))
  written-places =
      let f : List ℕ → List ℕ = λ bytes. filled bytes from to byte in
      let x = page_of v0 b in
      let first : v2.places ≡ set v0.places at (page_as b (bytes_in x) (Some t) (state_in x)) =
      ap (λ (c : Cached). c.places) e2
      ∙ ap (λ ps. set ps at (page_as b (bytes_in (get_or ps (position_or_len (is_page b) ps) None)) (Some t)
      (state_in (get_or ps (position_or_len (is_page b) ps) None)))) same_places
      in
      ap (λ (c : Cached). c.places) e4
      ∙ set-twice v0.places v2.places v3.places at (page_as b (bytes_in x) (Some t) (state_in x)) (with_bytes f)
      written-slot.within first
      (ap (λ (c : Cached). c.places) e3)
      ∙ ap (set v0.places at) (rewritten-as b (bytes_in x) (Some t) (state_in x) f)

  pub written-limit : v4.limit ≡ v0.limit
  written-limit =
      ap (λ (c : Cached). c.limit) e4 ∙ ap (λ (c : Cached). c.limit) e3 ∙ ap (λ (c : Cached). c.limit) e2
      ∙ ap (λ (c : Cached). c.limit) e1

  same_touches : v3.touches ≡ v0.touches
  same_touches = ap (λ (c : Cached). c.touches) e3 ∙ ap (λ (c : Cached). c.touches) e2
      ∙ ap (λ (c : Cached). c.touches) e1

  pub written-len : length v3.touches ≡ length v3.places → length v0.touches ≡ length v0.places
  written-len len =
      let now = page_as b (filled (bytes_in (page_of v0 b)) from to byte) (Some t) (state_in (page_of v0 b)) in
      let last : v4.places ≡ v3.places = ap (λ (c : Cached). c.places) e4 in
      sym (ap length same_touches) ∙ len ∙ sym (ap length last) ∙ ap length written-places ∙ length-set v0.places at now

  pub written-touched : IsTouched v3.touches v4.touches at → IsTouched v0.touches v4.touches at
  written-touched touched = rw same_touches at touched

  pub written-spare : v4.spare ≡ v2.spare - 1
  written-spare = ap (λ (c : Cached). c.spare) e4 ∙ ap (λ (c : Cached). c.spare) e3

-- ---- the beginning of a load

pub begins : (v0 v1 v2 : Cached) (b : Buf) (by : Pid) (key : PageKey) (at : ℕ) → v1 ≡ record v0 { spare = v1.spare }
    → key_of b ≡ Some key
    → page_of v0 b ≡ None → Enters v1 v2 key None record { busy = false; loading = true; pin = Some by } at
    → BeginsLoad v0 v2 b by
begins v0 v1 v2 b by key at e is none enters =
    let state : State = record { busy = false; loading = true; pin = Some by } in
    let same_places : v1.places ≡ v0.places = ap (λ (c : Cached). c.places) e in
    let within : at < length v0.places = rw same_places at enters.within in
    let empty : get_or v0.places at None ≡ None = rw same_places at enters.empty in
    let slot = slot-free b v0.places at within empty none in
    let own = as-own b zeros None state in
    let places : v2.places ≡ set v0.places at (page_as b zeros None state) =
    ap (λ (c : Cached). c.places) enters.is
    ∙ ap (λ ps. set ps at (Some record { key = key; bytes = zeros; tag = None; state = state })) same_places
    ∙ ap (set v0.places at) (sym (as-keyed b key zeros None state is))
    in
    record {
      bytes = zeros;
      page = slot-changes v0 v2 b at None (page_as b zeros None state) slot own places
          (ap (λ (c : Cached). c.limit) enters.is ∙ ap (λ (c : Cached). c.limit) e);
      touches = slot-keeps v0 v2 b at None (page_as b zeros None state) slot own places
          (ap (λ (c : Cached). c.touches) enters.is ∙ ap (λ (c : Cached). c.touches) e);
    }

-- ---- a page that comes to be dirty

pub cached-as : (v w : Cached) (places : List (Option Held)) → v.places ≡ places → v.touches ≡ w.touches
    → v.limit ≡ w.limit
    → v ≡ record w { places = places; spare = v.spare }
cached-as v w places e touches limit =
    let made : List (Option Held) → List ℕ → ℕ → Cached = λ ps ts l.
    record { places = ps; touches = ts; limit = l; spare = v.spare } in
    ap (λ ps. made ps v.touches v.limit) e ∙ ap (λ ts. made places ts v.limit) touches
    ∙ ap (made places w.touches) limit

pub dirties-held : (v0 v1 : Cached) (b : Buf) (at t : ℕ) (p : Held) → IsPlaced v0.places b at
    → get_or v0.places at None ≡ Some p
    → v1 ≡ record v0 { places = set v0.places at (changed (Some t) p.state (get_or v0.places at None)) }
    → v1 ≡ record v0 {
      places = set v0.places at (page_as b (bytes_in (page_of v0 b)) (Some t)
          (state_in (page_of v0 b)));
      spare = v1.spare;
    }
dirties-held v0 v1 b at t p placed here e =
    let x = page_of v0 b in
    let own : is_page b (Some p) ≡ true = rw here at placed.slot.own in
    let now : changed (Some t) p.state (get_or v0.places at None) ≡ page_as b (bytes_in x) (Some t) (state_in x) =
    let is : x ≡ Some p = placed.slot.page ∙ here in
    rw (here, is) (sym (as-held b p p.bytes (Some t) p.state own))
    in
    cached-as v1 v0 (set v0.places at (page_as b (bytes_in x) (Some t) (state_in x)))
    (ap (λ (c : Cached). c.places) e ∙ ap (set v0.places at) now) (ap (λ (c : Cached). c.touches) e)
    (ap (λ (c : Cached). c.limit) e)

pub dirties-new : (v0 v1 : Cached) (b : Buf) (at t : ℕ) (key : PageKey) (state : State) → key_of b ≡ Some key
    → page_of v0 b ≡ None
    → state ≡ state_in None → Enters v0 v1 key (Some t) state at
    → v1 ≡ record v0 {
      places = set v0.places at (page_as b (bytes_in (page_of v0 b)) (Some t)
          (state_in (page_of v0 b)));
      spare = v1.spare;
    }
dirties-new v0 v1 b at t key state is none fresh enters =
    let q : Held = record { key = key; bytes = zeros; tag = Some t; state = state } in
    let now : Some q ≡ page_as b (bytes_in (page_of v0 b)) (Some t) (state_in (page_of v0 b)) =
    let made : State → Option Held = λ s. let r : Held = record { key = key; bytes = zeros; tag = Some t; state = s } in
    Some r in
    rw none (ap made fresh ∙ sym (as-keyed b key zeros (Some t) (state_in None) is))
    in
    cached-as v1 v0 (set v0.places at (page_as b (bytes_in (page_of v0 b)) (Some t) (state_in (page_of v0 b))))
    (ap (λ (c : Cached). c.places) enters.is ∙ ap (set v0.places at) now)
    (ap (λ (c : Cached). c.touches) enters.is)
    (ap (λ (c : Cached). c.limit) enters.is)
