-- What holds where a page goes, and its tag is released.
use Rattle.std.proofs.Common.{◌≡◌, ◌≢◌, ℕ, ◌<◌, map, length, get_or, set, List, Option, Some, None, IsSome, true, refl, ap, ◌∙◌}
use Rattle.std.specs.List.{position_or_len}
use Rattle.std.proofs.lemmas.List.{map-set, length-map}
use Rattle.std.proofs.lemmas.List.Sums.{passes_at_first}
use Rattle.std.specs.Prelude.{IfSome}
use Rattle.std.specs.Option.{option_map}
use Rattle.split_types.specs.declared.buf.Buf.{Buf}
use Rattle.cause_set.specs.Tags.{Tags, Moved, no_use, same, use_in, held, Covers}
use Rattle.page_cache.specs.Held.{Held}
use Rattle.page_cache.specs.Kept.{IsSound}
use Rattle.page_cache.specs.Cached.{Cached, is_page, page_of, tag_in, tags_in, causes_of, IsDataPage}
use Rattle.page_cache.specs.Steps.{IsPlaced}
use Rattle.page_cache.specs.Changes.{ChangesOnly}
use Rattle.page_cache.proofs.SlotLaws.{page-buf, some-inside}
use Rattle.page_cache.proofs.StoreLaws.{gone-moved, gone-others}
use Rattle.page_cache.proofs.CallLaws.{tag-at, other-causes}

module _ (before after : Tags) (old new : Cached) (b : Buf) (at : ℕ) (placed : IsPlaced old.places b at)
    (e : new ≡ record old { places = set old.places at None })
    (went : Moved before after (use_in same (tag_in (get_or old.places at None))) no_use)
    (covers : Covers same (tags_in old) before) where
  went_at : Moved before after (use_in same (get_or (tags_in old) at None)) no_use
  went_at = rw (tag-at old.places at) went

  inside : at < length (tags_in old)
  inside = rw (length-map old.places tag_in) placed.slot.within

  pub gone-causes : (k : Buf) → k ≢ b → causes_of after new k ≡ causes_of before old k
  gone-causes k apart =
      other-causes before after old new b k at (get_or old.places at None) None placed.slot refl
      (ap (λ (c : Cached). c.places) e) apart
      (gone-others (tags_in old) at before after went_at covers inside)

  pub gone-held : Moved before after (held same (tags_in old)) (held same (tags_in new))
  gone-held =
      let tags : tags_in new ≡ set (tags_in old) at None = ap (λ (c : Cached). map tag_in c.places) e
      ∙ map-set tag_in old.places at None in
      rw tags (gone-moved (tags_in old) at before after went_at covers inside)

-- a page that isn't held stays so
pub none-gone : (c : Cached) (b : Buf) → page_of c b ≡ None → ChangesOnly c c b None
none-gone c b none =
    record {
      page = none;
      others = λ k apart. refl;
      count = rw none refl;
      unsettled = rw none refl;
      tags = λ m. rw none refl;
      limit = refl;
    }

-- a page that is held is one of a file
pub sound-data : (places : List (Option Held)) → ((i : ℕ) → IfSome (get_or places i None) IsSound) → (k : Buf)
    → IsSome (get_or places (position_or_len (is_page k) places) None) → IsDataPage k
sound-data places sound k some =
    let at = position_or_len (is_page k) places in
    by-page (get_or places at None) (sound at) some (passes_at_first (is_page k) places None
    (some-inside places at some))
  where
    by-page : (x : Option Held) → IfSome x IsSound → IsSome x → is_page k x ≡ true → IsDataPage k
    by-page None h none is = absurd (cc)
    by-page (Some p) h some_p is = rw (← page-buf k p is) h.number

pub mapped-some : {X Y : Type 0} (f : X → Y) (x : Option X) → IsSome (option_map f x) → IsSome x
mapped-some f None h = absurd (cc)
mapped-some f (Some y) h = refl
