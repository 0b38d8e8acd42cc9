-- The tags that come and go are those of the pages that the cache holds.
use Rattle.std.proofs.Common.{◌≡◌, ℕ, ◌+◌, ◌≤◌, true, None, Result, Ok, Err, is_ok, refl, ap, sym, subst, ◌∙◌, arith}
use Rattle.std.proofs.Common.{eq-eqb, if◌then◌else◌}
use Rattle.std.specs.Prelude.{OnOk}
use Rattle.std.proofs.Math.ListN.{get_or-map}
use Rattle.split_types.specs.declared.buf.Buf.{Buf}
use Rattle.cause_set.specs.Tags.{Tags, Moved, held, same, use_in, one_use, no_use, plus}
use Rattle.cause_set.proofs.TagLaws.{use_in-held, set_in-keeps}
use Rattle.journal_core.specs.Causes.{Covered}
use Rattle.page_cache.specs.Cached.{Cached, page_of, place_of, tag_in, tags_in, causes_of}

-- what holds after a call that succeeds
pub on_ok : {T E : Type 0} (r : Result T E) (P : Type 0) → is_ok r ≡ true → OnOk r P → P
on_ok (Ok x) P made holds = holds
on_ok (Err e) P made holds = absurd (cc)

-- the tags that went and came are those of the pages of a cache before and after
abbrev pub Moves : Tags → Tags → Cached → Cached → Type 0
Moves before after old new = Moved before after (held same (tags_in old)) (held same (tags_in new))

-- where each is held as often as before, none moves
pub tags_kept : (tags : Tags) (old new : Cached) → ((n : ℕ) → held same (tags_in new) n ≡ held same (tags_in old) n)
    → Moves tags tags old new
tags_kept tags old new is = record { uses = λ n. omega (arith, is n); keeps = λ n some. refl }

pub tags_moved : (before after : Tags) (old mid new : Cached) → Moves before after old mid → tags_in new ≡ tags_in mid
    → Moves before after old new
tags_moved before after old mid new moved is =
    subst (λ l. Moved before after (held same (tags_in old)) (held same l)) (sym is) moved

-- the tag of a page is one of those that are held
pub tag_held : (c : Cached) (b : Buf) (n : ℕ) → use_in same (tag_in (page_of c b)) n ≤ held same (tags_in c) n
tag_held c b n =
    subst (λ t. use_in same t n ≤ held same (tags_in c) n) (get_or-map tag_in c.places (place_of c b) None)
    (use_in-held same (tags_in c) (place_of c b) n)

-- ---- a tag that was handed out is released
pub one_self : (t : ℕ) → one_use t t ≡ 1
one_self t = ap (λ b. if b then 1 else 0) (eq-eqb t t refl)

module _ (before mid : Tags) (old new : Cached) (t : ℕ)
    (moved : Moved before mid (held same (tags_in old)) (plus (held same (tags_in new)) (one_use t)))
    (covered : Covered (held same (tags_in old)) before) where
  -- the store has then, beside what the cache holds, one use of the tag
  one_more : (n : ℕ) → held same (tags_in new) n + one_use t n ≤ mid.uses n
  one_more n = omega (arith, moved.uses n, covered n)

  pub in_use : 1 ≤ mid.uses t
  in_use = omega (arith, one_more t, one_self t)

  module _ (after : Tags) (gone : Moved mid after (one_use t) no_use) where
    pub tags_released : Moves before after old new
    tags_released = record {
      uses = λ n. omega (arith, moved.uses n, gone.uses n);
      keeps = λ n some. gone.keeps n (omega (arith, moved.uses n, some)) ∙ moved.keeps n some;
    }

    pub causes_released : (b : Buf) → causes_of after new b ≡ causes_of mid new b
    causes_released b =
        set_in-keeps same mid after (one_use t) no_use (tag_in (page_of new b)) gone
        (λ n. omega (arith, one_more n, tag_held new b n))
