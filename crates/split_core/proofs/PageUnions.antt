-- One tag of all for whom the pages of a run are dirty, page after page.
use Rattle.std.proofs.Common.{◌≡◌, ℕ, ◌+◌, ◌≤◌, [], ◌∷◌, ◌++◌, map, true, false, Option, Some, None, is_some, refl, ap, sym, subst, ◌∙◌, arith}
use Rattle.std.specs.Option.{option_map}
use Rattle.std.proofs.lemmas.List.{map_push}
use Rattle.std.proofs.lemmas.List.FromFn.{map-range_with_len_more}
use Rattle.split_types.specs.declared.ids.Serial.{Serial}
use Rattle.split_types.specs.declared.buf.Buf.{Buf}
use Rattle.split_types.specs.declared.buf.Buf.TheVariants.{Page}
use Rattle.split_types.specs.Parents.{pages_of}
use Rattle.split_types.specs.Sets.{union_of, IsSet}
use Rattle.split_types.proofs.Shared.{union-one, union-flat}
use Rattle.cause_set.specs.Tags.{Tags, Moved, no_use, one_use, same, use_in, held}
use Rattle.journal_core.specs.Causes.{Covered}
use Rattle.page_cache.specs.Cached.{Cached, page_of, tag_in, tags_in, causes_of}
use Rattle.split_core.proofs.PageTags.{tag_held, one_self}

-- the tag has all for whom the first n pages are dirty; it came, and took no more room than for n uses
pub record IsUnion (before now : Tags) (c : Cached) (s : Serial) (g n all : ℕ) : Type 0 where
  pub moved : Moved before now no_use (one_use all)
  pub members : now.members all ≡ union_of (map (causes_of before c) (pages_of s g n))
  pub spare : before.spare ≤ now.spare + n

-- the tag of a page is in use
pub tag_used : (tags : Tags) (c : Cached) (b : Buf) (t : ℕ) → Covered (held same (tags_in c)) tags
    → tag_in (page_of c b) ≡ Some t → 1 ≤ tags.uses t
tag_used tags c b t covered is =
    let below : use_in same (Some t) t ≤ held same (tags_in c) t =
    subst (λ (x : Option ℕ). use_in same x t ≤ held same (tags_in c) t) is (tag_held c b t) in
    omega (arith, below, covered t, one_self t)

-- a page that has a tag is found with one
pub found_tag : {T : Type 0} (number : T → ℕ) (x : Option T) (y : Option ℕ) → option_map number x ≡ y
    → is_some y ≡ true → is_some x ≡ true
found_tag number None y is some = absurd (let none : is_some y ≡ false = ap is_some (sym is) in cc)
found_tag number (Some t) y is some = refl

pub tag_is : {T : Type 0} (number : T → ℕ) (x : Option T) (t : T) (y : Option ℕ) → option_map number x ≡ y
    → x ≡ Some t → y ≡ Some (number t)
tag_is number x t y is found = sym is ∙ ap (option_map number) found

page_causes : (tags : Tags) (c : Cached) (b : Buf) (t : ℕ) → tag_in (page_of c b) ≡ Some t
    → causes_of tags c b ≡ tags.members t
page_causes tags c b t is = rw is refl

-- the first page
pub union_first : (before now : Tags) (c : Cached) (s : Serial) (g t all : ℕ) → tag_in (page_of c (Page s g)) ≡ Some t
    → Moved before now no_use (one_use all) → now.members all ≡ before.members t → IsSet (now.members all)
    → before.spare ≤ now.spare + 1 → IsUnion before now c s g 1 all
union_first before now c s g t all is moved members set spare = record {
  moved = moved;
  members =
      sym (union-one (now.members all) set)
      ∙ ap (λ l. union_of (l ∷ [])) (members ∙ sym (page_causes before c (Page s g) t is));
  spare = spare;
}

-- the next one: the tag of both came, and the one so far went
pub union_more : (before now mid after : Tags) (c : Cached) (s : Serial) (g n all t both : ℕ)
    → IsUnion before now c s g n all → Covered (held same (tags_in c)) before
    → tag_in (page_of c (Page s (g + n))) ≡ Some t → Moved now mid no_use (one_use both)
    → mid.members both ≡ union_of (now.members all ∷ now.members t ∷ []) → now.spare ≤ mid.spare + 1
    → Moved mid after (one_use all) no_use → mid.spare ≤ after.spare → IsUnion before after c s g (n + 1) both
union_more before now mid after c s g n all t both so_far covered is came members less gone more =
    let b = Page s (g + n) in
    let used = tag_used before c b t covered is in
    let other : now.members t ≡ causes_of before c b =
    so_far.moved.keeps t (omega (arith, used)) ∙ sym (page_causes before c b t is) in
    let lists : map (causes_of before c) (pages_of s g (n + 1))
    ≡ map (causes_of before c) (pages_of s g n) ++ causes_of before c b ∷ [] =
    ap (map (causes_of before c)) (map-range_with_len_more (Page s) g n (g + n) refl)
    ∙ map_push (causes_of before c) (pages_of s g n) b in
    record {
      moved = record {
        uses = λ k. omega (arith, so_far.moved.uses k, came.uses k, gone.uses k);
        keeps = λ k some.
            gone.keeps k (omega (arith, so_far.moved.uses k, came.uses k, some))
            ∙ came.keeps k (omega (arith, so_far.moved.uses k, some)) ∙ so_far.moved.keeps k some;
      };
      members =
          gone.keeps both (omega (arith, so_far.moved.uses both, came.uses both, one_self both))
          ∙ members
          ∙ ap (λ l. union_of (l ∷ now.members t ∷ [])) so_far.members
          ∙ ap (λ l. union_of (union_of (map (causes_of before c) (pages_of s g n)) ∷ l ∷ [])) other
          ∙ union-flat (map (causes_of before c) (pages_of s g n)) (causes_of before c b ∷ [])
          ∙ ap union_of (sym lists);
      spare = omega (arith, so_far.spare, less, more);
    }
