-- What holds where the pages of a run are taken out, one after another.
use Rattle.std.proofs.Common.{◌≡◌, ℕ, ◌+◌, ◌-◌, ◌<◌, ◌≤◌, Bool, true, false, List, [], ◌∷◌, ◌++◌, map, length, get_or, set, Option, Some, None, IsSome, is_some, arith, refl, ap, sym, subst, ◌∙◌}
use Rattle.std.specs.Option.{option_map}
use Rattle.std.specs.Prelude.{count_by, Result, Ok, Err, IsOk, is_ok, if◌then◌else◌, not, ◌&&◌, ◌||◌}
use Rattle.std.specs.List.{flat_map, position_or_len}
use Rattle.std.proofs.lemmas.Grind.{flat_map-append, common_steps}
use Rattle.std.proofs.lemmas.List.{length-map, map-set, map_push}
use Rattle.std.proofs.lemmas.List.FromFn.{map-range_with_len_more}
use Rattle.split_types.specs.declared.ids.Serial.{Serial}
use Rattle.split_types.specs.declared.buf.Buf.{Buf}
use Rattle.split_types.specs.declared.buf.Buf.TheVariants.{Page}
use Rattle.split_types.specs.Hooks.{is_among}
use Rattle.split_types.specs.Parents.{pages_of}
use Rattle.split_types.specs.Sets.{union_of, IsSet}
use Rattle.split_types.proofs.Sets.{union-one, union-flat}
use Rattle.cause_set.specs.Tags.{Tags, Moved, no_use, one_use, plus, same, use_in, held, Covers}
use Rattle.cause_set.proofs.TagLaws.{one_use-same, set_in-keeps}
use Rattle.page_cache.specs.Held.{Held}
use Rattle.page_cache.specs.Cached.{Cached, is_page, page_of, is_ready, is_unsettled, tag_in, tags_in, held_in, unsettled_in, causes_of, IsDataPage}
use Rattle.page_cache.specs.Steps.{IsPlaced}
use Rattle.page_cache.specs.Changes.{ChangesEach, KeepsTouches, IsReady, taken, taken_among, one_if, bytes_in}
use Rattle.page_cache.proofs.SlotLaws.{slot-changes, slot-keeps}
use Rattle.page_cache.proofs.StoreLaws.{gone-moved, gone-others, held-then, held-covers}
use Rattle.page_cache.proofs.CallLaws.{tag-at, tag-covered, other-causes}
use Rattle.page_cache.proofs.RunLaws.{among-none, among-here, among-next, among-more, page-or-not}

-- ---- a page that is taken

taken-some : (x : Option Held) → is_some (option_map taken x) ≡ is_some x
taken-some None = refl
taken-some (Some p) = refl

taken-own : (b : Buf) (x : Option Held) → is_page b x ≡ is_some x
    → is_page b (option_map taken x) ≡ is_some (option_map taken x)
taken-own b None own = refl
taken-own b (Some p) own = own

taken-clean : (x : Option Held) → tag_in (option_map taken x) ≡ None
taken-clean None = refl
taken-clean (Some p) = refl

taken-busy : (x : Option Held) → IsSome x → is_unsettled (option_map taken x) ≡ true
taken-busy None h = absurd (cc)
taken-busy (Some p) h = refl

pub ready-some : (x : Option Held) → is_ready x ≡ true → IsSome x
ready-some None h = absurd (cc)
ready-some (Some p) h = refl

ready-unsettled : (x : Option Held) → is_ready x ≡ true → is_unsettled x ≡ true
ready-unsettled None h = absurd (cc)
ready-unsettled (Some p) h = dirty-unsettled (is_some p.tag) p.state.busy h
  where
    dirty-unsettled : (dirty busy : Bool) → (dirty && not busy) ≡ true → (dirty || busy) ≡ true
    dirty-unsettled true busy h = refl
    dirty-unsettled false busy h = absurd (cc)

pub ready-tagged : (x : Option Held) → is_ready x ≡ true → IsSome (tag_in x)
ready-tagged None h = absurd (cc)
ready-tagged (Some p) h = dirty-only (is_some p.tag) (not p.state.busy) h
  where
    dirty-only : (dirty other : Bool) → (dirty && other) ≡ true → dirty ≡ true
    dirty-only true other h = refl
    dirty-only false other h = absurd (cc)

among-as : (s : Serial) (g n : ℕ) (k : Buf) (x : Option Held) → is_among s g n k ≡ true
    → option_map (taken_among s g n k) x ≡ option_map taken x
among-as s g n k None e = refl
among-as s g n k (Some p) e = rw e refl

among-not : (s : Serial) (g n : ℕ) (k : Buf) (x : Option Held) → is_among s g n k ≡ false
    → option_map (taken_among s g n k) x ≡ x
among-not s g n k None e = refl
among-not s g n k (Some p) e = rw e refl

among-same : (s : Serial) (g n m : ℕ) (k : Buf) (x : Option Held) → is_among s g n k ≡ is_among s g m k
    → option_map (taken_among s g n k) x ≡ option_map (taken_among s g m k) x
among-same s g n m k None e = refl
among-same s g n m k (Some p) e = rw e refl

-- ---- one page after another

pub record TakesTo (before after : Tags) (old cur : Cached) (s : Serial) (g n : ℕ) : Type 0 where
  pub pages : (k : Buf) → page_of cur k ≡ option_map (taken_among s g n k) (page_of old k)
  pub causes : (k : Buf) → is_among s g n k ≡ false → causes_of after cur k ≡ causes_of before old k
  pub count : held_in cur ≡ held_in old
  pub unsettled : unsettled_in cur ≡ unsettled_in old
  pub limit : cur.limit ≡ old.limit
  pub spare : cur.spare ≡ old.spare
  pub touches : KeepsTouches old cur
  pub moved : Moved before after (held same (tags_in old)) (held same (tags_in cur))
  pub covers : Covers same (tags_in cur) after

pub takes-start : (tags : Tags) (old : Cached) (s : Serial) (g : ℕ) → Covers same (tags_in old) tags
    → TakesTo tags tags old old s g 0
takes-start tags old s g covers =
    record {
      pages = λ k. sym (among-not s g 0 k (page_of old k) (among-none s g k));
      causes = λ k none. refl;
      count = refl;
      unsettled = refl;
      limit = refl;
      spare = refl;
      touches = λ k was is. refl;
      moved = record { uses = λ n. refl; keeps = λ n some. refl };
      covers = covers;
    }

-- a page that isn't taken yet is as it was
pub takes-still : (before after : Tags) (old cur : Cached) (s : Serial) (g n : ℕ) → TakesTo before after old cur s g n
    → page_of cur (Page s (g + n)) ≡ page_of old (Page s (g + n))
takes-still before after old cur s g n so_far =
    so_far.pages (Page s (g + n)) ∙ among-not s g n (Page s (g + n)) (page_of old (Page s (g + n))) (among-next s g n)

pub takes-more : (before mid after : Tags) (old cur new : Cached) (s : Serial) (g n at : ℕ)
    → TakesTo before mid old cur s g n
    → IsReady old (Page s (g + n)) → IsPlaced cur.places (Page s (g + n)) at
    → new ≡ record cur { places = set cur.places at (option_map taken (get_or cur.places at None)) }
    → Moved mid after (use_in same (tag_in (get_or cur.places at None))) no_use
    → TakesTo before after old new s g (n + 1)
takes-more before mid after old cur new s g n at so_far ready placed e went =
    let b = Page s (g + n) in
    let x = get_or cur.places at None in
    let y = option_map taken x in
    let still = takes-still before mid old cur s g n so_far in
    let own = taken-own b x placed.slot.own in
    let places : new.places ≡ set cur.places at y = ap (λ (c : Cached). c.places) e in
    let change = slot-changes cur new b at x y placed.slot own places (ap (λ (c : Cached). c.limit) e) in
    let ready_x : is_ready x ≡ true = rw (← placed.slot.page, still) ready in
    let inside : at < length (tags_in cur) = rw (length-map cur.places tag_in) placed.slot.within in
    let went_at : Moved mid after (use_in same (get_or (tags_in cur) at None)) no_use =
    rw (tag-at cur.places at) went in
    let tags : tags_in new ≡ set (tags_in cur) at None =
    ap (map tag_in) places ∙ map-set tag_in cur.places at y ∙ ap (set (tags_in cur) at) (taken-clean x) in
    let keeps = slot-keeps cur new b at x y placed.slot own places (ap (λ (c : Cached). c.touches) e) in
    let moved : Moved mid after (held same (tags_in cur)) (held same (tags_in new)) =
    rw tags (gone-moved (tags_in cur) at mid after went_at so_far.covers inside) in
    record {
      pages = λ k.
          page-or-not s (g + n) k
          (λ is.
          let here : is_among s g (n + 1) b ≡ true = among-here s g n in
          let as_x : x ≡ page_of old b = sym placed.slot.page ∙ still in
          rw is (change.page ∙ ap (option_map taken) as_x ∙ sym (among-as s g (n + 1) b (page_of old b) here)))
          (λ apart.
          change.others k apart ∙ so_far.pages k ∙ among-same s g n (n + 1) k (page_of old k)
          (sym (among-more s g n k apart)));
      causes = λ k none.
          page-or-not s (g + n) k
          (λ is. let yes : is_among s g (n + 1) k ≡ true = rw is (among-here s g n) in absurd (cc))
          (λ apart.
          other-causes mid after cur new b k at x y placed.slot own places apart
          (gone-others (tags_in cur) at mid after went_at so_far.covers inside)
          ∙ so_far.causes k (sym (among-more s g n k apart) ∙ none));
      count =
          let was : one_if (is_some (page_of cur b)) ≡ one_if (is_some x) =
          ap (λ p. one_if (is_some p)) placed.slot.page in
          let is : one_if (is_some y) ≡ one_if (is_some x) = ap one_if (taken-some x) in
          omega (arith, change.count, so_far.count, was, is);
      unsettled =
          let was : one_if (is_unsettled (page_of cur b)) ≡ 1 = rw (placed.slot.page, ready-unsettled x ready_x) refl in
          let is : one_if (is_unsettled y) ≡ 1 = rw (taken-busy x (ready-some x ready_x)) refl in
          omega (arith, change.unsettled, so_far.unsettled, was, is);
      limit = change.limit ∙ so_far.limit;
      spare = ap (λ (c : Cached). c.spare) e ∙ so_far.spare;
      touches = λ k was is.
          let between : IsSome (page_of cur k) =
          page-or-not s (g + n) k
          (λ same_page. rw (same_page, placed.slot.page) placed.held)
          (λ apart. rw (change.others k apart) at is)
          in
          keeps k between is ∙ so_far.touches k was between;
      moved = held-then before mid after (tags_in old) (tags_in cur) (tags_in new) so_far.moved moved;
      covers = held-covers mid after (tags_in cur) (tags_in new) so_far.covers moved;
    }

-- ---- their bytes

abbrev pub bytes_of : Cached → Serial → ℕ → ℕ → List ℕ
bytes_of c s g n = flat_map (λ b. bytes_in (page_of c b)) (pages_of s g n)

pub bytes-more : (c : Cached) (s : Serial) (g n : ℕ) → bytes_of c s g (n + 1) ≡ bytes_of c s g n
    ++ bytes_in (page_of c (Page s (g + n)))
bytes-more c s g n =
    let f : Buf → List ℕ = λ b. bytes_in (page_of c b) in
    let one : flat_map f (Page s (g + n) ∷ []) ≡ f (Page s (g + n)) = grind (arith, common_steps) in
    ap (flat_map f) (map-range_with_len_more (Page s) g n (g + n) refl)
    ∙ flat_map-append f (pages_of s g n) (Page s (g + n) ∷ [])
    ∙ ap (λ last. bytes_of c s g n ++ last) one

-- they are those of the places
pub same-bytes : (v w : Cached) (s : Serial) (g n : ℕ) → w.places ≡ v.places → bytes_of w s g n ≡ bytes_of v s g n
same-bytes v w s g n places =
    ap (λ ps. flat_map (λ b. bytes_in (get_or ps (position_or_len (is_page b) ps) None)) (pages_of s g n)) places

-- ---- a tag with the members of theirs

-- a tag of the first pages
pub record WholeTo (before now : Tags) (c : Cached) (s : Serial) (g n whole : ℕ) : Type 0 where
  pub moved : Moved before now no_use (one_use whole)
  pub members : now.members whole ≡ union_of (map (causes_of before c) (pages_of s g n))
  pub spare : before.spare ≤ now.spare + n

-- the tag of a page
pub page-tag : (tags : Tags) (c : Cached) (b : Buf) (t : ℕ) → tag_in (page_of c b) ≡ Some t
    → causes_of tags c b ≡ tags.members t
page-tag tags c b t e = rw e refl

pub tag-live : (tags : Tags) (c : Cached) (b : Buf) (t : ℕ) → Covers same (tags_in c) tags
    → tag_in (page_of c b) ≡ Some t → 1 ≤ tags.uses t
tag-live tags c b t covers e =
    let as_use : Option ℕ → Type 0 = λ x. use_in same x t ≤ tags.uses t in
    let below : use_in same (Some t) t ≤ tags.uses t =
    subst as_use e (tag-covered tags c.places (position_or_len (is_page b) c.places) covers t) in
    let one : use_in same (Some t) t ≡ 1 = one_use-same t in
    omega (arith, below, one)

pub whole-start : (before now : Tags) (c : Cached) (s : Serial) (g t whole : ℕ) → tag_in (page_of c (Page s g)) ≡ Some t
    → Moved before now no_use (one_use whole) → now.members whole ≡ before.members t → IsSet (now.members whole)
    → before.spare ≤ now.spare + 1 → WholeTo before now c s g 1 whole
whole-start before now c s g t whole e moved members is_set spare =
    record {
      moved = moved;
      members =
          let first : causes_of before c (Page s g) ≡ now.members whole = page-tag before c (Page s g) t e
          ∙ sym members in
          rw first (sym (union-one (now.members whole) is_set));
      spare = spare;
    }

-- one page more
pub whole-more : (before now after : Tags) (c : Cached) (s : Serial) (g n whole t both : ℕ)
    → WholeTo before now c s g n whole
    → Covers same (tags_in c) before → tag_in (page_of c (Page s (g + n))) ≡ Some t
    → Moved now after (one_use whole) (one_use both)
    → after.members both ≡ union_of (now.members whole ∷ now.members t ∷ []) → now.spare ≤ after.spare + 1
    → WholeTo before after c s g (n + 1) both
whole-more before now after c s g n whole t both so_far covers e m members less =
    let b = Page s (g + n) in
    let live = tag-live before c b t covers e in
    let other : now.members t ≡ causes_of before c b = so_far.moved.keeps t (omega (arith, live))
    ∙ sym (page-tag before c b t e) in
    let lists : map (causes_of before c) (pages_of s g (n + 1)) ≡ map (causes_of before c) (pages_of s g n)
    ++ causes_of before c b ∷ [] =
    ap (map (causes_of before c)) (map-range_with_len_more (Page s) g n (g + n) refl)
    ∙ map_push (causes_of before c) (pages_of s g n) b in
    record {
      moved = record {
        uses = λ k. omega (arith, so_far.moved.uses k, m.uses k);
        keeps = λ k some. m.keeps k (omega (arith, so_far.moved.uses k, some)) ∙ so_far.moved.keeps k some;
      };
      members =
          rw lists
          (members ∙ ap (λ first. union_of (first ∷ now.members t ∷ [])) so_far.members
          ∙ ap (λ last. union_of (union_of (map (causes_of before c) (pages_of s g n)) ∷ last ∷ [])) other
          ∙ union-flat (map (causes_of before c) (pages_of s g n)) (causes_of before c b ∷ []));
      spare = omega (arith, so_far.spare, less);
    }

-- want of memory: the tag so far is released
pub whole-fails : (before now after : Tags) (c : Cached) (s : Serial) (g n whole : ℕ) → WholeTo before now c s g n whole
    → Moved now after (one_use whole) no_use → Moved before after no_use no_use
whole-fails before now after c s g n whole so_far m =
    record {
      uses = λ k. omega (arith, so_far.moved.uses k, m.uses k);
      keeps = λ k some. m.keeps k (omega (arith, so_far.moved.uses k, some)) ∙ so_far.moved.keeps k some;
    }

-- ---- the whole call

-- all is taken
pub takes-all : (before after : Tags) (old new : Cached) (s : Serial) (g n : ℕ) → TakesTo before after old new s g n
    → ChangesEach old new (taken_among s g n)
takes-all before after old new s g n t =
    record { pages = t.pages; count = t.count; unsettled = t.unsettled; limit = t.limit; touches = t.touches }

-- it is what becomes of the cache before the room was made
pub each-as : (first old new : Cached) (f : Buf → Held → Held) → old.places ≡ first.places
    → old.touches ≡ first.touches
    → old.limit ≡ first.limit → ChangesEach old new f → ChangesEach first new f
each-as first old new f places touches limit each =
    record {
      pages = λ k. each.pages k
          ∙ ap (λ ps. option_map (f k) (get_or ps (position_or_len (is_page k) ps) None)) places;
      count = each.count ∙ ap (count_by is_some) places;
      unsettled = each.unsettled ∙ ap (count_by is_unsettled) places;
      limit = each.limit ∙ limit;
      touches = λ k was is.
          let held_so : IsSome (page_of old k) = rw places was in
          each.touches k held_so is
          ∙ ap (λ ps. get_or old.touches (position_or_len (is_page k) ps) 0) places
          ∙ ap (λ ts. get_or ts (position_or_len (is_page k) first.places) 0) touches;
    }

module _ (start before after : Tags) (old new : Cached) (s : Serial) (g n whole : ℕ)
    (came : Moved start before no_use (one_use whole)) (covers : Covers same (tags_in old) start)
    (t : TakesTo before after old new s g n) where
  pub takes-moved : Moved start after (held same (tags_in old)) (plus (held same (tags_in new)) (one_use whole))
  takes-moved =
      record {
        uses = λ m. omega (arith, came.uses m, t.moved.uses m);
        keeps = λ m some. t.moved.keeps m (omega (arith, came.uses m, some)) ∙ came.keeps m (omega (arith, some));
      }

  pub takes-members : after.members whole ≡ before.members whole
  takes-members = t.moved.keeps whole (omega (arith, came.uses whole, one_use-same whole, covers whole))

  pub takes-causes : (k : Buf) → is_among s g n k ≡ false → causes_of after new k ≡ causes_of start old k
  takes-causes k none =
      let at = position_or_len (is_page k) old.places in
      t.causes k none
      ∙ set_in-keeps same start before no_use (one_use whole) (tag_in (get_or old.places at None)) came
      (λ m. omega (arith, tag-covered start old.places at covers m))

-- ---- what the condition gives

module _ (c : Cached) (s : Serial) (g n : ℕ) (ready : (k : ℕ) → k < n → IsReady c (Page s (g + k))) (some : 1 ≤ n) where
  pub ready-first : IsReady c (Page s g)
  ready-first =
      let e : g + 0 ≡ g = omega arith in
      let as_ready : ℕ → Type 0 = λ m. IsReady c (Page s m) in
      subst as_ready e (ready 0 (omega arith))

  pub ready-numbers : ((k : Buf) → IsSome (page_of c k) → IsDataPage k) → g + n ≤ 1008
  ready-numbers numbers =
      let last : g + (n - 1) < 1008 =
      numbers (Page s (g + (n - 1))) (ready-some (page_of c (Page s (g + (n - 1)))) (ready (n - 1) (omega arith))) in
      omega (arith, last)

-- a page that is ready is held, with a tag
pub placed-tagged : (c : Cached) (b : Buf) (at : ℕ) → IsReady c b → IsPlaced c.places b at
    → IsSome (tag_in (get_or c.places at None))
placed-tagged c b at ready placed = rw (← placed.slot.page) (ready-tagged (page_of c b) ready)

pub placed-tag : (c : Cached) (b : Buf) (at t : ℕ) → IsPlaced c.places b at → Some t ≡ tag_in (get_or c.places at None)
    → tag_in (page_of c b) ≡ Some t
placed-tag c b at t placed e = ap tag_in placed.slot.page ∙ sym e

pub not-held : (c : Cached) (b : Buf) → IsReady c b → page_of c b ≡ None → ⊥
not-held c b ready none = let no : is_ready None ≡ true = rw none at ready in cc

pub ready-as : (v w : Cached) (b : Buf) → w.places ≡ v.places → IsReady v b → IsReady w b
ready-as v w b places h = rw places h

-- what an extension that succeeds holds
pub extended : {X E : Type 0} (r : Result X E) (now more old : List ℕ) → now ≡ (if is_ok r then more else old) → IsOk r
    → now ≡ more
extended (Ok x) now more old e h = e
extended (Err x) now more old e h = absurd (cc)
