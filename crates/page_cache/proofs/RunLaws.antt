-- What holds where the pages of a file are gone through, one after another.
use Rattle.std.proofs.Common.{◌≡◌, ◌≢◌, ℕ, zero, suc, ◌+◌, ◌-◌, ◌==◌, ◌<◌, ◌≤◌, min, Bool, true, false, cond, Option, Some, None, IsSome, is_some, arith, refl, ap, sym, ◌∙◌, inl, inr}
use Rattle.std.specs.Prelude.{count_by, if◌then◌else◌}
use Rattle.std.proofs.lemmas.Bool.{eqb-true, cases_Bool, cases_eq, cases_lt}
use Rattle.std.proofs.lemmas.Bool.Decides.{nat_tests}
use Rattle.std.proofs.lemmas.List.FromFn.{sum_by-map-range_with_len_more}
use Rattle.split_types.specs.declared.ids.Serial.{Serial}
use Rattle.split_types.specs.declared.buf.Buf.{Buf}
use Rattle.split_types.specs.declared.buf.Buf.TheVariants.{Page, Bitmap, Dir, Inode}
use Rattle.split_types.specs.Hooks.{is_among}
use Rattle.split_types.specs.Parents.{pages_of}
use Rattle.cause_set.specs.Tags.{Tags, Moved, same, held, Covers}
use Rattle.page_cache.specs.Held.{Held}
use Rattle.page_cache.specs.Cached.{Cached, page_of, is_unsettled, tags_in, held_in, unsettled_in, causes_of, IsDataPage}
use Rattle.page_cache.specs.Changes.{ChangesOnly, KeepsTouches, Frees, is_of, one_if}
use Rattle.page_cache.proofs.StoreLaws.{held-then, held-covers}

-- ---- the pages of a run

serial-as : (s t : Serial) → s.0 ≡ t.0 → s ≡ t
serial-as s t e = let as_serial : ℕ → Serial = λ n. record { 0 = n } in ap as_serial e

pub among-none : (s : Serial) (g : ℕ) (k : Buf) → is_among s g 0 k ≡ false
among-none s g (Page t h) = grind (arith, nat_tests)
among-none s g Bitmap = refl
among-none s g (Dir h) = refl
among-none s g (Inode t) = refl

pub among-here : (s : Serial) (g n : ℕ) → is_among s g (n + 1) (Page s (g + n)) ≡ true
among-here s g n = grind (arith, nat_tests)

pub among-next : (s : Serial) (g n : ℕ) → is_among s g n (Page s (g + n)) ≡ false
among-next s g n = grind (arith, nat_tests)

pub among-more : (s : Serial) (g n : ℕ) (k : Buf) → k ≢ Page s (g + n) → is_among s g (n + 1) k ≡ is_among s g n k
among-more s g n (Page t h) apart =
    elim (cases_eq s.0 t.0) [
      | inl e ↦
          let other : h ≢ g + n = λ f. apart (ap (λ u. Page u h) (sym (serial-as s t e)) ∙ ap (Page s) f) in
          grind (arith, nat_tests)
      | inr differ ↦ grind (arith, nat_tests)
    ]
among-more s g n Bitmap apart = refl
among-more s g n (Dir h) apart = refl
among-more s g n (Inode t) apart = refl

among-data : (s : Serial) (n : ℕ) (k : Buf) → n < 1008 → is_among s 0 n k ≡ true → IsDataPage k
among-data s n (Page t h) low is = grind (arith, nat_tests)
among-data s n Bitmap low is = absurd (cc)
among-data s n (Dir h) low is = absurd (cc)
among-data s n (Inode t) low is = absurd (cc)

-- either it is the page, or it isn't
pub page-or-not : {P : Type 0} (s : Serial) (g : ℕ) (k : Buf) → (k ≡ Page s g → P) → (k ≢ Page s g → P) → P
page-or-not s g (Page t h) is other =
    elim (cases_eq t.0 s.0) [
      | inl e ↦
          elim (cases_eq h g) [
            | inl f ↦ is (ap (λ u. Page u h) (serial-as t s e) ∙ ap (Page s) f)
            | inr apart ↦ other (λ same. apart (cc))
          ]
      | inr apart ↦ other (λ same. let e : t ≡ s = cc in apart (ap (λ (u : Serial). u.0) e))
    ]
page-or-not s g Bitmap is other = other (λ same. cc)
page-or-not s g (Dir h) is other = other (λ same. cc)
page-or-not s g (Inode t) is other = other (λ same. cc)

-- ---- the pages of a file leave

pub record FreesTo (before after : Tags) (old cur : Cached) (s : Serial) (n : ℕ) : Type 0 where
  pub pages : (k : Buf) → page_of cur k ≡ (if is_among s 0 n k then None else page_of old k)
  pub causes : (k : Buf) → is_among s 0 n k ≡ false → causes_of after cur k ≡ causes_of before old k
  pub count : held_in cur + count_by (λ k. is_some (page_of old k)) (pages_of s 0 n) ≡ held_in old
  pub unsettled : unsettled_in cur + count_by (λ k. is_unsettled (page_of old k)) (pages_of s 0 n) ≡ unsettled_in old
  pub limit : cur.limit ≡ old.limit
  pub spare : cur.spare ≡ old.spare
  pub touches : KeepsTouches old cur
  pub moved : Moved before after (held same (tags_in old)) (held same (tags_in cur))
  pub covers : Covers same (tags_in cur) after
  pub numbered : 0 < n → (k : Buf) → IsSome (page_of old k) → IsDataPage k

pub frees-start : (tags : Tags) (old : Cached) (s : Serial) → Covers same (tags_in old) tags
    → FreesTo tags tags old old s 0
frees-start tags old s covers =
    record {
      pages = λ k. rw (among-none s 0 k) refl;
      causes = λ k none. refl;
      count = omega arith;
      unsettled = omega arith;
      limit = refl;
      spare = refl;
      touches = λ k was is. refl;
      moved = record { uses = λ n. refl; keeps = λ n some. refl };
      covers = covers;
      numbered = λ some. absurd (omega arith);
    }

count-more : (test : Buf → Bool) (s : Serial) (n : ℕ) → count_by test (pages_of s 0 (n + 1))
    ≡ count_by test (pages_of s 0 n) + one_if (test (Page s n))
count-more test s n = sum_by-map-range_with_len_more (λ k. cond (test k) 1 0) (Page s) 0 n n (omega arith)

here-as : (s : Serial) (n : ℕ) → Page s (0 + n) ≡ Page s n
here-as s n = let e : 0 + n ≡ n = omega arith in ap (Page s) e

module _ (before mid after : Tags) (old cur new : Cached) (s : Serial) (n : ℕ) (so_far : FreesTo before mid old cur s n)
  where
    still : page_of cur (Page s n) ≡ page_of old (Page s n)
    still = let e : is_among s 0 n (Page s n) ≡ false = sym (ap (is_among s 0 n) (here-as s n)) ∙ among-next s 0 n in
        so_far.pages (Page s n) ∙ rw e refl

    -- the next page goes, or was none
    pub frees-next : n < 1008 → ((k : Buf) → IsSome (page_of cur k) → IsDataPage k) → ChangesOnly cur new (Page s n) None
        → KeepsTouches cur new → new.spare ≡ cur.spare
        → ((k : Buf) → k ≢ Page s n → causes_of after new k ≡ causes_of mid cur k)
        → Moved mid after (held same (tags_in cur)) (held same (tags_in new)) → FreesTo before after old new s (n + 1)
    frees-next low numbers change touches spare causes moved =
        let b = Page s n in
        let here : is_among s 0 (n + 1) b ≡ true = sym (ap (is_among s 0 (n + 1)) (here-as s n)) ∙ among-here s 0 n in
        let more : (k : Buf) → k ≢ b → is_among s 0 (n + 1) k ≡ is_among s 0 n k =
        λ k apart. among-more s 0 n k (λ e. apart (e ∙ here-as s n))
        in
        record {
          pages = λ k.
              page-or-not s n k
              (λ is. rw (is, here) change.page)
              (λ apart. change.others k apart ∙ so_far.pages k ∙ rw (more k apart) refl);
          causes = λ k none.
              page-or-not s n k
              (λ is. let yes : is_among s 0 (n + 1) k ≡ true = rw is here in absurd (cc))
              (λ apart. causes k apart ∙ so_far.causes k (sym (more k apart) ∙ none));
          count =
              let was : one_if (is_some (page_of cur b)) ≡ one_if (is_some (page_of old b)) =
              ap (λ p. one_if (is_some p)) still in
              let none : one_if (is_some {T = Held} None) ≡ 0 = refl in
              omega (arith, change.count, so_far.count, count-more (λ k. is_some (page_of old k)) s n, was, none);
          unsettled =
              let was : one_if (is_unsettled (page_of cur b)) ≡ one_if (is_unsettled (page_of old b)) =
              ap (λ p. one_if (is_unsettled p)) still in
              let none : one_if (is_unsettled None) ≡ 0 = refl in
              omega (
                arith,
                change.unsettled,
                so_far.unsettled,
                count-more (λ k. is_unsettled (page_of old k)) s n,
                was,
                none,
              );
          limit = change.limit ∙ so_far.limit;
          spare = spare ∙ so_far.spare;
          touches = λ k was is.
              let between : IsSome (page_of cur k) =
              page-or-not s n k
              (λ e. let gone : page_of new k ≡ None = rw e change.page in
              let none : IsSome {T = Held} None = rw gone at is in absurd (cc))
              (λ apart. rw (change.others k apart) at is)
              in
              touches k between is ∙ so_far.touches k was between;
          moved = held-then before mid after (tags_in old) (tags_in cur) (tags_in new) so_far.moved moved;
          covers = held-covers mid after (tags_in cur) (tags_in new) so_far.covers moved;
          numbered = λ some k held_once.
              elim (cases_Bool (is_among s 0 n k)) [
                | inl gone ↦ among-data s n k low gone
                | inr here_yet ↦
                    let is_there : page_of cur k ≡ page_of old k = so_far.pages k ∙ rw here_yet refl in
                    numbers k (rw is_there held_once)
              ];
        }

-- the first pages of a file are among so many of it, and those of another file aren't
among-below : (s t : Serial) (h n : ℕ) → h < n → is_among s 0 n (Page t h) ≡ is_of s (Page t h)
among-below s t h n low = grind (arith, nat_tests)

among-others : (s t : Serial) (h n : ℕ) → is_of s (Page t h) ≡ false → is_among s 0 n (Page t h) ≡ false
among-others s t h n other = grind (arith, nat_tests)

-- all pages of a file that are held are gone through
module _ (old : Cached) (s : Serial) (pages n : ℕ) (end : n ≡ min pages 1008)
    (below : (g : ℕ) → IsSome (page_of old (Page s g)) → g < pages)
    (numbered : 0 < n → (k : Buf) → IsSome (page_of old k) → IsDataPage k) where
  absent : (x : Option Held) → (IsSome x → ⊥) → x ≡ None
  absent None h = refl
  absent (Some p) h = absurd (h refl)

  none-from : (g : ℕ) → n ≤ g → page_of old (Page s g) ≡ None
  none-from g high = absent (page_of old (Page s g)) (λ some. there some)
    where
      there : IsSome (page_of old (Page s g)) → ⊥
      there some =
          let low = below g some in
          let small : g < 1008 = numbered (omega (arith, low, end)) (Page s g) some in
          omega (arith, high, low, small, end)

  as-file : (k : Buf) → (if is_among s 0 n k then None else page_of old k)
      ≡ (if is_of s k then None else page_of old k)
  as-file (Page t h) =
      elim (cases_Bool (t.0 == s.0)) [
        | inl mine ↦
            elim (cases_lt h n) [
              | inl low ↦ let e : is_among s 0 n (Page t h) ≡ is_of s (Page t h) = among-below s t h n low in
                  rw e refl
              | inr high ↦
                  let same : Page t h ≡ Page s h = ap (λ u. Page u h) (serial-as t s (eqb-true t.0 s.0 mine)) in
                  let none : page_of old (Page t h) ≡ None = ap (page_of old) same ∙ none-from h high in
                  rw none (one-none (is_among s 0 n (Page t h)) None ∙ sym (one-none (is_of s (Page t h)) None))
            ]
        | inr other ↦ let e : is_among s 0 n (Page t h) ≡ false = among-others s t h n other in rw (e, other) refl
      ]
    where
      one-none : (test : Bool) (x : Option Held) → (if test then x else x) ≡ x
      one-none true x = refl
      one-none false x = refl
  as-file Bitmap = refl
  as-file (Dir h) = refl
  as-file (Inode t) = refl

  -- what no page has is counted no more often over more pages
  counted-more : (test : Option Held → Bool) → test None ≡ false → (d m : ℕ) → m ≡ n + d
      → count_by (λ k. test (page_of old k)) (pages_of s 0 m) ≡ count_by (λ k. test (page_of old k)) (pages_of s 0 n)
  counted-more test none zero m e = let same : m ≡ n = omega (arith, e) in rw same refl
  counted-more test none (suc d) m e =
      let before = counted-more test none d (n + d) refl in
      let next = count-more (λ k. test (page_of old k)) s (n + d) in
      let gone : test (page_of old (Page s (n + d))) ≡ false = ap test (none-from (n + d) (omega arith)) ∙ none in
      let nothing : one_if (test (page_of old (Page s (n + d)))) ≡ 0 = ap one_if gone in
      let same : m ≡ n + d + 1 = omega (arith, e) in
      rw same (omega (arith, before, next, nothing))

  counted : (test : Option Held → Bool) → test None ≡ false
      → count_by (λ k. test (page_of old k)) (pages_of s 0 1008)
      ≡ count_by (λ k. test (page_of old k)) (pages_of s 0 n)
  counted test none = counted-more test none (1008 - n) 1008 (omega (arith, end))

  not-among : (k : Buf) → is_of s k ≡ false → is_among s 0 n k ≡ false
  not-among (Page t h) other = among-others s t h n other
  not-among Bitmap other = refl
  not-among (Dir h) other = refl
  not-among (Inode t) other = refl

pub frees-all : (before after : Tags) (old new : Cached) (s : Serial) (pages n : ℕ) → n ≡ min pages 1008
    → ((g : ℕ) → IsSome (page_of old (Page s g)) → g < pages) → FreesTo before after old new s n
    → Frees before after old new s
frees-all before after old new s pages n end below done =
    record {
      pages = λ k. done.pages k ∙ as-file old s pages n end below done.numbered k;
      causes = λ k other. done.causes k (not-among old s pages n end below done.numbered k other);
      count = ap (λ m. held_in new + m) (counted old s pages n end below done.numbered is_some refl) ∙ done.count;
      unsettled = ap (λ m. unsettled_in new + m) (counted old s pages n end below done.numbered is_unsettled refl)
          ∙ done.unsettled;
      limit = done.limit;
      touches = done.touches;
    }
