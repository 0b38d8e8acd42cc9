-- The pages of a run, one after another.
use Rattle.std.proofs.Common.{◌≡◌, ◌≢◌, ℕ, zero, suc, ◌+◌, ◌<◌, Bool, true, false, not, ◌&&◌, ◌||◌, cond, Option, Some, None, is_some}
use Rattle.std.proofs.Common.{arith, refl, ap, sym, ◌∙◌, inl, inr, if◌then◌else◌}
use Rattle.std.specs.Prelude.{count_by}
use Rattle.std.specs.Option.{option_map}
use Rattle.std.proofs.lemmas.Bool.{cases_eq}
use Rattle.std.proofs.lemmas.Bool.Decides.{nat_tests}
use Rattle.std.proofs.lemmas.List.Sums.{sum_by-cons}
use Rattle.std.proofs.lemmas.List.FromFn.{map-range_with_len_more}
use Rattle.split_types.specs.declared.ids.Serial.{Serial}
use Rattle.split_types.specs.declared.buf.Buf.{Buf}
use Rattle.split_types.specs.declared.buf.Buf.TheVariants.{Page, Bitmap, Dir, Inode}
use Rattle.split_types.specs.Hooks.{same_buf, is_among}
use Rattle.split_types.specs.Parents.{pages_of}
use Rattle.split_types.proofs.Shared.{count_push}
use Rattle.split_types.proofs.Shared.{same_buf-is}
use Rattle.cause_set.specs.Tags.{same, held, use_in}
use Rattle.page_cache.specs.Held.{Held}
use Rattle.page_cache.specs.Cached.{Cached, page_of, is_busy, is_unsettled, held_in, unsettled_in, tag_in, tags_in}
use Rattle.page_cache.specs.Changes.{ChangesOnly, KeepsTouches, one_if, written}
use Rattle.split_core.specs.Pages.{Releases}
use Rattle.split_core.proofs.PageOrder.{apart_pages}

-- ---- which pages are of a run
same_serial : (s t : Serial) → s.0 ≡ t.0 → s ≡ t
same_serial s t e = ap (λ n. record { 0 = n }) e

pub among_none : (s : Serial) (g : ℕ) (b : Buf) → is_among s g 0 b ≡ false
among_none s g (Page t h) = grind (arith, nat_tests)
among_none s g Bitmap = refl
among_none s g (Dir h) = refl
among_none s g (Inode t) = refl

pub among_here : (s : Serial) (g n : ℕ) → is_among s g (n + 1) (Page s (g + n)) ≡ true
among_here s g n = grind (arith, nat_tests)

pub among_next : (s : Serial) (g n : ℕ) → is_among s g n (Page s (g + n)) ≡ false
among_next s g n = grind (arith, nat_tests)

pub among_more : (s : Serial) (g n : ℕ) (b : Buf) → b ≢ Page s (g + n) → is_among s g (n + 1) b ≡ is_among s g n b
among_more s g n (Page t h) apart =
    elim (cases_eq s.0 t.0) [
      | inl e ↦
          let other : h ≢ g + n = λ f. apart (ap (λ u. Page u h) (sym (same_serial s t e)) ∙ ap (Page s) f) in
          grind (arith, nat_tests)
      | inr differ ↦ grind (arith, nat_tests)
    ]
among_more s g n Bitmap apart = refl
among_more s g n (Dir h) apart = refl
among_more s g n (Inode t) apart = refl

-- as many pages of a run pass one test as another, where each of them passes both or none
count_from : (p q : Buf → Bool) (s : Serial) (g at j n : ℕ) → at ≡ g + j
    → ((k : ℕ) → k < j + n → p (Page s (g + k)) ≡ q (Page s (g + k)))
    → count_by p (pages_of s at n) ≡ count_by q (pages_of s at n)
count_from p q s g at j zero is agree = refl
count_from p q s g at j (suc n) is agree =
    let first : p (Page s at) ≡ q (Page s at) =
    ap (λ i. p (Page s i)) is ∙ agree j (omega arith) ∙ sym (ap (λ i. q (Page s i)) is)
    in let one : ◌≡◌ {A = ℕ} (cond (p (Page s at)) 1 0) (cond (q (Page s at)) 1 0) = ap (λ b. cond b 1 0) first
    in omega (
      arith,
      sum_by-cons (λ b. cond (p b) 1 0) (Page s at) (pages_of s (at + 1) n),
      sum_by-cons (λ b. cond (q b) 1 0) (Page s at) (pages_of s (at + 1) n),
      count_from p q s g (at + 1) (j + 1) n (omega (arith, is)) (λ k low. agree k (omega (arith, low))),
      one,
    )

pub count_pages : (p q : Buf → Bool) (s : Serial) (g n : ℕ)
    → ((k : ℕ) → k < n → p (Page s (g + k)) ≡ q (Page s (g + k)))
    → count_by p (pages_of s g n) ≡ count_by q (pages_of s g n)
count_pages p q s g n agree = count_from p q s g g 0 n (omega arith) (λ k low. agree k (omega (arith, low)))

-- ---- pages that aren't busy any more
-- a page that isn't busy any more: where it was, it is settled, unless it is dirty
settles : (x : Option Held)
    → one_if (is_unsettled (option_map written x)) + cond (is_busy x && not (is_some (tag_in x))) 1 0
    ≡ one_if (is_unsettled x)
settles None = refl
settles (Some p) = by_tests (is_some p.tag) p.state.busy
  where
    by_tests : (t b : Bool) → one_if (t || false) + cond (b && not t) 1 0 ≡ one_if (t || b)
    by_tests true true = refl
    by_tests true false = refl
    by_tests false true = refl
    by_tests false false = refl

-- one that wasn't is as it was
pub written_idle : (x : Option Held) → is_busy x ≡ false → option_map written x ≡ x
written_idle None idle = refl
written_idle (Some p) idle =
    ap (λ b. Some (record p { state = record p.state { busy = b } })) (sym idle)

pub changes_none : (c : Cached) (b : Buf) (now : Option Held) → now ≡ page_of c b → ChangesOnly c c b now
changes_none c b now is = record {
  page = sym is;
  others = λ k apart. refl;
  count = ap (λ (x : Option Held). held_in c + one_if (is_some x)) (sym is);
  unsettled = ap (λ (x : Option Held). unsettled_in c + one_if (is_unsettled x)) (sym is);
  tags = λ n. ap (λ (x : Option Held). held same (tags_in c) n + use_in same (tag_in x) n) (sym is);
  limit = refl;
}

written_held : (x : Option Held) → is_some (option_map written x) ≡ is_some x
written_held None = refl
written_held (Some p) = refl

written_tag : (x : Option Held) → tag_in (option_map written x) ≡ tag_in x
written_tag None = refl
written_tag (Some p) = refl

if_held : (t : Bool) (x : Option Held) → is_some (if t then option_map written x else x) ≡ is_some x
if_held true x = written_held x
if_held false x = refl

pub releases_start : (c : Cached) (s : Serial) (g : ℕ) → Releases c c s g 0
releases_start c s g = record {
  pages = λ b. ap (λ t. if t then option_map written (page_of c b) else page_of c b) (sym (among_none s g b));
  count = refl;
  settled = omega arith;
  tags = λ m. refl;
  limit = refl;
  touches = λ b was is. refl;
}

next_unwritten : (old cur : Cached) (s : Serial) (g n : ℕ) → Releases old cur s g n
    → page_of cur (Page s (g + n)) ≡ page_of old (Page s (g + n))
next_unwritten old cur s g n so_far =
    so_far.pages (Page s (g + n))
    ∙ ap (λ t. if t then option_map written (page_of old (Page s (g + n))) else page_of old (Page s (g + n)))
    (among_next s g n)

pub releases_more : (old cur new : Cached) (s : Serial) (g n : ℕ) → Releases old cur s g n
    → ChangesOnly cur new (Page s (g + n)) (option_map written (page_of cur (Page s (g + n))))
    → KeepsTouches cur new → Releases old new s g (n + 1)
releases_more old cur new s g n so_far page keeps = record {
  pages = λ b. by_test b (same_buf b (Page s (g + n))) refl;
  count = omega (arith, page.count, so_far.count, ap one_if (written_held (page_of cur (Page s (g + n)))));
  settled = omega (arith, page.unsettled, so_far.settled, counted, settled);
  tags = λ m. omega (
    arith,
    page.tags m,
    so_far.tags m,
    ap (λ (t : Option ℕ). use_in same t m) (written_tag (page_of cur (Page s (g + n)))),
  );
  limit = page.limit ∙ so_far.limit;
  touches = λ b was is.
      (let still : is_some (page_of cur b) ≡ true =
      ap is_some (so_far.pages b) ∙ if_held (is_among s g n b) (page_of old b) ∙ was
      in keeps b still is ∙ so_far.touches b was still);
}
  where
    next : page_of cur (Page s (g + n)) ≡ page_of old (Page s (g + n))
    next = next_unwritten old cur s g n so_far

    clean : Buf → Bool
    clean b = is_busy (page_of old b) && not (is_some (tag_in (page_of old b)))

    counted : count_by clean (pages_of s g (n + 1))
        ≡ count_by clean (pages_of s g n) + cond (clean (Page s (g + n))) 1 0
    counted = ap (count_by clean) (map-range_with_len_more (Page s) g n (g + n) refl)
        ∙ count_push clean (pages_of s g n) (Page s (g + n))

    settled : one_if (is_unsettled (option_map written (page_of cur (Page s (g + n)))))
        + cond (clean (Page s (g + n))) 1 0 ≡ one_if (is_unsettled (page_of cur (Page s (g + n))))
    settled = ap (λ (x : Option Held). one_if (is_unsettled (option_map written (page_of cur (Page s (g + n)))))
        + cond (is_busy x && not (is_some (tag_in x))) 1 0) (sym next)
        ∙ settles (page_of cur (Page s (g + n)))

    by_test : (b : Buf) (t : Bool) → same_buf b (Page s (g + n)) ≡ t
        → page_of new b ≡ (if is_among s g (n + 1) b then option_map written (page_of old b) else page_of old b)
    by_test b true is =
        let here : b ≡ Page s (g + n) = same_buf-is b (Page s (g + n)) is
        in ap (page_of new) here ∙ page.page ∙ ap (option_map written) next
        ∙ ap (λ t. if t then option_map written (page_of old (Page s (g + n))) else page_of old (Page s (g + n)))
        (sym (among_here s g n))
        ∙ ap (λ d. if is_among s g (n + 1) d then option_map written (page_of old d) else page_of old d) (sym here)
    by_test b false other =
        let apart = apart_pages b (Page s (g + n)) other
        in page.others b apart ∙ so_far.pages b
        ∙ ap (λ t. if t then option_map written (page_of old b) else page_of old b) (sym (among_more s g n b apart))
