-- The pages of a file to which free blocks are promised, by their numbers.
use Rattle.std.proofs.Common.{◌≡◌, ℕ, suc, ◌+◌, ◌*◌, ◌<◌, ◌≤◌, ◌==◌, max, List, [], ◌∷◌, filter, count_by, slice_get}
use Rattle.std.proofs.Common.{nat_lt, nat_le, Bool, true, false, not, ◌&&◌, refl, ap, sym, ◌∙◌, subst, arith, inl, inr}
use Rattle.std.proofs.Common.{cond, Some, if◌then◌else◌}
use Rattle.std.proofs.lemmas.Bool.{and_parts, or_cases, or_left, cases_Bool, both_ways, false_from_ne_true, eqb-true}
use Rattle.std.proofs.lemmas.Bool.Decides.{nat_tests}
use Rattle.split_types.specs.declared.ids.Serial.{Serial}
use Rattle.split_types.specs.declared.buf.Buf.{Buf}
use Rattle.split_types.specs.declared.buf.Buf.TheVariants.{Page, Bitmap, Dir, Inode}
use Rattle.split_types.specs.declared.workload.Workload.{Workload}
use Rattle.split_types.specs.declared.event.Event.{Event}
use Rattle.split_types.specs.declared.event.Event.TheVariants.{Put, Add}
use Rattle.split_types.specs.History.{◌▹◌}
use Rattle.split_types.specs.Hooks.{same_buf, covers, is_among}
use Rattle.split_types.specs.Pages.{is_live_page, is_put_since, is_dirty, is_busy}
use Rattle.split_types.specs.PagesInCache.{is_page_of}
use Rattle.split_types.specs.HeldPages.{known_pages}
use Rattle.split_types.specs.FileSizes.{size_of}
use Rattle.split_types.specs.FileMaps.{has_no_block, is_reserved, reserved_pages}
use Rattle.split_types.specs.Accepted.{IsAccepted}
use Rattle.split_types.specs.Legal.{IsLegal}
use Rattle.split_types.proofs.Shared.{put_in_legal, same_buf-is, find_some, filter_there, count_filter, count_yes, count_no}
use Rattle.split_types.proofs.Shared.{known_once, StandsIn, pages_are_known}
use Rattle.split_types.proofs.PromiseCounts.{count_both, count_nothing}

-- ---- a page that was put lies within its file
pub grown : (test : Bool) (size end m : ℕ) → m < size → m < (if test then max size end else size)
grown true size end m below = omega (arith, below)
grown false size end m below = below

pub grown_here : (test : Bool) (size end m : ℕ) → test ≡ true → m < end → m < (if test then max size end else size)
grown_here true size end m is below = omega (arith, below)
grown_here false size end m is below = absurd (cc)

pub put_size : (w : Workload) (h : List Event) (s : Serial) (g : ℕ) → IsAccepted w → IsLegal w h
    → is_put_since h (Page s g) ≡ true → 4096 * g < size_of w h s.0
put_size w [] s g accepted legal put = absurd (cc)
put_size w (h ▹ Put by t k from to fill) s g accepted legal put =
    elim (or_cases (same_buf (Page s g) (Page t k)) (is_put_since h (Page s g)) put) [
      | inl here ↦
          (let is = put_in_legal w h by t k from to fill accepted legal
          in let same = and_parts (s.0 == t.0) (g == k) here
          in let file : s.0 ≡ t.0 = eqb-true s.0 t.0 same.0
          in let page : g ≡ k = eqb-true g k same.1
          in grown_here (t.0 == s.0) (size_of w h s.0) (4096 * k + to) (4096 * g)
          (subst (λ n. (t.0 == n) ≡ true) (sym file) (self t.0)) (omega (arith, page, is.some)))
      | inr old ↦
          grown (t.0 == s.0) (size_of w h s.0) (4096 * k + to) (4096 * g) (put_size w h s g accepted legal.1 old)
    ]
  where
    self : (n : ℕ) → (n == n) ≡ true
    self n = grind (arith, nat_tests)
put_size w (h ▹ Add by r) s g accepted legal put =
    put_size w h s g accepted legal.1 (and_parts (not (covers r (Page s g))) (is_put_since h (Page s g)) put).1
put_size w (h ▹ e) s g accepted legal put = put_size w h s g accepted legal.1 put

-- ---- one page more
one_more : (s : Serial) (n : ℕ) (b : Buf) → ◌≡◌ {A = ℕ} (cond (is_among s 0 (n + 1) b) 1 0)
    (cond (is_among s 0 n b) 1 0 + cond (same_buf b (Page s n)) 1 0)
one_more s n (Page t k) = grind (arith, nat_tests)
one_more s n b = refl

passes : (q : Buf → Bool) (xs : List Buf) (b : Buf) → StandsIn b (filter q xs) → q b ≡ true
passes q xs b stands =
    let found = find_some (same_buf b) (filter q xs) stands
    in let there = filter_there q xs found.place found.element found.there
    in subst (λ x. q x ≡ true) (sym (same_buf-is b found.element found.passes)) there.2

-- a page to which one is promised counts once
counts_one : (w : Workload) (h : List Event) (c : Buf) → is_reserved w h c ≡ true
    → count_by (λ b. same_buf b c) (reserved_pages w h) ≡ 1
counts_one w h c promised =
    count_filter (λ b. same_buf b c) (is_reserved w h) (known_pages h)
    (λ b same. subst (λ x. is_reserved w h x ≡ true) (sym (same_buf-is b c same)) promised)
    ∙ known_once h c
    (pages_are_known.unsettled w h c
    (or_left (is_dirty w h c) (is_busy w h c) (and_parts (is_dirty w h c) (has_no_block w h c) promised).0))

counts_none : (w : Workload) (h : List Event) (c : Buf) → is_reserved w h c ≡ false
    → count_by (λ b. same_buf b c) (reserved_pages w h) ≡ 0
counts_none w h c free =
    count_nothing (λ b. same_buf b c) (reserved_pages w h)
    (λ b stands. false_from_ne_true (same_buf b c) (λ same. both_ways (is_reserved w h c) free
    (subst (λ x. is_reserved w h x ≡ true) (same_buf-is b c same) (passes (is_reserved w h) (known_pages h) b stands))))

-- to so many of the first pages of a file a free block is promised
abbrev pub promised_to : Workload → List Event → Serial → ℕ → ℕ
promised_to w h s n = count_by (is_among s 0 n) (reserved_pages w h)

pub promised_none : (w : Workload) (h : List Event) (s : Serial) → 0 ≡ promised_to w h s 0
promised_none w h s = sym (count_nothing (is_among s 0 0) (reserved_pages w h) (λ b stands. nothing b))
  where
    nothing : (b : Buf) → is_among s 0 0 b ≡ false
    nothing (Page t k) = grind (arith, nat_tests)
    nothing Bitmap = refl
    nothing (Dir k) = refl
    nothing (Inode t) = refl

pub promised_more : (w : Workload) (h : List Event) (s : Serial) (n m : ℕ) → m ≡ promised_to w h s n
    → is_reserved w h (Page s n) ≡ true → m + 1 ≡ promised_to w h s (n + 1)
promised_more w h s n m so_far is =
    omega (
      arith,
      so_far,
      counts_one w h (Page s n) is,
      count_both (is_among s 0 (n + 1)) (is_among s 0 n) (λ b. same_buf b (Page s n)) (reserved_pages w h) (one_more s n),
    )

pub promised_same : (w : Workload) (h : List Event) (s : Serial) (n m : ℕ) → m ≡ promised_to w h s n
    → is_reserved w h (Page s n) ≡ false → m ≡ promised_to w h s (n + 1)
promised_same w h s n m so_far not_is =
    omega (
      arith,
      so_far,
      counts_none w h (Page s n) not_is,
      count_both (is_among s 0 (n + 1)) (is_among s 0 n) (λ b. same_buf b (Page s n)) (reserved_pages w h) (one_more s n),
    )

-- ---- all pages of the file
same_on : {X : Type 0} (p q : X → Bool) (xs : List X) → ((k : ℕ) (x : X) → slice_get xs k ≡ Some x → p x ≡ q x)
    → count_by p xs ≡ count_by q xs
same_on p q [] agree = refl
same_on p q (x ∷ xs) agree =
    let rest = same_on p q xs (λ k y at. agree (suc k) y at)
    in let here = agree 0 x refl
    in elim (cases_Bool (p x)) [
      | inl counted ↦ omega (arith, rest, count_yes p x xs counted, count_yes q x xs (sym here ∙ counted))
      | inr other ↦ omega (arith, rest, count_no p x xs other, count_no q x xs (sym here ∙ other))
    ]

agree : (w : Workload) (h : List Event) (s : Serial) (n : ℕ) → IsAccepted w → IsLegal w h
    → size_of w h s.0 ≤ 4096 * n → (b : Buf) → is_reserved w h b ≡ true → is_among s 0 n b ≡ is_page_of s b
agree w h s n accepted legal enough (Page t k) promised = elim (cases_Bool (s.0 == t.0)) [
  | inr other ↦ ap (λ x. x && nat_le 0 k && nat_lt k (0 + n)) other ∙ sym other
  | inl same ↦
      (let b = Page t k
      in let dirty = (and_parts (is_dirty w h b) (has_no_block w h b) promised).0
      in let put = (and_parts (is_live_page w h b) (is_put_since h b) dirty).1
      in let below : 4096 * k < size_of w h s.0 =
      subst (λ m. 4096 * k < size_of w h m) (sym (eqb-true s.0 t.0 same)) (put_size w h t k accepted legal put)
      in ap (λ x. x && nat_le 0 k && nat_lt k (0 + n)) same ∙ tests k (omega (arith, below, enough)) ∙ sym same)
]
  where
    tests : (k : ℕ) → k < n → (nat_le 0 k && nat_lt k (0 + n)) ≡ true
    tests k below = grind (arith, nat_tests)
agree w h s n accepted legal enough Bitmap promised = refl
agree w h s n accepted legal enough (Dir k) promised = refl
agree w h s n accepted legal enough (Inode t) promised = refl

pub promised_all : (w : Workload) (h : List Event) (s : Serial) (n m : ℕ) → IsAccepted w → IsLegal w h
    → size_of w h s.0 ≤ 4096 * n → m ≡ promised_to w h s n → m ≡ count_by (is_page_of s) (reserved_pages w h)
promised_all w h s n m accepted legal enough so_far =
    so_far
    ∙ same_on (is_among s 0 n) (is_page_of s) (reserved_pages w h)
    (λ k b at. agree w h s n accepted legal enough b (filter_there (is_reserved w h) (known_pages h) k b at).2)
