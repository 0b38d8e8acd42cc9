-- How many known pages pass a test, where the test changes at some of them.
use Rattle.std.proofs.Common.{◌≡◌, ℕ, ◌+◌, List, [], ◌∷◌, length, filter, count_by, Bool, true, false, ◌||◌, Some, refl, arith, subst, sym, inl, inr, cond, ap, ◌∙◌, if◌then◌else◌}
use Rattle.std.specs.List.{list_any}
use Rattle.std.proofs.lemmas.Bool.{both_ways, cases_Bool, cond-true, cond-false, false_from_ne_true, or_from, or_left, or_parts, or_right}
use Rattle.std.proofs.lemmas.List.Sums.{length-filter, sum_by-cons}
use Rattle.split_types.specs.declared.buf.Buf.{Buf}
use Rattle.split_types.specs.declared.buf.Buf.TheVariants.{Page}
use Rattle.split_types.specs.declared.event.Event.{Event}
use Rattle.split_types.specs.declared.event.Event.TheVariants.{Put, Add}
use Rattle.split_types.specs.History.{◌▹◌}
use Rattle.split_types.specs.Hooks.{same_buf}
use Rattle.split_types.specs.HeldPages.{pages_moved, with_page, with_pages, known_pages}
use Rattle.split_types.proofs.Lists.{count_yes, count_no, counted_here, find_some}
use Rattle.split_types.proofs.Pigeonhole.{count_once}
use Rattle.split_types.proofs.HeldLaws.{same_buf-is, same_buf-self, with_pages-old, pages_are_known}

-- the page stands in the list
abbrev pub StandsIn : Buf → List Buf → Type 0
StandsIn b bufs = list_any (same_buf b) bufs ≡ true

-- ---- a test that changes
-- at no page of the list
none_changed : (p q : Buf → Bool) (c : Buf) (xs : List Buf) → ((b : Buf) → same_buf b c ≡ false → p b ≡ q b)
    → count_by (λ b. same_buf b c) xs ≡ 0 → count_by q xs ≡ count_by p xs
none_changed p q c [] agree none = refl
none_changed p q c (x ∷ xs) agree none = elim (cases_Bool (same_buf x c)) [
  | inl here ↦ absurd (omega (arith, none, count_yes (λ b. same_buf b c) x xs here))
  | inr past ↦
      (let same : ◌≡◌ {A = ℕ} (cond (q x) 1 0) (cond (p x) 1 0) = ap (λ t. cond t 1 0) (sym (agree x past))
      in omega (
        arith,
        same,
        sum_by-cons (λ b. cond (p b) 1 0) x xs,
        sum_by-cons (λ b. cond (q b) 1 0) x xs,
        none_changed p q c xs agree (omega (arith, none, count_no (λ b. same_buf b c) x xs past)),
      ))
]

-- at one page, that stands once in the list
one_changed : (p q : Buf → Bool) (c : Buf) (xs : List Buf) → ((b : Buf) → same_buf b c ≡ false → p b ≡ q b)
    → count_by (λ b. same_buf b c) xs ≡ 1
    → count_by q xs + cond (p c) 1 0 ≡ count_by p xs + cond (q c) 1 0
one_changed p q c [] agree once = absurd (omega (arith, once))
one_changed p q c (x ∷ xs) agree once = elim (cases_Bool (same_buf x c)) [
  | inl here ↦
      (let is : x ≡ c = same_buf-is x c here
      in let old : ◌≡◌ {A = ℕ} (cond (p x) 1 0) (cond (p c) 1 0) = ap (λ b. cond (p b) 1 0) is
      in let new : ◌≡◌ {A = ℕ} (cond (q x) 1 0) (cond (q c) 1 0) = ap (λ b. cond (q b) 1 0) is
      in omega (
        arith,
        old,
        new,
        sum_by-cons (λ b. cond (p b) 1 0) x xs,
        sum_by-cons (λ b. cond (q b) 1 0) x xs,
        none_changed p q c xs agree (omega (arith, once, count_yes (λ b. same_buf b c) x xs here)),
      ))
  | inr past ↦
      (let same : ◌≡◌ {A = ℕ} (cond (q x) 1 0) (cond (p x) 1 0) = ap (λ t. cond t 1 0) (sym (agree x past))
      in omega (
        arith,
        same,
        sum_by-cons (λ b. cond (p b) 1 0) x xs,
        sum_by-cons (λ b. cond (q b) 1 0) x xs,
        one_changed p q c xs agree (omega (arith, once, count_no (λ b. same_buf b c) x xs past)),
      ))
]

-- no page stands twice in the list
abbrev pub AreDistinct : List Buf → Type 0
AreDistinct [] = Unit {0}
AreDistinct (c ∷ cs) = (count_by (λ b. same_buf b c) cs ≡ 0) × AreDistinct cs

-- the second test at one page, and the first one else
abbrev mixed : (Buf → Bool) → (Buf → Bool) → Buf → Buf → Bool
mixed p q c b = cond (same_buf b c) (q b) (p b)

same_counts : (p q : Buf → Bool) (xs : List Buf) → ((b : Buf) → p b ≡ q b) → count_by q xs ≡ count_by p xs
same_counts p q [] agree = refl
same_counts p q (x ∷ xs) agree =
    let same : ◌≡◌ {A = ℕ} (cond (q x) 1 0) (cond (p x) 1 0) = ap (λ t. cond t 1 0) (sym (agree x))
    in omega (
      arith,
      same,
      sum_by-cons (λ b. cond (p b) 1 0) x xs,
      sum_by-cons (λ b. cond (q b) 1 0) x xs,
      same_counts p q xs agree,
    )

-- at some pages, each of which stands once in the list: the counts differ as they do over these pages
pub some_changed : (p q : Buf → Bool) (cs xs : List Buf)
    → ((b : Buf) → list_any (same_buf b) cs ≡ false → p b ≡ q b) → AreDistinct cs
    → ((c : Buf) → StandsIn c cs → count_by (λ b. same_buf b c) xs ≡ 1)
    → count_by q xs + count_by p cs ≡ count_by p xs + count_by q cs
some_changed p q [] xs agree distinct once = omega (arith, same_counts p q xs (λ b. agree b refl))
some_changed p q (c ∷ cs) xs agree distinct once =
    let here : ◌≡◌ {A = ℕ} (cond (mixed p q c c) 1 0) (cond (q c) 1 0) =
    ap (λ t. cond t 1 0) (cond-true (same_buf c c) (q c) (p c) (same_buf-self c))
    in omega (
      arith,
      here,
      sum_by-cons (λ b. cond (p b) 1 0) c cs,
      sum_by-cons (λ b. cond (q b) 1 0) c cs,
      one_changed p (mixed p q c) c xs first (once c (or_left (same_buf c c) (list_any (same_buf c) cs)
          (same_buf-self c))),
      none_changed p (mixed p q c) c cs first distinct.0,
      some_changed (mixed p q c) q cs xs rest distinct.1
          (λ d later. once d (or_right (same_buf d c) (list_any (same_buf d) cs) later)),
    )
  where
    first : (b : Buf) → same_buf b c ≡ false → p b ≡ mixed p q c b
    first b other = sym (cond-false (same_buf b c) (q b) (p b) other)

    rest : (b : Buf) → list_any (same_buf b) cs ≡ false → mixed p q c b ≡ q b
    rest b none = elim (cases_Bool (same_buf b c)) [
      | inl same ↦ cond-true (same_buf b c) (q b) (p b) same
      | inr other ↦
          cond-false (same_buf b c) (q b) (p b) other
          ∙ agree b (or_from (same_buf b c) (list_any (same_buf b) cs) other none)
    ]

-- ---- known pages
-- a page that is known stands once among the known pages
pub known_once : (h : List Event) (c : Buf) → StandsIn c (known_pages h)
    → count_by (λ b. same_buf b c) (known_pages h) ≡ 1
known_once h c stands =
    let found = find_some (same_buf c) (known_pages h) stands
    in let is : c ≡ found.element = same_buf-is c found.element found.passes
    in let here =
    counted_here (λ b. same_buf b c) (known_pages h) found.place found.element found.there
    (subst (λ x. same_buf x c ≡ true) is (same_buf-self c))
    in let most =
    count_once (λ b. same_buf b c) (known_pages h)
    (λ i j x y first second one two. pages_are_known.once h i j c
    (first ∙ ap Some (same_buf-is x c one)) (second ∙ ap Some (same_buf-is y c two)))
    in omega (arith, here, most)

-- more known pages: as many pass, where those that pass were known
count_with_page : (p : Buf → Bool) (b : Buf) (bufs : List Buf) → ((c : Buf) → p c ≡ true → StandsIn c bufs)
    → count_by p (with_page b bufs) ≡ count_by p bufs
count_with_page p b bufs there = elim (cases_Bool (list_any (same_buf b) bufs)) [
  | inl old ↦ ap (count_by p) (cond-true (list_any (same_buf b) bufs) bufs (b ∷ bufs) old)
  | inr new ↦
      ap (count_by p) (cond-false (list_any (same_buf b) bufs) bufs (b ∷ bufs) new)
      ∙ count_no p b bufs
      (false_from_ne_true (p b) (λ passes. both_ways (list_any (same_buf b) bufs) new (there b passes)))
]

count_with_pages : (p : Buf → Bool) (others bufs : List Buf) → ((c : Buf) → p c ≡ true → StandsIn c bufs)
    → count_by p (with_pages others bufs) ≡ count_by p bufs
count_with_pages p [] bufs there = refl
count_with_pages p (b ∷ others) bufs there =
    count_with_page p b (with_pages others bufs) (λ c passes. with_pages-old others c bufs (there c passes))
    ∙ count_with_pages p others bufs there

known_more : (p : Buf → Bool) (h : List Event) (e : Event) → ((c : Buf) → p c ≡ true → StandsIn c (known_pages h))
    → count_by p (known_pages (h ▹ e)) ≡ count_by p (known_pages h)
known_more p h (Put by s g from to fill) there = count_with_page p (Page s g) (known_pages h) there
known_more p h (Add by r) there = count_with_pages p (pages_moved r) (known_pages h) there
known_more p h e there = refl

-- ---- from one event to the next
-- how many known pages pass q after an event, where p passed before and they differ at these pages
pub lengths_differ : (p q : Buf → Bool) (h : List Event) (e : Event) (cs : List Buf)
    → ((c : Buf) → p c ≡ true → StandsIn c (known_pages h))
    → ((b : Buf) → list_any (same_buf b) cs ≡ false → p b ≡ q b) → AreDistinct cs
    → ((c : Buf) → StandsIn c cs → StandsIn c (known_pages (h ▹ e)))
    → length (filter q (known_pages (h ▹ e))) + count_by p cs ≡ length (filter p (known_pages h)) + count_by q cs
lengths_differ p q h e cs there agree distinct known =
    omega (
      arith,
      length-filter q (known_pages (h ▹ e)),
      length-filter p (known_pages h),
      known_more p h e there,
      some_changed p q cs (known_pages (h ▹ e)) agree distinct (λ c stands. known_once (h ▹ e) c (known c stands)),
    )

-- where they differ at none
pub lengths_same : (p q : Buf → Bool) (h : List Event) (e : Event)
    → ((c : Buf) → p c ≡ true → StandsIn c (known_pages h)) → ((b : Buf) → q b ≡ p b)
    → length (filter q (known_pages (h ▹ e))) ≡ length (filter p (known_pages h))
lengths_same p q h e there agree =
    let all = lengths_differ p q h e [] there (λ b none. sym (agree b)) tt (λ c stands. absurd (cc))
    in omega (arith, all)

-- where q passes one page more, if p didn't pass it
pub lengths_joined : (p q : Buf → Bool) (h : List Event) (e : Event) (c : Buf)
    → ((b : Buf) → p b ≡ true → StandsIn b (known_pages h)) → ((b : Buf) → q b ≡ (same_buf b c || p b))
    → StandsIn c (known_pages (h ▹ e))
    → length (filter q (known_pages (h ▹ e)))
    ≡ (if p c then length (filter p (known_pages h)) else length (filter p (known_pages h)) + 1)
lengths_joined p q h e c there agree known = by_test (p c) refl
  where
    all : length (filter q (known_pages (h ▹ e))) + count_by p (c ∷ [])
        ≡ length (filter p (known_pages h)) + count_by q (c ∷ [])
    all =
        lengths_differ p q h e (c ∷ []) there
        (λ b none. sym (agree b ∙ ap (λ t. t || p b) (or_parts (same_buf b c) false none).0)) (refl, tt)
        (λ b same. subst (λ x. StandsIn x (known_pages (h ▹ e)))
        (sym (same_buf-is b c (only (same_buf b c) same))) known)
      where
        only : (t : Bool) → (t || false) ≡ true → t ≡ true
        only true is = refl
        only false is = absurd (cc)

    one : count_by q (c ∷ []) ≡ 1
    one = count_yes q c [] (agree c ∙ or_left (same_buf c c) (p c) (same_buf-self c))

    by_test : (t : Bool) → p c ≡ t
        → length (filter q (known_pages (h ▹ e)))
        ≡ (if t then length (filter p (known_pages h)) else length (filter p (known_pages h)) + 1)
    by_test true is = let was = count_yes p c [] is in omega (arith, all, one, was)
    by_test false is = let was = count_no p c [] is in omega (arith, all, one, was)
