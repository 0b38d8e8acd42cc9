-- What holds of chains that rise through the places which pass a test.
use Rattle.std.proofs.Common.{◌≡◌, ◌≢◌, ◌⊎◌, ◌==◌, ℕ, ◌+◌, ◌-◌, ◌^◌, ◌<◌, ◌≤◌, Bool, true, false, List, length, get_or, set, Option, Some, None, IfSome, arith, refl, ap, sym, subst, ◌∙◌, inl, inr, get_or-set_other, get_or-set_same, length-set, eq-eqb}
use Rattle.std.proofs.lemmas.Bool.{cases_eq, cases_lt, cases_Bool, eqb-true, false_from_ne_true}
use Rattle.std.proofs.lemmas.List.{get_or_past, length-replicate}
use Rattle.fixed_places.proofs.PlaceLaws.{empty_places, get_or-none}
use Rattle.fixed_places.specs.Chains.{is_chain, is_in, IsFirst, IsLast, IsChain, AreChains, Rises, next_of, heads_linked, nexts_linked}

-- where a chain goes on behind a place; behind none it begins
abbrev pub behind : Option ℕ → ℕ
behind None = 0
behind (Some at) = at + 1

-- the place where a chain goes on isn't past a place
abbrev pub UpTo : Option ℕ → ℕ → Type 0
UpTo None i = ⊥
UpTo (Some at) i = at ≤ i

-- how far there is to go
abbrev pub left_from : ℕ → Option ℕ → ℕ
left_from places None = 0
left_from places (Some at) = places - at

-- the last place of the chain so far, below a place, and what comes behind it
pub record IsReached (test : ℕ → Bool) (below : ℕ) (last next : Option ℕ) : Type 0 where
  pub goes_on : IsFirst test (behind last) next
  pub is_below : IfSome last (λ at. (at < below) × (test at ≡ true))

pub first-upto : (test : ℕ → Bool) (from : ℕ) (next : Option ℕ) (i : ℕ) → IsFirst test from next → from ≤ i
    → test i ≡ true → UpTo next i
first-upto test from None i f h t = let no : test i ≡ false = f i h in cc
first-upto test from (Some at) i f h t =
    elim (cases_lt i at) [
      | inl before ↦ let no : test i ≡ false = f.2 i h before in absurd (cc)
      | inr from_there ↦ from_there
    ]

-- what goes on behind a place, where the sought one isn't the place
pub upto-next : (test : ℕ → Bool) (at : ℕ) (next : Option ℕ) (i : ℕ) → IsFirst test (at + 1) next → test i ≡ true
    → at ≤ i → i ≢ at → UpTo next i
upto-next test at next i f t h apart = first-upto test (at + 1) next i f (omega arith) t

pub reached-start : (test : ℕ → Bool) (below : ℕ) (first : Option ℕ) (nexts : List (Option ℕ))
    → IsChain test first nexts → IsReached test below None first
reached-start test below first nexts chain = record { goes_on = chain.start; is_below = tt }

pub reached-more : (test : ℕ → Bool) (below at : ℕ) (last first : Option ℕ) (nexts : List (Option ℕ))
    → IsChain test first nexts
    → IsReached test below last (Some at) → at < below → IsReached test below (Some at) (get_or nexts at None)
reached-more test below at last first nexts chain r h =
    record { goes_on = chain.next at r.goes_on.1; is_below = (h, r.goes_on.1) }

-- the chain goes on at the place or above, or not at all: then the last one is the last below the place
pub reached-all : (test : ℕ → Bool) (below : ℕ) (last next : Option ℕ) → IsReached test below last next
    → ((i : ℕ) → UpTo next i → below ≤ i) → IsLast test below last
reached-all test below None next r none = λ i h.
    elim (cases_Bool (test i)) [
      | inl passes ↦ absurd (omega (arith, none i (first-upto test 0 next i r.goes_on (omega arith) passes)))
      | inr fails ↦ fails
    ]
reached-all test below (Some at) next r none = (
  r.is_below.0,
  r.is_below.1,
  λ i past h.
      elim (cases_Bool (test i)) [
        | inl passes ↦ absurd (omega (arith, none i (first-upto test (at + 1) next i r.goes_on (omega arith) passes)))
        | inr fails ↦ fails
      ],
)

-- a first place stays the first where the tests agree up to it
abbrev pub AgreeUpTo : (ℕ → Bool) → (ℕ → Bool) → ℕ → Option ℕ → Type 0
AgreeUpTo test other from None = (i : ℕ) → from ≤ i → other i ≡ test i
AgreeUpTo test other from (Some at) = (i : ℕ) → from ≤ i → i ≤ at → other i ≡ test i

pub first-kept : (test other : ℕ → Bool) (from : ℕ) (next : Option ℕ) → IsFirst test from next
    → AgreeUpTo test other from next → IsFirst other from next
first-kept test other from None f same = λ i h. same i h ∙ f i h
first-kept test other from (Some at) f same =
    (f.0, same at f.0 (omega arith) ∙ f.1, λ i h k. same i h (omega arith) ∙ f.2 i h k)

-- from everywhere on
pub agree-all : (test other : ℕ → Bool) (from : ℕ) (next : Option ℕ) → ((i : ℕ) → from ≤ i → other i ≡ test i)
    → AgreeUpTo test other from next
agree-all test other from None same = same
agree-all test other from (Some at) same = λ i h k. same i h

-- between two places none passes
pub first-lower : (test : ℕ → Bool) (from upper : ℕ) (next : Option ℕ) → from ≤ upper
    → ((i : ℕ) → from ≤ i → i < upper → test i ≡ false)
    → IsFirst test upper next → IsFirst test from next
first-lower test from upper None h none f = λ i k.
    elim (cases_lt i upper) [ inl l ↦ none i k l | inr r ↦ f i r ]
first-lower test from upper (Some at) h none f =
    let up = f.0 in
    (omega arith, f.1, λ i k l. elim (cases_lt i upper) [ inl m ↦ none i k m | inr r ↦ f.2 i r l ])

pub first-raise : (test : ℕ → Bool) (from upper : ℕ) (next : Option ℕ) → from ≤ upper
    → ((i : ℕ) → from ≤ i → i < upper → test i ≡ false)
    → IsFirst test from next → IsFirst test upper next
first-raise test from upper None h none f = λ i k. f i (omega arith)
first-raise test from upper (Some at) h none f =
    let no : at < upper → ⊥ = λ l. let fails : test at ≡ false = none at f.0 l in let passes : test at ≡ true = f.1 in
    cc in
    (omega (arith, no), f.1, λ i k l. f.2 i (omega arith) l)

-- a place that passes stands before the one at which the tests differ
pub first-before : (test other : ℕ → Bool) (from at seen : ℕ) (next : Option ℕ) → ((i : ℕ) → i ≢ at → other i ≡ test i)
    → test seen ≡ true → from ≤ seen → seen < at → IsFirst test from next → IsFirst other from next
first-before test other from at seen None same passes h k f = let no : test seen ≡ false = f seen h in cc
first-before test other from at seen (Some first) same passes h k f =
    let upto : first ≤ seen = first-upto test from (Some first) seen f h passes in
    first-kept test other from (Some first) f (λ i l m. same i (omega arith))

pub first-past : (test other : ℕ → Bool) (from at : ℕ) (next : Option ℕ) → ((i : ℕ) → i ≢ at → other i ≡ test i)
    → at < from → IsFirst test from next → IsFirst other from next
first-past test other from at next same h f = first-kept test other from next f
    (agree-all test other from next (λ i l. same i (omega arith)))

-- a chain of whose places none changes
pub chain-kept : (test other : ℕ → Bool) (first : Option ℕ) (nexts nexts' : List (Option ℕ))
    → ((i : ℕ) → other i ≡ test i)
    → ((i : ℕ) → test i ≡ true → get_or nexts' i None ≡ get_or nexts i None) → IsChain test first nexts
    → IsChain other first nexts'
chain-kept test other first nexts nexts' same stays chain =
    record {
      start = first-kept test other 0 first chain.start (agree-all test other 0 first (λ i l. same i));
      next = λ i h.
          let passes : test i ≡ true = sym (same i) ∙ h in
          rw (stays i passes)
          (first-kept test other (i + 1) (get_or nexts i None) (chain.next i passes)
          (agree-all test other (i + 1) (get_or nexts i None) (λ k l. same k)));
    }

-- the first place where a chain goes on elsewhere behind a place
abbrev pub first_linked : Option ℕ → Option ℕ → Option ℕ → Option ℕ
first_linked None first to = to
first_linked (Some at) first to = first

-- none passes between the last place below a place and that place
pub last-none : (test : ℕ → Bool) (below : ℕ) (last : Option ℕ) → IsLast test below last → (i : ℕ) → behind last ≤ i
    → i < below → test i ≡ false
last-none test below None l i h k = l i k
last-none test below (Some at) l i h k = l.2 i (omega arith) k

pub last-behind : (test : ℕ → Bool) (below : ℕ) (last : Option ℕ) → IsLast test below last → behind last ≤ below
last-behind test below None l = omega arith
last-behind test below (Some at) l = let h = l.0 in omega arith

pub next-first : (test : ℕ → Bool) (first : Option ℕ) (nexts : List (Option ℕ)) (below : ℕ) (last : Option ℕ)
    → IsChain test first nexts
    → IsLast test below last → IsFirst test (behind last) (next_of last first nexts)
next-first test first nexts below None chain l = chain.start
next-first test first nexts below (Some at) chain l = chain.next at l.1

-- what a place that doesn't pass would go on to
pub next-past : (test : ℕ → Bool) (first : Option ℕ) (nexts : List (Option ℕ)) (at : ℕ) (last : Option ℕ)
    → IsChain test first nexts
    → IsLast test at last → test at ≡ false → IsFirst test (at + 1) (next_of last first nexts)
next-past test first nexts at last chain l fails =
    first-raise test (behind last) (at + 1) (next_of last first nexts) (let up : behind last ≤ at =
    last-behind test at last l in omega arith)
    (λ i h k. elim (cases_eq i at) [
      | inl here ↦ rw here fails
      | inr apart ↦ last-none test at last l i h (omega arith)
    ])
    (next-first test first nexts at last chain l)

-- a place comes to pass: the chain goes from the last place below it to it, and from it where that one went
pub chain-put : (test other : ℕ → Bool) (first : Option ℕ) (nexts : List (Option ℕ)) (at : ℕ) (last : Option ℕ)
    → IsChain test first nexts → IsLast test at last → test at ≡ false → other at ≡ true
    → ((i : ℕ) → i ≢ at → other i ≡ test i)
    → at < length nexts → IfSome last (λ l. l < length nexts)
    → IsChain other (first_linked last first (Some at))
    (nexts_linked last (set nexts at (next_of last first nexts)) (Some at))
chain-put test other first nexts at last chain l fails passes same within inside =
    let next = next_of last first nexts in
    let to_at : (from : ℕ) → behind last ≤ from → from ≤ at → IsFirst other from (Some at) =
    λ from h k. (
      k,
      passes,
      λ i m n. let apart : i ≢ at = omega arith in same i apart
          ∙ last-none test at last l i (omega arith) n,
    ) in
    let on : IsFirst other (at + 1) next =
    first-past test other (at + 1) at next same (omega arith) (next-past test first nexts at last chain l fails) in
    let past : (i : ℕ) → at < i → other i ≡ true → IsFirst other (i + 1) (get_or nexts i None) =
    λ i h k. let apart : i ≢ at = omega arith in
    first-past test other (i + 1) at (get_or nexts i None) same (omega arith) (chain.next i (sym (same i apart) ∙ k)) in
    put-cases last l inside next to_at on past
  where
    put-cases : (last : Option ℕ) → IsLast test at last → IfSome last (λ l. l < length nexts) → (next : Option ℕ)
        → ((from : ℕ) → behind last ≤ from → from ≤ at → IsFirst other from (Some at)) → IsFirst other (at + 1) next
        → ((i : ℕ) → at < i → other i ≡ true → IsFirst other (i + 1) (get_or nexts i None))
        → IsChain other (first_linked last first (Some at)) (nexts_linked last (set nexts at next) (Some at))
    put-cases None l inside next to_at on past = record {
      start = to_at 0 (omega arith) (omega arith);
      next = λ i h. elim (cases_eq i at) [
        | inl here ↦ rw (here, get_or-set_same nexts at next None within) on
        | inr apart ↦ rw (get_or-set_other nexts at i next None apart)
            (past i (let no : i < at → ⊥ = λ m. let k : test i ≡ false = l i m in
            let e : other i ≡ test i = same i apart in cc in omega (arith, no)) h)
      ];
    }
    put-cases (Some seen) l inside next to_at on past =
        let apart_seen : seen ≢ at = omega (arith, l.0) in
        let inner = set nexts at next in
        record {
          start = first-before test other 0 at seen first same l.1 (omega arith) l.0 chain.start;
          next = λ i h. elim (cases_eq i seen) [
            | inl here ↦ rw (here, get_or-set_same inner seen (Some at) None (rw (length-set nexts at next) inside))
                (to_at (seen + 1) (omega arith) (let h = l.0 in omega arith))
            | inr elsewhere ↦ rw (get_or-set_other inner seen i (Some at) None elsewhere)
                (elim (cases_eq i at) [
                  | inl here ↦ rw (here, get_or-set_same nexts at next None within) on
                  | inr apart ↦ rw (get_or-set_other nexts at i next None apart)
                      (elim (cases_lt i at) [
                        | inl before ↦
                            let t : test i ≡ true = sym (same i apart) ∙ h in
                            let no : seen < i → ⊥ = λ m. let k : test i ≡ false = l.2 i m before in cc in
                            first-before test other (i + 1) at seen (get_or nexts i None) same l.1 (omega (arith, no))
                            l.0 (chain.next i t)
                        | inr after ↦ past i (omega arith) h
                      ])
                ])
          ];
        }

-- a place passes no more: the chain goes from the last place below it where it went from it
pub chain-taken : (test other : ℕ → Bool) (first : Option ℕ) (nexts : List (Option ℕ)) (at : ℕ) (last : Option ℕ)
    → IsChain test first nexts → IsLast test at last → test at ≡ true → other at ≡ false
    → ((i : ℕ) → i ≢ at → other i ≡ test i)
    → IfSome last (λ l. l < length nexts)
    → IsChain other (first_linked last first (get_or nexts at None)) (nexts_linked last nexts (get_or nexts at None))
chain-taken test other first nexts at last chain l passes fails same inside =
    let next = get_or nexts at None in
    let on : IsFirst other (behind last) next =
    first-lower other (behind last) (at + 1) next (let up : behind last ≤ at = last-behind test at last l in
    omega arith)
    (λ i h k. elim (cases_eq i at) [
      | inl here ↦ rw here fails
      | inr apart ↦ same i apart
          ∙ last-none test at last l i h (omega arith)
    ])
    (first-past test other (at + 1) at next same (omega arith) (chain.next at passes)) in
    let kept : (i : ℕ) → other i ≡ true → i ≢ at = λ i h e. let k : other i ≡ false = rw e fails in cc in
    let past : (i : ℕ) → at < i → other i ≡ true → IsFirst other (i + 1) (get_or nexts i None) =
    λ i h k. let apart : i ≢ at = kept i k in
    first-past test other (i + 1) at (get_or nexts i None) same (omega arith) (chain.next i (sym (same i apart) ∙ k)) in
    taken-cases last l inside on kept past
  where
    taken-cases : (last : Option ℕ) → IsLast test at last → IfSome last (λ l. l < length nexts)
        → IsFirst other (behind last) (get_or nexts at None)
        → ((i : ℕ) → other i ≡ true → i ≢ at)
        → ((i : ℕ) → at < i → other i ≡ true → IsFirst other (i + 1) (get_or nexts i None))
        → IsChain other (first_linked last first (get_or nexts at None))
        (nexts_linked last nexts (get_or nexts at None))
    taken-cases None l inside on kept past = record {
      start = on;
      next = λ i h. let apart : i ≢ at = kept i h in
          past i (let no : i < at → ⊥ = λ m. let k : test i ≡ false = l i m in let e : other i ≡ test i = same i apart
          in cc in omega (arith, no)) h;
    }
    taken-cases (Some seen) l inside on kept past = record {
      start = first-before test other 0 at seen first same l.1 (omega arith) l.0 chain.start;
      next = λ i h. elim (cases_eq i seen) [
        | inl here ↦ rw (here, get_or-set_same nexts seen (get_or nexts at None) None inside) on
        | inr elsewhere ↦ rw (get_or-set_other nexts seen i (get_or nexts at None) None elsewhere)
            (let apart : i ≢ at = kept i h in
            elim (cases_lt i at) [
              | inl before ↦
                  let t : test i ≡ true = sym (same i apart) ∙ h in
                  let no : seen < i → ⊥ = λ m. let k : test i ≡ false = l.2 i m before in cc in
                  first-before test other (i + 1) at seen (get_or nexts i None) same l.1 (omega (arith, no)) l.0
                  (chain.next i t)
              | inr after ↦ past i (omega arith) h
            ])
      ];
    }

-- what a place leads to is within the places
pub rising-within : (i n : ℕ) (next : Option ℕ) → IfSome next (λ at. (i < at) × (at < n)) → IfSome next (λ at. at < n)
rising-within i n None h = tt
rising-within i n (Some at) h = h.1

pub rises-within : (nexts : List (Option ℕ)) → Rises nexts → (i : ℕ)
    → IfSome (get_or nexts i None) (λ at. at < length nexts)
rises-within nexts rises i = rising-within i (length nexts) (get_or nexts i None) (rises i)

-- what it leads to is further up
pub first-rises : (test : ℕ → Bool) (at n : ℕ) (next : Option ℕ) → IsFirst test (at + 1) next → IfSome next (λ q. q < n)
    → IfSome next (λ q. (at < q) × (q < n))
first-rises test at n None f h = tt
first-rises test at n (Some q) f h = (let up = f.0 in omega arith, h)

pub last-rises : (test : ℕ → Bool) (below n : ℕ) (last : Option ℕ) → IsLast test below last → below < n
    → IfSome last (λ at. (at < below) × (below < n))
last-rises test below n None l h = tt
last-rises test below n (Some at) l h = (l.0, h)

pub next-within : (first : Option ℕ) (nexts : List (Option ℕ)) (last : Option ℕ)
    → IfSome first (λ at. at < length nexts) → Rises nexts
    → IfSome (next_of last first nexts) (λ at. at < length nexts)
next-within first nexts None h rises = h
next-within first nexts (Some at) h rises = rises-within nexts rises at

pub length-heads_linked : (last : Option ℕ) (heads : List (Option ℕ)) (chain : ℕ) (to : Option ℕ)
    → length (heads_linked last heads chain to) ≡ length heads
length-heads_linked None heads chain to = length-set heads chain to
length-heads_linked (Some at) heads chain to = refl

pub length-nexts_linked : (last : Option ℕ) (nexts : List (Option ℕ)) (to : Option ℕ)
    → length (nexts_linked last nexts to) ≡ length nexts
length-nexts_linked None nexts to = refl
length-nexts_linked (Some at) nexts to = length-set nexts at to

pub heads_linked-same : (last : Option ℕ) (heads : List (Option ℕ)) (chain : ℕ) (to : Option ℕ) → chain < length heads
    → get_or (heads_linked last heads chain to) chain None ≡ first_linked last (get_or heads chain None) to
heads_linked-same None heads chain to h = get_or-set_same heads chain to None h
heads_linked-same (Some at) heads chain to h = refl

pub heads_linked-other : (last : Option ℕ) (heads : List (Option ℕ)) (chain other : ℕ) (to : Option ℕ) → other ≢ chain
    → get_or (heads_linked last heads chain to) other None ≡ get_or heads other None
heads_linked-other None heads chain other to h = get_or-set_other heads chain other to None h
heads_linked-other (Some at) heads chain other to h = refl

pub nexts_linked-other : (last : Option ℕ) (nexts : List (Option ℕ)) (i : ℕ) (to : Option ℕ)
    → IfSome last (λ at. i ≢ at)
    → get_or (nexts_linked last nexts to) i None ≡ get_or nexts i None
nexts_linked-other None nexts i to h = refl
nexts_linked-other (Some at) nexts i to h = get_or-set_other nexts at i to None h

pub starts_linked : (last : Option ℕ) (heads : List (Option ℕ)) (chain : ℕ) (to : Option ℕ) (n : ℕ)
    → IfSome to (λ first. first < n)
    → ((i : ℕ) → IfSome (get_or heads i None) (λ first. first < n)) → (i : ℕ)
    → IfSome (get_or (heads_linked last heads chain to) i None) (λ first. first < n)
starts_linked None heads chain to n t h i =
    elim (cases_eq i chain) [
      | inl here ↦ elim (cases_lt chain (length heads)) [
        | inl inside ↦ rw (here, get_or-set_same heads chain to None inside) t
        | inr past ↦ rw (get_or_past (set heads chain to) i None (rw (length-set heads chain to, here) past)) tt
      ]
      | inr apart ↦ rw (get_or-set_other heads chain i to None apart) (h i)
    ]
starts_linked (Some at) heads chain to n t h i = h i

pub rises-set : (nexts : List (Option ℕ)) (at : ℕ) (next : Option ℕ) → IfSome next (λ q. (at < q) × (q < length nexts))
    → Rises nexts → Rises (set nexts at next)
rises-set nexts at next up rises i =
    rw (length-set nexts at next)
    (elim (cases_eq i at) [
      | inl here ↦ elim (cases_lt at (length nexts)) [
        | inl inside ↦ rw (here, get_or-set_same nexts at next None inside) up
        | inr past ↦ rw (get_or_past (set nexts at next) i None (rw (length-set nexts at next, here) past)) tt
      ]
      | inr apart ↦ rw (get_or-set_other nexts at i next None apart) (rises i)
    ])

pub rises_linked : (last : Option ℕ) (nexts : List (Option ℕ)) (to : Option ℕ)
    → IfSome last (λ at. IfSome to (λ q. (at < q) × (q < length nexts)))
    → Rises nexts → Rises (nexts_linked last nexts to)
rises_linked None nexts to up rises = rises
rises_linked (Some at) nexts to up rises = rises-set nexts at to up rises

-- a place that passes the test of one chain passes that of no other
pub in-once : (chain other : ℕ) (places : List (Option ℕ)) (at : ℕ) → is_in chain places at ≡ true
    → is_in other places at ≡ true → other ≡ chain
in-once chain other places at h k = once (get_or places at None) h k
  where
    once : (place : Option ℕ) → is_chain chain place ≡ true → is_chain other place ≡ true → other ≡ chain
    once None h k = absurd (cc)
    once (Some c) h k = sym (eqb-true c other k) ∙ eqb-true c chain h

-- nor is it the last place of another chain
pub in-not_last : (chain other below : ℕ) (places : List (Option ℕ)) (last : Option ℕ) → other ≢ chain
    → IsLast (is_in chain places) below last → (i : ℕ) → is_in other places i ≡ true → IfSome last (λ at. i ≢ at)
in-not_last chain other below places None apart l i h = tt
in-not_last chain other below places (Some at) apart l i h = λ e. apart (in-once chain other places at l.1 (rw (← e) h))

-- a write changes the tests at its place alone
pub in-other : (chain : ℕ) (places : List (Option ℕ)) (at : ℕ) (place : Option ℕ) (i : ℕ) → i ≢ at
    → is_in chain (set places at place) i ≡ is_in chain places i
in-other chain places at place i apart = rw (get_or-set_other places at i place None apart) refl

pub in-same : (chain : ℕ) (places : List (Option ℕ)) (at : ℕ) (place : Option ℕ) → at < length places
    → is_in chain (set places at place) at ≡ is_chain chain place
in-same chain places at place within = rw (get_or-set_same places at place None within) refl

pub of_other_chain : (chain other : ℕ) → other ≢ chain → is_chain other (Some chain) ≡ false
of_other_chain chain other apart = false_from_ne_true (chain == other) (λ k. apart (sym (eqb-true chain other k)))

-- a chain that is neither what stood in a place nor what stands there now
pub other_chain-kept : (chain other at : ℕ) (place : Option ℕ) (places : List (Option ℕ)) (first : Option ℕ)
    (nexts inner : List (Option ℕ)) (last to : Option ℕ)
    → other ≢ chain → at < length places → is_chain other place ≡ false → is_in other places at ≡ false
    → IsLast (is_in chain places) at last → ((i : ℕ) → i ≢ at → get_or inner i None ≡ get_or nexts i None)
    → IsChain (is_in other places) first nexts → IsChain (is_in other (set places at place)) first
    (nexts_linked last inner to)
other_chain-kept chain other at place places first nexts inner last to apart within comes went l stays c =
    chain-kept (is_in other places) (is_in other (set places at place)) first nexts (nexts_linked last inner to)
    (λ i. elim (cases_eq i at) [
      | inl here ↦ rw here (in-same other places at place within ∙ comes ∙ sym went)
      | inr elsewhere ↦ in-other other places at place i elsewhere
    ])
    (λ i h.
    let elsewhere : i ≢ at = λ e. let no : is_in other places i ≡ false = rw e went in cc in
    nexts_linked-other last inner i to (in-not_last chain other at places last apart l i h) ∙ stays i elsewhere)
    c

pub known-set : (places : List (Option ℕ)) (at : ℕ) (place : Option ℕ) (n : ℕ) → IfSome place (λ c. c < n)
    → ((i : ℕ) → IfSome (get_or places i None) (λ c. c < n)) → (i : ℕ)
    → IfSome (get_or (set places at place) i None) (λ c. c < n)
known-set places at place n t h i = starts_linked None places at place n t h i

pub chains-new : (count places : ℕ) → count ≤ 2 ^ 32 → places ≤ 2 ^ 32
    → AreChains (empty_places ℕ count) (empty_places ℕ places) (empty_places ℕ places)
chains-new count places few_chains few =
    let len : length (empty_places ℕ places) ≡ places = length-replicate places None in
    let heads_len : length (empty_places ℕ count) ≡ count = length-replicate count None in
    record {
      few = rw len few;
      few_chains = rw heads_len few_chains;
      nexts_len = refl;
      starts = λ i. rw (get_or-none {X = ℕ} count i) tt;
      rises = λ i. rw (get_or-none {X = ℕ} places i) tt;
      known = λ i. rw (get_or-none {X = ℕ} places i) tt;
      chains = λ chain h. record {
        start = rw (get_or-none {X = ℕ} count chain) (λ i k. rw (get_or-none {X = ℕ} places i) refl);
        next = λ i h. let no : is_in chain (empty_places ℕ places) i ≡ false = rw (get_or-none {X = ℕ} places i) refl in
            absurd (cc);
      };
    }

-- a chain is put into an empty place
pub chains-put : (heads nexts places : List (Option ℕ)) (at chain : ℕ) (last : Option ℕ)
    → AreChains heads nexts places → at < length places → get_or places at None ≡ None → chain < length heads
    → IsLast (is_in chain places) at last → IfSome last (λ l. l < length nexts)
    → AreChains (heads_linked last heads chain (Some at))
    (nexts_linked last (set nexts at (next_of last (get_or heads chain None) nexts)) (Some at))
    (set places at (Some chain))
chains-put heads nexts places at chain last t within empty inside l seen =
    let next = next_of last (get_or heads chain None) nexts in
    let inner = set nexts at next in
    let place : Option ℕ = Some chain in
    let n = length places in
    let len : length (set places at place) ≡ n = length-set places at place in
    let heads_len : length (heads_linked last heads chain (Some at)) ≡ length heads =
    length-heads_linked last heads chain (Some at) in
    let inner_len : length inner ≡ length nexts = length-set nexts at next in
    let test : ℕ → Bool = is_in chain places in
    let fails : test at ≡ false = rw empty refl in
    let c : IsChain test (get_or heads chain None) nexts = t.chains chain inside in
    let at_in : at < length nexts = rw t.nexts_len within in
    let start_in : IfSome (get_or heads chain None) (λ q. q < length nexts) = rw t.nexts_len (t.starts chain) in
    let next_in : IfSome next (λ q. q < length nexts) =
    next-within (get_or heads chain None) nexts last start_in t.rises in
    let up : Rises inner = rises-set nexts at next
    (first-rises test at (length nexts) next (next-past test (get_or heads chain None) nexts at last c l fails) next_in)
    t.rises in
    let at_inner : at < length inner = rw inner_len at_in in
    record {
      few = rw len t.few;
      few_chains = rw heads_len t.few_chains;
      nexts_len = length-nexts_linked last inner (Some at) ∙ inner_len ∙ t.nexts_len ∙ sym len;
      starts = rw len (starts_linked last heads chain (Some at) n within t.starts);
      rises = rises_linked last inner (Some at) (last-rises test at (length inner) last l at_inner) up;
      known = rw heads_len (known-set places at place (length heads) inside t.known);
      chains = rw heads_len (λ d h. elim (cases_eq d chain) [
        | inl here ↦ rw (here, heads_linked-same last heads chain (Some at) inside)
            (chain-put test (is_in chain (set places at place)) (get_or heads chain None) nexts at last c l fails
            (in-same chain places at place within ∙ eq-eqb chain chain refl) (in-other chain places at place) at_in
            seen)
        | inr apart ↦ rw (heads_linked-other last heads chain d (Some at) apart)
            (other_chain-kept chain d at place places (get_or heads d None) nexts inner last (Some at) apart within
            (of_other_chain chain d apart) (rw empty refl) l
            (λ i elsewhere. get_or-set_other nexts at i next None elsewhere) (t.chains d h))
      ]);
    }

-- a place is taken out of its chain
pub chains-taken : (heads nexts places : List (Option ℕ)) (at chain : ℕ) (last : Option ℕ)
    → AreChains heads nexts places → at < length places → get_or places at None ≡ Some chain → chain < length heads
    → IsLast (is_in chain places) at last → IfSome last (λ l. l < length nexts)
    → AreChains (heads_linked last heads chain (get_or nexts at None)) (nexts_linked last nexts (get_or nexts at None))
    (set places at None)
chains-taken heads nexts places at chain last t within there inside l seen =
    let next = get_or nexts at None in
    let place : Option ℕ = None in
    let n = length places in
    let len : length (set places at place) ≡ n = length-set places at place in
    let heads_len : length (heads_linked last heads chain next) ≡ length heads =
    length-heads_linked last heads chain next in
    let test : ℕ → Bool = is_in chain places in
    let passes : test at ≡ true = rw there (eq-eqb chain chain refl) in
    let c : IsChain test (get_or heads chain None) nexts = t.chains chain inside in
    let next_in : IfSome next (λ q. q < length nexts) = rises-within nexts t.rises at in
    record {
      few = rw len t.few;
      few_chains = rw heads_len t.few_chains;
      nexts_len = length-nexts_linked last nexts next ∙ t.nexts_len ∙ sym len;
      starts = rw len (starts_linked last heads chain next n (rw (← t.nexts_len) next_in) t.starts);
      rises = rises_linked last nexts next (jump last l (t.rises at)) t.rises;
      known = rw heads_len (known-set places at place (length heads) tt t.known);
      chains = rw heads_len (λ d h. elim (cases_eq d chain) [
        | inl here ↦ rw (here, heads_linked-same last heads chain next inside)
            (chain-taken test (is_in chain (set places at place)) (get_or heads chain None) nexts at last c l passes
            (in-same chain places at place within) (in-other chain places at place) seen)
        | inr apart ↦ rw (heads_linked-other last heads chain d next apart)
            (other_chain-kept chain d at place places (get_or heads d None) nexts nexts last next apart within
            refl (rw there (of_other_chain chain d apart)) l (λ i elsewhere. refl) (t.chains d h))
      ]);
    }
  where
    jump : (last : Option ℕ) → IsLast (is_in chain places) at last
        → IfSome (get_or nexts at None) (λ q. (at < q) × (q < length nexts))
        → IfSome last (λ l. IfSome (get_or nexts at None) (λ q. (l < q) × (q < length nexts)))
    jump None l up = tt
    jump (Some seen) l up = over (get_or nexts at None) up
      where
        over : (next : Option ℕ) → IfSome next (λ q. (at < q) × (q < length nexts))
            → IfSome next (λ q. (seen < q) × (q < length nexts))
        over None up = tt
        over (Some q) up = (let h = l.0 in let k = up.0 in omega arith, up.1)

-- the chain in a place is one of the chains
pub known-at : (places : List (Option ℕ)) (at chain n : ℕ) → ((i : ℕ) → IfSome (get_or places i None) (λ c. c < n))
    → get_or places at None ≡ Some chain → chain < n
known-at places at chain n known here = let there = rw here at (known at) in there

-- what passes the test of a chain is that chain
pub is_chain-true : (chain : ℕ) (place : Option ℕ) → is_chain chain place ≡ true → place ≡ Some chain
is_chain-true chain None h = absurd (cc)
is_chain-true chain (Some other) h = ap Some (eqb-true other chain h)
