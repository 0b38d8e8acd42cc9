-- What becomes of the open pairs where a place changes.
use Rattle.std.proofs.Common.{◌≡◌, ℕ, zero, suc, ◌+◌, ◌-◌, ◌^◌, ◌<◌, ◌≤◌, Bool, true, false, cond, if◌then◌else◌, ◌&&◌, List, [], ◌∷◌, ◌++◌, length, get_or, set, map, take, drop, replicate, Option, Some, None, refl, ap, sym, ◌∙◌, inl, inr, arith}
use Rattle.std.specs.Prelude.{All, count_by, IfNone, IsSome}
use Rattle.std.specs.List.{cons_option}
use Rattle.std.proofs.lemmas.Bool.{cases_lt}
use Rattle.std.proofs.lemmas.List.{get_or-replicate, take_at, take_all, set-set, set-get_or, get_or_past, length-set, length-append, length-replicate, length-take-le, length-drop, drop_all, take-append-drop, drop_more, set_at, get_or_at, append_assoc, append-nil, replicate_more}
use Rattle.std.proofs.lemmas.List.Elements.{All-cons, All-nil, All-weaker}
use Rattle.std.proofs.lemmas.List.Sums.{sum_by-cons, sum_by-set, sum_by-append, count_by-le-length}
use Rattle.split_types.specs.declared.ids.ReqId.{ReqId}
use Rattle.split_types.specs.declared.buf.Buf.{Buf}
use Rattle.split_types.specs.Hooks.{same_buf}
use Rattle.fixed_places.specs.Keys.{IsAbsent}
use Rattle.token_ledger.specs.declared.pair.Pair.{Pair}
use Rattle.token_ledger.specs.declared.pairs.Owed.{Owed}
use Rattle.token_ledger.specs.declared.place.Place.{Place}
use Rattle.token_ledger.specs.declared.place.Place.TheVariants.{Free, Open}
use Rattle.token_ledger.specs.Books.{IsOneMore, is_of, marked, same_mark}
use Rattle.token_ledger.specs.Places.{pair_in, pairs_in, is_free, ArePlaces}
use Rattle.token_ledger.proofs.KeyLaws.{of_itself, of_another, same_buf_self}
use Rattle.token_ledger.proofs.ListLaws.{map_fixed, map_replace}

pub place_within : (places : List (Option Place)) (at : ℕ) (p : Place) → get_or places at None ≡ Some p
    → at < length places
place_within places at p is = elim (cases_lt at (length places)) [
  | inl inside ↦ inside
  | inr past ↦ let no = get_or_past places at None past in absurd (cc)
]

cons_option_append : {X : Type 0} (o : Option X) (xs ys : List X) → cons_option o (xs ++ ys) ≡ cons_option o xs ++ ys
cons_option_append None xs ys = refl
cons_option_append (Some x) xs ys = refl

-- the pairs in the places below one, and in those above it
abbrev below : List (Option Place) → List Owed → ℕ → List Pair
below places owed at = pairs_in (take at places) (take at owed)

abbrev above : List (Option Place) → List Owed → ℕ → List Pair
above places owed at = pairs_in (drop (suc at) places) (drop (suc at) owed)

-- the pairs where a place was written: those below it, its own, and those above it
written : (places : List (Option Place)) (owed : List Owed) (at : ℕ) (p : Option Place) (o : Owed) → at < length places
    → at < length owed
    → pairs_in (set places at p) (set owed at o) ≡ below places owed at ++ cons_option (pair_in p o)
    (above places owed at)
written [] owed at p o in_places in_owed = absurd (omega arith)
written (k ∷ ks) [] at p o in_places in_owed = absurd (omega arith)
written (k ∷ ks) (x ∷ xs) zero p o in_places in_owed = refl
written (k ∷ ks) (x ∷ xs) (suc at) p o in_places in_owed =
    ap (cons_option (pair_in k x)) (written ks xs at p o (omega arith) (omega arith))
    ∙ cons_option_append (pair_in k x) (pairs_in (take at ks) (take at xs))
    (cons_option (pair_in p o) (pairs_in (drop (suc at) ks) (drop (suc at) xs)))

-- the same where what is owed stays
taken_over : (places : List (Option Place)) (owed : List Owed) (at : ℕ) (p : Option Place) (d : Owed)
    → at < length places → at < length owed
    → pairs_in (set places at p) owed ≡ below places owed at ++ cons_option (pair_in p (get_or owed at d))
    (above places owed at)
taken_over places owed at p d in_places in_owed =
    ap (pairs_in (set places at p)) (sym (set-get_or owed at d))
    ∙ written places owed at p (get_or owed at d) in_places in_owed

-- and where nothing is written
as_it_is : (places : List (Option Place)) (owed : List Owed) (at : ℕ) (d : Owed) → at < length places → at < length owed
    → pairs_in places owed ≡ below places owed at ++ cons_option (pair_in (get_or places at None) (get_or owed at d))
    (above places owed at)
as_it_is places owed at d in_places in_owed =
    ap (λ ps. pairs_in ps owed) (sym (set-get_or places at None))
    ∙ taken_over places owed at (get_or places at None) d in_places in_owed

abbrev pair_at : Buf → Option ReqId → Owed → Pair
pair_at b mark o = record { buf = b; by = o.by; estimate = o.estimate; mark = mark }

-- a pair comes into a free place
pub pair_opened : (places : List (Option Place)) (owed : List Owed) (at : ℕ) (q : Pair) → length owed ≡ length places
    → get_or places at None ≡ Some Free
    → IsOneMore (pairs_in places owed)
    (pairs_in (set (set places at None) at (Some (Open q.buf q.mark)))
    (set owed at (record { by = q.by; estimate = q.estimate }))) q
pair_opened places owed at q len is =
    let o : Owed = record { by = q.by; estimate = q.estimate } in
    let in_places : at < length places = place_within places at Free is in
    let in_owed : at < length owed = omega arith in
    record {
      before = below places owed at;
      after = above places owed at;
      was = as_it_is places owed at o in_places in_owed
          ∙ ap (λ p. below places owed at ++ cons_option (pair_in p (get_or owed at o)) (above places owed at)) is;
      is = ap (λ ps. pairs_in ps (set owed at o)) (set-set places at None (Some (Open q.buf q.mark)))
          ∙ written places owed at (Some (Open q.buf q.mark)) o in_places in_owed;
    }

-- a pair goes, and its place is free
pub pair_closed : (places : List (Option Place)) (owed : List Owed) (at : ℕ) (b : Buf) (mark : Option ReqId) (o : Owed)
    → length owed ≡ length places
    → get_or places at None ≡ Some (Open b mark) → o ≡ get_or owed at o
    → IsOneMore (pairs_in (set (set places at None) at (Some Free)) owed) (pairs_in places owed)
    (record { buf = b; by = o.by; estimate = o.estimate; mark = mark })
pair_closed places owed at b mark o len is read =
    let in_places : at < length places = place_within places at (Open b mark) is in
    let in_owed : at < length owed = omega arith in
    record {
      before = below places owed at;
      after = above places owed at;
      was = ap (λ ps. pairs_in ps owed) (set-set places at None (Some Free))
          ∙ taken_over places owed at (Some Free) o in_places in_owed;
      is = as_it_is places owed at o in_places in_owed
          ∙ ap (λ p. below places owed at ++ cons_option (pair_in p (get_or owed at o)) (above places owed at)) is
          ∙ ap (λ e. below places owed at ++ pair_at b mark e ∷ above places owed at) (sym read);
    }

-- marking the pairs doesn't tell a pair that has got its mark from what it was
pub pair_marked : (places : List (Option Place)) (owed : List Owed) (at : ℕ) (b : Buf) (id : ReqId)
    → length owed ≡ length places
    → get_or places at None ≡ Some (Open b None)
    → map (marked b id) (pairs_in (set (set places at None) at (Some (Open b (Some id)))) owed) ≡ map (marked b id)
    (pairs_in places owed)
pair_marked places owed at b id len is =
    let d : Owed = record { by = record { 0 = 0 }; estimate = 0 } in
    let in_places : at < length places = place_within places at (Open b None) is in
    let in_owed : at < length owed = omega arith in
    let o : Owed = get_or owed at d in
    let old : Pair = pair_at b None o in
    let new : Pair = pair_at b (Some id) o in
    let old_becomes : marked b id old ≡ new = ap (λ t. if t then new else old) (of_itself old) in
    let new_stays : marked b id new ≡ new = ap (λ t. if t && false then new else new) (same_buf_self b) in
    ap (λ ps. map (marked b id) (pairs_in ps owed)) (set-set places at None (Some (Open b (Some id))))
    ∙ ap (map (marked b id)) (taken_over places owed at (Some (Open b (Some id))) d in_places in_owed)
    ∙ map_replace (marked b id) (below places owed at) (above places owed at) new old (new_stays ∙ sym old_becomes)
    ∙ ap (λ p. map (marked b id) (below places owed at ++ cons_option (pair_in p o) (above places owed at))) (sym is)
    ∙ ap (map (marked b id)) (sym (as_it_is places owed at d in_places in_owed))

-- no pair is of a buffer with this mark where no place has one
pub none_of : (places : List (Option Place)) (owed : List Owed) (b : Buf) (mark : Option ReqId)
    → IsAbsent places (Open b mark)
    → All (λ q. is_of b mark q ≡ false) (pairs_in places owed)
none_of [] owed b mark absent = All-nil (λ q. is_of b mark q ≡ false)
none_of (p ∷ places) [] b mark absent = All-nil (λ q. is_of b mark q ≡ false)
none_of (None ∷ places) (o ∷ owed) b mark absent = none_of places owed b mark (λ i h. absent (suc i) h)
none_of (Some Free ∷ places) (o ∷ owed) b mark absent = none_of places owed b mark (λ i h. absent (suc i) h)
none_of (Some (Open c m) ∷ places) (o ∷ owed) b mark absent =
    All-cons (λ q. is_of b mark q ≡ false) (pair_at c m o) (pairs_in places owed)
    (of_another b mark (pair_at c m o) (λ buf same. absent zero (other buf same)))
    (none_of places owed b mark (λ i h. absent (suc i) h))
  where
    other : c ≡ b → m ≡ mark → let p : Option Place = Some (Open c m) in p ≡ Some (Open b mark)
    other buf same = ap (λ y. Some (Open y m)) buf ∙ ap (λ y. Some (Open b y)) same

-- so each pair is what marking makes of it
pub all_marked : (places : List (Option Place)) (owed : List Owed) (b : Buf) (id : ReqId)
    → IsAbsent places (Open b None)
    → map (marked b id) (pairs_in places owed) ≡ pairs_in places owed
all_marked places owed b id absent =
    map_fixed (marked b id) (pairs_in places owed)
    (All-weaker (λ q. is_of b None q ≡ false) (λ q. marked b id q ≡ q)
    (λ q other. ap (λ t. if t then (record q { mark = Some id }) else q) other) (pairs_in places owed)
    (none_of places owed b None absent))

-- whether a place has a pair of this buffer with this mark
pub has_pair : Buf → Option ReqId → Option Place → Bool
has_pair b mark None = false
has_pair b mark (Some Free) = false
has_pair b mark (Some (Open c m)) = same_buf c b && same_mark m mark

-- one place fewer has an unmarked pair
pub fewer_unmarked : (places : List (Option Place)) (at : ℕ) (b : Buf) (id : ReqId)
    → get_or places at None ≡ Some (Open b None)
    → count_by (has_pair b None) (set (set places at None) at (Some (Open b (Some id)))) < count_by
    (has_pair b None) places
unfolding has_pair
fewer_unmarked places at b id is =
    let within : at < length places = place_within places at (Open b None) is in
    let f : Option Place → ℕ = λ p. cond (has_pair b None p) 1 0 in
    let counts = sum_by-set f places at (Some (Open b (Some id))) None within in
    let was : f (get_or places at None) ≡ 1 = ap f is ∙ ap (λ t. cond (t && true) 1 0) (same_buf_self b) in
    let now : f (Some (Open b (Some id))) ≡ 0 = ap (λ t. cond (t && false) 1 0) (same_buf_self b) in
    let same = ap (count_by (has_pair b None)) (set-set places at None (Some (Open b (Some id)))) in
    omega (arith, counts, was, now, same)

-- ---- which places are free

abbrev free_one : Option Place → ℕ
free_one p = cond (is_free p) 1 0

-- the number of free places where one is written
free_set : (places : List (Option Place)) (at : ℕ) (v : Option Place) → at < length places
    → count_by is_free (set (set places at None) at v) + free_one
    (get_or places at None) ≡ count_by is_free places + free_one v
free_set places at v within =
    ap (λ ps. count_by is_free ps + free_one (get_or places at None)) (set-set places at None v)
    ∙ sum_by-set free_one places at v None within

length_set : (places : List (Option Place)) (at : ℕ) (v : Option Place)
    → length (set (set places at None) at v) ≡ length places
length_set places at v = length-set (set places at None) at v ∙ length-set places at None

pub places_opened : (places : List (Option Place)) (owed : List Owed) (free at : ℕ) (b : Buf) (mark : Option ReqId)
    (o : Owed) → ArePlaces places owed free
    → get_or places at None ≡ Some Free
    → ArePlaces (set (set places at None) at (Some (Open b mark))) (set owed at o) (free - 1)
places_opened places owed free at b mark o are is =
    let len = length_set places at (Some (Open b mark)) in
    let counts = free_set places at (Some (Open b mark)) (place_within places at Free is) in
    let was : free_one (get_or places at None) ≡ 1 = ap free_one is in
    let counted = are.counted in
    record {
      some = rw len are.some;
      few = rw len are.few;
      owed_len = length-set owed at o ∙ are.owed_len ∙ sym len;
      counted = omega (arith, counts, was, counted);
    }

pub places_closed : (places : List (Option Place)) (owed : List Owed) (free at : ℕ) (b : Buf) (mark : Option ReqId)
    → ArePlaces places owed free
    → get_or places at None ≡ Some (Open b mark) → ArePlaces (set (set places at None) at (Some Free)) owed (free + 1)
places_closed places owed free at b mark are is =
    let len = length_set places at (Some Free) in
    let counts = free_set places at (Some Free) (place_within places at (Open b mark) is) in
    let was : free_one (get_or places at None) ≡ 0 = ap free_one is in
    let counted = are.counted in
    record {
      some = rw len are.some;
      few = rw len are.few;
      owed_len = are.owed_len ∙ sym len;
      counted = omega (arith, counts, was, counted);
    }

pub places_marked : (places : List (Option Place)) (owed : List Owed) (free at : ℕ) (b : Buf) (id : ReqId)
    → ArePlaces places owed free
    → get_or places at None ≡ Some (Open b None)
    → ArePlaces (set (set places at None) at (Some (Open b (Some id)))) owed free
places_marked places owed free at b id are is =
    let len = length_set places at (Some (Open b (Some id))) in
    let counts = free_set places at (Some (Open b (Some id))) (place_within places at (Open b None) is) in
    let was : free_one (get_or places at None) ≡ 0 = ap free_one is in
    let counted = are.counted in
    record {
      some = rw len are.some;
      few = rw len are.few;
      owed_len = are.owed_len ∙ sym len;
      counted = omega (arith, counts, was, counted);
    }

-- the count of the free places bounds that of the places
pub free_most : (places : List (Option Place)) (owed : List Owed) (free : ℕ) → ArePlaces places owed free
    → free ≤ length places
free_most places owed free are = let counted = are.counted in omega (arith, count_by-le-length is_free places)

none_free : (places : List (Option Place)) → IsAbsent places Free → count_by is_free places ≡ 0
none_free [] absent = refl
none_free (None ∷ places) absent =
    omega (arith, sum_by-cons free_one None places, none_free places (λ i h. absent (suc i) h))
none_free (Some Free ∷ places) absent = absurd (absent zero refl)
none_free (Some (Open b m) ∷ places) absent =
    omega (arith, sum_by-cons free_one (Some (Open b m)) places, none_free places (λ i h. absent (suc i) h))

-- a free place is found where one is counted
pub some_free : (places : List (Option Place)) (owed : List Owed) (free : ℕ) (found : Option ℕ)
    → ArePlaces places owed free → 0 < free
    → IfNone found (IsAbsent places Free) → IsSome found
some_free places owed free (Some at) are some none = refl
some_free places owed free None are some none =
    let counted = are.counted in
    let no = none_free places none in
    absurd (omega arith)

-- ---- places that are made free

-- the first places as they were, those from one on free up to another, and the others as they were
pub freed : List (Option Place) → ℕ → ℕ → List (Option Place)
freed places from at = (take from places ++ replicate (at - from) (Some Free)) ++ drop at places

length_front : (places : List (Option Place)) (from at : ℕ) → from ≤ at → at ≤ length places
    → length (take from places ++ replicate (at - from) (Some Free)) ≡ at
length_front places from at low high =
    let len : length (take from places) ≡ from = length-take-le from places (omega arith) in
    omega (
      arith,
      length-append (take from places) (replicate (at - from) (Some Free)),
      len,
      length-replicate
          (at - from) (let p : Option Place = Some Free in p),
    )

pub freed_none : (places : List (Option Place)) (from : ℕ) → places ≡ freed places from from
unfolding freed
freed_none places from =
    let none : from - from ≡ 0 = omega arith in
    sym (ap (λ n. (take from places ++ replicate n (Some Free)) ++ drop from places) none
    ∙ ap (λ ps. ps ++ drop from places) (append-nil (take from places)) ∙ take-append-drop from places)

freed_front : (places : List (Option Place)) (from at : ℕ) → at < length places
    → freed places from at ≡ (take from places ++ replicate (at - from) (Some Free)) ++ get_or places at None ∷ drop
    (at + 1) places
unfolding freed
freed_front places from at within =
    ap (λ ps. (take from places ++ replicate (at - from) (Some Free)) ++ ps) (drop_more places at None within)

pub freed_empty : (places : List (Option Place)) (from at : ℕ) → from ≤ at → at < length places
    → get_or (freed places from at) at None ≡ get_or places at None
freed_empty places from at low within =
    ap (λ ps. get_or ps at None) (freed_front places from at within)
    ∙ get_or_at (take from places ++ replicate (at - from) (Some Free)) (get_or places at None)
    (drop (at + 1) places) None at (length_front places from at low (omega arith))

pub freed_more : (places : List (Option Place)) (from at : ℕ) → from ≤ at → at < length places
    → set (freed places from at) at (Some Free) ≡ freed places from (at + 1)
unfolding freed
freed_more places from at low within =
    let front : List (Option Place) = take from places ++ replicate (at - from) (Some Free) in
    let next : (at - from) + 1 ≡ (at + 1) - from = omega arith in
    ap (λ ps. set ps at (Some Free)) (freed_front places from at within)
    ∙ set_at front (get_or places at None) (drop (at + 1) places) (Some Free) at
    (length_front places from at low (omega arith))
    ∙ sym (append_assoc front (Some Free ∷ []) (drop (at + 1) places))
    ∙ ap (λ ps. ps ++ drop (at + 1) places)
    (append_assoc (take from places) (replicate (at - from) (Some Free)) (Some Free ∷ [])
    ∙ ap (λ ps. take from places ++ ps) (replicate_more (at - from) (Some Free))
    ∙ ap (λ n. take from places ++ replicate n (Some Free)) next)

pub length-freed : (places : List (Option Place)) (from at : ℕ) → from ≤ at → at ≤ length places
    → length (freed places from at) ≡ length places
unfolding freed
length-freed places from at low high =
    omega (
      arith,
      length-append (take from places ++ replicate (at - from) (Some Free))
          (drop at places),
      length_front places from at low high,
      length-drop at places,
    )

pub freed_all : (places : List (Option Place)) (from at : ℕ) → at ≡ length places
    → freed places from at ≡ take from places ++ replicate (length places - from) (Some Free)
unfolding freed
freed_all places from at end =
    ap (λ n. freed places from n) end
    ∙ ap (λ ps. (take from places ++ replicate (length places - from) (Some Free)) ++ ps)
    (drop_all (length places) places (omega arith))
    ∙ append-nil (take from places ++ replicate (length places - from) (Some Free))

-- ---- more places

no_pairs : (n : ℕ) (o : Owed) → pairs_in (replicate n (Some Free)) (replicate n o) ≡ []
no_pairs zero o = refl
no_pairs (suc n) o = no_pairs n o

pub pairs_wider : (places : List (Option Place)) (owed : List Owed) (n : ℕ) (o : Owed) → length owed ≡ length places
    → pairs_in (places ++ replicate n (Some Free)) (owed ++ replicate n o) ≡ pairs_in places owed
pairs_wider [] [] n o len = no_pairs n o
pairs_wider [] (x ∷ owed) n o len = absurd (omega arith)
pairs_wider (p ∷ places) [] n o len = absurd (omega arith)
pairs_wider (p ∷ places) (x ∷ owed) n o len = ap (cons_option (pair_in p x)) (pairs_wider places owed n o (omega arith))

all_free : (n : ℕ) → count_by is_free (replicate n (Some Free)) ≡ n
all_free zero = refl
all_free (suc n) = omega (arith, sum_by-cons free_one (Some Free) (replicate n (Some Free)), all_free n)

pub places_wider : (places : List (Option Place)) (owed : List Owed) (free n : ℕ) (o : Owed)
    → ArePlaces places owed free → length places + n ≤ 2 ^ 32
    → ArePlaces (places ++ replicate n (Some Free)) (owed ++ replicate n o) (free + n)
places_wider places owed free n o are few =
    let len : length (places ++ replicate n (Some Free)) ≡ length places + n =
    omega (
      arith,
      length-append places (replicate n (Some Free)),
      length-replicate n
          (let p : Option Place = Some Free in p),
    ) in
    let owed_len : length (owed ++ replicate n o) ≡ length owed + n =
    omega (arith, length-append owed (replicate n o), length-replicate n o) in
    let some = are.some in
    let same = are.owed_len in
    let counted = are.counted in
    record {
      some = rw len (omega arith);
      few = rw len few;
      owed_len = rw (len, owed_len) (omega arith);
      counted = omega (arith, counted, sum_by-append free_one places (replicate n (Some Free)), all_free n);
    }

none_at : (n i : ℕ) → get_or (replicate n None) i None ≡ let p : Option Place = None in p
none_at n i = elim (cases_lt i n) [
  | inl inside ↦ get_or-replicate n i None None inside
  | inr past ↦ get_or_past (replicate n None) i None
      (let len : length (replicate n (let p : Option Place = None in p)) ≡ n = length-replicate n None in omega arith)
]

pub all_empty : (n : ℕ) (places : List (Option Place)) → places ≡ replicate n None → (i : ℕ)
    → get_or places i None ≡ None
all_empty n places is i = ap (λ ps. get_or ps i None) is ∙ none_at n i

-- what there is after places were added and made free
pub wider_places : (places wider now : List (Option Place)) (from n : ℕ) → from ≡ length places
    → wider ≡ places ++ replicate ((from + n) - length places) None
    → now ≡ take from wider ++ replicate (length wider - from) (Some Free) → now ≡ places ++ replicate n (Some Free)
wider_places places wider now from n same more is =
    let extra : List (Option Place) = replicate ((from + n) - length places) None in
    let len : length wider ≡ from + n =
    ap (λ ps. length ps) more ∙ omega (
      arith,
      length-append places extra,
      length-replicate ((from + n) - length places)
          (let p : Option Place = None in p),
    ) in
    let rest : length wider - from ≡ n = omega arith in
    is ∙ ap (λ k. take from wider ++ replicate k (Some Free)) rest
    ∙ ap (λ ps. take from ps ++ replicate n (Some Free)) more
    ∙ ap (λ ps. ps ++ replicate n (Some Free)) (take_at places extra from (sym same))

pub wider_owed : (owed now : List Owed) (from n len : ℕ) (o : Owed) → from ≡ length owed → len ≡ length owed
    → now ≡ take (from + n) owed ++ replicate ((from + n) - len) o → now ≡ owed ++ replicate n o
wider_owed owed now from n len o same vec is =
    let rest : (from + n) - len ≡ n = omega arith in
    is ∙ ap (λ k. take (from + n) owed ++ replicate k o) rest
    ∙ ap (λ os. os ++ replicate n o) (take_all (from + n) owed (omega arith))

pub new_places : (n : ℕ) (places now : List (Option Place)) → places ≡ replicate n None
    → now ≡ take 0 places ++ replicate (length places - 0) (Some Free) → now ≡ replicate n (Some Free)
new_places n places now none is =
    let len : length places - 0 ≡ n = ap (λ ps. length ps - 0) none
    ∙ omega (arith, length-replicate n (let p : Option Place = None in p)) in
    is ∙ ap (λ k. take 0 places ++ replicate k (Some Free)) len

pub places_new : (n : ℕ) (o : Owed) → 0 < n → n ≤ 2 ^ 32 → ArePlaces (replicate n (Some Free)) (replicate n o) n
places_new n o some few =
    let len : length (replicate n (let p : Option Place = Some Free in p)) ≡ n =
    length-replicate n (let p : Option Place = Some Free in p) in
    record {
      some = rw len some;
      few = rw len few;
      owed_len = length-replicate n o ∙ sym len;
      counted = sym (all_free n);
    }

pub pairs_new : (n : ℕ) (o : Owed) → pairs_in (replicate n (Some Free)) (replicate n o) ≡ []
pairs_new n o = no_pairs n o
