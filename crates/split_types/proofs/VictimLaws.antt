-- The victim was touched before every other page that may be evicted.
use Rattle.std.proofs.Common.{◌≡◌, ℕ, zero, suc, ◌<◌, ◌≤◌, List, [], ◌∷◌, length, slice_get, filter, nat_le, Bool, true, false, not, ◌&&◌, ◌||◌, Option, Some, None, refl, arith, sym, subst, inl, inr, ◌∙◌, ap, if◌then◌else◌}
use Rattle.std.proofs.lemmas.Bool.{cases_Bool, cases_lt, or_cases, and_parts, both_ways, cond-true, cond-false, le-leb, lt-leb}
use Rattle.std.proofs.lemmas.Option.{same_Some}
use Rattle.split_types.specs.declared.ids.ReqId.{ReqId}
use Rattle.split_types.specs.declared.buf.Buf.{Buf}
use Rattle.split_types.specs.declared.buf.Buf.TheVariants.{Page}
use Rattle.split_types.specs.declared.request.ReqKind.{ReqKind}
use Rattle.split_types.specs.declared.request.ReqKind.TheVariants.{Read}
use Rattle.split_types.specs.declared.request.Request.{Request}
use Rattle.split_types.specs.declared.workload.Workload.{Workload}
use Rattle.split_types.specs.declared.event.Event.{Event}
use Rattle.split_types.specs.declared.event.Event.TheVariants.{Put, Get, Done, Evict}
use Rattle.split_types.specs.History.{◌▹◌}
use Rattle.split_types.specs.Hooks.{same_buf}
use Rattle.split_types.specs.Pages.{is_live_page}
use Rattle.split_types.specs.Reads.{reads, request_numbered, is_read_of, is_loading}
use Rattle.split_types.specs.HeldPages.{is_placed, is_held, is_unsettled, known_pages}
use Rattle.split_types.specs.Victims.{last_touch, is_pinned, is_evictable, touched_earlier, least_touched, victim, IsVictim, VictimsAreOldest}
use Rattle.split_types.proofs.Lists.{find_some, filter_there}
use Rattle.split_types.proofs.KeptLists.{in_filter}
use Rattle.split_types.proofs.HeldLaws.{same_buf-is, same_buf-self, held_known}

-- ---- the page of least last touch
-- the page stands in the list, and none of the list was touched before it
pub record IsLeast (h : List Event) (bufs : List Buf) (b : Buf) : Type 0 where
  pub place : ℕ
  pub there : slice_get bufs place ≡ Some b
  pub least : (i : ℕ) (c : Buf) → slice_get bufs i ≡ Some c → last_touch h b ≤ last_touch h c

some_of_two : (t : Bool) (b c : Buf) → (if t then Some b else Some c) ≡ None → ⊥
some_of_two true b c is = absurd (cc)
some_of_two false b c is = absurd (cc)

earlier_some : (h : List Event) (b : Buf) (old : Option Buf) → touched_earlier h b old ≡ None → ⊥
earlier_some h b None is = absurd (cc)
earlier_some h b (Some c) is = some_of_two (nat_le (last_touch h b) (last_touch h c)) b c is

least_empty : (h : List Event) (bufs : List Buf) → least_touched h bufs ≡ None → bufs ≡ []
least_empty h [] none = refl
least_empty h (b ∷ bufs) none = absurd (earlier_some h b (least_touched h bufs) none)

-- of pages of which none is left but the first
alone : (h : List Event) (b : Buf) (bufs : List Buf) (d : Buf) → bufs ≡ [] → b ≡ d → (i : ℕ) (c : Buf)
    → slice_get (b ∷ bufs) i ≡ Some c → last_touch h d ≤ last_touch h c
alone h b bufs d empty is zero c at = omega (arith, ap (last_touch h) is, ap (last_touch h) (same_Some b c at))
alone h b bufs d empty is (suc i) c at =
    let none : slice_get [] i ≡ Some c = sym (ap (λ l. slice_get l i) empty) ∙ at in absurd (cc)

-- of a page and others, of which the least is known
behind : (h : List Event) (b : Buf) (bufs : List Buf) (d : Buf) → last_touch h d ≤ last_touch h b
    → ((i : ℕ) (c : Buf) → slice_get bufs i ≡ Some c → last_touch h d ≤ last_touch h c)
    → (i : ℕ) (c : Buf) → slice_get (b ∷ bufs) i ≡ Some c → last_touch h d ≤ last_touch h c
behind h b bufs d first rest zero c at = omega (arith, first, ap (last_touch h) (same_Some b c at))
behind h b bufs d first rest (suc i) c at = rest i c at

least_next : (h : List Event) (b : Buf) (bufs : List Buf) (d : Buf) (old : Option Buf)
    → ((c : Buf) → old ≡ Some c → IsLeast h bufs c) → (old ≡ None → bufs ≡ []) → touched_earlier h b old ≡ Some d
    → IsLeast h (b ∷ bufs) d
least_next h b bufs d None rest empty found = record {
  place = 0;
  there = found;
  least = alone h b bufs d (empty refl) (same_Some b d found);
}
least_next h b bufs d (Some c) rest empty found = elim (cases_lt (last_touch h c) (last_touch h b)) [
  | inl later ↦
      (let is : Some c ≡ Some d =
      sym (cond-false (nat_le (last_touch h b) (last_touch h c)) (Some b) (Some c)
      (lt-leb (last_touch h b) (last_touch h c) later)) ∙ found
      in let same : c ≡ d = same_Some c d is
      in let old = rest c refl
      in record {
        place = suc old.place;
        there = old.there ∙ is;
        least = behind h b bufs d (omega (arith, later, ap (last_touch h) same))
            (λ i x at. omega (arith, old.least i x at, ap (last_touch h) same));
      })
  | inr sooner ↦
      (let is : Some b ≡ Some d =
      sym (cond-true (nat_le (last_touch h b) (last_touch h c)) (Some b) (Some c)
      (le-leb (last_touch h b) (last_touch h c) sooner)) ∙ found
      in let same : b ≡ d = same_Some b d is
      in let old = rest c refl
      in record {
        place = 0;
        there = is;
        least = behind h b bufs d (omega (arith, ap (last_touch h) same))
            (λ i x at. omega (arith, old.least i x at, sooner, ap (last_touch h) same));
      })
]

pub least_is : (h : List Event) (bufs : List Buf) (d : Buf) → least_touched h bufs ≡ Some d → IsLeast h bufs d
least_is h [] d is = absurd (cc)
least_is h (b ∷ bufs) d is =
    least_next h b bufs d (least_touched h bufs) (λ c found. least_is h bufs c found)
    (λ none. least_empty h bufs none) is

-- ---- no two pages were touched last at one place
or_rest : (x y : Bool) → (x || y) ≡ true → x ≡ false → y ≡ true
or_rest true y is other = absurd (cc)
or_rest false y is other = is

later : (t : Bool) (old n : ℕ) → (t ≡ false → old < n) → (if t then n else old) < suc n
later true old n was = omega arith
later false old n was = omega (arith, was refl)

pub touched_before : (h : List Event) (b : Buf) → is_placed h b ≡ true → last_touch h b < length h
touched_before [] b is = absurd (cc)
touched_before (h ▹ Put by s g from to fill) b is =
    later (same_buf b (Page s g)) (last_touch h b) (length h)
    (λ other. touched_before h b (or_rest (same_buf b (Page s g)) (is_placed h b) is other))
touched_before (h ▹ Get by s g from to sum) b is =
    later (same_buf b (Page s g)) (last_touch h b) (length h) (λ other. touched_before h b is)
touched_before (h ▹ Done k id true) b is =
    later (is_read_of h id b) (last_touch h b) (length h)
    (λ other. touched_before h b (or_rest (is_read_of h id b) (is_placed h b) is other))
touched_before (h ▹ Evict by s g) b is =
    let old = touched_before h b (and_parts (not (same_buf b (Page s g))) (is_placed h b) is).1 in omega (arith, old)
touched_before (h ▹ e) b is = let old = touched_before h b is in omega (arith, old)

-- of two pages that were touched last at one place, either both are touched at place n or none of them
one_place : (t u : Bool) (m k n : ℕ) (P : Type 0) → (t ≡ false → m < n) → (u ≡ false → k < n)
    → (t ≡ true → u ≡ true → P) → (t ≡ false → u ≡ false → m ≡ k → P)
    → (if t then n else m) ≡ (if u then n else k) → P
one_place true true m k n P first second now old is = now refl refl
one_place true false m k n P first second now old is = absurd (omega (arith, second refl, is))
one_place false true m k n P first second now old is = absurd (omega (arith, first refl, is))
one_place false false m k n P first second now old is = old refl refl is

one_page_of : (id : ReqId) (k : ReqKind) (first n : ℕ) (b c : Buf)
    → reads (record { id = id; kind = k; first = first; n = n }) b ≡ true
    → reads (record { id = id; kind = k; first = first; n = n }) c ≡ true → b ≡ c
one_page_of id (Read p s g) first n b c one two = same_buf-is b (Page s g) one ∙ sym (same_buf-is c (Page s g) two)
one_page_of id k first n b c one two = absurd (cc)

-- a request reads one page
one_page : (r : Option Request) (b c : Buf) → (elim r [ None ↦ false | Some q ↦ reads q b ]) ≡ true
    → (elim r [ None ↦ false | Some q ↦ reads q c ]) ≡ true → b ≡ c
one_page None b c one two = absurd (cc)
one_page (Some r) b c one two = one_page_of r.id r.kind r.first r.n b c one two

pub same_touch : (h : List Event) (b c : Buf) → is_placed h b ≡ true → is_placed h c ≡ true
    → last_touch h b ≡ last_touch h c → b ≡ c
same_touch [] b c one two is = absurd (cc)
same_touch (h ▹ Put by s g from to fill) b c one two is =
    let first = or_rest (same_buf b (Page s g)) (is_placed h b) one
    in let second = or_rest (same_buf c (Page s g)) (is_placed h c) two
    in one_place (same_buf b (Page s g)) (same_buf c (Page s g)) (last_touch h b) (last_touch h c) (length h) (b ≡ c)
    (λ x. touched_before h b (first x)) (λ y. touched_before h c (second y))
    (λ x y. same_buf-is b (Page s g) x ∙ sym (same_buf-is c (Page s g) y))
    (λ x y at. same_touch h b c (first x) (second y) at) is
same_touch (h ▹ Get by s g from to sum) b c one two is =
    one_place (same_buf b (Page s g)) (same_buf c (Page s g)) (last_touch h b) (last_touch h c) (length h) (b ≡ c)
    (λ x. touched_before h b one) (λ y. touched_before h c two)
    (λ x y. same_buf-is b (Page s g) x ∙ sym (same_buf-is c (Page s g) y))
    (λ x y at. same_touch h b c one two at) is
same_touch (h ▹ Done k id true) b c one two is =
    let first = or_rest (is_read_of h id b) (is_placed h b) one
    in let second = or_rest (is_read_of h id c) (is_placed h c) two
    in one_place (is_read_of h id b) (is_read_of h id c) (last_touch h b) (last_touch h c) (length h) (b ≡ c)
    (λ x. touched_before h b (first x)) (λ y. touched_before h c (second y))
    (λ x y. one_page (request_numbered h id) b c x y)
    (λ x y at. same_touch h b c (first x) (second y) at) is
same_touch (h ▹ Evict by s g) b c one two is =
    same_touch h b c (and_parts (not (same_buf b (Page s g))) (is_placed h b) one).1
    (and_parts (not (same_buf c (Page s g))) (is_placed h c) two).1 is
same_touch (h ▹ e) b c one two is = same_touch h b c one two is

-- ---- pages that may be evicted
not_loading : (u l p : Bool) → not (u || l || p) ≡ true → l ≡ true → ⊥
not_loading true l p none is = absurd (cc)
not_loading false true p none is = absurd (cc)
not_loading false false p none is = absurd (cc)

pub evictable_placed : (w : Workload) (h : List Event) (b : Buf) → is_evictable w h b ≡ true → is_placed h b ≡ true
evictable_placed w h b may =
    let parts = and_parts (is_held w h b) (not (is_unsettled w h b || is_loading w h b || is_pinned w h b)) may
    in elim (or_cases (is_loading w h b) (is_live_page w h b && is_placed h b) parts.0) [
      | inl loading ↦
          absurd (not_loading (is_unsettled w h b) (is_loading w h b) (is_pinned w h b) parts.1 loading)
      | inr there ↦ (and_parts (is_live_page w h b) (is_placed h b) there).1
    ]

before : (w : Workload) (h : List Event) (b c : Buf) → is_evictable w h b ≡ true → is_evictable w h c ≡ true
    → same_buf b c ≡ false → last_touch h b ≤ last_touch h c → last_touch h b < last_touch h c
before w h b c first second other least = elim (cases_lt (last_touch h b) (last_touch h c)) [
  | inl sooner ↦ sooner
  | inr later ↦
      (let at : last_touch h b ≡ last_touch h c = omega (arith, least, later)
      in let is : b ≡ c = same_touch h b c (evictable_placed w h b first) (evictable_placed w h c second) at
      in absurd (both_ways (same_buf b c) other (subst (λ x. same_buf b x ≡ true) is (same_buf-self b))))
]

evictable_at : (w : Workload) (h : List Event) (c : Buf) → is_evictable w h c ≡ true
    → (i : ℕ) × (slice_get (filter (is_evictable w h) (known_pages h)) i ≡ Some c)
evictable_at w h c may =
    let held =
    (and_parts (is_held w h c) (not (is_unsettled w h c || is_loading w h c || is_pinned w h c)) may).0
    in let found = find_some (same_buf c) (known_pages h) (held_known w h c held)
    in let same : c ≡ found.element = same_buf-is c found.element found.passes
    in in_filter (is_evictable w h) (known_pages h) found.place c (found.there ∙ ap Some (sym same)) may

victim_is : (w : Workload) (h : List Event) (b : Buf) → victim w h ≡ Some b → IsVictim w h b
victim_is w h b is =
    let first = least_is h (filter (is_evictable w h) (known_pages h)) b is
    in let kept = filter_there (is_evictable w h) (known_pages h) first.place b first.there
    in record {
      evictable = kept.2;
      oldest = λ c may other. (let at = evictable_at w h c may
          in before w h b c kept.2 may other (first.least at.0 c at.1));
    }

none_is : (w : Workload) (h : List Event) (b : Buf) → victim w h ≡ None → is_evictable w h b ≡ false
none_is w h b none = elim (cases_Bool (is_evictable w h b)) [
  | inl may ↦
      (let at = evictable_at w h b may
      in let empty = least_empty h (filter (is_evictable w h) (known_pages h)) none
      in let nothing : slice_get [] at.0 ≡ Some b = sym (ap (λ l. slice_get l at.0) empty) ∙ at.1
      in absurd (cc))
  | inr may_not ↦ may_not
]

pub victims_are_oldest : VictimsAreOldest
victims_are_oldest = record { some = victim_is; none = none_is }
