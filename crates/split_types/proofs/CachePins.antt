-- For which process each page stays in the cache, and how that changes with each event.
use Rattle.std.proofs.Common.{◌≡◌, ℕ, ◌==◌, ◌≤◌, List, [], ◌∷◌, ◌++◌, slice_get, filter, find, count_by, Bool, true, false, not, ◌&&◌, ◌||◌, Option, Some, None, refl, arith, subst, sym, inl, inr, ap, ◌∙◌, cond, if◌then◌else◌}
use Rattle.std.specs.List.{list_any}
use Rattle.std.proofs.lemmas.Bool.{and_from, and_parts, both_ways, cases_Bool, cond-true, cond-false, cond_both, eqb-false, ne_eqb, false_from_ne_true, or_parts, or_left, not_from_false}
use Rattle.std.proofs.lemmas.Option.{same_Some, slice_get_within}
use Rattle.split_types.specs.declared.ids.Pid.{Pid}
use Rattle.split_types.specs.declared.ids.Serial.{Serial}
use Rattle.split_types.specs.declared.ids.Slot.{Slot}
use Rattle.split_types.specs.declared.actor.Actor.{Actor}
use Rattle.split_types.specs.declared.buf.Buf.{Buf}
use Rattle.split_types.specs.declared.call.Call.{Call}
use Rattle.split_types.specs.declared.call.Reply.{Reply}
use Rattle.split_types.specs.declared.request.Request.{Request}
use Rattle.split_types.specs.declared.workload.Workload.{Workload}
use Rattle.split_types.specs.declared.event.Event.{Event}
use Rattle.split_types.specs.declared.event.Event.TheVariants.{Drop, Ret, Add, Done}
use Rattle.split_types.specs.History.{◌▹◌, adds}
use Rattle.split_types.specs.Requests.{is_numbered, requests, unfinished}
use Rattle.split_types.specs.Pages.{is_live_page}
use Rattle.split_types.specs.Pieces.{Piece}
use Rattle.split_types.specs.Reads.{reads, reads_for, outstanding, is_loading, is_read_of, other_than, reader_of}
use Rattle.split_types.specs.Victims.{pinned_by}
use Rattle.split_types.specs.PagesInCache.{is_page_of, waits_for, pin_of, PinAfter}
use Rattle.split_types.specs.Proving.Came.{IsAtPiece}
use Rattle.split_types.proofs.KeptLists.{case_true, case_false}
use Rattle.split_types.proofs.PinLaws.{Pins, none_loads}
use Rattle.split_types.proofs.WaitingLaws.{number_here, same_number}
use Rattle.split_types.proofs.Lists.{Found, find_some, filter_one, list_any_here}
use Rattle.split_types.proofs.CacheLaws.{IsKnown, IsFlying}
use Rattle.split_types.proofs.CacheKept.{Kept}

-- ---- what a search finds
-- in a list with one more at its end
find_old : {X : Type 0} (p : X → Bool) (xs : List X) (x : X) → p x ≡ false → find p (xs ++ x ∷ []) ≡ find p xs
find_old p [] x past = cond-false (p x) (Some x) None past
find_old p (y ∷ ys) x past = ap (λ o. cond (p y) (Some y) o) (find_old p ys x past)

find_new : {X : Type 0} (p : X → Bool) (xs : List X) (x : X) → list_any p xs ≡ false → p x ≡ true
    → find p (xs ++ x ∷ []) ≡ Some x
find_new p [] x none here = cond-true (p x) (Some x) None here
find_new p (y ∷ ys) x none here =
    let parts = or_parts (p y) (list_any p ys) none
    in cond-false (p y) (Some y) (find p (ys ++ x ∷ [])) parts.0 ∙ find_new p ys x parts.1 here

-- in a list that is filtered, where the filter keeps what it finds in the whole
find_kept : {X : Type 0} (p q : X → Bool) (xs : List X) (x : X) → find p xs ≡ Some x → q x ≡ true
    → find p (filter q xs) ≡ Some x
find_kept p q [] x found keeps = absurd (cc)
find_kept p q (y ∷ ys) x found keeps = elim (cases_Bool (p y)) [
  | inl here ↦
      (let is : y ≡ x = same_Some y x (sym (cond-true (p y) (Some y) (find p ys) here) ∙ found)
      in let kept : q y ≡ true = subst (λ z. q z ≡ true) (sym is) keeps
      in ap (find p) (cond-true (q y) (y ∷ filter q ys) (filter q ys) kept)
      ∙ cond-true (p y) (Some y) (find p (filter q ys)) here ∙ ap Some is)
  | inr past ↦
      (let rest = find_kept p q ys x (sym (cond-false (p y) (Some y) (find p ys) past) ∙ found) keeps
      in cond_both (q y) (y ∷ filter q ys) (filter q ys) (λ l. find p l ≡ Some x)
      (λ kept. cond-false (p y) (Some y) (find p (filter q ys)) past ∙ rest) (λ out. rest))
]

-- where one passes at most, the one that does is found
one_found : {X : Type 0} (p : X → Bool) (xs : List X) (i : ℕ) (x : X) → slice_get xs i ≡ Some x → p x ≡ true
    → count_by p xs ≤ 1 → find p xs ≡ Some x
one_found p xs i x at passes once =
    let first = find_some p xs (list_any_here p xs i x at passes)
    in let one = (filter_one p xs i x at passes once).0
    in let two = (filter_one p xs first.place first.element first.there first.passes once).0
    in let same : Some first.element ≡ Some x = ap (λ l. slice_get l 0) (sym two ∙ one)
    in first.found ∙ same

-- ---- the two ways in which a page stays
-- a page that is loading, one that isn't, and one whose file isn't there
pub pin_loading : (w : Workload) (h : List Event) (b : Buf) → is_loading w h b ≡ true → pin_of w h b ≡ waits_for h b
pin_loading w h b is =
    cond-true (is_live_page w h b) (if is_loading w h b then waits_for h b else pinned_by h b) None
    (and_parts (is_live_page w h b) (list_any (λ r. reads r b) (outstanding h)) is).0
    ∙ cond-true (is_loading w h b) (waits_for h b) (pinned_by h b) is

pub pin_there : (w : Workload) (h : List Event) (b : Buf) → is_live_page w h b ≡ true → is_loading w h b ≡ false
    → pin_of w h b ≡ pinned_by h b
pin_there w h b live is =
    cond-true (is_live_page w h b) (if is_loading w h b then waits_for h b else pinned_by h b) None live
    ∙ cond-false (is_loading w h b) (waits_for h b) (pinned_by h b) is

pub pin_gone : (w : Workload) (h : List Event) (b : Buf) → is_live_page w h b ≡ false → pin_of w h b ≡ None
pin_gone w h b is =
    cond-false (is_live_page w h b) (if is_loading w h b then waits_for h b else pinned_by h b) None is

-- from whether its file is there, and whether it is loading
pin_made : (w : Workload) (h : List Event) (b : Buf) (live loading : Bool) (result : Option Pid)
    → is_live_page w h b ≡ live → is_loading w h b ≡ loading → (live ≡ false → None ≡ result)
    → (loading ≡ true → waits_for h b ≡ result)
    → (live ≡ true → loading ≡ false → pinned_by h b ≡ result) → pin_of w h b ≡ result
pin_made w h b false loading result live is gone waits pins = pin_gone w h b live ∙ gone refl
pin_made w h b true true result live is gone waits pins = pin_loading w h b is ∙ waits refl
pin_made w h b true false result live is gone waits pins = pin_there w h b live is ∙ pins refl refl

-- the request that reads a page that is loading
pub found_read : (w : Workload) (h : List Event) (b : Buf) → is_loading w h b ≡ true
    → Found (λ r. reads r b) (outstanding h)
found_read w h b is =
    find_some (λ r. reads r b) (outstanding h)
    (and_parts (is_live_page w h b) (list_any (λ r. reads r b) (outstanding h)) is).1

pub waits_is : (h : List Event) (b : Buf) (r : Request) → find (λ x. reads x b) (outstanding h) ≡ Some r
    → waits_for h b ≡ reader_of h r.id
waits_is h b r found = ap (λ o. elim o [ None ↦ None | Some x ↦ reader_of h x.id ]) found

-- an event that touches none of this
pub pin_stays : (w : Workload) (h l : List Event) (b : Buf) → is_live_page w l b ≡ is_live_page w h b
    → is_loading w l b ≡ is_loading w h b → waits_for l b ≡ waits_for h b → pinned_by l b ≡ pinned_by h b
    → pin_of w l b ≡ pin_of w h b
pin_stays w h l b live loading waits pins =
    pin_made w l b (is_live_page w h b) (is_loading w h b) (pin_of w h b) live loading
    (λ is. sym (pin_gone w h b is)) (λ is. waits ∙ sym (pin_loading w h b is))
    (λ there is. pins ∙ sym (pin_there w h b there is))

-- ---- a put, a get, a return
-- a process that isn't q stays
other_stays : (q : Pid) (o : Option Pid) → ((p : Pid) → o ≡ Some p → (q.0 == p.0) ≡ false) → other_than q o ≡ o
other_stays q None other = refl
other_stays q (Some p) other =
    cond-false (p.0 == q.0) None (Some p) (ne_eqb p.0 q.0 (λ (e : p.0 ≡ q.0). eqb-false q.0 p.0 (other p refl) (sym e)))

-- where a piece of process q comes next, no page that is loading waits for q
not_waiting : (w : Workload) (h : List Event) (q : Pid) (c : Call) (s : Serial) (piece : Piece) (b : Buf) → Pins w h
    → IsAtPiece w h q c s piece → is_loading w h b ≡ true → other_than q (waits_for h b) ≡ waits_for h b
not_waiting w h q c s piece b all here is =
    let found = found_read w h b is
    in other_stays q (waits_for h b)
    (λ p at. none_loads w h q c s piece all here found.place found.element p b found.there
    (sym (waits_is h b found.element found.found) ∙ at) found.passes)

-- so its puts and gets free what it pins, and nothing else
pub pin_freed : (w : Workload) (h l : List Event) (q : Pid) (c : Call) (s : Serial) (piece : Piece) (b : Buf) → Pins w h
    → IsAtPiece w h q c s piece → is_live_page w l b ≡ is_live_page w h b → is_loading w l b ≡ is_loading w h b
    → waits_for l b ≡ waits_for h b → pinned_by l b ≡ other_than q (pinned_by h b)
    → pin_of w l b ≡ other_than q (pin_of w h b)
pin_freed w h l q c s piece b all here live loading waits pins =
    pin_made w l b (is_live_page w h b) (is_loading w h b) (other_than q (pin_of w h b)) live loading
    (λ is. sym (ap (other_than q) (pin_gone w h b is)))
    (λ is. waits ∙ sym (not_waiting w h q c s piece b all here is) ∙ sym (ap (other_than q) (pin_loading w h b is)))
    (λ there is. pins ∙ sym (ap (other_than q) (pin_there w h b there is)))

pub pin_ret : (w : Workload) (h : List Event) (b : Buf) (q : Pid) (reply : Reply)
    → is_live_page w (h ▹ Ret q reply) b ≡ is_live_page w h b
    → is_loading w (h ▹ Ret q reply) b ≡ is_loading w h b → PinAfter w h (Ret q reply) b
pin_ret w h b q reply live loading =
    pin_made w (h ▹ Ret q reply) b (is_live_page w h b) (is_loading w h b) (other_than q (pin_of w h b)) live loading
    (λ is. sym (ap (other_than q) (pin_gone w h b is)))
    (λ is. waits (find (λ r. reads r b) (outstanding h)) ∙ sym (ap (other_than q) (pin_loading w h b is)))
    (λ there is. sym (ap (other_than q) (pin_there w h b there is)))
  where
    waits : (o : Option Request)
        → (elim o [ None ↦ None | Some r ↦ other_than q (reader_of h r.id) ])
        ≡ other_than q (elim o [ None ↦ None | Some r ↦ reader_of h r.id ])
    waits None = refl
    waits (Some r) = refl

-- ---- a file that is dropped
pub pin_drop : (w : Workload) (h : List Event) (b : Buf) (q : Pid) (slot : Slot) (s : Serial)
    → is_live_page w (h ▹ Drop q slot s) b ≡ (not (is_page_of s b) && is_live_page w h b)
    → is_loading w (h ▹ Drop q slot s) b ≡ (not (is_page_of s b) && is_loading w h b)
    → PinAfter w h (Drop q slot s) b
pin_drop w h b q slot s live loading = by_test (is_page_of s b) refl
  where
    by_test : (t : Bool) → is_page_of s b ≡ t
        → pin_of w (h ▹ Drop q slot s) b ≡ (if t then None else pin_of w h b)
    by_test true own = pin_gone w (h ▹ Drop q slot s) b (live ∙ ap (λ x. not x && is_live_page w h b) own)
    by_test false other =
        pin_stays w h (h ▹ Drop q slot s) b (live ∙ ap (λ x. not x && is_live_page w h b) other)
        (loading ∙ ap (λ x. not x && is_loading w h b) other) refl refl

-- ---- an add
pub pin_add : (w : Workload) (h : List Event) (b : Buf) (by : Actor) (r : Request) → IsKnown w h → r.id.0 ≡ adds h
    → (reads r b ≡ true → list_any (λ x. reads x b) (outstanding h) ≡ false)
    → is_live_page w (h ▹ Add by r) b ≡ is_live_page w h b
    → is_loading w (h ▹ Add by r) b ≡ (reads r b || is_loading w h b) → PinAfter w h (Add by r) b
pin_add w h b by r f id alone live loading = by_test (reads r b) refl
  where
    by_test : (t : Bool) → reads r b ≡ t
        → pin_of w (h ▹ Add by r) b ≡ (if t then reads_for r else pin_of w h b)
    by_test true does =
        pin_loading w (h ▹ Add by r) b (loading ∙ or_left (reads r b) (is_loading w h b) does)
        ∙ waits_is (h ▹ Add by r) b r (find_new (λ x. reads x b) (outstanding h) r (alone does) does)
        ∙ case_true (is_numbered r.id r) (reads_for r) (reader_of h r.id) (number_here r)
    by_test false past =
        pin_made w (h ▹ Add by r) b (is_live_page w h b) (is_loading w h b) (pin_of w h b) live
        (loading ∙ ap (λ x. x || is_loading w h b) past) (λ is. sym (pin_gone w h b is))
        (λ is. waits (found_read w h b is) ∙ sym (pin_loading w h b is))
        (λ there is. sym (pin_there w h b there is))
      where
        waits : Found (λ x. reads x b) (outstanding h) → waits_for (h ▹ Add by r) b ≡ waits_for h b
        waits found =
            let q = found.element
            in let own =
            f.known.waiting.left_of found.place q (subst (λ l. slice_get l found.place ≡ Some q) f.well found.there)
            in let below = slice_get_within (requests h) q.id.0 q own
            in let other : is_numbered q.id r ≡ false =
            ne_eqb r.id.0 q.id.0 (λ (e : r.id.0 ≡ q.id.0). omega (arith, id, below, f.known.numbered.counted, e))
            in waits_is (h ▹ Add by r) b q (find_old (λ x. reads x b) (outstanding h) r past ∙ found.found)
            ∙ case_false (is_numbered q.id r) (reads_for r) (reader_of h q.id) other
            ∙ sym (waits_is h b q found.found)

-- ---- a completion
pub pin_done : (w : Workload) (h : List Event) (b : Buf) (k : ℕ) (r : Request) → IsKnown w h → Kept h → IsFlying w h r
    → is_live_page w (h ▹ Done k r.id true) b ≡ is_live_page w h b
    → is_loading w (h ▹ Done k r.id true) b ≡ (not (reads r b) && is_loading w h b)
    → PinAfter w h (Done k r.id true) b
pin_done w h b k r f old fly live loading = by_test (reads r b) refl
  where
    read_is : is_read_of h r.id b ≡ reads r b
    read_is = ap (λ o. elim o [ None ↦ false | Some y ↦ reads y b ]) fly.numbered

    by_test : (t : Bool) → reads r b ≡ t → pin_of w (h ▹ Done k r.id true) b ≡ pin_of w h b
    by_test true does =
        pin_made w (h ▹ Done k r.id true) b (is_live_page w h b) false (pin_of w h b) live
        (loading ∙ ap (λ x. not x && is_loading w h b) does) (λ is. sym (pin_gone w h b is)) (λ is. absurd (cc))
        (λ there is. read there)
      where
        read : is_live_page w h b ≡ true → pinned_by (h ▹ Done k r.id true) b ≡ pin_of w h b
        read there =
            let was : is_loading w h b ≡ true =
            and_from (is_live_page w h b) (list_any (λ x. reads x b) (outstanding h)) there
            (list_any_here (λ x. reads x b) (outstanding h) fly.place r fly.out does)
            in cond-true (is_read_of h r.id b) (reader_of h r.id) (pinned_by h b) (read_is ∙ does)
            ∙ sym (waits_is h b r
            (one_found (λ x. reads x b) (outstanding h) fly.place r fly.out does (old.reads_once b)))
            ∙ sym (pin_loading w h b was)
    by_test false past =
        pin_made w (h ▹ Done k r.id true) b (is_live_page w h b) (is_loading w h b) (pin_of w h b) live
        (loading ∙ ap (λ x. not x && is_loading w h b) past) (λ is. sym (pin_gone w h b is))
        (λ is. waits (found_read w h b is) ∙ sym (pin_loading w h b is))
        (λ there is. cond-false (is_read_of h r.id b) (reader_of h r.id) (pinned_by h b) (read_is ∙ past)
        ∙ sym (pin_there w h b there is))
      where
        waits : Found (λ x. reads x b) (outstanding h) → waits_for (h ▹ Done k r.id true) b ≡ waits_for h b
        waits found =
            let q = found.element
            in let other : is_numbered r.id q ≡ false =
            false_from_ne_true (is_numbered r.id q)
            (λ is. both_ways (reads r b) past
            (subst (λ x. reads x b ≡ true)
            (same_number (requests h) (unfinished h) found.place q r f.known.waiting.left_of
            (subst (λ l. slice_get l found.place ≡ Some q) f.well found.there) fly.added is) found.passes))
            in waits_is (h ▹ Done k r.id true) b q
            (find_kept (λ x. reads x b) (λ x. not (is_numbered r.id x)) (outstanding h) q found.found
            (not_from_false (is_numbered r.id q) other))
            ∙ sym (waits_is h b q found.found)
