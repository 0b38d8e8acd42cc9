-- Reads: a page that is loading is read by one request, and isn't there before that is done.
use Rattle.std.proofs.Common.{filter, ◌≡◌, ℕ, List, [], Bool, true, false, not, ◌&&◌, refl, arith, subst, sym, inl, inr, ap, ◌∙◌, ◌≤◌, slice_get, count_by, cond, Some, None}
use Rattle.std.specs.List.{list_any}
use Rattle.std.proofs.lemmas.Bool.{not_from_true, cases_Bool, both_ways, and_from, and_right, or_parts, or_from, false_from_ne_true}
use Rattle.split_types.specs.declared.ids.ReqId.{ReqId}
use Rattle.split_types.specs.declared.ids.Serial.{Serial}
use Rattle.split_types.specs.declared.buf.Buf.{Buf}
use Rattle.split_types.specs.declared.buf.Buf.TheVariants.{Page}
use Rattle.split_types.specs.declared.workload.Workload.{Workload}
use Rattle.split_types.specs.declared.event.Event.{Event}
use Rattle.split_types.specs.declared.event.Event.TheVariants.{Put, Add, Done, Evict}
use Rattle.split_types.specs.History.{◌▹◌}
use Rattle.split_types.specs.Hooks.{maker, same_buf}
use Rattle.split_types.specs.Requests.{is_numbered}
use Rattle.split_types.specs.Files.{is_live}
use Rattle.split_types.specs.Reads.{reads, outstanding, is_read_of, is_loading}
use Rattle.split_types.specs.HeldPages.{is_placed, is_held}
use Rattle.split_types.specs.Accepted.{IsAccepted}
use Rattle.split_types.specs.Legal.{IsLegal}
use Rattle.split_types.proofs.CameLaws.{came}
use Rattle.split_types.proofs.Lists.{find_some, filter_there, list_any_here, count_push, count_none, count_filter_less}
use Rattle.split_types.proofs.KeptLists.{any_filter, any_push, one_passes}
use Rattle.std.proofs.lemmas.Option.{same_Some}
use Rattle.split_types.proofs.WaitingLaws.{number_here}
use Rattle.split_types.proofs.NumberLaws.{all_done_well}
use Rattle.split_types.proofs.PinLaws.{pins}
use Rattle.split_types.proofs.WriteLaws.{IsDone, is_done}
use Rattle.split_types.proofs.LoadingLaws.{put_not_read, read_absent, absent_unplaced}

-- ---- reads that are done
-- a request that is done now was outstanding
done_left : (w : Workload) (h : List Event) (k : ℕ) (id : ReqId) → IsLegal w h → (d : IsDone w h k id)
    → slice_get (outstanding h) d.place ≡ Some d.request
done_left w h k id legal d = ap (λ l. slice_get l d.place) (all_done_well w h legal) ∙ d.there

-- the request that is done reads what a read of its number reads
pub done_reads : (w : Workload) (h : List Event) (k : ℕ) (id : ReqId) (b : Buf) → IsAccepted w
    → IsLegal w (h ▹ Done k id true) → (d : IsDone w h k id) → is_read_of h id b ≡ true → reads d.request b ≡ true
done_reads w h k id b accepted legal d is =
    let named = (pins w h accepted legal.1).named d.place d.request (done_left w h k id legal.1 d)
    in sym (ap (λ o. elim o [ None ↦ false | Some r ↦ reads r b ]) named)
    ∙ ap (λ i. is_read_of h i b) d.number ∙ is

-- the page that it reads is loading until then
pub read_loading : (w : Workload) (h : List Event) (k : ℕ) (id : ReqId) (s : Serial) (g : ℕ) → IsAccepted w
    → IsLegal w (h ▹ Done k id true) → is_live w h s.0 ≡ true → is_read_of h id (Page s g) ≡ true
    → is_loading w h (Page s g) ≡ true
read_loading w h k id s g accepted legal live is =
    let d = is_done w h k id accepted legal
    in and_from (is_live w h s.0) (list_any (λ r. reads r (Page s g)) (outstanding h)) live
    (list_any_here (λ r. reads r (Page s g)) (outstanding h) d.place d.request (done_left w h k id legal.1 d)
    (done_reads w h k id (Page s g) accepted legal d is))

-- ---- a page that is loading is read once, and isn't there yet
not_loading : (w : Workload) (h : List Event) (s : Serial) (g : ℕ) → is_live w h s.0 ≡ true
    → is_held w h (Page s g) ≡ false → list_any (λ r. reads r (Page s g)) (outstanding h) ≡ false
not_loading w h s g live none =
    sym (ap (λ b. b && list_any (λ r. reads r (Page s g)) (outstanding h)) live)
    ∙ (or_parts (is_loading w h (Page s g)) (is_live w h s.0 && is_placed h (Page s g)) none).0

pub read_once : (w : Workload) (h : List Event) (s : Serial) (g : ℕ) → IsAccepted w → IsLegal w h
    → count_by (λ r. reads r (Page s g)) (outstanding h) ≤ 1
read_once w [] s g accepted legal = omega arith
read_once w (h ▹ Add by r) s g accepted legal =
    let more = count_push (λ q. reads q (Page s g)) (outstanding h) r
    in elim (cases_Bool (reads r (Page s g))) [
      | inl new ↦
          (let row = came w h (maker (Add by r)) (Add by r) legal.0
          in let read = read_absent w h by r s g row new
          in let none = not_loading w h s g read.live read.absent
          in omega (
            arith,
            more,
            at_most (reads r (Page s g)),
            count_none (λ q. reads q (Page s g)) (outstanding h) none,
          ))
      | inr other ↦ omega (arith, more, no_more (reads r (Page s g)) other, read_once w h s g accepted legal.1)
    ]
  where
    at_most : (b : Bool) → cond b 1 0 ≤ 1
    at_most true = omega arith
    at_most false = omega arith

    no_more : (b : Bool) → b ≡ false → ◌≡◌ {A = ℕ} (cond b 1 0) 0
    no_more b is = rw is refl
read_once w (h ▹ Done k id ok) s g accepted legal =
    omega (
      arith,
      count_filter_less (λ q. reads q (Page s g)) (λ q. not (is_numbered id q)) (outstanding h),
      read_once w h s g accepted legal.1,
    )
read_once w (h ▹ e) s g accepted legal = read_once w h s g accepted legal.1

-- where a request is done and the page is still read, that request didn't read it
not_its_read : (w : Workload) (h : List Event) (k : ℕ) (id : ReqId) (s : Serial) (g : ℕ) → IsAccepted w
    → IsLegal w (h ▹ Done k id true)
    → list_any (λ r. reads r (Page s g)) (filter (λ r. not (is_numbered id r)) (outstanding h)) ≡ true
    → is_read_of h id (Page s g) ≡ false
not_its_read w h k id s g accepted legal more =
    false_from_ne_true (is_read_of h id (Page s g)) (λ is. twice is)
  where
    twice : is_read_of h id (Page s g) ≡ true → ⊥
    twice is =
        let d = is_done w h k id accepted legal
        in let found =
        find_some (λ r. reads r (Page s g)) (filter (λ r. not (is_numbered id r)) (outstanding h)) more
        in let kept =
        filter_there (λ r. not (is_numbered id r)) (outstanding h) found.place found.element found.there
        in let one =
        one_passes (λ r. reads r (Page s g)) (outstanding h) kept.0 d.place found.element d.request kept.1
        (done_left w h k id legal.1 d) found.passes (done_reads w h k id (Page s g) accepted legal d is)
        (read_once w h s g accepted legal.1)
        in let same : found.element ≡ d.request =
        same_Some found.element d.request
        (sym kept.1 ∙ ap (slice_get (outstanding h)) one ∙ done_left w h k id legal.1 d)
        in both_ways (not (is_numbered id d.request))
        (not_from_true (is_numbered id d.request)
        (subst (λ i. is_numbered i d.request ≡ true) d.number (number_here d.request)))
        (subst (λ r. not (is_numbered id r) ≡ true) same kept.2)

-- a page that is loading isn't placed
pub loading_unplaced : (w : Workload) (h : List Event) (s : Serial) (g : ℕ) → IsAccepted w → IsLegal w h
    → list_any (λ r. reads r (Page s g)) (outstanding h) ≡ true
    → is_placed h (Page s g) ≡ false
loading_unplaced w [] s g accepted legal is = refl
loading_unplaced w (h ▹ Put by t k from to fill) s g accepted legal is =
    let row = came w h (maker (Put by t k from to fill)) (Put by t k from to fill) legal.0
    in or_from (same_buf (Page s g) (Page t k)) (is_placed h (Page s g))
    (put_not_read w h by t k from to fill s g row is)
    (loading_unplaced w h s g accepted legal.1 is)
loading_unplaced w (h ▹ Add by r) s g accepted legal is =
    elim (any_push (λ q. reads q (Page s g)) (outstanding h) r is) [
      | inl old ↦ loading_unplaced w h s g accepted legal.1 old
      | inr new ↦
          (let read = read_absent w h by r s g (came w h (maker (Add by r)) (Add by r) legal.0) new
          in absent_unplaced w h s g read.live read.absent)
    ]
loading_unplaced w (h ▹ Done k id true) s g accepted legal is =
    or_from (is_read_of h id (Page s g)) (is_placed h (Page s g)) (not_its_read w h k id s g accepted legal is)
    (loading_unplaced w h s g accepted legal.1
    (any_filter (λ r. reads r (Page s g)) (λ r. not (is_numbered id r)) (outstanding h) is))
loading_unplaced w (h ▹ Done k id false) s g accepted legal is =
    loading_unplaced w h s g accepted legal.1
    (any_filter (λ r. reads r (Page s g)) (λ r. not (is_numbered id r)) (outstanding h) is)
loading_unplaced w (h ▹ Evict by t k) s g accepted legal is =
    and_right (not (same_buf (Page s g) (Page t k))) (is_placed h (Page s g))
    (loading_unplaced w h s g accepted legal.1 is)
loading_unplaced w (h ▹ e) s g accepted legal is = loading_unplaced w h s g accepted legal.1 is
