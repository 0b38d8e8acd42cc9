-- The blocks that are kept stand for the history still, after a drop.
use Rattle.std.proofs.Common.{◌≡◌, ℕ, zero, suc, ◌+◌, ◌==◌, ◌<◌, ◌≤◌, List, [], ◌∷◌, length, map, filter, count_by, slice_get, Bool, true, false, not, ◌&&◌, ◌||◌, ◌⊎◌, Option, Some, None, is_none, refl, arith, sym, subst, inl, inr, cond, ap, ◌∙◌}
use Rattle.std.specs.List.{filter_map, range_with_len}
use Rattle.std.specs.Option.{option_map}
use Rattle.std.proofs.lemmas.Bool.{cases_Bool, and_parts, or_left, or_right, eqb-true, eq-eqb, both_ways, not-true, cond-true, cond-false}
use Rattle.std.proofs.lemmas.Bool.Decides.{nat_tests}
use Rattle.std.proofs.lemmas.List.FromFn.{length-map-range_with_len}
use Rattle.std.proofs.lemmas.List.Sums.{length-filter, count_by-le-length, sum_by-cons}
use Rattle.std.proofs.lemmas.Option.{slice_get-map, slice_get_within, same_Some}
use Rattle.split_types.specs.declared.ids.Pid.{Pid}
use Rattle.split_types.specs.declared.ids.Serial.{Serial}
use Rattle.split_types.specs.declared.ids.Slot.{Slot}
use Rattle.split_types.specs.declared.ids.Txn.{Txn}
use Rattle.split_types.specs.declared.buf.Buf.{Buf}
use Rattle.split_types.specs.declared.buf.Buf.TheVariants.{Page}
use Rattle.split_types.specs.declared.workload.Workload.{Workload}
use Rattle.split_types.specs.declared.event.Event.{Event}
use Rattle.split_types.specs.declared.event.Event.TheVariants.{Drop}
use Rattle.split_types.specs.History.{◌▹◌}
use Rattle.split_types.specs.Rounds.{next_txn}
use Rattle.split_types.specs.Sets.{has}
use Rattle.split_types.specs.Files.{is_live}
use Rattle.split_types.specs.Pages.{is_put_since}
use Rattle.split_types.specs.HeldPages.{known_pages}
use Rattle.split_types.specs.LiveFiles.{blocks_of}
use Rattle.split_types.specs.FileSlots.{live_file}
use Rattle.split_types.specs.FileMaps.{mapped_block, is_in_map, drop_txn, is_committed, is_going, is_waiting, is_reserved, reserved_pages}
use Rattle.split_types.specs.PagesInCache.{is_page_of}
use Rattle.split_types.specs.Accepted.{IsAccepted}
use Rattle.split_types.specs.Legal.{IsLegal}
use Rattle.split_types.proofs.Shared.{find_some, list_any_here, count_no}
use Rattle.split_types.proofs.MapState.{MapsOf, keeps_of, keeps_is, live_keeps}
use Rattle.split_types.proofs.MapLaws.{maps_of}
use Rattle.split_types.proofs.PromiseCounts.{count_both}
use Rattle.split_types.proofs.PromiseFree.{free_stays}
use Rattle.delayed_alloc.specs.Blocks.{Blocks, Taken, Waiting, state_at}
use Rattle.split_core.specs.Fits.{Fits}
use Rattle.split_core.specs.Filing.{BlocksAre, says_free, LetsGo}
use Rattle.split_core.proofs.FilingBlocksWaits.{next_open, range_at, waits_by, waits_still, going_drop}
use Rattle.split_core.proofs.FilingBlocksUsed.{taken_by, taken_of, free_kept}

-- ---- the blocks of a file
-- an element that is there has a place
listed : (xs : List (Option ℕ)) (k x : ℕ) → slice_get (filter_map (λ b. b) xs) k ≡ Some x
    → (j : ℕ) × (slice_get xs j ≡ Some (Some x))
listed [] k x at = absurd (cc)
listed (None ∷ xs) k x at = let later = listed xs k x at in (suc later.0, later.1)
listed (Some y ∷ xs) zero x at = (0, ap Some at)
listed (Some y ∷ xs) (suc k) x at = let later = listed xs k x at in (suc later.0, later.1)

-- and one at each place stands among those that are there
there_at : (xs : List (Option ℕ)) (j x : ℕ) → slice_get xs j ≡ Some (Some x)
    → (k : ℕ) × (slice_get (filter_map (λ b. b) xs) k ≡ Some x)
there_at [] j x at = absurd (cc)
there_at (None ∷ xs) zero x at = absurd (cc)
there_at (None ∷ xs) (suc j) x at = there_at xs j x at
there_at (Some y ∷ xs) zero x at = (0, same_Some (Some y) (Some x) at)
there_at (Some y ∷ xs) (suc j) x at = let later = there_at xs j x at in (suc later.0, later.1)

-- where none stands at two places, none stands twice among those that are there
lists_once : (xs : List (Option ℕ))
    → ((i j x : ℕ) → slice_get xs i ≡ Some (Some x) → slice_get xs j ≡ Some (Some x) → i ≡ j)
    → (i j x : ℕ) → slice_get (filter_map (λ b. b) xs) i ≡ Some x → slice_get (filter_map (λ b. b) xs) j ≡ Some x
    → i ≡ j
lists_once [] once i j x first second = absurd (cc)
lists_once (None ∷ xs) once i j x first second =
    lists_once xs (λ k m y one two. (let same = once (suc k) (suc m) y one two in omega (arith, same))) i j x first
    second
lists_once (Some y ∷ xs) once zero zero x first second = refl
lists_once (Some y ∷ xs) once zero (suc j) x first second =
    let at = listed xs j x second
    in let same = once 0 (suc at.0) x (ap Some first) at.1
    in absurd (omega (arith, same))
lists_once (Some y ∷ xs) once (suc i) zero x first second =
    let at = listed xs i x first
    in let same = once (suc at.0) 0 x at.1 (ap Some second)
    in absurd (omega (arith, same))
lists_once (Some y ∷ xs) once (suc i) (suc j) x first second =
    let same : i ≡ j =
    lists_once xs (λ k m z one two. (let is = once (suc k) (suc m) z one two in omega (arith, is))) i j x first second
    in omega (arith, same)

-- the first n of some values, by number
values_of : (f : ℕ → Option ℕ) (n k x : ℕ) → slice_get (map f (range_with_len 0 n)) k ≡ Some (Some x)
    → f k ≡ Some x
values_of f n k x at =
    let below = slice_get_within (map f (range_with_len 0 n)) k (Some x) at
    in same_Some (f k) (Some x)
    (sym (ap (option_map f) (range_at n k (omega (arith, below, length-map-range_with_len f 0 n))))
    ∙ sym (slice_get-map f (range_with_len 0 n) k) ∙ at)

-- the page that has the block
block_page : (f : ℕ → Option ℕ) (n k x : ℕ)
    → slice_get (filter_map (λ b. b) (map f (range_with_len 0 n))) k ≡ Some x → (g : ℕ) × (f g ≡ Some x)
block_page f n k x at =
    let there = listed (map f (range_with_len 0 n)) k x at in (there.0, values_of f n there.0 x there.1)

-- the block of a page is among them
page_block : (f : ℕ → Option ℕ) (n g x : ℕ) → g < n → f g ≡ Some x
    → (k : ℕ) × (slice_get (filter_map (λ b. b) (map f (range_with_len 0 n))) k ≡ Some x)
page_block f n g x below at =
    there_at (map f (range_with_len 0 n)) g x
    (slice_get-map f (range_with_len 0 n) g ∙ ap (option_map f) (range_at n g below) ∙ ap Some at)

page_once : (f : ℕ → Option ℕ) (n : ℕ) → ((g k x : ℕ) → f g ≡ Some x → f k ≡ Some x → g ≡ k)
    → (i j x : ℕ) → slice_get (filter_map (λ b. b) (map f (range_with_len 0 n))) i ≡ Some x
    → slice_get (filter_map (λ b. b) (map f (range_with_len 0 n))) j ≡ Some x → i ≡ j
page_once f n once =
    lists_once (map f (range_with_len 0 n))
    (λ i j x first second. once i j x (values_of f n i x first) (values_of f n j x second))

-- the blocks of the file are taken
pub drop_taken : (w : Workload) (h : List Event) (by : Pid) (slot : Slot) (s : Serial) (a : Blocks) → IsAccepted w
    → IsLegal w (h ▹ Drop by slot s) → Fits w h (Drop by slot s) → BlocksAre w a h
    → (k x : ℕ) → slice_get (blocks_of (live_file w h s)) k ≡ Some x → state_at a x ≡ Some Taken
drop_taken w h by slot s a accepted legal fits stands k x at =
    let f = maps_of w h accepted legal.1
    in let page = block_page (mapped_block w h s.0) 1008 k x at
    in stands.taken x (taken_by w h s.0 x f fits.kind.live (f.blocks.in_map s.0 page.0 x page.1))

-- none of them stands twice in its map
pub drop_once : (w : Workload) (h : List Event) (by : Pid) (slot : Slot) (s : Serial) → IsAccepted w
    → IsLegal w (h ▹ Drop by slot s) → Fits w h (Drop by slot s)
    → (i j x : ℕ) → slice_get (blocks_of (live_file w h s)) i ≡ Some x
    → slice_get (blocks_of (live_file w h s)) j ≡ Some x → i ≡ j
drop_once w h by slot s accepted legal fits =
    page_once (mapped_block w h s.0) 1008
    (λ g k x first second. ((maps_of w h accepted legal.1).blocks.apart s.0 s.0 g k x first second
    (live_keeps w h s.0 fits.kind.live) (live_keeps w h s.0 fits.kind.live)).1)

-- no more of its pages have promises than were made
pub drop_promised : (w : Workload) (h : List Event) (s : Serial) (a : Blocks) → BlocksAre w a h
    → count_by (is_page_of s) (reserved_pages w h) ≤ a.reserved
drop_promised w h s a stands =
    omega (arith, count_by-le-length (is_page_of s) (reserved_pages w h), stands.reserved)

-- ---- promises
-- of the elements that pass one test, those that pass another
count_passing : {X : Type 0} (p q : X → Bool) (xs : List X) → count_by p (filter q xs) ≡ count_by (λ x. q x && p x) xs
count_passing p q [] = refl
count_passing p q (x ∷ xs) = elim (cases_Bool (q x)) [
  | inl kept ↦
      (let same : ◌≡◌ {A = ℕ} (cond (p x) 1 0) (cond (q x && p x) 1 0) = ap (λ b. cond (b && p x) 1 0) (sym kept)
      in ap (count_by p) (cond-true (q x) (x ∷ filter q xs) (filter q xs) kept)
      ∙ omega (
        arith,
        same,
        sum_by-cons (λ y. cond (p y) 1 0) x (filter q xs),
        sum_by-cons (λ y. cond (q y && p y) 1 0) x xs,
        count_passing p q xs,
      ))
  | inr past ↦
      ap (count_by p) (cond-false (q x) (x ∷ filter q xs) (filter q xs) past)
      ∙ count_passing p q xs ∙ sym (count_no (λ y. q y && p y) x xs (ap (λ b. b && p x) past))
]

drop_bits : (here live put none : Bool)
    → ◌≡◌ {A = ℕ} (cond ((live && put) && none) 1 0)
    (cond (((not here && live) && put) && none) 1 0 + cond (((live && put) && none) && here) 1 0)
drop_bits true true true true = refl
drop_bits true true true false = refl
drop_bits true true false none = refl
drop_bits true false put none = refl
drop_bits false true true true = refl
drop_bits false true true false = refl
drop_bits false true false none = refl
drop_bits false false put none = refl

-- the promises of the file's pages are gone
drop_reserved : (w : Workload) (h : List Event) (by : Pid) (slot : Slot) (s : Serial)
    → length (reserved_pages w (h ▹ Drop by slot s)) + count_by (is_page_of s) (reserved_pages w h)
    ≡ length (reserved_pages w h)
drop_reserved w h by slot s =
    omega (
      arith,
      length-filter (is_reserved w h) (known_pages h),
      length-filter (is_reserved w (h ▹ Drop by slot s)) (known_pages h),
      count_passing (is_page_of s) (is_reserved w h) (known_pages h),
      count_both (is_reserved w h) (is_reserved w (h ▹ Drop by slot s)) (λ b. is_reserved w h b && is_page_of s b)
          (known_pages h) split,
    )
  where
    split : (b : Buf)
        → ◌≡◌ {A = ℕ} (cond (is_reserved w h b) 1 0)
        (cond (is_reserved w (h ▹ Drop by slot s) b) 1 0 + cond (is_reserved w h b && is_page_of s b) 1 0)
    split (Page t k) =
        drop_bits (s.0 == t.0) (is_live w h t.0) (is_put_since h (Page t k)) (is_none (mapped_block w h t.0 k))
    split b = refl

-- ---- a drop
-- the file keeps its blocks, and so do the others that did
keeps_bits : (here live going : Bool) → (here ≡ true → live ≡ true)
    → ((not here && live) || (here || going)) ≡ (live || going)
keeps_bits true live going there = sym (or_left live going (there refl))
keeps_bits false live going there = refl

drop_keeps : (w : Workload) (h : List Event) (by : Pid) (slot : Slot) (s : Serial) (u : ℕ)
    → is_committed h (next_txn h) ≡ false → is_live w h s.0 ≡ true
    → keeps_of w (h ▹ Drop by slot s) u ≡ keeps_of w h u
drop_keeps w h by slot s u uncommitted live =
    keeps_is w (h ▹ Drop by slot s) u
    ∙ ap (λ b. (not (s.0 == u) && is_live w h u) || b) (going_drop h by slot s u uncommitted)
    ∙ keeps_bits (s.0 == u) (is_live w h u) (is_going h u)
    (λ here. subst (λ n. is_live w h n ≡ true) (eqb-true s.0 u here) live)
    ∙ sym (keeps_is w h u)

-- its blocks wait, and the promises of its pages are taken back
pub blocks_drop : (w : Workload) (h : List Event) (by : Pid) (slot : Slot) (s : Serial) (old new : Blocks)
    → IsAccepted w → IsLegal w (h ▹ Drop by slot s) → Fits w h (Drop by slot s) → BlocksAre w old h
    → LetsGo old new (next_txn h) (blocks_of (live_file w h s)) (count_by (is_page_of s) (reserved_pages w h))
    → BlocksAre w new (h ▹ Drop by slot s)
blocks_drop w h by slot s old new accepted legal fits stands go = record {
  count = go.count ∙ stands.count;
  free = free_kept w h (h ▹ Drop by slot s) old new stands
      (free_stays w h (h ▹ Drop by slot s) f after (λ u x. refl)
      (λ u g x at. drop_keeps w h by slot s u uncommitted fits.kind.live))
      (λ x. says x (cases_Bool (has gone x)));
  taken = λ x is. (let at = taken_of w (h ▹ Drop by slot s) x is
      in let parts = and_parts (not (s.0 == at.0)) (is_live w h at.0) at.1
      in go.others x (λ k there. another x at.0 parts.1 at.2 (not-true (s.0 == at.0) parts.0) k there)
      ∙ stands.taken x (taken_by w h at.0 x f parts.1 at.2));
  waits = λ u x t is drop within. by_file u x t (cases_Bool (s.0 == u)) is drop within;
  gone = λ x t is. still x t (cases_Bool (has gone x)) is;
  reserved = omega (arith, go.reserved, stands.reserved, drop_reserved w h by slot s);
}
  where
    f : MapsOf w h
    f = maps_of w h accepted legal.1

    after : MapsOf w (h ▹ Drop by slot s)
    after = maps_of w (h ▹ Drop by slot s) accepted legal

    uncommitted : is_committed h (next_txn h) ≡ false
    uncommitted = next_open w h accepted legal.1

    gone : List ℕ
    gone = blocks_of (live_file w h s)

    -- a block that is let go has a place
    place : (x : ℕ) → has gone x ≡ true → (k : ℕ) × (slice_get gone k ≡ Some x)
    place x here =
        let found = find_some (λ q. q == x) gone here
        in let is : found.element ≡ x = let passes = found.passes in grind (arith, nat_tests)
        in (found.place, found.there ∙ ap Some is)

    outside : (x : ℕ) → has gone x ≡ false → state_at new x ≡ state_at old x
    outside x out =
        go.others x
        (λ k at. both_ways (has gone x) out (list_any_here (λ q. q == x) gone k x at (eq-eqb x x refl)))

    says : (x : ℕ) → (has gone x ≡ true) ⊎ (has gone x ≡ false)
        → says_free (state_at new x) ≡ says_free (state_at old x)
    says x (inl here) =
        let at = place x here
        in ap says_free (go.waits at.0 x at.1)
        ∙ sym (ap says_free (drop_taken w h by slot s old accepted legal fits stands at.0 x at.1))
    says x (inr out) = ap says_free (outside x out)

    -- a block of another file that is there isn't one of its blocks
    another : (x u : ℕ) → is_live w h u ≡ true → is_in_map w h u x ≡ true → (s.0 == u) ≡ false → (k : ℕ)
        → slice_get gone k ≡ Some x → ⊥
    another x u live within other k there =
        let page = block_page (mapped_block w h s.0) 1008 k x there
        in let at = f.blocks.of_map u x within
        in let same = (f.blocks.apart s.0 u page.0 at.0 x page.1 at.1 (live_keeps w h s.0 fits.kind.live)
        (live_keeps w h u live)).0
        in both_ways (s.0 == u) other (eq-eqb s.0 u same)

    -- the block of a file whose drop isn't committed
    own : (x : ℕ) → is_in_map w h s.0 x ≡ true → state_at new x ≡ Some (Waiting (next_txn h))
    own x within =
        let page = f.blocks.of_map s.0 x within
        in let at = page_block (mapped_block w h s.0) 1008 page.0 x (f.blocks.page s.0 page.0 x page.1) page.1
        in go.waits at.0 x at.1

    waited : (x : ℕ) (t : Txn) → state_at old x ≡ Some (Waiting t) → (has gone x ≡ true) ⊎ (has gone x ≡ false)
        → state_at new x ≡ Some (Waiting t)
    waited x t is (inr out) = outside x out ∙ is
    waited x t is (inl here) =
        let at = place x here
        in absurd (let both : Some (Waiting t) ≡ Some Taken =
        sym is ∙ drop_taken w h by slot s old accepted legal fits stands at.0 x at.1 in cc)

    by_file : (u x : ℕ) (t : Txn) → ((s.0 == u) ≡ true) ⊎ ((s.0 == u) ≡ false)
        → is_going (h ▹ Drop by slot s) u ≡ true
        → (elim (s.0 == u) [ true ↦ Some (next_txn h) | false ↦ drop_txn h u ]) ≡ Some t
        → is_in_map w h u x ≡ true → state_at new x ≡ Some (Waiting t)
    by_file u x t (inl here) is drop within =
        own x (subst (λ n. is_in_map w h n x ≡ true) (sym (eqb-true s.0 u here)) within)
        ∙ ap (λ o. option_map Waiting o) (sym (taker_here (s.0 == u) here) ∙ drop)
      where
        taker_here : (b : Bool) → b ≡ true
            → (elim b [ true ↦ Some (next_txn h) | false ↦ drop_txn h u ]) ≡ Some (next_txn h)
        taker_here true so = refl
        taker_here false so = absurd (cc)
    by_file u x t (inr other) is drop within =
        waited x t (stands.waits u x t (going_before (s.0 == u) other (sym (going_drop h by slot s u uncommitted) ∙ is))
        (sym (taker_other (s.0 == u) other) ∙ drop) within) (cases_Bool (has gone x))
      where
        going_before : (b : Bool) → b ≡ false → (b || is_going h u) ≡ true → is_going h u ≡ true
        going_before true so at = absurd (cc)
        going_before false so at = at

        taker_other : (b : Bool) → b ≡ false
            → (elim b [ true ↦ Some (next_txn h) | false ↦ drop_txn h u ]) ≡ drop_txn h u
        taker_other true so = absurd (cc)
        taker_other false so = refl

    still : (x : ℕ) (t : Txn) → (has gone x ≡ true) ⊎ (has gone x ≡ false) → state_at new x ≡ Some (Waiting t)
        → is_waiting w (h ▹ Drop by slot s) x ≡ true
    still x t (inl here) is =
        let at = place x here
        in let page = block_page (mapped_block w h s.0) 1008 at.0 x at.1
        in waits_by w (h ▹ Drop by slot s) s.0 x after
        (going_drop h by slot s s.0 uncommitted ∙ or_left (s.0 == s.0) (is_going h s.0) (eq-eqb s.0 s.0 refl))
        (f.blocks.in_map s.0 page.0 x page.1)
    still x t (inr out) is =
        waits_still w h (h ▹ Drop by slot s) x after
        (λ u going within. (going_drop h by slot s u uncommitted ∙ or_right (s.0 == u) (is_going h u) going, within))
        (stands.gone x t (sym (outside x out) ∙ is))
