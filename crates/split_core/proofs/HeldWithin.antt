-- A page that is held lies within its file: what is put, mapped or loaded lies within it, and no file shrinks.
use Rattle.std.proofs.Common.{◌≡◌, ℕ, ◌+◌, ◌-◌, ◌*◌, ◌<◌, ◌≤◌, ◌==◌, List, [], slice_get, nat_lt, nat_le, Bool, true, false, not}
use Rattle.std.proofs.Common.{◌&&◌, Option, Some, None, if◌then◌else◌, refl, ap, sym, ◌∙◌, subst, arith, inl, inr}
use Rattle.std.specs.List.{list_any}
use Rattle.std.proofs.lemmas.Bool.{and_parts, or_cases, eqb-true}
use Rattle.std.proofs.lemmas.Bool.Decides.{nat_tests}
use Rattle.split_types.specs.declared.ids.ReqId.{ReqId}
use Rattle.split_types.specs.declared.ids.Serial.{Serial}
use Rattle.split_types.specs.declared.ids.Slot.{Slot}
use Rattle.split_types.specs.declared.buf.Buf.TheVariants.{Page}
use Rattle.split_types.specs.declared.request.Request.{Request}
use Rattle.split_types.specs.declared.workload.Workload.{Workload}
use Rattle.split_types.specs.declared.event.Event.{Event}
use Rattle.split_types.specs.declared.event.Event.TheVariants.{Put, Map, Done, Evict}
use Rattle.split_types.specs.History.{◌▹◌}
use Rattle.split_types.specs.Hooks.{maker, same_buf}
use Rattle.split_types.specs.Requests.{requests}
use Rattle.split_types.specs.Workloads.{pages_in, page_block}
use Rattle.split_types.specs.Pages.{is_live_page, is_put_since}
use Rattle.split_types.specs.Reads.{reads, is_read_of, is_loading, outstanding}
use Rattle.split_types.specs.HeldPages.{is_placed, is_held}
use Rattle.split_types.specs.FileSizes.{size_of}
use Rattle.split_types.specs.FileMaps.{mapped_block, free_blocks}
use Rattle.split_types.specs.Writeback.{served_run}
use Rattle.split_types.specs.Accepted.{IsAccepted}
use Rattle.split_types.specs.Legal.{IsLegal}
use Rattle.split_types.specs.Proving.Came.{Came}
use Rattle.split_types.specs.Proving.Came.Came.{came_map, came_grow, came_done}
use Rattle.split_types.proofs.Shared.{came, known, maps_known, ready_parts, free_is, put_in_legal, find_some}
use Rattle.split_types.proofs.Shared.{all_done_well, numbers, reads_some, loading_pages}
use Rattle.split_core.proofs.PromiseReads.{grown, grown_here, put_size}

-- ---- pages that have blocks
-- writeback maps pages that were put
mapped_put : (w : Workload) (h : List Event) (slot : Slot) (t : Serial) (page n block : ℕ) (new : Bool) (size k : ℕ)
    → IsAccepted w → IsLegal w h → Came w h (Map slot t page n block new size) → k < n
    → is_put_since h (Page t (page + k)) ≡ true
mapped_put w h slot t page n block new size k accepted legal (came_map run free serves there none at) below =
    let served = maps_known.served w h run accepted legal (ap served_run serves)
    in let least = (free_is (free_blocks w h) run.n free at).most
    in (ready_parts w h run.serial (run.page + k) (served.ready there k (omega (arith, least, below)))).put
mapped_put w h slot t page n block new size k accepted legal (came_grow run first serves there at short) below =
    let served = maps_known.served w h run accepted legal (ap served_run serves)
    in (ready_parts w h run.serial (run.page + k) (served.ready there k below)).put

-- the page is one of these, or it isn't
in_run : (t s page n g : ℕ) → (t == s && nat_le page g && nat_lt g (page + n)) ≡ true
    → (t ≡ s) × (page ≤ g) × (g < page + n)
in_run t s page n g is = grind (arith, nat_tests)

run_put : (w : Workload) (h : List Event) (slot : Slot) (t : Serial) (page n block : ℕ) (new : Bool) (size : ℕ)
    (s : Serial) (g : ℕ) → IsAccepted w → IsLegal w (h ▹ Map slot t page n block new size)
    → (t.0 == s.0 && nat_le page g && nat_lt g (page + n)) ≡ true → is_put_since h (Page s g) ≡ true
run_put w h slot t page n block new size s g accepted legal is =
    let e = Map slot t page n block new size
    in let within = in_run t.0 s.0 page n g is
    in let here : page + (g - page) ≡ g = omega (arith, within)
    in let own = mapped_put w h slot t page n block new size (g - page) accepted legal.1 (came w h (maker e) e legal.0)
    (omega (arith, within))
    in subst (λ k. is_put_since h (Page s k) ≡ true) here
    (subst (λ u. is_put_since h (Page u (page + (g - page))) ≡ true) (ap (λ i. record { 0 = i }) within.0) own)

from_start : (test : Bool) (y x : ℕ) → (if test then Some y else None) ≡ Some x → test ≡ true
from_start true y x is = refl
from_start false y x is = absurd (cc)

below_start : (g n : ℕ) → nat_lt g n ≡ true → 4096 * g < 4096 * n
below_start g n is = grind (arith, nat_tests)

by_run : (test : Bool) (y m size : ℕ) (was : Option ℕ) (x : ℕ) → (test ≡ true → m < size) → (was ≡ Some x → m < size)
    → (if test then Some y else was) ≡ Some x → m < size
by_run true y m size was x new old is = new refl
by_run false y m size was x new old is = old is

pub mapped_size : (w : Workload) (h : List Event) (s : Serial) (g x : ℕ) → IsAccepted w → IsLegal w h
    → mapped_block w h s.0 g ≡ Some x → 4096 * g < size_of w h s.0
mapped_size w [] s g x accepted legal at =
    below_start g (pages_in w s.0) (from_start (nat_lt g (pages_in w s.0)) (page_block w s.0 g) x at)
mapped_size w (h ▹ Map slot t page n block new size) s g x accepted legal at =
    by_run (t.0 == s.0 && nat_le page g && nat_lt g (page + n)) (block + (g - page)) (4096 * g) (size_of w h s.0)
    (mapped_block w h s.0 g) x
    (λ is. put_size w h s g accepted legal.1 (run_put w h slot t page n block new size s g accepted legal is))
    (λ old. mapped_size w h s g x accepted legal.1 old) at
mapped_size w (h ▹ Put by t k from to fill) s g x accepted legal at =
    grown (t.0 == s.0) (size_of w h s.0) (4096 * k + to) (4096 * g) (mapped_size w h s g x accepted legal.1 at)
mapped_size w (h ▹ e) s g x accepted legal at = mapped_size w h s g x accepted legal.1 at

-- ---- pages that are read
same_parts : (s t : Serial) (g k : ℕ) → Page s g ≡ Page t k → (s ≡ t) × (g ≡ k)
same_parts s t g k is = (cc, cc)

-- what a request reads has a block
read_size : (w : Workload) (h : List Event) (i : ℕ) (r : Request) (s : Serial) (g : ℕ) → IsAccepted w → IsLegal w h
    → slice_get (requests h) i ≡ Some r → reads r (Page s g) ≡ true → 4096 * g < size_of w h s.0
read_size w h i r s g accepted legal added does =
    let block = loading_pages.blocks w h i r (Page s g) accepted legal added does
    in let same = same_parts s block.serial g block.page block.is
    in mapped_size w h s g r.first accepted legal
    (subst (λ k. mapped_block w h s.0 k ≡ Some r.first) (sym same.1)
    (subst (λ (t : Serial). mapped_block w h t.0 block.page ≡ Some r.first) (sym same.0) block.place))

done_size : (w : Workload) (h : List Event) (k : ℕ) (id : ReqId) (s : Serial) (g : ℕ) → IsAccepted w → IsLegal w h
    → Came w h (Done k id true) → is_read_of h id (Page s g) ≡ true → 4096 * g < size_of w h s.0
done_size w h k id s g accepted legal (came_done j r at) is =
    let added = (known w h accepted legal).waiting.flight_of j r at
    in let does : reads r (Page s g) ≡ true =
    subst (λ o. reads_some o (Page s g) ≡ true) ((numbers w h accepted legal).at_number r.id r added) is
    in read_size w h r.id.0 r s g accepted legal added does

loading_size : (w : Workload) (h : List Event) (s : Serial) (g : ℕ) → IsAccepted w → IsLegal w h
    → is_loading w h (Page s g) ≡ true → 4096 * g < size_of w h s.0
loading_size w h s g accepted legal is =
    let b = Page s g
    in let found = find_some (λ r. reads r b) (outstanding h)
    (and_parts (is_live_page w h b) (list_any (λ r. reads r b) (outstanding h)) is).1
    in let left = sym (ap (λ l. slice_get l found.place) (all_done_well w h legal)) ∙ found.there
    in let added = (known w h accepted legal).waiting.left_of found.place found.element left
    in read_size w h found.element.id.0 found.element s g accepted legal added found.passes

-- ---- pages that are held
placed_size : (w : Workload) (h : List Event) (s : Serial) (g : ℕ) → IsAccepted w → IsLegal w h
    → is_placed h (Page s g) ≡ true → 4096 * g < size_of w h s.0
placed_size w [] s g accepted legal is = absurd (cc)
placed_size w (h ▹ Put by t k from to fill) s g accepted legal is =
    elim (or_cases (same_buf (Page s g) (Page t k)) (is_placed h (Page s g)) is) [
      | inl here ↦
          (let put = put_in_legal w h by t k from to fill accepted legal
          in let same = and_parts (s.0 == t.0) (g == k) here
          in let file : s.0 ≡ t.0 = eqb-true s.0 t.0 same.0
          in let page : g ≡ k = eqb-true g k same.1
          in grown_here (t.0 == s.0) (size_of w h s.0) (4096 * k + to) (4096 * g)
          (subst (λ n. (t.0 == n) ≡ true) (sym file) (self t.0)) (omega (arith, page, put.some)))
      | inr old ↦
          grown (t.0 == s.0) (size_of w h s.0) (4096 * k + to) (4096 * g) (placed_size w h s g accepted legal.1 old)
    ]
  where
    self : (n : ℕ) → (n == n) ≡ true
    self n = grind (arith, nat_tests)
placed_size w (h ▹ Done k id true) s g accepted legal is =
    elim (or_cases (is_read_of h id (Page s g)) (is_placed h (Page s g)) is) [
      | inl here ↦
          done_size w h k id s g accepted legal.1 (came w h (maker (Done k id true)) (Done k id true) legal.0) here
      | inr old ↦ placed_size w h s g accepted legal.1 old
    ]
placed_size w (h ▹ Evict by t k) s g accepted legal is =
    placed_size w h s g accepted legal.1
    (and_parts (not (same_buf (Page s g) (Page t k))) (is_placed h (Page s g)) is).1
placed_size w (h ▹ e) s g accepted legal is = placed_size w h s g accepted legal.1 is

pub held_size : (w : Workload) (h : List Event) (s : Serial) (g : ℕ) → IsAccepted w → IsLegal w h
    → is_held w h (Page s g) ≡ true → 4096 * g < size_of w h s.0
held_size w h s g accepted legal is =
    let b = Page s g
    in elim (or_cases (is_loading w h b) (is_live_page w h b && is_placed h b) is) [
      | inl loading ↦ loading_size w h s g accepted legal loading
      | inr placed ↦ placed_size w h s g accepted legal (and_parts (is_live_page w h b) (is_placed h b) placed).1
    ]
