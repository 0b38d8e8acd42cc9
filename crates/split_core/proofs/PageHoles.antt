-- A page of a file that is there, that isn't held and has no block, is zero.
use Rattle.std.proofs.Common.{◌≡◌, ℕ, ◌+◌, ◌-◌, ◌==◌, List, [], length, nat_le, nat_lt, Bool}
use Rattle.std.proofs.Common.{true, false, not, ◌&&◌, ◌||◌, Option, Some, None, refl, ap, sym, ◌∙◌, arith, inl, inr}
use Rattle.std.proofs.Common.{if◌then◌else◌}
use Rattle.std.proofs.lemmas.Bool.{both_ways, false_from_ne_true, or_left, or_parts, or_right}
use Rattle.split_types.specs.declared.ids.Pid.{Pid}
use Rattle.split_types.specs.declared.ids.ReqId.{ReqId}
use Rattle.split_types.specs.declared.ids.Serial.{Serial}
use Rattle.split_types.specs.declared.buf.Buf.TheVariants.{Page}
use Rattle.split_types.specs.declared.actor.Actor.{Actor}
use Rattle.split_types.specs.declared.request.ReqKind.TheVariants.{Read, Pages}
use Rattle.split_types.specs.declared.request.Request.{Request}
use Rattle.split_types.specs.declared.workload.Workload.{Workload}
use Rattle.split_types.specs.declared.event.Event.{Event}
use Rattle.split_types.specs.declared.event.Event.TheVariants.{Put, Map, Add, Done, Evict}
use Rattle.split_types.specs.History.{◌▹◌}
use Rattle.split_types.specs.Hooks.{maker, same_buf, covers}
use Rattle.split_types.specs.Workloads.{pages_in, page_block}
use Rattle.split_types.specs.Requests.{requests}
use Rattle.split_types.specs.Files.{is_live}
use Rattle.split_types.specs.Pages.{is_put_since}
use Rattle.split_types.specs.Reads.{is_loading, is_read_of}
use Rattle.split_types.specs.HeldPages.{is_placed, is_held}
use Rattle.split_types.specs.Victims.{victim}
use Rattle.split_types.specs.FileMaps.{mapped_block}
use Rattle.split_types.specs.PageBytes.{filled, filled_page, fill_of, page_bytes}
use Rattle.split_types.specs.Accepted.{IsAccepted}
use Rattle.split_types.specs.Legal.{IsLegal}
use Rattle.split_types.specs.Proving.Came.{Came}
use Rattle.split_types.specs.Proving.Came.Came.{came_evict}
use Rattle.split_types.specs.Proving.Runs.{MovesRun, MovesPages}
use Rattle.split_types.proofs.Shared.{slice_get-push_new, same_buf-is, case_false, came, known}
use Rattle.split_types.proofs.Shared.{written_page, among_at, read_moved, is_done, done_reads, victim_free}
use Rattle.split_types.proofs.Shared.{covers_moves, reads_moves, is_known, flying}
use Rattle.split_core.proofs.PageOrder.{same_buf-other}

-- ---- what requests move has a block
none_some : (o : Option ℕ) (x : ℕ) → o ≡ None → o ≡ Some x → ⊥
none_some o x none some = absurd (cc)

kind_pages : (s t : Serial) (g k : ℕ) → Pages s g ≡ Pages t k → (s ≡ t) × (g ≡ k)
kind_pages s t g k e = (cc, cc)

-- a page that a request writes has a block
written_mapped : (total : ℕ) (block_of : ℕ → ℕ → Option ℕ) (r : Request) (s : Serial) (g : ℕ)
    → MovesRun total block_of r → covers r (Page s g) ≡ true → (x : ℕ) × (block_of s.0 g ≡ Some x)
written_mapped total block_of r s g run is = by_kind run.kind
  where
    by_kind : MovesPages r.kind run.serial run.page → (x : ℕ) × (block_of s.0 g ≡ Some x)
    by_kind (inr (p, kind)) =
        absurd (let at = written_page r (Page s g) is
        in let e : Read p run.serial run.page ≡ Pages at.serial at.page = sym kind ∙ at.kind in cc)
    by_kind (inl kind) =
        let at = written_page r (Page s g) is
        in let same = kind_pages at.serial run.serial at.page run.page (sym at.kind ∙ kind)
        in let after = among_at at.serial at.page r.n (Page s g) at.among
        in let e : Page s g ≡ Page run.serial (run.page + after.after) =
        after.is ∙ ap (λ t. Page t (at.page + after.after)) same.0
        ∙ ap (λ k. Page run.serial (k + after.after)) same.1
        in let place = run.place after.after after.below
        in let file : s ≡ run.serial = cc
        in let page : g ≡ run.page + after.after = cc
        in (
          r.first + after.after,
          ap (λ (t : Serial). block_of t.0 g) file ∙ ap (block_of run.serial.0) page ∙ place,
        )

read_mapped : (total : ℕ) (block_of : ℕ → ℕ → Option ℕ) (r : Request) (s : Serial) (g : ℕ)
    → (run : MovesRun total block_of r) → Page s g ≡ Page run.serial run.page
    → (x : ℕ) × (block_of s.0 g ≡ Some x)
read_mapped total block_of r s g run is =
    let file : s ≡ run.serial = cc
    in let page : g ≡ run.page + 0 = (let e : g ≡ run.page = cc in omega (arith, e))
    in (
      r.first + 0,
      ap (λ (t : Serial). block_of t.0 g) file ∙ ap (block_of run.serial.0) page
          ∙ run.place 0 (omega (arith, run.run.some)),
    )

-- ---- a page without a block
-- where it was put or loaded, and not evicted since, no request took it since it was put; else it is zero
abbrev IsHole : Workload → List Event → Serial → ℕ → Type 0
IsHole w h s g =
    (is_placed h (Page s g) ≡ true → is_put_since h (Page s g) ≡ true)
    × (is_placed h (Page s g) ≡ false → page_bytes w h s g ≡ filled_page 0)

hole_start : (w : Workload) (s : Serial) (g : ℕ) → mapped_block w [] s.0 g ≡ None → IsHole w [] s g
hole_start w s g none = (λ placed. absurd (cc), λ out. by_test (nat_lt g (pages_in w s.0)) none)
  where
    by_test : (t : Bool) → (if t then Some (page_block w s.0 g) else None) ≡ None
        → filled_page (if t then fill_of w s.0 else 0) ≡ filled_page 0
    by_test true is = absurd (cc)
    by_test false is = refl

hole_put : (w : Workload) (h : List Event) (by : Pid) (s t : Serial) (g k from to fill : ℕ) → IsHole w h s g
    → IsHole w (h ▹ Put by t k from to fill) s g
hole_put w h by s t g k from to fill old = by_test (same_buf (Page s g) (Page t k)) refl
  where
    by_test : (b : Bool) → same_buf (Page s g) (Page t k) ≡ b → IsHole w (h ▹ Put by t k from to fill) s g
    by_test true is = (
      λ placed. or_left (same_buf (Page s g) (Page t k)) (is_put_since h (Page s g)) is,
      λ out. absurd (both_ways (same_buf (Page s g) (Page t k) || is_placed h (Page s g)) out
          (or_left (same_buf (Page s g) (Page t k)) (is_placed h (Page s g)) is)),
    )
    by_test false other = (
      λ placed. or_right (same_buf (Page s g) (Page t k)) (is_put_since h (Page s g))
          (old.0 (sym (ap (λ x. x || is_placed h (Page s g)) other) ∙ placed)),
      λ out. case_false (same_buf (Page t k) (Page s g)) (filled (page_bytes w h s g) from to fill)
          (page_bytes w h s g) (same_buf-other (Page s g) (Page t k) other)
          ∙ old.1 (sym (ap (λ x. x || is_placed h (Page s g)) other) ∙ out),
    )

hole_add : (w : Workload) (h : List Event) (by : Actor) (r : Request) (s : Serial) (g : ℕ) → IsAccepted w
    → IsLegal w (h ▹ Add by r) → mapped_block w h s.0 g ≡ None → IsHole w h s g → IsHole w (h ▹ Add by r) s g
hole_add w h by r s g accepted legal none old =
    let run = (known w (h ▹ Add by r) accepted legal).runs (length (requests h)) r (slice_get-push_new (requests h) r)
    in let free : covers r (Page s g) ≡ false =
    false_from_ne_true (covers r (Page s g)) (λ is. (let at = written_mapped _ _ r s g (run (covers_moves r (Page s g) is)) is
    in none_some (mapped_block w h s.0 g) at.0 none at.1))
    in (λ placed. ap (λ x. not x && is_put_since h (Page s g)) free ∙ old.0 placed, old.1)

hole_done : (w : Workload) (h : List Event) (k : ℕ) (id : ReqId) (s : Serial) (g : ℕ) → IsAccepted w
    → IsLegal w (h ▹ Done k id true) → mapped_block w h s.0 g ≡ None → IsHole w h s g
    → IsHole w (h ▹ Done k id true) s g
hole_done w h k id s g accepted legal none old =
    let d = is_done w h k id accepted legal
    in let fly = flying w h k d.request (is_known w h accepted legal.1) d.flying
    in let out : is_read_of h id (Page s g) ≡ false =
    false_from_ne_true (is_read_of h id (Page s g))
    (λ is. (let does = done_reads w h k id (Page s g) accepted legal d is
    in let run = fly.run (reads_moves d.request (Page s g) does)
    in let at = read_mapped _ _ d.request s g run (read_moved _ _ d.request (Page s g) run does)
    in none_some (mapped_block w h s.0 g) at.0 none at.1))
    in (
      λ placed. old.0 (sym (ap (λ x. x || is_placed h (Page s g)) out) ∙ placed),
      λ empty. old.1 (sym (ap (λ x. x || is_placed h (Page s g)) out) ∙ empty),
    )

hole_evict : (w : Workload) (h : List Event) (by : Pid) (s t : Serial) (g k : ℕ) → victim w h ≡ Some (Page t k)
    → IsHole w h s g → IsHole w (h ▹ Evict by t k) s g
hole_evict w h by s t g k next old = by_test (same_buf (Page s g) (Page t k)) refl
  where
    by_test : (b : Bool) → same_buf (Page s g) (Page t k) ≡ b → IsHole w (h ▹ Evict by t k) s g
    by_test true is =
        let free = victim_free w h (Page t k) next
        in let here : Page s g ≡ Page t k = same_buf-is (Page s g) (Page t k) is
        in let dirty = old.0 (ap (is_placed h) here ∙ free.placed)
        in absurd (both_ways (is_put_since h (Page s g)) (ap (is_put_since h) here ∙ free.clean) dirty)
    by_test false other = (
      λ placed. old.0 (sym (ap (λ x. not x && is_placed h (Page s g)) other) ∙ placed),
      λ out. old.1 (sym (ap (λ x. not x && is_placed h (Page s g)) other) ∙ out),
    )

came_victim : (w : Workload) (h : List Event) (by : Pid) (s : Serial) (g : ℕ) → Came w h (Evict by s g)
    → victim w h ≡ Some (Page s g)
came_victim w h by s g (came_evict p c serial piece here absent t k found) = found

unmapped : (test : Bool) (x : ℕ) (old : Option ℕ) → (if test then Some x else old) ≡ None → old ≡ None
unmapped true x old is = absurd (cc)
unmapped false x old is = is

holes : (w : Workload) (h : List Event) (s : Serial) (g : ℕ) → IsAccepted w → IsLegal w h
    → mapped_block w h s.0 g ≡ None → IsHole w h s g
holes w [] s g accepted legal none = hole_start w s g none
holes w (h ▹ Put by t k from to fill) s g accepted legal none =
    hole_put w h by s t g k from to fill (holes w h s g accepted legal.1 none)
holes w (h ▹ Map slot t page n block new size) s g accepted legal none =
    holes w h s g accepted legal.1
    (unmapped (t.0 == s.0 && nat_le page g && nat_lt g (page + n)) (block + (g - page)) (mapped_block w h s.0 g) none)
holes w (h ▹ Add by r) s g accepted legal none =
    hole_add w h by r s g accepted legal none (holes w h s g accepted legal.1 none)
holes w (h ▹ Done k id true) s g accepted legal none =
    hole_done w h k id s g accepted legal none (holes w h s g accepted legal.1 none)
holes w (h ▹ Evict by t k) s g accepted legal none =
    hole_evict w h by s t g k (came_victim w h by t k (came w h (maker (Evict by t k)) (Evict by t k) legal.0))
    (holes w h s g accepted legal.1 none)
holes w (h ▹ e) s g accepted legal none = holes w h s g accepted legal.1 none

-- ---- a page that isn't held
pub hole_zero : (w : Workload) (h : List Event) (s : Serial) (g : ℕ) → IsAccepted w → IsLegal w h
    → is_live w h s.0 ≡ true → mapped_block w h s.0 g ≡ None → is_held w h (Page s g) ≡ false
    → page_bytes w h s g ≡ filled_page 0
hole_zero w h s g accepted legal live none out =
    (holes w h s g accepted legal none).1
    (sym (ap (λ x. x && is_placed h (Page s g)) live)
    ∙ (or_parts (is_loading w h (Page s g)) (is_live w h s.0 && is_placed h (Page s g)) out).1)
