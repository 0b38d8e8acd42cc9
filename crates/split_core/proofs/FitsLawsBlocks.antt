-- The blocks of pages that are moved or mapped, and of requests that are added.
use Rattle.std.proofs.Common.{◌≡◌, ℕ, zero, suc, ◌+◌, ◌-◌, ◌<◌, ◌≤◌, List, length, count_by, nat_lt}
use Rattle.std.proofs.Common.{true, false, not, is_none, Option, Some, None, refl, ap, sym, ◌∙◌, subst}
use Rattle.std.proofs.Common.{arith, cond}
use Rattle.std.specs.List.{list_any}
use Rattle.std.proofs.lemmas.Bool.{and_parts, and_from, or_left, eqb-true}
use Rattle.std.proofs.lemmas.Bool.Decides.{nat_tests}
use Rattle.std.proofs.lemmas.List.Sums.{length-filter}
use Rattle.std.proofs.lemmas.Option.{same_Some}
use Rattle.split_types.specs.declared.ids.Pid.{Pid}
use Rattle.split_types.specs.declared.ids.Serial.{Serial}
use Rattle.split_types.specs.declared.buf.Buf.{Buf}
use Rattle.split_types.specs.declared.buf.Buf.TheVariants.{Page}
use Rattle.split_types.specs.declared.actor.Actor.TheVariants.{Client, Wb, Cm}
use Rattle.split_types.specs.declared.request.ReqKind.{ReqKind}
use Rattle.split_types.specs.declared.request.ReqKind.TheVariants as kind
use Rattle.split_types.specs.declared.request.Run.{Run}
use Rattle.split_types.specs.declared.call.Call.{Call}
use Rattle.split_types.specs.declared.workload.Workload.{Workload}
use Rattle.split_types.specs.declared.event.Event.{Event}
use Rattle.split_types.specs.History.{adds}
use Rattle.split_types.specs.Hooks.{is_among, same_buf}
use Rattle.split_types.specs.Files.{is_live}
use Rattle.split_types.specs.Pages.{is_dirty, is_busy}
use Rattle.split_types.specs.HeldPages.{known_pages}
use Rattle.split_types.specs.Pieces.{Piece}
use Rattle.split_types.specs.FileMaps.{mapped_block, free_blocks, has_no_block, is_reserved, reserved_pages}
use Rattle.split_types.specs.ServedRuns.{FreeRun, are_apart, free_run}
use Rattle.split_types.specs.Serving.{request_for}
use Rattle.split_types.specs.MapsInOrder.{IsServed}
use Rattle.split_types.specs.Accepted.{IsAccepted}
use Rattle.split_types.specs.Legal.{IsLegal}
use Rattle.split_types.specs.Proving.Came.{IsAtPiece, IsAbsent, Journals, read_request, journal_request}
use Rattle.split_types.proofs.Shared.{known, journal_known, maps_known, files_are_in_order, live_here}
use Rattle.split_types.proofs.Shared.{among_at, any_counted, pages_are_known, free_is}
use Rattle.split_types.proofs.JournalRows.{journal_run}
use Rattle.split_types.proofs.SumLaws.{count_by_less}
use Rattle.split_types.proofs.PromiseCounts.{count_both}
use Rattle.split_types.proofs.MapFree.{is_free}
use Rattle.split_core.specs.Fits.{HaveBlocks, MapsFree, IsBelowData, AddsKind, AddFits}

-- ---- pages that have blocks
pub have_blocks : (w : Workload) (h : List Event) (s : Serial) (g n first : ℕ) → IsAccepted w → IsLegal w h → 1 ≤ n
    → n ≤ 16 → g + n ≤ 1008 → ((k : ℕ) → k < n → mapped_block w h s.0 (g + k) ≡ Some (first + k))
    → HaveBlocks w h s g n first
have_blocks w h s g n first accepted legal some most within place =
    let maps = maps_known.maps w h accepted legal
    in let before = place 0 (omega (arith, some))
    in let behind = place (n - 1) (omega (arith, some))
    in record {
      some = some;
      most = most;
      within = within;
      from = omega (arith, (maps.placed s.0 (g + 0) (first + 0) before).from);
      to = omega (arith, some, (maps.placed s.0 (g + (n - 1)) (first + (n - 1)) behind).to);
      place = place;
    }

-- of two pages that are k pages apart in a run, the second has a block k behind that of the first
apart_some : (k x : ℕ) (a b : Option ℕ) → a ≡ Some x → are_apart k a b ≡ true → b ≡ Some (x + k)
apart_some k x None b some is = absurd (cc)
apart_some k x (Some y) None some is = absurd (cc)
apart_some k x (Some y) (Some z) some is = ap Some (eqb-true z (y + k) is ∙ ap (λ n. n + k) (same_Some y x some))

-- the pages of the run that is served, whose first page has a block
pub served_blocks : (w : Workload) (h : List Event) (run : Run) (block : ℕ) → IsAccepted w → IsLegal w h
    → IsServed w h run → mapped_block w h run.serial.0 run.page ≡ Some block
    → HaveBlocks w h run.serial run.page run.n block
served_blocks w h run block accepted legal served at =
    have_blocks w h run.serial run.page run.n block accepted legal served.some served.most served.within
    (λ k below. apart_some k block (mapped_block w h run.serial.0 run.page)
    (mapped_block w h run.serial.0 (run.page + k)) at (served.in_a_row k below))

-- one page
pub page_blocks : (w : Workload) (h : List Event) (s : Serial) (g block : ℕ) → IsAccepted w → IsLegal w h
    → mapped_block w h s.0 g ≡ Some block → HaveBlocks w h s g 1 block
page_blocks w h s g block accepted legal at =
    have_blocks w h s g 1 block accepted legal (omega arith) (omega arith)
    (omega (arith, ((maps_known.maps w h accepted legal).placed s.0 g block at).page)) there
  where
    there : (k : ℕ) → k < 1 → mapped_block w h s.0 (g + k) ≡ Some (block + k)
    there zero below =
        ap (mapped_block w h s.0) (omega arith) ∙ at ∙ ap Some (omega arith)
    there (suc k) below = absurd (omega (arith, below))

-- ---- pages without blocks
apart_none : (k : ℕ) (a b : Option ℕ) → a ≡ None → are_apart k a b ≡ true → b ≡ None
apart_none k None None none is = refl
apart_none k None (Some y) none is = absurd (cc)
apart_none k (Some x) b none is = absurd (cc)

-- a block is promised to each page of the run that is served, where its first page has none
pub run_promised : (w : Workload) (h : List Event) (run : Run) → IsServed w h run → is_live w h run.serial.0 ≡ true
    → mapped_block w h run.serial.0 run.page ≡ None → (k : ℕ) → k < run.n
    → is_reserved w h (Page run.serial (run.page + k)) ≡ true
run_promised w h run served live none k below =
    let b = Page run.serial (run.page + k)
    in and_from (is_dirty w h b) (has_no_block w h b)
    (and_parts (is_dirty w h b) (not (is_busy w h b)) (served.ready live k below)).0
    (ap is_none (apart_none k (mapped_block w h run.serial.0 run.page)
    (mapped_block w h run.serial.0 (run.page + k)) none (served.in_a_row k below)))

-- where each page of a run stands among some pages, these are as many at least
one_more : (s : Serial) (g n : ℕ) (b : Buf) → ◌≡◌ {A = ℕ} (cond (is_among s g (suc n) b) 1 0)
    (cond (is_among s g n b) 1 0 + cond (same_buf (Page s (g + n)) b) 1 0)
one_more s g n (Page t k) = grind (arith, nat_tests)
one_more s g n b = refl

run_stands : (s : Serial) (g n : ℕ) (bufs : List Buf)
    → ((k : ℕ) → k < n → list_any (same_buf (Page s (g + k))) bufs ≡ true) → n ≤ count_by (is_among s g n) bufs
run_stands s g zero bufs there = omega arith
run_stands s g (suc n) bufs there =
    let last : 1 ≤ count_by (same_buf (Page s (g + n))) bufs =
    some (count_by (same_buf (Page s (g + n))) bufs)
    (sym (any_counted (same_buf (Page s (g + n))) bufs) ∙ there n (omega arith))
    in omega (
      arith,
      last,
      run_stands s g n bufs (λ k below. there k (omega (arith, below))),
      count_both (is_among s g (suc n)) (is_among s g n) (same_buf (Page s (g + n))) bufs (one_more s g n),
    )
  where
    some : (m : ℕ) → nat_lt 0 m ≡ true → 1 ≤ m
    some m is = grind (arith, nat_tests)

-- so as many blocks are promised
pub promised_enough : (w : Workload) (h : List Event) (run : Run)
    → ((k : ℕ) → k < run.n → is_reserved w h (Page run.serial (run.page + k)) ≡ true)
    → run.n ≤ length (reserved_pages w h)
promised_enough w h run promised =
    omega (
      arith,
      run_stands run.serial run.page run.n (known_pages h) stands,
      count_by_less (is_among run.serial run.page run.n) (is_reserved w h) (known_pages h) among,
      length-filter (is_reserved w h) (known_pages h),
    )
  where
    stands : (k : ℕ) → k < run.n → list_any (same_buf (Page run.serial (run.page + k))) (known_pages h) ≡ true
    stands k below =
        let b = Page run.serial (run.page + k)
        in pages_are_known.unsettled w h b
        (or_left (is_dirty w h b) (is_busy w h b) (and_parts (is_dirty w h b) (has_no_block w h b) (promised k below)).0)

    among : (b : Buf) → is_among run.serial run.page run.n b ≡ true → is_reserved w h b ≡ true
    among b is =
        let at = among_at run.serial run.page run.n b is
        in subst (λ x. is_reserved w h x ≡ true) (sym at.is) (promised at.after at.below)

-- the pages of the run that is served get free blocks
pub maps_free : (w : Workload) (h : List Event) (run : Run) (free : FreeRun) → IsServed w h run
    → is_live w h run.serial.0 ≡ true → mapped_block w h run.serial.0 run.page ≡ None
    → free_run w h run.n ≡ Some free → MapsFree w h run free.n free.first
maps_free w h run free served live none at =
    let gets = free_is (free_blocks w h) run.n free at
    in let some = gets.some served.some
    in let promised = run_promised w h run served live none
    in let first = is_free w h (free.first + 0) (gets.each 0 (omega (arith, some)))
    in let last = is_free w h (free.first + (free.n - 1)) (gets.each (free.n - 1) (omega (arith, some)))
    in record {
      some = some;
      most = gets.most;
      free = at;
      promised = promised;
      enough = promised_enough w h run promised;
      from = omega (arith, first.from);
      to = omega (arith, last.to, some);
    }

-- ---- requests that are added
pub add_fits : (w : Workload) (h : List Event) (run : Run) (block : ℕ) → IsAccepted w → IsLegal w h → IsServed w h run
    → is_live w h run.serial.0 ≡ true → mapped_block w h run.serial.0 run.page ≡ Some block
    → AddFits w h Wb (request_for (adds h) run block)
add_fits w h run block accepted legal served live at =
    let f = known w h accepted legal
    in record {
      number = refl;
      counted = f.numbered.counted;
      unsent = f.unmade.cost_none (adds h) (omega arith);
      undone = f.unmade.state_none (adds h) (omega arith);
      kind = (
        refl,
        record { live = live; blocks = served_blocks w h run block accepted legal served at; ready = served.ready live },
      );
    }

pub load_fits : (w : Workload) (h : List Event) (by : Pid) (c : Call) (s : Serial) (piece : Piece) (block : ℕ)
    → IsAccepted w → IsLegal w h → IsAtPiece w h by c s piece → IsAbsent w h (Page s piece.page) false
    → mapped_block w h s.0 piece.page ≡ Some block
    → AddFits w h (Client by) (read_request (adds h) by s piece.page block)
load_fits w h by c s piece block accepted legal here absent at =
    let f = known w h accepted legal
    in let maps = maps_known.maps w h accepted legal
    in let live = live_here w h by c s piece here
    in record {
      number = refl;
      counted = f.numbered.counted;
      unsent = f.unmade.cost_none (adds h) (omega arith);
      undone = f.unmade.state_none (adds h) (omega arith);
      kind = (
        refl,
        record {
          page = record {
            live = live;
            numbered = ((files_are_in_order w h accepted legal).live s live).numbered;
            page = (maps.placed s.0 piece.page block at).page;
          };
          one = refl;
          blocks = page_blocks w h s piece.page block accepted legal at;
          absent = absent.absent;
          free = absent.full;
        },
      );
    }

-- a request of the journal moves blocks below those of data
journal_kind : (w : Workload) (h : List Event) (kind : ReqKind) (first n : ℕ) → Journals w h kind first n
    → IsBelowData w n first → AddsKind w h Cm kind n first
journal_kind w h (kind.Read p s g) first n next below = absurd (next)
journal_kind w h (kind.Pages s g) first n next below = absurd (next)
journal_kind w h (kind.Log t) first n next below = (refl, below)
journal_kind w h (kind.Commit t) first n next below = (refl, below)
journal_kind w h (kind.Home t) first n next below = (refl, below)
journal_kind w h (kind.Clear t) first n next below = (refl, below)

pub journal_fits : (w : Workload) (h : List Event) (kind : ReqKind) (first n : ℕ) → IsAccepted w → IsLegal w h
    → Journals w h kind first n → AddFits w h Cm (journal_request (adds h) kind first n)
journal_fits w h kind first n accepted legal next =
    let f = known w h accepted legal
    in let run = journal_run w h (adds h) kind first n (journal_known w h accepted legal) next
    in record {
      number = refl;
      counted = f.numbered.counted;
      unsent = f.unmade.cost_none (adds h) (omega arith);
      undone = f.unmade.state_none (adds h) (omega arith);
      kind = journal_kind w h kind first n next (record { some = run.some; most = run.most; within = run.within });
    }
