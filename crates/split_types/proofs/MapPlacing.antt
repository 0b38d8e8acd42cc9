-- The maps of files and the run that is served, through a serve and through both kinds of map.
use Rattle.std.proofs.Common.{◌≡◌, ℕ, ◌+◌, ◌-◌, ◌<◌, ◌≤◌, List, Bool, true, ◌||◌, Option, Some, None, refl, arith, subst, sym, inl, inr, ◌∙◌, ap, is_some, length}
use Rattle.std.specs.Prelude.{take_while}
use Rattle.std.specs.List.{range_with_len}
use Rattle.std.proofs.lemmas.Bool.{and_parts, and_from, or_left}
use Rattle.std.proofs.lemmas.Option.{same_Some}
use Rattle.split_types.specs.declared.ids.Serial.{Serial}
use Rattle.split_types.specs.declared.ids.Slot.{Slot}
use Rattle.split_types.specs.declared.buf.Buf.{Buf}
use Rattle.split_types.specs.declared.buf.Buf.TheVariants.{Page}
use Rattle.split_types.specs.declared.request.Run.{Run}
use Rattle.split_types.specs.declared.request.Service.TheVariants.{Mapped}
use Rattle.split_types.specs.declared.workload.Workload.{Workload}
use Rattle.split_types.specs.declared.event.Event.{Event}
use Rattle.split_types.specs.declared.event.Event.TheVariants.{Map}
use Rattle.split_types.specs.History.{◌▹◌}
use Rattle.split_types.specs.Files.{is_live}
use Rattle.split_types.specs.Pages.{is_ready}
use Rattle.split_types.specs.HeldPages.{known_pages}
use Rattle.split_types.specs.FileMaps.{mapped_block, is_in_map, is_dropped, free_blocks}
use Rattle.split_types.specs.ServedRuns.{FreeRun, first_ready, are_apart, goes_on, run_from, run_to_serve, free_run}
use Rattle.split_types.specs.Sets.{has}
use Rattle.split_types.proofs.MapBlocks.{IsPlacing, map_cases, map_here, blocks_map}
use Rattle.split_types.proofs.MapRuns.{while_passes, while_some, while_most, free_is, apart_none, apart_some, apart_both, apart_self, least_passes}
use Rattle.split_types.proofs.MapFree.{is_free, not_free}
use Rattle.split_types.proofs.MapState.{ServesOf, MapsOf, keeps_of, keeps_is, live_keeps, ready_put}

-- ---- serves
-- the run from a page that is ready
run_at : (w : Workload) (h : List Event) (s : Serial) (g : ℕ) → MapsOf w h → is_ready w h (Page s g) ≡ true
    → ServesOf w h
    (record { serial = s; page = g; n = length (take_while (goes_on w h s g) (range_with_len 0 16)) })
run_at w h s g f ready = record {
  numbered = f.numbered s.0 (or_left (is_live w h s.0) (is_dropped h s.0) (ready_put w h s g ready).0);
  some = some;
  most = while_most (goes_on w h s g) 16;
  within = within;
  in_a_row = λ k below. (both k below).1;
  all_ready = λ live k below. (both k below).0;
}
  where
    n : ℕ
    n = length (take_while (goes_on w h s g) (range_with_len 0 16))

    same : g + 0 ≡ g
    same = omega arith

    first : goes_on w h s g 0 ≡ true
    first =
        and_from (is_ready w h (Page s (g + 0)))
        (are_apart 0 (mapped_block w h s.0 g) (mapped_block w h s.0 (g + 0)))
        (subst (λ k. is_ready w h (Page s k) ≡ true) (sym same) ready)
        (subst (λ k. are_apart 0 (mapped_block w h s.0 g) (mapped_block w h s.0 k) ≡ true) (sym same)
        (apart_self (mapped_block w h s.0 g)))

    some : 1 ≤ n
    some = while_some (goes_on w h s g) 16 first (omega arith)

    both : (k : ℕ) → k < n
        → (is_ready w h (Page s (g + k)) ≡ true)
        × (are_apart k (mapped_block w h s.0 g) (mapped_block w h s.0 (g + k)) ≡ true)
    both k below =
        and_parts (is_ready w h (Page s (g + k)))
        (are_apart k (mapped_block w h s.0 g) (mapped_block w h s.0 (g + k)))
        (while_passes (goes_on w h s g) 16 k below)

    within : g + n ≤ 1008
    within =
        let last : ℕ = n - 1 in
        let below : last < n = omega (arith, some) in
        let put = f.put s (g + last) (ready_put w h s (g + last) (both last below).0).1 in
        omega (arith, put.1, some)

-- the run that writeback serves next
pub serves_next : (w : Workload) (h : List Event) (run : Run) → MapsOf w h → run_to_serve w h ≡ Some run
    → ServesOf w h run
serves_next w h run f found = by_first (first_ready w h) refl found
  where
    by_page : (b : Buf) → is_ready w h b ≡ true → run_from w h b ≡ Some run → ServesOf w h run
    by_page (Page s g) ready is = subst (ServesOf w h) (same_Some _ run is) (run_at w h s g f ready)
    by_page b ready is = absurd (cc)

    by_first : (o : Option Buf) → first_ready w h ≡ o → (elim o [ None ↦ None | Some b ↦ run_from w h b ]) ≡ Some run
        → ServesOf w h run
    by_first None at is = absurd (cc)
    by_first (Some b) at is = by_page b (least_passes (is_ready w h) (known_pages h) b at) is

-- ---- maps
-- free blocks for pages without blocks
pub placing_new : (w : Workload) (h : List Event) (run : Run) (free : FreeRun) → MapsOf w h → ServesOf w h run
    → mapped_block w h run.serial.0 run.page ≡ None → free_run w h run.n ≡ Some free
    → IsPlacing w (λ s g. mapped_block w h s g) (keeps_of w h) run.serial.0 run.page free.n free.first
placing_new w h run free f serves none found =
    let is = free_is (free_blocks w h) run.n free found in
    record {
      within = omega (arith, serves.within, is.most);
      from = λ k below. (is_free w h (free.first + k) (is.each k below)).from;
      to = λ k below. (is_free w h (free.first + k) (is.each k below)).to;
      own = λ s g k below at keeps. absurd (taken s g (free.first + k) at keeps (is.each k below));
      same = λ k x below at. absurd (mapped k x (omega (arith, below, is.most)) at);
    }
  where
    taken : (s g x : ℕ) → mapped_block w h s g ≡ Some x → keeps_of w h s ≡ true → has (free_blocks w h) x ≡ true → ⊥
    taken s g x at keeps free =
        not_free w h s x (f.numbered s (f.kept s g x at)) (sym (keeps_is w h s) ∙ keeps) (f.blocks.in_map s g x at)
        (is_free w h x free)

    mapped : (k x : ℕ) → k < run.n → mapped_block w h run.serial.0 (run.page + k) ≡ Some x → ⊥
    mapped k x below at =
        differ (mapped_block w h run.serial.0 (run.page + k)) x
        (apart_none k (mapped_block w h run.serial.0 run.page) (mapped_block w h run.serial.0 (run.page + k)) none
        (serves.in_a_row k below)) at
      where
        differ : (o : Option ℕ) (x : ℕ) → o ≡ None → o ≡ Some x → ⊥
        differ o x none is = absurd (cc)

-- the blocks that the pages have
pub placing_old : (w : Workload) (h : List Event) (run : Run) (block : ℕ) → MapsOf w h → ServesOf w h run
    → is_live w h run.serial.0 ≡ true → mapped_block w h run.serial.0 run.page ≡ Some block
    → IsPlacing w (λ s g. mapped_block w h s g) (keeps_of w h) run.serial.0 run.page run.n block
placing_old w h run block f serves live first = record {
  within = serves.within;
  from = λ k below. f.blocks.from run.serial.0 (run.page + k) (block + k) (there k below);
  to = λ k below. f.blocks.to run.serial.0 (run.page + k) (block + k) (there k below);
  own = λ s g k below at keeps.
      f.blocks.apart s run.serial.0 g (run.page + k) (block + k) at (there k below) keeps
      (live_keeps w h run.serial.0 live);
  same = λ k x below at. same_Some x (block + k) (sym at ∙ there k below);
}
  where
    there : (k : ℕ) → k < run.n → mapped_block w h run.serial.0 (run.page + k) ≡ Some (block + k)
    there k below =
        apart_some k block (mapped_block w h run.serial.0 run.page)
        (mapped_block w h run.serial.0 (run.page + k)) first (serves.in_a_row k below)

-- through a map of the first pages of the run that is served
pub step_map : (w : Workload) (h : List Event) (slot : Slot) (run : Run) (n block : ℕ) (new : Bool) (size : ℕ)
    → MapsOf w h → ServesOf w h run → is_live w h run.serial.0 ≡ true
    → IsPlacing w (λ s g. mapped_block w h s g) (keeps_of w h) run.serial.0 run.page n block → 1 ≤ n → n ≤ run.n
    → MapsOf w (h ▹ Map slot run.serial run.page n block new size)
step_map w h slot run n block new size f serves live placing some most = record {
  blocks = blocks_map w (λ s g. mapped_block w h s g) (λ s x. is_in_map w h s x) (keeps_of w h) run.serial.0 run.page n
      block f.blocks placing;
  kept = λ s g x at. elim (map_cases (λ s g. mapped_block w h s g) run.serial.0 run.page n block s g x at) [
    | inl here ↦
        subst (λ t. (is_live w h t || is_dropped h t) ≡ true) (sym here.file)
        (or_left (is_live w h run.serial.0) (is_dropped h run.serial.0) live)
    | inr old ↦ f.kept s g x old
  ];
  numbered = f.numbered;
  put = f.put;
  served =
      λ next at. subst (ServesOf w (h ▹ Map slot run.serial run.page n block new size)) (same_Some left next at) now;
  mapped =
      λ next at. subst (λ r. is_some (after r.serial.0 r.page) ≡ true) (same_mapped left next at) (ap is_some first);
}
  where
    after : ℕ → ℕ → Option ℕ
    after s g = mapped_block w (h ▹ Map slot run.serial run.page n block new size) s g

    left : Run
    left = record { serial = run.serial; page = run.page; n = n }

    same_mapped : (a b : Run) → Mapped a ≡ Mapped b → a ≡ b
    same_mapped a b e = cc

    there : (k : ℕ) → k < n → after run.serial.0 (run.page + k) ≡ Some (block + k)
    there k below = map_here (λ s g. mapped_block w h s g) run.serial.0 run.page n block k below

    same : run.page + 0 ≡ run.page
    same = omega arith

    first : after run.serial.0 run.page ≡ Some (block + 0)
    first = subst (λ g. after run.serial.0 g ≡ Some (block + 0)) same (there 0 (omega (arith, some)))

    now : ServesOf w (h ▹ Map slot run.serial run.page n block new size) left
    now = record {
      numbered = serves.numbered;
      some = some;
      most = omega (arith, most, serves.most);
      within = omega (arith, most, serves.within);
      in_a_row = λ k below. apart_both k (block + 0) (block + k) (after run.serial.0 run.page)
          (after run.serial.0 (run.page + k)) first (there k below) (omega arith);
      all_ready = λ there k below. serves.all_ready there k (omega (arith, below, most));
    }
