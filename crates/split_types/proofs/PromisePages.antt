-- Pages to which free blocks are promised, from one event to the next: how many more or fewer there are.
use Rattle.std.proofs.Common.{◌≡◌, ℕ, ◌+◌, ◌-◌, ◌<◌, ◌≤◌, List, [], ◌∷◌, length, count_by, nat_le, Bool, true, false, not, ◌&&◌, ◌||◌, Some, None, is_none, refl, arith, sym, subst, inl, inr, ap, ◌∙◌}
use Rattle.std.specs.List.{list_any, range_with_len}
use Rattle.std.proofs.lemmas.Bool.{cases_Bool, cond-true, cond-false, and_parts, and_from, or_parts, or_left, both_ways, false_from_ne_true}
use Rattle.std.proofs.lemmas.Bool.Decides.{nat_tests}
use Rattle.std.proofs.lemmas.List.{length-map}
use Rattle.std.proofs.lemmas.List.FromFn.{length-range_with_len}
use Rattle.std.proofs.lemmas.List.Sums.{length-filter}
use Rattle.split_types.specs.declared.ids.Pid.{Pid}
use Rattle.split_types.specs.declared.ids.Serial.{Serial}
use Rattle.split_types.specs.declared.ids.Slot.{Slot}
use Rattle.split_types.specs.declared.buf.Buf.{Buf}
use Rattle.split_types.specs.declared.buf.Buf.TheVariants.{Page}
use Rattle.split_types.specs.declared.request.Run.{Run}
use Rattle.split_types.specs.declared.workload.Workload.{Workload}
use Rattle.split_types.specs.declared.event.Event.{Event}
use Rattle.split_types.specs.declared.event.Event.TheVariants.{Put, Map}
use Rattle.split_types.specs.History.{◌▹◌}
use Rattle.split_types.specs.Hooks.{same_buf, is_among}
use Rattle.split_types.specs.Parents.{pages_of}
use Rattle.split_types.specs.Files.{is_live}
use Rattle.split_types.specs.Pages.{is_put_since, is_dirty, is_busy}
use Rattle.split_types.specs.HeldPages.{with_page, known_pages}
use Rattle.split_types.specs.FileMaps.{mapped_block, free_blocks, has_no_block, is_reserved, reserved_pages, is_without_space}
use Rattle.split_types.specs.Serving.{request_for}
use Rattle.split_types.proofs.Lists.{count_yes, count_no}
use Rattle.split_types.proofs.HeldLaws.{same_buf-is, same_buf-self, among_pages, pages_are_known}
use Rattle.split_types.proofs.CacheCounts.{StandsIn, lengths_differ, lengths_same}
use Rattle.split_types.proofs.CacheRuns.{are_written}
use Rattle.split_types.proofs.MapRuns.{apart_none}
use Rattle.split_types.proofs.MapState.{ServesOf}
use Rattle.split_types.proofs.PromiseCounts.{count_fewer, count_all, count_nothing, count_most}

-- such a page is dirty, so it is known
reserved_known : (w : Workload) (h : List Event) (b : Buf) → is_reserved w h b ≡ true → StandsIn b (known_pages h)
reserved_known w h b is =
    pages_are_known.unsettled w h b
    (or_left (is_dirty w h b) (is_busy w h b) (and_parts (is_dirty w h b) (has_no_block w h b) is).0)

-- ---- no page more
pub reserved_fewer : (w : Workload) (h : List Event) (e : Event)
    → ((s : Serial) (g : ℕ) → is_reserved w (h ▹ e) (Page s g) ≡ true → is_reserved w h (Page s g) ≡ true)
    → length (reserved_pages w (h ▹ e)) ≤ length (reserved_pages w h)
reserved_fewer w h e was =
    omega (
      arith,
      lengths_same (is_reserved w h) (is_reserved w h) h e (reserved_known w h) (λ b. refl),
      length-filter (is_reserved w h) (known_pages (h ▹ e)),
      length-filter (is_reserved w (h ▹ e)) (known_pages (h ▹ e)),
      count_fewer (is_reserved w h) (is_reserved w (h ▹ e)) (known_pages (h ▹ e)) weaker,
    )
  where
    weaker : (b : Buf) → is_reserved w (h ▹ e) b ≡ true → is_reserved w h b ≡ true
    weaker (Page s g) is = was s g is
    weaker b is = absurd (cc)

-- ---- a put
-- where it isn't refused for want of space, there is a free block more than are promised
room : (none reserved : Bool) (free promised : ℕ) → none ≡ true → reserved ≡ false
    → (none && not reserved && nat_le free promised) ≡ false → promised < free
room true false free promised is out space = grind (arith, nat_tests)
room false reserved free promised is out space = absurd (cc)
room none true free promised is out space = absurd (cc)

-- the page that is put is known
put_stands : (c : Buf) (bufs : List Buf) → StandsIn c (with_page c bufs)
put_stands c bufs = elim (cases_Bool (list_any (same_buf c) bufs)) [
  | inl old ↦
      ap (list_any (same_buf c)) (cond-true (list_any (same_buf c) bufs) bufs (c ∷ bufs) old) ∙ old
  | inr new ↦
      ap (list_any (same_buf c)) (cond-false (list_any (same_buf c) bufs) bufs (c ∷ bufs) new)
      ∙ or_left (same_buf c c) (list_any (same_buf c) bufs) (same_buf-self c)
]

pub reserved_put : (w : Workload) (h : List Event) (by : Pid) (s : Serial) (g from to fill : ℕ)
    → is_without_space w h (Page s g) ≡ false → length (reserved_pages w h) ≤ length (free_blocks w h)
    → length (reserved_pages w (h ▹ Put by s g from to fill)) ≤ length (free_blocks w h)
reserved_put w h by s g from to fill space was = elim (cases_Bool (is_reserved w h (Page s g))) [
  | inl reserved ↦
      omega (
        arith,
        was,
        differ,
        count_yes (is_reserved w h) (Page s g) [] reserved,
        count_most (is_reserved w later) (Page s g),
      )
  | inr unreserved ↦ elim (cases_Bool (has_no_block w h (Page s g))) [
    | inl none ↦
        omega (
          arith,
          differ,
          count_most (is_reserved w later) (Page s g),
          room (has_no_block w h (Page s g)) (is_reserved w h (Page s g)) (length (free_blocks w h))
              (length (reserved_pages w h)) none unreserved space,
        )
    | inr placed ↦
        omega (arith, was, differ, count_no (is_reserved w later) (Page s g) [] (placed_still placed))
  ]
]
  where
    later : List Event
    later = h ▹ Put by s g from to fill

    agree : (b : Buf) → list_any (same_buf b) (Page s g ∷ []) ≡ false → is_reserved w h b ≡ is_reserved w later b
    agree (Page t k) none =
        ap (λ a. (is_live w h t.0 && (a || is_put_since h (Page t k))) && is_none (mapped_block w h t.0 k))
        (sym (or_parts (same_buf (Page t k) (Page s g)) false none).0)
    agree b none = refl

    only : (t : Bool) → (t || false) ≡ true → t ≡ true
    only true is = refl
    only false is = absurd (cc)

    known : (b : Buf) → StandsIn b (Page s g ∷ []) → StandsIn b (known_pages later)
    known b stands =
        subst (λ x. StandsIn x (known_pages later))
        (sym (same_buf-is b (Page s g) (only (same_buf b (Page s g)) stands))) (put_stands (Page s g) (known_pages h))

    differ : length (reserved_pages w later) + count_by (is_reserved w h) (Page s g ∷ [])
        ≡ length (reserved_pages w h) + count_by (is_reserved w later) (Page s g ∷ [])
    differ =
        lengths_differ (is_reserved w h) (is_reserved w later) h (Put by s g from to fill) (Page s g ∷ [])
        (reserved_known w h) agree (refl, tt) known

    placed_still : has_no_block w h (Page s g) ≡ false → is_reserved w later (Page s g) ≡ false
    placed_still placed = false_from_ne_true (is_reserved w later (Page s g))
        (λ is. both_ways (has_no_block w h (Page s g)) placed
        (and_parts (is_dirty w later (Page s g)) (has_no_block w h (Page s g)) is).1)

-- ---- a map of pages without blocks
-- a page of the run that is served has a block promised
run_reserved : (w : Workload) (h : List Event) (run : Run) (c : Buf) → ServesOf w h run
    → is_live w h run.serial.0 ≡ true → mapped_block w h run.serial.0 run.page ≡ None
    → is_among run.serial run.page run.n c ≡ true → is_reserved w h c ≡ true
run_reserved w h run (Page t k) serves live none is =
    let within : (run.serial.0 ≡ t.0) × (run.page ≤ k) × (k < run.page + run.n) = grind (arith, nat_tests) in
    let behind : ℕ = k - run.page in
    let below : behind < run.n = omega (arith, within.1, within.2) in
    let page : run.page + behind ≡ k = omega (arith, within.1) in
    subst (λ b. is_reserved w h b ≡ true)
    (ap (λ j. Page run.serial j) page ∙ ap (λ n. Page (record { 0 = n }) k) within.0) (at behind below)
  where
    at : (j : ℕ) → j < run.n → is_reserved w h (Page run.serial (run.page + j)) ≡ true
    at j below =
        and_from (is_dirty w h (Page run.serial (run.page + j))) (has_no_block w h (Page run.serial (run.page + j)))
        (and_parts (is_dirty w h (Page run.serial (run.page + j)))
        (not (is_busy w h (Page run.serial (run.page + j)))) (serves.all_ready live j below)).0
        (ap is_none (apart_none j (mapped_block w h run.serial.0 run.page)
        (mapped_block w h run.serial.0 (run.page + j)) none (serves.in_a_row j below)))
run_reserved w h run c serves live none is = absurd (cc)

-- the first n pages of a run are among its pages
among_first : (s : Serial) (g n m : ℕ) (c : Buf) → n ≤ m → is_among s g n c ≡ true → is_among s g m c ≡ true
among_first s g n m (Page t k) most is =
    let within : (s.0 ≡ t.0) × (g ≤ k) × (k < g + n) = grind (arith, nat_tests) in
    let first = within.0 in
    let least = within.1 in
    let below : k < g + m = omega (arith, within.2, most) in
    grind (arith, nat_tests)
among_first s g n m c most is = absurd (cc)

-- as many pages fewer as the map has
pub reserved_mapped : (w : Workload) (h : List Event) (slot : Slot) (run : Run) (n block : ℕ) (new : Bool) (size : ℕ)
    → ServesOf w h run → is_live w h run.serial.0 ≡ true → mapped_block w h run.serial.0 run.page ≡ None → n ≤ run.n
    → length (reserved_pages w (h ▹ Map slot run.serial run.page n block new size)) + n ≡ length (reserved_pages w h)
reserved_mapped w h slot run n block new size serves live none most =
    omega (
      arith,
      lengths_differ (is_reserved w h) (is_reserved w later) h (Map slot run.serial run.page n block new size) pages
          (reserved_known w h) agree (are_written (request_for 0 first 0)).distinct
          (λ c stands. reserved_known w h c (before c stands)),
      count_all (is_reserved w h) pages before,
      count_nothing (is_reserved w later) pages after,
      length-map (range_with_len run.page n) (Page run.serial),
      length-range_with_len run.page n,
    )
  where
    later : List Event
    later = h ▹ Map slot run.serial run.page n block new size

    pages : List Buf
    pages = pages_of run.serial run.page n

    first : Run
    first = record { serial = run.serial; page = run.page; n = n }

    among : (c : Buf) → StandsIn c pages → is_among run.serial run.page n c ≡ true
    among c stands = (are_written (request_for 0 first 0)).covered c stands

    before : (c : Buf) → StandsIn c pages → is_reserved w h c ≡ true
    before c stands =
        run_reserved w h run c serves live none (among_first run.serial run.page n run.n c most (among c stands))

    -- a page of the map has a block after it
    mapped : (c : Buf) → is_among run.serial run.page n c ≡ true → has_no_block w later c ≡ false
    mapped (Page t k) is =
        ap is_none (cond-true (is_among run.serial run.page n (Page t k)) (Some (block + (k - run.page)))
        (mapped_block w h t.0 k) is)
    mapped c is = refl

    after : (c : Buf) → StandsIn c pages → is_reserved w later c ≡ false
    after c stands = false_from_ne_true (is_reserved w later c)
        (λ is. both_ways (has_no_block w later c) (mapped c (among c stands))
        (and_parts (is_dirty w later c) (has_no_block w later c) is).1)

    -- another page isn't
    another : (c : Buf) → list_any (same_buf c) pages ≡ false → is_among run.serial run.page n c ≡ false
    another c out = false_from_ne_true (is_among run.serial run.page n c)
        (λ is. both_ways (list_any (same_buf c) pages) out (among_pages run.serial run.page n c is))

    agree : (c : Buf) → list_any (same_buf c) pages ≡ false → is_reserved w h c ≡ is_reserved w later c
    agree (Page t k) out =
        ap (λ m. is_dirty w h (Page t k) && is_none m)
        (sym (cond-false (is_among run.serial run.page n (Page t k)) (Some (block + (k - run.page)))
        (mapped_block w h t.0 k) (another (Page t k) out)))
    agree c out = refl
