-- How many pages are dirty: a put adds one at most, a request that is added for a run takes one at least, and no other
-- event adds any.
use Rattle.std.proofs.Common.{◌≡◌, ℕ, ◌+◌, ◌==◌, ◌<◌, ◌≤◌, List, [], length, Bool, true, false, not, ◌&&◌, ◌||◌, Option, Some, None, refl, arith, subst, count_by, ◌∙◌, ap}
use Rattle.std.specs.List.{list_any}
use Rattle.std.proofs.lemmas.Bool.{and_from, and_parts, or_left}
use Rattle.std.proofs.lemmas.Bool.Decides.{nat_tests}
use Rattle.std.proofs.lemmas.List.Sums.{length-filter}
use Rattle.std.proofs.lemmas.Option.{same_Some}
use Rattle.split_types.specs.declared.ids.Pid.{Pid}
use Rattle.split_types.specs.declared.ids.Serial.{Serial}
use Rattle.split_types.specs.declared.ids.Slot.{Slot}
use Rattle.split_types.specs.declared.buf.Buf.{Buf}
use Rattle.split_types.specs.declared.buf.Buf.TheVariants.{Page, Bitmap, Dir, Inode}
use Rattle.split_types.specs.declared.actor.Actor.{Actor}
use Rattle.split_types.specs.declared.actor.Actor.TheVariants.{Client, Wb, Cm}
use Rattle.split_types.specs.declared.request.ReqKind.{ReqKind}
use Rattle.split_types.specs.declared.request.ReqKind.TheVariants.{Log, Commit, Home, Clear}
use Rattle.split_types.specs.declared.request.Request.{Request}
use Rattle.split_types.specs.declared.request.Run.{Run}
use Rattle.split_types.specs.declared.workload.Workload.{Workload}
use Rattle.split_types.specs.declared.event.Event.{Event}
use Rattle.split_types.specs.declared.event.Event.TheVariants.{Make, Put, Drop, Add}
use Rattle.split_types.specs.History.{◌▹◌, adds}
use Rattle.split_types.specs.Hooks.{same_buf, is_among}
use Rattle.split_types.specs.Files.{is_live}
use Rattle.split_types.specs.Pages.{is_live_page, is_put_since, is_dirty, is_busy, is_ready}
use Rattle.split_types.specs.HeldPages.{known_pages}
use Rattle.split_types.specs.Workloads.{all_pages, pages_in, page_index}
use Rattle.split_types.specs.FileSlots.{next_serial}
use Rattle.split_types.specs.ServedRuns.{first_ready, run_from, run_to_serve}
use Rattle.split_types.specs.Serving.{request_for}
use Rattle.split_types.specs.MapsInOrder.{AreMaps, IsServed}
use Rattle.split_types.specs.Proving.Came.{Journals, read_request, journal_request}
use Rattle.split_types.proofs.Lists.{list_any_here, find_some}
use Rattle.split_types.proofs.PageLaws.{page_stands}
use Rattle.split_types.proofs.MapRuns.{least_passes}
use Rattle.split_types.proofs.Pigeonhole.{count_once}
use Rattle.split_types.proofs.HeldLaws.{same_buf-is, pages_are_known}
use Rattle.split_types.proofs.CacheCounts.{StandsIn, lengths_same}
use Rattle.split_types.proofs.ReadyLaws.{ready_parts}
use Rattle.split_types.proofs.SumLaws.{count_by_either, count_by_fewer, count_by_less}

-- how many pages are dirty
abbrev pub dirty_pages : Workload → List Event → ℕ
dirty_pages w h = count_by (is_dirty w h) (known_pages h)

-- a page of a preset file that passes a test stands among all their pages
pub any_page : (test : Buf → Bool) (w : Workload) (s : Serial) (g : ℕ) → s.0 < length w.files → g < pages_in w s.0
    → test (Page s g) ≡ true → list_any test (all_pages w) ≡ true
any_page test w s g file within passes =
    list_any_here test (all_pages w) (page_index w s.0 g) (Page s g) (page_stands w s g file within) passes

-- ---- known pages
-- a page that is dirty is known
dirty_known : (w : Workload) (h : List Event) (b : Buf) → is_dirty w h b ≡ true → StandsIn b (known_pages h)
dirty_known w h b dirty = pages_are_known.unsettled w h b (or_left (is_dirty w h b) (is_busy w h b) dirty)

-- a known page that passes a test stands among the known pages
any_known : (test : Buf → Bool) (h : List Event) (b : Buf) → StandsIn b (known_pages h) → test b ≡ true
    → list_any test (known_pages h) ≡ true
any_known test h b stands passes =
    let found = find_some (same_buf b) (known_pages h) stands
    in list_any_here test (known_pages h) found.place found.element found.there
    (subst (λ c. test c ≡ true) (same_buf-is b found.element found.passes) passes)

-- where pages that pass were known before an event, no more pass after it
as_many : (test : Buf → Bool) (h : List Event) (e : Event)
    → ((b : Buf) → test b ≡ true → StandsIn b (known_pages h))
    → count_by test (known_pages (h ▹ e)) ≡ count_by test (known_pages h)
as_many test h e there =
    omega (
      arith,
      lengths_same test test h e there (λ b. refl),
      length-filter test (known_pages (h ▹ e)),
      length-filter test (known_pages h),
    )

-- a page is known once at most
known_at_most : (h : List Event) (c : Buf) → count_by (λ b. same_buf b c) (known_pages h) ≤ 1
known_at_most h c =
    count_once (λ b. same_buf b c) (known_pages h)
    (λ i j x y first second one two. pages_are_known.once h i j c
    (first ∙ ap Some (same_buf-is x c one)) (second ∙ ap Some (same_buf-is y c two)))

-- ---- runs that are served
-- the file of a run that is served next is there
pub serves_live : (w : Workload) (h : List Event) (run : Run) → run_to_serve w h ≡ Some run
    → is_live w h run.serial.0 ≡ true
serves_live w h run found = by_first (first_ready w h) (least_passes (is_ready w h) (known_pages h)) found
  where
    by_first : (o : Option Buf) → ((b : Buf) → o ≡ Some b → is_ready w h b ≡ true)
        → (elim o [ None ↦ None | Some b ↦ run_from w h b ]) ≡ Some run → is_live w h run.serial.0 ≡ true
    by_first None ready is = absurd (cc)
    by_first (Some (Page s g)) ready is =
        subst (λ x. is_live w h x ≡ true) (ap (λ r. r.serial.0) (same_Some _ run is))
        (ready_parts w h s g (ready (Page s g) refl)).live
    by_first (Some b) ready is = absurd (cc)

-- where writeback serves a run of a file that is there a page of it is dirty
pub served_dirty : (w : Workload) (h : List Event) (run : Run) → is_live w h run.serial.0 ≡ true → IsServed w h run
    → list_any (λ b. is_among run.serial run.page run.n b && is_dirty w h b) (known_pages h) ≡ true
served_dirty w h run live served =
    let ready = served.ready live 0 (omega (arith, served.some))
    in let first : Buf = Page run.serial (run.page + 0)
    in let dirty : is_dirty w h first ≡ true = (and_parts (is_dirty w h first) (not (is_busy w h first)) ready).0
    in any_known (λ b. is_among run.serial run.page run.n b && is_dirty w h b) h first
    (dirty_known w h first dirty)
    (and_from (is_among run.serial run.page run.n first) (is_dirty w h first)
    (among run.serial run.page run.n served.some) dirty)
  where
    among : (s : Serial) (g n : ℕ) → 1 ≤ n → is_among s g n (Page s (g + 0)) ≡ true
    among s g n some = grind (arith, nat_tests)

-- ---- how many pages are dirty
-- events of these kinds neither make nor drop a file
live_put : (w : Workload) (h : List Event) (p : Pid) (s : Serial) (g from to fill : ℕ) (b : Buf)
    → is_live_page w (h ▹ Put p s g from to fill) b ≡ is_live_page w h b
live_put w h p s g from to fill (Page t k) = refl
live_put w h p s g from to fill Bitmap = refl
live_put w h p s g from to fill (Dir k) = refl
live_put w h p s g from to fill (Inode slot) = refl

live_add : (w : Workload) (h : List Event) (by : Actor) (r : Request) (b : Buf)
    → is_live_page w (h ▹ Add by r) b ≡ is_live_page w h b
live_add w h by r (Page t k) = refl
live_add w h by r Bitmap = refl
live_add w h by r (Dir k) = refl
live_add w h by r (Inode slot) = refl

-- no page is dirty at first
pub dirty_none : (w : Workload) → dirty_pages w [] ≡ 0
dirty_none w = refl

-- a put dirties one page more at most
pub dirty_put : (w : Workload) (h : List Event) (p : Pid) (s : Serial) (g from to fill : ℕ)
    → dirty_pages w (h ▹ Put p s g from to fill) ≤ dirty_pages w h + 1
dirty_put w h p s g from to fill =
    omega (
      arith,
      known_at_most (h ▹ Put p s g from to fill) (Page s g),
      as_many (is_dirty w h) h (Put p s g from to fill) (dirty_known w h),
      count_by_either (is_dirty w (h ▹ Put p s g from to fill)) (λ c. same_buf c (Page s g)) (is_dirty w h)
          (known_pages (h ▹ Put p s g from to fill)) (λ c. either c (live_put w h p s g from to fill c)),
    )
  where
    either : (c : Buf) → is_live_page w (h ▹ Put p s g from to fill) c ≡ is_live_page w h c
        → is_dirty w (h ▹ Put p s g from to fill) c ≡ true → (same_buf c (Page s g) || is_dirty w h c) ≡ true
    either c live dirty =
        cases (is_live_page w (h ▹ Put p s g from to fill) c) (is_live_page w h c) (same_buf c (Page s g))
        (is_put_since h c) live dirty
      where
        cases : (a b x y : Bool) → a ≡ b → (a && (x || y)) ≡ true → (x || (b && y)) ≡ true
        cases a b x y same is = grind arith

-- a request that is added for a run that is served, whose file is there, takes a dirty page at least
pub dirty_add : (w : Workload) (h : List Event) (run : Run) (block : ℕ) → is_live w h run.serial.0 ≡ true
    → IsServed w h run → dirty_pages w (h ▹ Add Wb (request_for (adds h) run block)) + 1 ≤ dirty_pages w h
dirty_add w h run block live served =
    let fewer =
    count_by_fewer (is_dirty w (h ▹ Add Wb r)) (is_dirty w h)
    (λ b. is_among run.serial run.page run.n b && is_dirty w h b) (known_pages h) left
    (λ b. goes (is_live_page w (h ▹ Add Wb r) b) (is_live_page w h b) (is_among run.serial run.page run.n b)
    (is_put_since h b))
    (served_dirty w h run live served)
    in omega (
      arith,
      fewer,
      as_many (is_dirty w (h ▹ Add Wb r)) h (Add Wb r) (λ b dirty. dirty_known w h b (left b dirty)),
    )
  where
    r : Request
    r = request_for (adds h) run block

    stays : (a b x y : Bool) → a ≡ b → (a && (not x && y)) ≡ true → (b && y) ≡ true
    stays a b x y same e = grind arith

    left : (b : Buf) → is_dirty w (h ▹ Add Wb r) b ≡ true → is_dirty w h b ≡ true
    left b dirty =
        stays (is_live_page w (h ▹ Add Wb r) b) (is_live_page w h b) (is_among run.serial run.page run.n b)
        (is_put_since h b) (live_add w h Wb r b) dirty

    goes : (a b x y : Bool) → (x && (b && y)) ≡ true → ((b && y) ≡ true) × ((a && (not x && y)) ≡ false)
    goes a b x y e = grind arith

-- a request that reads a page takes none
pub dirty_load : (w : Workload) (h : List Event) (p : Pid) (s : Serial) (g block : ℕ)
    → dirty_pages w (h ▹ Add (Client p) (read_request (adds h) p s g block)) ≤ dirty_pages w h
dirty_load w h p s g block =
    omega (
      arith,
      as_many (is_dirty w h) h (Add (Client p) (read_request (adds h) p s g block)) (dirty_known w h),
    )

-- so does one of the journal
pub dirty_journal : (w : Workload) (h : List Event) (kind : ReqKind) (first n : ℕ) → Journals w h kind first n
    → dirty_pages w (h ▹ Add Cm (journal_request (adds h) kind first n)) ≤ dirty_pages w h
dirty_journal w h (Log t) first n j =
    omega (
      arith,
      as_many (is_dirty w h) h (Add Cm (journal_request (adds h) (Log t) first n)) (dirty_known w h),
    )
dirty_journal w h (Commit t) first n j =
    omega (
      arith,
      as_many (is_dirty w h) h (Add Cm (journal_request (adds h) (Commit t) first n)) (dirty_known w h),
    )
dirty_journal w h (Home t) first n j =
    omega (
      arith,
      as_many (is_dirty w h) h (Add Cm (journal_request (adds h) (Home t) first n)) (dirty_known w h),
    )
dirty_journal w h (Clear t) first n j =
    omega (
      arith,
      as_many (is_dirty w h) h (Add Cm (journal_request (adds h) (Clear t) first n)) (dirty_known w h),
    )
dirty_journal w h kind first n j = absurd (j)

-- no page of a file that is made was put before
pub dirty_make : (w : Workload) (h : List Event) (p : Pid) (slot : Slot) → AreMaps w h
    → dirty_pages w (h ▹ Make p slot (next_serial w h)) ≤ dirty_pages w h
dirty_make w h p slot maps =
    count_by_less (is_dirty w (h ▹ Make p slot (next_serial w h))) (is_dirty w h) (known_pages h) before
  where
    cases : (n s : ℕ) (live put : Bool) → (put ≡ true → s < n) → ((n == s || live) && put) ≡ true
        → (live && put) ≡ true
    cases n s true true below is = refl
    cases n s false true below is =
        let less = below refl in absurd (grind (arith, nat_tests, less, is))
    cases n s live false below is = grind arith

    before : (b : Buf) → is_dirty w (h ▹ Make p slot (next_serial w h)) b ≡ true → is_dirty w h b ≡ true
    before (Page s g) dirty =
        cases (next_serial w h).0 s.0 (is_live w h s.0) (is_put_since h (Page s g)) (λ put. (maps.put s g put).0) dirty
    before b dirty = absurd (cc)

-- the pages of a file that is dropped aren't dirty any more
pub dirty_drop : (w : Workload) (h : List Event) (p : Pid) (slot : Slot) (s : Serial)
    → dirty_pages w (h ▹ Drop p slot s) ≤ dirty_pages w h
dirty_drop w h p slot s = count_by_less (is_dirty w (h ▹ Drop p slot s)) (is_dirty w h) (known_pages h) before
  where
    cases : (same live put : Bool) → ((not same && live) && put) ≡ true → (live && put) ≡ true
    cases same live put is = grind arith

    before : (b : Buf) → is_dirty w (h ▹ Drop p slot s) b ≡ true → is_dirty w h b ≡ true
    before (Page t g) dirty = cases (s.0 == t.0) (is_live w h t.0) (is_put_since h (Page t g)) dirty
    before b dirty = absurd (cc)
