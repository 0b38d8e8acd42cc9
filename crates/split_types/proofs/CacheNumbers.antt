-- How many pages are held, and how many dirty or busy, after each event.
use Rattle.std.proofs.Common.{◌≡◌, ℕ, ◌+◌, List, [], ◌∷◌, length, filter, count_by, Bool, true, false, not, ◌&&◌, ◌||◌, Some, refl, arith, subst, sym, inl, inr, cond, ap, ◌∙◌, if◌then◌else◌}
use Rattle.std.specs.List.{list_any}
use Rattle.std.proofs.lemmas.Bool.{and_from, and_parts, and_right, both_ways, false_from_ne_true, or_cases, or_left, or_parts, or_right}
use Rattle.std.proofs.lemmas.List.Sums.{sum_by-cons}
use Rattle.std.proofs.lemmas.Option.{same_Some}
use Rattle.split_types.specs.declared.ids.Pid.{Pid}
use Rattle.split_types.specs.declared.ids.Serial.{Serial}
use Rattle.split_types.specs.declared.ids.Slot.{Slot}
use Rattle.split_types.specs.declared.actor.Actor.TheVariants.{Client, Wb}
use Rattle.split_types.specs.declared.buf.Buf.{Buf}
use Rattle.split_types.specs.declared.buf.Buf.TheVariants.{Page}
use Rattle.split_types.specs.declared.request.ReqKind.TheVariants as kind
use Rattle.split_types.specs.declared.request.Request.{Request}
use Rattle.split_types.specs.declared.request.Run.{Run}
use Rattle.split_types.specs.declared.workload.Workload.{Workload}
use Rattle.split_types.specs.declared.event.Event.{Event}
use Rattle.split_types.specs.declared.event.Event.TheVariants.{Put, Drop, Add, Done, Evict}
use Rattle.split_types.specs.History.{◌▹◌, adds}
use Rattle.split_types.specs.Hooks.{maker, same_buf, covers}
use Rattle.split_types.specs.Requests.{unfinished}
use Rattle.split_types.specs.Files.{is_live}
use Rattle.split_types.specs.Pages.{is_live_page, is_put_since, is_dirty, is_busy}
use Rattle.split_types.specs.Reads.{reads, is_loading}
use Rattle.split_types.specs.HeldPages.{is_placed, is_held, known_pages, held_pages, is_unsettled, unsettled_pages}
use Rattle.split_types.specs.Victims.{victim}
use Rattle.split_types.specs.FileSlots.{slot_of}
use Rattle.split_types.specs.MapsInOrder.{IsServed}
use Rattle.split_types.specs.Serving.{request_for}
use Rattle.split_types.specs.PagesInCache.{is_page_of, PageIs, PageAfter, pages_written, CountsAre, CountsDone, CountsAfter, CountsChange}
use Rattle.split_types.specs.Proving.Came.{Came, read_request}
use Rattle.split_types.specs.Proving.Came.Came.{came_enter, came_admit, came_changed, came_exists, came_no_slot, came_make, came_drop, came_no_file, came_too_big}
use Rattle.split_types.specs.Proving.Came.Came.{came_wrote, came_read, came_fault, came_no_space, came_put, came_get, came_zeros, came_evict, came_load}
use Rattle.split_types.specs.Proving.Came.Came.{came_flushed, came_synced, came_seal, came_journal, came_serve, came_skip, came_map, came_grow, came_add, came_send, came_done}
use Rattle.split_types.proofs.CameLaws.{came}
use Rattle.split_types.proofs.Lists.{count_yes, count_no, list_any_here}
use Rattle.split_types.proofs.HeldLaws.{same_buf-is, same_buf-self, busy_known, pages_are_known}
use Rattle.split_types.proofs.CacheLaws.{IsKnown, is_known, IsFlying, flying, served_ready}
use Rattle.split_types.proofs.CacheKept.{IsFree, victim_free}
use Rattle.split_types.proofs.CacheChanges.{pages_change}
use Rattle.split_types.proofs.CacheRuns.{are_written}
use Rattle.split_types.proofs.CacheCounts.{StandsIn, lengths_differ, lengths_same, lengths_joined}

-- ---- an event that changes neither
-- whether a page is dirty or busy, from its parts
settle : (w : Workload) (h : List Event) (b : Buf) (held loading dirty busy : Bool)
    → PageIs w h b held loading dirty busy → is_unsettled w h b ≡ (dirty || busy)
settle w h b held loading dirty busy page =
    ap (λ x. x || is_busy w h b) page.dirty_is ∙ ap (λ x. dirty || x) page.busy_is

counts_stay : (w : Workload) (h : List Event) (e : Event)
    → ((b : Buf) → PageIs w (h ▹ e) b (is_held w h b) (is_loading w h b) (is_dirty w h b) (is_busy w h b))
    → CountsAre w (h ▹ e) (length (held_pages w h)) (length (unsettled_pages w h))
counts_stay w h e page = record {
  held_is =
      lengths_same (is_held w h) (is_held w (h ▹ e)) h e (pages_are_known.held w h) (λ b. (page b).held_is);
  unsettled_is =
      lengths_same (is_unsettled w h) (is_unsettled w (h ▹ e)) h e (pages_are_known.unsettled w h)
      (λ b. settle w (h ▹ e) b (is_held w h b) (is_loading w h b) (is_dirty w h b) (is_busy w h b) (page b));
}

-- ---- a put
or_turned : (a b c : Bool) → ((a || b) || c) ≡ (a || (b || c))
or_turned true b c = refl
or_turned false b c = refl

counts_put : (w : Workload) (h : List Event) (q : Pid) (s : Serial) (g from to fill : ℕ)
    → ((b : Buf) → PageAfter w h (Put q s g from to fill) b) → CountsAfter w h (Put q s g from to fill)
counts_put w h q s g from to fill page = record {
  held_is =
      lengths_joined (is_held w h) (is_held w l) h (Put q s g from to fill) (Page s g) (pages_are_known.held w h)
      (λ b. (page b).held_is) (pages_are_known.held w l (Page s g) held_now);
  unsettled_is =
      lengths_joined (is_unsettled w h) (is_unsettled w l) h (Put q s g from to fill) (Page s g)
      (pages_are_known.unsettled w h) unsettled (pages_are_known.held w l (Page s g) held_now);
}
  where
    l : List Event
    l = h ▹ Put q s g from to fill

    held_now : is_held w l (Page s g) ≡ true
    held_now =
        (page (Page s g)).held_is
        ∙ or_left (same_buf (Page s g) (Page s g)) (is_held w h (Page s g)) (same_buf-self (Page s g))

    unsettled : (b : Buf) → is_unsettled w l b ≡ (same_buf b (Page s g) || is_unsettled w h b)
    unsettled b =
        settle w l b (same_buf b (Page s g) || is_held w h b) (is_loading w h b)
        (same_buf b (Page s g) || is_dirty w h b) (is_busy w h b) (page b)
        ∙ or_turned (same_buf b (Page s g)) (is_dirty w h b) (is_busy w h b)

-- ---- an add
counts_load : (w : Workload) (h : List Event) (q : Pid) (s : Serial) (g block : ℕ)
    → is_held w h (Page s g) ≡ false
    → ((b : Buf) → PageAfter w h (Add (Client q) (read_request (adds h) q s g block)) b)
    → CountsAfter w h (Add (Client q) (read_request (adds h) q s g block))
counts_load w h q s g block absent page = record {
  held_is =
      lengths_joined (is_held w h) (is_held w l) h e (Page s g) (pages_are_known.held w h)
      (λ b. (page b).held_is) (pages_are_known.held w l (Page s g) held_now)
      ∙ ap (λ t. if t then length (held_pages w h) else length (held_pages w h) + 1) absent;
  unsettled_is =
      lengths_same (is_unsettled w h) (is_unsettled w l) h e (pages_are_known.unsettled w h)
      (λ b. settle w l b (same_buf b (Page s g) || is_held w h b) (same_buf b (Page s g) || is_loading w h b)
      (is_dirty w h b) (is_busy w h b) (page b));
}
  where
    e : Event
    e = Add (Client q) (read_request (adds h) q s g block)

    l : List Event
    l = h ▹ e

    held_now : is_held w l (Page s g) ≡ true
    held_now =
        (page (Page s g)).held_is
        ∙ or_left (same_buf (Page s g) (Page s g)) (is_held w h (Page s g)) (same_buf-self (Page s g))

-- dirty pages that a request takes become busy
taken : (takes dirty busy : Bool) → (takes ≡ true → dirty ≡ true)
    → ((not takes && dirty) || (takes || busy)) ≡ (dirty || busy)
taken true true busy was = refl
taken true false busy was = absurd (both_ways false refl (was refl))
taken false dirty busy was = refl

counts_add : (w : Workload) (h : List Event) (run : Run) (block : ℕ) → IsServed w h run
    → is_live w h run.serial.0 ≡ true
    → ((b : Buf) → PageAfter w h (Add Wb (request_for (adds h) run block)) b)
    → CountsAfter w h (Add Wb (request_for (adds h) run block))
counts_add w h run block served live page = record {
  held_is = lengths_same (is_held w h) (is_held w l) h e (pages_are_known.held w h) (λ b. (page b).held_is);
  unsettled_is =
      lengths_same (is_unsettled w h) (is_unsettled w l) h e (pages_are_known.unsettled w h)
      (λ b. settle w l b (is_held w h b) (is_loading w h b) (not (covers r b) && is_dirty w h b)
      (covers r b || is_busy w h b) (page b)
      ∙ taken (covers r b) (is_dirty w h b) (is_busy w h b)
      (λ is. (and_parts (is_dirty w h b) (not (is_busy w h b)) (served_ready w h run b served live is)).0));
}
  where
    r : Request
    r = request_for (adds h) run block

    e : Event
    e = Add Wb r

    l : List Event
    l = h ▹ e

-- ---- a completion
-- of pages of which those passed whose file is there, those pass that are dirty
settled_counts : (p q live put : Buf → Bool) (cs : List Buf)
    → ((c : Buf) → StandsIn c cs → (p c ≡ live c) × (q c ≡ (live c && put c)))
    → count_by p cs ≡ count_by q cs + count_by (λ b. live b && not (live b && put b)) cs
settled_counts p q live put [] each = refl
settled_counts p q live put (c ∷ cs) each =
    let first = each c (or_left (same_buf c c) (list_any (same_buf c) cs) (same_buf-self c))
    in let rest =
    settled_counts p q live put cs (λ d later. each d (or_right (same_buf d c) (list_any (same_buf d) cs) later))
    in let one : ◌≡◌ {A = ℕ} (cond (p c) 1 0) (cond (live c) 1 0) = ap (λ t. cond t 1 0) first.0
    in let same : ◌≡◌ {A = ℕ} (cond (q c) 1 0) (cond (live c && put c) 1 0) = ap (λ t. cond t 1 0) first.1
    in omega (
      arith,
      rest,
      one,
      same,
      either (live c) (put c),
      sum_by-cons (λ b. cond (p b) 1 0) c cs,
      sum_by-cons (λ b. cond (q b) 1 0) c cs,
      sum_by-cons (λ b. cond (live b && not (live b && put b)) 1 0) c cs,
    )
  where
    either : (l t : Bool) → cond (l && t) 1 0 + cond (l && not (l && t)) 1 0 ≡ cond l 1 0
    either true true = refl
    either true false = refl
    either false t = refl

-- a page that a request writes is dirty or busy where its file is there
busy_unsettled : (live put busy : Bool) → busy ≡ true → ((live && put) || (live && busy)) ≡ live
busy_unsettled true true busy is = refl
busy_unsettled true false busy is = is
busy_unsettled false put busy is = refl

counts_done : (w : Workload) (h : List Event) (k : ℕ) (r : Request) → IsFlying w h r
    → ((b : Buf) → PageIs w (h ▹ Done k r.id true) b (is_held w h b) (not (reads r b) && is_loading w h b)
    (is_dirty w h b) (not (covers r b) && is_busy w h b)) → CountsDone w h (h ▹ Done k r.id true) r
counts_done w h k r fly page = record {
  held_is =
      lengths_same (is_held w h) (is_held w l) h (Done k r.id true) (pages_are_known.held w h)
      (λ b. (page b).held_is);
  settled_is =
      omega (
        arith,
        lengths_differ (is_unsettled w h) (is_unsettled w l) h (Done k r.id true) (pages_written r)
            (pages_are_known.unsettled w h) agree (are_written r).distinct
            (λ c stands. busy_known h c (is_written c stands)),
        settled_counts (is_unsettled w h) (is_unsettled w l) (is_live_page w h) (is_put_since h) (pages_written r)
            (λ c stands. (was_unsettled c stands, is_settled c stands)),
      );
}
  where
    l : List Event
    l = h ▹ Done k r.id true

    unsettled : (b : Buf) → is_unsettled w l b ≡ (is_dirty w h b || (not (covers r b) && is_busy w h b))
    unsettled b =
        settle w l b (is_held w h b) (not (reads r b) && is_loading w h b) (is_dirty w h b)
        (not (covers r b) && is_busy w h b) (page b)

    agree : (b : Buf) → list_any (same_buf b) (pages_written r) ≡ false → is_unsettled w h b ≡ is_unsettled w l b
    agree b none =
        let other =
        false_from_ne_true (covers r b)
        (λ is. both_ways (list_any (same_buf b) (pages_written r)) none ((are_written r).stands b is))
        in sym (unsettled b ∙ ap (λ t. is_dirty w h b || (not t && is_busy w h b)) other)

    is_written : (c : Buf) → StandsIn c (pages_written r) → list_any (λ x. covers x c) (unfinished h) ≡ true
    is_written c stands =
        list_any_here (λ x. covers x c) (unfinished h) fly.place r fly.left ((are_written r).covered c stands)

    was_unsettled : (c : Buf) → StandsIn c (pages_written r) → is_unsettled w h c ≡ is_live_page w h c
    was_unsettled c stands =
        busy_unsettled (is_live_page w h c) (is_put_since h c) (list_any (λ x. covers x c) (unfinished h))
        (is_written c stands)

    is_settled : (c : Buf) → StandsIn c (pages_written r) → is_unsettled w l c ≡ is_dirty w h c
    is_settled c stands =
        unsettled c
        ∙ ap (λ t. is_dirty w h c || (not t && is_busy w h c)) ((are_written r).covered c stands)
        ∙ or_none (is_dirty w h c)
      where
        or_none : (t : Bool) → (t || false) ≡ t
        or_none true = refl
        or_none false = refl

-- ---- an eviction
counts_evict : (w : Workload) (h : List Event) (q : Pid) (s : Serial) (g : ℕ) → victim w h ≡ Some (Page s g)
    → ((b : Buf) → PageAfter w h (Evict q s g) b) → CountsAfter w h (Evict q s g)
counts_evict w h q s g found page = record {
  held_is =
      omega (
        arith,
        lengths_differ (is_held w h) (is_held w l) h (Evict q s g) (Page s g ∷ []) (pages_are_known.held w h)
            agree (refl, tt) is_known,
        count_yes (is_held w h) (Page s g) [] was_held,
        count_no (is_held w l) (Page s g) [] is_gone,
      );
  unsettled_is =
      lengths_same (is_unsettled w h) (is_unsettled w l) h (Evict q s g) (pages_are_known.unsettled w h)
      (λ b. settle w l b (not (same_buf b (Page s g)) && is_held w h b) (is_loading w h b) (is_dirty w h b)
      (is_busy w h b) (page b));
}
  where
    l : List Event
    l = h ▹ Evict q s g

    free : IsFree w h (Page s g)
    free = victim_free w h (Page s g) found

    was_held : is_held w h (Page s g) ≡ true
    was_held =
        or_right (is_loading w h (Page s g)) (is_live_page w h (Page s g) && is_placed h (Page s g))
        (and_from (is_live_page w h (Page s g)) (is_placed h (Page s g)) free.live free.placed)

    is_gone : is_held w l (Page s g) ≡ false
    is_gone =
        (page (Page s g)).held_is
        ∙ ap (λ t. not t && is_held w h (Page s g)) (same_buf-self (Page s g))

    agree : (b : Buf) → list_any (same_buf b) (Page s g ∷ []) ≡ false → is_held w h b ≡ is_held w l b
    agree b none =
        let other = (or_parts (same_buf b (Page s g)) false none).0
        in sym ((page b).held_is ∙ ap (λ t. not t && is_held w h b) other)

    is_known : (c : Buf) → StandsIn c (Page s g ∷ []) → StandsIn c (known_pages h)
    is_known c stands = elim (or_cases (same_buf c (Page s g)) false stands) [
      | inl same ↦
          subst (λ x. StandsIn x (known_pages h)) (sym (same_buf-is c (Page s g) same))
          (pages_are_known.held w h (Page s g) was_held)
      | inr none ↦ absurd (cc)
    ]

-- ---- a file that is dropped
-- of those that pass, the ones that pass another test go
count_gone : (p q t : Buf → Bool) (xs : List Buf) → ((b : Buf) → q b ≡ (not (t b) && p b))
    → length (filter q xs) + count_by t (filter p xs) ≡ length (filter p xs)
count_gone p q t [] agree = refl
count_gone p q t (x ∷ xs) agree = by_test (p x) (t x) (agree x) refl refl (count_gone p q t xs agree)
  where
    by_test : (a g : Bool) → q x ≡ (not (t x) && p x) → p x ≡ a → t x ≡ g
        → length (filter q xs) + count_by t (filter p xs) ≡ length (filter p xs)
        → length (filter q (x ∷ xs)) + count_by t (filter p (x ∷ xs)) ≡ length (filter p (x ∷ xs))
    by_test true true same passed gone rest =
        let out : q x ≡ false = same ∙ ap (λ g. not g && p x) gone
        in rw out (rw passed (omega (arith, rest, count_yes t x (filter p xs) gone)))
    by_test true false same passed stays rest =
        let in' : q x ≡ true = same ∙ ap (λ g. not g && p x) stays ∙ passed
        in rw in' (rw passed (omega (arith, rest, count_no t x (filter p xs) stays)))
    by_test false g same past is rest =
        let out : q x ≡ false = same ∙ ap (λ a. not (t x) && a) past ∙ and_right (not (t x)) false refl
        in rw out (rw past rest)

-- a page that isn't dirty or busy any more where its file is dropped
drop_either : (of dirty busy : Bool) → ((not of && dirty) || (not of && busy)) ≡ (not of && (dirty || busy))
drop_either true dirty busy = refl
drop_either false dirty busy = refl

counts_drop : (w : Workload) (h : List Event) (q : Pid) (slot : Slot) (s : Serial)
    → ((b : Buf) → PageAfter w h (Drop q slot s) b) → CountsAfter w h (Drop q slot s)
counts_drop w h q slot s page = record {
  held_is =
      count_gone (is_held w h) (is_held w (h ▹ Drop q slot s)) (is_page_of s) (known_pages h)
      (λ b. (page b).held_is);
  unsettled_is =
      count_gone (is_unsettled w h) (is_unsettled w (h ▹ Drop q slot s)) (is_page_of s) (known_pages h)
      (λ b. settle w (h ▹ Drop q slot s) b (not (is_page_of s b) && is_held w h b)
      (not (is_page_of s b) && is_loading w h b) (not (is_page_of s b) && is_dirty w h b)
      (not (is_page_of s b) && is_busy w h b) (page b)
      ∙ drop_either (is_page_of s b) (is_dirty w h b) (is_busy w h b));
}

-- ---- every event
counts_next : (w : Workload) (h : List Event) (e : Event) → IsKnown w h → ((b : Buf) → PageAfter w h e b) → Came w h e
    → CountsAfter w h e
counts_next w h e f page (came_enter q c has out) = counts_stay w h e page
counts_next w h e f page (came_admit q c has is out may) = counts_stay w h e page
counts_next w h e f page (came_make q name slot admitted idle unused at) = counts_stay w h e page
counts_next w h e f page (came_drop q name serial working idle) =
    counts_drop w h q (slot_of w h serial) serial page
counts_next w h e f page (came_no_file q c admitted none) = counts_stay w h e page
counts_next w h e f page (came_changed q c admitted names acted) = counts_stay w h e page
counts_next w h e f page (came_exists q name admitted idle taken) = counts_stay w h e page
counts_next w h e f page (came_no_slot q name admitted idle unused none) = counts_stay w h e page
counts_next w h e f page (came_too_big q name off len fill s working big) = counts_stay w h e page
counts_next w h e f page (came_no_space q name off len fill s piece here out none) = counts_stay w h e page
counts_next w h e f page (came_wrote q name off len fill s working none) = counts_stay w h e page
counts_next w h e f page (came_read q name off len s working none) = counts_stay w h e page
counts_next w h e f page (came_fault q c s piece working left bad) = counts_stay w h e page
counts_next w h e f page (came_put q name off len fill s piece here may) =
    counts_put w h q s piece.page piece.from piece.to fill page
counts_next w h e f page (came_get q name off len s piece here held) = counts_stay w h e page
counts_next w h e f page (came_zeros q name off len s piece here absent none) = counts_stay w h e page
counts_next w h e f page (came_evict q c s piece here absent t g found) = counts_evict w h q t g found page
counts_next w h e f page (came_load q c s piece here absent block at) =
    counts_load w h q s piece.page block absent.absent page
counts_next w h e f page (came_serve run idle found) = counts_stay w h e page
counts_next w h e f page (came_skip run at gone) = counts_stay w h e page
counts_next w h e f page (came_map run free serves there none at) = counts_stay w h e page
counts_next w h e f page (came_grow run block serves there at short) = counts_stay w h e page
counts_next w h e f page (came_add run block at there placed known) =
    counts_add w h run block (f.served run at) there page
counts_next w h e f page (came_flushed q name s working idle down) = counts_stay w h e page
counts_next w h e f page (came_synced q name s working acted safe) = counts_stay w h e page
counts_next w h e f page (came_seal may) = counts_stay w h e page
counts_next w h e f page (came_journal (kind.Log t) first n j) = counts_stay w h e page
counts_next w h e f page (came_journal (kind.Commit t) first n j) = counts_stay w h e page
counts_next w h e f page (came_journal (kind.Home t) first n j) = counts_stay w h e page
counts_next w h e f page (came_journal (kind.Clear t) first n j) = counts_stay w h e page
counts_next w h e f page (came_journal (kind.Read p s g) first n j) = absurd (j)
counts_next w h e f page (came_journal (kind.Pages s g) first n j) = absurd (j)
counts_next w h e f page (came_send r free picked) = counts_stay w h e page
counts_next w h e f page (came_done k r at) = λ x there.
    (let fly = flying w h k r f at
    in subst (CountsDone w h (h ▹ e)) (same_Some r x (sym fly.added ∙ there))
    (counts_done w h k r fly (λ b. page b r fly.added)))

pub counts_change : CountsChange
counts_change w h e accepted legal =
    counts_next w h e (is_known w h accepted legal.1) (λ b. pages_change w h e b accepted legal)
    (came w h (maker e) e legal.0)
