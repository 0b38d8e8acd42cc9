-- Each event changes the process for which a page stays as its row says; that page is held, and each process has one at
-- most.
use Rattle.std.proofs.Common.{◌≡◌, ◌==◌, List, [], Bool, true, false, not, ◌&&◌, ◌||◌, is_some, Option, Some, None, refl, subst, sym, inl, inr, ap, ◌∙◌, if◌then◌else◌}
use Rattle.std.specs.List.{list_any}
use Rattle.std.proofs.lemmas.Bool.{and_from, both_ways, cases_Bool, cond-false, false_from_ne_true, not_from_false, or_left, or_right}
use Rattle.split_types.specs.declared.ids.Pid.{Pid}
use Rattle.split_types.specs.declared.ids.Slot.{Slot}
use Rattle.split_types.specs.declared.actor.Actor.TheVariants.{Client, Wb, Cm}
use Rattle.split_types.specs.declared.buf.Buf.{Buf}
use Rattle.split_types.specs.declared.buf.Buf.TheVariants.{Page}
use Rattle.split_types.specs.declared.call.Call.TheVariants.{Write, Read}
use Rattle.split_types.specs.declared.call.Reply.TheVariants as reply
use Rattle.split_types.specs.declared.workload.Workload.{Workload}
use Rattle.split_types.specs.declared.event.Event.{Event}
use Rattle.split_types.specs.declared.event.Event.TheVariants.{Make}
use Rattle.split_types.specs.History.{◌▹◌, adds}
use Rattle.split_types.specs.Hooks.{maker, same_buf}
use Rattle.split_types.specs.Calls.{moved}
use Rattle.split_types.specs.Pages.{is_live_page}
use Rattle.split_types.specs.Pieces.{got}
use Rattle.split_types.specs.Reads.{reads, outstanding, is_loading, is_read_of, other_than, reader_of}
use Rattle.split_types.specs.HeldPages.{is_placed, is_held, is_unsettled}
use Rattle.split_types.specs.Victims.{pinned_by}
use Rattle.split_types.specs.FileSlots.{next_serial, slot_of}
use Rattle.split_types.specs.Serving.{request_for}
use Rattle.split_types.specs.PagesInCache.{is_page_of, PageAfter, waits_for, pin_of, PinAfter, IsKeptFor, PinsChange}
use Rattle.split_types.specs.Accepted.{IsAccepted}
use Rattle.split_types.specs.Legal.{IsLegal}
use Rattle.split_types.specs.Proving.Came.{Came, read_request, journal_request}
use Rattle.split_types.specs.Proving.Came.Came.{came_enter, came_admit, came_changed, came_exists, came_no_slot, came_make, came_drop, came_no_file, came_too_big}
use Rattle.split_types.specs.Proving.Came.Came.{came_wrote, came_read, came_fault, came_no_space, came_put, came_get, came_zeros, came_evict, came_load}
use Rattle.split_types.specs.Proving.Came.Came.{came_flushed, came_synced, came_seal, came_journal, came_serve, came_skip, came_map, came_grow, came_add, came_send, came_done}
use Rattle.split_types.proofs.CameLaws.{came}
use Rattle.split_types.proofs.JournalAdds.{of_journal}
use Rattle.split_types.proofs.FileLaws.{files_are_in_order}
use Rattle.split_types.proofs.HeldLaws.{same_buf-is}
use Rattle.split_types.proofs.PinLaws.{WorksOn, works_one, pins}
use Rattle.split_types.proofs.CacheLaws.{live_after, live_changes, IsKnown, is_known, flying}
use Rattle.split_types.proofs.CacheKept.{not_read, victim_free, Kept, kept}
use Rattle.split_types.proofs.CacheChanges.{past, live_past, pages_change}
use Rattle.split_types.proofs.PlacedLaws.{placed_file}
use Rattle.split_types.proofs.CachePins.{pin_loading, pin_there, pin_gone, found_read, waits_is, pin_stays, pin_freed, pin_ret}
use Rattle.split_types.proofs.CachePins.{pin_drop, pin_add, pin_done}

-- ---- pages that processes pin
-- what is pinned was put or loaded
abbrev PinsPlaced : List Event → Type 0
PinsPlaced h = (b : Buf) (p : Pid) → pinned_by h b ≡ Some p → is_placed h b ≡ true

was_some : (q : Pid) (o : Option Pid) (p : Pid) → other_than q o ≡ Some p → o ≡ Some p
was_some q None p is = absurd (cc)
was_some q (Some r) p is = by_test (r.0 == q.0) is
  where
    by_test : (t : Bool) → (if t then None else Some r) ≡ Some p → Some r ≡ Some p
    by_test true at = absurd (cc)
    by_test false at = at

-- an event that places and pins none anew
placed_stay : (h l : List Event) → ((b : Buf) → is_placed l b ≡ is_placed h b)
    → ((b : Buf) (p : Pid) → pinned_by l b ≡ Some p → pinned_by h b ≡ Some p) → PinsPlaced h → PinsPlaced l
placed_stay h l placed pin old = λ b p is. placed b ∙ old b p (pin b p is)

placed_next : (w : Workload) (h : List Event) (e : Event) → PinsPlaced h → Came w h e → PinsPlaced (h ▹ e)
placed_next w h e old (came_enter q c has out) =
    placed_stay h (h ▹ e) (λ b. refl) (λ b p is. is) old
placed_next w h e old (came_admit q c has is out may) =
    placed_stay h (h ▹ e) (λ b. refl) (λ b p is. is) old
placed_next w h e old (came_make q name slot admitted idle unused at) =
    placed_stay h (h ▹ e) (λ b. refl) (λ b p is. is) old
placed_next w h e old (came_drop q name serial working idle) =
    placed_stay h (h ▹ e) (λ b. refl) (λ b p is. is) old
placed_next w h e old (came_no_file q c admitted none) =
    placed_stay h (h ▹ e) (λ b. refl) (λ b p is. was_some q (pinned_by h b) p is) old
placed_next w h e old (came_changed q c admitted names acted) =
    placed_stay h (h ▹ e) (λ b. refl) (λ b p is. was_some q (pinned_by h b) p is) old
placed_next w h e old (came_exists q name admitted idle taken) =
    placed_stay h (h ▹ e) (λ b. refl) (λ b p is. was_some q (pinned_by h b) p is) old
placed_next w h e old (came_no_slot q name admitted idle unused none) =
    placed_stay h (h ▹ e) (λ b. refl) (λ b p is. was_some q (pinned_by h b) p is) old
placed_next w h e old (came_too_big q name off len fill s working big) =
    placed_stay h (h ▹ e) (λ b. refl) (λ b p is. was_some q (pinned_by h b) p is) old
placed_next w h e old (came_no_space q name off len fill s piece here out none) =
    placed_stay h (h ▹ e) (λ b. refl) (λ b p is. was_some q (pinned_by h b) p is) old
placed_next w h e old (came_wrote q name off len fill s working none) =
    placed_stay h (h ▹ e) (λ b. refl) (λ b p is. was_some q (pinned_by h b) p is) old
placed_next w h e old (came_read q name off len s working none) =
    placed_stay h (h ▹ e) (λ b. refl) (λ b p is. was_some q (pinned_by h b) p is) old
placed_next w h e old (came_fault q c s piece working left bad) =
    placed_stay h (h ▹ e) (λ b. refl) (λ b p is. was_some q (pinned_by h b) p is) old
placed_next w h e old (came_put q name off len fill s piece here may) =
    λ b p is. or_right (same_buf b (Page s piece.page)) (is_placed h b) (old b p (was_some q (pinned_by h b) p is))
placed_next w h e old (came_get q name off len s piece here held) =
    placed_stay h (h ▹ e) (λ b. refl) (λ b p is. was_some q (pinned_by h b) p is) old
placed_next w h e old (came_zeros q name off len s piece here absent none) =
    placed_stay h (h ▹ e) (λ b. refl) (λ b p is. was_some q (pinned_by h b) p is) old
placed_next w h e old (came_evict q c s piece here absent t g found) =
    λ b p is. and_from (not (same_buf b (Page t g))) (is_placed h b)
    (not_from_false (same_buf b (Page t g)) (other b p is)) (old b p is)
  where
    other : (b : Buf) (p : Pid) → pinned_by h b ≡ Some p → same_buf b (Page t g) ≡ false
    other b p is =
        false_from_ne_true (same_buf b (Page t g))
        (λ same. both_ways (is_some (pinned_by h (Page t g))) (victim_free w h (Page t g) found).unpinned
        (ap (λ x. is_some (pinned_by h x)) (sym (same_buf-is b (Page t g) same)) ∙ ap is_some is))
placed_next w h e old (came_load q c s piece here absent block at) =
    placed_stay h (h ▹ e) (λ b. refl) (λ b p is. is) old
placed_next w h e old (came_serve run idle found) =
    placed_stay h (h ▹ e) (λ b. refl) (λ b p is. is) old
placed_next w h e old (came_skip run at gone) =
    placed_stay h (h ▹ e) (λ b. refl) (λ b p is. is) old
placed_next w h e old (came_map run free serves there none at) =
    placed_stay h (h ▹ e) (λ b. refl) (λ b p is. is) old
placed_next w h e old (came_grow run block serves there at short) =
    placed_stay h (h ▹ e) (λ b. refl) (λ b p is. is) old
placed_next w h e old (came_add run block at there placed known) =
    placed_stay h (h ▹ e) (λ b. refl) (λ b p is. is) old
placed_next w h e old (came_flushed q name s working idle down) =
    placed_stay h (h ▹ e) (λ b. refl) (λ b p is. is) old
placed_next w h e old (came_synced q name s working acted safe) =
    placed_stay h (h ▹ e) (λ b. refl) (λ b p is. was_some q (pinned_by h b) p is) old
placed_next w h e old (came_seal may) =
    placed_stay h (h ▹ e) (λ b. refl) (λ b p is. is) old
placed_next w h e old (came_journal kind first n j) =
    placed_stay h (h ▹ e) (λ b. refl) (λ b p is. is) old
placed_next w h e old (came_send r free picked) =
    placed_stay h (h ▹ e) (λ b. refl) (λ b p is. is) old
placed_next w h e old (came_done k r at) = λ b p is. elim (cases_Bool (is_read_of h r.id b)) [
  | inl does ↦ or_left (is_read_of h r.id b) (is_placed h b) does
  | inr past ↦
      or_right (is_read_of h r.id b) (is_placed h b)
      (old b p (sym (cond-false (is_read_of h r.id b) (reader_of h r.id) (pinned_by h b) past) ∙ is))
]

pins_placed : (w : Workload) (h : List Event) → IsLegal w h → PinsPlaced h
pins_placed w [] legal = λ b p is. absurd (cc)
pins_placed w (h ▹ e) legal = placed_next w h e (pins_placed w h legal.1) (came w h (maker e) e legal.0)

-- ---- a file that is made
-- no process has pinned a page of it
pin_make : (w : Workload) (h : List Event) (b : Buf) (q : Pid) (slot : Slot) → IsAccepted w → IsLegal w h → Kept h
    → is_live_page w (h ▹ Make q slot (next_serial w h)) b ≡ (is_page_of (next_serial w h) b || is_live_page w h b)
    → is_loading w (h ▹ Make q slot (next_serial w h)) b ≡ is_loading w h b
    → PinAfter w h (Make q slot (next_serial w h)) b
pin_make w h b q slot accepted legal old live loading = by_test (is_page_of (next_serial w h) b) refl
  where
    l : List Event
    l = h ▹ Make q slot (next_serial w h)

    unpinned : is_page_of (next_serial w h) b ≡ true → (o : Option Pid) → pinned_by h b ≡ o → pinned_by h b ≡ None
    unpinned new None is = is
    unpinned new (Some p) is =
        absurd (both_ways (is_page_of (next_serial w h) b)
        (past w h b (placed_file w h b accepted legal (pins_placed w h legal b p is))) new)

    by_test : (t : Bool) → is_page_of (next_serial w h) b ≡ t → pin_of w l b ≡ pin_of w h b
    by_test false other =
        pin_stays w h l b (live ∙ ap (λ x. x || is_live_page w h b) other) loading refl refl
    by_test true new =
        let unlive : is_live_page w h b ≡ false =
        false_from_ne_true (is_live_page w h b)
        (λ is. both_ways (is_page_of (next_serial w h) b)
        (live_past w h b (files_are_in_order w h accepted legal) is) new)
        in pin_there w l b (live ∙ or_left (is_page_of (next_serial w h) b) (is_live_page w h b) new)
        (loading ∙ ap (λ x. x && list_any (λ r. reads r b) (outstanding h)) unlive)
        ∙ unpinned new (pinned_by h b) refl
        ∙ sym (pin_gone w h b unlive)

-- ---- every event
pin_next : (w : Workload) (h : List Event) (e : Event) (b : Buf) → IsAccepted w → IsLegal w h → IsKnown w h → Kept h
    → is_live_page w (h ▹ e) b ≡ live_after w h e b → PageAfter w h e b → Came w h e → PinAfter w h e b
pin_next w h e b accepted legal f old live page (came_enter q c has out) =
    pin_stays w h (h ▹ e) b live page.loading_is refl refl
pin_next w h e b accepted legal f old live page (came_admit q c has is out may) =
    pin_stays w h (h ▹ e) b live page.loading_is refl refl
pin_next w h e b accepted legal f old live page (came_make q name slot admitted idle unused at) =
    pin_make w h b q (record { 0 = slot }) accepted legal old live page.loading_is
pin_next w h e b accepted legal f old live page (came_drop q name serial working idle) =
    pin_drop w h b q (slot_of w h serial) serial live page.loading_is
pin_next w h e b accepted legal f old live page (came_no_file q c admitted none) =
    pin_ret w h b q reply.NoFile live page.loading_is
pin_next w h e b accepted legal f old live page (came_changed q c admitted names acted) =
    pin_ret w h b q reply.Done live page.loading_is
pin_next w h e b accepted legal f old live page (came_exists q name admitted idle taken) =
    pin_ret w h b q reply.Exists live page.loading_is
pin_next w h e b accepted legal f old live page (came_no_slot q name admitted idle unused none) =
    pin_ret w h b q reply.NoSlot live page.loading_is
pin_next w h e b accepted legal f old live page (came_too_big q name off len fill s working big) =
    pin_ret w h b q reply.TooBig live page.loading_is
pin_next w h e b accepted legal f old live page (came_no_space q name off len fill s piece here out none) =
    pin_ret w h b q (reply.NoSpace (moved h q.0)) live page.loading_is
pin_next w h e b accepted legal f old live page (came_wrote q name off len fill s working none) =
    pin_ret w h b q reply.Done live page.loading_is
pin_next w h e b accepted legal f old live page (came_read q name off len s working none) =
    pin_ret w h b q (reply.Count (moved h q.0) (got h q.0)) live page.loading_is
pin_next w h e b accepted legal f old live page (came_fault q c s piece working left bad) =
    pin_ret w h b q reply.ReadFault live page.loading_is
pin_next w h e b accepted legal f old live page (came_put q name off len fill s piece here may) =
    pin_freed w h (h ▹ e) q (Write name off len fill) s piece b f.kept_pages here live page.loading_is refl refl
pin_next w h e b accepted legal f old live page (came_get q name off len s piece here held) =
    pin_freed w h (h ▹ e) q (Read name off len) s piece b f.kept_pages here live page.loading_is refl refl
pin_next w h e b accepted legal f old live page (came_zeros q name off len s piece here absent none) =
    pin_freed w h (h ▹ e) q (Read name off len) s piece b f.kept_pages here live page.loading_is refl refl
pin_next w h e b accepted legal f old live page (came_evict q c s piece here absent t g found) =
    pin_stays w h (h ▹ e) b live page.loading_is refl refl
pin_next w h e b accepted legal f old live page (came_load q c s piece here absent block at) =
    pin_add w h b (Client q) (read_request (adds h) q s piece.page block) f refl
    (λ does. subst (λ x. list_any (λ r. reads r x) (outstanding h) ≡ false)
    (sym (same_buf-is b (Page s piece.page) does)) (not_read w h q c s piece here)) live page.loading_is
pin_next w h e b accepted legal f old live page (came_serve run idle found) =
    pin_stays w h (h ▹ e) b live page.loading_is refl refl
pin_next w h e b accepted legal f old live page (came_skip run at gone) =
    pin_stays w h (h ▹ e) b live page.loading_is refl refl
pin_next w h e b accepted legal f old live page (came_map run free serves there none at) =
    pin_stays w h (h ▹ e) b live page.loading_is refl refl
pin_next w h e b accepted legal f old live page (came_grow run block serves there at short) =
    pin_stays w h (h ▹ e) b live page.loading_is refl refl
pin_next w h e b accepted legal f old live page (came_add run block at there placed known) =
    pin_add w h b Wb (request_for (adds h) run block) f refl (λ does. absurd (both_ways false refl does))
    live page.loading_is
pin_next w h e b accepted legal f old live page (came_flushed q name s working idle down) =
    pin_stays w h (h ▹ e) b live page.loading_is refl refl
pin_next w h e b accepted legal f old live page (came_synced q name s working acted safe) =
    pin_ret w h b q reply.Done live page.loading_is
pin_next w h e b accepted legal f old live page (came_seal may) =
    pin_stays w h (h ▹ e) b live page.loading_is refl refl
pin_next w h e b accepted legal f old live page (came_journal kind first n j) =
    let r = journal_request (adds h) kind first n
    in pin_add w h b Cm r f refl
    (λ does. absurd (both_ways (reads r b) ((of_journal w h (adds h) kind first n j).reads_none b) does))
    live page.loading_is
pin_next w h e b accepted legal f old live page (came_send r free picked) =
    pin_stays w h (h ▹ e) b live page.loading_is refl refl
pin_next w h e b accepted legal f old live page (came_done k r at) =
    let fly = flying w h k r f at
    in pin_done w h b k r f old fly live (page r fly.added).loading_is

pin_change : (w : Workload) (h : List Event) (e : Event) (b : Buf) → IsAccepted w → IsLegal w (h ▹ e) → PinAfter w h e b
pin_change w h e b accepted legal =
    pin_next w h e b accepted legal.1 (is_known w h accepted legal.1) (kept w h accepted legal.1)
    (live_changes w h e b) (pages_change w h e b accepted legal) (came w h (maker e) e legal.0)

-- ---- the page of a process
-- its file is there
kept_live : (w : Workload) (h : List Event) (b : Buf) (p : Pid) → pin_of w h b ≡ Some p → is_live_page w h b ≡ true
kept_live w h b p is = elim (cases_Bool (is_live_page w h b)) [
  | inl live ↦ live
  | inr gone ↦ absurd (let none : None ≡ Some p = sym (pin_gone w h b gone) ∙ is in cc)
]

-- the process works on it
kept_works : (w : Workload) (h : List Event) (b : Buf) (p : Pid) → IsAccepted w → IsLegal w h → pin_of w h b ≡ Some p
    → WorksOn w h p b
kept_works w h b p accepted legal is = elim (cases_Bool (is_loading w h b)) [
  | inl loading ↦
      (let found = found_read w h b loading
      in (pins w h accepted legal).loads found.place found.element p b found.there
      (sym (waits_is h b found.element found.found) ∙ sym (pin_loading w h b loading) ∙ is) found.passes)
  | inr there ↦ (pins w h accepted legal).pins p b (sym (pin_there w h b (kept_live w h b p is) there) ∙ is)
]

kept_held : (w : Workload) (h : List Event) (b : Buf) (p : Pid) → IsLegal w h → pin_of w h b ≡ Some p
    → is_held w h b ≡ true
kept_held w h b p legal is = elim (cases_Bool (is_loading w h b)) [
  | inl loading ↦ or_left (is_loading w h b) (is_live_page w h b && is_placed h b) loading
  | inr there ↦
      (let live = kept_live w h b p is
      in or_right (is_loading w h b) (is_live_page w h b && is_placed h b)
      (and_from (is_live_page w h b) (is_placed h b) live
      (pins_placed w h legal b p (sym (pin_there w h b live there) ∙ is))))
]

kept_for : (w : Workload) (h : List Event) (b : Buf) (p : Pid) → IsAccepted w → IsLegal w h → pin_of w h b ≡ Some p
    → IsKeptFor w h b p
kept_for w h b p accepted legal is =
    let works = kept_works w h b p accepted legal is
    in record { first = works.least; last = works.most; held = kept_held w h b p legal is }

one_kept : (w : Workload) (h : List Event) (b c : Buf) (p : Pid) → IsAccepted w → IsLegal w h → pin_of w h b ≡ Some p
    → pin_of w h c ≡ Some p → b ≡ c
one_kept w h b c p accepted legal first second =
    works_one w h p b c (kept_works w h b p accepted legal first) (kept_works w h c p accepted legal second)

-- ---- pages that may be evicted
free_by : (live load place unsettled : Bool) (waits pins : Option Pid)
    → (((live && load) || (live && place)) && not (unsettled || (live && load) || (live && is_some pins)))
    ≡ (((live && load) || (live && place))
    && not (unsettled || (live && load) || is_some (if live then (if live && load then waits else pins) else None)))
free_by true true place true waits pins = refl
free_by true true place false waits pins = refl
free_by true false place unsettled waits pins = refl
free_by false load place unsettled waits pins = refl

pub pins_change : PinsChange
pins_change = record {
  change = pin_change;
  kept = kept_for;
  one = one_kept;
  free = λ w h b. free_by (is_live_page w h b) (list_any (λ r. reads r b) (outstanding h)) (is_placed h b)
      (is_unsettled w h b) (waits_for h b) (pinned_by h b);
}
