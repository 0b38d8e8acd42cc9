-- The page that a process added a read of is kept for it, loading at first, then held and pinned, until it puts or gets
-- a piece, or returns.
use Rattle.std.proofs.Common.{◌≡◌, ℕ, ◌==◌, ◌<◌, List, [], ◌∷◌, slice_get, Bool, true, false, not, ◌&&◌, ◌||◌, ◌⊎◌, Option, Some, None, refl, arith, sym, subst, inl, inr, ◌∙◌, ap, is_some}
use Rattle.std.specs.List.{list_any}
use Rattle.std.proofs.lemmas.Bool.{cases_Bool, cases_eq, or_left, or_right, and_parts, and_from, both_ways, cond-true, cond-false, ne_eqb, eqb-true, not_from_true, not_from_false}
use Rattle.std.proofs.lemmas.Bool.Decides.{nat_tests}
use Rattle.std.proofs.lemmas.List.Folds.{list_any-append}
use Rattle.split_types.specs.declared.ids.Pid.{Pid}
use Rattle.split_types.specs.declared.ids.ReqId.{ReqId}
use Rattle.split_types.specs.declared.ids.Serial.{Serial}
use Rattle.split_types.specs.declared.buf.Buf.{Buf}
use Rattle.split_types.specs.declared.buf.Buf.TheVariants.{Page}
use Rattle.split_types.specs.declared.call.Reply.{Reply}
use Rattle.split_types.specs.declared.call.Reply.TheVariants as reply
use Rattle.split_types.specs.declared.actor.Actor.{Actor}
use Rattle.split_types.specs.declared.actor.Actor.TheVariants.{Client, Wb, Cm}
use Rattle.split_types.specs.declared.request.Request.{Request}
use Rattle.split_types.specs.declared.workload.Workload.{Workload}
use Rattle.split_types.specs.declared.event.Event.{Event}
use Rattle.split_types.specs.declared.event.Event.TheVariants.{Put, Get, Ret, Add, Done, Evict}
use Rattle.split_types.specs.History.{◌▹◌, adds}
use Rattle.split_types.specs.Hooks.{same_buf}
use Rattle.split_types.specs.Requests.{is_numbered, in_flight}
use Rattle.split_types.specs.Calls.{moved}
use Rattle.split_types.specs.Files.{bound_file}
use Rattle.split_types.specs.Pages.{is_live_page}
use Rattle.split_types.specs.PageBytes.{sum_of_bytes}
use Rattle.split_types.specs.Pieces.{got}
use Rattle.split_types.specs.Reads.{reads, outstanding, is_loading, request_numbered, is_read_of, reads_for, other_than, reader_of}
use Rattle.split_types.specs.HeldPages.{is_placed, is_held, is_unsettled}
use Rattle.split_types.specs.Victims.{pinned_by, is_evictable, victim}
use Rattle.split_types.specs.Serving.{request_for}
use Rattle.split_types.specs.Proving.Came.{Came, read_request, journal_request}
use Rattle.split_types.specs.Proving.Came.Came.{came_enter, came_admit, came_changed, came_exists, came_no_slot, came_make, came_drop, came_no_file, came_too_big}
use Rattle.split_types.specs.Proving.Came.Came.{came_wrote, came_read, came_fault, came_no_space, came_put, came_get, came_zeros, came_evict, came_load}
use Rattle.split_types.specs.Proving.Came.Came.{came_flushed, came_synced, came_seal, came_journal, came_serve, came_skip, came_map, came_grow, came_add, came_send, came_done}
use Rattle.split_types.specs.Proving.Known.{Known}
use Rattle.split_types.proofs.JournalAdds.{of_journal}
use Rattle.split_types.proofs.Lists.{any_weaker, none_in_filter, any_in_filter, any_push_no, none_in_both}
use Rattle.split_types.proofs.KeptLists.{case_true, case_false}
use Rattle.split_types.proofs.WaitingLaws.{number_here}
use Rattle.split_types.proofs.FileLaws.{live_of}
use Rattle.split_types.proofs.HeldLaws.{same_buf-is, same_buf-self, reads_some}
use Rattle.split_types.proofs.VictimLaws.{victims_are_oldest}
use Rattle.split_types.proofs.NumberLaws.{Numbers, idle_flight}

-- process p added a read since it last put, got or returned
abbrev pub has_asked : List Event → ℕ → Bool
has_asked [] p = false
has_asked (h ▹ Add (Client by) r) p = by.0 == p || has_asked h p
has_asked (h ▹ Put by s g from to fill) p = not (by.0 == p) && has_asked h p
has_asked (h ▹ Get by s g from to sum) p = not (by.0 == p) && has_asked h p
has_asked (h ▹ Ret by r) p = not (by.0 == p) && has_asked h p
has_asked (h ▹ e) p = has_asked h p

-- ---- what it means to be kept
-- a read of the page that process p added, of this number, is outstanding, and no other one is
pub record IsComingAt (is_read : Bool) (reader : Option Pid) (count : ℕ) (rs : List Request) (p : ℕ) (b : Buf)
    (id : ReqId) : Type 0
  where
    pub reads_it : is_read ≡ true
    pub reader_is : reader ≡ Some (record { 0 = p })
    pub added : id.0 < count
    pub there : list_any (λ r. reads r b && is_numbered id r) rs ≡ true
    pub only : list_any (λ r. reads r b && not (is_numbered id r)) rs ≡ false

abbrev pub IsComing : List Event → ℕ → Buf → ReqId → Type 0
IsComing h p b id = IsComingAt (is_read_of h id b) (reader_of h id) (adds h) (outstanding h) p b id

-- the page is placed, process p pins it, and no read of it is outstanding
pub record IsHereAt (placed : Bool) (pinner : Option Pid) (rs : List Request) (p : ℕ) (b : Buf) : Type 0 where
  pub placed_is : placed ≡ true
  pub pinner_is : pinner ≡ Some (record { 0 = p })
  pub idle : list_any (λ r. reads r b) rs ≡ false

abbrev pub IsHere : List Event → ℕ → Buf → Type 0
IsHere h p b = IsHereAt (is_placed h b) (pinned_by h b) (outstanding h) p b

-- the page is kept for process p
abbrev pub IsKept : List Event → ℕ → Buf → Type 0
IsKept h p b = ((id : ReqId) × IsComing h p b id) ⊎ IsHere h p b

-- where a read of the page of this number is outstanding, a read of it is
coming_any : (b : Buf) (id : ReqId) (rs : List Request) → list_any (λ r. reads r b && is_numbered id r) rs ≡ true
    → list_any (λ r. reads r b) rs ≡ true
coming_any b id rs there = elim (cases_Bool (list_any (λ r. reads r b) rs)) [
  | inl is ↦ is
  | inr none ↦
      absurd (both_ways (list_any (λ r. reads r b && is_numbered id r) rs)
      (any_weaker (λ r. reads r b && is_numbered id r) (λ r. reads r b) rs
      (λ r is. (and_parts (reads r b) (is_numbered id r) is).0) none) there)
]

-- such a page is held where its file is there
pub kept_held : (w : Workload) (h : List Event) (p : ℕ) (b : Buf) → is_live_page w h b ≡ true → IsKept h p b
    → is_held w h b ≡ true
kept_held w h p b live (inl coming) =
    or_left (is_loading w h b) (is_live_page w h b && is_placed h b)
    (and_from (is_live_page w h b) (list_any (λ r. reads r b) (outstanding h)) live
    (coming_any b coming.0 (outstanding h) coming.1.there))
kept_held w h p b live (inr here) =
    or_right (is_loading w h b) (is_live_page w h b && is_placed h b)
    (and_from (is_live_page w h b) (is_placed h b) live here.placed_is)

-- ---- through one event
-- a process that isn't the one stays
other_stays : (q : Pid) (p : ℕ) (o : Option Pid) → (q.0 == p) ≡ false → o ≡ Some (record { 0 = p })
    → other_than q o ≡ Some (record { 0 = p })
other_stays q p o other is =
    ap (other_than q) is ∙ cond-false (p == q.0) None (Some (record { 0 = p })) (apart q.0 p other)
  where
    apart : (m n : ℕ) → (m == n) ≡ false → (n == m) ≡ false
    apart m n e = grind (arith, nat_tests)

-- through a put of another process
kept_put : (h : List Event) (q : Pid) (s : Serial) (g from to fill p : ℕ) (b : Buf) → (q.0 == p) ≡ false → IsKept h p b
    → IsKept (h ▹ Put q s g from to fill) p b
kept_put h q s g from to fill p b other (inl coming) = inl coming
kept_put h q s g from to fill p b other (inr here) = inr (record {
  placed_is = or_right (same_buf b (Page s g)) (is_placed h b) here.placed_is;
  pinner_is = other_stays q p (pinned_by h b) other here.pinner_is;
  idle = here.idle;
})

-- through a get of another process
kept_get : (h : List Event) (q : Pid) (s : Serial) (g from to sum p : ℕ) (b : Buf) → (q.0 == p) ≡ false → IsKept h p b
    → IsKept (h ▹ Get q s g from to sum) p b
kept_get h q s g from to sum p b other (inl coming) = inl coming
kept_get h q s g from to sum p b other (inr here) = inr (record {
  placed_is = here.placed_is;
  pinner_is = other_stays q p (pinned_by h b) other here.pinner_is;
  idle = here.idle;
})

-- through a return of another process
kept_ret : (h : List Event) (q : Pid) (r : Reply) (p : ℕ) (b : Buf) → (q.0 == p) ≡ false → IsKept h p b
    → IsKept (h ▹ Ret q r) p b
kept_ret h q r p b other (inl coming) =
    let k = coming.1
    in inl (
      coming.0,
      record {
        reads_it = k.reads_it;
        reader_is = other_stays q p (reader_of h coming.0) other k.reader_is;
        added = k.added;
        there = k.there;
        only = k.only;
      },
    )
kept_ret h q r p b other (inr here) = inr (record {
  placed_is = here.placed_is;
  pinner_is = other_stays q p (pinned_by h b) other here.pinner_is;
  idle = here.idle;
})

-- through an eviction: a page that is pinned isn't evicted
kept_evict : (w : Workload) (h : List Event) (q : Pid) (s : Serial) (g p : ℕ) (b : Buf)
    → victim w h ≡ Some (Page s g) → IsKept h p b → IsKept (h ▹ Evict q s g) p b
kept_evict w h q s g p b found (inl coming) = inl coming
kept_evict w h q s g p b found (inr here) =
    inr (record {
      placed_is = and_from (not (same_buf b (Page s g))) (is_placed h b)
          (not_from_false (same_buf b (Page s g)) other) here.placed_is;
      pinner_is = here.pinner_is;
      idle = here.idle;
    })
  where
    -- what may be evicted is a page of a file that is there, and isn't pinned
    spared : (live load placed unsettled pinned : Bool)
        → (((live && load) || (live && placed)) && not (unsettled || (live && load) || (live && pinned))) ≡ true
        → pinned ≡ true → ⊥
    spared live load placed unsettled pinned may is = absurd (grind (arith, may, is))

    other : same_buf b (Page s g) ≡ false
    other = elim (cases_Bool (same_buf b (Page s g))) [
      | inr apart ↦ apart
      | inl same ↦
          absurd (spared (is_live_page w h b) (list_any (λ r. reads r b) (outstanding h)) (is_placed h b)
          (is_unsettled w h b) (is_some (pinned_by h b))
          (subst (λ x. is_evictable w h x ≡ true) (sym (same_buf-is b (Page s g) same))
          (victims_are_oldest.some w h (Page s g) found).evictable) (ap is_some here.pinner_is))
    ]

-- through an add of a request that doesn't read the page
kept_add : (h : List Event) (by : Actor) (r : Request) (p : ℕ) (b : Buf) → r.id.0 ≡ adds h → reads r b ≡ false
    → IsKept h p b → IsKept (h ▹ Add by r) p b
kept_add h by r p b new unread (inl coming) =
    let id = coming.0
    in let k = coming.1
    in let older : is_numbered id r ≡ false =
    ne_eqb r.id.0 id.0 (λ (e : r.id.0 ≡ id.0). omega (arith, new, k.added))
    in inl (
      id,
      record {
        reads_it = ap (λ o. reads_some o b) (case_false (is_numbered id r) (Some r) (request_numbered h id) older)
            ∙ k.reads_it;
        reader_is = case_false (is_numbered id r) (reads_for r) (reader_of h id) older ∙ k.reader_is;
        added = omega (arith, k.added);
        there = any_push_no (λ q. reads q b && is_numbered id q) (outstanding h) r
            (left_no (reads r b) (is_numbered id r) unread)
            ∙ k.there;
        only = any_push_no (λ q. reads q b && not (is_numbered id q)) (outstanding h) r
            (left_no (reads r b) (not (is_numbered id r)) unread)
            ∙ k.only;
      },
    )
  where
    left_no : (x y : Bool) → x ≡ false → (x && y) ≡ false
    left_no x y e = rw e refl
kept_add h by r p b new unread (inr here) = inr (record {
  placed_is = here.placed_is;
  pinner_is = here.pinner_is;
  idle = any_push_no (λ q. reads q b) (outstanding h) r unread ∙ here.idle;
})

-- a page of a file that is there, and that isn't held, isn't the one that is kept
not_read : (w : Workload) (h : List Event) (p : ℕ) (b c : Buf) → is_live_page w h c ≡ true → is_held w h c ≡ false
    → IsKept h p b → same_buf b c ≡ false
not_read w h p b c live absent kept = elim (cases_Bool (same_buf b c)) [
  | inr other ↦ other
  | inl same ↦
      absurd (both_ways (is_held w h c) absent
      (kept_held w h p c live (subst (IsKept h p) (same_buf-is b c same) kept)))
]

-- through a completion: of the read that was coming
arrives : (h : List Event) (k : ℕ) (id : ReqId) (p : ℕ) (b : Buf) → IsComing h p b id → IsHere (h ▹ Done k id true) p b
arrives h k id p b c = record {
  placed_is = or_left (is_read_of h id b) (is_placed h b) c.reads_it;
  pinner_is = cond-true (is_read_of h id b) (reader_of h id) (pinned_by h b) c.reads_it ∙ c.reader_is;
  idle = none_in_both (λ r. reads r b) (λ r. not (is_numbered id r)) (outstanding h) c.only;
}

-- of another request
still_comes : (h : List Event) (k : ℕ) (id : ReqId) (p : ℕ) (b : Buf) (own : ReqId) → (own.0 ≡ id.0 → ⊥)
    → IsComing h p b own → IsComing (h ▹ Done k id true) p b own
still_comes h k id p b own other c = record {
  reads_it = c.reads_it;
  reader_is = c.reader_is;
  added = c.added;
  there =
      any_in_filter (λ r. reads r b && is_numbered own r) (λ r. not (is_numbered id r)) (outstanding h)
      (λ r is. apart r (eqb-true r.id.0 own.0 (and_parts (reads r b) (is_numbered own r) is).1)) c.there;
  only =
      none_in_filter (λ r. reads r b && not (is_numbered own r)) (λ r. not (is_numbered id r)) (outstanding h) c.only;
}
  where
    apart : (r : Request) → r.id.0 ≡ own.0 → not (is_numbered id r) ≡ true
    apart r is =
        not_from_false (is_numbered id r)
        (ne_eqb r.id.0 id.0 (λ (e : r.id.0 ≡ id.0). other (omega (arith, e, is))))

-- of any request
kept_done : (w : Workload) (h : List Event) (k : ℕ) (r : Request) (p : ℕ) (b : Buf) → Known w h → Numbers h
    → slice_get (in_flight h) k ≡ Some r → IsKept h p b → IsKept (h ▹ Done k r.id true) p b
kept_done w h k r p b f n at (inl coming) = elim (cases_eq coming.0.0 r.id.0) [
  | inl same ↦
      inr (arrives h k r.id p b (subst (IsComing h p b) (ap (λ m. record { 0 = m }) same) coming.1))
  | inr other ↦ inl (coming.0, still_comes h k r.id p b coming.0 other coming.1)
]
kept_done w h k r p b f n at (inr here) =
    let unread = idle_flight w h k r b f n at here.idle
    in inr (record {
      placed_is = or_right (is_read_of h r.id b) (is_placed h b) here.placed_is;
      pinner_is = cond-false (is_read_of h r.id b) (reader_of h r.id) (pinned_by h b) unread ∙ here.pinner_is;
      idle = none_in_filter (λ q. reads q b) (λ q. not (is_numbered r.id q)) (outstanding h) here.idle;
    })

-- a page that a process adds a read of is kept for it
pub kept_new : (h : List Event) (p : Pid) (s : Serial) (g block : ℕ)
    → list_any (λ r. reads r (Page s g)) (outstanding h) ≡ false
    → IsKept (h ▹ Add (Client p) (read_request (adds h) p s g block)) p.0 (Page s g)
kept_new h p s g block none = inl (
  r.id,
  record {
    reads_it = ap (λ o. reads_some o b) (case_true (is_numbered r.id r) (Some r) (request_numbered h r.id) own) ∙ mine;
    reader_is = case_true (is_numbered r.id r) (Some p) (reader_of h r.id) own;
    added = omega arith;
    there =
        list_any-append (λ q. reads q b && is_numbered r.id q) (outstanding h) (r ∷ [])
        ∙ or_right (list_any (λ q. reads q b && is_numbered r.id q) (outstanding h))
        ((reads r b && is_numbered r.id r) || false)
        (or_left (reads r b && is_numbered r.id r) false (and_from (reads r b) (is_numbered r.id r) mine own));
    only =
        any_push_no (λ q. reads q b && not (is_numbered r.id q)) (outstanding h) r
        (no_other (reads r b) (is_numbered r.id r) own)
        ∙ any_weaker (λ q. reads q b && not (is_numbered r.id q)) (λ q. reads q b) (outstanding h)
        (λ q is. (and_parts (reads q b) (not (is_numbered r.id q)) is).0) none;
  },
)
  where
    r : Request
    r = read_request (adds h) p s g block

    b : Buf
    b = Page s g

    own : is_numbered r.id r ≡ true
    own = number_here r

    mine : reads r b ≡ true
    mine = same_buf-self (Page s g)

    no_other : (x y : Bool) → y ≡ true → (x && not y) ≡ false
    no_other true y e = not_from_true y e
    no_other false y e = refl

-- ---- through any event
-- of two tests: the one fails, the other passes
pub not_by : (b a : Bool) → (not b && a) ≡ true → (b ≡ false) × (a ≡ true)
not_by true a is = absurd (cc)
not_by false a is = (refl, is)

-- a page stays kept for a process as long as that doesn't put, get or return, even where its file is dropped meanwhile
pub kept_next : (w : Workload) (h : List Event) (e : Event) (p : ℕ) (b : Buf) → Known w h → Numbers h → Came w h e
    → has_asked (h ▹ e) p ≡ true → IsKept h p b → IsKept (h ▹ e) p b
kept_next w h e p b f n (came_enter q c has out) asked k = k
kept_next w h e p b f n (came_admit q c has in' out may) asked k = k
kept_next w h e p b f n (came_make q name slot admitted idle unused at) asked k = k
kept_next w h e p b f n (came_drop q name serial working idle) asked k = k
kept_next w h e p b f n (came_no_file q c admitted none) asked k =
    kept_ret h q reply.NoFile p b (not_by (q.0 == p) (has_asked h p) asked).0 k
kept_next w h e p b f n (came_changed q c admitted names acted) asked k =
    kept_ret h q reply.Done p b (not_by (q.0 == p) (has_asked h p) asked).0 k
kept_next w h e p b f n (came_exists q name admitted idle taken) asked k =
    kept_ret h q reply.Exists p b (not_by (q.0 == p) (has_asked h p) asked).0 k
kept_next w h e p b f n (came_no_slot q name admitted idle unused none) asked k =
    kept_ret h q reply.NoSlot p b (not_by (q.0 == p) (has_asked h p) asked).0 k
kept_next w h e p b f n (came_too_big q name off len fill s working big) asked k =
    kept_ret h q reply.TooBig p b (not_by (q.0 == p) (has_asked h p) asked).0 k
kept_next w h e p b f n (came_no_space q name off len fill s piece here out none) asked k =
    kept_ret h q (reply.NoSpace (moved h q.0)) p b (not_by (q.0 == p) (has_asked h p) asked).0 k
kept_next w h e p b f n (came_wrote q name off len fill s working none) asked k =
    kept_ret h q reply.Done p b (not_by (q.0 == p) (has_asked h p) asked).0 k
kept_next w h e p b f n (came_read q name off len s working none) asked k =
    kept_ret h q (reply.Count (moved h q.0) (got h q.0)) p b (not_by (q.0 == p) (has_asked h p) asked).0 k
kept_next w h e p b f n (came_fault q c s piece working left bad) asked k =
    kept_ret h q reply.ReadFault p b (not_by (q.0 == p) (has_asked h p) asked).0 k
kept_next w h e p b f n (came_put q name off len fill s piece here may) asked k =
    kept_put h q s piece.page piece.from piece.to fill p b (not_by (q.0 == p) (has_asked h p) asked).0 k
kept_next w h e p b f n (came_get q name off len s piece here held) asked k =
    kept_get h q s piece.page piece.from piece.to (sum_of_bytes w h s piece.page piece.from piece.to) p b
    (not_by (q.0 == p) (has_asked h p) asked).0 k
kept_next w h e p b f n (came_zeros q name off len s piece here absent none) asked k =
    kept_get h q s piece.page piece.from piece.to 0 p b (not_by (q.0 == p) (has_asked h p) asked).0 k
kept_next w h e p b f n (came_evict q c s piece here absent t g found) asked k =
    kept_evict w h q t g p b found k
kept_next w h e p b f n (came_load q c s piece here absent block at) asked k =
    kept_add h (Client q) (read_request (adds h) q s piece.page block) p b refl
    (not_read w h p b (Page s piece.page) (live_of w h (bound_file w h q.0) s here.working.file) absent.absent k) k
kept_next w h e p b f n (came_serve run idle found) asked k = k
kept_next w h e p b f n (came_skip run at gone) asked k = k
kept_next w h e p b f n (came_map run free serves there none at) asked k = k
kept_next w h e p b f n (came_grow run block serves there at short) asked k = k
kept_next w h e p b f n (came_add run block at there placed long) asked k =
    kept_add h Wb (request_for (adds h) run block) p b refl refl k
kept_next w h e p b f n (came_flushed q name s working idle down) asked k = k
kept_next w h e p b f n (came_synced q name s working acted safe) asked k =
    kept_ret h q reply.Done p b (not_by (q.0 == p) (has_asked h p) asked).0 k
kept_next w h e p b f n (came_seal may) asked k = k
kept_next w h e p b f n (came_journal kind first m j) asked k =
    kept_add h Cm (journal_request (adds h) kind first m) p b refl
    ((of_journal w h (adds h) kind first m j).reads_none b) k
kept_next w h e p b f n (came_send r free picked) asked k = k
kept_next w h e p b f n (came_done j r at) asked k = kept_done w h j r p b f n at k
