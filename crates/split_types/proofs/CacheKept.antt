-- What is dirty or busy was put or loaded, what is loading wasn't, and one request at most reads a page.
use Rattle.std.proofs.Common.{◌≡◌, ℕ, ◌≤◌, List, [], ◌∷◌, ◌++◌, count_by, Bool, true, false, not, ◌&&◌, ◌||◌, is_some, Some, None, refl, arith, subst, sym, inl, inr, cond, ap, ◌∙◌}
use Rattle.std.specs.List.{list_any}
use Rattle.std.proofs.lemmas.Bool.{or_cases, or_from, or_left, or_right, or_parts, and_parts, and_from, and_right, both_ways, not-true, not_from_false, false_from_ne_true}
use Rattle.split_types.specs.declared.ids.Pid.{Pid}
use Rattle.split_types.specs.declared.ids.Serial.{Serial}
use Rattle.split_types.specs.declared.buf.Buf.{Buf}
use Rattle.split_types.specs.declared.buf.Buf.TheVariants.{Page}
use Rattle.split_types.specs.declared.actor.Actor.TheVariants.{Client, Wb, Cm}
use Rattle.split_types.specs.declared.call.Call.{Call}
use Rattle.split_types.specs.declared.call.Call.TheVariants.{Write}
use Rattle.split_types.specs.declared.request.ReqKind.{ReqKind}
use Rattle.split_types.specs.declared.request.Request.{Request}
use Rattle.split_types.specs.declared.request.Run.{Run}
use Rattle.split_types.specs.declared.workload.Workload.{Workload}
use Rattle.split_types.specs.declared.event.Event.{Event}
use Rattle.split_types.specs.declared.event.Event.TheVariants.{Put, Add, Done, Evict}
use Rattle.split_types.specs.History.{◌▹◌, adds}
use Rattle.split_types.specs.Hooks.{maker, same_buf, covers}
use Rattle.split_types.specs.Requests.{is_numbered, unfinished}
use Rattle.split_types.specs.Files.{is_live}
use Rattle.split_types.specs.Pages.{is_live_page, is_put_since, is_dirty, is_busy}
use Rattle.split_types.specs.Pieces.{Piece}
use Rattle.split_types.specs.Reads.{reads, outstanding, is_loading, is_read_of}
use Rattle.split_types.specs.HeldPages.{is_placed}
use Rattle.split_types.specs.Victims.{pinned_by, victim}
use Rattle.split_types.specs.Serving.{request_for}
use Rattle.split_types.specs.MapsInOrder.{IsServed}
use Rattle.split_types.specs.Accepted.{IsAccepted}
use Rattle.split_types.specs.Legal.{IsLegal}
use Rattle.split_types.specs.Proving.Came.{Came, IsAtPiece, IsAbsent, read_request, journal_request, Journals}
use Rattle.split_types.specs.Proving.Came.Came.{came_enter, came_admit, came_changed, came_exists, came_no_slot, came_make, came_drop, came_no_file, came_too_big}
use Rattle.split_types.specs.Proving.Came.Came.{came_wrote, came_read, came_fault, came_no_space, came_put, came_get, came_zeros, came_evict, came_load}
use Rattle.split_types.specs.Proving.Came.Came.{came_flushed, came_synced, came_seal, came_journal, came_serve, came_skip, came_map, came_grow, came_add, came_send, came_done}
use Rattle.split_types.proofs.CameLaws.{came}
use Rattle.split_types.proofs.JournalAdds.{IsOfJournal, of_journal}
use Rattle.split_types.proofs.HeldLaws.{same_buf-is}
use Rattle.split_types.proofs.VictimLaws.{victims_are_oldest}
use Rattle.split_types.proofs.Lists.{any_push_no, count_push, count_none, count_filter_less}
use Rattle.split_types.proofs.WaitingLaws.{number_here}
use Rattle.split_types.proofs.KeptLists.{any_filter, any_pushed}
use Rattle.split_types.proofs.CacheLaws.{any_without, live_here, IsKnown, is_known, IsFlying, flying, served_ready}

-- ---- what a piece and a victim say
-- the page of a piece that comes next isn't loading
pub not_read : (w : Workload) (h : List Event) (p : Pid) (c : Call) (s : Serial) (piece : Piece)
    → IsAtPiece w h p c s piece → list_any (λ r. reads r (Page s piece.page)) (outstanding h) ≡ false
not_read w h p c s piece here =
    let any = list_any (λ r. reads r (Page s piece.page)) (outstanding h)
    in sym (ap (λ b. b && any) (live_here w h p c s piece here)) ∙ here.there

-- where it isn't held, it wasn't put or loaded since it was evicted
not_placed : (w : Workload) (h : List Event) (p : Pid) (c : Call) (s : Serial) (piece : Piece) (full : Bool)
    → IsAtPiece w h p c s piece → IsAbsent w h (Page s piece.page) full → is_placed h (Page s piece.page) ≡ false
not_placed w h p c s piece full here absent =
    let parts =
    or_parts (is_loading w h (Page s piece.page)) (is_live w h s.0 && is_placed h (Page s piece.page)) absent.absent
    in sym (ap (λ b. b && is_placed h (Page s piece.page)) (live_here w h p c s piece here)) ∙ parts.1

-- the page that is evicted next was put or loaded, and is neither loading, dirty, busy nor pinned
pub record IsFree (w : Workload) (h : List Event) (b : Buf) : Type 0 where
  pub live : is_live_page w h b ≡ true
  pub unread : list_any (λ r. reads r b) (outstanding h) ≡ false
  pub placed : is_placed h b ≡ true
  pub clean : is_put_since h b ≡ false
  pub idle : list_any (λ r. covers r b) (unfinished h) ≡ false
  pub unpinned : is_some (pinned_by h b) ≡ false

free_parts : (live load place put busy pin : Bool)
    → (((live && load) || (live && place))
    && not (((live && put) || (live && busy)) || (live && load) || (live && pin))) ≡ true
    → (live ≡ true) × (load ≡ false) × (place ≡ true) × (put ≡ false) × (busy ≡ false) × (pin ≡ false)
free_parts true false true false false false may = (refl, refl, refl, refl, refl, refl)
free_parts true false true false false true may = absurd (cc)
free_parts false load place put busy pin may = absurd (cc)
free_parts true true place true busy pin may = absurd (cc)
free_parts true true place false true pin may = absurd (cc)
free_parts true true place false false pin may = absurd (cc)
free_parts true false false put busy pin may = absurd (cc)
free_parts true false true true busy pin may = absurd (cc)
free_parts true false true false true pin may = absurd (cc)

pub victim_free : (w : Workload) (h : List Event) (b : Buf) → victim w h ≡ Some b → IsFree w h b
victim_free w h b found =
    let parts =
    free_parts (is_live_page w h b) (list_any (λ r. reads r b) (outstanding h)) (is_placed h b) (is_put_since h b)
    (list_any (λ r. covers r b) (unfinished h)) (is_some (pinned_by h b))
    (victims_are_oldest.some w h b found).evictable
    in record {
      live = parts.0;
      unread = parts.1;
      placed = parts.2;
      clean = parts.3;
      idle = parts.4;
      unpinned = parts.5;
    }

-- ---- what is known of pages
pub record Kept (h : List Event) : Type 0 where
  pub put_placed : (b : Buf) → is_put_since h b ≡ true → is_placed h b ≡ true
  pub busy_placed : (b : Buf) → list_any (λ r. covers r b) (unfinished h) ≡ true → is_placed h b ≡ true
  pub reads_once : (b : Buf) → count_by (λ r. reads r b) (outstanding h) ≤ 1
  pub reads_absent : (b : Buf) → list_any (λ r. reads r b) (outstanding h) ≡ true → is_placed h b ≡ false

-- an event that touches none of this
kept_stay : (h l : List Event) → ((b : Buf) → is_put_since l b ≡ is_put_since h b)
    → ((b : Buf) → is_placed l b ≡ is_placed h b) → unfinished l ≡ unfinished h → outstanding l ≡ outstanding h
    → Kept h → Kept l
kept_stay h l put placed left out old = record {
  put_placed = λ b is. placed b ∙ old.put_placed b (sym (put b) ∙ is);
  busy_placed =
      λ b is. placed b ∙ old.busy_placed b (subst (λ x. list_any (λ r. covers r b) x ≡ true) left is);
  reads_once = λ b. subst (λ x. count_by (λ r. reads r b) x ≤ 1) (sym out) (old.reads_once b);
  reads_absent =
      λ b is. placed b ∙ old.reads_absent b (subst (λ x. list_any (λ r. reads r b) x ≡ true) out is);
}

kept_put : (w : Workload) (h : List Event) (q : Pid) (c : Call) (s : Serial) (piece : Piece) (fill : ℕ)
    → IsAtPiece w h q c s piece → Kept h → Kept (h ▹ Put q s piece.page piece.from piece.to fill)
kept_put w h q c s piece fill here old = record {
  put_placed = λ b is. elim (or_cases (same_buf b (Page s piece.page)) (is_put_since h b) is) [
    | inl same ↦ or_left (same_buf b (Page s piece.page)) (is_placed h b) same
    | inr put ↦ or_right (same_buf b (Page s piece.page)) (is_placed h b) (old.put_placed b put)
  ];
  busy_placed = λ b is. or_right (same_buf b (Page s piece.page)) (is_placed h b) (old.busy_placed b is);
  reads_once = old.reads_once;
  reads_absent = λ b is. or_from (same_buf b (Page s piece.page)) (is_placed h b) (other b is) (old.reads_absent b is);
}
  where
    other : (b : Buf) → list_any (λ r. reads r b) (outstanding h) ≡ true → same_buf b (Page s piece.page) ≡ false
    other b is =
        false_from_ne_true (same_buf b (Page s piece.page))
        (λ same. both_ways (list_any (λ r. reads r (Page s piece.page)) (outstanding h))
        (not_read w h q c s piece here)
        (subst (λ x. list_any (λ r. reads r x) (outstanding h) ≡ true) (same_buf-is b (Page s piece.page) same) is))

kept_evict : (w : Workload) (h : List Event) (q : Pid) (t : Serial) (g : ℕ) → victim w h ≡ Some (Page t g)
    → Kept h → Kept (h ▹ Evict q t g)
kept_evict w h q t g found old = record {
  put_placed =
      λ b is. and_from (not (same_buf b (Page t g))) (is_placed h b)
      (not_from_false (same_buf b (Page t g))
      (other b (λ same. both_ways (is_put_since h (Page t g)) free.clean
      (subst (λ x. is_put_since h x ≡ true) same is))))
      (old.put_placed b is);
  busy_placed =
      λ b is. and_from (not (same_buf b (Page t g))) (is_placed h b)
      (not_from_false (same_buf b (Page t g))
      (other b (λ same. both_ways (list_any (λ r. covers r (Page t g)) (unfinished h)) free.idle
      (subst (λ x. list_any (λ r. covers r x) (unfinished h) ≡ true) same is))))
      (old.busy_placed b is);
  reads_once = old.reads_once;
  reads_absent =
      λ b is. and_right (not (same_buf b (Page t g))) (is_placed h b) (old.reads_absent b is);
}
  where
    free : IsFree w h (Page t g)
    free = victim_free w h (Page t g) found

    other : (b : Buf) → (b ≡ Page t g → ⊥) → same_buf b (Page t g) ≡ false
    other b apart = false_from_ne_true (same_buf b (Page t g)) (λ same. apart (same_buf-is b (Page t g) same))

kept_load : (w : Workload) (h : List Event) (q : Pid) (c : Call) (s : Serial) (piece : Piece) (block : ℕ)
    → IsAtPiece w h q c s piece → IsAbsent w h (Page s piece.page) false → Kept h
    → Kept (h ▹ Add (Client q) (read_request (adds h) q s piece.page block))
kept_load w h q c s piece block here absent old = record {
  put_placed = old.put_placed;
  busy_placed =
      λ b is. old.busy_placed b (sym (any_pushed (λ x. covers x b) (unfinished h) r) ∙ is);
  reads_once = λ b. once b (same_buf b (Page s piece.page)) refl;
  reads_absent = λ b is. elim (or_cases (reads r b) (list_any (λ x. reads x b) (outstanding h))
      (sym (any_pushed (λ x. reads x b) (outstanding h) r) ∙ is)) [
        | inl does ↦
            ap (is_placed h) (same_buf-is b (Page s piece.page) does) ∙ not_placed w h q c s piece false here absent
        | inr was ↦ old.reads_absent b was
      ];
}
  where
    r : Request
    r = read_request (adds h) q s piece.page block

    at_most : (b : Bool) → cond b 1 0 ≤ 1
    at_most true = omega arith
    at_most false = omega arith

    once : (b : Buf) (t : Bool) → same_buf b (Page s piece.page) ≡ t
        → count_by (λ x. reads x b) (outstanding h ++ r ∷ []) ≤ 1
    once b true same =
        let new = not_read w h q c s piece here
        in let none : list_any (λ x. reads x b) (outstanding h) ≡ false =
        subst (λ y. list_any (λ x. reads x y) (outstanding h) ≡ false)
        (sym (same_buf-is b (Page s piece.page) same)) new
        in omega (
          arith,
          count_push (λ x. reads x b) (outstanding h) r,
          count_none (λ x. reads x b) (outstanding h) none,
          at_most (reads r b),
        )
    once b false other =
        let past : ◌≡◌ {A = ℕ} (cond (reads r b) 1 0) 0 = rw other refl
        in omega (arith, count_push (λ x. reads x b) (outstanding h) r, past, old.reads_once b)

kept_add : (w : Workload) (h : List Event) (run : Run) (block : ℕ) → IsServed w h run
    → is_live w h run.serial.0 ≡ true → Kept h → Kept (h ▹ Add Wb (request_for (adds h) run block))
kept_add w h run block served live old = record {
  put_placed = λ b is. old.put_placed b (and_parts (not (covers r b)) (is_put_since h b) is).1;
  busy_placed = λ b is. elim (or_cases (covers r b) (list_any (λ x. covers x b) (unfinished h))
      (sym (any_pushed (λ x. covers x b) (unfinished h) r) ∙ is)) [
        | inl does ↦
            (let ready = served_ready w h run b served live does
            in let dirty = and_parts (is_dirty w h b) (not (is_busy w h b)) ready
            in old.put_placed b (and_parts (is_live_page w h b) (is_put_since h b) dirty.0).1)
        | inr was ↦ old.busy_placed b was
      ];
  reads_once = λ b. omega (arith, count_push (λ x. reads x b) (outstanding h) r, old.reads_once b);
  reads_absent = λ b is. old.reads_absent b (sym (any_pushed (λ x. reads x b) (outstanding h) r) ∙ is);
}
  where
    r : Request
    r = request_for (adds h) run block

-- a request of the journal neither takes pages nor reads any
kept_journal : (w : Workload) (h : List Event) (kind : ReqKind) (first n : ℕ) → Journals w h kind first n → Kept h
    → Kept (h ▹ Add Cm (journal_request (adds h) kind first n))
kept_journal w h kind first n j old = record {
  put_placed = λ b is. old.put_placed b (and_parts (not (covers r b)) (is_put_since h b) is).1;
  busy_placed = λ b is. old.busy_placed b (left_as_was (λ x. covers x b) (unfinished h) (of.covers_none b) is);
  reads_once = λ b. omega (
    arith,
    count_push (λ x. reads x b) (outstanding h) r,
    ap {B = ℕ} (λ t. cond t 1 0) (of.reads_none b),
    old.reads_once b,
  );
  reads_absent = λ b is. old.reads_absent b (left_as_was (λ x. reads x b) (outstanding h) (of.reads_none b) is);
}
  where
    r : Request
    r = journal_request (adds h) kind first n

    of : IsOfJournal r
    of = of_journal w h (adds h) kind first n j

    left_as_was : (test : Request → Bool) (xs : List Request) → test r ≡ false
        → list_any test (xs ++ r ∷ []) ≡ true → list_any test xs ≡ true
    left_as_was test xs none is = sym (any_push_no test xs r none) ∙ is

kept_done : (w : Workload) (h : List Event) (k : ℕ) (r : Request) → IsFlying w h r → Kept h
    → Kept (h ▹ Done k r.id true)
kept_done w h k r fly old = record {
  put_placed = λ b is. or_right (is_read_of h r.id b) (is_placed h b) (old.put_placed b is);
  busy_placed =
      λ b is. or_right (is_read_of h r.id b) (is_placed h b)
      (old.busy_placed b (any_filter (λ x. covers x b) (λ x. not (is_numbered r.id x)) (unfinished h) is));
  reads_once =
      λ b. omega (
        arith,
        count_filter_less (λ x. reads x b) (λ x. not (is_numbered r.id x)) (outstanding h),
        old.reads_once b,
      );
  reads_absent = λ b is. (let parts = and_parts (not (reads r b)) (list_any (λ x. reads x b) (outstanding h))
      (sym (any_without (λ x. reads x b) (is_numbered r.id) (outstanding h) fly.place r fly.out (number_here r)
      fly.out_once (old.reads_once b)) ∙ is)
      in or_from (is_read_of h r.id b) (is_placed h b)
      (ap (λ o. elim o [ None ↦ false | Some y ↦ reads y b ]) fly.numbered ∙ not-true (reads r b) parts.0)
      (old.reads_absent b parts.1));
}

-- ---- every legal history
kept_next : (w : Workload) (h : List Event) (e : Event) → IsKnown w h → Kept h → Came w h e → Kept (h ▹ e)
kept_next w h e f old (came_enter q c has out) = kept_stay h (h ▹ e) (λ b. refl) (λ b. refl) refl refl old
kept_next w h e f old (came_admit q c has is out may) =
    kept_stay h (h ▹ e) (λ b. refl) (λ b. refl) refl refl old
kept_next w h e f old (came_make q name slot admitted idle unused at) =
    kept_stay h (h ▹ e) (λ b. refl) (λ b. refl) refl refl old
kept_next w h e f old (came_drop q name serial working idle) =
    kept_stay h (h ▹ e) (λ b. refl) (λ b. refl) refl refl old
kept_next w h e f old (came_no_file q c admitted none) =
    kept_stay h (h ▹ e) (λ b. refl) (λ b. refl) refl refl old
kept_next w h e f old (came_changed q c admitted names acted) =
    kept_stay h (h ▹ e) (λ b. refl) (λ b. refl) refl refl old
kept_next w h e f old (came_exists q name admitted idle taken) =
    kept_stay h (h ▹ e) (λ b. refl) (λ b. refl) refl refl old
kept_next w h e f old (came_no_slot q name admitted idle unused none) =
    kept_stay h (h ▹ e) (λ b. refl) (λ b. refl) refl refl old
kept_next w h e f old (came_too_big q name off len fill s working big) =
    kept_stay h (h ▹ e) (λ b. refl) (λ b. refl) refl refl old
kept_next w h e f old (came_no_space q name off len fill s piece here out none) =
    kept_stay h (h ▹ e) (λ b. refl) (λ b. refl) refl refl old
kept_next w h e f old (came_wrote q name off len fill s working none) =
    kept_stay h (h ▹ e) (λ b. refl) (λ b. refl) refl refl old
kept_next w h e f old (came_read q name off len s working none) =
    kept_stay h (h ▹ e) (λ b. refl) (λ b. refl) refl refl old
kept_next w h e f old (came_fault q c s piece working left bad) =
    kept_stay h (h ▹ e) (λ b. refl) (λ b. refl) refl refl old
kept_next w h e f old (came_put q name off len fill s piece here may) =
    kept_put w h q (Write name off len fill) s piece fill here old
kept_next w h e f old (came_get q name off len s piece here held) =
    kept_stay h (h ▹ e) (λ b. refl) (λ b. refl) refl refl old
kept_next w h e f old (came_zeros q name off len s piece here absent none) =
    kept_stay h (h ▹ e) (λ b. refl) (λ b. refl) refl refl old
kept_next w h e f old (came_evict q c s piece here absent t g found) = kept_evict w h q t g found old
kept_next w h e f old (came_load q c s piece here absent block at) =
    kept_load w h q c s piece block here absent old
kept_next w h e f old (came_serve run idle found) =
    kept_stay h (h ▹ e) (λ b. refl) (λ b. refl) refl refl old
kept_next w h e f old (came_skip run at gone) =
    kept_stay h (h ▹ e) (λ b. refl) (λ b. refl) refl refl old
kept_next w h e f old (came_map run free serves there none at) =
    kept_stay h (h ▹ e) (λ b. refl) (λ b. refl) refl refl old
kept_next w h e f old (came_grow run block serves there at short) =
    kept_stay h (h ▹ e) (λ b. refl) (λ b. refl) refl refl old
kept_next w h e f old (came_add run block at there placed known) =
    kept_add w h run block (f.served run at) there old
kept_next w h e f old (came_flushed q name s working idle down) =
    kept_stay h (h ▹ e) (λ b. refl) (λ b. refl) refl refl old
kept_next w h e f old (came_synced q name s working acted safe) =
    kept_stay h (h ▹ e) (λ b. refl) (λ b. refl) refl refl old
kept_next w h e f old (came_seal may) =
    kept_stay h (h ▹ e) (λ b. refl) (λ b. refl) refl refl old
kept_next w h e f old (came_journal kind first n j) = kept_journal w h kind first n j old
kept_next w h e f old (came_send r free picked) =
    kept_stay h (h ▹ e) (λ b. refl) (λ b. refl) refl refl old
kept_next w h e f old (came_done k r at) = kept_done w h k r (flying w h k r f at) old

pub kept : (w : Workload) (h : List Event) → IsAccepted w → IsLegal w h → Kept h
kept w [] accepted legal = record {
  put_placed = λ b is. absurd (cc);
  busy_placed = λ b is. absurd (cc);
  reads_once = λ b. omega arith;
  reads_absent = λ b is. absurd (cc);
}
kept w (h ▹ e) accepted legal =
    kept_next w h e (is_known w h accepted legal.1) (kept w h accepted legal.1) (came w h (maker e) e legal.0)
