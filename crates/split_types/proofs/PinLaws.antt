-- A process pins one page at most: the page that its call works on.
use Rattle.std.proofs.Common.{◌≡◌, ℕ, ◌==◌, ◌≤◌, List, [], length, slice_get, option_map, Bool, true, false, not, Option, Some, None, refl, arith, subst, sym, inl, inr, ap, ◌∙◌, if◌then◌else◌}
use Rattle.std.specs.List.{list_any}
use Rattle.std.proofs.lemmas.Bool.{both_ways, and_from, ne_eqb, eqb-false}
use Rattle.std.proofs.lemmas.Option.{same_Some, slice_get_within}
use Rattle.split_types.specs.declared.ids.Pid.{Pid}
use Rattle.split_types.specs.declared.ids.ReqId.{ReqId}
use Rattle.split_types.specs.declared.ids.Serial.{Serial}
use Rattle.split_types.specs.declared.buf.Buf.{Buf}
use Rattle.split_types.specs.declared.buf.Buf.TheVariants.{Page}
use Rattle.split_types.specs.declared.actor.Actor.{Actor}
use Rattle.split_types.specs.declared.call.Call.{Call}
use Rattle.split_types.specs.declared.call.Call.TheVariants.{Write, Read}
use Rattle.split_types.specs.declared.call.Reply.{Reply}
use Rattle.split_types.specs.declared.request.Request.{Request}
use Rattle.split_types.specs.declared.workload.Workload.{Workload}
use Rattle.split_types.specs.declared.event.Event.{Event}
use Rattle.split_types.specs.declared.event.Event.TheVariants.{Enter, Admit, Put, Get, Ret, Add, Send, Done, Evict}
use Rattle.split_types.specs.History.{◌▹◌, adds}
use Rattle.split_types.specs.Hooks.{maker}
use Rattle.split_types.specs.Requests.{is_numbered, requests, in_flight, unfinished}
use Rattle.split_types.specs.Calls.{is_entered, is_admitted}
use Rattle.split_types.specs.Files.{is_live, bound_file}
use Rattle.split_types.specs.Pieces.{Piece, piece_left}
use Rattle.split_types.specs.Reads.{reads, reads_for, outstanding, is_loading, request_numbered, is_read_of, other_than, reader_of}
use Rattle.split_types.specs.Victims.{pinned_by}
use Rattle.split_types.specs.Accepted.{IsAccepted}
use Rattle.split_types.specs.Legal.{IsLegal}
use Rattle.split_types.specs.Proving.Came.{Came, IsAtPiece}
use Rattle.split_types.specs.Proving.Came.Came.{came_enter, came_admit, came_changed, came_exists, came_no_slot, came_make, came_drop, came_no_file, came_too_big}
use Rattle.split_types.specs.Proving.Came.Came.{came_wrote, came_read, came_fault, came_no_space, came_put, came_get, came_zeros, came_evict, came_load}
use Rattle.split_types.specs.Proving.Came.Came.{came_flushed, came_synced, came_seal, came_journal, came_serve, came_skip, came_map, came_grow, came_add, came_send, came_done}
use Rattle.split_types.specs.Proving.Known.{Known}
use Rattle.split_types.proofs.CameLaws.{came}
use Rattle.split_types.proofs.JournalAdds.{of_journal}
use Rattle.split_types.proofs.KnownLaws.{known}
use Rattle.split_types.proofs.Lists.{slice_get-push, filter_there, list_any_here}
use Rattle.split_types.proofs.WaitingLaws.{number_here}
use Rattle.split_types.proofs.KeptLists.{case_true, case_false}
use Rattle.split_types.proofs.FileLaws.{live_of}
use Rattle.split_types.proofs.PutLaws.{bound_of}
use Rattle.split_types.proofs.NumberLaws.{all_done_well, flying_there}
use Rattle.split_types.proofs.StandingLaws.{Standing, standing, left_by, stands_enter, stands_admit, stands_put}
use Rattle.split_types.proofs.StandingLaws.{stands_get, stands_ret, not_own}
use Rattle.split_types.proofs.HeldLaws.{same_buf-is}

-- ---- the page that a call works on
-- the page of a piece of a file, if there are both
abbrev page_by : Option Serial → Option Piece → Option Buf
page_by None o = None
page_by (Some s) o = option_map (λ x. Page s x.page) o

-- the page of the first piece that is left of the call of a process that stands so, where it is bound to a file
abbrev page_left : Standing → Option Buf
page_left s = page_by s.file (left_by s)

-- process p has an admitted call under way, and that works on the page, or did until the file of the page was dropped
pub record WorksOn (w : Workload) (h : List Event) (p : Pid) (b : Buf) : Type 0 where
  pub least : 1 ≤ p.0
  pub most : p.0 ≤ length w.procs
  entered : is_entered h p.0 ≡ true
  admitted : is_admitted h p.0 ≡ true
  page : page_left (standing w h p.0) ≡ Some b

works_stay : (w : Workload) (h l : List Event) (p : Pid) (b : Buf) → standing w l p.0 ≡ standing w h p.0
    → WorksOn w h p b → WorksOn w l p b
works_stay w h l p b same works = record {
  least = works.least;
  most = works.most;
  entered = ap (λ s. s.entered) same ∙ works.entered;
  admitted = ap (λ s. s.admitted) same ∙ works.admitted;
  page = ap page_left same ∙ works.page;
}

-- where a piece comes next, its page is the one that its call works on
page_of : (w : Workload) (h : List Event) (p : Pid) (c : Call) (s : Serial) (piece : Piece)
    → IsAtPiece w h p c s piece → page_left (standing w h p.0) ≡ Some (Page s piece.page)
page_of w h p c s piece here =
    ap (λ o. page_by o (piece_left w h p.0)) (bound_of w h (bound_file w h p.0) s here.working.file)
    ∙ ap (page_by (Some s)) here.left

works_here : (w : Workload) (h : List Event) (p : Pid) (c : Call) (s : Serial) (piece : Piece)
    → IsAtPiece w h p c s piece → WorksOn w h p (Page s piece.page)
works_here w h p c s piece here =
    let admitted = here.working.admitted
    in record {
      least = admitted.has.first;
      most = admitted.has.last;
      entered = admitted.entered;
      admitted = admitted.admitted;
      page = page_of w h p c s piece here;
    }

-- a process works on one page
pub works_one : (w : Workload) (h : List Event) (p : Pid) (b c : Buf) → WorksOn w h p b → WorksOn w h p c → b ≡ c
works_one w h p b c first second = same_Some b c (sym first.page ∙ second.page)

-- events of other processes
works_enter : (w : Workload) (h : List Event) (q : Pid) (n : ℕ) (p : Pid) (b : Buf) → (q.0 == p.0) ≡ false
    → WorksOn w h p b → WorksOn w (h ▹ Enter q n) p b
works_enter w h q n p b other works =
    works_stay w h (h ▹ Enter q n) p b (stands_enter w h q n p.0 other) works

works_admit : (w : Workload) (h : List Event) (q : Pid) (p : Pid) (b : Buf) → (q.0 == p.0) ≡ false
    → WorksOn w h p b → WorksOn w (h ▹ Admit q) p b
works_admit w h q p b other works =
    works_stay w h (h ▹ Admit q) p b (stands_admit w h q p.0 other) works

works_ret : (w : Workload) (h : List Event) (q : Pid) (r : Reply) (p : Pid) (b : Buf) → (q.0 == p.0) ≡ false
    → WorksOn w h p b → WorksOn w (h ▹ Ret q r) p b
works_ret w h q r p b other works =
    works_stay w h (h ▹ Ret q r) p b (stands_ret w h q r p.0 other) works

works_put : (w : Workload) (h : List Event) (q : Pid) (s : Serial) (g from to fill : ℕ) (p : Pid) (b : Buf)
    → (q.0 == p.0) ≡ false → WorksOn w h p b → WorksOn w (h ▹ Put q s g from to fill) p b
works_put w h q s g from to fill p b other works =
    works_stay w h (h ▹ Put q s g from to fill) p b (stands_put w h q s g from to fill p.0 other) works

works_get : (w : Workload) (h : List Event) (q : Pid) (s : Serial) (g from to sum : ℕ) (p : Pid) (b : Buf)
    → (q.0 == p.0) ≡ false → WorksOn w h p b → WorksOn w (h ▹ Get q s g from to sum) p b
works_get w h q s g from to sum p b other works =
    works_stay w h (h ▹ Get q s g from to sum) p b (stands_get w h q s g from to sum p.0 other) works

-- the same processes work on the same pages
abbrev Stay : Workload → List Event → List Event → Type 0
Stay w h l = (p : Pid) (b : Buf) → WorksOn w h p b → WorksOn w l p b

-- no process comes further in its work by these
works_evict : (w : Workload) (h : List Event) (q : Pid) (s : Serial) (g : ℕ) → Stay w h (h ▹ Evict q s g)
works_evict w h q s g p b works =
    works_stay w h (h ▹ Evict q s g) p b refl works

works_add : (w : Workload) (h : List Event) (by : Actor) (r : Request) → Stay w h (h ▹ Add by r)
works_add w h by r p b works =
    works_stay w h (h ▹ Add by r) p b refl works

works_send : (w : Workload) (h : List Event) (id : ReqId) (cost : ℕ) → Stay w h (h ▹ Send id cost)
works_send w h id cost p b works =
    works_stay w h (h ▹ Send id cost) p b refl works

works_done : (w : Workload) (h : List Event) (k : ℕ) (id : ReqId) → Stay w h (h ▹ Done k id true)
works_done w h k id p b works =
    works_stay w h (h ▹ Done k id true) p b refl works

-- ---- what is known of reads and pins
pub record Pins (w : Workload) (h : List Event) : Type 0 where
  -- a request that isn't done is the one of its number
  pub named : (k : ℕ) (r : Request) → slice_get (outstanding h) k ≡ Some r → request_numbered h r.id ≡ Some r
  -- the call that added a read that isn't done still works on the page that is read, or did until its file was dropped
  pub loads : (k : ℕ) (r : Request) (p : Pid) (b : Buf) → slice_get (outstanding h) k ≡ Some r
      → reader_of h r.id ≡ Some p → reads r b ≡ true → WorksOn w h p b
  -- the call for which a page is pinned works on it, or did until its file was dropped
  pub pins : (p : Pid) (b : Buf) → pinned_by h b ≡ Some p → WorksOn w h p b

-- what is some process other than q
other_parts : (q : Pid) (o : Option Pid) (p : Pid) → other_than q o ≡ Some p → (o ≡ Some p) × ((q.0 == p.0) ≡ false)
other_parts q None p is = absurd (cc)
other_parts q (Some r) p is = by_test (r.0 == q.0) refl is
  where
    by_test : (t : Bool) → (r.0 == q.0) ≡ t → (if t then None else Some r) ≡ Some p
        → (Some r ≡ Some p) × ((q.0 == p.0) ≡ false)
    by_test true same at = absurd (cc)
    by_test false other at = (
      at,
      ne_eqb q.0 p.0 (λ (e : q.0 ≡ p.0). eqb-false r.0 q.0 other (omega (arith, ap (λ x. x.0) (same_Some r p at), e))),
    )

-- an event that adds and ends no request, and pins and frees no page
pins_stay : (w : Workload) (h l : List Event) → ((id : ReqId) → request_numbered l id ≡ request_numbered h id)
    → outstanding l ≡ outstanding h → ((id : ReqId) → reader_of l id ≡ reader_of h id)
    → ((b : Buf) → pinned_by l b ≡ pinned_by h b) → Stay w h l → Pins w h → Pins w l
pins_stay w h l numbers same readers pinned stay old = record {
  named = λ k r at. numbers r.id ∙ old.named k r (subst (λ x. slice_get x k ≡ Some r) same at);
  loads =
      λ k r p b at reader does. stay p b
      (old.loads k r p b (subst (λ x. slice_get x k ≡ Some r) same at) (sym (readers r.id) ∙ reader) does);
  pins = λ p b is. stay p b (old.pins p b (sym (pinned b) ∙ is));
}

-- a return: what its process read and pinned is so no more
pins_ret : (w : Workload) (h : List Event) (q : Pid) (reply : Reply) → Pins w h → Pins w (h ▹ Ret q reply)
pins_ret w h q reply old = record {
  named = old.named;
  loads =
      λ k r p b at reader does. (let parts = other_parts q (reader_of h r.id) p reader
      in works_ret w h q reply p b parts.1 (old.loads k r p b at parts.0 does));
  pins =
      λ p b is. (let parts = other_parts q (pinned_by h b) p is
      in works_ret w h q reply p b parts.1 (old.pins p b parts.0));
}

-- where a piece of process q comes next, no read that its call added is left
pub none_loads : (w : Workload) (h : List Event) (q : Pid) (c : Call) (s : Serial) (piece : Piece) → Pins w h
    → IsAtPiece w h q c s piece → (k : ℕ) (r : Request) (p : Pid) (b : Buf) → slice_get (outstanding h) k ≡ Some r
    → reader_of h r.id ≡ Some p → reads r b ≡ true → (q.0 == p.0) ≡ false
none_loads w h q c s piece old here k r p b at reader does =
    ne_eqb q.0 p.0 (λ (e : q.0 ≡ p.0). both_ways (is_loading w h (Page s piece.page)) here.there (loading e))
  where
    same : q.0 ≡ p.0 → b ≡ Page s piece.page
    same e =
        same_Some b (Page s piece.page)
        (sym (old.loads k r p b at reader does).page
        ∙ subst (λ n. page_left (standing w h n) ≡ Some (Page s piece.page)) e (page_of w h q c s piece here))

    loading : q.0 ≡ p.0 → is_loading w h (Page s piece.page) ≡ true
    loading e =
        and_from (is_live w h s.0) (list_any (λ x. reads x (Page s piece.page)) (outstanding h))
        (live_of w h (bound_file w h q.0) s here.working.file)
        (list_any_here (λ x. reads x (Page s piece.page)) (outstanding h) k r at
        (subst (λ x. reads r x ≡ true) (same e) does))

pins_put : (w : Workload) (h : List Event) (q : Pid) (c : Call) (s : Serial) (piece : Piece) (fill : ℕ) → Pins w h
    → IsAtPiece w h q c s piece → Pins w (h ▹ Put q s piece.page piece.from piece.to fill)
pins_put w h q c s piece fill old here = record {
  named = old.named;
  loads =
      λ k r p b at reader does. works_put w h q s piece.page piece.from piece.to fill p b
      (none_loads w h q c s piece old here k r p b at reader does) (old.loads k r p b at reader does);
  pins =
      λ p b is. (let parts = other_parts q (pinned_by h b) p is
      in works_put w h q s piece.page piece.from piece.to fill p b parts.1 (old.pins p b parts.0));
}

pins_get : (w : Workload) (h : List Event) (q : Pid) (c : Call) (s : Serial) (piece : Piece) (sum : ℕ) → Pins w h
    → IsAtPiece w h q c s piece → Pins w (h ▹ Get q s piece.page piece.from piece.to sum)
pins_get w h q c s piece sum old here = record {
  named = old.named;
  loads =
      λ k r p b at reader does. works_get w h q s piece.page piece.from piece.to sum p b
      (none_loads w h q c s piece old here k r p b at reader does) (old.loads k r p b at reader does);
  pins =
      λ p b is. (let parts = other_parts q (pinned_by h b) p is
      in works_get w h q s piece.page piece.from piece.to sum p b parts.1 (old.pins p b parts.0));
}

-- a request that is added, by a call for the page that it works on
pins_add : (w : Workload) (h : List Event) (by : Actor) (r : Request) → Known w h → outstanding h ≡ unfinished h
    → Pins w h → r.id.0 ≡ adds h → Stay w h (h ▹ Add by r)
    → ((p : Pid) (b : Buf) → reads_for r ≡ Some p → reads r b ≡ true → WorksOn w h p b) → Pins w (h ▹ Add by r)
pins_add w h by r f same old id stay for = record {
  named = λ k x at. elim (slice_get-push (outstanding h) r k x at) [
    | inl was ↦ numbered_old x (apart k x was) ∙ old.named k x was
    | inr new ↦ numbered_new x new.1
  ];
  loads = λ k x p b at reader does. elim (slice_get-push (outstanding h) r k x at) [
    | inl was ↦ stay p b (old.loads k x p b was (sym (reader_old x (apart k x was)) ∙ reader) does)
    | inr new ↦
        stay p b (for p b (sym (reader_new x new.1) ∙ reader) (subst (λ y. reads y b ≡ true) (sym new.1) does))
  ];
  pins = λ p b is. stay p b (old.pins p b is);
}
  where
    -- a request that was there before has another number
    apart : (k : ℕ) (x : Request) → slice_get (outstanding h) k ≡ Some x → is_numbered x.id r ≡ false
    apart k x was =
        let place = f.waiting.left_of k x (subst (λ l. slice_get l k ≡ Some x) same was)
        in let below = slice_get_within (requests h) x.id.0 x place
        in ne_eqb r.id.0 x.id.0 (λ (e : r.id.0 ≡ x.id.0). omega (arith, id, below, f.numbered.counted, e))

    numbered_old : (x : Request) → is_numbered x.id r ≡ false
        → request_numbered (h ▹ Add by r) x.id ≡ request_numbered h x.id
    numbered_old x other = case_false (is_numbered x.id r) (Some r) (request_numbered h x.id) other

    numbered_new : (x : Request) → r ≡ x → request_numbered (h ▹ Add by r) x.id ≡ Some x
    numbered_new x is =
        subst (λ y. request_numbered (h ▹ Add by r) y.id ≡ Some y) is
        (case_true (is_numbered r.id r) (Some r) (request_numbered h r.id) (number_here r))

    reader_old : (x : Request) → is_numbered x.id r ≡ false → reader_of (h ▹ Add by r) x.id ≡ reader_of h x.id
    reader_old x other = case_false (is_numbered x.id r) (reads_for r) (reader_of h x.id) other

    reader_new : (x : Request) → r ≡ x → reader_of (h ▹ Add by r) x.id ≡ reads_for r
    reader_new x is = subst (λ y. reader_of (h ▹ Add by r) y.id ≡ reads_for r) is
        (case_true (is_numbered r.id r) (reads_for r) (reader_of h r.id) (number_here r))

-- a request that is done
pins_done : (w : Workload) (h : List Event) (k : ℕ) (r : Request) → Known w h → outstanding h ≡ unfinished h
    → Pins w h → slice_get (in_flight h) k ≡ Some r → Pins w (h ▹ Done k r.id true)
pins_done w h k r f same old at = record {
  named = λ j x there. (let was = filter_there (λ y. not (is_numbered r.id y)) (outstanding h) j x there
      in old.named was.0 x was.1);
  loads =
      λ j x p b there reader does. (let was =
      filter_there (λ y. not (is_numbered r.id y)) (outstanding h) j x there
      in stay p b (old.loads was.0 x p b was.1 reader does));
  pins = λ p b is. pinned p b (is_read_of h r.id b) refl is;
}
  where
    stay : Stay w h (h ▹ Done k r.id true)
    stay = works_done w h k r.id

    -- the page that it read
    loaded : (p : Pid) (b : Buf) (j : ℕ) → slice_get (outstanding h) j ≡ Some r → is_read_of h r.id b ≡ true
        → reader_of h r.id ≡ Some p → WorksOn w h p b
    loaded p b j there does reader =
        old.loads j r p b there reader
        (sym (ap (λ o. elim o [ None ↦ false | Some y ↦ reads y b ]) (old.named j r there)) ∙ does)

    pinned : (p : Pid) (b : Buf) (t : Bool) → is_read_of h r.id b ≡ t
        → (if t then reader_of h r.id else pinned_by h b) ≡ Some p → WorksOn w (h ▹ Done k r.id true) p b
    pinned p b true does is =
        let left = flying_there w h k r f at
        in stay p b (loaded p b left.0 (ap (λ l. slice_get l left.0) same ∙ left.1) does is)
    pinned p b false does is = stay p b (old.pins p b is)

-- ---- every legal history
pins_none : (w : Workload) → Pins w []
pins_none w = record {
  named = λ k r at. absurd (cc);
  loads = λ k r p b at reader does. absurd (cc);
  pins = λ p b is. absurd (cc);
}

-- a process that has no such call under way is another one
not_entered : (w : Workload) (h : List Event) (q p : Pid) (b : Buf) → is_entered h q.0 ≡ false → WorksOn w h p b
    → (q.0 == p.0) ≡ false
not_entered w h q p b out works = not_own p.0 q (is_entered h) works.entered out

not_admitted : (w : Workload) (h : List Event) (q p : Pid) (b : Buf) → is_admitted h q.0 ≡ false → WorksOn w h p b
    → (q.0 == p.0) ≡ false
not_admitted w h q p b out works = not_own p.0 q (is_admitted h) works.admitted out

pins_next : (w : Workload) (h : List Event) (e : Event) → Known w h → outstanding h ≡ unfinished h → Pins w h
    → Came w h e → Pins w (h ▹ e)
pins_next w h e f same old (came_enter q c has out) =
    pins_stay w h (h ▹ e) (λ id. refl) refl (λ id. refl) (λ b. refl)
    (λ p b works. works_enter w h q _ p b (not_entered w h q p b out works) works) old
pins_next w h e f same old (came_admit q c has is out may) =
    pins_stay w h (h ▹ e) (λ id. refl) refl (λ id. refl) (λ b. refl)
    (λ p b works. works_admit w h q p b (not_admitted w h q p b out works) works) old
pins_next w h e f same old (came_make q name slot admitted idle unused at) =
    pins_stay w h (h ▹ e) (λ id. refl) refl (λ id. refl) (λ b. refl)
    (λ p b works. works_stay w h (h ▹ e) p b refl works) old
pins_next w h e f same old (came_drop q name serial working idle) =
    pins_stay w h (h ▹ e) (λ id. refl) refl (λ id. refl) (λ b. refl)
    (λ p b works. works_stay w h (h ▹ e) p b refl works) old
pins_next w h e f same old (came_no_file q c admitted none) = pins_ret w h q _ old
pins_next w h e f same old (came_changed q c admitted names acted) = pins_ret w h q _ old
pins_next w h e f same old (came_exists q name admitted idle taken) = pins_ret w h q _ old
pins_next w h e f same old (came_no_slot q name admitted idle unused none) = pins_ret w h q _ old
pins_next w h e f same old (came_too_big q name off len fill s working big) = pins_ret w h q _ old
pins_next w h e f same old (came_no_space q name off len fill s piece here out none) = pins_ret w h q _ old
pins_next w h e f same old (came_wrote q name off len fill s working none) = pins_ret w h q _ old
pins_next w h e f same old (came_read q name off len s working none) = pins_ret w h q _ old
pins_next w h e f same old (came_fault q c s piece working left bad) = pins_ret w h q _ old
pins_next w h e f same old (came_put q name off len fill s piece here may) =
    pins_put w h q (Write name off len fill) s piece fill old here
pins_next w h e f same old (came_get q name off len s piece here held) =
    pins_get w h q (Read name off len) s piece _ old here
pins_next w h e f same old (came_zeros q name off len s piece here absent none) =
    pins_get w h q (Read name off len) s piece 0 old here
pins_next w h e f same old (came_evict q c s piece here absent t g found) =
    pins_stay w h (h ▹ e) (λ id. refl) refl (λ id. refl) (λ b. refl) (works_evict w h q t g) old
pins_next w h e f same old (came_load q c s piece here absent block at) =
    pins_add w h _ _ f same old refl (works_add w h _ _)
    (λ p b reader does. subst (λ x. WorksOn w h x b) (same_Some q p reader)
    (subst (WorksOn w h q) (sym (same_buf-is b (Page s piece.page) does)) (works_here w h q c s piece here)))
pins_next w h e f same old (came_serve run idle found) =
    pins_stay w h (h ▹ e) (λ id. refl) refl (λ id. refl) (λ b. refl)
    (λ p b works. works_stay w h (h ▹ e) p b refl works) old
pins_next w h e f same old (came_skip run at gone) =
    pins_stay w h (h ▹ e) (λ id. refl) refl (λ id. refl) (λ b. refl)
    (λ p b works. works_stay w h (h ▹ e) p b refl works) old
pins_next w h e f same old (came_map run free serves there none at) =
    pins_stay w h (h ▹ e) (λ id. refl) refl (λ id. refl) (λ b. refl)
    (λ p b works. works_stay w h (h ▹ e) p b refl works) old
pins_next w h e f same old (came_grow run block serves there at short) =
    pins_stay w h (h ▹ e) (λ id. refl) refl (λ id. refl) (λ b. refl)
    (λ p b works. works_stay w h (h ▹ e) p b refl works) old
pins_next w h e f same old (came_add run block at there placed long) =
    pins_add w h _ _ f same old refl (works_add w h _ _)
    (λ p b reader does. absurd (cc))
pins_next w h e f same old (came_flushed q name s working idle down) =
    pins_stay w h (h ▹ e) (λ id. refl) refl (λ id. refl) (λ b. refl)
    (λ p b works. works_stay w h (h ▹ e) p b refl works) old
pins_next w h e f same old (came_synced q name s working acted safe) = pins_ret w h q _ old
pins_next w h e f same old (came_seal may) =
    pins_stay w h (h ▹ e) (λ id. refl) refl (λ id. refl) (λ b. refl)
    (λ p b works. works_stay w h (h ▹ e) p b refl works) old
pins_next w h e f same old (came_journal kind first n j) =
    pins_add w h _ _ f same old refl (works_add w h _ _)
    (λ p b reader does. absurd (let none = (of_journal w h (adds h) kind first n j).reads_none b in cc))
pins_next w h e f same old (came_send r free picked) =
    pins_stay w h (h ▹ e) (λ id. refl) refl (λ id. refl) (λ b. refl) (works_send w h r.id _) old
pins_next w h e f same old (came_done k r at) = pins_done w h k r f same old at

pub pins : (w : Workload) (h : List Event) → IsAccepted w → IsLegal w h → Pins w h
pins w [] accepted legal = pins_none w
pins w (h ▹ e) accepted legal =
    pins_next w h e (known w h accepted legal.1) (all_done_well w h legal.1) (pins w h accepted legal.1)
    (came w h (maker e) e legal.0)

-- two pages that one process pins are one
pub pins_one : (w : Workload) (h : List Event) (p q : Pid) (b c : Buf) → Pins w h → pinned_by h b ≡ Some p
    → pinned_by h c ≡ Some q → p.0 ≡ q.0 → b ≡ c
pins_one w h p q b c all first second same =
    same_Some b c
    (sym (all.pins p b first).page ∙ ap (λ n. page_left (standing w h n)) same ∙ (all.pins q c second).page)
