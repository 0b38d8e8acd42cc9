-- How many reads a process adds: the piece for which it added one is put or got, or its call returns, before it adds
-- another.
use Rattle.std.proofs.Common.{◌≡◌, ℕ, ◌+◌, ◌==◌, ◌≤◌, List, [], Bool, true, false, not, ◌&&◌, ◌||◌, Some, refl, arith, sym, subst, inl, inr, ◌∙◌, ap, cond, if◌then◌else◌}
use Rattle.std.specs.List.{list_any}
use Rattle.std.proofs.lemmas.Bool.{cases_Bool, or_right, both_ways, eqb-true}
use Rattle.std.proofs.lemmas.Option.{same_Some}
use Rattle.split_types.specs.declared.ids.Pid.{Pid}
use Rattle.split_types.specs.declared.ids.Serial.{Serial}
use Rattle.split_types.specs.declared.buf.Buf.TheVariants.{Page}
use Rattle.split_types.specs.declared.call.Call.{Call}
use Rattle.split_types.specs.declared.call.Reply.{Reply}
use Rattle.split_types.specs.declared.call.Reply.TheVariants as reply
use Rattle.split_types.specs.declared.actor.Actor.TheVariants.{Client}
use Rattle.split_types.specs.declared.request.Request.{Request}
use Rattle.split_types.specs.declared.workload.Workload.{Workload}
use Rattle.split_types.specs.declared.event.Event.{Event}
use Rattle.split_types.specs.declared.event.Event.TheVariants.{Get, Ret, Add}
use Rattle.split_types.specs.History.{◌▹◌, adds}
use Rattle.split_types.specs.Hooks.{maker}
use Rattle.split_types.specs.Calls.{returned, is_entered, is_admitted, moved}
use Rattle.split_types.specs.Files.{bound_file}
use Rattle.split_types.specs.PageBytes.{sum_of_bytes}
use Rattle.split_types.specs.Pieces.{Piece, piece_left, got}
use Rattle.split_types.specs.Reads.{reads, outstanding}
use Rattle.split_types.specs.HeldPages.{is_held}
use Rattle.split_types.specs.Accepted.{IsAccepted}
use Rattle.split_types.specs.Legal.{IsLegal}
use Rattle.split_types.specs.Proving.Came.{Came, IsAtPiece, read_request}
use Rattle.split_types.specs.Proving.Came.Came.{came_enter, came_admit, came_changed, came_exists, came_no_slot, came_make, came_drop, came_no_file, came_too_big}
use Rattle.split_types.specs.Proving.Came.Came.{came_wrote, came_read, came_fault, came_no_space, came_put, came_get, came_zeros, came_evict, came_load}
use Rattle.split_types.specs.Proving.Came.Came.{came_flushed, came_synced, came_seal, came_journal, came_serve, came_skip, came_map, came_grow, came_add, came_send, came_done}
use Rattle.split_types.specs.Proving.Known.{Known}
use Rattle.split_types.proofs.CameLaws.{came}
use Rattle.split_types.proofs.KnownLaws.{known}
use Rattle.split_types.proofs.FileLaws.{live_of}
use Rattle.split_types.proofs.PutLaws.{bound_of}
use Rattle.split_types.proofs.WorkLaws.{pieces}
use Rattle.split_types.proofs.StandingLaws.{standing, left_by, stands_enter, stands_admit, stands_put, stands_get}
use Rattle.split_types.proofs.StandingLaws.{stands_ret, not_own}
use Rattle.split_types.proofs.NumberLaws.{Numbers, numbers}
use Rattle.split_types.proofs.KeptLaws.{has_asked, IsKept, kept_held, kept_new, not_by, kept_next}

-- how many reads process p added
abbrev pub loads : List Event → ℕ → ℕ
loads [] p = 0
loads (h ▹ Add (Client by) r) p = if by.0 == p then loads h p + 1 else loads h p
loads (h ▹ e) p = loads h p

-- ---- what a process has asked for
-- so many reads were added, pieces put or got, calls returned; whether a read was asked for since, and whether the call
-- is entered and admitted
pub record AsksAt (added all back : ℕ) (asked entered admitted : Bool) : Type 0 where
  pub counted : added ≤ all + back + cond asked 1 0
  pub inside : asked ≡ true → entered ≡ true
  pub let_in : asked ≡ true → admitted ≡ true

abbrev pub Asks : List Event → ℕ → Type 0
Asks h p = AsksAt (loads h p) (pieces h p) (returned h p) (has_asked h p) (is_entered h p) (is_admitted h p)

-- where a process has asked for a page, that of its first piece that is left, in the file that its call is bound to, is
-- kept for it, even where that file is dropped meanwhile; it is held as long as the file is there
abbrev pub KeepsAsked : Workload → List Event → ℕ → Type 0
KeepsAsked w h p =
    has_asked h p ≡ true → (s : Serial) (piece : Piece) → bound_file w h p ≡ Some s → piece_left w h p ≡ Some piece
    → IsKept h p (Page s piece.page)

-- a process that adds a read hasn't asked for one: the page that it would have asked for is held
asks_once : (w : Workload) (h : List Event) (q : Pid) (c : Call) (s : Serial) (piece : Piece)
    → IsAtPiece w h q c s piece → is_held w h (Page s piece.page) ≡ false → KeepsAsked w h q.0
    → has_asked h q.0 ≡ false
asks_once w h q c s piece here absent keeps = elim (cases_Bool (has_asked h q.0)) [
  | inr not_yet ↦ not_yet
  | inl asked ↦
      absurd (both_ways (is_held w h (Page s piece.page)) absent
      (kept_held w h q.0 (Page s piece.page) (live_of w h (bound_file w h q.0) s here.working.file)
      (keeps asked s piece (bound_of w h (bound_file w h q.0) s here.working.file) here.left)))
]

-- a call that is entered or admitted besides
asks_wider : (m u r : ℕ) (a en ad in' ai : Bool) → (en ≡ true → in' ≡ true) → (ad ≡ true → ai ≡ true)
    → AsksAt m u r a en ad → AsksAt m u r a in' ai
asks_wider m u r a en ad in' ai first second k =
    record { counted = k.counted; inside = λ e. first (k.inside e); let_in = λ e. second (k.let_in e) }

-- a piece is put or got
asks_moved : (m u r : ℕ) (a en ad b : Bool) → AsksAt m u r a en ad
    → AsksAt m (if b then u + 1 else u) r (not b && a) en ad
asks_moved m u r a en ad false k = k
asks_moved m u r a en ad true k = record {
  counted = most a k.counted;
  inside = λ e. absurd (cc);
  let_in = λ e. absurd (cc);
}
  where
    most : (x : Bool) → m ≤ u + r + cond x 1 0 → m ≤ u + 1 + r + 0
    most true l = omega arith
    most false l = omega arith

-- a call returns
asks_back : (m u r : ℕ) (a en ad b : Bool) → AsksAt m u r a en ad
    → AsksAt m u (if b then r + 1 else r) (not b && a) (not b && en) (not b && ad)
asks_back m u r a en ad false k = k
asks_back m u r a en ad true k = record {
  counted = most a k.counted;
  inside = λ e. absurd (cc);
  let_in = λ e. absurd (cc);
}
  where
    most : (x : Bool) → m ≤ u + r + cond x 1 0 → m ≤ u + (r + 1) + 0
    most true l = omega arith
    most false l = omega arith

-- a read is added
asks_more : (m u r : ℕ) (a en ad b : Bool) → (b ≡ true → a ≡ false) → (b ≡ true → en ≡ true) → (b ≡ true → ad ≡ true)
    → AsksAt m u r a en ad → AsksAt (if b then m + 1 else m) u r (b || a) en ad
asks_more m u r a en ad false out is let' k = k
asks_more m u r a en ad true out is let' k = record {
  counted = more (subst (λ x. m ≤ u + r + cond x 1 0) (out refl) k.counted);
  inside = λ e. is refl;
  let_in = λ e. let' refl;
}
  where
    more : m ≤ u + r + 0 → m + 1 ≤ u + r + 1
    more l = omega arith

-- ---- the piece that a process is at
-- what is kept for a process stays so through an event that leaves its piece
keeps_if : (w : Workload) (h : List Event) (e : Event) (p : ℕ) → Known w h → Numbers h → Came w h e
    → (has_asked (h ▹ e) p ≡ true → has_asked h p ≡ true)
    → (has_asked (h ▹ e) p ≡ true → standing w (h ▹ e) p ≡ standing w h p) → KeepsAsked w h p → KeepsAsked w (h ▹ e) p
keeps_if w h e p f n row before stays keeps asked s piece file left =
    let same = stays asked
    in kept_next w h e p (Page s piece.page) f n row asked
    (keeps (before asked) s piece (sym (ap (λ x. x.file) same) ∙ file) (sym (ap left_by same) ∙ left))

-- a read that is added
keeps_load : (w : Workload) (h : List Event) (q : Pid) (c : Call) (s : Serial) (piece : Piece) (block p : ℕ) → Known w h
    → Numbers h → (row : Came w h (Add (Client q) (read_request (adds h) q s piece.page block)))
    → IsAtPiece w h q c s piece → KeepsAsked w h p
    → KeepsAsked w (h ▹ Add (Client q) (read_request (adds h) q s piece.page block)) p
keeps_load w h q c s piece block p f n row here keeps = elim (cases_Bool (q.0 == p)) [
  | inr other ↦
      keeps_if w h (Add (Client q) r) p f n row (λ asked. or_second (q.0 == p) (has_asked h p) other asked)
      (λ asked. refl) keeps
  | inl same ↦ (λ asked t next file left. own t next (eqb-true q.0 p same) file left)
]
  where
    r : Request
    r = read_request (adds h) q s piece.page block

    or_second : (x y : Bool) → x ≡ false → (x || y) ≡ true → y ≡ true
    or_second true y e is = absurd (cc)
    or_second false y e is = is

    idle : list_any (λ x. reads x (Page s piece.page)) (outstanding h) ≡ false
    idle =
        sym (ap (λ b. b && list_any (λ x. reads x (Page s piece.page)) (outstanding h))
        (live_of w h (bound_file w h q.0) s here.working.file)) ∙ here.there

    fresh : IsKept (h ▹ Add (Client q) r) q.0 (Page s piece.page)
    fresh = kept_new h q s piece.page block idle

    own : (t : Serial) (next : Piece) → q.0 ≡ p → bound_file w (h ▹ Add (Client q) r) p ≡ Some t
        → piece_left w h p ≡ Some next
        → IsKept (h ▹ Add (Client q) r) p (Page t next.page)
    own t next is file left =
        let same_file : s ≡ t =
        same_Some s t (sym (subst (λ x. bound_file w h x ≡ Some s) is
        (bound_of w h (bound_file w h q.0) s here.working.file))
        ∙ file)
        in let same_piece : piece ≡ next =
        same_Some piece next (sym (subst (λ x. piece_left w h x ≡ Some piece) is here.left) ∙ left)
        in subst (λ x. IsKept (h ▹ Add (Client q) r) p (Page x next.page)) same_file
        (subst (λ x. IsKept (h ▹ Add (Client q) r) p (Page s x.page)) same_piece
        (subst (λ x. IsKept (h ▹ Add (Client q) r) x (Page s piece.page)) is fresh))

-- a return, and a get
keeps_ret : (w : Workload) (h : List Event) (q : Pid) (r : Reply) (p : ℕ) → Known w h → Numbers h
    → Came w h (Ret q r) → KeepsAsked w h p → KeepsAsked w (h ▹ Ret q r) p
keeps_ret w h q r p f n row keeps =
    keeps_if w h (Ret q r) p f n row (λ asked. (not_by (q.0 == p) (has_asked h p) asked).1)
    (λ asked. stands_ret w h q r p (not_by (q.0 == p) (has_asked h p) asked).0) keeps

keeps_get : (w : Workload) (h : List Event) (q : Pid) (s : Serial) (g from to sum p : ℕ) → Known w h → Numbers h
    → Came w h (Get q s g from to sum) → KeepsAsked w h p → KeepsAsked w (h ▹ Get q s g from to sum) p
keeps_get w h q s g from to sum p f n row keeps =
    keeps_if w h (Get q s g from to sum) p f n row (λ asked. (not_by (q.0 == p) (has_asked h p) asked).1)
    (λ asked. stands_get w h q s g from to sum p (not_by (q.0 == p) (has_asked h p) asked).0) keeps

-- what is known of the reads of a process
pub record Asked (w : Workload) (h : List Event) (p : ℕ) : Type 0 where
  pub asks : Asks h p
  pub keeps : KeepsAsked w h p

keeps_next : (w : Workload) (h : List Event) (e : Event) (p : ℕ) → Known w h → Numbers h → Came w h e → Asked w h p
    → KeepsAsked w (h ▹ e) p
keeps_next w h e p f n (came_enter q c has out) k =
    keeps_if w h e p f n (came_enter q c has out) (λ asked. asked)
    (λ asked. stands_enter w h q (returned h q.0) p (not_own p q (is_entered h) (k.asks.inside asked) out)) k.keeps
keeps_next w h e p f n (came_admit q c has in' out may) k =
    keeps_if w h e p f n (came_admit q c has in' out may) (λ asked. asked)
    (λ asked. stands_admit w h q p (not_own p q (is_admitted h) (k.asks.let_in asked) out)) k.keeps
keeps_next w h e p f n (came_make q name slot admitted idle unused at) k =
    keeps_if w h e p f n (came_make q name slot admitted idle unused at) (λ asked. asked)
    (λ asked. refl) k.keeps
keeps_next w h e p f n (came_drop q name serial working idle) k =
    keeps_if w h e p f n (came_drop q name serial working idle) (λ asked. asked)
    (λ asked. refl) k.keeps
keeps_next w h e p f n (came_no_file q c admitted none) k =
    keeps_ret w h q reply.NoFile p f n (came_no_file q c admitted none) k.keeps
keeps_next w h e p f n (came_changed q c admitted names acted) k =
    keeps_ret w h q reply.Done p f n (came_changed q c admitted names acted) k.keeps
keeps_next w h e p f n (came_exists q name admitted idle taken) k =
    keeps_ret w h q reply.Exists p f n (came_exists q name admitted idle taken) k.keeps
keeps_next w h e p f n (came_no_slot q name admitted idle unused none) k =
    keeps_ret w h q reply.NoSlot p f n (came_no_slot q name admitted idle unused none) k.keeps
keeps_next w h e p f n (came_too_big q name off len fill s working big) k =
    keeps_ret w h q reply.TooBig p f n (came_too_big q name off len fill s working big) k.keeps
keeps_next w h e p f n (came_no_space q name off len fill s piece here out none) k =
    keeps_ret w h q (reply.NoSpace (moved h q.0)) p f n (came_no_space q name off len fill s piece here out none)
    k.keeps
keeps_next w h e p f n (came_wrote q name off len fill s working none) k =
    keeps_ret w h q reply.Done p f n (came_wrote q name off len fill s working none) k.keeps
keeps_next w h e p f n (came_read q name off len s working none) k =
    keeps_ret w h q (reply.Count (moved h q.0) (got h q.0)) p f n (came_read q name off len s working none) k.keeps
keeps_next w h e p f n (came_fault q c s piece working left bad) k =
    keeps_ret w h q reply.ReadFault p f n (came_fault q c s piece working left bad) k.keeps
keeps_next w h e p f n (came_put q name off len fill s piece here may) k =
    keeps_if w h e p f n (came_put q name off len fill s piece here may)
    (λ asked. (not_by (q.0 == p) (has_asked h p) asked).1)
    (λ asked. stands_put w h q s piece.page piece.from piece.to fill p (not_by (q.0 == p) (has_asked h p) asked).0)
    k.keeps
keeps_next w h e p f n (came_get q name off len s piece here held) k =
    keeps_get w h q s piece.page piece.from piece.to (sum_of_bytes w h s piece.page piece.from piece.to) p f n
    (came_get q name off len s piece here held) k.keeps
keeps_next w h e p f n (came_zeros q name off len s piece here absent none) k =
    keeps_get w h q s piece.page piece.from piece.to 0 p f n (came_zeros q name off len s piece here absent none)
    k.keeps
keeps_next w h e p f n (came_evict q c s piece here absent t g found) k =
    keeps_if w h e p f n (came_evict q c s piece here absent t g found) (λ asked. asked)
    (λ asked. refl) k.keeps
keeps_next w h e p f n (came_load q c s piece here absent block at) k =
    keeps_load w h q c s piece block p f n (came_load q c s piece here absent block at) here k.keeps
keeps_next w h e p f n (came_serve run idle found) k =
    keeps_if w h e p f n (came_serve run idle found) (λ asked. asked)
    (λ asked. refl) k.keeps
keeps_next w h e p f n (came_skip run at gone) k =
    keeps_if w h e p f n (came_skip run at gone) (λ asked. asked)
    (λ asked. refl) k.keeps
keeps_next w h e p f n (came_map run free serves there none at) k =
    keeps_if w h e p f n (came_map run free serves there none at) (λ asked. asked)
    (λ asked. refl) k.keeps
keeps_next w h e p f n (came_grow run block serves there at short) k =
    keeps_if w h e p f n (came_grow run block serves there at short) (λ asked. asked)
    (λ asked. refl) k.keeps
keeps_next w h e p f n (came_add run block at there placed long) k =
    keeps_if w h e p f n (came_add run block at there placed long) (λ asked. asked)
    (λ asked. refl) k.keeps
keeps_next w h e p f n (came_flushed q name s working idle down) k =
    keeps_if w h e p f n (came_flushed q name s working idle down) (λ asked. asked)
    (λ asked. refl) k.keeps
keeps_next w h e p f n (came_synced q name s working acted safe) k =
    keeps_ret w h q reply.Done p f n (came_synced q name s working acted safe) k.keeps
keeps_next w h e p f n (came_seal may) k =
    keeps_if w h e p f n (came_seal may) (λ asked. asked)
    (λ asked. refl) k.keeps
keeps_next w h e p f n (came_journal kind first m j) k =
    keeps_if w h e p f n (came_journal kind first m j) (λ asked. asked)
    (λ asked. refl) k.keeps
keeps_next w h e p f n (came_send r free picked) k =
    keeps_if w h e p f n (came_send r free picked) (λ asked. asked)
    (λ asked. refl) k.keeps
keeps_next w h e p f n (came_done j r at) k =
    keeps_if w h e p f n (came_done j r at) (λ asked. asked)
    (λ asked. refl) k.keeps

-- ---- how many reads a process added
asks_ret : (h : List Event) (q : Pid) (r : Reply) (p : ℕ) → Asks h p → Asks (h ▹ Ret q r) p
asks_ret h q r p k =
    asks_back (loads h p) (pieces h p) (returned h p) (has_asked h p) (is_entered h p) (is_admitted h p) (q.0 == p) k

asks_piece : (h : List Event) (q : Pid) (p : ℕ) → Asks h p
    → AsksAt (loads h p) (if q.0 == p then pieces h p + 1 else pieces h p) (returned h p)
    (not (q.0 == p) && has_asked h p) (is_entered h p) (is_admitted h p)
asks_piece h q p k =
    asks_moved (loads h p) (pieces h p) (returned h p) (has_asked h p) (is_entered h p) (is_admitted h p) (q.0 == p) k

asks_next : (w : Workload) (h : List Event) (e : Event) (p : ℕ) → Came w h e → Asked w h p → Asks (h ▹ e) p
asks_next w h e p (came_enter q c has out) k =
    asks_wider (loads h p) (pieces h p) (returned h p) (has_asked h p) (is_entered h p) (is_admitted h p)
    (q.0 == p || is_entered h p) (is_admitted h p) (λ i. or_right (q.0 == p) (is_entered h p) i) (λ i. i) k.asks
asks_next w h e p (came_admit q c has in' out may) k =
    asks_wider (loads h p) (pieces h p) (returned h p) (has_asked h p) (is_entered h p) (is_admitted h p)
    (is_entered h p) (q.0 == p || is_admitted h p) (λ i. i) (λ i. or_right (q.0 == p) (is_admitted h p) i) k.asks
asks_next w h e p (came_make q name slot admitted idle unused at) k = k.asks
asks_next w h e p (came_drop q name serial working idle) k = k.asks
asks_next w h e p (came_no_file q c admitted none) k = asks_ret h q reply.NoFile p k.asks
asks_next w h e p (came_changed q c admitted names acted) k = asks_ret h q reply.Done p k.asks
asks_next w h e p (came_exists q name admitted idle taken) k = asks_ret h q reply.Exists p k.asks
asks_next w h e p (came_no_slot q name admitted idle unused none) k = asks_ret h q reply.NoSlot p k.asks
asks_next w h e p (came_too_big q name off len fill s working big) k = asks_ret h q reply.TooBig p k.asks
asks_next w h e p (came_no_space q name off len fill s piece here out none) k =
    asks_ret h q (reply.NoSpace (moved h q.0)) p k.asks
asks_next w h e p (came_wrote q name off len fill s working none) k = asks_ret h q reply.Done p k.asks
asks_next w h e p (came_read q name off len s working none) k =
    asks_ret h q (reply.Count (moved h q.0) (got h q.0)) p k.asks
asks_next w h e p (came_fault q c s piece working left bad) k = asks_ret h q reply.ReadFault p k.asks
asks_next w h e p (came_put q name off len fill s piece here may) k = asks_piece h q p k.asks
asks_next w h e p (came_get q name off len s piece here held) k = asks_piece h q p k.asks
asks_next w h e p (came_zeros q name off len s piece here absent none) k = asks_piece h q p k.asks
asks_next w h e p (came_evict q c s piece here absent t g found) k = k.asks
asks_next w h e p (came_load q c s piece here absent block at) k =
    let admitted = here.working.admitted
    in asks_more (loads h p) (pieces h p) (returned h p) (has_asked h p) (is_entered h p) (is_admitted h p) (q.0 == p)
    (λ same. subst (λ x. KeepsAsked w h x → has_asked h x ≡ false) (eqb-true q.0 p same)
    (asks_once w h q c s piece here absent.absent) k.keeps)
    (λ same. subst (λ x. is_entered h x ≡ true) (eqb-true q.0 p same) admitted.entered)
    (λ same. subst (λ x. is_admitted h x ≡ true) (eqb-true q.0 p same) admitted.admitted) k.asks
asks_next w h e p (came_serve run idle found) k = k.asks
asks_next w h e p (came_skip run at gone) k = k.asks
asks_next w h e p (came_map run free serves there none at) k = k.asks
asks_next w h e p (came_grow run block serves there at short) k = k.asks
asks_next w h e p (came_add run block at there placed long) k = k.asks
asks_next w h e p (came_flushed q name s working idle down) k = k.asks
asks_next w h e p (came_synced q name s working acted safe) k = asks_ret h q reply.Done p k.asks
asks_next w h e p (came_seal may) k = k.asks
asks_next w h e p (came_journal kind first m j) k = k.asks
asks_next w h e p (came_send r free picked) k = k.asks
asks_next w h e p (came_done j r at) k = k.asks

-- in every legal history
pub asked : (w : Workload) (h : List Event) (p : ℕ) → IsAccepted w → IsLegal w h → Asked w h p
asked w [] p accepted legal = record {
  asks = record { counted = omega arith; inside = λ e. absurd (cc); let_in = λ e. absurd (cc) };
  keeps = λ e. absurd (cc);
}
asked w (h ▹ e) p accepted legal =
    let old = asked w h p accepted legal.1
    in let row = came w h (maker e) e legal.0
    in record {
      asks = asks_next w h e p row old;
      keeps = keeps_next w h e p (known w h accepted legal.1) (numbers w h accepted legal.1) row old;
    }
