-- What each process has done in a legal history, and what its calls allow it to do.
use Rattle.std.proofs.Common.{◌≡◌, ℕ, ◌+◌, ◌-◌, ◌*◌, ◌/◌, ◌==◌, ◌<◌, ◌≤◌, List, [], length, take, slice_get, Bool, true, false, not, ◌&&◌, ◌||◌, Some, refl, arith, ap, subst, subst₂, cond, sum_by, if◌then◌else◌}
use Rattle.std.proofs.lemmas.Bool.{eqb-true, or_right}
use Rattle.std.proofs.lemmas.List.Sums.{sum_by_more}
use Rattle.std.proofs.lemmas.Option.{slice_get_within, get_or_from_slice_get}
use Rattle.split_types.specs.declared.ids.Pid.{Pid}
use Rattle.split_types.specs.declared.ids.Serial.{Serial}
use Rattle.split_types.specs.declared.call.Call.{Call}
use Rattle.split_types.specs.declared.call.Call.TheVariants.{Creat, Write, Read, Fsync, Unlink}
use Rattle.split_types.specs.declared.workload.Workload.{Workload}
use Rattle.split_types.specs.declared.event.Event.{Event}
use Rattle.split_types.specs.declared.event.Event.TheVariants.{Enter, Admit, Make, Put, Get, Drop, Flushed, Ret}
use Rattle.split_types.specs.History.{◌▹◌}
use Rattle.split_types.specs.Workloads.{calls_of, span}
use Rattle.split_types.specs.Calls.{returned, is_entered, is_admitted, has_acted, moved, call_of}
use Rattle.split_types.specs.Files.{file_for}
use Rattle.split_types.specs.FileSizes.{size_of_some, size_at_admit}
use Rattle.split_types.specs.Pieces.{Piece, first_byte, bytes_to_move, piece_left}
use Rattle.split_types.specs.Proving.Pieces.{IsFirstLeft}
use Rattle.split_types.specs.Proving.Came.{Came, IsAdmitted, IsAtPiece}
use Rattle.split_types.proofs.PutLaws.{piece_is, piece_bytes}
use Rattle.split_types.specs.Proving.Came.Came.{came_enter, came_admit, came_changed, came_exists, came_no_slot, came_make, came_drop, came_no_file, came_too_big}
use Rattle.split_types.specs.Proving.Came.Came.{came_wrote, came_read, came_fault, came_no_space, came_put, came_get, came_zeros, came_evict, came_load}
use Rattle.split_types.specs.Proving.Came.Came.{came_flushed, came_synced, came_seal, came_journal, came_serve, came_skip, came_map, came_grow, came_add, came_send, came_done}

-- how many events process p made, but for those that made or dropped a file
abbrev pub acts : List Event → ℕ → ℕ
acts [] p = 0
acts (h ▹ Enter by k) p = if by.0 == p then acts h p + 1 else acts h p
acts (h ▹ Admit by) p = if by.0 == p then acts h p + 1 else acts h p
acts (h ▹ Put by serial page from to fill) p = if by.0 == p then acts h p + 1 else acts h p
acts (h ▹ Get by serial page from to sum) p = if by.0 == p then acts h p + 1 else acts h p
acts (h ▹ Ret by r) p = if by.0 == p then acts h p + 1 else acts h p
acts (h ▹ e) p = acts h p

-- how many files process p made or dropped, and how many of its calls were flushed
abbrev pub changes : List Event → ℕ → ℕ
changes [] p = 0
changes (h ▹ Make by slot serial) p = if by.0 == p then changes h p + 1 else changes h p
changes (h ▹ Drop by slot serial) p = if by.0 == p then changes h p + 1 else changes h p
changes (h ▹ Flushed by) p = if by.0 == p then changes h p + 1 else changes h p
changes (h ▹ e) p = changes h p

-- how many pieces process p has put or got
abbrev pub pieces : List Event → ℕ → ℕ
pieces [] p = 0
pieces (h ▹ Put by serial page from to fill) p = if by.0 == p then pieces h p + 1 else pieces h p
pieces (h ▹ Get by serial page from to sum) p = if by.0 == p then pieces h p + 1 else pieces h p
pieces (h ▹ e) p = pieces h p

-- how many pieces process p has put or got in its call under way
abbrev pub pieces_now : List Event → ℕ → ℕ
pieces_now [] p = 0
pieces_now (h ▹ Enter by k) p = if by.0 == p then 0 else pieces_now h p
pieces_now (h ▹ Put by serial page from to fill) p = if by.0 == p then pieces_now h p + 1 else pieces_now h p
pieces_now (h ▹ Get by serial page from to sum) p = if by.0 == p then pieces_now h p + 1 else pieces_now h p
pieces_now (h ▹ Ret by r) p = if by.0 == p then 0 else pieces_now h p
pieces_now (h ▹ e) p = pieces_now h p

-- how many events of a call that is entered, and perhaps admitted, are no pieces
abbrev pub stage : Bool → Bool → ℕ
stage entered admitted = cond entered (cond admitted 2 1) 0

-- a call that moved so many bytes in n pieces is in the n-th page behind its first one, until it moved all
pub record IsAlong (c : Call) (size bytes n : ℕ) : Type 0 where
  pub room : n ≤ span c
  pub at : bytes < bytes_to_move c size → (first_byte c + bytes) / 4096 ≡ first_byte c / 4096 + n

-- what a process with these calls has done: so many events, calls that returned, pieces, pieces and bytes of the call
-- under way, the size of its file when it was admitted, and whether that is entered and admitted
pub record WorkAt (calls : List Call) (made back all_pieces now bytes size : ℕ) (entered admitted : Bool) : Type 0
  where
    pub few : made ≤ 3 * back + stage entered admitted + all_pieces
    pub waits : entered ≡ false → admitted ≡ false
    pub within : back + cond entered 1 0 ≤ length calls
    pub pieces : all_pieces ≤ sum_by span (take back calls) + now
    pub idle : entered ≡ false → now ≡ 0
    pub fresh : entered ≡ true → admitted ≡ false → (now ≡ 0) × (bytes ≡ 0)
    pub along : entered ≡ true → (c : Call) → slice_get calls back ≡ Some c → IsAlong c size bytes now

-- what process p has done
abbrev pub Work : Workload → List Event → ℕ → Type 0
Work w h p =
    WorkAt (calls_of w p) (acts h p) (returned h p) (pieces h p) (pieces_now h p) (moved h p) (size_at_admit w h p)
    (is_entered h p) (is_admitted h p)

-- what a process has made or dropped: so many files, in so many calls that returned and the one that is entered, where
-- that has acted
pub record ChangesAt (all back : ℕ) (entered acted : Bool) : Type 0 where
  pub counted : all ≤ back + cond acted 1 0
  pub inside : acted ≡ true → entered ≡ true

-- what process p has made or dropped
abbrev pub Changes : List Event → ℕ → Type 0
Changes h p = ChangesAt (changes h p) (returned h p) (is_entered h p) (has_acted h p)

start_along : (c : Call) (size bytes n : ℕ) → n ≡ 0 → bytes ≡ 0 → IsAlong c size bytes n
start_along c size bytes n none no_bytes = record {
  room = omega (arith, none);
  at = λ more. omega (arith, none, no_bytes);
}

along_next : (c : Call) (size bytes n : ℕ) (piece : Piece) → IsFirstLeft c size bytes piece → IsAlong c size bytes n
    → IsAlong c size (bytes + (piece.to - piece.from)) (n + 1)
along_next (Write name off len fill) size bytes n piece first along =
    let is = piece_bytes (Write name off len fill) size bytes piece first
    in let at = along.at first.some
    in record {
      room = omega (arith, first.some, at);
      at = λ more. omega (arith, first.some, at, is.from, is.to, more);
    }
along_next (Read name off len) size bytes n piece first along =
    let is = piece_bytes (Read name off len) size bytes piece first
    in let at = along.at first.some
    in record {
      room = omega (arith, first.some, at);
      at = λ more. omega (arith, first.some, at, is.from, is.to, more);
    }
along_next (Creat name) size bytes n piece first along = absurd (omega (arith, first.some))
along_next (Fsync name) size bytes n piece first along = absurd (omega (arith, first.some))
along_next (Unlink name) size bytes n piece first along = absurd (omega (arith, first.some))

by_enter : (calls : List Call) (a r u n m s : ℕ) (en ad b : Bool) → (b ≡ true → en ≡ false)
    → (b ≡ true → r < length calls)
    → WorkAt calls a r u n m s en ad
    → WorkAt calls (if b then a + 1 else a) r u (if b then 0 else n) (if b then 0 else m) s (b || en) ad
by_enter calls a r u n m s en ad false out more k = k
by_enter calls a r u n m s en ad true out more k =
    let none = k.waits (out refl)
    in let empty = k.idle (out refl)
    in let few = k.few
    in let pieces = k.pieces
    in record {
      few = rw none (first (subst₂ (λ x y. a ≤ 3 * r + stage x y + u) (out refl) none few));
      waits = λ e. none;
      within = omega (arith, more refl);
      pieces = omega (arith, pieces, empty);
      idle = λ e. refl;
      fresh = λ e f. (refl, refl);
      along = λ e c at. start_along c s 0 0 refl refl;
    }
  where
    first : a ≤ 3 * r + stage false false + u → a + 1 ≤ 3 * r + stage true false + u
    first l = omega arith

by_admit : (calls : List Call) (a r u n m s t : ℕ) (en ad b : Bool) → (b ≡ true → en ≡ true) → (b ≡ true → ad ≡ false)
    → WorkAt calls a r u n m s en ad
    → WorkAt calls (if b then a + 1 else a) r u n m (elim b [ true ↦ t | false ↦ s ]) en (b || ad)
by_admit calls a r u n m s t en ad false is out k = k
by_admit calls a r u n m s t en ad true is out k =
    let none = k.fresh (is refl) (out refl)
    in record {
      few = rw (is refl) (more (subst₂ (λ x y. a ≤ 3 * r + stage x y + u) (is refl) (out refl) k.few));
      waits = λ e. absurd (let t = is refl in cc);
      within = k.within;
      pieces = k.pieces;
      idle = k.idle;
      fresh = λ e f. absurd (cc);
      along = λ e c at. start_along c t m n none.0 none.1;
    }
  where
    more : a ≤ 3 * r + stage true false + u → a + 1 ≤ 3 * r + stage true true + u
    more l = omega arith

by_piece : (calls : List Call) (a r u n m d s : ℕ) (en ad b : Bool) → (b ≡ true → en ≡ true) → (b ≡ true → ad ≡ true)
    → (b ≡ true → (c : Call) → slice_get calls r ≡ Some c → IsAlong c s m n → IsAlong c s (m + d) (n + 1))
    → WorkAt calls a r u n m s en ad
    → WorkAt calls (if b then a + 1 else a) r (if b then u + 1 else u) (if b then n + 1 else n)
    (if b then m + d else m) s en ad
by_piece calls a r u n m d s en ad false is in' next k = k
by_piece calls a r u n m d s en ad true is in' next k = record {
  few = omega (arith, k.few);
  waits = k.waits;
  within = k.within;
  pieces = omega (arith, k.pieces);
  idle = λ e. absurd (let t = is refl in cc);
  fresh = λ e f. absurd (let t = in' refl in cc);
  along = λ e c at. next refl c at (k.along e c at);
}

by_ret : (calls : List Call) (a r u n m s : ℕ) (en ad b : Bool) → (b ≡ true → en ≡ true)
    → (b ≡ true → (c : Call) × (slice_get calls r ≡ Some c))
    → WorkAt calls a r u n m s en ad
    → WorkAt calls (if b then a + 1 else a) (if b then r + 1 else r) u (if b then 0 else n) m s (not b && en)
    (not b && ad)
by_ret calls a r u n m s en ad false is has k = k
by_ret calls a r u n m s en ad true is has k =
    let c = (has refl).0
    in let at = (has refl).1
    in let below = slice_get_within calls r c at
    in record {
      few = most (stage en ad) (two en ad) k.few;
      waits = λ e. refl;
      within = omega (arith, below);
      pieces =
          omega (
            arith,
            k.pieces,
            (k.along (is refl) c at).room,
            sum_by_more span calls r c below,
            ap span (get_or_from_slice_get calls r c c at),
          );
      idle = λ e. refl;
      fresh = λ e. absurd (cc);
      along = λ e. absurd (cc);
    }
  where
    most : (s : ℕ) → s ≤ 2 → a ≤ 3 * r + s + u → a + 1 ≤ 3 * (r + 1) + 0 + u
    most s small l = omega arith

    two : (x y : Bool) → stage x y ≤ 2
    two false y = omega arith
    two true false = omega arith
    two true true = omega arith

-- a piece of the call of process q
piece_kept : (w : Workload) (h : List Event) (q : Pid) (c : Call) (s : Serial) (piece : Piece) (p : ℕ)
    → IsAtPiece w h q c s piece → Work w h p
    → WorkAt (calls_of w p) (if q.0 == p then acts h p + 1 else acts h p) (returned h p)
    (if q.0 == p then pieces h p + 1 else pieces h p) (if q.0 == p then pieces_now h p + 1 else pieces_now h p)
    (if q.0 == p then moved h p + (piece.to - piece.from) else moved h p) (size_at_admit w h p) (is_entered h p)
    (is_admitted h p)
piece_kept w h q c s piece p here k =
    let admitted = here.working.admitted
    in by_piece (calls_of w p) (acts h p) (returned h p) (pieces h p) (pieces_now h p) (moved h p)
    (piece.to - piece.from) (size_at_admit w h p) (is_entered h p) (is_admitted h p) (q.0 == p)
    (λ t. subst (λ x. is_entered h x ≡ true) (eqb-true q.0 p t) admitted.entered)
    (λ t. subst (λ x. is_admitted h x ≡ true) (eqb-true q.0 p t) admitted.admitted)
    (λ t d at along. along_next d (size_at_admit w h p) (moved h p) (pieces_now h p) piece
    (piece_is w h (record { 0 = p }) d piece at
    (subst (λ x. piece_left w h x ≡ Some piece) (eqb-true q.0 p t) here.left)) along) k

ret_kept : (w : Workload) (h : List Event) (q : Pid) (c : Call) (p : ℕ) → IsAdmitted w h q c → Work w h p
    → WorkAt (calls_of w p) (if q.0 == p then acts h p + 1 else acts h p)
    (if q.0 == p then returned h p + 1 else returned h p) (pieces h p) (if q.0 == p then 0 else pieces_now h p)
    (moved h p) (size_at_admit w h p) (not (q.0 == p) && is_entered h p) (not (q.0 == p) && is_admitted h p)
ret_kept w h q c p admitted k =
    by_ret (calls_of w p) (acts h p) (returned h p) (pieces h p) (pieces_now h p) (moved h p) (size_at_admit w h p)
    (is_entered h p) (is_admitted h p) (q.0 == p)
    (λ t. subst (λ x. is_entered h x ≡ true) (eqb-true q.0 p t) admitted.entered)
    (λ t. (
      c,
      subst (λ x. slice_get (calls_of w x) (returned h x) ≡ Some c) (eqb-true q.0 p t) admitted.has.call,
    )) k

-- an event that comes next keeps what is known of the work of each process
pub work_kept : (w : Workload) (h : List Event) (e : Event) (p : ℕ) → Came w h e → Work w h p → Work w (h ▹ e) p
work_kept w h e p (came_enter q c has out) k =
    by_enter (calls_of w p) (acts h p) (returned h p) (pieces h p) (pieces_now h p) (moved h p) (size_at_admit w h p)
    (is_entered h p) (is_admitted h p) (q.0 == p)
    (λ t. subst (λ x. is_entered h x ≡ false) (eqb-true q.0 p t) out)
    (λ t. slice_get_within (calls_of w p) (returned h p) c
    (subst (λ x. slice_get (calls_of w x) (returned h x) ≡ Some c) (eqb-true q.0 p t) has.call)) k
work_kept w h e p (came_admit q c has is out may) k =
    by_admit (calls_of w p) (acts h p) (returned h p) (pieces h p) (pieces_now h p) (moved h p) (size_at_admit w h p)
    (size_of_some w h (file_for w h (call_of w h p))) (is_entered h p) (is_admitted h p) (q.0 == p)
    (λ t. subst (λ x. is_entered h x ≡ true) (eqb-true q.0 p t) is)
    (λ t. subst (λ x. is_admitted h x ≡ false) (eqb-true q.0 p t) out) k
work_kept w h e p (came_put q name off len fill s piece here may) k =
    piece_kept w h q (Write name off len fill) s piece p here k
work_kept w h e p (came_get q name off len s piece here held) k = piece_kept w h q (Read name off len) s piece p here k
work_kept w h e p (came_zeros q name off len s piece here absent none) k =
    piece_kept w h q (Read name off len) s piece p here k
work_kept w h e p (came_no_file q c admitted none) k = ret_kept w h q c p admitted k
work_kept w h e p (came_changed q c admitted names acted) k = ret_kept w h q c p admitted k
work_kept w h e p (came_exists q name admitted idle taken) k = ret_kept w h q (Creat name) p admitted k
work_kept w h e p (came_no_slot q name admitted idle unused none) k =
    ret_kept w h q (Creat name) p admitted k
work_kept w h e p (came_too_big q name off len fill s working big) k =
    ret_kept w h q (Write name off len fill) p working.admitted k
work_kept w h e p (came_no_space q name off len fill s piece here out none) k =
    ret_kept w h q (Write name off len fill) p here.working.admitted k
work_kept w h e p (came_wrote q name off len fill s working none) k =
    ret_kept w h q (Write name off len fill) p working.admitted k
work_kept w h e p (came_read q name off len s working none) k =
    ret_kept w h q (Read name off len) p working.admitted k
work_kept w h e p (came_fault q c s piece working left bad) k = ret_kept w h q c p working.admitted k
work_kept w h e p (came_make q name slot admitted idle unused at) k = k
work_kept w h e p (came_drop q name s working idle) k = k
work_kept w h e p (came_evict q c s piece here absent t g found) k = k
work_kept w h e p (came_load q c s piece here absent block at) k = k
work_kept w h e p (came_serve run none found) k = k
work_kept w h e p (came_skip run at gone) k = k
work_kept w h e p (came_map run free serves there none at) k = k
work_kept w h e p (came_grow run block serves there at short) k = k
work_kept w h e p (came_add run block is there placed known) k = k
work_kept w h e p (came_flushed q name s working idle down) k = k
work_kept w h e p (came_seal may) k = k
work_kept w h e p (came_journal kind first n j) k = k
work_kept w h e p (came_synced q name s working acted safe) k =
    ret_kept w h q (Fsync name) p working.admitted k
work_kept w h e p (came_send r few oldest) k = k
work_kept w h e p (came_done j r at) k = k

-- ---- what each process makes and drops
changes_enter : (m r : ℕ) (en ac b : Bool) → ChangesAt m r en ac → ChangesAt m r (b || en) ac
changes_enter m r en ac b k = record { counted = k.counted; inside = λ acted. or_right b en (k.inside acted) }

changes_more : (m r : ℕ) (en ac b : Bool) → (b ≡ true → en ≡ true) → (b ≡ true → ac ≡ false) → ChangesAt m r en ac
    → ChangesAt (if b then m + 1 else m) r en (b || ac)
changes_more m r en ac false is out k = k
changes_more m r en ac true is out k = record {
  counted = more (subst (λ x. m ≤ r + cond x 1 0) (out refl) k.counted);
  inside = λ acted. is refl;
}
  where
    more : m ≤ r + 0 → m + 1 ≤ r + 1
    more l = omega arith

changes_back : (m r : ℕ) (en ac b : Bool) → ChangesAt m r en ac
    → ChangesAt m (if b then r + 1 else r) (not b && en) (not b && ac)
changes_back m r en ac false k = k
changes_back m r en ac true k = record { counted = most ac k.counted; inside = λ acted. absurd (cc) }
  where
    most : (x : Bool) → m ≤ r + cond x 1 0 → m ≤ r + 1 + 0
    most true l = omega arith
    most false l = omega arith

-- process q makes or drops a file, or its call is flushed
changes_acted : (w : Workload) (h : List Event) (q : Pid) (c : Call) (p : ℕ) → IsAdmitted w h q c
    → has_acted h q.0 ≡ false → Changes h p
    → ChangesAt (if q.0 == p then changes h p + 1 else changes h p) (returned h p) (is_entered h p)
    (q.0 == p || has_acted h p)
changes_acted w h q c p admitted idle k =
    changes_more (changes h p) (returned h p) (is_entered h p) (has_acted h p) (q.0 == p)
    (λ t. subst (λ x. is_entered h x ≡ true) (eqb-true q.0 p t) admitted.entered)
    (λ t. subst (λ x. has_acted h x ≡ false) (eqb-true q.0 p t) idle) k

-- a call of process q returns
changes_ret : (h : List Event) (q : Pid) (p : ℕ) → Changes h p
    → ChangesAt (changes h p) (if q.0 == p then returned h p + 1 else returned h p)
    (not (q.0 == p) && is_entered h p) (not (q.0 == p) && has_acted h p)
changes_ret h q p k = changes_back (changes h p) (returned h p) (is_entered h p) (has_acted h p) (q.0 == p) k

-- an event that comes next keeps what is known of the files that each process made or dropped
pub changes_kept : (w : Workload) (h : List Event) (e : Event) (p : ℕ) → Came w h e → Changes h p → Changes (h ▹ e) p
changes_kept w h e p (came_enter q c has out) k =
    changes_enter (changes h p) (returned h p) (is_entered h p) (has_acted h p) (q.0 == p) k
changes_kept w h e p (came_make q name slot admitted idle unused at) k =
    changes_acted w h q (Creat name) p admitted idle k
changes_kept w h e p (came_drop q name s working idle) k =
    changes_acted w h q (Unlink name) p working.admitted idle k
changes_kept w h e p (came_no_file q c admitted none) k = changes_ret h q p k
changes_kept w h e p (came_changed q c admitted names acted) k = changes_ret h q p k
changes_kept w h e p (came_exists q name admitted idle taken) k = changes_ret h q p k
changes_kept w h e p (came_no_slot q name admitted idle unused none) k = changes_ret h q p k
changes_kept w h e p (came_too_big q name off len fill s working big) k = changes_ret h q p k
changes_kept w h e p (came_no_space q name off len fill s piece here out none) k = changes_ret h q p k
changes_kept w h e p (came_wrote q name off len fill s working none) k = changes_ret h q p k
changes_kept w h e p (came_read q name off len s working none) k = changes_ret h q p k
changes_kept w h e p (came_fault q c s piece working left bad) k = changes_ret h q p k
changes_kept w h e p (came_admit q c has is out may) k = k
changes_kept w h e p (came_put q name off len fill s piece here may) k = k
changes_kept w h e p (came_get q name off len s piece here held) k = k
changes_kept w h e p (came_zeros q name off len s piece here absent none) k = k
changes_kept w h e p (came_evict q c s piece here absent t g found) k = k
changes_kept w h e p (came_load q c s piece here absent block at) k = k
changes_kept w h e p (came_serve run none found) k = k
changes_kept w h e p (came_skip run at gone) k = k
changes_kept w h e p (came_map run free serves there none at) k = k
changes_kept w h e p (came_grow run block serves there at short) k = k
changes_kept w h e p (came_add run block is there placed known) k = k
changes_kept w h e p (came_flushed q name s working idle down) k =
    changes_acted w h q (Fsync name) p working.admitted idle k
changes_kept w h e p (came_synced q name s working acted safe) k = changes_ret h q p k
changes_kept w h e p (came_seal may) k = k
changes_kept w h e p (came_journal kind first n j) k = k
changes_kept w h e p (came_send r few oldest) k = k
changes_kept w h e p (came_done j r at) k = k
