-- What is known of a piece that comes next.
use Rattle.std.proofs.Common.{◌≡◌, ℕ, ◌+◌, ◌-◌, ◌/◌, ◌%◌, ◌==◌, ◌≤◌, min, List, [], nat_lt, Bool, true, false, Option, Some, None, refl, arith, subst, sym, ap, if◌then◌else◌}
use Rattle.std.proofs.lemmas.Bool.{cond_both, eqb-true}
use Rattle.std.proofs.lemmas.Bool.Decides.{nat_tests}
use Rattle.std.proofs.lemmas.Option.{same_Some}
use Rattle.split_types.specs.declared.ids.Pid.{Pid}
use Rattle.split_types.specs.declared.ids.Serial.{Serial}
use Rattle.split_types.specs.declared.call.Call.{Call}
use Rattle.split_types.specs.declared.call.Call.TheVariants.{Write, Read}
use Rattle.split_types.specs.declared.workload.Workload.{Workload}
use Rattle.split_types.specs.declared.event.Event.{Event}
use Rattle.split_types.specs.declared.event.Event.TheVariants.{Put}
use Rattle.split_types.specs.History.{◌▹◌}
use Rattle.split_types.specs.Hooks.{maker}
use Rattle.split_types.specs.Calls.{returned, moved, call_of}
use Rattle.split_types.specs.Files.{is_live, bound_file}
use Rattle.split_types.specs.FileSizes.{if_live, size_at_admit}
use Rattle.split_types.specs.Pieces.{Piece, first_byte, bytes_to_move, piece_at, next_piece, piece_left}
use Rattle.split_types.specs.Accepted.{IsAccepted}
use Rattle.split_types.specs.Legal.{IsLegal}
use Rattle.split_types.specs.Proving.Came.{Came, IsAtPiece}
use Rattle.split_types.specs.Proving.Came.Came.{came_enter, came_admit, came_changed, came_exists, came_no_slot, came_make, came_drop, came_no_file, came_too_big}
use Rattle.split_types.specs.Proving.Came.Came.{came_wrote, came_read, came_fault, came_no_space, came_put, came_get, came_zeros, came_evict, came_load}
use Rattle.split_types.specs.Proving.Came.Came.{came_flushed, came_synced, came_seal, came_journal, came_serve, came_skip, came_map, came_grow, came_add, came_send, came_done}
use Rattle.split_types.specs.Proving.Pieces.{IsFirstLeft, PutIn}
use Rattle.split_types.proofs.AcceptedLaws.{call_is, moves_most, procs_most}
use Rattle.split_types.proofs.CameLaws.{came}
use Rattle.split_types.proofs.FileLaws.{live_of}
use Rattle.split_types.proofs.KnownLaws.{known}

-- ---- the piece that comes next
first_left : (c : Call) (size moved : ℕ) (piece : Piece) → next_piece c size moved ≡ Some piece
    → IsFirstLeft c size moved piece
first_left c size moved piece at = by_test (nat_lt moved (bytes_to_move c size)) refl at
  where
    by_test : (b : Bool) → nat_lt moved (bytes_to_move c size) ≡ b
        → (if b then Some (piece_at (first_byte c + moved) (bytes_to_move c size - moved)) else None) ≡ Some piece
        → IsFirstLeft c size moved piece
    by_test true is same = record { some = grind (arith, nat_tests); is = sym (same_Some _ _ same) }
    by_test false is same = absurd (cc)

-- the piece that is left of the call of a process
pub piece_is : (w : Workload) (h : List Event) (p : Pid) (c : Call) (piece : Piece) → call_of w h p.0 ≡ Some c
    → piece_left w h p.0 ≡ Some piece → IsFirstLeft c (size_at_admit w h p.0) (moved h p.0) piece
piece_is w h p c piece call left =
    first_left c (size_at_admit w h p.0) (moved h p.0) piece
    (subst (λ o. (elim o [ None ↦ None | Some d ↦ next_piece d (size_at_admit w h p.0) (moved h p.0) ]) ≡ Some piece)
    call left)

-- the bytes of a piece are those that are left, up to the end of its page
pub record PieceBytes (at left : ℕ) (piece : Piece) : Type 0 where
  pub page : piece.page ≡ at / 4096
  pub from : piece.from ≡ at % 4096
  pub to : piece.to ≡ min 4096 (at % 4096 + left)

pub piece_bytes : (c : Call) (size moved : ℕ) (piece : Piece) → IsFirstLeft c size moved piece
    → PieceBytes (first_byte c + moved) (bytes_to_move c size - moved) piece
piece_bytes c size moved piece first = record {
  page = ap (λ x. x.page) first.is;
  from = ap (λ x. x.from) first.is;
  to = ap (λ x. x.to) first.is;
}

-- ---- puts
-- the file that a call works on is the one that it is bound to
pub bound_of : (w : Workload) (h : List Event) (o : Option Serial) (s : Serial) → if_live w h o ≡ Some s → o ≡ Some s
bound_of w h None s is = absurd (cc)
bound_of w h (Some t) s is = by_test (is_live w h t.0) is
  where
    by_test : (b : Bool) → (if b then Some t else None) ≡ Some s → Some t ≡ Some s
    by_test true at = at
    by_test false at = absurd (cc)

pub put_in : (w : Workload) (h : List Event) (by : Pid) (s : Serial) (g from to fill : ℕ) → IsAccepted w
    → Came w h (Put by s g from to fill) → PutIn w h by s g from to fill
put_in w h by s g from to fill accepted (came_put p name off len byte t piece here may) =
    let has = here.working.admitted.has
    in let asked = call_is w accepted p.0 (returned h p.0) (Write name off len byte) has.call
    in let first = piece_is w h p (Write name off len byte) piece has.call here.left
    in let bytes = piece_bytes (Write name off len byte) (size_at_admit w h p.0) (moved h p.0) piece first
    in record {
      by_least = has.first;
      by_most = has.last;
      procs_most = procs_most w accepted;
      file = live_of w h (bound_file w h p.0) t here.working.file;
      page = omega (arith, here.fits, bytes.page, first.some);
      some = omega (arith, bytes.from, bytes.to, first.some);
      to_most = omega (arith, bytes.to);
      fill_most = asked.1;
    }

pub put_in_legal : (w : Workload) (h : List Event) (by : Pid) (s : Serial) (g from to fill : ℕ) → IsAccepted w
    → IsLegal w (h ▹ Put by s g from to fill) → PutIn w h by s g from to fill
put_in_legal w h by s g from to fill accepted legal =
    put_in w h by s g from to fill accepted (came w h (maker (Put by s g from to fill)) (Put by s g from to fill) legal.0)

-- ---- the bytes that a process moves
-- a piece moves no more bytes than are left
moved_piece : (w : Workload) (h : List Event) (q : Pid) (c : Call) (s : Serial) (piece : Piece) (p : ℕ)
    → IsAccepted w → IsAtPiece w h q c s piece → moved h p ≤ 4128768
    → (if q.0 == p then moved h p + (piece.to - piece.from) else moved h p) ≤ 4128768
moved_piece w h q c s piece p accepted here most =
    let call = here.working.admitted.has.call
    in let first = piece_is w h q c piece call here.left
    in let bytes = piece_bytes c (size_at_admit w h q.0) (moved h q.0) piece first
    in let all = moves_most c (size_at_admit w h q.0) (call_is w accepted q.0 (returned h q.0) c call)
    in cond_both (q.0 == p) (moved h p + (piece.to - piece.from)) (moved h p) (λ n. n ≤ 4128768)
    (λ same. omega (arith, first.some, all, bytes.from, bytes.to, ap (moved h) (eqb-true q.0 p same)))
    (λ _. most)

moved_next : (w : Workload) (h : List Event) (e : Event) (p : ℕ) → IsAccepted w → Came w h e → moved h p ≤ 4128768
    → moved (h ▹ e) p ≤ 4128768
moved_next w h e p accepted (came_enter q c has out) most =
    cond_both (q.0 == p) 0 (moved h p) (λ n. n ≤ 4128768) (λ _. omega arith) (λ _. most)
moved_next w h e p accepted (came_put q name off len fill s piece here may) most =
    moved_piece w h q (Write name off len fill) s piece p accepted here most
moved_next w h e p accepted (came_get q name off len s piece here held) most =
    moved_piece w h q (Read name off len) s piece p accepted here most
moved_next w h e p accepted (came_zeros q name off len s piece here absent none) most =
    moved_piece w h q (Read name off len) s piece p accepted here most
moved_next w h e p accepted (came_admit q c has in' out may) most = most
moved_next w h e p accepted (came_make q name slot admitted idle unused at) most = most
moved_next w h e p accepted (came_drop q name serial working idle) most = most
moved_next w h e p accepted (came_no_file q c admitted none) most = most
moved_next w h e p accepted (came_changed q c admitted names acted) most = most
moved_next w h e p accepted (came_exists q name admitted idle taken) most = most
moved_next w h e p accepted (came_no_slot q name admitted idle unused none) most = most
moved_next w h e p accepted (came_too_big q name off len fill s working big) most = most
moved_next w h e p accepted (came_no_space q name off len fill s piece here out none) most = most
moved_next w h e p accepted (came_wrote q name off len fill s working none) most = most
moved_next w h e p accepted (came_read q name off len s working none) most = most
moved_next w h e p accepted (came_fault q c s piece working left bad) most = most
moved_next w h e p accepted (came_evict q c s piece here absent t g found) most = most
moved_next w h e p accepted (came_load q c s piece here absent block at) most = most
moved_next w h e p accepted (came_serve run idle found) most = most
moved_next w h e p accepted (came_skip run at gone) most = most
moved_next w h e p accepted (came_map run free serves there none at) most = most
moved_next w h e p accepted (came_grow run block serves there at short) most = most
moved_next w h e p accepted (came_add run block at there placed known) most = most
moved_next w h e p accepted (came_flushed q name s working idle down) most = most
moved_next w h e p accepted (came_synced q name s working acted safe) most = most
moved_next w h e p accepted (came_seal may) most = most
moved_next w h e p accepted (came_journal kind first n j) most = most
moved_next w h e p accepted (came_send r free picked) most = most
moved_next w h e p accepted (came_done k r at) most = most

-- no process moves more bytes in a call than a file has
pub moved_most : (w : Workload) (h : List Event) (p : ℕ) → IsAccepted w → IsLegal w h → moved h p ≤ 4128768
moved_most w [] p accepted legal = omega arith
moved_most w (h ▹ e) p accepted legal =
    moved_next w h e p accepted (came w h (maker e) e legal.0) (moved_most w h p accepted legal.1)
