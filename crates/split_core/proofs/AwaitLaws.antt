-- A process that awaits a read of a file that is there has no next event until that is done.
use Rattle.std.proofs.Common.{◌≡◌, ℕ, ◌+◌, ◌-◌, ◌==◌, ◌≤◌, List, [], ◌∷◌, ◌++◌, length, slice_get, Bool, true, false}
use Rattle.std.proofs.Common.{not, ◌&&◌, ◌||◌, Option, Some, None, refl, ap, sym, ◌∙◌, subst, inl, inr, arith}
use Rattle.std.proofs.Common.{nat_le, nat_lt, option_map, if◌then◌else◌}
use Rattle.std.specs.List.{list_any}
use Rattle.std.proofs.lemmas.Bool.{cases_Bool, both_ways, and_parts, and_from, eq-eqb, eqb-true, le-ltb}
use Rattle.std.proofs.lemmas.Bool.{not_from_false, not-true, cond-false}
use Rattle.std.proofs.lemmas.Option.{same_Some}
use Rattle.split_types.specs.declared.ids.Pid.{Pid}
use Rattle.split_types.specs.declared.ids.Serial.{Serial}
use Rattle.split_types.specs.declared.buf.Buf.{Buf}
use Rattle.split_types.specs.declared.buf.Buf.TheVariants.{Page}
use Rattle.split_types.specs.declared.call.Call.{Call}
use Rattle.split_types.specs.declared.call.Call.TheVariants.{Creat, Write, Read, Fsync, Unlink}
use Rattle.split_types.specs.declared.call.Reply.{Reply}
use Rattle.split_types.specs.declared.call.Reply.TheVariants as reply
use Rattle.split_types.specs.declared.actor.Actor.{Actor}
use Rattle.split_types.specs.declared.actor.Actor.TheVariants.{Client}
use Rattle.split_types.specs.declared.request.Request.{Request}
use Rattle.split_types.specs.declared.workload.Workload.{Workload}
use Rattle.split_types.specs.declared.event.Event.{Event}
use Rattle.split_types.specs.declared.event.Event.TheVariants.{Enter, Admit, Put, Get, Ret, Add, Done}
use Rattle.split_types.specs.History.{◌▹◌, adds}
use Rattle.split_types.specs.Hooks.{maker}
use Rattle.split_types.specs.Requests.{requests, unfinished, in_flight, is_numbered}
use Rattle.split_types.specs.Calls.{returned, is_entered, is_admitted, moved}
use Rattle.split_types.specs.Files.{bound_file}
use Rattle.split_types.specs.FileSizes.{working_file, size_at_admit}
use Rattle.split_types.specs.PageBytes.{sum_of_bytes}
use Rattle.split_types.specs.Pieces.{Piece, first_byte, bytes_to_move, piece_at, next_piece, got}
use Rattle.split_types.specs.Reads.{reads, reads_for, outstanding, is_loading, is_process}
use Rattle.split_types.specs.Clients.{PieceState, piece_state, ClientState, client_state, state_left, next_of_client}
use Rattle.split_types.specs.Clients.{most_bytes}
use Rattle.split_types.specs.Next.{next}
use Rattle.split_types.specs.Accepted.{IsAccepted}
use Rattle.split_types.specs.Legal.{IsLegal}
use Rattle.split_types.specs.Proving.Came.{Came, IsAtPiece, IsFitting, read_request}
use Rattle.split_types.specs.Proving.Came.Came.{came_enter, came_admit, came_changed, came_exists, came_no_slot}
use Rattle.split_types.specs.Proving.Came.Came.{came_make, came_drop, came_no_file, came_too_big, came_wrote, came_read}
use Rattle.split_types.specs.Proving.Came.Came.{came_fault, came_no_space, came_put, came_get, came_zeros, came_evict}
use Rattle.split_types.specs.Proving.Came.Came.{came_load, came_serve, came_skip, came_map, came_grow, came_add}
use Rattle.split_types.specs.Proving.Came.Came.{came_flushed, came_synced, came_seal, came_journal, came_send, came_done}
use Rattle.split_types.specs.Proving.Known.{Known}
use Rattle.split_types.proofs.Shared.{came, known, bound_of, live_of, Numbers, numbers, Standing, standing, left_by}
use Rattle.split_types.proofs.Shared.{stands_enter, stands_admit, stands_put, stands_get, stands_ret, not_own}
use Rattle.split_types.proofs.Shared.{in_filter, same_buf-self, list_any_here, slice_get-push, slice_get-push_old}
use Rattle.split_types.proofs.Shared.{slice_get-push_new, same_number}
use Rattle.split_types.proofs.JournalAdds.{of_journal}
use Rattle.split_core.specs.Awaits.{reader_at, done_for, awaits}
use Rattle.split_core.proofs.ClientViewsPages.{none_badly}

-- ---- what a process awaits
-- an admitted call of process p is at a piece of its file, which may be gone, and a request that isn't done reads the
-- page of that for p
pub record AwaitsAt (s : Standing) (rs : List Request) (p : ℕ) : Type 0 where
  pub call : Call
  pub serial : Serial
  pub piece : Piece
  pub has : s.call ≡ Some call
  pub entered : s.entered ≡ true
  pub admitted : s.admitted ≡ true
  pub file : s.file ≡ Some serial
  pub fits : IsFitting call
  pub left : left_by s ≡ Some piece
  pub place : ℕ
  pub request : Request
  pub at : slice_get rs place ≡ Some request
  pub reads_it : reads request (Page serial piece.page) ≡ true
  pub reader : reads_for request ≡ Some (record { 0 = p })

abbrev pub Awaited : Workload → List Event → ℕ → Type 0
Awaited w h p = AwaitsAt (standing w h p) (outstanding h) p

-- ---- it has no next event while its file is there
-- only a write and a read have pieces
no_piece : (c : Call) (size bytes : ℕ) (piece : Piece) → bytes_to_move c size ≡ 0
    → next_piece c size bytes ≡ Some piece → ⊥
no_piece c size bytes piece none left =
    let past : nat_lt bytes (bytes_to_move c size) ≡ false =
    le-ltb bytes (bytes_to_move c size) (omega (arith, none))
    in let nothing : next_piece c size bytes ≡ None =
    cond-false (nat_lt bytes (bytes_to_move c size))
    (Some (piece_at (first_byte c + bytes) (bytes_to_move c size - bytes))) None past
    in absurd (let both : None ≡ Some piece = sym nothing ∙ left in cc)

-- a call at a piece whose page is loading waits
waits_for : (c : ClientState) (call : Call) (f : Serial) (s : PieceState) (size bytes : ℕ) (piece : Piece)
    → c.call ≡ Some call → c.entered ≡ true → c.admitted ≡ true → c.file ≡ Some f → c.piece ≡ Some s
    → s.read_badly ≡ false → s.loading ≡ true → IsFitting call → next_piece call size bytes ≡ Some piece
    → next_of_client c ≡ None
waits_for c (Creat name) f s size bytes piece has entered admitted file at well loading fits left =
    absurd (no_piece (Creat name) size bytes piece refl left)
waits_for c (Write name off len fill) f s size bytes piece has entered admitted file at well loading fits left =
    let small : nat_lt most_bytes (off + len) ≡ false = le-ltb most_bytes (off + len) fits
    in rw (has, entered, admitted, file, small, at, well, loading) refl
waits_for c (Read name off len) f s size bytes piece has entered admitted file at well loading fits left =
    rw (has, entered, admitted, file, at, well, loading) refl
waits_for c (Fsync name) f s size bytes piece has entered admitted file at well loading fits left =
    absurd (no_piece (Fsync name) size bytes piece refl left)
waits_for c (Unlink name) f s size bytes piece has entered admitted file at well loading fits left =
    absurd (no_piece (Unlink name) size bytes piece refl left)

-- a process is asked only where the workload has it
asked_within : (b : Bool) (o : Option Event) → o ≡ None → (if b then o else None) ≡ None
asked_within true o none = none
asked_within false o none = refl

awaited_none : (w : Workload) (h : List Event) (p : Pid) (s : Serial) → IsLegal w h → working_file w h p.0 ≡ Some s
    → Awaited w h p.0 → next w h (Client p) ≡ None
awaited_none w h p s legal works k =
    asked_within (nat_le 1 p.0 && nat_le p.0 (length w.procs)) (next_of_client (client_state w h p))
    (waits_for (client_state w h p) k.call k.serial (piece_state w h p k.serial k.piece) (size_at_admit w h p.0)
    (moved h p.0) k.piece k.has k.entered k.admitted file
    (ap (state_left w h p) file ∙ ap (option_map (piece_state w h p k.serial)) k.left)
    (none_badly w h p.0 b legal) loading k.fits
    (sym (ap (λ o. elim o [ None ↦ None | Some c ↦ next_piece c (size_at_admit w h p.0) (moved h p.0) ]) k.has)
    ∙ k.left))
  where
    b : Buf
    b = Page k.serial k.piece.page

    same : s ≡ k.serial
    same = same_Some s k.serial (sym (bound_of w h (bound_file w h p.0) s works) ∙ k.file)

    file : working_file w h p.0 ≡ Some k.serial
    file = works ∙ ap Some same

    loading : is_loading w h b ≡ true
    loading =
        and_from _ (list_any (λ r. reads r b) (outstanding h)) (live_of w h (bound_file w h p.0) k.serial file)
        (list_any_here (λ r. reads r b) (outstanding h) k.place k.request k.at k.reads_it)

-- ---- through one event
-- the process that makes an event, and whose file is there, isn't one that awaits
not_its : (w : Workload) (h : List Event) (e : Event) (q : Pid) (s : Serial) (p : ℕ) → IsLegal w h
    → next w h (Client q) ≡ Some e → working_file w h q.0 ≡ Some s → Awaited w h p → (q.0 == p) ≡ false
not_its w h e q s p legal comes works k = elim (cases_Bool (q.0 == p)) [
  | inr other ↦ other
  | inl same ↦
      (let none = awaited_none w h q s legal works (subst (Awaited w h) (sym (eqb-true q.0 p same)) k) in
      absurd (cc (sym comes ∙ none)))
]

-- a process that stands where it stood awaits what it awaited
stands_on : (old new : Standing) (rs : List Request) (p : ℕ) → new ≡ old → AwaitsAt old rs p → AwaitsAt new rs p
stands_on old new rs p same k = subst (λ s. AwaitsAt s rs p) (sym same) k

awaited_enter : (w : Workload) (h : List Event) (q : Pid) (n p : ℕ) → is_entered h q.0 ≡ false → Awaited w h p
    → Awaited w (h ▹ Enter q n) p
awaited_enter w h q n p out k =
    stands_on (standing w h p) (standing w (h ▹ Enter q n) p) (outstanding h) p
    (stands_enter w h q n p (not_own p q (is_entered h) k.entered out)) k

awaited_admit : (w : Workload) (h : List Event) (q : Pid) (p : ℕ) → is_admitted h q.0 ≡ false → Awaited w h p
    → Awaited w (h ▹ Admit q) p
awaited_admit w h q p out k =
    stands_on (standing w h p) (standing w (h ▹ Admit q) p) (outstanding h) p
    (stands_admit w h q p (not_own p q (is_admitted h) k.admitted out)) k

awaited_put : (w : Workload) (h : List Event) (q : Pid) (s : Serial) (g from to fill p : ℕ)
    → IsLegal w (h ▹ Put q s g from to fill) → working_file w h q.0 ≡ Some s → Awaited w h p
    → Awaited w (h ▹ Put q s g from to fill) p
awaited_put w h q s g from to fill p legal works k =
    stands_on (standing w h p) (standing w (h ▹ Put q s g from to fill) p) (outstanding h) p
    (stands_put w h q s g from to fill p (not_its w h (Put q s g from to fill) q s p legal.1 legal.0 works k)) k

awaited_get : (w : Workload) (h : List Event) (q : Pid) (s : Serial) (g from to sum p : ℕ)
    → IsLegal w (h ▹ Get q s g from to sum) → working_file w h q.0 ≡ Some s → Awaited w h p
    → Awaited w (h ▹ Get q s g from to sum) p
awaited_get w h q s g from to sum p legal works k =
    stands_on (standing w h p) (standing w (h ▹ Get q s g from to sum) p) (outstanding h) p
    (stands_get w h q s g from to sum p (not_its w h (Get q s g from to sum) q s p legal.1 legal.0 works k)) k

-- a process that returns awaits nothing
awaited_ret : (w : Workload) (h : List Event) (q : Pid) (r : Reply) (p : ℕ) → (awaits h p ≡ true → Awaited w h p)
    → awaits (h ▹ Ret q r) p ≡ true → Awaited w (h ▹ Ret q r) p
awaited_ret w h q r p old is =
    let parts = and_parts (not (q.0 == p)) (awaits h p) is in
    stands_on (standing w h p) (standing w (h ▹ Ret q r) p) (outstanding h) p
    (stands_ret w h q r p (not-true (q.0 == p) parts.0)) (old parts.1)

-- with another request that isn't done
one_more : (s : Standing) (rs : List Request) (r : Request) (p : ℕ) → AwaitsAt s rs p → AwaitsAt s (rs ++ r ∷ []) p
one_more s rs r p k = record {
  call = k.call;
  serial = k.serial;
  piece = k.piece;
  has = k.has;
  entered = k.entered;
  admitted = k.admitted;
  file = k.file;
  fits = k.fits;
  left = k.left;
  place = k.place;
  request = k.request;
  at = slice_get-push_old rs r k.place k.request k.at;
  reads_it = k.reads_it;
  reader = k.reader;
}

-- the read that it adds
starts : (w : Workload) (h : List Event) (q : Pid) (c : Call) (s : Serial) (piece : Piece) (block : ℕ)
    → IsAtPiece w h q c s piece
    → AwaitsAt (standing w h q.0) (outstanding h ++ read_request (adds h) q s piece.page block ∷ []) q.0
starts w h q c s piece block here =
    let admitted = here.working.admitted in
    record {
      call = c;
      serial = s;
      piece = piece;
      has = admitted.has.call;
      entered = admitted.entered;
      admitted = admitted.admitted;
      file = bound_of w h (bound_file w h q.0) s here.working.file;
      fits = here.fits;
      left = here.left;
      place = length (outstanding h);
      request = read_request (adds h) q s piece.page block;
      at = slice_get-push_new (outstanding h) (read_request (adds h) q s piece.page block);
      reads_it = same_buf-self (Page s piece.page);
      reader = refl;
    }

awaited_load : (w : Workload) (h : List Event) (q : Pid) (c : Call) (s : Serial) (piece : Piece) (block p : ℕ)
    → IsAtPiece w h q c s piece → (awaits h p ≡ true → Awaited w h p) → (q.0 == p || awaits h p) ≡ true
    → AwaitsAt (standing w h p) (outstanding h ++ read_request (adds h) q s piece.page block ∷ []) p
awaited_load w h q c s piece block p here old is = by_reader (q.0 == p) refl is
  where
    r : Request
    r = read_request (adds h) q s piece.page block

    by_reader : (b : Bool) → (q.0 == p) ≡ b → (b || awaits h p) ≡ true
        → AwaitsAt (standing w h p) (outstanding h ++ r ∷ []) p
    by_reader true same added =
        subst (λ x. AwaitsAt (standing w h x) (outstanding h ++ r ∷ []) x) (eqb-true q.0 p same)
        (starts w h q c s piece block here)
    by_reader false other before = one_more (standing w h p) (outstanding h) r p (old before)

-- a request that is done, and isn't its read
awaited_done : (w : Workload) (h : List Event) (j : ℕ) (r : Request) (p : ℕ) → Known w h → Numbers h
    → slice_get (in_flight h) j ≡ Some r → is_process p (reader_at h r.id.0) ≡ false → Awaited w h p
    → Awaited w (h ▹ Done j r.id true) p
awaited_done w h j r p f n at other k = record {
  call = k.call;
  serial = k.serial;
  piece = k.piece;
  has = k.has;
  entered = k.entered;
  admitted = k.admitted;
  file = k.file;
  fits = k.fits;
  left = k.left;
  place = stays.0;
  request = k.request;
  at = stays.1;
  reads_it = k.reads_it;
  reader = k.reader;
}
  where
    done : slice_get (requests h) r.id.0 ≡ Some r
    done = f.waiting.flight_of j r at

    there : slice_get (unfinished h) k.place ≡ Some k.request
    there = ap (λ l. slice_get l k.place) (sym n.left_is) ∙ k.at

    its : is_numbered r.id k.request ≡ true → is_process p (reader_at h r.id.0) ≡ true
    its numbered =
        let same = same_number (requests h) (unfinished h) k.place k.request r f.waiting.left_of there done numbered in
        ap (λ o. is_process p (elim o [ None ↦ None | Some q ↦ reads_for q ])) done
        ∙ ap (λ q. is_process p (reads_for q)) (sym same) ∙ ap (is_process p) k.reader ∙ eq-eqb p p refl

    unnumbered : is_numbered r.id k.request ≡ false
    unnumbered = elim (cases_Bool (is_numbered r.id k.request)) [
      | inr apart ↦ apart
      | inl numbered ↦ absurd (both_ways (is_process p (reader_at h r.id.0)) other (its numbered))
    ]

    stays : (i : ℕ) × (slice_get (outstanding (h ▹ Done j r.id true)) i ≡ Some k.request)
    stays = in_filter (λ q. not (is_numbered r.id q)) (outstanding h) k.place k.request k.at
        (not_from_false (is_numbered r.id k.request) unnumbered)

awaited_next : (w : Workload) (h : List Event) (e : Event) (p : ℕ) → Known w h → Numbers h → IsLegal w (h ▹ e)
    → Came w h e → (awaits h p ≡ true → Awaited w h p) → awaits (h ▹ e) p ≡ true → Awaited w (h ▹ e) p
awaited_next w h e p f n legal (came_enter q c has out) old is =
    awaited_enter w h q (returned h q.0) p out (old is)
awaited_next w h e p f n legal (came_admit q c has in' out may) old is =
    awaited_admit w h q p out (old is)
awaited_next w h e p f n legal (came_changed q c admitted names acted) old is =
    awaited_ret w h q reply.Done p old is
awaited_next w h e p f n legal (came_exists q name admitted idle taken) old is =
    awaited_ret w h q reply.Exists p old is
awaited_next w h e p f n legal (came_no_slot q name admitted idle unused none) old is =
    awaited_ret w h q reply.NoSlot p old is
awaited_next w h e p f n legal (came_no_file q c admitted none) old is =
    awaited_ret w h q reply.NoFile p old is
awaited_next w h e p f n legal (came_too_big q name off len fill s working big) old is =
    awaited_ret w h q reply.TooBig p old is
awaited_next w h e p f n legal (came_wrote q name off len fill s working none) old is =
    awaited_ret w h q reply.Done p old is
awaited_next w h e p f n legal (came_read q name off len s working none) old is =
    awaited_ret w h q (reply.Count (moved h q.0) (got h q.0)) p old is
awaited_next w h e p f n legal (came_fault q c s piece working left bad) old is =
    awaited_ret w h q reply.ReadFault p old is
awaited_next w h e p f n legal (came_no_space q name off len fill s piece here out none) old is =
    awaited_ret w h q (reply.NoSpace (moved h q.0)) p old is
awaited_next w h e p f n legal (came_make q name slot admitted idle unused at) old is =
    old is
awaited_next w h e p f n legal (came_drop q name s working idle) old is =
    old is
awaited_next w h e p f n legal (came_evict q c s piece here absent t g found) old is =
    old is
awaited_next w h e p f n legal (came_serve run idle found) old is =
    old is
awaited_next w h e p f n legal (came_skip run at gone) old is =
    old is
awaited_next w h e p f n legal (came_map run free serves there none at) old is =
    old is
awaited_next w h e p f n legal (came_grow run block serves there at short) old is =
    old is
awaited_next w h e p f n legal (came_send r free picked) old is =
    old is
awaited_next w h e p f n legal (came_flushed q name s working idle written) old is =
    old is
awaited_next w h e p f n legal (came_seal may) old is =
    old is
awaited_next w h e p f n legal (came_synced q name s working acted safe) old is =
    awaited_ret w h q reply.Done p old is
awaited_next w h e p f n legal (came_put q name off len fill s piece here may) old is =
    awaited_put w h q s piece.page piece.from piece.to fill p legal here.working.file (old is)
awaited_next w h e p f n legal (came_get q name off len s piece here held) old is =
    awaited_get w h q s piece.page piece.from piece.to (sum_of_bytes w h s piece.page piece.from piece.to) p legal
    here.working.file (old is)
awaited_next w h e p f n legal (came_zeros q name off len s piece here absent none) old is =
    awaited_get w h q s piece.page piece.from piece.to 0 p legal here.working.file (old is)
awaited_next w h e p f n legal (came_load q c s piece here absent block at) old is =
    awaited_load w h q c s piece block p here old is
awaited_next w h e p f n legal (came_add run block at there placed long) old is =
    one_more (standing w h p) (outstanding h) _ p (old is)
awaited_next w h e p f n legal (came_journal kind first n' next) old is =
    one_more (standing w h p) (outstanding h) _ p (old is)
awaited_next w h e p f n legal (came_done j r at) old is =
    let parts = and_parts (not (is_process p (reader_at h r.id.0))) (awaits h p) is in
    awaited_done w h j r p f n at (not-true (is_process p (reader_at h r.id.0)) parts.0) (old parts.1)

awaited : (w : Workload) (h : List Event) (p : ℕ) → IsAccepted w → IsLegal w h → awaits h p ≡ true → Awaited w h p
awaited w [] p accepted legal is = absurd (cc)
awaited w (h ▹ e) p accepted legal is =
    awaited_next w h e p (known w h accepted legal.1) (numbers w h accepted legal.1) legal
    (came w h (maker e) e legal.0) (awaited w h p accepted legal.1) is

-- so it is asked for nothing while its file is there
pub awaits_none : (w : Workload) (h : List Event) (p : Pid) (s : Serial) → IsAccepted w → IsLegal w h
    → awaits h p.0 ≡ true → working_file w h p.0 ≡ Some s → next w h (Client p) ≡ None
awaits_none w h p s accepted legal is works = awaited_none w h p s legal works (awaited w h p.0 accepted legal is)

-- ---- the processes for which requests read
-- they are processes of the workload
reader_new : (w : Workload) (h : List Event) (by : Actor) (r : Request) (p : Pid) → Came w h (Add by r)
    → reads_for r ≡ Some p → (1 ≤ p.0) × (p.0 ≤ length w.procs)
reader_new w h by r p (came_load q c s piece here absent block at) is =
    let same : q ≡ p = same_Some q p is in
    subst (λ x. (1 ≤ x.0) × (x.0 ≤ length w.procs)) same
    (here.working.admitted.has.first, here.working.admitted.has.last)
reader_new w h by r p (came_add run block at there placed long) is = absurd (cc is)
reader_new w h by r p (came_journal kind first n next) is =
    let none = (of_journal w h (adds h) kind first n next).reads_for_none in absurd (cc (sym none ∙ is))

pub reader_within : (w : Workload) (h : List Event) (id : ℕ) (r : Request) (p : Pid) → IsLegal w h
    → slice_get (requests h) id ≡ Some r → reads_for r ≡ Some p → (1 ≤ p.0) × (p.0 ≤ length w.procs)
reader_within w [] id r p legal at is = absurd (cc)
reader_within w (h ▹ Add by q) id r p legal at is = elim (slice_get-push (requests h) q id r at) [
  | inl old ↦ reader_within w h id r p legal.1 old is
  | inr new ↦
      reader_new w h by q p (came w h (maker (Add by q)) (Add by q) legal.0) (ap reads_for new.1 ∙ is)
]
reader_within w (h ▹ e) id r p legal at is = reader_within w h id r p legal.1 at is

pub done_within : (w : Workload) (h : List Event) (e : Event) (by : Pid) → IsLegal w (h ▹ e) → done_for h e ≡ Some by
    → (1 ≤ by.0) × (by.0 ≤ length w.procs)
done_within w h (Done k id ok) by legal is = by_request (slice_get (requests h) id.0) refl is
  where
    by_request : (o : Option Request) → slice_get (requests h) id.0 ≡ o
        → (elim o [ None ↦ None | Some r ↦ reads_for r ]) ≡ Some by
        → (1 ≤ by.0) × (by.0 ≤ length w.procs)
    by_request None at reads_it = absurd (cc reads_it)
    by_request (Some r) at reads_it = reader_within w h id.0 r by legal.1 at reads_it
done_within w h e by legal is = absurd (cc is)
