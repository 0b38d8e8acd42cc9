-- A file of which an unfinished request writes pages keeps its blocks: no commit request is sent before the pages are
-- done that were added before its seal.
use Rattle.std.proofs.Common.{◌≡◌, ℕ, zero, suc, ◌+◌, ◌==◌, ◌≤◌, List, [], ◌∷◌, ◌++◌, slice_get, filter, Bool, true, false, not, ◌&&◌, ◌||◌, ◌⊎◌, Option, Some, None, refl, arith, subst, sym, inl, inr, ◌∙◌, ap}
use Rattle.std.specs.List.{list_any}
use Rattle.std.proofs.lemmas.Bool.{cases_Bool, both_ways, and_from, or_cases, or_left, or_right, not_from_true, false_from_ne_true, eqb-true, eq-eqb, ne_eqb, cond-true, cond-false}
use Rattle.std.proofs.lemmas.Bool.Decides.{nat_tests}
use Rattle.std.proofs.lemmas.Option.{same_Some, slice_get_within}
use Rattle.split_types.specs.declared.ids.Pid.{Pid}
use Rattle.split_types.specs.declared.ids.Slot.{Slot}
use Rattle.split_types.specs.declared.ids.Serial.{Serial}
use Rattle.split_types.specs.declared.ids.Txn.{Txn}
use Rattle.split_types.specs.declared.ids.ReqId.{ReqId}
use Rattle.split_types.specs.declared.buf.Buf.TheVariants.{Page}
use Rattle.split_types.specs.declared.actor.Actor.{Actor}
use Rattle.split_types.specs.declared.request.ReqKind.{ReqKind}
use Rattle.split_types.specs.declared.request.ReqKind.TheVariants.{Read, Pages, Log, Commit, Home, Clear}
use Rattle.split_types.specs.declared.request.Request.{Request}
use Rattle.split_types.specs.declared.workload.Workload.{Workload}
use Rattle.split_types.specs.declared.event.Event.{Event}
use Rattle.split_types.specs.declared.event.Event.TheVariants.{Make, Drop, Seal, Add, Send, Done}
use Rattle.split_types.specs.History.{◌▹◌, adds}
use Rattle.split_types.specs.Hooks.{maker, is_among, covers}
use Rattle.split_types.specs.Requests.{is_numbered, is_pages, requests, queued, in_flight, unfinished}
use Rattle.split_types.specs.Reads.{request_numbered}
use Rattle.split_types.specs.Rounds.{before_seal, seals, next_txn}
use Rattle.split_types.specs.Schedulers.{is_data_done}
use Rattle.split_types.specs.Files.{is_live}
use Rattle.split_types.specs.FileMaps.{is_dropped, drop_txn, commits, is_committed, is_settled}
use Rattle.split_types.specs.FilesInOrder.{all_files}
use Rattle.split_types.specs.MapsInOrder.{keeps_blocks}
use Rattle.split_types.specs.Accepted.{IsAccepted}
use Rattle.split_types.specs.Legal.{IsLegal}
use Rattle.split_types.specs.Proving.Came.{Came, Journals}
use Rattle.split_types.specs.Proving.Came.Came.{came_load, came_make, came_add, came_journal, came_send, came_done}
use Rattle.split_types.proofs.CameLaws.{came}
use Rattle.split_types.proofs.JournalAdds.{of_journal}
use Rattle.split_types.proofs.JournalRounds.{seal_is, was_logging}
use Rattle.split_types.proofs.Lists.{slice_get-push, filter_there, list_any_here, any_push_no, none_in_filter}
use Rattle.split_types.proofs.WaitingLaws.{number_here}
use Rattle.split_types.proofs.CommitLaws.{before_there, picked_data}
use Rattle.split_types.proofs.RequestLaws.{picked_there, known_requests}
use Rattle.split_types.proofs.MapLaws.{maps_of}

-- ---- a file that is there wasn't dropped
-- a drop that some transaction takes was made
drop_is : (h : List Event) (s : ℕ) (u : Txn) → drop_txn h s ≡ Some u → is_dropped h s ≡ true
drop_is [] s u is = absurd (cc)
drop_is (h ▹ Drop by slot serial) s u is = by_test (serial.0 == s) is (λ at. drop_is h s u at)
  where
    by_test : (b : Bool) → (elim b [ true ↦ Some (next_txn h) | false ↦ drop_txn h s ]) ≡ Some u
        → (drop_txn h s ≡ Some u → is_dropped h s ≡ true) → (b || is_dropped h s) ≡ true
    by_test true at old = refl
    by_test false at old = old at
drop_is (h ▹ e) s u is = drop_is h s u is

-- the serial of a file that is made is that of none before
pub made_serial : (w : Workload) (h : List Event) (by : Pid) (slot : Slot) (serial : Serial)
    → Came w h (Make by slot serial) → serial.0 ≡ all_files w h
made_serial w h by slot serial (came_make p name at admitted idle unused free) = refl

-- no file is there and was dropped
live_undropped : (w : Workload) (h : List Event) (s : ℕ) → IsAccepted w → IsLegal w h → is_live w h s ≡ true
    → is_dropped h s ≡ true → ⊥
live_undropped w [] s accepted legal live gone = absurd (cc)
live_undropped w (h ▹ Make by slot serial) s accepted legal live gone =
    elim (or_cases (serial.0 == s) (is_live w h s) live) [
      | inl new ↦
          absurd (omega (
            arith,
            eqb-true serial.0 s new,
            made_serial w h by slot serial (came w h (maker (Make by slot serial)) (Make by slot serial) legal.0),
            (maps_of w h accepted legal.1).numbered s (or_right (is_live w h s) (is_dropped h s) gone),
          ))
      | inr old ↦ live_undropped w h s accepted legal.1 old gone
    ]
live_undropped w (h ▹ Drop by slot serial) s accepted legal live gone =
    by_test (serial.0 == s) live gone (λ is at. live_undropped w h s accepted legal.1 is at)
  where
    by_test : (b : Bool) → (not b && is_live w h s) ≡ true → (b || is_dropped h s) ≡ true
        → (is_live w h s ≡ true → is_dropped h s ≡ true → ⊥) → ⊥
    by_test true is at old = absurd (cc)
    by_test false is at old = old is at
live_undropped w (h ▹ e) s accepted legal live gone = live_undropped w h s accepted legal.1 live gone

-- ---- requests for pages of a file that was dropped
-- a page that is among some is of their file
among_file : (s t : Serial) (g n k : ℕ) → is_among s g n (Page t k) ≡ true → s.0 ≡ t.0
among_file s t g n k is = grind (arith, nat_tests)

-- a request that is added writes pages of files that are there
taken_live : (w : Workload) (h : List Event) (by : Actor) (r : Request) (t : Serial) (g : ℕ) → Came w h (Add by r)
    → covers r (Page t g) ≡ true → is_live w h t.0 ≡ true
taken_live w h by r t g (came_load p c s piece here absent block at) is = absurd (cc)
taken_live w h by r t g (came_add run block at there placed long) is =
    subst (λ n. is_live w h n ≡ true) (among_file run.serial t run.page run.n g is) there
taken_live w h by r t g (came_journal kind first n j) is =
    absurd (both_ways (covers r (Page t g)) ((of_journal w h (adds h) kind first n j).covers_none (Page t g)) is)

-- its file is there or was dropped
was_there : (w : Workload) (h : List Event) (i : ℕ) (r : Request) (t : Serial) (g : ℕ) → IsLegal w h
    → slice_get (requests h) i ≡ Some r → covers r (Page t g) ≡ true → (is_live w h t.0 || is_dropped h t.0) ≡ true
was_there w [] i r t g legal at is = absurd (cc)
was_there w (h ▹ Make by slot serial) i r t g legal at is =
    more (serial.0 == t.0) (is_live w h t.0) (is_dropped h t.0) (was_there w h i r t g legal.1 at is)
  where
    more : (new live gone : Bool) → (live || gone) ≡ true → ((new || live) || gone) ≡ true
    more true live gone was = refl
    more false live gone was = was
was_there w (h ▹ Drop by slot serial) i r t g legal at is =
    less (serial.0 == t.0) (is_live w h t.0) (is_dropped h t.0) (was_there w h i r t g legal.1 at is)
  where
    less : (this live gone : Bool) → (live || gone) ≡ true → ((not this && live) || (this || gone)) ≡ true
    less true live gone was = refl
    less false live gone was = was
was_there w (h ▹ Add by q) i r t g legal at is = elim (slice_get-push (requests h) q i r at) [
  | inl old ↦ was_there w h i r t g legal.1 old is
  | inr new ↦
      or_left (is_live w h t.0) (is_dropped h t.0)
      (taken_live w h by q t g (came w h (maker (Add by q)) (Add by q) legal.0)
      (subst (λ x. covers x (Page t g) ≡ true) (sym new.1) is))
]
was_there w (h ▹ e) i r t g legal at is = was_there w h i r t g legal.1 at is

-- a transaction other than the last was sealed before it
not_last : (n v u : ℕ) → v ≡ n + 1 → (v ≡ u → ⊥) → u ≤ n + 1 → u ≤ n
not_last n v u is differs most = grind (arith, nat_tests)

-- it was added before the seal that takes the drop
before_drop : (w : Workload) (h : List Event) (i : ℕ) (r : Request) (t : Serial) (g : ℕ) (u : Txn) → IsAccepted w
    → IsLegal w h → slice_get (requests h) i ≡ Some r → covers r (Page t g) ≡ true → drop_txn h t.0 ≡ Some u
    → u.0 ≤ seals h → slice_get (requests (before_seal h u)) i ≡ Some r
before_drop w [] i r t g u accepted legal at is drop most = absurd (cc)
before_drop w (h ▹ Seal v k) i r t g u accepted legal at is drop most = elim (cases_Bool (v.0 == u.0)) [
  | inl same ↦
      ap (λ l. slice_get (requests l) i) (cond-true (v.0 == u.0) h (before_seal h u) same) ∙ at
  | inr other ↦
      ap (λ l. slice_get (requests l) i) (cond-false (v.0 == u.0) h (before_seal h u) other)
      ∙ before_drop w h i r t g u accepted legal.1 at is drop
      (below (λ e. both_ways (v.0 == u.0) other (eq-eqb v.0 u.0 e)))
]
  where
    below : (v.0 ≡ u.0 → ⊥) → u.0 ≤ seals h
    below differs =
        not_last (seals h) v.0 u.0 (seal_is w h v k (came w h (maker (Seal v k)) (Seal v k) legal.0)).txn differs most
before_drop w (h ▹ Add by q) i r t g u accepted legal at is drop most = elim (slice_get-push (requests h) q i r at) [
  | inl old ↦ before_drop w h i r t g u accepted legal.1 old is drop most
  | inr new ↦
      absurd (live_undropped w h t.0 accepted legal.1
      (taken_live w h by q t g (came w h (maker (Add by q)) (Add by q) legal.0)
      (subst (λ x. covers x (Page t g) ≡ true) (sym new.1) is))
      (drop_is h t.0 u drop))
]
before_drop w (h ▹ Drop by slot serial) i r t g u accepted legal at is drop most =
    by_test (serial.0 == t.0) drop (λ old. before_drop w h i r t g u accepted legal.1 at is old most)
  where
    by_test : (b : Bool) → (elim b [ true ↦ Some (next_txn h) | false ↦ drop_txn h t.0 ]) ≡ Some u
        → (drop_txn h t.0 ≡ Some u → slice_get (requests (before_seal h u)) i ≡ Some r)
        → slice_get (requests (before_seal h u)) i ≡ Some r
    by_test true now rest = absurd (omega (arith, most, ap (λ x. x.0) (same_Some (next_txn h) u now)))
    by_test false old rest = rest old
before_drop w (h ▹ e) i r t g u accepted legal at is drop most =
    before_drop w h i r t g u accepted legal.1 at is drop most

-- ---- transactions whose data is done
-- the transaction was sealed, and each request for pages that was added before its seal is done well
record HasData (h : List Event) (u : Txn) : Type 0 where
  most : u.0 ≤ seals h
  done : (i : ℕ) (q : Request) → slice_get (requests (before_seal h u)) i ≡ Some q → is_pages q ≡ true
      → list_any (is_numbered q.id) (unfinished h) ≡ false

data_from : (h : List Event) (u : Txn) → u.0 ≤ seals h → is_data_done h u ≡ true → HasData h u
data_from h u most all = record {
  most = most;
  done = λ i q at pages.
      false_from_ne_true (list_any (is_numbered q.id) (unfinished h)) (λ left. both_ways (is_data_done h u)
      (not_from_true (list_any (λ r. is_pages r && list_any (is_numbered r.id) (unfinished h)) (requests (before_seal h u)))
      (list_any_here (λ r. is_pages r && list_any (is_numbered r.id) (unfinished h)) (requests (before_seal h u)) i q at
      (and_from (is_pages q) (list_any (is_numbered q.id) (unfinished h)) pages left)))
      all);
}

-- a request that is added has the next number
next_number : (w : Workload) (h : List Event) (by : Actor) (r : Request) → Came w h (Add by r) → r.id.0 ≡ adds h
next_number w h by r (came_load p c s piece here absent block at) = refl
next_number w h by r (came_add run block at there placed long) = refl
next_number w h by r (came_journal kind first n j) = refl

-- it stays so
data_stays : (w : Workload) (h : List Event) (e : Event) (u : Txn) → IsAccepted w → IsLegal w (h ▹ e) → HasData h u
    → HasData (h ▹ e) u
data_stays w h (Seal v k) u accepted legal d = record {
  most = omega (arith, d.most);
  done = λ i q at pages. d.done i q (subst (λ l. slice_get (requests l) i ≡ Some q)
      (cond-false (v.0 == u.0) h (before_seal h u)
      (ne_eqb v.0 u.0 (λ (e : v.0 ≡ u.0). omega (arith, e, d.most, txn))))
      at) pages;
}
  where
    txn : v.0 ≡ seals h + 1
    txn = (seal_is w h v k (came w h (maker (Seal v k)) (Seal v k) legal.0)).txn
data_stays w h (Add by r) u accepted legal d = record {
  most = d.most;
  done = λ i q at pages. any_push_no (is_numbered q.id) (unfinished h) r (other i q (before_there h u i q at))
      ∙ d.done i q at pages;
}
  where
    other : (i : ℕ) (q : Request) → slice_get (requests h) i ≡ Some q → is_numbered q.id r ≡ false
    other i q at =
        let f = known_requests w h accepted legal.1
        in ne_eqb r.id.0 q.id.0 (λ (e : r.id.0 ≡ q.id.0). omega (
          arith,
          e,
          f.numbered.number_is i q at,
          f.numbered.counted,
          slice_get_within (requests h) i q at,
          next_number w h by r (came w h (maker (Add by r)) (Add by r) legal.0),
        ))
data_stays w h (Done k id true) u accepted legal d = record {
  most = d.most;
  done = λ i q at pages. none_in_filter (is_numbered q.id) (λ r. not (is_numbered id r)) (unfinished h)
      (d.done i q at pages);
}
data_stays w h e u accepted legal d = record { most = d.most; done = d.done }

-- ---- commit requests
-- one is added for the transaction whose log came last
commit_kind : (w : Workload) (h : List Event) (kind : ReqKind) (first n : ℕ) (u : Txn) → IsLegal w h
    → Journals w h kind first n → kind ≡ Commit u → u.0 ≤ seals h
commit_kind w h (Commit v) first n u legal j is =
    let same : v ≡ u = cc in subst (λ x. x.0 ≤ seals h) same (was_logging w h v legal j.before).most
commit_kind w h (Read p s g) first n u legal j is = absurd (j)
commit_kind w h (Pages s g) first n u legal j is = absurd (j)
commit_kind w h (Log v) first n u legal j is = absurd (cc)
commit_kind w h (Home v) first n u legal j is = absurd (cc)
commit_kind w h (Clear v) first n u legal j is = absurd (cc)

commit_added : (w : Workload) (h : List Event) (by : Actor) (r : Request) (u : Txn) → IsLegal w h
    → Came w h (Add by r) → r.kind ≡ Commit u → u.0 ≤ seals h
commit_added w h by r u legal (came_load p c s piece here absent block at) is = absurd (cc)
commit_added w h by r u legal (came_add run block at there placed long) is = absurd (cc)
commit_added w h by r u legal (came_journal kind first n j) is = commit_kind w h kind first n u legal j is

-- their transactions were sealed
pub commit_sealed : (w : Workload) (h : List Event) (i : ℕ) (r : Request) (u : Txn) → IsLegal w h
    → slice_get (requests h) i ≡ Some r → r.kind ≡ Commit u → u.0 ≤ seals h
commit_sealed w [] i r u legal at is = absurd (cc)
commit_sealed w (h ▹ Seal v k) i r u legal at is = omega (arith, commit_sealed w h i r u legal.1 at is)
commit_sealed w (h ▹ Add by q) i r u legal at is = elim (slice_get-push (requests h) q i r at) [
  | inl old ↦ commit_sealed w h i r u legal.1 old is
  | inr new ↦
      commit_added w h by q u legal.1 (came w h (maker (Add by q)) (Add by q) legal.0) (ap (λ x. x.kind) new.1 ∙ is)
]
commit_sealed w (h ▹ e) i r u legal at is = commit_sealed w h i r u legal.1 at is

-- what is sent has its data done
sent_has : (w : Workload) (h : List Event) (id : ReqId) (cost k : ℕ) (r : Request) (u : Txn) → IsAccepted w
    → IsLegal w h → Came w h (Send id cost) → slice_get (queued h) k ≡ Some r → is_numbered id r ≡ true
    → r.kind ≡ Commit u → HasData h u
sent_has w h id cost k r u accepted legal (came_send q free picked) at own is =
    let f = known_requests w h accepted legal
    in let there = picked_there w h q accepted picked
    in let mine = f.waiting.queue_of k r at
    in let same : q ≡ r =
    same_Some q r (sym (f.waiting.queue_of there.0 q there.1)
    ∙ subst (λ n. slice_get (requests h) n ≡ Some r) (eqb-true r.id.0 q.id.0 own) mine)
    in data_from h u (commit_sealed w h r.id.0 r u legal mine is)
    (picked_data w h r u accepted (picked ∙ ap Some same) is)

-- what stands in two lists stands in one of them
either_of : {X : Type 0} (xs ys : List X) (i : ℕ) (x : X) → slice_get (xs ++ ys) i ≡ Some x
    → (slice_get xs i ≡ Some x) ⊎ ((j : ℕ) × (slice_get ys j ≡ Some x))
either_of [] ys i x at = inr (i, at)
either_of (y ∷ xs) ys zero x at = inl at
either_of (y ∷ xs) ys (suc i) x at = either_of xs ys i x at

-- a commit request in flight has its data done
flight_has : (w : Workload) (h : List Event) (k : ℕ) (r : Request) (u : Txn) → IsAccepted w → IsLegal w h
    → slice_get (in_flight h) k ≡ Some r → r.kind ≡ Commit u → HasData h u
flight_has w [] k r u accepted legal at is = absurd (cc)
flight_has w (h ▹ Send id cost) k r u accepted legal at is =
    data_stays w h (Send id cost) u accepted legal
    (elim (either_of (in_flight h) (filter (is_numbered id) (queued h)) k r at) [
      | inl old ↦ flight_has w h k r u accepted legal.1 old is
      | inr new ↦
          (let there = filter_there (is_numbered id) (queued h) new.0 r new.1
          in sent_has w h id cost there.0 r u accepted legal.1
          (came w h (maker (Send id cost)) (Send id cost) legal.0) there.1 there.2 is)
    ])
flight_has w (h ▹ Done j id ok) k r u accepted legal at is =
    let there = filter_there (λ q. not (is_numbered id q)) (in_flight h) k r at
    in data_stays w h (Done j id ok) u accepted legal (flight_has w h there.0 r u accepted legal.1 there.1 is)
flight_has w (h ▹ e) k r u accepted legal at is =
    data_stays w h e u accepted legal (flight_has w h k r u accepted legal.1 at is)

-- a request that commits the transaction is its commit request
commits_kind : (u : Txn) (r : Request) → commits u (Some r) ≡ true → r.kind ≡ Commit u
commits_kind u r is = by_kind r.kind refl is
  where
    by_kind : (k : ReqKind) → r.kind ≡ k → commits u (Some (record { id = r.id; kind = k; first = r.first; n = r.n })) ≡ true
        → r.kind ≡ Commit u
    by_kind (Commit v) kind at = kind ∙ ap (λ n. Commit (record { 0 = n })) (eqb-true v.0 u.0 at)
    by_kind _ kind at = absurd (cc)

-- and so has what is committed
done_has : (w : Workload) (h : List Event) (k : ℕ) (id : ReqId) (u : Txn) → IsAccepted w → IsLegal w h
    → Came w h (Done k id true) → commits u (request_numbered h id) ≡ true → HasData h u
done_has w h k id u accepted legal (came_done j r at) is =
    let f = known_requests w h accepted legal
    in let named = f.named r.id r (f.waiting.flight_of j r at)
    in flight_has w h j r u accepted legal at (commits_kind u r (sym (ap (commits u) named) ∙ is))

committed_has : (w : Workload) (h : List Event) (u : Txn) → IsAccepted w → IsLegal w h → is_committed h u ≡ true
    → HasData h u
committed_has w [] u accepted legal is = absurd (cc)
committed_has w (h ▹ Done k id true) u accepted legal is =
    data_stays w h (Done k id true) u accepted legal
    (elim (or_cases (commits u (request_numbered h id)) (is_committed h u) is) [
      | inl now ↦
          done_has w h k id u accepted legal.1 (came w h (maker (Done k id true)) (Done k id true) legal.0) now
      | inr old ↦ committed_has w h u accepted legal.1 old
    ])
committed_has w (h ▹ e) u accepted legal is =
    data_stays w h e u accepted legal (committed_has w h u accepted legal.1 is)

-- ---- files that keep their blocks
covers_is : (r : Request) (t : Serial) (g : ℕ) → covers r (Page t g) ≡ true → is_pages r ≡ true
covers_is r t g is = by_kind r.kind is
  where
    by_kind : (k : ReqKind) → covers (record { id = r.id; kind = k; first = r.first; n = r.n }) (Page t g) ≡ true
        → is_pages (record { id = r.id; kind = k; first = r.first; n = r.n }) ≡ true
    by_kind (Pages s p) at = refl
    by_kind _ at = absurd (cc)

-- the transaction that takes the drop of the file of an unfinished request isn't committed
drop_open : (w : Workload) (h : List Event) (k : ℕ) (r : Request) (t : Serial) (g : ℕ) (u : Txn) → IsAccepted w
    → IsLegal w h → slice_get (unfinished h) k ≡ Some r → covers r (Page t g) ≡ true → drop_txn h t.0 ≡ Some u
    → is_committed h u ≡ false
drop_open w h k r t g u accepted legal at is drop =
    false_from_ne_true (is_committed h u) (λ committed.
    (let d = committed_has w h u accepted legal committed
    in let there = (known_requests w h accepted legal).waiting.left_of k r at
    in let before = before_drop w h r.id.0 r t g u accepted legal there is drop d.most
    in both_ways (list_any (is_numbered r.id) (unfinished h)) (d.done r.id.0 r before (covers_is r t g is))
    (list_any_here (is_numbered r.id) (unfinished h) k r at (number_here r))))

pub pages_keep : (w : Workload) (h : List Event) (k : ℕ) (r : Request) (t : Serial) (g : ℕ) → IsAccepted w
    → IsLegal w h → slice_get (unfinished h) k ≡ Some r → covers r (Page t g) ≡ true → keeps_blocks w h t.0 ≡ true
pages_keep w h k r t g accepted legal at is =
    keeps (is_live w h t.0) (is_dropped h t.0) (is_settled h (drop_txn h t.0))
    (was_there w h r.id.0 r t g legal ((known_requests w h accepted legal).waiting.left_of k r at) is)
    (open_drop (drop_txn h t.0) refl)
  where
    keeps : (live gone settled : Bool) → (live || gone) ≡ true → settled ≡ false
        → (live || (gone && not settled)) ≡ true
    keeps true gone settled was none = refl
    keeps false true false was none = refl
    keeps false true true was none = absurd (cc)
    keeps false false settled was none = absurd (cc)

    open_drop : (o : Option Txn) → drop_txn h t.0 ≡ o → is_settled h o ≡ false
    open_drop None drop = refl
    open_drop (Some u) drop = drop_open w h k r t g u accepted legal at is drop
