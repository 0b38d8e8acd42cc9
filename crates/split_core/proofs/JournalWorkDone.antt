-- What the journal has to do with a history, over a completion: one of the commit thread's is that of its stage.
use Rattle.std.proofs.Common.{◌≡◌, ℕ, zero, suc, ◌+◌, ◌==◌, List, [], ◌∷◌, length, filter, slice_get, nat_le, nat_lt, cond, count_by, Bool, true, false, not, ◌&&◌, ◌||◌, Option, Some, None, option_map, refl, ap, sym, subst, ◌∙◌, inr, arith}
use Rattle.std.specs.Prelude.{remove}
use Rattle.std.specs.Option.{is_some}
use Rattle.std.proofs.lemmas.Bool.{not_from_false, cond-true, lt-ltb}
use Rattle.std.proofs.lemmas.Bool.Decides.{nat_tests}
use Rattle.std.proofs.lemmas.List.Sums.{length-filter, sum_by-cons}
use Rattle.std.proofs.lemmas.Option.{same_Some}
use Rattle.split_types.specs.declared.ids.Txn.{Txn}
use Rattle.split_types.specs.declared.buf.Buf.{Buf}
use Rattle.split_types.specs.declared.request.ReqKind.{ReqKind}
use Rattle.split_types.specs.declared.request.ReqKind.TheVariants as kind
use Rattle.split_types.specs.declared.request.Request.{Request}
use Rattle.split_types.specs.declared.workload.Workload.{Workload}
use Rattle.split_types.specs.declared.event.Event.{Event}
use Rattle.split_types.specs.declared.event.Event.TheVariants.{Done}
use Rattle.split_types.specs.History.{◌▹◌}
use Rattle.split_types.specs.Parents.{home_block}
use Rattle.split_types.specs.FileMaps.{commits, is_committed}
use Rattle.split_types.specs.Reads.{request_numbered}
use Rattle.split_types.specs.Requests.{is_numbered, in_flight, unfinished}
use Rattle.split_types.specs.Rounds.{seals, slot_of_txn}
use Rattle.split_types.specs.Transactions.{clears, in_journal, is_of_commit, under_way, stage, Stage}
use Rattle.split_types.specs.Transactions.Stage.{Fresh, Sealed, Logging, Committing, Homing, Clearing}
use Rattle.split_types.specs.Proving.Known.{KnownRequests}
use Rattle.split_types.specs.Proving.JournalKnown.{JournalKnown}
use Rattle.split_types.proofs.Shared.{filter_one, filter_there, number_here}
use Rattle.split_types.proofs.JournalStepsDone.{flight_left}
use Rattle.proxies.specs.declared.commit.Commit.TheVariants.{Idle, Log, Marking, Clear}
use Rattle.journal_core.specs.declared.work.Work.{Work}
use Rattle.journal_core.specs.Places.{blocks_of}
use Rattle.journal_core.specs.Work.{cleared_slot, done_work}
use Rattle.journal_core.specs.Journaled.{Journaled, without, after_done}
use Rattle.split_core.proofs.JournalWorkKnown.{Writes, Works, BeginsAt, Stands, Keeps, work_of}

-- ---- how many are under way
count_less : {X : Type 0} (p : X → Bool) (xs : List X) (i : ℕ) (x : X) → slice_get xs i ≡ Some x
    → count_by p (remove xs i) + cond (p x) 1 0 ≡ count_by p xs
count_less p [] i x at = absurd (cc)
count_less p (y ∷ ys) zero x at =
    omega (
      arith,
      sum_by-cons (λ z. cond (p z) 1 0) y ys,
      ap {B = ℕ} (λ z. cond (p z) 1 0) (same_Some y x at),
    )
count_less p (y ∷ ys) (suc i) x at =
    omega (
      arith,
      sum_by-cons (λ z. cond (p z) 1 0) y ys,
      sum_by-cons (λ z. cond (p z) 1 0) y (remove ys i),
      count_less p ys i x at,
    )

-- the requests that are under way, with the one that is done
under_done : (h : List Event) (k : ℕ) (r : Request) → KnownRequests h → slice_get (in_flight h) k ≡ Some r
    → under_way (h ▹ Done k r.id true) + cond (is_of_commit r) 1 0 ≡ under_way h
under_done h k r f at =
    let place = flight_left h k r f at in
    let left = unfinished h in
    let less = (filter_one (is_numbered r.id) left place.0 r place.1 (number_here r)
    (omega (arith, f.waiting.left_once r.id, f.waiting.once r.id))).1 in
    omega (
      arith,
      length-filter is_of_commit (filter (λ q. not (is_numbered r.id q)) left),
      length-filter is_of_commit left,
      ap (count_by is_of_commit) less,
      count_less is_of_commit left place.0 r place.1,
    )

-- ---- what a completion keeps
pub named : (h : List Event) (k : ℕ) (r : Request) → KnownRequests h → slice_get (in_flight h) k ≡ Some r
    → request_numbered h r.id ≡ Some r
named h k r f at = f.named r.id r (f.waiting.flight_of k r at)

keeps_all : (p : Txn → Bool) (ts : List Txn) → ((t : Txn) → p t ≡ true) → filter p ts ≡ ts
keeps_all p [] all = refl
keeps_all p (t ∷ ts) all =
    cond-true (p t) (t ∷ filter p ts) (filter p ts) (all t) ∙ ap (λ l. t ∷ l) (keeps_all p ts all)

pub held_done : (h : List Event) (k : ℕ) (r : Request) → KnownRequests h → slice_get (in_flight h) k ≡ Some r
    → ((t : Txn) → clears t (Some r) ≡ false) → in_journal (h ▹ Done k r.id true) ≡ in_journal h
held_done h k r f at none =
    ap (λ o. filter (λ t. not (clears t o)) (in_journal h)) (named h k r f at)
    ∙ keeps_all (λ t. not (clears t (Some r))) (in_journal h) (λ t. not_from_false (clears t (Some r)) (none t))

settled_done : (h : List Event) (k : ℕ) (r : Request) (t : Txn) → KnownRequests h → slice_get (in_flight h) k ≡ Some r
    → commits t (Some r) ≡ false → is_committed (h ▹ Done k r.id true) t ≡ is_committed h t
settled_done h k r t f at none =
    ap (λ o. commits t o || is_committed h t) (named h k r f at) ∙ ap (λ b. b || is_committed h t) none

begins_done : (h : List Event) (k : ℕ) (r : Request) (s : Stage) (first : ℕ) → BeginsAt h s first
    → BeginsAt (h ▹ Done k r.id true) s first
begins_done h k r Fresh first is = tt
begins_done h k r (Sealed t n) first is = tt
begins_done h k r (Logging t) first is = is
begins_done h k r (Committing t) first is = is
begins_done h k r (Homing t) first is = tt
begins_done h k r (Clearing t) first is = is

-- what is left is the work
pub done_with : (w : Workload) (h : List Event) (k : ℕ) (r : Request) (j : Journaled (List ℕ)) (work : Work)
    (slots : List (Option (List ℕ))) → Stands w h j → length slots ≡ length j.slots
    → Works (h ▹ Done k r.id true) work (length j.logged) (stage h)
    → ((t : Txn) → is_committed (h ▹ Done k r.id true) t ≡ (nat_le 1 t.0 && nat_le t.0 work.committed))
    → Stands w (h ▹ Done k r.id true) (record j { slots = slots; work = work })
done_with w h k r j work slots s long works committed = record {
  marks_long = s.marks_long;
  round_long = s.round_long;
  slots_long = long ∙ s.slots_long;
  marks_are = s.marks_are;
  round_is = s.round_is;
  works = works;
  homes = s.homes;
  begin = begin;
  committed = committed;
}
  where
    begin : (i : ℕ) (q : Request) → slice_get (filter (λ x. not (is_numbered r.id x)) (unfinished h)) i ≡ Some q
        → is_of_commit q ≡ true → BeginsAt (h ▹ Done k r.id true) (stage h) q.first
    begin i q at of =
        let there = filter_there (λ x. not (is_numbered r.id x)) (unfinished h) i q at in
        begins_done h k r (stage h) q.first (s.begin there.0 q there.1 of)

-- one that moves pages changes nothing
pub keeps_done : (h : List Event) (k : ℕ) (r : Request) → KnownRequests h → slice_get (in_flight h) k ≡ Some r
    → is_of_commit r ≡ false → ((t : Txn) → clears t (Some r) ≡ false) → ((t : Txn) → commits t (Some r) ≡ false)
    → Keeps h (h ▹ Done k r.id true)
keeps_done h k r f at none uncleared uncommitted = record {
  same_stage = refl;
  sealed = refl;
  held = held_done h k r f at uncleared;
  slot = λ t. refl;
  under = omega (arith, under_done h k r f at, ap {B = ℕ} (λ b. cond b 1 0) none);
  left =
      λ i q there of.
      let was = filter_there (λ x. not (is_numbered r.id x)) (unfinished h) i q there in (was.0, was.1);
  home = refl;
  awaits = λ b. refl;
  settled = λ t. settled_done h k r t f at (uncommitted t);
}

-- ---- one of the commit thread
pub after_done_is : (j : Journaled (List ℕ)) (work : Work) → j.work ≡ work
    → after_done j ≡ record j {
      slots = without (cleared_slot work.stage) j.slots;
      work = done_work (nat_lt 0 (length (blocks_of j.round))) work;
    }
after_done_is j work is =
    ap (λ (x : Work).
    record j {
      slots = without (cleared_slot x.stage) j.slots;
      work = done_work (nat_lt 0 (length (blocks_of j.round))) x;
    }) is

pub same_clear : (t u : Txn) (s z k l n m o : ℕ) → t ≡ u → s ≡ z → k ≡ l → m ≡ o
    → work_of (Clear t s) k n n m ≡ work_of (Clear u z) l n n o
same_clear t u s z k l n m o a b c d = rw (a, b, c, d) refl

one_more : (t x c : ℕ) → c + 1 ≡ t → ((t == x) || (nat_le 1 x && nat_le x c)) ≡ (nat_le 1 x && nat_le x t)
one_more t x c is = grind (arith, nat_tests)

-- homes are left where one awaits
pub left_some : (blocks : List ℕ) (o : Option Buf) → slice_get blocks 0 ≡ option_map home_block o
    → nat_lt 0 (length blocks) ≡ is_some o
left_some [] None is = refl
left_some [] (Some b) is = absurd (cc)
left_some (x ∷ blocks) None is = absurd (cc)
left_some (x ∷ blocks) (Some b) is = lt-ltb 0 (length (x ∷ blocks)) (omega arith)

pub none_of : (o : Option Buf) → is_some o ≡ false → o ≡ None
none_of None is = refl
none_of (Some b) is = absurd (cc)

-- what is known where one is done
pub record OneDone (w : Workload) (h : List Event) (k : ℕ) (r : Request) (j : Journaled (List ℕ)) : Type 0 where
  pub requests_known : KnownRequests h
  pub at : slice_get (in_flight h) k ≡ Some r
  pub known : JournalKnown w h
  pub stands : Stands w h j
  pub commits_it : is_of_commit r ≡ true

module _ (w : Workload) (h : List Event) (k : ℕ) (r : Request) (j : Journaled (List ℕ)) (d : OneDone w h k r j) where
  abbrev after : List Event
  after = h ▹ Done k r.id true

  -- one less is under way
  pub less : under_way after + 1 ≡ under_way h
  less = omega (arith, under_done h k r d.requests_known d.at, ap {B = ℕ} (λ b. cond b 1 0) d.commits_it)

  pub of_kind : (kd : ReqKind) → ((i : ℕ) (q : Request) → slice_get (unfinished h) i ≡ Some q → is_of_commit q ≡ true
      → q.kind ≡ kd) → r.kind ≡ kd
  of_kind kd kinds =
      let place = flight_left h k r d.requests_known d.at in kinds place.0 r place.1 d.commits_it

  pub stays : (work : Work) → j.work ≡ work → ((t : Txn) → commits t (Some r) ≡ false) → (t : Txn)
      → is_committed after t ≡ (nat_le 1 t.0 && nat_le t.0 work.committed)
  stays work is none t =
      settled_done h k r t d.requests_known d.at (none t) ∙ d.stands.committed t
      ∙ ap (λ (x : Work). nat_le 1 t.0 && nat_le t.0 x.committed) is

  pub logged_done : (t : Txn) → stage h ≡ Logging t → r.kind ≡ kind.Log t → under_way h ≡ 1
      → Writes h j.work (Log t (slot_of_txn h t)) 1 → Stands w after (after_done j)
  logged_done t is kd one writes =
      let used = length (in_journal h) in
      let before : Work = work_of (Log t (slot_of_txn h t)) 1 (seals h) writes.committed used in
      let now : Work = work_of (Marking t (slot_of_txn h t)) 0 (seals h) writes.committed used in
      let held : in_journal after ≡ in_journal h = held_done h k r d.requests_known d.at (λ u. rw kd refl) in
      let works : Works after now (length j.logged) (Logging t) = inr (
        omega (arith, less, one),
        record {
          committed = writes.committed;
          before = writes.before;
          work_is =
              ap (λ l. work_of (Marking t (slot_of_txn h t)) 0 (seals h) writes.committed (length {A = Txn} l)) (sym held);
        },
      ) in
      subst (Stands w after) (sym (after_done_is j before writes.work_is))
      (done_with w h k r j now j.slots d.stands refl (subst (Works after now (length j.logged)) (sym is) works)
      (stays before writes.work_is (λ u. rw kd refl)))

  pub committed_done : (t : Txn) → stage h ≡ Committing t → r.kind ≡ kind.Commit t → t.0 ≡ seals h → under_way h ≡ 1
      → Writes h j.work (Marking t (slot_of_txn h t)) 1 → Stands w after (after_done j)
  committed_done t is kd last one writes =
      let used = length (in_journal h) in
      let before : Work = work_of (Marking t (slot_of_txn h t)) 1 (seals h) writes.committed used in
      let now : Work = work_of Idle 0 (seals h) t.0 used in
      let held : in_journal after ≡ in_journal h = held_done h k r d.requests_known d.at (λ u. rw kd refl) in
      let works : Works after now (length j.logged) (Committing t) = inr (
        omega (arith, less, one),
        ap (λ n. work_of Idle 0 (seals h) n used) last
            ∙ ap (λ l. work_of Idle 0 (seals h) (seals h) (length {A = Txn} l)) (sym held),
      ) in
      subst (Stands w after) (sym (after_done_is j before writes.work_is))
      (done_with w h k r j now j.slots d.stands refl (subst (Works after now (length j.logged)) (sym is) works)
      (λ u. ap (λ o. commits u o || is_committed h u) (named h k r d.requests_known d.at)
      ∙ ap (λ b. b || is_committed h u) (own u)
      ∙ ap (λ b. (t.0 == u.0) || b) (d.stands.committed u)
      ∙ ap (λ (x : Work). (t.0 == u.0) || (nat_le 1 u.0 && nat_le u.0 x.committed)) writes.work_is
      ∙ one_more t.0 u.0 writes.committed (omega (arith, writes.before, last))))
    where
      own : (u : Txn) → commits u (Some r) ≡ (t.0 == u.0)
      own u = rw kd refl
