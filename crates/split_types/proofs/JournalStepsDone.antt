-- What is known of the journal, over a completion.
use Rattle.std.proofs.Common.{◌≡◌, ℕ, zero, suc, ◌+◌, ◌==◌, ◌≤◌, List, [], ◌∷◌, length, slice_get, filter, Bool, true, false, not, ◌||◌, Some, None, refl, arith, subst, sym, inl, inr, ◌∙◌, ap}
use Rattle.std.specs.List.{list_any}
use Rattle.std.proofs.lemmas.Bool.{cases_Bool, both_ways, or_left, or_right, not_from_false, not_from_true, cond-true, eq-eqb}
use Rattle.std.proofs.lemmas.List.Sums.{length-filter}
use Rattle.split_types.specs.declared.ids.Txn.{Txn}
use Rattle.split_types.specs.declared.request.ReqKind.{ReqKind}
use Rattle.split_types.specs.declared.request.ReqKind.TheVariants.{Read, Pages, Log, Commit, Home, Clear}
use Rattle.split_types.specs.declared.request.Request.{Request}
use Rattle.split_types.specs.declared.workload.Workload.{Workload}
use Rattle.split_types.specs.declared.event.Event.{Event}
use Rattle.split_types.specs.declared.event.Event.TheVariants.{Done}
use Rattle.split_types.specs.History.{◌▹◌}
use Rattle.split_types.specs.Requests.{is_numbered, requests, in_flight, unfinished}
use Rattle.split_types.specs.Reads.{request_numbered}
use Rattle.split_types.specs.FileMaps.{commits, is_committed}
use Rattle.split_types.specs.Rounds.{before_seal, seals, last_txn}
use Rattle.split_types.specs.Transactions.{clears, in_journal, is_of_commit, under_way, stage, Stage}
use Rattle.split_types.specs.Transactions.Stage.{Fresh, Sealed, Logging, Committing, Homing, Clearing}
use Rattle.split_types.specs.Proving.Known.{KnownRequests}
use Rattle.split_types.specs.Proving.JournalKnown.{AreInARow, AreOfKind, AreHomes, AtStage, IsClearing, IsOpenAt, IsOfSealed, IsLastCommitted, JournalKnown}
use Rattle.split_types.proofs.Lists.{find_some, filter_there, count_none, counted_here, count_filter_less}
use Rattle.split_types.proofs.KeptLists.{one_passes, in_filter, any_filter}
use Rattle.split_types.proofs.WaitingLaws.{same_number, number_here}
use Rattle.split_types.proofs.JournalRows.{row_clear, under_less, kinds_less}
use Rattle.split_types.proofs.JournalSteps.{data_kept, AreOrdered, open_same}

-- a request in flight is unfinished
pub flight_left : (h : List Event) (k : ℕ) (r : Request) → KnownRequests h → slice_get (in_flight h) k ≡ Some r
    → (i : ℕ) × (slice_get (unfinished h) i ≡ Some r)
flight_left h k r f at = elim (cases_Bool (list_any (is_numbered r.id) (unfinished h))) [
  | inr none ↦
      absurd (omega (
        arith,
        f.waiting.left_once r.id,
        count_none (is_numbered r.id) (unfinished h) none,
        counted_here (is_numbered r.id) (in_flight h) k r at (number_here r),
      ))
  | inl any ↦
      (let there = find_some (is_numbered r.id) (unfinished h) any
      in let same : there.element ≡ r =
      same_number (requests h) (unfinished h) there.place there.element r f.waiting.left_of there.there
      (f.waiting.flight_of k r at) there.passes
      in (there.place, there.there ∙ ap Some same))
]

-- a list of which each element passes
keeps_all : (p : Txn → Bool) (ts : List Txn) → ((t : Txn) → p t ≡ true) → filter p ts ≡ ts
keeps_all p [] all = refl
keeps_all p (t ∷ ts) all =
    cond-true (p t) (t ∷ filter p ts) (filter p ts) (all t) ∙ ap (λ l. t ∷ l) (keeps_all p ts all)

-- one of the commit thread's that is unfinished is under way
pub some_under_way : (left : List Request) (i : ℕ) (r : Request) → slice_get left i ≡ Some r → is_of_commit r ≡ true
    → 1 ≤ length (filter is_of_commit left)
some_under_way left i r at commits =
    omega (arith, length-filter is_of_commit left, counted_here is_of_commit left i r at commits)

pub none_under_way : (left : List Request) → list_any is_of_commit left ≡ false
    → length (filter is_of_commit left) ≡ 0
none_under_way left none = omega (arith, length-filter is_of_commit left, count_none is_of_commit left none)

-- where one is under way and is done, none is
last_done : (left : List Request) (i : ℕ) (r : Request) → slice_get left i ≡ Some r → is_of_commit r ≡ true
    → length (filter is_of_commit left) ≤ 1
    → length (filter is_of_commit (filter (λ q. not (is_numbered r.id q)) left)) ≡ 0
last_done left i r at commits few =
    elim (cases_Bool (list_any is_of_commit (filter (λ q. not (is_numbered r.id q)) left))) [
      | inr none ↦ none_under_way (filter (λ q. not (is_numbered r.id q)) left) none
      | inl any ↦
          (let f = find_some is_of_commit (filter (λ q. not (is_numbered r.id q)) left) any
          in let there = filter_there (λ q. not (is_numbered r.id q)) left f.place f.element f.there
          in absurd (both_ways (not (is_numbered r.id f.element)) (not_from_true (is_numbered r.id f.element)
          (own f.element (same f.element there.0 there.1 f.passes))) there.2))
    ]
  where
    same : (q : Request) (j : ℕ) → slice_get left j ≡ Some q → is_of_commit q ≡ true → Some r ≡ Some q
    same q j there passes =
        sym at
        ∙ ap (slice_get left) (one_passes is_of_commit left i j r q at there commits passes
        (omega (arith, few, length-filter is_of_commit left)))
        ∙ there

    own : (q : Request) → Some r ≡ Some q → is_numbered r.id q ≡ true
    own q is = eq-eqb q.id.0 r.id.0 (id_of is)
      where
        id_of : Some r ≡ Some q → q.id.0 ≡ r.id.0
        id_of e = sym (ap (λ o. elim o [ None ↦ 0 | Some x ↦ x.id.0 ]) e)

ordered_done : (h : List Event) (k : ℕ) (r : Request) → AreOrdered h → AreOrdered (h ▹ Done k r.id true)
ordered_done h k r ordered i q t at kind = elim (ordered i q t at kind) [
  | inl waits ↦ inl waits
  | inr done ↦
      inr (data_kept (requests (before_seal h t)) (unfinished h)
      (filter (λ x. not (is_numbered r.id x)) (unfinished h))
      (λ j p there any. any_filter (is_numbered p.id) (λ x. not (is_numbered r.id x)) (unfinished h) any) done)
]

homes_done : (h : List Event) (k : ℕ) (r : Request) (t : Txn) → KnownRequests h → AreHomes h t
    → AreHomes (h ▹ Done k r.id true) t
homes_done h k r t f homes = record {
  kinds = kinds_less (Home t) (unfinished h) (λ x. not (is_numbered r.id x)) homes.kinds;
  none = λ i q b at brings. let there = was i q at in homes.none there.0 q b there.1 brings;
  apart =
      λ i j p q at there first second same. apart_of i j p q at there first second same;
  long = λ i q at passes. let there = was i q at in homes.long there.0 q there.1 passes;
}
  where
    was : (i : ℕ) (q : Request) → slice_get (filter (λ x. not (is_numbered r.id x)) (unfinished h)) i ≡ Some q
        → (j : ℕ) × (slice_get (unfinished h) j ≡ Some q)
    was i q at = let there = filter_there (λ x. not (is_numbered r.id x)) (unfinished h) i q at in (there.0, there.1)

    apart_of : (i j : ℕ) (p q : Request)
        → slice_get (filter (λ x. not (is_numbered r.id x)) (unfinished h)) i ≡ Some p
        → slice_get (filter (λ x. not (is_numbered r.id x)) (unfinished h)) j ≡ Some q
        → is_of_commit p ≡ true → is_of_commit q ≡ true → p.first ≡ q.first → i ≡ j
    apart_of i j p q at there first second same =
        let a = was i p at
        in let b = was j q there
        in let one : a.0 ≡ b.0 = homes.apart a.0 b.0 p q a.1 b.1 first second same
        in let this : Some p ≡ Some q = sym a.1 ∙ ap (slice_get (unfinished h)) one ∙ b.1
        in one_passes (is_numbered p.id) (filter (λ x. not (is_numbered r.id x)) (unfinished h)) i j p p at
        (there ∙ sym this) (number_here p) (number_here p)
        (omega (
          arith,
          f.waiting.left_once p.id,
          f.waiting.once p.id,
          count_filter_less (is_numbered p.id) (λ x. not (is_numbered r.id x)) (unfinished h),
        ))

stands_done : (h : List Event) (k : ℕ) (r : Request) (cleared : ℕ) (s : Stage) → KnownRequests h
    → AtStage h cleared s → AtStage (h ▹ Done k r.id true) cleared s
stands_done h k r cleared s f at = by_stage s at
  where
    less : under_way (h ▹ Done k r.id true) ≤ under_way h
    less = under_less (unfinished h) (λ x. not (is_numbered r.id x))

    kinds_of : (kind : ReqKind) → AreOfKind kind (unfinished h)
        → AreOfKind kind (filter (λ x. not (is_numbered r.id x)) (unfinished h))
    kinds_of kind kinds = kinds_less kind (unfinished h) (λ x. not (is_numbered r.id x)) kinds

    clearing : (t : Txn) (n : ℕ) → under_way (h ▹ Done k r.id true) ≡ n → IsClearing h cleared t
        → IsClearing (h ▹ Done k r.id true) cleared t
    clearing t zero is at = inr is
    clearing t (suc n) is (inl at) = inl (omega (arith, is, less, at.0), at.1, kinds_of (Clear t) at.2)
    clearing t (suc n) is (inr at) = absurd (omega (arith, is, less, at))

    by_stage : (s : Stage) → AtStage h cleared s → AtStage (h ▹ Done k r.id true) cleared s
    by_stage Fresh at = (omega (arith, less, at.0), at.1)
    by_stage (Sealed t n) at = (omega (arith, less, at.0), at.1, at.2, at.3, at.4)
    by_stage (Logging t) at = (omega (arith, less, at.0), at.1, at.2, kinds_of (Log t) at.3)
    by_stage (Committing t) at = (omega (arith, less, at.0), at.1, at.2, kinds_of (Commit t) at.3)
    by_stage (Homing t) at = (at.0, at.1, homes_done h k r t f at.2)
    by_stage (Clearing t) at = clearing t (under_way (h ▹ Done k r.id true)) refl at

-- the commit request was under way and is done, or was done before
committing_done : (h : List Event) (k : ℕ) (r : Request) (cleared : ℕ) (t : Txn) → KnownRequests h
    → slice_get (in_flight h) k ≡ Some r → AtStage h cleared (Committing t) → IsLastCommitted h (Committing t)
    → IsLastCommitted (h ▹ Done k r.id true) (Committing t)
committing_done h k r cleared t f at stands last none =
    elim (cases_Bool (list_any is_of_commit (unfinished h))) [
      | inr past ↦
          or_right (commits t (request_numbered h r.id)) (is_committed h t) (last (none_under_way (unfinished h) past))
      | inl any ↦ (let there = find_some is_of_commit (unfinished h) any
          in by_number there.element there.place there.there there.passes)
    ]
  where
    committed : commits t (Some r) ≡ true → (commits t (request_numbered h r.id) || is_committed h t) ≡ true
    committed is =
        or_left (commits t (request_numbered h r.id)) (is_committed h t)
        (ap (commits t) (f.named r.id r (f.waiting.flight_of k r at)) ∙ is)

    of_kind : (q : Request) → q.kind ≡ Commit t → commits t (Some q) ≡ true
    of_kind q kind = rw kind (eq-eqb t.0 t.0 refl)

    by_number : (q : Request) (i : ℕ) → slice_get (unfinished h) i ≡ Some q → is_of_commit q ≡ true
        → (commits t (request_numbered h r.id) || is_committed h t) ≡ true
    by_number q i there passes = elim (cases_Bool (is_numbered r.id q)) [
      | inl own ↦
          (let same : q ≡ r = same_number (requests h) (unfinished h) i q r f.waiting.left_of there
          (f.waiting.flight_of k r at) own
          in committed (of_kind r (subst (λ x. x.kind ≡ Commit t) same (stands.3 i q there passes))))
      | inr other ↦
          (let kept = in_filter (λ x. not (is_numbered r.id x)) (unfinished h) i q there
          (not_from_false (is_numbered r.id q) other)
          in absurd (omega (
            arith,
            none,
            some_under_way (filter (λ x. not (is_numbered r.id x)) (unfinished h)) kept.0 q
                kept.1 passes,
          )))
    ]

last_done_of : (h : List Event) (k : ℕ) (r : Request) (cleared : ℕ) (s : Stage) → KnownRequests h
    → slice_get (in_flight h) k ≡ Some r → AtStage h cleared s → IsLastCommitted h s
    → IsLastCommitted (h ▹ Done k r.id true) s
last_done_of h k r cleared Fresh f at stands last = tt
last_done_of h k r cleared (Sealed t n) f at stands last = tt
last_done_of h k r cleared (Logging t) f at stands last = tt
last_done_of h k r cleared (Committing t) f at stands last = committing_done h k r cleared t f at stands last
last_done_of h k r cleared (Homing t) f at stands last =
    or_right (commits (last_txn h) (request_numbered h r.id)) (is_committed h (last_txn h)) last
last_done_of h k r cleared (Clearing t) f at stands last =
    or_right (commits (last_txn h) (request_numbered h r.id)) (is_committed h (last_txn h)) last

-- a completion where as many are cleared after it
done_with : (w : Workload) (h : List Event) (k : ℕ) (r : Request) (cleared : ℕ) → KnownRequests h
    → slice_get (in_flight h) k ≡ Some r → (j : JournalKnown w h) → j.cleared ≤ cleared
    → AreInARow cleared (in_journal (h ▹ Done k r.id true)) (seals h)
    → AtStage (h ▹ Done k r.id true) cleared (stage h) → IsOpenAt h j.base cleared (stage h)
    → JournalKnown w (h ▹ Done k r.id true)
done_with w h k r cleared f at j more row stands opens = record {
  cleared = cleared;
  base = j.base;
  row = row;
  slots = record {
    order = omega (arith, j.slots.order, more);
    room = j.slots.room;
    slot_is = j.slots.slot_is;
    open_is = open_same h (h ▹ Done k r.id true) j.base cleared (stage h) refl refl opens;
  };
  numbers = j.numbers;
  runs = j.runs;
  stands = stands;
  committed =
      λ t some below. or_right (commits t (request_numbered h r.id)) (is_committed h t) (j.committed t some below);
  last = last_done_of h k r j.cleared (stage h) f at j.stands j.last;
  ordered = ordered_done h k r j.ordered;
}

plain_done : (w : Workload) (h : List Event) (k : ℕ) (r : Request) → KnownRequests h
    → slice_get (in_flight h) k ≡ Some r → ((t : Txn) → clears t (Some r) ≡ false) → JournalKnown w h
    → JournalKnown w (h ▹ Done k r.id true)
plain_done w h k r f at past j =
    done_with w h k r j.cleared f at j (omega arith)
    (subst (λ ts. AreInARow j.cleared ts (seals h)) (sym same) j.row)
    (stands_done h k r j.cleared (stage h) f j.stands) j.slots.open_is
  where
    same : filter (λ t. not (clears t (request_numbered h r.id))) (in_journal h) ≡ in_journal h
    same =
        ap (λ o. filter (λ t. not (clears t o)) (in_journal h)) (f.named r.id r (f.waiting.flight_of k r at))
        ∙ keeps_all (λ t. not (clears t (Some r))) (in_journal h)
        (λ t. not_from_false (clears t (Some r)) (past t))

-- the first in the journal is cleared
clear_done : (w : Workload) (h : List Event) (k : ℕ) (r : Request) (u : Txn) → KnownRequests h
    → slice_get (in_flight h) k ≡ Some r → r.kind ≡ Clear u → JournalKnown w h
    → JournalKnown w (h ▹ Done k r.id true)
clear_done w h k r u f at kind j = by_stage (stage h) refl j.stands j.slots.open_is
  where
    place : (i : ℕ) × (slice_get (unfinished h) i ≡ Some r)
    place = flight_left h k r f at

    commits_it : is_of_commit r ≡ true
    commits_it = rw kind refl

    one : 1 ≤ under_way h
    one = some_under_way (unfinished h) place.0 r place.1 commits_it

    other : (kd : ReqKind) → AreOfKind kd (unfinished h) → Clear u ≡ kd
    other kd kinds = sym kind ∙ kinds place.0 r place.1 commits_it

    same : filter (λ t. not (clears t (request_numbered h r.id))) (in_journal h)
        ≡ filter (λ t. not (u.0 == t.0)) (in_journal h)
    same =
        ap (λ o. filter (λ t. not (clears t o)) (in_journal h)) (f.named r.id r (f.waiting.flight_of k r at))
        ∙ rw kind refl

    first_cleared : (ts : List Txn) → u.0 ≡ j.cleared + 1 → u.0 ≤ seals h → AreInARow j.cleared ts (seals h)
        → AreInARow (j.cleared + 1) (filter (λ t. not (u.0 == t.0)) ts) (seals h)
    first_cleared [] is most row = absurd (omega (arith, is, most, row))
    first_cleared (v ∷ ts) is most row =
        subst (λ l. AreInARow (j.cleared + 1) l (seals h)) (sym (row_clear u.0 j.cleared v ts (seals h) is row)) row.1

    most_of : u.0 ≤ seals h
    most_of =
        (subst (IsOfSealed (seals h)) kind (j.numbers r.id.0 r (f.waiting.flight_of k r at))).1

    by_stage : (s : Stage) → stage h ≡ s → AtStage h j.cleared s → IsOpenAt h j.base j.cleared s
        → JournalKnown w (h ▹ Done k r.id true)
    by_stage Fresh is stands opens = absurd (omega (arith, one, stands.0))
    by_stage (Sealed t n) is stands opens = absurd (omega (arith, one, stands.0))
    by_stage (Logging t) is stands opens = absurd (let e = other (Log t) stands.3 in cc)
    by_stage (Committing t) is stands opens = absurd (let e = other (Commit t) stands.3 in cc)
    by_stage (Homing t) is stands opens =
        absurd (let e = other (Home t) (let homes : AreHomes h t = stands.2 in homes.kinds) in cc)
    by_stage (Clearing t) is (inr none) opens = absurd (omega (arith, one, none))
    by_stage (Clearing t) is (inl stands) opens =
        let e : Clear u ≡ Clear t = other (Clear t) stands.2
        in let number : u.0 ≡ j.cleared + 1 = ap (λ kd. number_of kd) e ∙ stands.1
        in done_with w h k r (j.cleared + 1) f at j (omega arith)
        (subst (λ l. AreInARow (j.cleared + 1) l (seals h)) (sym same)
        (first_cleared (in_journal h) number most_of j.row))
        (subst (AtStage (h ▹ Done k r.id true) (j.cleared + 1)) (sym is)
        (inr (last_done (unfinished h) place.0 r place.1 commits_it (omega (arith, stands.0)))))
        (subst (IsOpenAt h j.base (j.cleared + 1)) (sym is) opens)
      where
        number_of : ReqKind → ℕ
        number_of (Clear v) = v.0
        number_of _ = 0

pub journal_done : (w : Workload) (h : List Event) (k : ℕ) (r : Request) → KnownRequests h
    → slice_get (in_flight h) k ≡ Some r → JournalKnown w h → JournalKnown w (h ▹ Done k r.id true)
journal_done w h k r f at j = by_kind r.kind refl
  where
    by_kind : (kd : ReqKind) → r.kind ≡ kd → JournalKnown w (h ▹ Done k r.id true)
    by_kind (Read p s g) kind = plain_done w h k r f at (λ t. rw kind refl) j
    by_kind (Pages s g) kind = plain_done w h k r f at (λ t. rw kind refl) j
    by_kind (Log u) kind = plain_done w h k r f at (λ t. rw kind refl) j
    by_kind (Commit u) kind = plain_done w h k r f at (λ t. rw kind refl) j
    by_kind (Home u) kind = plain_done w h k r f at (λ t. rw kind refl) j
    by_kind (Clear u) kind = clear_done w h k r u f at kind j
