-- What is known of the journal, over the rows that leave it as it is: those of clients and of writeback, and sends.
use Rattle.std.proofs.Common.{◌≡◌, ℕ, ◌+◌, List, [], ◌∷◌, ◌++◌, length, slice_get, filter, Bool, true, false, not, ◌&&◌, ◌⊎◌, Some, refl, arith, subst, sym, inl, inr, ◌∙◌, ap, cond, if◌then◌else◌}
use Rattle.std.specs.List.{list_any}
use Rattle.std.proofs.lemmas.Bool.{cases_Bool, both_ways, and_parts, and_from, not_from_false, not_from_true, eqb-true}
use Rattle.std.proofs.lemmas.List.Sums.{length-filter}
use Rattle.std.proofs.lemmas.Option.{slice_get_within}
use Rattle.split_types.specs.declared.ids.Txn.{Txn}
use Rattle.split_types.specs.declared.buf.Buf.{Buf}
use Rattle.split_types.specs.declared.actor.Actor.{Actor}
use Rattle.split_types.specs.declared.request.ReqKind.{ReqKind}
use Rattle.split_types.specs.declared.request.ReqKind.TheVariants.{Log, Commit, Home, Clear}
use Rattle.split_types.specs.declared.request.Request.{Request}
use Rattle.split_types.specs.declared.workload.Workload.{Workload}
use Rattle.split_types.specs.declared.event.Event.{Event}
use Rattle.split_types.specs.declared.event.Event.TheVariants.{Add}
use Rattle.split_types.specs.History.{◌▹◌, adds}
use Rattle.split_types.specs.Requests.{is_numbered, is_pages, requests, queued, unfinished}
use Rattle.split_types.specs.Rounds.{before_seal, is_clear, open_round, seals, last_txn}
use Rattle.split_types.specs.FileMaps.{is_committed}
use Rattle.split_types.specs.Schedulers.{is_data_done, pick}
use Rattle.split_types.specs.Transactions.{is_of_commit, under_way, awaiting_at, brings_home, stage, stage_of_add, Stage}
use Rattle.split_types.specs.Transactions.Stage.{Fresh, Sealed, Logging, Committing, Homing, Clearing}
use Rattle.split_types.specs.Next.{send_of}
use Rattle.split_types.specs.Accepted.{IsAccepted}
use Rattle.split_types.specs.Proving.Known.{KnownRequests}
use Rattle.split_types.specs.Proving.JournalKnown.{AreOfKind, AreHomes, AtStage, IsOpenAt, IsOfSealed, IsLastCommitted, JournalKnown}
use Rattle.split_types.proofs.Lists.{slice_get-push, slice_get-push_old, slice_get-push_new, find_some, list_any_here, count_push}
use Rattle.split_types.proofs.KeptLists.{in_filter, any_push}
use Rattle.split_types.proofs.WaitingLaws.{same_number}
use Rattle.split_types.proofs.CommitLaws.{before_there, picked_data}
use Rattle.split_types.proofs.RequestLaws.{picked_there}
use Rattle.split_types.proofs.JournalRows.{runs_pages}

-- ---- data that is done stays so where no more of some requests are unfinished
pub data_kept : (some left more : List Request)
    → ((i : ℕ) (q : Request) → slice_get some i ≡ Some q → list_any (is_numbered q.id) more ≡ true
    → list_any (is_numbered q.id) left ≡ true)
    → not (list_any (λ r. is_pages r && list_any (is_numbered r.id) left) some) ≡ true
    → not (list_any (λ r. is_pages r && list_any (is_numbered r.id) more) some) ≡ true
data_kept some left more was done = elim (cases_Bool (list_any test some)) [
  | inr none ↦ not_from_false (list_any test some) none
  | inl any ↦
      (let f = find_some test some any
      in let parts = and_parts (is_pages f.element) (list_any (is_numbered f.element.id) more) f.passes
      in let before = list_any_here (λ r. is_pages r && list_any (is_numbered r.id) left) some f.place f.element f.there
      (and_from (is_pages f.element) (list_any (is_numbered f.element.id) left) parts.0
      (was f.place f.element f.there parts.1))
      in absurd (both_ways (not (list_any (λ r. is_pages r && list_any (is_numbered r.id) left) some))
      (not_from_true (list_any (λ r. is_pages r && list_any (is_numbered r.id) left) some) before) done))
]
  where
    test : Request → Bool
    test r = is_pages r && list_any (is_numbered r.id) more

pub data_add : (h : List Event) (by : Actor) (r : Request) (t : Txn) → KnownRequests h → r.id.0 ≡ adds h
    → is_data_done h t ≡ true → is_data_done (h ▹ Add by r) t ≡ true
data_add h by r t f new done = data_kept (requests (before_seal h t)) (unfinished h) (unfinished h ++ r ∷ []) was done
  where
    was : (i : ℕ) (q : Request) → slice_get (requests (before_seal h t)) i ≡ Some q
        → list_any (is_numbered q.id) (unfinished h ++ r ∷ []) ≡ true
        → list_any (is_numbered q.id) (unfinished h) ≡ true
    was i q at any = elim (any_push (is_numbered q.id) (unfinished h) r any) [
      | inl old ↦ old
      | inr this ↦
          (let there = before_there h t i q at
          in absurd (omega (
            arith,
            new,
            eqb-true r.id.0 q.id.0 this,
            f.numbered.number_is i q there,
            f.numbered.counted,
            slice_get_within (requests h) i q there,
          )))
    ]

-- ---- where each commit request that was sent has its data done
abbrev pub AreOrdered : List Event → Type 0
AreOrdered h =
    (i : ℕ) (r : Request) (t : Txn) → slice_get (requests h) i ≡ Some r → r.kind ≡ Commit t
    → ((k : ℕ) × (slice_get (queued h) k ≡ Some r)) ⊎ (is_data_done h t ≡ true)

pub ordered_add : (h : List Event) (by : Actor) (r : Request) → KnownRequests h → r.id.0 ≡ adds h → AreOrdered h
    → AreOrdered (h ▹ Add by r)
ordered_add h by r f new ordered i q t at kind = elim (slice_get-push (requests h) r i q at) [
  | inl old ↦ elim (ordered i q t old kind) [
    | inl waits ↦ inl (waits.0, slice_get-push_old (queued h) r waits.0 q waits.1)
    | inr done ↦ inr (data_add h by r t f new done)
  ]
  | inr this ↦ inl (subst (λ x. (k : ℕ) × (slice_get (queued h ++ r ∷ []) k ≡ Some x)) this.1 (newest (queued h) r))
]
  where
    newest : (xs : List Request) (x : Request) → (k : ℕ) × (slice_get (xs ++ x ∷ []) k ≡ Some x)
    newest xs x = (length xs, slice_get-push_new xs x)

ordered_send : (w : Workload) (h : List Event) (p : Request) → IsAccepted w → KnownRequests h → pick w h ≡ Some p
    → AreOrdered h → AreOrdered (h ▹ send_of h p)
ordered_send w h p accepted f picked ordered i q t at kind = elim (ordered i q t at kind) [
  | inr done ↦ inr done
  | inl waits ↦ elim (cases_Bool (is_numbered p.id q)) [
    | inr other ↦
        inl (in_filter (λ r. not (is_numbered p.id r)) (queued h) waits.0 q waits.1
        (not_from_false (is_numbered p.id q) other))
    | inl own ↦
        (let there = picked_there w h p accepted picked
        in let same : q ≡ p = same_number (requests h) (queued h) waits.0 q p f.waiting.queue_of waits.1
        (f.waiting.queue_of there.0 p there.1) own
        in inr (picked_data w h p t accepted picked (subst (λ x. x.kind ≡ Commit t) same kind)))
  ]
]

-- ---- a request that is no one of the commit thread
pub record IsOfPages (h : List Event) (r : Request) : Type 0 where
  pub none : is_of_commit r ≡ false
  pub brings_none : (b : Buf) → brings_home r b ≡ false
  pub stays : (s : Stage) → stage_of_add r.kind s ≡ s
  pub no_clear : is_clear r ≡ false
  pub numbered : (n : ℕ) → IsOfSealed n r.kind
  pub new : r.id.0 ≡ adds h

under_pages : (left : List Request) (r : Request) → is_of_commit r ≡ false
    → length (filter is_of_commit (left ++ r ∷ [])) ≡ length (filter is_of_commit left)
under_pages left r none =
    omega (
      arith,
      length-filter is_of_commit (left ++ r ∷ []),
      length-filter is_of_commit left,
      count_push is_of_commit left r,
      zero_of (is_of_commit r) none,
    )
  where
    zero_of : (b : Bool) → b ≡ false → ◌≡◌ {A = ℕ} (cond b 1 0) 0
    zero_of b is = rw is refl

-- what stands among some requests and one of pages, and is of the commit thread, stands among the others
old_pages : (left : List Request) (r : Request) (i : ℕ) (q : Request) → is_of_commit r ≡ false
    → slice_get (left ++ r ∷ []) i ≡ Some q → is_of_commit q ≡ true → slice_get left i ≡ Some q
old_pages left r i q none at commits = elim (slice_get-push left r i q at) [
  | inl old ↦ old
  | inr this ↦
      absurd (both_ways (is_of_commit q) (subst (λ x. is_of_commit x ≡ false) this.1 none) commits)
]

pub awaiting_none : (h : List Event) (by : Actor) (r : Request) (b : Buf) → awaiting_at h b ≡ []
    → awaiting_at (h ▹ Add by r) b ≡ []
awaiting_none h by r b none = by_test (brings_home r b)
  where
    by_test : (t : Bool) → ◌≡◌ {A = List ℕ} (elim t [ true ↦ [] | false ↦ awaiting_at h b ]) []
    by_test true = refl
    by_test false = none

homes_pages : (h : List Event) (by : Actor) (r : Request) (t : Txn) → IsOfPages h r → AreHomes h t
    → AreHomes (h ▹ Add by r) t
homes_pages h by r t is homes = record {
  kinds = λ i q at commits. homes.kinds i q (old_pages (unfinished h) r i q is.none at commits) commits;
  none = λ i q b at brings. none_of i q b at brings;
  apart =
      λ i j p q at there first second same. homes.apart i j p q
      (old_pages (unfinished h) r i p is.none at first) (old_pages (unfinished h) r j q is.none there second)
      first second same;
  long = λ i q at commits. homes.long i q (old_pages (unfinished h) r i q is.none at commits) commits;
}
  where
    none_of : (i : ℕ) (q : Request) (b : Buf) → slice_get (unfinished h ++ r ∷ []) i ≡ Some q
        → brings_home q b ≡ true → awaiting_at (h ▹ Add by r) b ≡ []
    none_of i q b at brings = elim (slice_get-push (unfinished h) r i q at) [
      | inl old ↦ awaiting_none h by r b (homes.none i q b old brings)
      | inr this ↦
          absurd (both_ways (brings_home q b) (subst (λ x. brings_home x b ≡ false) this.1 (is.brings_none b)) brings)
    ]

stands_pages : (h : List Event) (by : Actor) (r : Request) (cleared : ℕ) (s : Stage) → IsOfPages h r
    → AtStage h cleared s → AtStage (h ▹ Add by r) cleared s
stands_pages h by r cleared s is at = by_stage s at
  where
    same : under_way (h ▹ Add by r) ≡ under_way h
    same = under_pages (unfinished h) r is.none

    kinds_of : (kind : ReqKind) → AreOfKind kind (unfinished h) → AreOfKind kind (unfinished h ++ r ∷ [])
    kinds_of kind kinds i q there commits =
        kinds i q (old_pages (unfinished h) r i q is.none there commits) commits

    by_stage : (s : Stage) → AtStage h cleared s → AtStage (h ▹ Add by r) cleared s
    by_stage Fresh at = (same ∙ at.0, at.1)
    by_stage (Sealed t k) at = (same ∙ at.0, at.1, at.2, at.3, at.4)
    by_stage (Logging t) at = (omega (arith, same, at.0), at.1, at.2, kinds_of (Log t) at.3)
    by_stage (Committing t) at = (omega (arith, same, at.0), at.1, at.2, kinds_of (Commit t) at.3)
    by_stage (Homing t) at = (at.0, at.1, homes_pages h by r t is at.2)
    by_stage (Clearing t) (inl at) = inl (same ∙ at.0, at.1, kinds_of (Clear t) at.2)
    by_stage (Clearing t) (inr at) = inr (same ∙ at)

last_pages : (h : List Event) (by : Actor) (r : Request) (s : Stage) → IsOfPages h r → IsLastCommitted h s
    → IsLastCommitted (h ▹ Add by r) s
last_pages h by r Fresh is last = tt
last_pages h by r (Sealed t k) is last = tt
last_pages h by r (Logging t) is last = tt
last_pages h by r (Committing t) is last = λ none. last (sym (under_pages (unfinished h) r is.none) ∙ none)
last_pages h by r (Homing t) is last = last
last_pages h by r (Clearing t) is last = last

pub open_same : (h g : List Event) (base cleared : ℕ) (s : Stage) → open_round g ≡ open_round h → seals g ≡ seals h
    → IsOpenAt h base cleared s → IsOpenAt g base cleared s
open_same h g base cleared Fresh same count is = (is.0, omega (arith, ap length same, count, is.1))
open_same h g base cleared (Sealed t k) same count is = (is.0, omega (arith, ap length same, count, is.1))
open_same h g base cleared (Logging t) same count is = (is.0, omega (arith, ap length same, count, is.1))
open_same h g base cleared (Committing t) same count is = (is.0, omega (arith, ap length same, count, is.1))
open_same h g base cleared (Homing t) same count is = (is.0, omega (arith, ap length same, count, is.1))
open_same h g base cleared (Clearing t) same count is = same ∙ is

pub numbers_push : (n : ℕ) (all : List Request) (r : Request) → IsOfSealed n r.kind
    → ((i : ℕ) (q : Request) → slice_get all i ≡ Some q → IsOfSealed n q.kind)
    → (i : ℕ) (q : Request) → slice_get (all ++ r ∷ []) i ≡ Some q → IsOfSealed n q.kind
numbers_push n all r new old i q at = elim (slice_get-push all r i q at) [
  | inl before ↦ old i q before
  | inr this ↦ subst (λ x. IsOfSealed n x.kind) this.1 new
]

pub journal_pages : (w : Workload) (h : List Event) (by : Actor) (r : Request) → IsOfPages h r → KnownRequests h
    → JournalKnown w h → JournalKnown w (h ▹ Add by r)
journal_pages w h by r is f j = record {
  cleared = j.cleared;
  base = j.base;
  row = j.row;
  slots = record {
    order = j.slots.order;
    room = j.slots.room;
    slot_is = j.slots.slot_is;
    open_is =
        subst (IsOpenAt (h ▹ Add by r) j.base j.cleared) (sym (is.stays (stage h)))
        (open_same h (h ▹ Add by r) j.base j.cleared (stage h)
        (case_none (is_clear r) is.no_clear) refl j.slots.open_is);
  };
  numbers = numbers_push (seals h) (requests h) r (is.numbered (seals h)) j.numbers;
  runs = runs_pages w (requests h) r is.none j.runs;
  stands =
      subst (AtStage (h ▹ Add by r) j.cleared) (sym (is.stays (stage h)))
      (stands_pages h by r j.cleared (stage h) is j.stands);
  committed = j.committed;
  last =
      subst (IsLastCommitted (h ▹ Add by r)) (sym (is.stays (stage h))) (last_pages h by r (stage h) is j.last);
  ordered = ordered_add h by r f is.new j.ordered;
}
  where
    case_none : (b : Bool) → b ≡ false → (if b then [] else open_round h) ≡ open_round h
    case_none b none = rw none refl

-- ---- events after which the same requests are unfinished
-- what a stage gives speaks of nothing else
pub record IsSame (h g : List Event) : Type 0 where
  pub left : unfinished g ≡ unfinished h
  pub sealed : seals g ≡ seals h
  pub awaits : (b : Buf) → awaiting_at g b ≡ awaiting_at h b
  pub settled : (t : Txn) → is_committed g t ≡ is_committed h t

homes_same : (h g : List Event) (t : Txn) → IsSame h g → AreHomes h t → AreHomes g t
homes_same h g t is homes = record {
  kinds = subst (AreOfKind (Home t)) (sym is.left) homes.kinds;
  none = λ i r b at brings. is.awaits b ∙ homes.none i r b (was i r at) brings;
  apart =
      λ i j q r at there first second same. homes.apart i j q r (was i q at) (was j r there) first second same;
  long = λ i r at commits. homes.long i r (was i r at) commits;
}
  where
    was : (i : ℕ) (r : Request) → slice_get (unfinished g) i ≡ Some r → slice_get (unfinished h) i ≡ Some r
    was i r at = subst (λ l. slice_get l i ≡ Some r) is.left at

pub stands_same : (h g : List Event) (cleared : ℕ) (s : Stage) → IsSame h g → AtStage h cleared s
    → AtStage g cleared s
stands_same h g cleared s is at = by_stage s at
  where
    same : under_way g ≡ under_way h
    same = ap (λ l. length (filter is_of_commit l)) is.left

    kinds_of : (kind : ReqKind) → AreOfKind kind (unfinished h) → AreOfKind kind (unfinished g)
    kinds_of kind kinds = subst (AreOfKind kind) (sym is.left) kinds

    by_stage : (s : Stage) → AtStage h cleared s → AtStage g cleared s
    by_stage Fresh at = (same ∙ at.0, is.sealed ∙ at.1)
    by_stage (Sealed t k) at = (same ∙ at.0, at.1 ∙ sym is.sealed, at.2, at.3, at.4)
    by_stage (Logging t) at = (omega (arith, same, at.0), at.1 ∙ sym is.sealed, at.2, kinds_of (Log t) at.3)
    by_stage (Committing t) at = (omega (arith, same, at.0), at.1 ∙ sym is.sealed, at.2, kinds_of (Commit t) at.3)
    by_stage (Homing t) at = (at.0 ∙ sym is.sealed, at.1, homes_same h g t is at.2)
    by_stage (Clearing t) (inl at) = inl (same ∙ at.0, at.1, kinds_of (Clear t) at.2)
    by_stage (Clearing t) (inr at) = inr (same ∙ at)

pub last_same : (h g : List Event) (s : Stage) → IsSame h g → IsLastCommitted h s → IsLastCommitted g s
last_same h g s is last = by_stage s last
  where
    newest : is_committed h (last_txn h) ≡ true → is_committed g (last_txn g) ≡ true
    newest old =
        ap (λ n. is_committed g (record { 0 = n })) is.sealed ∙ is.settled (last_txn h) ∙ old

    by_stage : (s : Stage) → IsLastCommitted h s → IsLastCommitted g s
    by_stage Fresh last = tt
    by_stage (Sealed t k) last = tt
    by_stage (Logging t) last = tt
    by_stage (Committing t) last =
        λ none. is.settled t ∙ last (sym (ap (λ l. length (filter is_of_commit l)) is.left) ∙ none)
    by_stage (Homing t) last = newest last
    by_stage (Clearing t) last = newest last

pub journal_send : (w : Workload) (h : List Event) (p : Request) → IsAccepted w → KnownRequests h → pick w h ≡ Some p
    → JournalKnown w h → JournalKnown w (h ▹ send_of h p)
journal_send w h p accepted f picked j = record {
  cleared = j.cleared;
  base = j.base;
  row = j.row;
  slots = record {
    order = j.slots.order;
    room = j.slots.room;
    slot_is = j.slots.slot_is;
    open_is = open_same h (h ▹ send_of h p) j.base j.cleared (stage h) refl refl j.slots.open_is;
  };
  numbers = j.numbers;
  runs = j.runs;
  stands = stands_same h (h ▹ send_of h p) j.cleared (stage h) is j.stands;
  committed = j.committed;
  last = last_same h (h ▹ send_of h p) (stage h) is j.last;
  ordered = ordered_send w h p accepted f picked j.ordered;
}
  where
    is : IsSame h (h ▹ send_of h p)
    is = record { left = refl; sealed = refl; awaits = λ b. refl; settled = λ t. refl }
