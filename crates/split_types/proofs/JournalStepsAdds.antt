-- What is known of the journal, over the adds of its own requests, and so of every legal history.
use Rattle.std.proofs.Common.{◌≡◌, ℕ, ◌+◌, ◌<◌, ◌≤◌, List, [], ◌∷◌, ◌++◌, length, slice_get, filter, nat_lt, true, false, Some, refl, arith, subst, sym, inl, inr, ◌∙◌, ap}
use Rattle.std.proofs.lemmas.Bool.{both_ways, eq-eqb}
use Rattle.std.proofs.lemmas.Bool.Decides.{nat_tests}
use Rattle.split_types.specs.declared.ids.Txn.{Txn}
use Rattle.split_types.specs.declared.buf.Buf.{Buf}
use Rattle.split_types.specs.declared.actor.Actor.TheVariants.{Client, Wb, Cm}
use Rattle.split_types.specs.declared.request.ReqKind.{ReqKind}
use Rattle.split_types.specs.declared.request.ReqKind.TheVariants.{Read, Pages, Log, Commit, Home, Clear}
use Rattle.split_types.specs.declared.request.Request.{Request}
use Rattle.split_types.specs.declared.workload.Workload.{Workload}
use Rattle.split_types.specs.declared.event.Event.{Event}
use Rattle.split_types.specs.declared.event.Event.TheVariants.{Seal, Add, Send, Done}
use Rattle.split_types.specs.History.{◌▹◌, adds}
use Rattle.split_types.specs.Hooks.{maker}
use Rattle.split_types.specs.Parents.{metadata_buffers, home_block}
use Rattle.split_types.specs.Requests.{requests, unfinished}
use Rattle.split_types.specs.FileMaps.{is_committed}
use Rattle.split_types.specs.Rounds.{open_round, seals, last_txn}
use Rattle.split_types.specs.Transactions.{in_journal, oldest_in, brings_home, awaiting_at, awaits_home, next_home, is_of_commit, under_way, stage}
use Rattle.split_types.specs.Transactions.Stage.{Sealed, Logging, Homing, Clearing}
use Rattle.split_types.specs.Accepted.{IsAccepted}
use Rattle.split_types.specs.Legal.{IsLegal}
use Rattle.split_types.specs.Serving.{request_for}
use Rattle.split_types.specs.Proving.Came.{Came, Journals, IsLogOf, IsCommitOf, IsHomeOf, IsClearOf, MayGoHome, MayClear, journal_request, read_request}
use Rattle.split_types.specs.Proving.Came.MayGoHome.{home_first, home_next}
use Rattle.split_types.specs.Proving.Came.MayClear.{clear_first, clear_next}
use Rattle.split_types.specs.Proving.Came.Came.{came_load, came_add, came_seal, came_journal, came_send, came_done}
use Rattle.split_types.specs.Proving.Known.{KnownRequests}
use Rattle.split_types.specs.Proving.JournalKnown.{AreOfKind, AreHomes, AtStage, IsOpenAt, IsOfSealed, IsLastCommitted, JournalKnown}
use Rattle.split_types.proofs.CameLaws.{came}
use Rattle.split_types.proofs.Lists.{slice_get-push, find_there}
use Rattle.split_types.proofs.KeptLists.{case_true}
use Rattle.split_types.proofs.RequestLaws.{known_requests}
use Rattle.split_types.proofs.JournalRows.{row_place, row_most, row_length, journal_run, runs_journal, under_add, journal_none}
use Rattle.split_types.proofs.JournalSteps.{ordered_add, open_same, numbers_push, awaiting_none, IsOfPages, stands_same, last_same, journal_pages, journal_send}
use Rattle.split_types.proofs.JournalStepsDone.{journal_done, some_under_way}
use Rattle.split_types.proofs.JournalStepsSeal.{Rested, rested, journal_seal}

-- the history with one more request of the journal
abbrev pub with_request : List Event → ReqKind → ℕ → ℕ → List Event
with_request h kind first n = h ▹ Add Cm (journal_request (adds h) kind first n)

-- where none was under way, the new one is the only one
kinds_first : (left : List Request) (r : Request) → length (filter is_of_commit left) ≡ 0
    → AreOfKind r.kind (left ++ r ∷ [])
kinds_first left r none i q at commits = elim (slice_get-push left r i q at) [
  | inl old ↦ absurd (omega (arith, none, some_under_way left i q old commits))
  | inr this ↦ ap (λ x. x.kind) (sym this.1)
]

-- an add of the journal, once its stage is known
added_with : (w : Workload) (h : List Event) (kind : ReqKind) (first n : ℕ) → KnownRequests h → (j : JournalKnown w h)
    → Journals w h kind first n → IsOfSealed (seals h) kind
    → AtStage (with_request h kind first n) j.cleared (stage (with_request h kind first n))
    → IsOpenAt (with_request h kind first n) j.base j.cleared (stage (with_request h kind first n))
    → IsLastCommitted (with_request h kind first n) (stage (with_request h kind first n))
    → JournalKnown w (with_request h kind first n)
added_with w h kind first n f j next numbered stands opens last = record {
  cleared = j.cleared;
  base = j.base;
  row = j.row;
  slots = record { order = j.slots.order; room = j.slots.room; slot_is = j.slots.slot_is; open_is = opens };
  numbers = numbers_push (seals h) (requests h) (journal_request (adds h) kind first n) numbered j.numbers;
  runs =
      runs_journal w (requests h) (journal_request (adds h) kind first n)
      (journal_run w h (adds h) kind first n j next) j.runs;
  stands = stands;
  committed = j.committed;
  last = last;
  ordered = ordered_add h Cm (journal_request (adds h) kind first n) f refl j.ordered;
}

log_added : (w : Workload) (h : List Event) (t : Txn) (first n : ℕ) → KnownRequests h → JournalKnown w h
    → IsLogOf h t first n → JournalKnown w (with_request h (Log t) first n)
log_added w h t first n f j is =
    let at : AtStage h j.cleared (Sealed t is.buffers) = subst (AtStage h j.cleared) is.before j.stands
    in let round : IsOpenAt h j.base j.cleared (Sealed t is.buffers) =
    subst (IsOpenAt h j.base j.cleared) is.before j.slots.open_is
    in added_with w h (Log t) first n f j is (omega (arith, at.1, at.2), omega (arith, at.1)) (
      omega (arith, under_add (unfinished h) (journal_request (adds h) (Log t) first n) refl, at.0),
      at.1,
      at.2,
      kinds_first (unfinished h) (journal_request (adds h) (Log t) first n) at.0,
    )
    round tt

commit_added : (w : Workload) (h : List Event) (t : Txn) (first n : ℕ) → KnownRequests h → JournalKnown w h
    → IsCommitOf h t first n → JournalKnown w (with_request h (Commit t) first n)
commit_added w h t first n f j is =
    let at : AtStage h j.cleared (Logging t) = subst (AtStage h j.cleared) is.before j.stands
    in let round : IsOpenAt h j.base j.cleared (Logging t) =
    subst (IsOpenAt h j.base j.cleared) is.before j.slots.open_is
    in let more = under_add (unfinished h) (journal_request (adds h) (Commit t) first n) refl
    in added_with w h (Commit t) first n f j is (omega (arith, at.1, at.2), omega (arith, at.1)) (
      omega (arith, more, is.done),
      at.1,
      at.2,
      kinds_first (unfinished h) (journal_request (adds h) (Commit t) first n) is.done,
    )
    round (λ none. absurd (omega (arith, more, none)))

-- ---- home requests
-- what is known before a home request: some are in the journal, the last is committed, and what is under way goes home
pub record BeforeHome (h : List Event) (base cleared : ℕ) : Type 0 where
  pub some : cleared < seals h
  pub last : is_committed h (last_txn h) ≡ true
  pub round : (base ≡ cleared) × (cleared + length (open_round h) ≡ seals h)
  pub homes : AreHomes h (last_txn h)

same_txn : (t u : Txn) → t.0 ≡ u.0 → t ≡ u
same_txn t u e = ap (λ n. record { 0 = n }) e

no_homes : (h : List Event) (t : Txn) → under_way h ≡ 0 → AreHomes h t
no_homes h t none = record {
  kinds = λ i r at commits. absurd (omega (arith, none, some_under_way (unfinished h) i r at commits));
  none = λ i r b at brings. absurd (omega (arith, none, some_under_way (unfinished h) i r at (brought r b brings)));
  apart =
      λ i j q r at there first second same. absurd (omega (arith, none, some_under_way (unfinished h) i q at first));
  long = λ i r at commits. absurd (omega (arith, none, some_under_way (unfinished h) i r at commits));
}
  where
    by_kind : (r : Request) (kind : ReqKind) (b : Buf) → r.kind ≡ kind → brings_home r b ≡ true
        → is_of_commit r ≡ true
    by_kind r (Read p s g) b is brings = absurd (both_ways (brings_home r b) (rw is refl) brings)
    by_kind r (Pages s g) b is brings = absurd (both_ways (brings_home r b) (rw is refl) brings)
    by_kind r (Log t) b is brings = rw is refl
    by_kind r (Commit t) b is brings = rw is refl
    by_kind r (Home t) b is brings = rw is refl
    by_kind r (Clear t) b is brings = rw is refl

    brought : (r : Request) (b : Buf) → brings_home r b ≡ true → is_of_commit r ≡ true
    brought r b brings = by_kind r r.kind b refl brings

pub before_home : (w : Workload) (h : List Event) → MayGoHome w h → (j : JournalKnown w h) → BeforeHome h j.base j.cleared
before_home w h (home_first idle goes) j =
    let rest : Rested h j.base j.cleared = rested w h idle j
    in let used : 1 ≤ length (in_journal h) = grind (arith, nat_tests)
    in let long = row_length j.cleared (in_journal h) (seals h) j.row
    in record {
      some = omega (arith, used, long);
      last = rest.last (omega (arith, used, long));
      round = elim rest.round [
        | inl on ↦ on
        | inr anew ↦ absurd (omega (arith, used, ap length anew.0))
      ];
      homes = no_homes h (last_txn h) rest.none;
    }
before_home w h (home_next t is) j =
    let at : AtStage h j.cleared (Homing t) = subst (AtStage h j.cleared) is j.stands
    in let last : IsLastCommitted h (Homing t) = subst (IsLastCommitted h) is j.last
    in record {
      some = omega (arith, at.0, at.1);
      last = last;
      round = subst (IsOpenAt h j.base j.cleared) is j.slots.open_is;
      homes = subst (AreHomes h) (same_txn t (last_txn h) at.0) at.2;
    }

-- the buffer that goes home next awaits it
awaits_some : (h : List Event) (b : Buf) → next_home h ≡ Some b → awaiting_at h b ≡ [] → ⊥
awaits_some h b next none =
    let there = find_there (awaits_home h) metadata_buffers b next
    in both_ways (awaits_home h b) (ap (λ l. nat_lt 0 (length l)) none) there.2

homes_added : (h : List Event) (t : Txn) (first n : ℕ) (b : Buf) → AreHomes h t → next_home h ≡ Some b
    → first ≡ home_block b → n ≡ 1 → AreHomes (with_request h (Home t) first n) t
homes_added h t first n b homes next place long = record {
  kinds = kinds_of;
  none = none_of;
  apart = apart_of;
  long = long_of;
}
  where
    kinds_of : AreOfKind (Home t) (unfinished h ++ journal_request (adds h) (Home t) first n ∷ [])
    kinds_of i q at commits =
        elim (slice_get-push (unfinished h) (journal_request (adds h) (Home t) first n) i q at) [
          | inl old ↦ homes.kinds i q old commits
          | inr this ↦ ap (λ x. x.kind) (sym this.1)
        ]

    none_of : (i : ℕ) (q : Request) (c : Buf)
        → slice_get (unfinished h ++ journal_request (adds h) (Home t) first n ∷ []) i ≡ Some q
        → brings_home q c ≡ true → awaiting_at (with_request h (Home t) first n) c ≡ []
    none_of i q c at brings =
        elim (slice_get-push (unfinished h) (journal_request (adds h) (Home t) first n) i q at) [
          | inl old ↦
              awaiting_none h Cm (journal_request (adds h) (Home t) first n) c (homes.none i q c old brings)
          | inr this ↦
              case_true (brings_home (journal_request (adds h) (Home t) first n) c) [] (awaiting_at h c)
              (subst (λ x. brings_home x c ≡ true) (sym this.1) brings)
        ]

    -- no other unfinished one moves the same block
    alone : (i : ℕ) (q : Request) → slice_get (unfinished h) i ≡ Some q → is_of_commit q ≡ true → q.first ≡ first → ⊥
    alone i q at commits same = awaits_some h b next (homes.none i q b at (brings (homes.kinds i q at commits)))
      where
        brings : q.kind ≡ Home t → brings_home q b ≡ true
        brings kind = rw kind (eq-eqb q.first (home_block b) (same ∙ place))

    apart_of : (i j : ℕ) (p q : Request)
        → slice_get (unfinished h ++ journal_request (adds h) (Home t) first n ∷ []) i ≡ Some p
        → slice_get (unfinished h ++ journal_request (adds h) (Home t) first n ∷ []) j ≡ Some q
        → is_of_commit p ≡ true → is_of_commit q ≡ true → p.first ≡ q.first → i ≡ j
    apart_of i j p q at there one two same =
        elim (slice_get-push (unfinished h) (journal_request (adds h) (Home t) first n) i p at) [
          | inl old ↦ elim (slice_get-push (unfinished h) (journal_request (adds h) (Home t) first n) j q there) [
            | inl also ↦ homes.apart i j p q old also one two same
            | inr this ↦ absurd (alone i p old one (same ∙ ap (λ x. x.first) (sym this.1)))
          ]
          | inr this ↦ elim (slice_get-push (unfinished h) (journal_request (adds h) (Home t) first n) j q there) [
            | inl old ↦ absurd (alone j q old two (sym same ∙ ap (λ x. x.first) (sym this.1)))
            | inr also ↦ this.0 ∙ sym also.0
          ]
        ]

    long_of : (i : ℕ) (q : Request)
        → slice_get (unfinished h ++ journal_request (adds h) (Home t) first n ∷ []) i ≡ Some q
        → is_of_commit q ≡ true → q.n ≡ 1
    long_of i q at commits =
        elim (slice_get-push (unfinished h) (journal_request (adds h) (Home t) first n) i q at) [
          | inl old ↦ homes.long i q old commits
          | inr this ↦ ap (λ x. x.n) (sym this.1) ∙ long
        ]

home_added : (w : Workload) (h : List Event) (t : Txn) (first n : ℕ) → KnownRequests h → JournalKnown w h
    → IsHomeOf w h t first n → JournalKnown w (with_request h (Home t) first n)
home_added w h t first n f j is =
    let before : BeforeHome h j.base j.cleared = before_home w h is.before j
    in let number : t.0 ≡ seals h = ap (λ x. x.0) is.last
    in added_with w h (Home t) first n f j is
    (omega (arith, number, before.some), omega (arith, number)) (
      number,
      omega (arith, number, before.some),
      homes_added h t first n is.buffer (subst (AreHomes h) (sym is.last) before.homes) is.awaits is.place is.long,
    )
    before.round before.last

-- ---- clear requests
pub before_clear : (w : Workload) (h : List Event) → MayClear h → (j : JournalKnown w h)
    → (under_way h ≡ 0) × (is_committed h (last_txn h) ≡ true)
before_clear w h (clear_first t is home done) j =
    let last : IsLastCommitted h (Homing t) = subst (IsLastCommitted h) is j.last in (done, last)
before_clear w h (clear_next t is done) j =
    let last : IsLastCommitted h (Clearing t) = subst (IsLastCommitted h) is j.last in (done, last)

oldest_first : (ts : List Txn) (t : Txn) → oldest_in ts ≡ Some t → slice_get ts 0 ≡ Some t
oldest_first [] t is = absurd (cc)
oldest_first (u ∷ ts) t is = is

clear_added : (w : Workload) (h : List Event) (t : Txn) (first n : ℕ) → KnownRequests h → JournalKnown w h
    → IsClearOf h t first n → JournalKnown w (with_request h (Clear t) first n)
clear_added w h t first n f j is =
    let before = before_clear w h is.before j
    in let at = oldest_first (in_journal h) t is.oldest
    in let place = row_place j.cleared (in_journal h) (seals h) 0 t j.row at
    in let most = row_most j.cleared (in_journal h) (seals h) 0 t j.row at
    in added_with w h (Clear t) first n f j is (omega (arith, place), omega (arith, most))
    (inl (
      omega (arith, under_add (unfinished h) (journal_request (adds h) (Clear t) first n) refl, before.0),
      omega (arith, place),
      kinds_first (unfinished h) (journal_request (adds h) (Clear t) first n) before.0,
    ))
    refl before.1

pub journal_add : (w : Workload) (h : List Event) (kind : ReqKind) (first n : ℕ) → KnownRequests h → JournalKnown w h
    → Journals w h kind first n → JournalKnown w (with_request h kind first n)
journal_add w h (Read p s g) first n f j next = absurd (next)
journal_add w h (Pages s g) first n f j next = absurd (next)
journal_add w h (Log t) first n f j next = log_added w h t first n f j next
journal_add w h (Commit t) first n f j next = commit_added w h t first n f j next
journal_add w h (Home t) first n f j next = home_added w h t first n f j next
journal_add w h (Clear t) first n f j next = clear_added w h t first n f j next

-- ---- every legal history
of_pages : (h : List Event) (r : Request) → r.id.0 ≡ adds h → is_of_commit r ≡ false
    → IsOfPages h r
of_pages h r new none = by_kind r.kind refl
  where
    by_kind : (kd : ReqKind) → r.kind ≡ kd → IsOfPages h r
    by_kind (Read p s g) is = record {
      none = none;
      brings_none = λ b. rw is refl;
      stays = λ s. rw is refl;
      no_clear = rw is refl;
      numbered = λ n. rw is tt;
      new = new;
    }
    by_kind (Pages s g) is = record {
      none = none;
      brings_none = λ b. rw is refl;
      stays = λ s. rw is refl;
      no_clear = rw is refl;
      numbered = λ n. rw is tt;
      new = new;
    }
    by_kind (Log t) is = absurd (both_ways (is_of_commit r) none (rw is refl))
    by_kind (Commit t) is = absurd (both_ways (is_of_commit r) none (rw is refl))
    by_kind (Home t) is = absurd (both_ways (is_of_commit r) none (rw is refl))
    by_kind (Clear t) is = absurd (both_ways (is_of_commit r) none (rw is refl))

journal_next : (w : Workload) (h : List Event) (e : Event) → IsAccepted w → KnownRequests h → JournalKnown w h
    → Came w h e → JournalKnown w (h ▹ e)
journal_next w h (Add by r) accepted f j (came_load p c s piece here absent block at) =
    journal_pages w h (Client p) (read_request (adds h) p s piece.page block)
    (of_pages h (read_request (adds h) p s piece.page block) refl refl) f j
journal_next w h (Add by r) accepted f j (came_add run block at there placed long) =
    journal_pages w h Wb (request_for (adds h) run block)
    (of_pages h (request_for (adds h) run block) refl refl) f j
journal_next w h (Add by r) accepted f j (came_journal kind first n next) = journal_add w h kind first n f j next
journal_next w h (Send id cost) accepted f j (came_send r free picked) = journal_send w h r accepted f picked j
journal_next w h (Done k id ok) accepted f j (came_done i r at) = journal_done w h i r f at j
journal_next w h (Seal t k) accepted f j (came_seal may) = journal_seal w h may j
journal_next w h e accepted f j row = record {
  cleared = j.cleared;
  base = j.base;
  row = j.row;
  slots = record {
    order = j.slots.order;
    room = j.slots.room;
    slot_is = j.slots.slot_is;
    open_is = open_same h (h ▹ e) j.base j.cleared (stage h) refl refl j.slots.open_is;
  };
  numbers = j.numbers;
  runs = j.runs;
  stands =
      stands_same h (h ▹ e) j.cleared (stage h)
      (record { left = refl; sealed = refl; awaits = λ b. refl; settled = λ t. refl }) j.stands;
  committed = j.committed;
  last =
      last_same h (h ▹ e) (stage h)
      (record { left = refl; sealed = refl; awaits = λ b. refl; settled = λ t. refl }) j.last;
  ordered = j.ordered;
}

pub journal_known : (w : Workload) (h : List Event) → IsAccepted w → IsLegal w h → JournalKnown w h
journal_known w [] accepted legal = journal_none w
journal_known w (h ▹ e) accepted legal =
    journal_next w h e accepted (known_requests w h accepted legal.1) (journal_known w h accepted legal.1)
    (came w h (maker e) e legal.0)
