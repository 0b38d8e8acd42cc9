-- The requests of a transaction come in order.
use Rattle.std.proofs.Common.{◌≡◌, ℕ, ◌+◌, ◌*◌, ◌==◌, ◌<◌, ◌≤◌, List, [], ◌∷◌, ◌++◌, length, slice_get, find, map, nat_lt, Bool, true, false, ◌||◌, Option, Some, None, refl, arith, subst, sym, ap, inl, inr, ◌∙◌, IsTrue, if◌then◌else◌}
use Rattle.std.specs.List.{list_any}
use Rattle.std.proofs.lemmas.Bool.{cases_Bool, cases_lt, both_ways, or_left, or_right, cond-true, cond-false, eq-eqb}
use Rattle.split_types.specs.declared.ids.Txn.{Txn}
use Rattle.split_types.specs.declared.buf.Buf.{Buf}
use Rattle.split_types.specs.declared.actor.Actor.{Actor}
use Rattle.split_types.specs.declared.actor.Actor.TheVariants.{Cm}
use Rattle.split_types.specs.declared.request.ReqKind.{ReqKind}
use Rattle.split_types.specs.declared.request.ReqKind.TheVariants.{Read, Pages, Log, Commit, Home, Clear}
use Rattle.split_types.specs.declared.request.Request.{Request}
use Rattle.split_types.specs.declared.workload.Workload.{Workload}
use Rattle.split_types.specs.declared.event.Event.{Event}
use Rattle.split_types.specs.declared.event.Event.TheVariants.{Seal, Add}
use Rattle.split_types.specs.History.{◌▹◌, adds}
use Rattle.split_types.specs.Hooks.{maker}
use Rattle.split_types.specs.Parents.{metadata_buffers}
use Rattle.split_types.specs.Bills.{sealed}
use Rattle.split_types.specs.Requests.{requests}
use Rattle.split_types.specs.FileMaps.{is_committed}
use Rattle.split_types.specs.Rounds.{before_seal, seals, last_txn, slot_of_txn}
use Rattle.split_types.specs.Transactions.{in_journal, marked_buffers, awaits_home, awaiting_at, brings_home, next_home, under_way, stage, stage_of_add, Stage}
use Rattle.split_types.specs.Transactions.Stage.{Fresh, Sealed, Logging, Committing, Homing, Clearing}
use Rattle.split_types.specs.Accepted.{IsAccepted}
use Rattle.split_types.specs.Legal.{IsLegal}
use Rattle.split_types.specs.JournalPromises.{is_log_of, LogFollows, CommitFollows, HomeFollows, ClearFollows, Follows, JournalInOrder}
use Rattle.split_types.specs.Proving.Came.{Came, Journals, IsLogOf, IsCommitOf, IsHomeOf, IsClearOf, MayClear, journal_request}
use Rattle.split_types.specs.Proving.Came.MayClear.{clear_first, clear_next}
use Rattle.split_types.specs.Proving.Came.Came.{came_load, came_journal, came_add}
use Rattle.split_types.specs.Proving.JournalKnown.{AtStage, JournalKnown}
use Rattle.split_types.proofs.CameLaws.{came}
use Rattle.split_types.proofs.JournalRounds.{seal_is}
use Rattle.split_types.proofs.JournalRows.{row_place, row_most}
use Rattle.split_types.proofs.JournalStepsAdds.{before_home, before_clear, journal_known}

same_txn : (t u : Txn) → t.0 ≡ u.0 → t ≡ u
same_txn t u e = ap (λ n. record { 0 = n }) e

-- ---- the log was added
is_logged : (t u : Txn) (r : Request) → r.kind ≡ Log u → Logging u ≡ Logging t → is_log_of t r ≡ true
is_logged t u r kind same = rw kind (eq-eqb u.0 t.0 (cc))

logged_here : (t u : Txn) (rs : List Request) (r : Request) → r.kind ≡ Log u → Logging u ≡ Logging t
    → list_any (is_log_of t) (rs ++ r ∷ []) ≡ true
logged_here t u [] r kind same = or_left (is_log_of t r) false (is_logged t u r kind same)
logged_here t u (q ∷ rs) r kind same =
    or_right (is_log_of t q) (list_any (is_log_of t) (rs ++ r ∷ [])) (logged_here t u rs r kind same)

logged_still : (t : Txn) (rs : List Request) (r : Request) → list_any (is_log_of t) rs ≡ true
    → list_any (is_log_of t) (rs ++ r ∷ []) ≡ true
logged_still t [] r is = absurd (cc)
logged_still t (q ∷ rs) r is = elim (cases_Bool (is_log_of t q)) [
  | inl here ↦ or_left (is_log_of t q) (list_any (is_log_of t) (rs ++ r ∷ [])) here
  | inr other ↦
      or_right (is_log_of t q) (list_any (is_log_of t) (rs ++ r ∷ []))
      (logged_still t rs r (sym (ap (λ b. b || list_any (is_log_of t) rs) other) ∙ is))
]

logged_add : (h : List Event) (by : Actor) (r : Request) (kind : ReqKind) (t : Txn) → r.kind ≡ kind
    → (stage h ≡ Logging t → list_any (is_log_of t) (requests h) ≡ true)
    → stage_of_add kind (stage h) ≡ Logging t → list_any (is_log_of t) (requests h ++ r ∷ []) ≡ true
logged_add h by r (Read p s g) t kind old is = logged_still t (requests h) r (old is)
logged_add h by r (Pages s g) t kind old is = logged_still t (requests h) r (old is)
logged_add h by r (Log u) t kind old is = logged_here t u (requests h) r kind is
logged_add h by r (Commit u) t kind old is = absurd (cc)
logged_add h by r (Home u) t kind old is = absurd (cc)
logged_add h by r (Clear u) t kind old is = absurd (cc)

-- where the commit thread added a log last, it was added
logged : (h : List Event) (t : Txn) → stage h ≡ Logging t → list_any (is_log_of t) (requests h) ≡ true
logged [] t is = absurd (cc)
logged (h ▹ Seal u k) t is = absurd (cc)
logged (h ▹ Add by r) t is = logged_add h by r r.kind t refl (logged h t) is
logged (h ▹ e) t is = logged h t is

-- ---- a seal that came last took its buffers
sealed_long : (w : Workload) (h : List Event) (t : Txn) (k : ℕ) → IsLegal w h → stage h ≡ Sealed t k
    → length (sealed h t) ≡ k
sealed_long w [] t k legal is = absurd (cc)
sealed_long w (h ▹ Seal u n) t k legal is =
    let row = seal_is w h u n (came w h Cm (Seal u n) legal.0)
    in let same : u ≡ t = cc
    in let long : n ≡ k = cc
    in ap (λ l. length (marked_buffers l))
    (cond-true (u.0 == t.0) h (before_seal h t) (eq-eqb u.0 t.0 (ap (λ x. x.0) same))) ∙ sym row.takes ∙ long
sealed_long w (h ▹ Add by r) t k legal is = by_kind r.kind is (sealed_long w h t k legal.1)
  where
    by_kind : (kind : ReqKind) → stage_of_add kind (stage h) ≡ Sealed t k
        → (stage h ≡ Sealed t k → length (sealed h t) ≡ k) → length (sealed h t) ≡ k
    by_kind (Read p s g) same old = old same
    by_kind (Pages s g) same old = old same
    by_kind (Log u) same old = absurd (cc)
    by_kind (Commit u) same old = absurd (cc)
    by_kind (Home u) same old = absurd (cc)
    by_kind (Clear u) same old = absurd (cc)
sealed_long w (h ▹ e) t k legal is = sealed_long w h t k legal.1 is

-- ---- where clear requests are added, no buffer awaits its home
same_find : (p q : Buf → Bool) (bs : List Buf) → ((b : Buf) → p b ≡ q b) → find p bs ≡ find q bs
same_find p q [] same = refl
same_find p q (b ∷ bs) same = rw (same b) (rw (same_find p q bs same) refl)

no_home_add : (h : List Event) (by : Actor) (r : Request) → ((b : Buf) → brings_home r b ≡ false)
    → next_home (h ▹ Add by r) ≡ next_home h
no_home_add h by r none =
    same_find (awaits_home (h ▹ Add by r)) (awaits_home h) metadata_buffers
    (λ b. ap (λ x. nat_lt 0 (length {A = ℕ} (elim x [ true ↦ [] | false ↦ awaiting_at h b ]))) (none b))

brings_none : (r : Request) (kind : ReqKind) (b : Buf) → r.kind ≡ kind → (stage_of_add kind Fresh ≡ Fresh)
    → brings_home r b ≡ false
brings_none r (Read p s g) b kind is = rw kind refl
brings_none r (Pages s g) b kind is = rw kind refl
brings_none r (Log t) b kind is = absurd (cc)
brings_none r (Commit t) b kind is = absurd (cc)
brings_none r (Home t) b kind is = absurd (cc)
brings_none r (Clear t) b kind is = absurd (cc)

clearing_add : (w : Workload) (h : List Event) (by : Actor) (r : Request) (t : Txn) → Came w h (Add by r)
    → ((u : Txn) → stage h ≡ Clearing u → next_home h ≡ None) → stage_of_add r.kind (stage h) ≡ Clearing t
    → next_home (h ▹ Add by r) ≡ None
clearing_add w h by r t (came_load p c s piece here absent block at) old is =
    no_home_add h by r (λ b. refl) ∙ old t is
clearing_add w h by r t (came_add run block at there placed long) old is = no_home_add h by r (λ b. refl) ∙ old t is
clearing_add w h by r t (came_journal kind first n j) old is = by_kind kind j is
  where
    by_kind : (k : ReqKind) → Journals w h k first n → stage_of_add k (stage h) ≡ Clearing t
        → next_home (h ▹ Add Cm (journal_request (adds h) k first n)) ≡ None
    by_kind (Read p s g) j same = elim j [ ]
    by_kind (Pages s g) j same = elim j [ ]
    by_kind (Log u) j same = absurd (cc)
    by_kind (Commit u) j same = absurd (cc)
    by_kind (Home u) j same = absurd (cc)
    by_kind (Clear u) j same =
        no_home_add h Cm (journal_request (adds h) (Clear u) first n) (λ b. refl) ∙ all_home j.before
      where
        all_home : MayClear h → next_home h ≡ None
        all_home (clear_first v at home done) = home
        all_home (clear_next v at done) = old v at

clearing : (w : Workload) (h : List Event) (t : Txn) → IsLegal w h → stage h ≡ Clearing t → next_home h ≡ None
clearing w [] t legal is = absurd (cc)
clearing w (h ▹ Seal u k) t legal is = absurd (cc)
clearing w (h ▹ Add by r) t legal is =
    clearing_add w h by r t (came w h (maker (Add by r)) (Add by r) legal.0) (λ u at. clearing w h u legal.1 at) is
clearing w (h ▹ e) t legal is = clearing w h t legal.1 is

all_are_home : (w : Workload) (h : List Event) → IsLegal w h → MayClear h → next_home h ≡ None
all_are_home w h legal (clear_first t at home done) = home
all_are_home w h legal (clear_next t at done) = clearing w h t legal at

-- ---- each kind
log_follows : (w : Workload) (h : List Event) (t : Txn) (first n : ℕ) → IsLegal w h → JournalKnown w h
    → IsLogOf h t first n → LogFollows h t first n
log_follows w h t first n legal j is =
    let at : AtStage h j.cleared (Sealed t is.buffers) = subst (AtStage h j.cleared) is.before j.stands
    in let last : t ≡ last_txn h = same_txn t (last_txn h) at.1
    in record {
      last = last;
      place = is.place ∙ ap (λ u. 262 + 264 * slot_of_txn h u) (sym last);
      long = is.long ∙ ap (λ k. k + 1) (sym (sealed_long w h t is.buffers legal is.before));
    }

commit_follows : (w : Workload) (h : List Event) (t : Txn) (first n : ℕ) → JournalKnown w h → IsCommitOf h t first n
    → CommitFollows h t first n
commit_follows w h t first n j is =
    let at : AtStage h j.cleared (Logging t) = subst (AtStage h j.cleared) is.before j.stands
    in let last : t ≡ last_txn h = same_txn t (last_txn h) at.1
    in record {
      last = last;
      logged = logged h t is.before;
      done = is.done;
      place = is.place ∙ ap (λ u. 525 + 264 * slot_of_txn h u) (sym last);
      long = is.long;
    }

home_follows : (w : Workload) (h : List Event) (t : Txn) (first n : ℕ) → (j : JournalKnown w h)
    → IsHomeOf w h t first n → HomeFollows h t first n
home_follows w h t first n j is =
    let before = before_home w h is.before j
    in record {
      last = is.last;
      committed = λ i u at. committed_of i u at before.last;
      buffer = is.buffer;
      least = is.awaits;
      place = is.place;
      long = is.long;
    }
  where
    committed_of : (i : ℕ) (u : Txn) → slice_get (in_journal h) i ≡ Some u → is_committed h (last_txn h) ≡ true
        → is_committed h u ≡ true
    committed_of i u at last =
        let place = row_place j.cleared (in_journal h) (seals h) i u j.row at
        in let most = row_most j.cleared (in_journal h) (seals h) i u j.row at
        in elim (cases_lt u.0 (seals h)) [
          | inl below ↦ j.committed u (omega (arith, place)) below
          | inr beyond ↦
              subst (λ x. is_committed h x ≡ true)
              (same_txn (last_txn h) u (omega (arith, beyond, most))) last
        ]

clear_follows : (w : Workload) (h : List Event) (t : Txn) (first n : ℕ) → IsLegal w h → JournalKnown w h
    → IsClearOf h t first n → ClearFollows h t first n
clear_follows w h t first n legal j is = record {
  oldest = is.oldest;
  home = all_are_home w h legal is.before;
  done = (before_clear w h is.before j).0;
  place = is.place;
  long = is.long;
}

follows : (w : Workload) (h : List Event) (kind : ReqKind) (first n : ℕ) → IsAccepted w → IsLegal w h
    → Journals w h kind first n → Follows h kind first n
follows w h (Read p s g) first n accepted legal j = elim j [ ]
follows w h (Pages s g) first n accepted legal j = elim j [ ]
follows w h (Log t) first n accepted legal j = log_follows w h t first n legal (journal_known w h accepted legal) j
follows w h (Commit t) first n accepted legal j = commit_follows w h t first n (journal_known w h accepted legal) j
follows w h (Home t) first n accepted legal j = home_follows w h t first n (journal_known w h accepted legal) j
follows w h (Clear t) first n accepted legal j =
    clear_follows w h t first n legal (journal_known w h accepted legal) j

came_follows : (w : Workload) (h : List Event) (r : Request) → IsAccepted w → IsLegal w h → Came w h (Add Cm r)
    → Follows h r.kind r.first r.n
came_follows w h r accepted legal (came_journal kind first n j) = follows w h kind first n accepted legal j

pub journal_in_order : JournalInOrder
journal_in_order w h r accepted legal =
    came_follows w h r accepted legal.1 (came w h Cm (Add Cm r) legal.0)
