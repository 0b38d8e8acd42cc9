-- Where the transactions of a legal history were sealed, and which seals took what goes home next.
use Rattle.std.proofs.Common.{◌≡◌, ℕ, ◌+◌, ◌==◌, ◌≤◌, List, [], ◌∷◌, length, slice_get, nat_lt, Bool, true, false, not, ◌&&◌, Option, Some, None, refl, arith, subst, sym, inl, inr, ◌∙◌, ap}
use Rattle.std.proofs.lemmas.Bool.{and_from, and_parts, both_ways, cases_Bool, cond-true, cond-false, or_cases, or_left, or_right, eq-eqb, eqb-true}
use Rattle.std.proofs.lemmas.Bool.Decides.{nat_tests}
use Rattle.split_types.specs.declared.ids.Txn.{Txn}
use Rattle.split_types.specs.declared.actor.Actor.{Actor}
use Rattle.split_types.specs.declared.actor.Actor.TheVariants.{Cm}
use Rattle.split_types.specs.declared.buf.Buf.{Buf}
use Rattle.split_types.specs.declared.buf.Buf.TheVariants.{Page, Bitmap, Dir, Inode}
use Rattle.split_types.specs.declared.request.ReqKind.{ReqKind}
use Rattle.split_types.specs.declared.request.ReqKind.TheVariants.{Read, Pages, Log, Commit, Home, Clear}
use Rattle.split_types.specs.declared.request.Request.{Request}
use Rattle.split_types.specs.declared.workload.Workload.{Workload}
use Rattle.split_types.specs.declared.event.Event.{Event}
use Rattle.split_types.specs.declared.event.Event.TheVariants.{Seal, Add, Done}
use Rattle.split_types.specs.History.{◌▹◌, adds}
use Rattle.split_types.specs.Hooks.{maker}
use Rattle.split_types.specs.OpenDirtyings.{open_at}
use Rattle.split_types.specs.Parents.{metadata_buffers, buffer_at, home_block}
use Rattle.split_types.specs.Reads.{request_numbered}
use Rattle.split_types.specs.Rounds.{seal_place, seals, last_txn, is_clear, open_round, round_of}
use Rattle.split_types.specs.Sets.{has}
use Rattle.split_types.specs.ByPlace.{IsMetadata}
use Rattle.split_types.specs.Transactions.{in_journal, oldest_in, clears, marked_buffers, brings_home, awaiting_at, awaits_home, next_home, stage, stage_of_add, Stage}
use Rattle.split_types.specs.Transactions.Stage.{Sealed, Logging, Clearing}
use Rattle.split_types.specs.Legal.{IsLegal}
use Rattle.split_types.specs.Proving.Came.{Came, MaySeal, MayClear, Journals, journal_request}
use Rattle.split_types.specs.Proving.Came.MayClear.{clear_first, clear_next}
use Rattle.split_types.specs.Proving.Came.Came.{came_load, came_seal, came_journal, came_add}
use Rattle.split_types.proofs.CameLaws.{came}
use Rattle.split_types.proofs.Lists.{slice_get-push, filter_there, find_some, find_there, list_any_here}
use Rattle.split_types.proofs.Members.{has-append}
use Rattle.split_types.proofs.Parents.{any_metadata, metadata_any}
use Rattle.split_types.proofs.RoundLaws.{any_of}

-- ---- the numbers of transactions
-- the transaction is one of those that were sealed
pub record WasSealed (h : List Event) (t : Txn) : Type 0 where
  pub least : 1 ≤ t.0
  pub most : t.0 ≤ seals h

sealed_still : (h l : List Event) (t : Txn) → seals h ≤ seals l → WasSealed h t → WasSealed l t
sealed_still h l t more s = record { least = s.least; most = omega (arith, s.most) }

-- a seal is of the next transaction, and takes all that is marked
pub record IsSealOf (w : Workload) (h : List Event) (t : Txn) (k : ℕ) : Type 0 where
  pub txn : t.0 ≡ seals h + 1
  pub takes : k ≡ length (marked_buffers h)
  pub may : MaySeal w h

pub seal_is : (w : Workload) (h : List Event) (t : Txn) (k : ℕ) → Came w h (Seal t k) → IsSealOf w h t k
seal_is w h t k (came_seal may) = record { txn = refl; takes = refl; may = may }

-- each transaction that was sealed has a place
pub seal_placed : (w : Workload) (h : List Event) (t : Txn) → IsLegal w h → WasSealed h t
    → (i : ℕ) × (has (seal_place h t) i ≡ true)
seal_placed w [] t legal s = absurd (omega (arith, s.least, s.most))
seal_placed w (h ▹ Seal u k) t legal s = elim (cases_Bool (u.0 == t.0)) [
  | inl same ↦ (
    length h,
    ap (λ l. has l (length h)) (cond-true (u.0 == t.0) (length h ∷ []) (seal_place h t) same)
        ∙ or_left (length h == length h) false (eq-eqb (length h) (length h) refl),
  )
  | inr other ↦
      (let is = seal_is w h u k (came w h Cm (Seal u k) legal.0)
      in let differs : u.0 ≡ t.0 → ⊥ = λ same. both_ways (u.0 == t.0) other (eq-eqb u.0 t.0 same)
      in let old = seal_placed w h t legal.1 (record {
        least = s.least;
        most = before (seals h) u.0 t.0 is.txn differs s.most;
      })
      in (
        old.0,
        ap (λ l. has l old.0) (cond-false (u.0 == t.0) (length h ∷ []) (seal_place h t) other) ∙ old.1,
      ))
]
  where
    before : (n a b : ℕ) → a ≡ n + 1 → (a ≡ b → ⊥) → b ≤ n + 1 → b ≤ n
    before n a b is differs most = grind (arith, nat_tests)
seal_placed w (h ▹ e) t legal s =
    seal_placed w h t legal.1 (record { least = s.least; most = s.most })

-- ---- the transaction that is written to the journal
abbrev pub logged : Stage → Option Txn
logged (Sealed t k) = Some t
logged (Logging t) = Some t
logged _ = None

-- a request of the journal leaves it, or ends its writing
logged_add : (w : Workload) (h : List Event) (kind : ReqKind) (first n : ℕ) (t : Txn) → Journals w h kind first n
    → logged (stage_of_add kind (stage h)) ≡ Some t → logged (stage h) ≡ Some t
logged_add w h (Read p s g) first n t j is = absurd (j)
logged_add w h (Pages s g) first n t j is = absurd (j)
logged_add w h (Log u) first n t j is = ap logged j.before ∙ is
logged_add w h (Commit u) first n t j is = absurd (cc)
logged_add w h (Home u) first n t j is = absurd (cc)
logged_add w h (Clear u) first n t j is = absurd (cc)

logged_before : (w : Workload) (h : List Event) (by : Actor) (r : Request) (t : Txn) → Came w h (Add by r)
    → logged (stage_of_add r.kind (stage h)) ≡ Some t → logged (stage h) ≡ Some t
logged_before w h by r t (came_load p c s piece here absent block at) is = is
logged_before w h by r t (came_add run block at there placed long) is = is
logged_before w h by r t (came_journal kind first n j) is = logged_add w h kind first n t j is

was_logged : (w : Workload) (h : List Event) (t : Txn) → IsLegal w h → logged (stage h) ≡ Some t → WasSealed h t
was_logged w [] t legal is = absurd (cc)
was_logged w (h ▹ Seal u k) t legal is =
    let row = seal_is w h u k (came w h Cm (Seal u k) legal.0)
    in let same : u ≡ t = cc
    in record {
      least = subst (λ x. 1 ≤ x.0) same (omega (arith, row.txn));
      most = subst (λ x. x.0 ≤ seals h + 1) same (omega (arith, row.txn));
    }
was_logged w (h ▹ Add by r) t legal is =
    let old = was_logged w h t legal.1 (logged_before w h by r t (came w h (maker (Add by r)) (Add by r) legal.0) is)
    in record { least = old.least; most = old.most }
was_logged w (h ▹ e) t legal is =
    let old = was_logged w h t legal.1 is in record { least = old.least; most = old.most }

pub was_sealed : (w : Workload) (h : List Event) (t : Txn) (k : ℕ) → IsLegal w h → stage h ≡ Sealed t k → WasSealed h t
was_sealed w h t k legal is = was_logged w h t legal (ap logged is)

pub was_logging : (w : Workload) (h : List Event) (t : Txn) → IsLegal w h → stage h ≡ Logging t → WasSealed h t
was_logging w h t legal is = was_logged w h t legal (ap logged is)

-- ---- the transactions in the journal
pub journal_sealed : (w : Workload) (h : List Event) (i : ℕ) (t : Txn) → IsLegal w h
    → slice_get (in_journal h) i ≡ Some t → WasSealed h t
journal_sealed w [] i t legal at = absurd (cc)
journal_sealed w (h ▹ Seal u k) i t legal at = elim (slice_get-push (in_journal h) u i t at) [
  | inl before ↦
      (let old = journal_sealed w h i t legal.1 before in record { least = old.least; most = omega (arith, old.most) })
  | inr last ↦
      (let row = seal_is w h u k (came w h Cm (Seal u k) legal.0)
      in record {
        least = subst (λ x. 1 ≤ x.0) last.1 (omega (arith, row.txn));
        most = subst (λ x. x.0 ≤ seals h + 1) last.1 (omega (arith, row.txn));
      })
]
journal_sealed w (h ▹ Done k id true) i t legal at =
    let there = filter_there (λ u. not (clears u (request_numbered h id))) (in_journal h) i t at
    in let old = journal_sealed w h there.0 t legal.1 there.1
    in record { least = old.least; most = old.most }
journal_sealed w (h ▹ e) i t legal at =
    let old = journal_sealed w h i t legal.1 at in record { least = old.least; most = old.most }

first_in : (ts : List Txn) (t : Txn) → oldest_in ts ≡ Some t → slice_get ts 0 ≡ Some t
first_in [] t is = absurd (cc)
first_in (u ∷ ts) t is = is

pub oldest_sealed : (w : Workload) (h : List Event) (t : Txn) → IsLegal w h → oldest_in (in_journal h) ≡ Some t
    → WasSealed h t
oldest_sealed w h t legal is = journal_sealed w h 0 t legal (first_in (in_journal h) t is)

-- ---- what goes home
-- where none goes home next, no buffer awaits its home
pub none_awaits : (h : List Event) (b : Buf) (i : ℕ) → IsMetadata b → next_home h ≡ None
    → has (awaiting_at h b) i ≡ true → ⊥
none_awaits h b i metadata none is =
    let first = find_some (awaits_home h) metadata_buffers (any_metadata (awaits_home h) b metadata awaits)
    in let some : Some first.element ≡ None = sym first.found ∙ none
    in cc
  where
    awaits : awaits_home h b ≡ true
    awaits = go (awaiting_at h b) is
      where
        go : (places : List ℕ) → has places i ≡ true → nat_lt 0 (length places) ≡ true
        go [] at = absurd (cc)
        go (j ∷ places) at = grind (arith, nat_tests)

-- while transactions are cleared none goes home
pub may_clear : (h : List Event) → MayClear h → ((u : Txn) → stage h ≡ Clearing u → next_home h ≡ None)
    → next_home h ≡ None
may_clear h (clear_first t at home done) old = home
may_clear h (clear_next t at done) old = old t at

clearing_add : (w : Workload) (h : List Event) (kind : ReqKind) (first n id : ℕ) (t : Txn) → Journals w h kind first n
    → ((u : Txn) → stage h ≡ Clearing u → next_home h ≡ None) → stage_of_add kind (stage h) ≡ Clearing t
    → next_home (h ▹ Add Cm (journal_request id kind first n)) ≡ None
clearing_add w h (Read p s g) first n id t j old is = absurd (j)
clearing_add w h (Pages s g) first n id t j old is = absurd (j)
clearing_add w h (Log u) first n id t j old is = absurd (cc)
clearing_add w h (Commit u) first n id t j old is = absurd (cc)
clearing_add w h (Home u) first n id t j old is = absurd (cc)
clearing_add w h (Clear u) first n id t j old is = may_clear h j.before old

clearing_came : (w : Workload) (h : List Event) (by : Actor) (r : Request) (t : Txn)
    → ((u : Txn) → stage h ≡ Clearing u → next_home h ≡ None) → Came w h (Add by r)
    → stage_of_add r.kind (stage h) ≡ Clearing t → next_home (h ▹ Add by r) ≡ None
clearing_came w h by r t old (came_load p c s piece here absent block at) is = old t is
clearing_came w h by r t old (came_add run block at there placed long) is = old t is
clearing_came w h by r t old (came_journal kind first n j) is = clearing_add w h kind first n (adds h) t j old is

pub none_home : (w : Workload) (h : List Event) (t : Txn) → IsLegal w h → stage h ≡ Clearing t → next_home h ≡ None
none_home w [] t legal is = absurd (cc)
none_home w (h ▹ Seal u k) t legal is = absurd (cc)
none_home w (h ▹ Add by r) t legal is =
    clearing_came w h by r t (λ u at. none_home w h u legal.1 at) (came w h (maker (Add by r)) (Add by r) legal.0) is
none_home w (h ▹ e) t legal is = none_home w h t legal.1 is

-- ---- the round under way
-- a request that clears follows when none goes home
clear_came : (w : Workload) (h : List Event) (by : Actor) (r : Request) → IsLegal w h → Came w h (Add by r)
    → is_clear r ≡ true → next_home h ≡ None
clear_came w h by r legal (came_load p c s piece here absent block at) is = absurd (cc)
clear_came w h by r legal (came_add run block at there placed long) is = absurd (cc)
clear_came w h by r legal (came_journal kind first n j) is = of_kind kind j is
  where
    of_kind : (kind : ReqKind) → Journals w h kind first n → is_clear (journal_request (adds h) kind first n) ≡ true
        → next_home h ≡ None
    of_kind (Read p s g) j is = absurd (j)
    of_kind (Pages s g) j is = absurd (j)
    of_kind (Log u) j is = absurd (cc)
    of_kind (Commit u) j is = absurd (cc)
    of_kind (Home u) j is = absurd (cc)
    of_kind (Clear u) j is = may_clear h j.before (λ u at. none_home w h u legal at)

-- what awaits its home was taken by seals of the round under way
abbrev pub takes_at : Buf → ℕ → Txn → List Event → Bool
takes_at b i t before = has (open_at before b) i

pub taken_in_round : (w : Workload) (h : List Event) (b : Buf) (i : ℕ) → IsLegal w h → IsMetadata b
    → has (awaiting_at h b) i ≡ true → any_of (takes_at b i) (open_round h) ≡ true
taken_in_round w [] b i legal metadata is = absurd (cc)
taken_in_round w (h ▹ Seal t k) b i legal metadata is =
    elim (or_cases (has (open_at h b) i) (has (awaiting_at h b) i)
    (sym (has-append (open_at h b) (awaiting_at h b) i) ∙ is)) [
      | inl here ↦ or_left (takes_at b i t h) (any_of (takes_at b i) (open_round h)) here
      | inr old ↦
          or_right (takes_at b i t h) (any_of (takes_at b i) (open_round h))
          (taken_in_round w h b i legal.1 metadata old)
    ]
taken_in_round w (h ▹ Add by r) b i legal metadata is =
    let old = awaited (brings_home r b) is
    in elim (cases_Bool (is_clear r)) [
      | inl clears ↦
          absurd
          (none_awaits h b i metadata
          (clear_came w h by r legal.1 (came w h (maker (Add by r)) (Add by r) legal.0) clears) old)
      | inr other ↦
          ap (any_of (takes_at b i)) (cond-false (is_clear r) [] (open_round h) other)
          ∙ taken_in_round w h b i legal.1 metadata old
    ]
  where
    awaited : (t : Bool) → has (elim t [ true ↦ [] | false ↦ awaiting_at h b ]) i ≡ true
        → has (awaiting_at h b) i ≡ true
    awaited true is = absurd (cc)
    awaited false is = is
taken_in_round w (h ▹ e) b i legal metadata is = taken_in_round w h b i legal.1 metadata is

-- the newest seal of the round under way is the last seal
abbrev of_last : ℕ → Txn → List Event → Bool
of_last n t before = t.0 == n

pub last_in_round : (w : Workload) (h : List Event) (test : Txn → List Event → Bool) → IsLegal w h
    → any_of test (open_round h) ≡ true → any_of (of_last (seals h)) (open_round h) ≡ true
last_in_round w [] test legal any = absurd (cc)
last_in_round w (h ▹ Seal t k) test legal any =
    or_left (t.0 == seals h + 1) (any_of (of_last (seals h + 1)) (open_round h))
    (eq-eqb t.0 (seals h + 1) (seal_is w h t k (came w h Cm (Seal t k) legal.0)).txn)
last_in_round w (h ▹ Add by r) test legal any = elim (cases_Bool (is_clear r)) [
  | inl clears ↦ (let none = ap (any_of test) (cond-true (is_clear r) [] (open_round h) clears) in absurd (cc))
  | inr other ↦
      ap (any_of (of_last (seals h))) (cond-false (is_clear r) [] (open_round h) other)
      ∙ last_in_round w h test legal.1
      (sym (ap (any_of test) (cond-false (is_clear r) [] (open_round h) other)) ∙ any)
]
last_in_round w (h ▹ e) test legal any = last_in_round w h test legal.1 any

-- so that round is that of the last transaction
pub round_of_last : (w : Workload) (h : List Event) (test : Txn → List Event → Bool) → IsLegal w h
    → any_of test (open_round h) ≡ true → round_of h (last_txn h) ≡ open_round h
round_of_last w [] test legal any = absurd (cc)
round_of_last w (h ▹ e) test legal any =
    cond-true (any_of (of_last (seals (h ▹ e))) (open_round (h ▹ e))) (open_round (h ▹ e))
    (round_of h (last_txn (h ▹ e))) (last_in_round w (h ▹ e) test legal any)

-- ---- the buffer that goes home next
pub record GoesHome (h : List Event) (first : ℕ) : Type 0 where
  pub buffer : Buf
  pub metadata : IsMetadata buffer
  pub block : buffer_at first ≡ buffer
  pub place : ℕ
  pub awaits : has (awaiting_at h buffer) place ≡ true

-- the block of a buffer of metadata is its own
pub buffer_home : (b : Buf) → IsMetadata b → buffer_at (home_block b) ≡ b
buffer_home (Page s g) is = absurd (is)
buffer_home Bitmap is = refl
buffer_home (Dir k) is = grind (arith, nat_tests)
buffer_home (Inode slot) is = grind (arith, nat_tests)

pub goes_home_at : (h : List Event) (b : Buf) → next_home h ≡ Some b → GoesHome h (home_block b)
goes_home_at h b is =
    let there = find_there (awaits_home h) metadata_buffers b is
    in let any =
    list_any_here (λ c. awaits_home h c && home_block c == home_block b) metadata_buffers there.0 b there.1
    (and_from (awaits_home h b) (home_block b == home_block b) there.2 (eq-eqb (home_block b) (home_block b) refl))
    in let c = metadata_any (λ c. awaits_home h c && home_block c == home_block b) any
    in let both = and_parts (awaits_home h c.0) (home_block c.0 == home_block b) c.2
    in let place = some_of (awaiting_at h c.0) both.0
    in record {
      buffer = c.0;
      metadata = c.1;
      block = ap buffer_at (sym (eqb-true (home_block c.0) (home_block b) both.1)) ∙ buffer_home c.0 c.1;
      place = place.0;
      awaits = place.1;
    }
  where
    some_of : (places : List ℕ) → nat_lt 0 (length places) ≡ true → (i : ℕ) × (has places i ≡ true)
    some_of [] some = absurd (cc)
    some_of (i ∷ places) some = (i, or_left (i == i) (has places i) (eq-eqb i i refl))
