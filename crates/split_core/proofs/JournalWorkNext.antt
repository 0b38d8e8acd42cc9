-- The next event of the commit thread is the one that the running journal gives.
use Rattle.std.proofs.Common.{◌≡◌, ℕ, ◌+◌, ◌==◌, ◌≤◌, List, length, nat_lt, Bool, true, false, not, ◌&&◌, ◌||◌, Option, Some, None, option_map, refl, ap, sym, ◌∙◌, inl, inr, arith, if◌then◌else◌}
use Rattle.std.specs.List.{list_all}
use Rattle.std.proofs.lemmas.Bool.{lt-ltb, le-ltb, cond-true, cond-false}
use Rattle.std.proofs.lemmas.Bool.Decides.{nat_tests}
use Rattle.split_types.specs.declared.ids.Txn.{Txn}
use Rattle.split_types.specs.declared.actor.Actor.TheVariants.{Cm}
use Rattle.split_types.specs.declared.buf.Buf.{Buf}
use Rattle.split_types.specs.declared.request.ReqKind.{ReqKind}
use Rattle.split_types.specs.declared.request.ReqKind.TheVariants as kind
use Rattle.split_types.specs.declared.workload.Workload.{Workload}
use Rattle.split_types.specs.declared.event.Event.{Event}
use Rattle.split_types.specs.declared.event.Event.TheVariants.{Seal, Add}
use Rattle.split_types.specs.History.{adds}
use Rattle.split_types.specs.Rows.{◌⇒◌∣◌}
use Rattle.split_types.specs.Parents.{home_block}
use Rattle.split_types.specs.Workloads.{processes}
use Rattle.split_types.specs.Calls.{is_finished}
use Rattle.split_types.specs.Rounds.{seals, last_txn, slot_of_txn}
use Rattle.split_types.specs.Transactions.{journal_slots, descriptor_at, commit_at, in_journal, oldest_in, is_marked, marked_buffers, awaits_home, next_home, under_way, stage, Stage}
use Rattle.split_types.specs.Transactions.Stage.{Fresh, Sealed, Logging, Committing, Homing, Clearing}
use Rattle.split_types.specs.Committing.{commit_state, slot_of_some_txn, is_map_waiting, next_of_idle, next_of_clearing, next_of_stage, next_of_commit}
use Rattle.split_types.specs.Writeback.{service}
use Rattle.split_types.specs.Proving.JournalKnown.{AtStage, JournalKnown}
use Rattle.proxies.specs.declared.commit.Commit.TheVariants.{Idle, Log, Marking, Homes, Clear}
use Rattle.journal_core.specs.declared.work.Due.{Due}
use Rattle.journal_core.specs.declared.work.Work.{Work}
use Rattle.journal_core.specs.Work.{txn}
use Rattle.journal_core.specs.Journaled as journal
use Rattle.journal_core.specs.Journaled.{Journaled}
use Rattle.split_core.specs.Journaling.{add_of_due, next_by}
use Rattle.split_core.proofs.JournalWorkPlaces.{blocks_count, blocks_first}
use Rattle.split_core.proofs.JournalWorkKnown.{Rests, Clears, Works, Stands, work_of, same_txn}

-- ---- requests
-- the commit thread adds a request
abbrev add_of : ℕ → ReqKind → ℕ → ℕ → Option Event
add_of adds kind first n =
    Some (Add Cm (record { id = record { 0 = adds }; kind = kind; first = first; n = n }))

same_add : (adds : ℕ) (k l : ReqKind) (first start n m : ℕ) → k ≡ l → first ≡ start → n ≡ m
    → add_of adds k first n ≡ add_of adds l start m
same_add adds k l first start n m a b c = rw (a, b, c) refl

-- ---- where nothing is left to be done
abbrev pub goes : ℕ → ℕ → ℕ → Bool → Bool
goes used slots marked all = nat_lt 0 used && (used == slots || (all && marked == 0))

abbrev pub home_due : ℕ → Option ℕ → Option Due
home_due n home = option_map (λ block. record { kind = kind.Home (txn n); first = block; n = 1 }) home

abbrev seal_due : ℕ → ℕ → ℕ → ℕ → Bool → Option Event
seal_due n used slots marked waits =
    if (nat_lt 0 marked && nat_lt used slots) && not waits then Some (Seal (txn (n + 1)) marked) else None

-- what the running journal does next
abbrev idle_due : ℕ → ℕ → ℕ → ℕ → ℕ → Bool → Bool → Option ℕ → Option Event
idle_due a n used slots marked all waits home =
    elim (if not (goes used slots marked all) then None else home_due n home) [
      | Some due ↦ Some (add_of_due a due)
      | None ↦ seal_due n used slots marked waits
    ]

-- what the table of the commit thread says
abbrev idle_row : ℕ → ℕ → ℕ → ℕ → ℕ → Bool → Bool → Option Buf → Option Event
idle_row a n used slots marked all waits home =
    goes used slots marked all ⇒ elim home [ None ↦ None | Some b ↦ add_of a (kind.Home (txn n)) (home_block b) 1 ]
    ∣ nat_lt used slots && nat_lt 0 marked && not waits ⇒ Some (Seal (txn (n + 1)) marked)
    ∣ None

sealing : (a b c : Bool) (e : Event)
    → ◌≡◌ {A = Option Event} ((a && b && not c) ⇒ Some e ∣ None) (if (b && a) && not c then Some e else None)
sealing true true c e = refl
sealing true false c e = refl
sealing false true c e = refl
sealing false false c e = refl

-- where the round goes home nothing is sealed
unsealed : (used slots marked : ℕ) (all : Bool) → goes used slots marked all ≡ true
    → (nat_lt 0 marked && nat_lt used slots) ≡ false
unsealed used slots marked all is = grind (arith, nat_tests)

idle_same : (a n used slots marked : ℕ) (all waits : Bool) (home : Option Buf)
    → idle_row a n used slots marked all waits home
    ≡ idle_due a n used slots marked all waits (option_map home_block home)
idle_same a n used slots marked all waits home = by_goes (goes used slots marked all) refl home
  where
    by_goes : (g : Bool) → goes used slots marked all ≡ g → (home : Option Buf)
        → ◌≡◌ {A = Option Event}
        (g ⇒ elim home [ None ↦ None | Some b ↦ add_of a (kind.Home (txn n)) (home_block b) 1 ]
        ∣ nat_lt used slots && nat_lt 0 marked && not waits ⇒ Some (Seal (txn (n + 1)) marked)
        ∣ None)
        (elim (if not g then None else home_due n (option_map home_block home)) [
          | Some due ↦ Some (add_of_due a due)
          | None ↦ seal_due n used slots marked waits
        ])
    by_goes true is (Some b) = refl
    by_goes true is None =
        ap (λ b. if b && not waits then Some (Seal (txn (n + 1)) marked) else None)
        (sym (unsealed used slots marked all is))
    by_goes false is home = sealing (nat_lt used slots) (nat_lt 0 marked) waits (Seal (txn (n + 1)) marked)

-- ---- by what the commit thread did last
module _ (w : Workload) (h : List Event) (j : Journaled (List ℕ)) (known : JournalKnown w h) (s : Stands w h j) where
  abbrev all : Bool
  all = list_all (is_finished w h) (processes w)

  abbrev waits : Bool
  waits = is_map_waiting (service h)

  abbrev Nexts : Option Event → Type 0
  Nexts e = e ≡ next_by j all waits (adds h)

  at_work : (work : Work) → j.work ≡ work
      → next_by (record j { work = work }) all waits (adds h) ≡ next_by j all waits (adds h)
  at_work work is = ap (λ (x : Work). next_by (record j { work = x }) all waits (adds h)) (sym is)

  first_home : journal.next_home j ≡ option_map home_block (next_home h)
  first_home = blocks_first (awaits_home h) j.round s.round_long s.round_is

  busy : (e : Option Event) → 1 ≤ under_way h → ◌≡◌ {A = Option Event} (nat_lt 0 (under_way h) ⇒ None ∣ e) None
  busy e some = cond-true (nat_lt 0 (under_way h)) None e (lt-ltb 0 (under_way h) some)

  free : (e : Option Event) → under_way h ≡ 0 → ◌≡◌ {A = Option Event} (nat_lt 0 (under_way h) ⇒ None ∣ e) e
  free e none = cond-false (nat_lt 0 (under_way h)) None e (le-ltb 0 (under_way h) (omega (arith, none)))

  idle_next : Rests h j.work → Nexts (next_of_idle (commit_state w h))
  idle_next rests =
      idle_same (adds h) (seals h) used (journal_slots w) (length (marked_buffers h)) all waits (next_home h)
      ∙ ap (λ o. idle_due (adds h) (seals h) used (journal_slots w) (length (marked_buffers h)) all waits o)
      (sym first_home)
      ∙ ap (λ n. idle_due (adds h) (seals h) used (journal_slots w) n all waits (journal.next_home j))
      (sym (blocks_count (is_marked h) j.marks s.marks_long s.marks_are))
      ∙ ap (λ n. idle_due (adds h) (seals h) used n (journal.marked_count j) all waits (journal.next_home j))
      (sym s.slots_long)
      ∙ at_work (work_of Idle 0 (seals h) (seals h) used) rests
    where
      used : ℕ
      used = length (in_journal h)

  log_next : (t : Txn) (k : ℕ) → t.0 ≡ seals h → Works h j.work (length j.logged) (Sealed t k)
      → Nexts (next_of_stage (commit_state w h) (Sealed t k))
  log_next t k last works =
      same_add (adds h) (kind.Log t) (kind.Log t) (descriptor_at (slot_of_txn h (last_txn h)))
      (descriptor_at (slot_of_txn h t)) (k + 1) (length j.logged + 1) refl
      (ap (λ u. descriptor_at (slot_of_txn h u)) (same_txn (last_txn h) t (sym last))) (ap (λ n. n + 1) (sym works.1))
      ∙ at_work (work_of (Log t (slot_of_txn h t)) 0 (seals h) works.0.committed (length (in_journal h)))
      works.0.work_is

  commit_next : (t : Txn) → t.0 ≡ seals h → Works h j.work (length j.logged) (Logging t)
      → Nexts (next_of_stage (commit_state w h) (Logging t))
  commit_next t last (inl works) =
      busy _ (omega (arith, works.0))
      ∙ at_work (work_of (Log t (slot_of_txn h t)) 1 (seals h) works.1.committed (length (in_journal h)))
      works.1.work_is
  commit_next t last (inr works) =
      free _ works.0
      ∙ same_add (adds h) (kind.Commit t) (kind.Commit t) (commit_at (slot_of_txn h (last_txn h)))
      (commit_at (slot_of_txn h t)) 1 1 refl
      (ap (λ u. commit_at (slot_of_txn h u)) (same_txn (last_txn h) t (sym last))) refl
      ∙ at_work (work_of (Marking t (slot_of_txn h t)) 0 (seals h) works.1.committed (length (in_journal h)))
      works.1.work_is

  committed_next : (t : Txn) → Works h j.work (length j.logged) (Committing t)
      → Nexts (next_of_stage (commit_state w h) (Committing t))
  committed_next t (inl works) =
      busy _ (omega (arith, works.0))
      ∙ at_work (work_of (Marking t (slot_of_txn h t)) 1 (seals h) works.1.committed (length (in_journal h)))
      works.1.work_is
  committed_next t (inr works) = free _ works.0 ∙ idle_next works.1

  -- a clear request comes next
  abbrev clearing : Option Txn → Option Txn → Option Event
  clearing oldest slotted =
      elim oldest [
        | None ↦ next_of_idle (commit_state w h)
        | Some t ↦ add_of (adds h) (kind.Clear t) (commit_at (slot_of_some_txn h slotted)) 1
      ]

  clear_next : under_way h ≡ 0 → Clears h j.work → Nexts (next_of_clearing (commit_state w h))
  clear_next none works =
      ap (λ o. clearing o o) works.oldest
      ∙ at_work (work_of (Clear works.txn (slot_of_txn h works.txn)) 0 (seals h) (seals h)
      (slot_of_txn h (last_txn h) + 1))
      (works.work_is
      ∙ ap (λ n. work_of (Clear works.txn (slot_of_txn h works.txn)) n (seals h) (seals h)
      (slot_of_txn h (last_txn h) + 1)) none)

  home_next : (t : Txn) → t.0 ≡ seals h → Works h j.work (length j.logged) (Homing t)
      → Nexts (next_of_stage (commit_state w h) (Homing t))
  home_next t last (inr works) =
      ap (λ o. elim o [
        | Some b ↦ add_of (adds h) (kind.Home (last_txn h)) (home_block b) 1
        | None ↦ (nat_lt 0 (under_way h) ⇒ None ∣ next_of_clearing (commit_state w h))
      ]) works.0
      ∙ free _ works.1 ∙ clear_next works.1 works.2
  home_next t last (inl works) = by_home (next_home h) refl
    where
      at : Work
      at = work_of (Homes t works.slot works.added) (under_way h) (seals h) (seals h) (length (in_journal h))

      by_home : (o : Option Buf) → next_home h ≡ o
          → Nexts (elim o [
            | Some b ↦ add_of (adds h) (kind.Home (last_txn h)) (home_block b) 1
            | None ↦ (nat_lt 0 (under_way h) ⇒ None ∣ next_of_clearing (commit_state w h))
          ])
      by_home (Some b) is =
          ap (λ u. add_of (adds h) (kind.Home u) (home_block b) 1) (same_txn (last_txn h) t (sym last))
          ∙ ap (λ o. elim (option_map (λ block. record { kind = kind.Home t; first = block; n = 1 }) o) [
            | Some due ↦ Some (add_of_due (adds h) due)
            | None ↦ None
          ]) (sym (first_home ∙ ap (option_map home_block) is))
          ∙ at_work at works.work_is
      by_home None is =
          busy _ (works.some is)
          ∙ ap (λ o. elim (option_map (λ block. record { kind = kind.Home t; first = block; n = 1 }) o) [
            | Some due ↦ Some (add_of_due (adds h) due)
            | None ↦ None
          ]) (sym (first_home ∙ ap (option_map home_block) is))
          ∙ at_work at works.work_is

  cleared_next : (t : Txn) → AtStage h known.cleared (Clearing t) → Works h j.work (length j.logged) (Clearing t)
      → Nexts (next_of_stage (commit_state w h) (Clearing t))
  cleared_next t (inl at) (inl works) =
      busy _ (omega (arith, at.0))
      ∙ at_work (work_of (Clear works.txn (slot_of_txn h works.txn)) 1 (seals h) (seals h)
      (slot_of_txn h (last_txn h) + 1))
      (works.work_is
      ∙ ap (λ n. work_of (Clear works.txn (slot_of_txn h works.txn)) n (seals h) (seals h)
      (slot_of_txn h (last_txn h) + 1)) at.0)
  cleared_next t (inr none) (inl works) = free _ none ∙ clear_next none works
  cleared_next t at (inr works) =
      free _ works.0
      ∙ ap (λ o. clearing o o) (ap oldest_in works.1)
      ∙ idle_next works.2

  pub next_is : Nexts (next_of_commit w h)
  next_is = by_stage (stage h) refl known.stands s.works
    where
      by_stage : (t : Stage) → stage h ≡ t → AtStage h known.cleared t → Works h j.work (length j.logged) t
          → Nexts (next_of_stage (commit_state w h) t)
      by_stage Fresh is at works = idle_next works
      by_stage (Sealed t k) is at works = log_next t k at.1 works
      by_stage (Logging t) is at works = commit_next t at.1 works
      by_stage (Committing t) is at works = committed_next t works
      by_stage (Homing t) is at works = home_next t at.0 works
      by_stage (Clearing t) is at works = cleared_next t at works
