-- The journal that is kept takes note of events.
use Rattle.std.proofs.Common.{◌≡◌, ℕ, ◌+◌, ◌^◌, ◌<◌, ◌≤◌, List, [], length, Bool, true, false, ◌&&◌, not, if◌then◌else◌, Option, Some, None, refl, ap, sym, ◌∙◌, subst, arith}
use Rattle.std.specs.Prelude.{IsSome}
use Rattle.std.specs.List.{list_all}
use Rattle.std.specs.Option.{option_map}
use Rattle.std.proofs.lemmas.Option.{same_Some}
use Rattle.split_types.specs.declared.ids.Txn.{Txn}
use Rattle.split_types.specs.declared.actor.Actor.{Actor}
use Rattle.split_types.specs.declared.actor.Actor.TheVariants.{Cm}
use Rattle.split_types.specs.declared.request.Request.{Request}
use Rattle.split_types.specs.declared.workload.Workload.{Workload}
use Rattle.split_types.specs.declared.event.Event.{Event}
use Rattle.split_types.specs.declared.event.Event.TheVariants.{Seal, Add}
use Rattle.split_types.specs.History.{◌▹◌, adds}
use Rattle.split_types.specs.Calls.{is_finished}
use Rattle.split_types.specs.Workloads.{processes}
use Rattle.split_types.specs.Rounds.{seals}
use Rattle.split_types.specs.Blame.{blame}
use Rattle.split_types.specs.Writeback.{service}
use Rattle.split_types.specs.Transactions.{journal_slots}
use Rattle.split_types.specs.Committing.{next_of_commit, is_map_waiting}
use Rattle.split_types.specs.Accepted.{IsAccepted}
use Rattle.split_types.specs.Legal.{IsLegal}
use Rattle.cause_set.specs.Tags.{Tags}
use Rattle.journal_core.specs.declared.work.Due.{Due}
use Rattle.journal_core.specs.Work.{txn}
use Rattle.journal_core.specs.Journaled.{Journaled, seen, new_journal, can_seal, marked_count, next_due, carried, due_for}
use Rattle.split_core.specs.declared.note.journaling.Journaling.{Journaling}
use Rattle.split_core.specs.Journaling.{JournalStands, empty_journal, after_event, next_by, seal_of, add_of_due}
use Rattle.split_core.specs.Takings.{all_carried}
use Rattle.split_core.proofs.JournalShown.{WorkShown, DueShown}
use Rattle.split_core.proofs.JournalLaws.{work_shown, due_shown}
use Rattle.split_core.proofs.JournalNotesSeen.{seen_empty, can_seal_seen, due_seen, due_always, carried_seen, for_seen}

-- ---- the journal at the start, and after one event more
pub journal_start : (w : Workload) (j : Journaling) (tags : Tags) (slots : ℕ) (images : List (List ℕ))
    → slots ≡ journal_slots w → length images ≡ 261 → j.journal ≡ new_journal slots images → JournalStands w j tags []
journal_start w j tags slots images same many new = record {
  images = images;
  many = many;
  journal_is = ap (seen tags) new ∙ empty ∙ ap (λ n. journal_of_slots n) same;
}
  where
    journal_of_slots : ℕ → Journaled (List ℕ)
    journal_of_slots n = empty_journal n images

    empty : seen tags (new_journal slots images) ≡ empty_journal slots images
    empty = rw (seen_empty tags 261, seen_empty tags slots) refl

pub stands_next : (w : Workload) (h : List Event) (e : Event) (old new : Journaling) (before after : Tags)
    → JournalStands w old before h → seen after new.journal ≡ after_event w h e (seen before old.journal)
    → JournalStands w new after (h ▹ e)
stands_next w h e old new before after s is = record {
  images = s.images;
  many = s.many;
  journal_is = is ∙ ap (after_event w h e) s.journal_is;
}

-- ---- what it shows
-- what is known of a journal that stands for a legal history
pub record Shows (w : Workload) (h : List Event) (j : Journaled (List ℕ)) : Type 0 where
  pub work : WorkShown w h j
  pub due : DueShown w h j

pub shows : (w : Workload) (h : List Event) (j : Journaling) (tags : Tags) → IsAccepted w → IsLegal w h
    → JournalStands w j tags h → Shows w h (seen tags j.journal)
shows w h j tags accepted legal s =
    let work = work_shown w s.images h accepted legal
    in subst (Shows w h) (sym s.journal_is)
    (record { work = work; due = due_shown w s.images h accepted legal s.many })

pub shown : (w : Workload) (h : List Event) (j : Journaling) (tags : Tags) → IsAccepted w → IsLegal w h
    → JournalStands w j tags h → WorkShown w h (seen tags j.journal)
shown w h j tags accepted legal s =
    subst (WorkShown w h) (sym s.journal_is) (work_shown w s.images h accepted legal)

-- ---- numbers
pub seals_most : (h : List Event) → seals h ≤ length h
seals_most [] = omega arith
seals_most (h ▹ Seal t k) = omega (arith, seals_most h)
seals_most (h ▹ e) = omega (arith, seals_most h)

pub few_sealed : (w : Workload) (h : List Event) (j : Journaled (List ℕ)) → WorkShown w h j → length h < 2 ^ 31
    → j.work.sealed < 4294967295
few_sealed w h j s short = omega (arith, s.sealed_is, seals_most h, short)

-- ---- what comes next
-- an added request is the one that is due
due_is : (j : Journaled (List ℕ)) (all waits : Bool) (n : ℕ) (by : Actor) (r : Request)
    → next_by j all waits n ≡ Some (Add by r) → IsSome (next_due j true)
due_is j all waits n by r is = by_due (next_due j all) refl is
  where
    no_seal : (b : Bool) → (if b then Some (Seal (txn (j.work.sealed + 1)) (marked_count j)) else None) ≡ Some (Add by r)
        → IsSome (next_due j true)
    no_seal true at = absurd (cc)
    no_seal false at = absurd (cc)

    by_due : (o : Option Due) → next_due j all ≡ o
        → (elim o [ Some due ↦ Some (add_of_due n due) | None ↦ seal_of j waits ]) ≡ Some (Add by r)
        → IsSome (next_due j true)
    by_due (Some due) at some = subst IsSome (sym (due_always j all due at)) refl
    by_due None at some = no_seal (can_seal j && not waits) some

-- a seal may be made
seal_is : (j : Journaled (List ℕ)) (all waits : Bool) (n : ℕ) (t : Txn) (k : ℕ)
    → next_by j all waits n ≡ Some (Seal t k) → can_seal j ≡ true
seal_is j all waits n t k is = by_due (next_due j all) is
  where
    by_test : (a b : Bool) → (if a && not b then Some (Seal (txn (j.work.sealed + 1)) (marked_count j)) else None)
        ≡ Some (Seal t k) → a ≡ true
    by_test true b at = refl
    by_test false b at = absurd (cc)

    by_due : (o : Option Due)
        → (elim o [ Some due ↦ Some (add_of_due n due) | None ↦ seal_of j waits ]) ≡ Some (Seal t k)
        → can_seal j ≡ true
    by_due (Some due) some = absurd (cc)
    by_due None some = by_test (can_seal j) waits some

module _ (w : Workload) (h : List Event) (j : Journaling) (tags : Tags) where
  pub due_comes : (r : Request) → WorkShown w h (seen tags j.journal) → next_of_commit w h ≡ Some (Add Cm r)
      → IsSome (next_due j.journal true)
  due_comes r s is =
      subst IsSome (due_seen tags j.journal true)
      (due_is (seen tags j.journal) (list_all (is_finished w h) (processes w)) (is_map_waiting (service h)) (adds h) Cm r
      (sym s.next_is ∙ is))

  pub seal_comes : (t : Txn) (k : ℕ) → WorkShown w h (seen tags j.journal) → next_of_commit w h ≡ Some (Seal t k)
      → can_seal j.journal ≡ true
  seal_comes t k s is =
      sym (can_seal_seen tags j.journal)
      ∙ seal_is (seen tags j.journal) (list_all (is_finished w h) (processes w)) (is_map_waiting (service h)) (adds h)
      t k (sym s.next_is ∙ is)

  pub carried_is : (r : Request) → DueShown w h (seen tags j.journal) → next_of_commit w h ≡ Some (Add Cm r)
      → carried j.journal ≡ all_carried w h r
  carried_is r s is = sym (carried_seen tags j.journal) ∙ s.carries r is

  pub tag_is : (r : Request) (t : ℕ) → DueShown w h (seen tags j.journal) → next_of_commit w h ≡ Some (Add Cm r)
      → Some t ≡ due_for j.journal → tags.members t ≡ blame (h ▹ Add Cm r) (length h)
  tag_is r t s is for =
      same_Some (tags.members t) (blame (h ▹ Add Cm r) (length h))
      (ap (option_map tags.members) for ∙ sym (for_seen tags j.journal) ∙ s.for_is r is)
