-- The next event of the commit thread is read from the journal that is kept.
use Rattle.std.proofs.Common.{◌≡◌, ℕ, ◌+◌, List, Bool, true, false, ◌&&◌, ◌||◌, not, is_some, if◌then◌else◌, Option, Some, None, refl, ap, sym, ◌∙◌}
use Rattle.std.specs.List.{list_all}
use Rattle.split_types.specs.declared.request.Run.{Run}
use Rattle.split_types.specs.declared.request.Service.{Service}
use Rattle.split_types.specs.declared.request.Service.TheVariants.{Idle, Serving, Mapped}
use Rattle.split_types.specs.declared.workload.Workload.{Workload}
use Rattle.split_types.specs.declared.event.Event.{Event}
use Rattle.split_types.specs.declared.event.Event.TheVariants.{Seal}
use Rattle.split_types.specs.History.{adds}
use Rattle.split_types.specs.Calls.{is_finished}
use Rattle.split_types.specs.Workloads.{processes}
use Rattle.split_types.specs.Writeback.{service}
use Rattle.split_types.specs.Committing.{next_of_commit, is_map_waiting}
use Rattle.cause_set.specs.Tags.{Tags}
use Rattle.journal_core.specs.declared.work.Due.{Due}
use Rattle.journal_core.specs.Work.{txn}
use Rattle.journal_core.specs.Journaled.{Journaled, seen, can_seal, marked_count, next_due}
use Rattle.split_core.specs.Clients.{mapped_run}
use Rattle.split_core.specs.Journaling.{add_of_due}
use Rattle.split_core.proofs.JournalShown.{WorkShown}
use Rattle.split_core.proofs.JournalNotesSeen.{can_seal_seen, due_seen, count_seen}

-- a map waits where a run is mapped
waits_is : (s : Service) → is_some (mapped_run s) ≡ is_map_waiting s
waits_is Idle = refl
waits_is (Serving run) = refl
waits_is (Mapped run) = refl

-- by the numbers of its tags
abbrev pub seal_by : Bool → Bool → ℕ → ℕ → Option Event
seal_by seals waits sealed marked = if seals && not waits then Some (Seal (txn (sealed + 1)) marked) else None

module _ (w : Workload) (h : List Event) (j : Journaled ℕ) (tags : Tags) where
  by_due : (all : Bool) → WorkShown w h (seen tags j) → all ≡ list_all (is_finished w h) (processes w)
      → (elim (next_due j all) [
        | Some due ↦ Some (add_of_due (adds h) due)
        | None ↦ seal_by (can_seal j) (is_map_waiting (service h)) j.work.sealed (marked_count j)
      ]) ≡ next_of_commit w h
  by_due all s is =
      ap (λ o. elim o [
        | Some due ↦ Some (add_of_due (adds h) due)
        | None ↦ seal_by (can_seal j) (is_map_waiting (service h)) j.work.sealed (marked_count j)
      ]) (sym (due_seen tags j all) ∙ ap (next_due (seen tags j)) is)
      ∙ ap (λ b. elim (next_due (seen tags j) (list_all (is_finished w h) (processes w))) [
        | Some due ↦ Some (add_of_due (adds h) due)
        | None ↦ seal_by b (is_map_waiting (service h)) j.work.sealed (marked_count j)
      ]) (sym (can_seal_seen tags j))
      ∙ ap (λ n. elim (next_due (seen tags j) (list_all (is_finished w h) (processes w))) [
        | Some due ↦ Some (add_of_due (adds h) due)
        | None ↦ seal_by (can_seal (seen tags j)) (is_map_waiting (service h)) j.work.sealed n
      ]) (sym (count_seen tags j))
      ∙ sym s.next_is

  -- the request that is due
  pub next_adds : (all : Bool) (n : ℕ) (due : Due) → WorkShown w h (seen tags j)
      → all ≡ list_all (is_finished w h) (processes w) → n ≡ adds h → next_due j all ≡ Some due
      → Some (add_of_due n due) ≡ next_of_commit w h
  next_adds all n due s is count at =
      ap (λ k. Some (add_of_due k due)) count
      ∙ ap (λ o. elim o [
        | Some due ↦ Some (add_of_due (adds h) due)
        | None ↦ seal_by (can_seal j) (is_map_waiting (service h)) j.work.sealed (marked_count j)
      ]) (sym at)
      ∙ by_due all s is

  sealing : (all : Bool) (o : Option Run) → WorkShown w h (seen tags j)
      → all ≡ list_all (is_finished w h) (processes w) → next_due j all ≡ None → o ≡ mapped_run (service h)
      → seal_by (can_seal j) (is_some o) j.work.sealed (marked_count j) ≡ next_of_commit w h
  sealing all o s is none run =
      ap (λ b. seal_by (can_seal j) b j.work.sealed (marked_count j)) (ap is_some run ∙ waits_is (service h))
      ∙ ap (λ o. elim o [
        | Some due ↦ Some (add_of_due (adds h) due)
        | None ↦ seal_by (can_seal j) (is_map_waiting (service h)) j.work.sealed (marked_count j)
      ]) (sym none)
      ∙ by_due all s is

  -- none is due, and no seal may be made
  pub next_none : (all : Bool) (o : Option Run) → WorkShown w h (seen tags j)
      → all ≡ list_all (is_finished w h) (processes w) → next_due j all ≡ None → o ≡ mapped_run (service h)
      → (not (can_seal j) || is_some o) ≡ true → (let nothing : Option Event = None in nothing) ≡ next_of_commit w h
  next_none all o s is none run rests =
      sym (by_tests (can_seal j) (is_some o) rests) ∙ sealing all o s is none run
    where
      by_tests : (a b : Bool) → (not a || b) ≡ true
          → seal_by a b j.work.sealed (marked_count j) ≡ (let nothing : Option Event = None in nothing)
      by_tests false b t = refl
      by_tests true true t = refl
      by_tests true false t = absurd (cc)

  -- the seal of the next transaction
  pub next_seals : (all : Bool) (o : Option Run) → WorkShown w h (seen tags j)
      → all ≡ list_all (is_finished w h) (processes w) → next_due j all ≡ None → o ≡ mapped_run (service h)
      → (not (can_seal j) || is_some o) ≡ false
      → Some (Seal (txn (j.work.sealed + 1)) (marked_count j)) ≡ next_of_commit w h
  next_seals all o s is none run seals =
      sym (by_tests (can_seal j) (is_some o) seals) ∙ sealing all o s is none run
    where
      by_tests : (a b : Bool) → (not a || b) ≡ false → seal_by a b j.work.sealed (marked_count j)
          ≡ Some (Seal (txn (j.work.sealed + 1)) (marked_count j))
      by_tests false b t = absurd (cc)
      by_tests true true t = absurd (cc)
      by_tests true false t = refl
