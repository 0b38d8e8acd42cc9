-- What the journal says of the request that the commit thread adds next, and of the seal that comes next.
use Rattle.std.proofs.Common.{◌≡◌, ℕ, ◌+◌, ◌==◌, ◌<◌, List, length, nat_lt, Bool, true, false, not, ◌&&◌, Option, Some, None, refl, subst, sym, ◌∙◌, ap, if◌then◌else◌}
use Rattle.std.proofs.lemmas.Bool.{ltb-true}
use Rattle.std.proofs.lemmas.Option.{same_Some}
use Rattle.split_types.specs.declared.ids.Txn.{Txn}
use Rattle.split_types.specs.declared.actor.Actor.TheVariants.{Cm}
use Rattle.split_types.specs.declared.request.ReqKind.{ReqKind}
use Rattle.split_types.specs.declared.request.ReqKind.TheVariants as kind
use Rattle.split_types.specs.declared.request.Request.{Request}
use Rattle.split_types.specs.declared.workload.Workload.{Workload}
use Rattle.split_types.specs.declared.event.Event.{Event}
use Rattle.split_types.specs.declared.event.Event.TheVariants.{Add, Seal}
use Rattle.split_types.specs.Committing.{next_of_commit}
use Rattle.proxies.specs.declared.commit.Commit.{Commit}
use Rattle.proxies.specs.declared.commit.Commit.TheVariants.{Idle, Log, Marking, Homes, Clear}
use Rattle.journal_core.specs.declared.work.Due.{Due}
use Rattle.journal_core.specs.Slots.{descriptor_at, commit_at}
use Rattle.journal_core.specs.Work.{begun, due_in, is_idle}
use Rattle.journal_core.specs.Journaled.{Journaled, next_due, next_home, goes_home, can_seal, marked_count}
use Rattle.split_core.specs.Journaling.{add_of_due, seal_of, next_by}
use Rattle.split_core.proofs.JournalShown.{WorkShown}

-- ---- a request
-- a request for so many blocks from this one on is the one that a stage has added next, where so many buffers were
-- logged and this is the home block that comes next
abbrev pub IsDue : Commit ℕ → ℕ → Option ℕ → ReqKind → ℕ → ℕ → Type 0
IsDue Idle logged home k first n = ⊥
IsDue (Log t slot) logged home k first n = (k ≡ kind.Log t) × (first ≡ descriptor_at slot) × (n ≡ logged + 1)
IsDue (Marking t slot) logged home k first n = (k ≡ kind.Commit t) × (first ≡ commit_at slot) × (n ≡ 1)
IsDue (Homes t slot added) logged home k first n = (k ≡ kind.Home t) × (home ≡ Some first) × (n ≡ 1)
IsDue (Clear t slot) logged home k first n = (k ≡ kind.Clear t) × (first ≡ commit_at slot) × (n ≡ 1)

of_alone : (b : Bool) (k : ReqKind) (first n : ℕ) (due : Due)
    → (if b then Some (record { kind = k; first = first; n = n }) else None) ≡ Some due
    → (due.kind ≡ k) × (due.first ≡ first) × (due.n ≡ n)
of_alone true k first n due is =
    let same : Due = record { kind = k; first = first; n = n }
    in let equal : same ≡ due = same_Some same due is
    in (sym (ap (λ d. d.kind) equal), sym (ap (λ d. d.first) equal), sym (ap (λ d. d.n) equal))
of_alone false k first n due is = absurd (cc)

of_due : (s : Commit ℕ) (unfinished logged : ℕ) (home : Option ℕ) (due : Due)
    → due_in s unfinished logged home ≡ Some due → IsDue s logged home due.kind due.first due.n
of_due Idle unfinished logged home due is = absurd (cc)
of_due (Log t slot) unfinished logged home due is =
    of_alone (unfinished == 0) (kind.Log t) (descriptor_at slot) (logged + 1) due is
of_due (Marking t slot) unfinished logged home due is =
    of_alone (unfinished == 0) (kind.Commit t) (commit_at slot) 1 due is
of_due (Homes t slot added) unfinished logged None due is = absurd (cc)
of_due (Homes t slot added) unfinished logged (Some block) due is =
    let home : Due = record { kind = kind.Home t; first = block; n = 1 }
    in let same : home ≡ due = same_Some home due is
    in (sym (ap (λ d. d.kind) same), ap (λ d. Some d.first) same, sym (ap (λ d. d.n) same))
of_due (Clear t slot) unfinished logged home due is =
    of_alone (unfinished == 0) (kind.Clear t) (commit_at slot) 1 due is

pub due_next : {C : Type 0} (j : Journaled C) (all_returned map_waits : Bool) (n : ℕ) (r : Request)
    → next_by j all_returned map_waits n ≡ Some (Add Cm r)
    → IsDue (begun j.work) (length j.logged) (next_home j) r.kind r.first r.n
due_next j all_returned map_waits n r is = by_due (next_due j all_returned) refl is
  where
    by_seal : (b : Bool) → (if b then Some (Seal (record { 0 = j.work.sealed + 1 }) (marked_count j)) else None)
        ≡ Some (Add Cm r) → ⊥
    by_seal true is = cc
    by_seal false is = cc

    by_test : (b : Bool) (due : Due)
        → (if b then None else due_in (begun j.work) j.work.unfinished (length j.logged) (next_home j)) ≡ Some due
        → IsDue (begun j.work) (length j.logged) (next_home j) due.kind due.first due.n
    by_test true due is = absurd (cc)
    by_test false due is = of_due (begun j.work) j.work.unfinished (length j.logged) (next_home j) due is

    by_due : (o : Option Due) → next_due j all_returned ≡ o
        → (elim o [ Some due ↦ Some (add_of_due n due) | None ↦ seal_of j map_waits ]) ≡ Some (Add Cm r)
        → IsDue (begun j.work) (length j.logged) (next_home j) r.kind r.first r.n
    by_due None due is = absurd (by_seal (can_seal j && not map_waits) is)
    by_due (Some d) due is =
        let added : Request = record { id = record { 0 = n }; kind = d.kind; first = d.first; n = d.n }
        in let same : added ≡ r = cc
        in subst (λ x. IsDue (begun j.work) (length j.logged) (next_home j) x.kind x.first x.n) same
        (by_test (is_idle j.work.stage && not (goes_home j all_returned)) d due)

pub due_as : (w : Workload) (h : List Event) (j : Journaled (List ℕ)) (r : Request) → WorkShown w h j
    → next_of_commit w h ≡ Some (Add Cm r)
    → IsDue (begun j.work) (length j.logged) (next_home j) r.kind r.first r.n
due_as w h j r shown is = due_next j _ _ _ r (sym shown.next_is ∙ is)

-- ---- a seal
-- where it comes next commit is idle, some buffer is marked, and a slot is left
pub record SealsNow {C : Type 0} (j : Journaled C) : Type 0 where
  pub idle : is_idle j.work.stage ≡ true
  pub some : 0 < marked_count j
  pub left : j.work.used < length j.slots

seals_now : {C : Type 0} (j : Journaled C) → can_seal j ≡ true → SealsNow j
seals_now j is =
    let all = three (is_idle j.work.stage) (nat_lt 0 (marked_count j)) (nat_lt j.work.used (length j.slots)) is
    in record {
      idle = all.0;
      some = ltb-true 0 (marked_count j) all.1;
      left = ltb-true j.work.used (length j.slots) all.2;
    }
  where
    three : (a b c : Bool) → (a && b && c) ≡ true → (a ≡ true) × (b ≡ true) × (c ≡ true)
    three true true true is = (refl, refl, refl)
    three true true false is = absurd (cc)
    three true false c is = absurd (cc)
    three false b c is = absurd (cc)

pub seal_next : {C : Type 0} (j : Journaled C) (all_returned map_waits : Bool) (n : ℕ) (t : Txn) (k : ℕ)
    → next_by j all_returned map_waits n ≡ Some (Seal t k) → SealsNow j
seal_next j all_returned map_waits n t k is = by_due (next_due j all_returned) is
  where
    by_seal : (a b : Bool) → can_seal j ≡ a
        → (if a && b then Some (Seal (record { 0 = j.work.sealed + 1 }) (marked_count j)) else None) ≡ Some (Seal t k)
        → SealsNow j
    by_seal true b can is = seals_now j can
    by_seal false b can is = absurd (cc)

    by_due : (o : Option Due)
        → (elim o [ Some due ↦ Some (add_of_due n due) | None ↦ seal_of j map_waits ]) ≡ Some (Seal t k)
        → SealsNow j
    by_due None is = by_seal (can_seal j) (not map_waits) refl is
    by_due (Some d) is = absurd (cc)

pub seal_as : (w : Workload) (h : List Event) (j : Journaled (List ℕ)) (t : Txn) (k : ℕ) → WorkShown w h j
    → next_of_commit w h ≡ Some (Seal t k) → SealsNow j
seal_as w h j t k shown is = seal_next j _ _ _ t k (sym shown.next_is ∙ is)
