-- Seals come in order, and an fsync returns where its file is committed.
use Rattle.std.proofs.Common.{◌≡◌, ℕ, ◌+◌, List, [], length, Bool, true, false, nat_lt, Some, refl, sym, ap, ◌∙◌, IsTrue, subst, if◌then◌else◌}
use Rattle.split_types.specs.declared.ids.Pid.{Pid}
use Rattle.split_types.specs.declared.ids.Txn.{Txn}
use Rattle.split_types.specs.declared.actor.Actor.TheVariants.{Client, Cm}
use Rattle.split_types.specs.declared.call.Call.{Call}
use Rattle.split_types.specs.declared.call.Call.TheVariants.{Fsync}
use Rattle.split_types.specs.declared.call.Reply.TheVariants as reply
use Rattle.split_types.specs.declared.workload.Workload.{Workload}
use Rattle.split_types.specs.declared.event.Event.{Event}
use Rattle.split_types.specs.declared.event.Event.TheVariants.{Ret, Seal, Send}
use Rattle.split_types.specs.History.{◌▹◌, older}
use Rattle.split_types.specs.Rounds.{next_txn}
use Rattle.split_types.specs.Calls.{call_of}
use Rattle.split_types.specs.FileMaps.{is_committed}
use Rattle.split_types.specs.Syncing.{awaited_txn, is_safe}
use Rattle.split_types.specs.Transactions.{marked_buffers}
use Rattle.split_types.specs.Accepted.{IsAccepted}
use Rattle.split_types.specs.Legal.{IsLegal}
use Rattle.split_types.specs.JournalPromises.{IsSealed, SealsInOrder, SyncsAreCommitted, CommitsInOrder}
use Rattle.split_types.specs.Proving.Came.{Came, IsOfNames}
use Rattle.split_types.specs.Proving.Came.Came.{came_seal, came_synced, came_changed, came_wrote}
use Rattle.std.proofs.lemmas.Option.{same_Some}
use Rattle.split_types.proofs.CameLaws.{came}
use Rattle.split_types.proofs.CommitLaws.{commit_order}
use Rattle.split_types.proofs.History.{older-next}
use Rattle.split_types.proofs.JournalStepsAdds.{journal_known}

sealed_is : (w : Workload) (h : List Event) (t : Txn) (k : ℕ) → IsAccepted w → IsLegal w (h ▹ Seal t k)
    → Came w h (Seal t k) → IsSealed w h t k
sealed_is w h t k accepted legal (came_seal may) =
    let is = journal_known w (h ▹ Seal (next_txn h) (length (marked_buffers h))) accepted legal
    in record { number = refl; takes = refl; some = may.some; most = is.stands.4; left = may.left }

pub seals_in_order : SealsInOrder
seals_in_order w h t k accepted legal = sealed_is w h t k accepted legal (came w h Cm (Seal t k) legal.0)

-- a call that has names is no fsync, and neither is a write
synced_is : (w : Workload) (h : List Event) (p : Pid) (name : List ℕ) (t : Txn) → Came w h (Ret p reply.Done)
    → call_of w h p.0 ≡ Some (Fsync name) → awaited_txn w h p.0 ≡ Some t → IsTrue (is_committed h t)
synced_is w h _ name t (came_changed p c admitted names acted) call awaits =
    let is : c ≡ Fsync name = same_Some c (Fsync name) (sym admitted.has.call ∙ call)
    in absurd (subst IsOfNames is names)
synced_is w h _ name t (came_wrote p other off len fill s working none) call awaits =
    absurd (cc)
synced_is w h _ name t (came_synced p other s working acted safe) call awaits =
    subst (λ x. IsTrue (is_safe h x)) awaits safe

pub syncs_are_committed : SyncsAreCommitted
syncs_are_committed w h p name t accepted legal call awaits =
    synced_is w h p name t (came w h (Client p) (Ret p reply.Done) legal.0) call awaits

-- a history was legal at each place
older_legal : (w : Workload) (h : List Event) (n : ℕ) → IsLegal w h → IsLegal w (older h n)
older_legal w [] n legal = legal
older_legal w (h ▹ e) n legal = by_test (nat_lt (length h) n) (older_legal w h n legal.1)
  where
    by_test : (b : Bool) → IsLegal w (older h n) → IsLegal w (if b then h ▹ e else older h n)
    by_test true before = legal
    by_test false before = before

pub commits_in_order : CommitsInOrder
commits_in_order w h accepted legal i id cost r q t k at named kind before pages =
    commit_order w (older h i) id cost r q t k accepted
    (subst (IsLegal w) (older-next h (Send id cost) i at) (older_legal w h (i + 1) legal)) named kind before pages
