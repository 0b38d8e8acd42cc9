-- The laws of the journal that is kept: what the journal after a history shows of that history.
use Rattle.std.proofs.Common.{◌≡◌, ℕ, List, length}
use Rattle.split_types.specs.declared.workload.Workload.{Workload}
use Rattle.split_types.specs.declared.event.Event.{Event}
use Rattle.split_types.specs.Accepted.{IsAccepted}
use Rattle.split_types.specs.Legal.{IsLegal}
use Rattle.split_core.specs.Journaling.{journal_of}
use Rattle.split_core.proofs.JournalShown.{WorkShown, DueShown}
use Rattle.split_core.proofs.JournalWork as work
use Rattle.split_core.proofs.JournalBytesCarried as carried

pub work_shown : (w : Workload) (images : List (List ℕ)) (h : List Event) → IsAccepted w → IsLegal w h
    → WorkShown w h (journal_of w images h)
work_shown w images h accepted legal = work.work_shown w images h accepted legal

pub due_shown : (w : Workload) (images : List (List ℕ)) (h : List Event) → IsAccepted w → IsLegal w h
    → length images ≡ 261 → DueShown w h (journal_of w images h)
due_shown w images h accepted legal many =
    carried.due_shown w images h accepted legal many (λ g before. work_shown w images g accepted before)
