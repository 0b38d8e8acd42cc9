-- What contracts see of a core, and what its plan and its parts have to do with that.
use Rattle.std.specs.Prelude.{◌≡◌, ℕ, ◌+◌, ◌<◌, ◌≤◌, List, vec_len}
use Rattle.std.specs.Vec.{vec_capacity}
use Rattle.split_types.specs.declared.workload.Workload.{Workload}
use Rattle.split_types.specs.declared.event.Event.{Event}
use Rattle.split_types.specs.Accepted.{IsAccepted}
use Rattle.split_types.specs.Legal.{IsLegal}
use Rattle.split_core.specs.declared.plan.Plan.{Plan}
use Rattle.split_core.specs.declared.parts.Parts.{Parts}
use Rattle.split_core.specs.Plans.{PlanStands}
use Rattle.split_core.specs.Clients.{ClientsStand}
use Rattle.tag_table.specs.Tags.{tags_of}
use Rattle.split_core.specs.Pages.{PagesStand, held_by_pages}
use Rattle.split_core.specs.Filing.{FilingStands, HasFilingRoom}
use Rattle.split_core.specs.Medium.{MediumStands, HasMediumRoom}
use Rattle.split_core.specs.Book.{BookStands}
use Rattle.split_core.specs.Dispatch.{DispatchStands}
use Rattle.split_core.specs.Served.{ServedStands, held_by_service}
use Rattle.split_core.specs.Journaling.{JournalStands, held_by_journal}
use Rattle.split_core.specs.Syncs.{SyncsStand}
use Rattle.split_core.specs.Time.{TimeStands}
use Rattle.split_core.specs.Money.{MoneyStands}
use Rattle.split_core.specs.Counts.{CountsStand}

-- a core is seen as its workload and its history
pub record Simulation : Type 0 where
  pub workload : Workload
  pub history : List Event

-- the tags that are in use are those of pages, of the journal, and of the run that is served
abbrev pub TagsStand : Parts → Type 0
TagsStand p =
    (n : ℕ) → (tags_of p.tags).uses n
    ≡ held_by_pages p.pages n + (held_by_journal p.journaling n + held_by_service p.service n)

-- each part stands for the history h
pub record PartsStand (w : Workload) (p : Parts) (h : List Event) : Type 0 where
  pub clients : ClientsStand w p.clients h
  pub filing : FilingStands w p.filing h
  pub pages : PagesStand w p.pages (tags_of p.tags) h
  pub tags : TagsStand p
  pub journaling : JournalStands w p.journaling (tags_of p.tags) h
  pub syncs : SyncsStand w p.syncs h
  pub medium : MediumStands w p.medium h
  pub book : BookStands p.book h
  pub dispatch : DispatchStands p.dispatch h
  pub service : ServedStands p.service (tags_of p.tags) h
  pub time : TimeStands p.time h
  pub money : MoneyStands w p.money h
  pub counts : CountsStand w p.counts h

-- there is room for whatever one more event asks for
pub record HasRoom (p : Parts) : Type 0 where
  pub book : vec_len p.book.entries < vec_capacity p.book.entries
  pub queue : 0 < p.dispatch.queue.spare
  pub filing : HasFilingRoom p.filing
  pub medium : HasMediumRoom p.medium
  pub pages : 0 < p.pages.cache.spare
  pub tags : 554 ≤ (tags_of p.tags).spare

-- so do all parts, and the history is a legal one of an accepted workload
pub record StandsFor (w : Workload) (plan : Plan) (p : Parts) (h : List Event) : Type 0 where
  pub accepted : IsAccepted w
  pub legal : IsLegal w h
  pub planned : PlanStands w plan
  pub parts : PartsStand w p h
