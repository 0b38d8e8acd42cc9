-- What holds of every legal history of an accepted workload, and makes the definitions worth their names.
use Rattle.std.specs.Prelude.{◌≡◌, ℕ, ◌+◌, ◌==◌, ◌<◌, ◌≤◌, List, [], ◌∷◌, length, sum_by, nat_lt, IsTrue, Some, if◌then◌else◌}
use Rattle.split_types.specs.declared.ids.Serial.{Serial}
use Rattle.split_types.specs.declared.ids.ReqId.{ReqId}
use Rattle.split_types.specs.declared.buf.Buf.TheVariants.{Page}
use Rattle.split_types.specs.declared.workload.Workload.{Workload}
use Rattle.split_types.specs.declared.event.Event.{Event}
use Rattle.split_types.specs.declared.event.Event.TheVariants.{Send, Done}
use Rattle.split_types.specs.History.{◌▹◌, adds, event_at}
use Rattle.split_types.specs.OpenDirtyings.{open_at}
use Rattle.split_types.specs.Sets.{has, IsSet}
use Rattle.split_types.specs.Blame.{tag}
use Rattle.split_types.specs.RunningCauses.{causes_of}
use Rattle.split_types.specs.Share.{bill_of_parts}
use Rattle.split_types.specs.CostAndClock.{cost_of, now, ticks}
use Rattle.split_types.specs.Bills.{parts, billed}
use Rattle.split_types.specs.Pages.{is_dirty}
use Rattle.split_types.specs.Workloads.{processes}
use Rattle.split_types.specs.Accepted.{IsAccepted}
use Rattle.split_types.specs.Legal.{IsLegal}

-- a page is dirty exactly where it has open dirtyings
abbrev pub DirtyAreOpen : Type 0
DirtyAreOpen =
    (w : Workload) (h : List Event) (s : Serial) (g : ℕ) → IsAccepted w → IsLegal w h
    → is_dirty w h (Page s g) ≡ nat_lt 0 (length (open_at h (Page s g)))

-- and exactly where some process is to blame for those
abbrev pub DirtyHaveCauses : Type 0
DirtyHaveCauses =
    (w : Workload) (h : List Event) (s : Serial) (g : ℕ) → IsAccepted w → IsLegal w h
    → is_dirty w h (Page s g) ≡ nat_lt 0 (length (causes_of h (Page s g)))

-- the number that a send shows is the cost of its request
abbrev pub SendsShowCosts : Type 0
SendsShowCosts =
    (w : Workload) (h : List Event) (i : ℕ) (id : ReqId) (cost : ℕ) → IsAccepted w → IsLegal w h
    → event_at h i ≡ Some (Send id cost) → cost_of h id.0 ≡ cost

-- the cost of a request is split over its tag alone
abbrev pub PartsAreTags : Type 0
PartsAreTags = (w : Workload) (h : List Event) (id : ℕ) → IsAccepted w → parts w h id ≡ tag h id ∷ []

-- a set of processes of the workload, with at least one of them
pub record ArePayers (w : Workload) (set : List ℕ) : Type 0 where
  pub is_set : IsSet set
  pub some : 1 ≤ length set
  pub least : (p : ℕ) → IsTrue (has set p) → 1 ≤ p
  pub most : (p : ℕ) → IsTrue (has set p) → p ≤ length w.procs

-- what the processes bear of a cost of a request adds up to it: those of the tag, and all
pub record IsBorneWhole (w : Workload) (h : List Event) (id cost : ℕ) : Type 0 where
  pub by_tag : sum_by (bill_of_parts cost (parts w h id)) (tag h id) ≡ cost
  pub by_all : sum_by (bill_of_parts cost (parts w h id)) (processes w) ≡ cost

-- how often a request completes
abbrev pub completions : List Event → ℕ → ℕ
completions [] id = 0
completions (h ▹ Done k i ok) id = if i.0 == id then completions h id + 1 else completions h id
completions (h ▹ e) id = completions h id

-- nothing is lost between the clock and the bills
pub record Conserves (w : Workload) (h : List Event) : Type 0 where
  -- each request has processes that pay for it
  pub tags_are_payers : (id : ℕ) → id < adds h → ArePayers w (tag h id)
  -- whatever it costs, they bear all of that
  pub costs_are_borne : (id cost : ℕ) → id < adds h → IsBorneWhole w h id cost
  -- no request completes twice, so none is billed twice
  pub completes_once : (id : ℕ) → completions h id ≤ 1
  -- what is billed to all processes, and the ticks, are what the clock says
  pub bills_are_clock : sum_by (billed w h) (processes w) + ticks h ≡ now h

abbrev pub BillsConserve : Type 0
BillsConserve = (w : Workload) (h : List Event) → IsAccepted w → IsLegal w h → Conserves w h
