-- What a request takes where it is added: the bytes that it carries, and the processes to blame for it.
use Rattle.std.specs.Prelude.{◌≡◌, ℕ, List, length, Bool, false, IsTrue}
use Rattle.std.specs.List.{flat_map, range_with_len}
use Rattle.split_types.specs.declared.request.Request.{Request}
use Rattle.split_types.specs.declared.workload.Workload.{Workload}
use Rattle.split_types.specs.declared.event.Event.{Event}
use Rattle.split_types.specs.declared.event.Event.TheVariants.{Add}
use Rattle.split_types.specs.History.{◌▹◌}
use Rattle.split_types.specs.Requests.{is_write}
use Rattle.split_types.specs.Blame.{blame}
use Rattle.split_types.specs.DiskBytes.{carried}
use Rattle.split_types.specs.Transactions.{is_of_commit}
use Rattle.split_core.specs.declared.note.pages.Taken.{Taken}

-- what a request that is added after h carries to all its blocks, one after another
abbrev pub all_carried : Workload → List Event → Request → List ℕ
all_carried w h r = flat_map (carried w h r) (range_with_len 0 r.n)

-- these are the bytes that an added write carries
abbrev pub Brings : Workload → List Event → Event → List ℕ → Type 0
Brings w h (Add by r) bytes = IsTrue (is_write r) → bytes ≡ all_carried w h r
Brings w h e bytes = Unit {0}

-- the event adds a request of the commit thread
abbrev pub is_commit_add : Event → Bool
is_commit_add (Add by r) = is_of_commit r
is_commit_add e = false

-- of an added request its tag
abbrev pub IsTagged : List Event → Event → List ℕ → Type 0
IsTagged h (Add by r) tag = tag ≡ blame (h ▹ Add by r) (length h)
IsTagged h e tag = Unit {0}

pub record IsTaken (w : Workload) (h : List Event) (e : Event) (t : Taken) : Type 0 where
  pub bytes : Brings w h e t.cargo
  pub tag : IsTagged h e t.tag
