-- What the disk that is kept has to do with a history.
use Rattle.std.specs.Prelude.{◌≡◌, ℕ, ◌<◌, ◌≤◌, List, [], length, map, filter, Option, Some, None}
use Rattle.std.specs.VecDeque.{deque_len, deque_capacity}
use Rattle.split_types.specs.declared.ids.ReqId.{ReqId}
use Rattle.split_types.specs.declared.request.Request.{Request}
use Rattle.split_types.specs.declared.workload.Workload.{Workload}
use Rattle.split_types.specs.declared.event.Event.{Event}
use Rattle.split_types.specs.Requests.{is_write, queued, in_flight}
use Rattle.split_types.specs.DiskBytes.{Adding, adding, start_metadata, start_block, disk_block}
use Rattle.sim_disk.specs.Bytes.{filled, block_at}
use Rattle.sim_disk.specs.Medium as disk
use Rattle.sim_disk.specs.Medium.{InFlight}
use Rattle.split_core.specs.Takings.{all_carried}
use Rattle.split_core.specs.declared.note.medium.Medium.{Medium}

-- a disk whose first n blocks hold metadata as it is before any event, and all others zeros; nothing is in flight
pub record HasMetadata (w : Workload) (d : disk.Medium) (n : ℕ) : Type 0 where
  pub size : length d.blocks ≡ w.device
  pub writes : d.writes ≡ []
  pub metadata : (x : ℕ) → x < n → block_at d.blocks x ≡ start_metadata w x
  pub zeros : (x : ℕ) → n ≤ x → x < w.device → block_at d.blocks x ≡ filled 0

-- a disk before any event: nothing is in flight
pub record IsStart (w : Workload) (d : disk.Medium) : Type 0 where
  pub size : length d.blocks ≡ w.device
  pub blocks : (x : ℕ) → x < w.device → block_at d.blocks x ≡ start_block w x
  pub writes : d.writes ≡ []

-- what an added request carries; one that was never added carries nothing
abbrev pub carried_by : Workload → Option Adding → List ℕ
carried_by w None = []
carried_by w (Some a) = all_carried w a.before a.request

-- what the request of a number carries
abbrev pub cargo : Workload → List Event → ReqId → List ℕ
cargo w h id = carried_by w (adding h id)

-- the write of a request in flight
abbrev pub flying : Workload → List Event → Request → InFlight
flying w h r = record { id = r.id; first = r.first; bytes = cargo w h r.id }

pub record MediumStands (w : Workload) (m : Medium) (h : List Event) : Type 0 where
  pub size : length m.disk.blocks ≡ w.device
  pub blocks : (x : ℕ) → x < w.device → block_at m.disk.blocks x ≡ disk_block w h x
  pub writes : m.disk.writes ≡ map (flying w h) (filter is_write (in_flight h))
  pub carried : m.carried.items ≡ map (λ r. cargo w h r.id) (filter is_write (queued h))

-- there is room for one more write
pub record HasMediumRoom (m : Medium) : Type 0 where
  pub disk : 0 < m.disk.spare
  pub carried : deque_len m.carried < deque_capacity m.carried
