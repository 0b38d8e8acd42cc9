-- What a workload is: every number in its range, every list within its limit, and nothing named that isn't there.
use Rattle.std.specs.Prelude.{ℕ, ◌+◌, ◌<◌, ◌≤◌, List, length, nat_lt, IsTrue, IsFalse, All, AllPairs, pos, negsuc, ◌≤ℤ◌, if◌then◌else◌}
use Rattle.std.specs.Str.{bytes_eq}
use Rattle.split_types.specs.declared.ids.Pid.{Pid}
use Rattle.split_types.specs.declared.actor.Actor.{Actor}
use Rattle.split_types.specs.declared.actor.Actor.TheVariants.{Client, Dn}
use Rattle.split_types.specs.declared.call.Call.{Call}
use Rattle.split_types.specs.declared.call.Call.TheVariants.{Creat, Write, Read, Fsync, Unlink}
use Rattle.split_types.specs.declared.workload.Account.{Account}
use Rattle.split_types.specs.declared.workload.Process.{Process}
use Rattle.split_types.specs.declared.workload.Preset.{Preset}
use Rattle.split_types.specs.declared.workload.Go.{Go}
use Rattle.split_types.specs.declared.workload.Workload.{Workload}
use Rattle.split_types.specs.Names.{is_name}
use Rattle.split_types.specs.Workloads.{spans, preset_pages, go_turns, first_block}

-- the least number of blocks of a disk
abbrev pub least_device : Workload → ℕ
least_device w = if nat_lt w.version 2 then 1024 else 2048

-- the greatest number of processes
abbrev pub most_processes : Workload → ℕ
most_processes w = if nat_lt w.version 3 then 32 else 256

-- the version, the disk, the cache and the depth
pub record IsMachine (w : Workload) : Type 0 where
  pub version_least : 1 ≤ w.version
  pub version_most : w.version ≤ 3
  pub device_least : least_device w ≤ w.device
  pub device_most : w.device ≤ 32768
  pub cache_least : 2 ≤ w.cache
  pub cache_most : w.cache ≤ 4096
  pub depth_least : 1 ≤ w.depth
  pub depth_most : w.depth ≤ 16

pub record IsAccount (a : Account) : Type 0 where
  pub rate_least : 1 ≤ a.rate
  pub rate_most : a.rate ≤ 1000000
  pub cap_most : a.cap ≤ 1000000000
  pub start_least : negsuc 999999999 ≤ℤ a.start
  pub start_most : a.start ≤ℤ pos 1000000000

pub record AreAccounts (w : Workload) : Type 0 where
  pub few : length w.accounts ≤ 32
  pub each : All IsAccount w.accounts

-- a process whose account is one of so many
pub record IsProcess (accounts : ℕ) (p : Process) : Type 0 where
  pub account_least : 1 ≤ p.account
  pub account_most : p.account ≤ accounts
  pub weight_least : 1 ≤ p.weight
  pub weight_most : p.weight ≤ 1000
  pub deadline_most : p.deadline ≤ 1000000000

pub record AreProcesses (w : Workload) : Type 0 where
  pub few : length w.procs ≤ most_processes w
  pub below_cache : length w.procs < w.cache
  pub each : All (IsProcess (length w.accounts)) w.procs

pub record IsPreset (f : Preset) : Type 0 where
  pub name : IsTrue (is_name f.name)
  pub pages_most : f.pages ≤ 1008
  pub fill_most : f.fill ≤ 255

-- no two have one name, and all fit into the disk
pub record ArePresets (w : Workload) : Type 0 where
  pub few : length w.files ≤ 256
  pub each : All IsPreset w.files
  pub apart : AllPairs (λ f g. IsFalse (bytes_eq f.name g.name)) w.files
  pub fit : first_block w + preset_pages w ≤ w.device

-- some bytes of a file: len of them, from off on
pub record IsRange (name : List ℕ) (off len : ℕ) : Type 0 where
  pub named : IsTrue (is_name name)
  pub off_most : off ≤ 4294967295
  pub len_least : 1 ≤ len
  pub len_most : len ≤ 4128768

abbrev pub IsAsked : Call → Type 0
IsAsked (Creat name) = IsTrue (is_name name)
IsAsked (Write name off len fill) = IsRange name off len × (fill ≤ 255)
IsAsked (Read name off len) = IsRange name off len
IsAsked (Fsync name) = IsTrue (is_name name)
IsAsked (Unlink name) = IsTrue (is_name name)

-- a call of one of so many processes
pub record IsCall (procs : ℕ) (c : Pid × Call) : Type 0 where
  pub by_least : 1 ≤ c.0.0
  pub by_most : c.0.0 ≤ procs
  pub asked : IsAsked c.1

pub record AreCalls (w : Workload) : Type 0 where
  pub few : length w.calls ≤ 65536
  pub few_pages : spans w ≤ 131072
  pub each : All (IsCall (length w.procs)) w.calls

-- the sends that are done badly, each later than the one before
pub record AreFails (w : Workload) : Type 0 where
  pub rising : AllPairs (λ s t. s < t) w.fails
  pub each : All (λ s. s ≤ 4294967295) w.fails

-- an actor whose turns can be given: one of so many processes, the completion at one of the first 16 places in flight,
-- or another
abbrev pub IsTurnOf : ℕ → Actor → Type 0
IsTurnOf procs (Client p) = (1 ≤ p.0) × (p.0 ≤ procs)
IsTurnOf procs (Dn k) = k ≤ 15
IsTurnOf procs _ = Unit {0}

pub record IsGo (procs : ℕ) (g : Go) : Type 0 where
  pub times_least : 1 ≤ g.times
  pub times_most : g.times ≤ 65536
  pub actor : IsTurnOf procs g.actor

pub record AreTurns (w : Workload) : Type 0 where
  pub few : go_turns w ≤ 16777216
  pub each : All (IsGo (length w.procs)) w.go

pub record IsWorkload (w : Workload) : Type 0 where
  pub machine : IsMachine w
  pub accounts : AreAccounts w
  pub processes : AreProcesses w
  pub presets : ArePresets w
  pub calls : AreCalls w
  pub fails : AreFails w
  pub turns : AreTurns w
