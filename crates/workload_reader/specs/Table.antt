-- What is asked of a line, given what the lines before it say; and the first thing that it fails.
use Rattle.std.specs.Prelude.{◌≡◌, ℕ, ◌+◌, ◌≤◌, ◌<◌, length, All, IsFalse}
use Rattle.std.specs.Str.{bytes_eq}
use Rattle.split_types.specs.declared.actor.Actor.{Actor}
use Rattle.split_types.specs.declared.actor.Actor.TheVariants.{Client, Dn}
use Rattle.split_types.specs.declared.call.Call.{Call}
use Rattle.split_types.specs.declared.call.Call.TheVariants as call
use Rattle.split_types.specs.declared.workload.Sched.TheVariants.{Fifo}
use Rattle.split_types.specs.declared.workload.Process.{Process}
use Rattle.split_types.specs.declared.workload.Preset.{Preset}
use Rattle.split_types.specs.declared.workload.Go.{Go}
use Rattle.split_types.specs.declared.workload.Workload.{Workload}
use Rattle.split_types.specs.Workloads.{span, spans, preset_pages, go_turns, first_block}
use Rattle.split_types.specs.IsWorkload.{IsAccount, least_device, most_processes}
use Rattle.workload_reader.specs.declared.cause.Cause.{Cause}
use Rattle.workload_reader.specs.declared.cause.Cause.TheVariants as cause
use Rattle.workload_reader.specs.declared.line.Line.{Line}
use Rattle.workload_reader.specs.declared.line.Line.TheVariants as kind

-- a process's weight and deadline, its account apart
pub record IsProcessInRange (p : Process) : Type 0 where
  pub weight_least : 1 ≤ p.weight
  pub weight_most : p.weight ≤ 1000
  pub deadline_most : p.deadline ≤ 1000000000

pub record IsPresetInRange (f : Preset) : Type 0 where
  pub pages_most : f.pages ≤ 1008
  pub fill_most : f.fill ≤ 255

-- some bytes of a file: len of them, from off on
pub record IsRangeInRange (off len : ℕ) : Type 0 where
  pub off_most : off ≤ 4294967295
  pub len_least : 1 ≤ len
  pub len_most : len ≤ 4128768

abbrev pub IsCallInRange : Call → Type 0
IsCallInRange (call.Write name off len fill) = IsRangeInRange off len × (fill ≤ 255)
IsCallInRange (call.Read name off len) = IsRangeInRange off len
IsCallInRange _ = Unit {0}

-- the place of a completion in flight
abbrev pub IsPlaceInRange : Actor → Type 0
IsPlaceInRange (Dn k) = k ≤ 15
IsPlaceInRange _ = Unit {0}

pub record IsGoInRange (g : Go) : Type 0 where
  pub times_least : 1 ≤ g.times
  pub times_most : g.times ≤ 65536
  pub place : IsPlaceInRange g.actor

-- every number is in its range, and a send's number is above the one before
abbrev pub InRange : Workload → Line → Type 0
InRange w (kind.Device n) = (least_device w ≤ n) × (n ≤ 32768)
InRange w (kind.Cache n) = (2 ≤ n) × (n ≤ 4096)
InRange w (kind.Depth n) = (1 ≤ n) × (n ≤ 16)
InRange w (kind.Account a) = IsAccount a
InRange w (kind.Process p) = IsProcessInRange p
InRange w (kind.File f) = IsPresetInRange f
InRange w (kind.Call p c) = IsCallInRange c
InRange w (kind.Fail s) = (s ≤ 4294967295) × All (λ t. t < s) w.fails
InRange w (kind.Go g) = IsGoInRange g
InRange w _ = Unit {0}

-- one of so many
pub record IsOneOf (n k : ℕ) : Type 0 where
  pub least : 1 ≤ k
  pub most : k ≤ n

-- an actor that is no client, or that of one of so many processes
abbrev pub IsActorOf : ℕ → Actor → Type 0
IsActorOf procs (Client p) = IsOneOf procs p.0
IsActorOf procs _ = Unit {0}

-- the account or the process that it names exists
abbrev pub Refers : Workload → Line → Type 0
Refers w (kind.Process p) = IsOneOf (length w.accounts) p.account
Refers w (kind.Call p c) = IsOneOf (length w.procs) p.0
Refers w (kind.Go g) = IsActorOf (length w.procs) g.actor
Refers w _ = Unit {0}

-- no file has its name
abbrev pub IsNew : Workload → Line → Type 0
IsNew w (kind.File f) = All (λ g. IsFalse (bytes_eq g.name f.name)) w.files
IsNew w _ = Unit {0}

-- with it there are few enough
abbrev pub IsFew : Workload → Line → Type 0
IsFew w (kind.Account a) = length w.accounts + 1 ≤ 32
IsFew w (kind.Process p) = (length w.procs + 1 ≤ most_processes w) × (length w.procs + 1 < w.cache)
IsFew w (kind.File f) = length w.files + 1 ≤ 256
IsFew w (kind.Call p c) = (length w.calls + 1 ≤ 65536) × (spans w + span c ≤ 131072)
IsFew w (kind.Go g) = go_turns w + g.times ≤ 16777216
IsFew w _ = Unit {0}

-- with it the files fit into the disk
abbrev pub Fits : Workload → Line → Type 0
Fits w (kind.File f) = first_block w + preset_pages w + f.pages ≤ w.device
Fits w _ = Unit {0}

-- what it asks for is built
abbrev pub IsBuiltLine : Line → Type 0
IsBuiltLine (kind.Version n) = n ≤ 2
IsBuiltLine (kind.Sched s) = s ≡ Fifo
IsBuiltLine (kind.Fail s) = ⊥
IsBuiltLine _ = Unit {0}

-- nothing is wrong with it
pub record IsRight (w : Workload) (l : Line) : Type 0 where
  pub in_range : InRange w l
  pub refers : Refers w l
  pub new : IsNew w l
  pub few : IsFew w l
  pub fits : Fits w l
  pub built : IsBuiltLine l

-- the first thing that is wrong with it
abbrev pub Fails : Workload → Line → Cause → Type 0
Fails w l cause.Range = InRange w l → ⊥
Fails w l cause.Ref = InRange w l × (Refers w l → ⊥)
Fails w l cause.Name = InRange w l × Refers w l × (IsNew w l → ⊥)
Fails w l cause.Limit = InRange w l × Refers w l × IsNew w l × (IsFew w l → ⊥)
Fails w l cause.Space = InRange w l × Refers w l × IsNew w l × IsFew w l × (Fits w l → ⊥)
Fails w l cause.NotBuilt = InRange w l × Refers w l × IsNew w l × IsFew w l × Fits w l × (IsBuiltLine l → ⊥)
Fails w l _ = ⊥
