-- What an accepted workload asks: of its disk, and of each call.
use Rattle.std.proofs.Common.{◌≡◌, ℕ, ◌+◌, ◌≤◌, length, slice_get, filter, nat_lt, Bool, true, false, not, Some, refl, arith, subst, if◌then◌else◌}
use Rattle.std.proofs.lemmas.Bool.{lt-ltb}
use Rattle.std.proofs.lemmas.List.{length-map}
use Rattle.std.proofs.lemmas.List.Filters.{length-filter_both}
use Rattle.split_types.specs.declared.ids.Pid.{Pid}
use Rattle.split_types.specs.declared.call.Call.{Call}
use Rattle.split_types.specs.declared.call.Call.TheVariants.{Creat, Write, Read, Fsync, Unlink}
use Rattle.split_types.specs.declared.workload.Workload.{Workload}
use Rattle.split_types.specs.Workloads.{preset_pages, first_block, calls_of, is_call_of}
use Rattle.split_types.specs.IsWorkload.{IsCall, IsAsked, most_processes}
use Rattle.split_types.specs.Accepted.{IsAccepted}
use Rattle.split_types.specs.Pieces.{bytes_to_move}
use Rattle.split_types.proofs.Lists.{all_at, filter_there, map_there}

-- data begins at block 526 or behind it, and there are at most 32 processes
pub data_from : (w : Workload) → 526 ≤ first_block w
data_from w = by_test (nat_lt w.version 2)
  where
    by_test : (b : Bool) → 526 ≤ (if b then 526 else 1318)
    by_test true = omega arith
    by_test false = omega arith

pub procs_most : (w : Workload) → IsAccepted w → length w.procs ≤ 32
procs_most w accepted = subst (λ n. length w.procs ≤ n) most accepted.workload.processes.few
  where
    early : nat_lt w.version 3 ≡ true
    early = lt-ltb w.version 3 (omega (arith, accepted.built.version))

    most : most_processes w ≡ 32
    most = rw early refl

-- the preset files end within the disk
pub data_within : (w : Workload) → IsAccepted w → first_block w + preset_pages w ≤ 32768
data_within w accepted =
    omega (arith, accepted.workload.presets.fit, accepted.workload.machine.device_most)

-- each call of a process is one that may be asked for
pub call_is : (w : Workload) → IsAccepted w → (p i : ℕ) (c : Call) → slice_get (calls_of w p) i ≡ Some c → IsAsked c
call_is w accepted p i c at =
    let from = map_there (λ (x : Pid × Call). x.1) _ i c at
    in let line = filter_there (is_call_of p) w.calls i from.0 from.1
    in let asked : IsCall (length w.procs) from.0 =
    all_at (IsCall (length w.procs)) w.calls line.0 from.0 accepted.workload.calls.each line.1
    in subst IsAsked from.2 asked.asked

-- a process has no more calls than there are
pub calls_most : (w : Workload) (p : ℕ) → length (calls_of w p) ≤ length w.calls
calls_most w p = omega (
  arith,
  length-map (filter (is_call_of p) w.calls) (λ c. c.1),
  length-filter_both (is_call_of p) (λ c. not (is_call_of p c)) (λ c. refl) w.calls,
)

-- no call moves more bytes than a file has
pub moves_most : (c : Call) (size : ℕ) → IsAsked c → bytes_to_move c size ≤ 4128768
moves_most (Creat name) size asked = omega arith
moves_most (Write name off len fill) size asked = asked.0.len_most
moves_most (Read name off len) size asked = omega (arith, asked.len_most)
moves_most (Fsync name) size asked = omega arith
moves_most (Unlink name) size asked = omega arith
