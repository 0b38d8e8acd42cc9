-- The workload that is made from a number.
use Rattle.std.specs.Prelude.{ℕ, zero, suc, ◌+◌, ◌*◌, ◌/◌, ◌%◌, ◌^◌, ◌==◌, List, [], ◌∷◌, ◌++◌, map, replicate}
use Rattle.std.specs.Prelude.{count_by, codes, nat_lt, if◌then◌else◌, pos}
use Rattle.std.specs.List.{range_with_len}
use Rattle.split_types.specs.declared.ids.Pid.{Pid}
use Rattle.split_types.specs.declared.call.Call.{Call}
use Rattle.split_types.specs.declared.call.Call.TheVariants.{Creat, Write, Read, Fsync, Unlink}
use Rattle.split_types.specs.declared.workload.Sched.TheVariants.{Token}
use Rattle.split_types.specs.declared.workload.Account.{Account}
use Rattle.split_types.specs.declared.workload.Process.{Process}
use Rattle.split_types.specs.declared.workload.Preset.{Preset}
use Rattle.split_types.specs.declared.workload.Workload.{Workload}
use Rattle.split_types.specs.Lines.{numeral}

-- what the draws come from, after i of them: n at first, and then each time from the one before
unfoldable pub state : ℕ → ℕ → ℕ
state n zero = n
state n (suc i) = (1664525 * state n i + 1013904223) % 2 ^ 32

-- draw i, counted from 0: one of the numbers below k
abbrev pub drawn : ℕ → ℕ → ℕ → ℕ
drawn n i k = state n (i + 1) / 65536 % k

-- a call takes four draws: who calls, what it does, to which file, and how far into it
unfoldable pub caller : ℕ → ℕ → ℕ
caller n i = 1 + drawn n (4 * i) 8

abbrev pub action : ℕ → ℕ → ℕ
action n i = drawn n (4 * i + 1) 8

abbrev pub target : ℕ → ℕ → ℕ
target n i = drawn n (4 * i + 2) 32

abbrev pub step : ℕ → ℕ → ℕ
step n i = drawn n (4 * i + 3) 8

-- m, and a number
abbrev pub numbered : ℕ → List ℕ
numbered k = 109 ∷ numeral k

-- what processes 1 to 7 do to one of 32 files
abbrev pub mail_call : ℕ → ℕ → ℕ → Call
mail_call action k step =
    if nat_lt action 2 then Creat (numbered k) else
    (if nat_lt action 5 then Write (numbered k) (1000 * step) 3000 k else
    (if action == 5 then Read (numbered k) 0 8192 else
    (if action == 6 then Fsync (numbered k) else Unlink (numbered k))))

-- what process 8 does where it has called j times: it writes its log page by page, and begins again after 1,000 pages
abbrev pub log_call : ℕ → Call
log_call j = Write (codes "log") (4096 * (j % 1000)) 4096 (j % 256)

-- how many of the first i calls are those of process 8
abbrev pub logged : ℕ → ℕ → ℕ
logged n i = count_by (λ p. p == 8) (map (caller n) (range_with_len 0 i))

abbrev pub asked : ℕ → ℕ → Call
asked n i = if caller n i == 8 then log_call (logged n i) else mail_call (action n i) (target n i) (step n i)

-- call i, counted from 0
unfoldable pub call : ℕ → ℕ → Pid × Call
call n i = (record { 0 = caller n i }, asked n i)

unfoldable pub calls : ℕ → ℕ → List (Pid × Call)
calls n count = map (call n) (range_with_len 0 count)

abbrev pub large_account : Account
large_account = record { rate = 100; cap = 10000; start = pos 10000 }

abbrev pub small_account : Account
small_account = record { rate = 20; cap = 2000; start = pos 2000 }

abbrev pub process : ℕ → Process
process account = record { account = account; weight = 1; deadline = 1000 }

abbrev pub log_file : Preset
log_file = record { name = codes "log"; pages = 0; fill = 0 }

-- two accounts, seven processes of the first and one of the second, an empty log, and 4,096 calls
abbrev pub generated : ℕ → Workload
generated n = record {
  version = 1;
  device = 32768;
  cache = 1024;
  depth = 4;
  sched = Token;
  accounts = large_account ∷ small_account ∷ [];
  procs = replicate 7 (process 1) ++ process 2 ∷ [];
  files = log_file ∷ [];
  calls = calls n 4096;
  fails = [];
  go = [];
}
