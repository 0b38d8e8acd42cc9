-- The text of a workload.
use Rattle.std.specs.Prelude.{◌≡◌, ℕ, ◌≤◌, List, [], ◌∷◌, ◌++◌, length, codes}
use Rattle.split_types.specs.declared.ids.Pid.{Pid}
use Rattle.split_types.specs.declared.call.Call.{Call}
use Rattle.split_types.specs.declared.call.Call.TheVariants.{Creat, Write, Read, Fsync, Unlink}
use Rattle.split_types.specs.declared.workload.Sched.{Sched}
use Rattle.split_types.specs.declared.workload.Sched.TheVariants.{Fifo, Afq, Deadline, Token}
use Rattle.split_types.specs.declared.workload.Account.{Account}
use Rattle.split_types.specs.declared.workload.Process.{Process}
use Rattle.split_types.specs.declared.workload.Preset.{Preset}
use Rattle.split_types.specs.declared.workload.Go.{Go}
use Rattle.split_types.specs.declared.workload.Workload.{Workload}
use Rattle.split_types.specs.Lines.{numeral, signed_numeral, line, lines_of, actor_word}
use Rattle.split_types.specs.Accepted.{IsAccepted}

abbrev pub sched_word : Sched → List ℕ
sched_word Fifo = codes "fifo"
sched_word Afq = codes "afq"
sched_word Deadline = codes "deadline"
sched_word Token = codes "token"

-- what follows the first word of an account's line, and likewise of the others
abbrev pub account_fields : Account → List (List ℕ)
account_fields a = numeral a.rate ∷ numeral a.cap ∷ signed_numeral a.start ∷ []

abbrev pub process_fields : Process → List (List ℕ)
process_fields p = numeral p.account ∷ numeral p.weight ∷ numeral p.deadline ∷ []

abbrev pub preset_fields : Preset → List (List ℕ)
preset_fields f = f.name ∷ numeral f.pages ∷ numeral f.fill ∷ []

abbrev pub action_fields : Call → List (List ℕ)
action_fields (Creat name) = codes "creat" ∷ name ∷ []
action_fields (Write name off len fill) = codes "write" ∷ name ∷ numeral off ∷ numeral len ∷ numeral fill ∷ []
action_fields (Read name off len) = codes "read" ∷ name ∷ numeral off ∷ numeral len ∷ []
action_fields (Fsync name) = codes "fsync" ∷ name ∷ []
action_fields (Unlink name) = codes "unlink" ∷ name ∷ []

abbrev pub call_fields : Pid × Call → List (List ℕ)
call_fields c = numeral c.0.0 ∷ action_fields c.1

abbrev pub go_fields : Go → List (List ℕ)
go_fields g = actor_word g.actor ∷ numeral g.times ∷ []

abbrev pub account_words : Account → List (List ℕ)
account_words a = codes "account" ∷ account_fields a

abbrev pub process_words : Process → List (List ℕ)
process_words p = codes "proc" ∷ process_fields p

abbrev pub preset_words : Preset → List (List ℕ)
preset_words f = codes "file" ∷ preset_fields f

abbrev pub call_words : Pid × Call → List (List ℕ)
call_words c = codes "call" ∷ call_fields c

abbrev pub fail_words : ℕ → List (List ℕ)
fail_words send = codes "fail" ∷ numeral send ∷ []

abbrev pub go_words : Go → List (List ℕ)
go_words g = codes "go" ∷ go_fields g

-- the lines of a workload, from `splitload` to `end`
abbrev pub workload_text : Workload → List ℕ
workload_text w =
    line (codes "splitload" ∷ numeral w.version ∷ [])
    ++ line (codes "device" ∷ numeral w.device ∷ [])
    ++ line (codes "cache" ∷ numeral w.cache ∷ [])
    ++ line (codes "depth" ∷ numeral w.depth ∷ [])
    ++ line (codes "sched" ∷ sched_word w.sched ∷ [])
    ++ lines_of account_words w.accounts
    ++ lines_of process_words w.procs
    ++ lines_of preset_words w.files
    ++ lines_of call_words w.calls
    ++ lines_of fail_words w.fails
    ++ lines_of go_words w.go
    ++ line (codes "end" ∷ [])

-- the bytes are the text of this workload, which is accepted, and not too long
pub record Spells (text : List ℕ) (w : Workload) : Type 0 where
  pub accepted : IsAccepted w
  pub text_is : text ≡ workload_text w
  pub short : length text ≤ 16777216
