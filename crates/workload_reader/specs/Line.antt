-- The lines of a workload's text, and what they say.
use Rattle.std.specs.Prelude.{◌≡◌, ℕ, ◌+◌, ◌==◌, ◌≤◌, drop, List, [], ◌∷◌, ◌++◌, codes, nat_le, nat_lt, Bool, ◌&&◌}
use Rattle.std.specs.Prelude.{IsTrue, if◌then◌else◌}
use Rattle.split_types.specs.declared.workload.Sched.TheVariants.{Fifo}
use Rattle.split_types.specs.declared.workload.Workload.{Workload}
use Rattle.split_types.specs.Names.{is_name}
use Rattle.split_types.specs.Calls.{name_of}
use Rattle.split_types.specs.Lines.{numeral, line}
use Rattle.split_types.specs.WorkloadText.{sched_word, account_words, process_words, preset_words, call_words}
use Rattle.split_types.specs.WorkloadText.{fail_words, go_words}
use Rattle.workload_reader.specs.declared.line.Line.{Line}
use Rattle.workload_reader.specs.declared.line.Line.TheVariants as kind

abbrev pub line_words : Line → List (List ℕ)
line_words (kind.Version n) = codes "splitload" ∷ numeral n ∷ []
line_words (kind.Device n) = codes "device" ∷ numeral n ∷ []
line_words (kind.Cache n) = codes "cache" ∷ numeral n ∷ []
line_words (kind.Depth n) = codes "depth" ∷ numeral n ∷ []
line_words (kind.Sched s) = codes "sched" ∷ sched_word s ∷ []
line_words (kind.Account a) = account_words a
line_words (kind.Process p) = process_words p
line_words (kind.File f) = preset_words f
line_words (kind.Call p c) = call_words (p, c)
line_words (kind.Fail s) = fail_words s
line_words (kind.Go g) = go_words g
line_words kind.End = codes "end" ∷ []

abbrev pub text_line : Line → List ℕ
text_line l = line (line_words l)

-- what its words don't say: there are three versions, and a name is a name
abbrev pub IsFormed : Line → Type 0
IsFormed (kind.Version n) = (1 ≤ n) × (n ≤ 3)
IsFormed (kind.File f) = IsTrue (is_name f.name)
IsFormed (kind.Call p c) = IsTrue (is_name (name_of c))
IsFormed _ = Unit {0}

-- the lines stand in the order of these places
abbrev pub place : Line → ℕ
place (kind.Version n) = 0
place (kind.Device n) = 1
place (kind.Cache n) = 2
place (kind.Depth n) = 3
place (kind.Sched s) = 4
place (kind.Account a) = 5
place (kind.Process p) = 6
place (kind.File f) = 7
place (kind.Call p c) = 8
place (kind.Fail s) = 9
place (kind.Go g) = 10
place kind.End = 11

-- the place after that of the last of these lines, which stand with the last one first
abbrev pub stage : List Line → ℕ
stage [] = 0
stage (l ∷ before) = place l + 1

-- the first five stand once each; each of the others may stand again, or not at all, but for `end`, after which
-- nothing does
abbrev pub stands : ℕ → ℕ → Bool
stands stage place =
    if nat_lt place 5 then stage == place else nat_le 5 stage && nat_le stage (place + 1) && nat_lt stage 12

abbrev pub may_stand : List Line → Line → Bool
may_stand before l = stands (stage before) (place l)

-- `end` was read
abbrev pub has_ended : List Line → Bool
has_ended before = stage before == 12

-- the text of lines, of which the last stands first
abbrev pub lines_text : List Line → List ℕ
lines_text [] = []
lines_text (l ∷ before) = lines_text before ++ text_line l

-- no line said anything
abbrev pub nothing : Workload
nothing = record {
  version = 0;
  device = 0;
  cache = 0;
  depth = 0;
  sched = Fifo;
  accounts = [];
  procs = [];
  files = [];
  calls = [];
  fails = [];
  go = [];
}

-- what is said with one line more
abbrev pub with_line : Workload → Line → Workload
with_line w (kind.Version n) = record w { version = n }
with_line w (kind.Device n) = record w { device = n }
with_line w (kind.Cache n) = record w { cache = n }
with_line w (kind.Depth n) = record w { depth = n }
with_line w (kind.Sched s) = record w { sched = s }
with_line w (kind.Account a) = record w { accounts = w.accounts ++ a ∷ [] }
with_line w (kind.Process p) = record w { procs = w.procs ++ p ∷ [] }
with_line w (kind.File f) = record w { files = w.files ++ f ∷ [] }
with_line w (kind.Call p c) = record w { calls = w.calls ++ (p, c) ∷ [] }
with_line w (kind.Fail s) = record w { fails = w.fails ++ s ∷ [] }
with_line w (kind.Go g) = record w { go = w.go ++ g ∷ [] }
with_line w kind.End = w

-- what lines say, of which the last stands first
abbrev pub said : List Line → Workload
said [] = nothing
said (l ∷ before) = with_line (said before) l

-- a line whose place is this one, and which is formed
abbrev pub IsAt : ℕ → Line → Type 0
IsAt k l = (place l ≡ k) × IsFormed l

-- the words of a line behind its first one
abbrev pub line_fields : Line → List (List ℕ)
line_fields l = drop 1 (line_words l)
