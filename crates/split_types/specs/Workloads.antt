-- What a workload asks for.
use Rattle.std.specs.Prelude.{ℕ, ◌+◌, ◌-◌, ◌*◌, ◌/◌, ◌==◌, List, [], ◌∷◌, ◌++◌, length, map, filter, position, take, slice_get, sum_by, nat_lt, Bool, Option, option_map, unwrap_or, if◌then◌else◌}
use Rattle.std.specs.List.{range_with_len}
use Rattle.std.specs.Str.{bytes_eq}
use Rattle.split_types.specs.declared.ids.Pid.{Pid}
use Rattle.split_types.specs.declared.buf.Buf.{Buf}
use Rattle.split_types.specs.declared.call.Call.{Call}
use Rattle.split_types.specs.declared.call.Call.TheVariants.{Write, Read}
use Rattle.split_types.specs.declared.workload.Preset.{Preset}
use Rattle.split_types.specs.declared.workload.Workload.{Workload}
use Rattle.split_types.specs.Parents.{pages_of}

-- the numbers of the processes
abbrev pub processes : Workload → List ℕ
processes w = range_with_len 1 (length w.procs)

-- a call of process p
abbrev pub is_call_of : ℕ → Pid × Call → Bool
is_call_of p c = c.0.0 == p

-- the calls of process p, in the order of the text
abbrev pub calls_of : Workload → ℕ → List Call
calls_of w p = map (λ c. c.1) (filter (is_call_of p) w.calls)

-- the number of pages that a range of bytes spans
abbrev pub pages_spanned : ℕ → ℕ → ℕ
pages_spanned off len = (off + len - 1) / 4096 - off / 4096 + 1

-- the number of pages that a call spans: of a read or a write
abbrev pub span : Call → ℕ
span (Write name off len fill) = pages_spanned off len
span (Read name off len) = pages_spanned off len
span _ = 0

-- the number of pages that all reads and writes span
abbrev pub spans : Workload → ℕ
spans w = sum_by (λ c. span c.1) w.calls

-- the number of turns that all `go` lines give
abbrev pub go_turns : Workload → ℕ
go_turns w = sum_by (λ g. g.times) w.go

-- more events than a legal history has
abbrev pub bound : Workload → ℕ
bound w = 128 * (length w.calls + spans w) + 1

-- the serial of the preset file of a name
abbrev pub file_named : List Preset → List ℕ → Option ℕ
file_named files name = position (λ f. bytes_eq f.name name) files

-- the number of pages of the preset file of this serial; 0 where there is none
abbrev pub pages_in : Workload → ℕ → ℕ
pages_in w s = unwrap_or (option_map (λ f. f.pages) (slice_get w.files s)) 0

-- the place of page g of a preset file among the pages of all preset files
abbrev pub page_index : Workload → ℕ → ℕ → ℕ
page_index w s g = sum_by (λ f. f.pages) (take s w.files) + g

-- the first block of data
abbrev pub first_block : Workload → ℕ
first_block w = if nat_lt w.version 2 then 526 else 1318

-- the block of page g of a preset file: their pages stand one after another from the first block of data on
abbrev pub page_block : Workload → ℕ → ℕ → ℕ
page_block w s g = first_block w + page_index w s g

-- the pages of these files, of which the first has serial s
abbrev pub pages_from : ℕ → List Preset → List Buf
pages_from s [] = []
pages_from s (f ∷ fs) = pages_of (record { 0 = s }) 0 f.pages ++ pages_from (s + 1) fs

-- the pages of all preset files, by rising serial and page
abbrev pub all_pages : Workload → List Buf
all_pages w = pages_from 0 w.files

-- the number of pages of all preset files
abbrev pub preset_pages : Workload → ℕ
preset_pages w = sum_by (λ f. f.pages) w.files
