-- What is kept beside a workload while its lines are read.
use Rattle.std.specs.Prelude.{◌≡◌, ℕ, ◌≤◌, List, length, Option}
use Rattle.split_types.specs.declared.workload.Workload.{Workload}
use Rattle.split_types.specs.Workloads.{preset_pages, spans, go_turns}
use Rattle.workload_reader.specs.declared.file_name.FileName.{FileName}
use Rattle.workload_reader.specs.FileNames.{AreNames}
use Rattle.workload_reader.specs.Rising.{IsLeastAbove}

-- sums over its lines, the least send that may be next, and the names of its files
pub record StandsFor (w : Workload) (pages spanned turns least_fail : ℕ) (names : List (Option FileName)) : Type 0 where
  pub pages_are : pages ≡ preset_pages w
  pub spanned_is : spanned ≡ spans w
  pub turns_are : turns ≡ go_turns w
  pub least_is : IsLeastAbove least_fail w.fails
  pub names_are : AreNames names w.files
  pub few_accounts : length w.accounts ≤ 32
  pub few_procs : length w.procs ≤ 256
  pub device_most : w.device ≤ 32768
  pub few_files : length w.files ≤ 256
  pub few_pages : pages ≤ 32768
  pub few_spanned : spanned ≤ 131072
  pub few_turns : turns ≤ 16777216
