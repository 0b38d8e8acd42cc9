-- The names of files, by their places.
use Rattle.std.specs.Prelude.{◌≡◌, ℕ, ◌+◌, ◌*◌, ◌%◌, ◌^◌, ◌≤◌, List, fold, slice_get, slice_index_or, length, Option}
use Rattle.std.specs.Prelude.{Some, None}
use Rattle.split_types.specs.declared.workload.Preset.{Preset}
use Rattle.workload_reader.specs.declared.file_name.FileName.{FileName}

-- a number that tells most names apart
abbrev pub code_of : List ℕ → ℕ
code_of name = fold (λ code byte. (code * 31 % 2 ^ 64 + byte) % 2 ^ 64) 0 name

-- the first places hold the names of these files in order, and the others nothing
pub record AreNames (keys : List (Option FileName)) (files : List Preset) : Type 0 where
  pub places : length keys ≡ 256
  pub held : (i : ℕ) (f : Preset) → slice_get files i ≡ Some f
      → slice_index_or keys i None ≡ Some (record { 0 = f.name })
  pub empty : (i : ℕ) → length files ≤ i → slice_index_or keys i None ≡ None
