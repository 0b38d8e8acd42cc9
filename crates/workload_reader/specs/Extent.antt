-- Some bytes of a file.
use Rattle.std.specs.Prelude.{◌≡◌, ℕ, List}
use Rattle.workload_reader.specs.declared.extent.Extent.{Extent}
use Rattle.workload_reader.specs.Fields.{Keeps, IsWithin}

-- these bytes, where their numbers are in their ranges
pub record IsExtent (name : List ℕ) (off len : ℕ) (e : Extent) : Type 0 where
  pub name_is : e.name ≡ name
  pub off_is : Keeps (IsWithin 0 4294967295) off e.off
  pub len_is : Keeps (IsWithin 1 4128768) len e.len
