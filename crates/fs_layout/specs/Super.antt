-- The superblock.
use Rattle.std.specs.Prelude.{ℕ, ◌+◌, List, [], ◌∷◌, ◌++◌, codes}
use Rattle.split_types.specs.DiskLayout.{super_block, IsSuper}
use Rattle.fs_layout.specs.declared.superblock.SuperImage.{SuperImage}

-- what the superblock of a version begins with
abbrev pub label : ℕ → List ℕ
label version = codes "SPLITFS" ++ (48 + version) ∷ []

abbrev pub super_spelling : SuperImage → List ℕ
super_spelling s = super_block s.version s.device

abbrev pub IsSuperImage : SuperImage → Type 0
IsSuperImage s = IsSuper s.version s.device
