-- Descriptors and commit blocks.
use Rattle.std.specs.Prelude.{ℕ, List}
use Rattle.split_types.specs.declared.ids.Txn.{Txn}
use Rattle.split_types.specs.DiskLayout.{descriptor_block, commit_block, IsDescriptor, IsCommit}
use Rattle.fs_layout.specs.declared.journal.Desc.{Desc}

abbrev pub commit_spelling : Txn → List ℕ
commit_spelling t = commit_block t.0

abbrev pub IsCommitImage : Txn → Type 0
IsCommitImage t = IsCommit t.0

abbrev pub descriptor_spelling : Desc → List ℕ
descriptor_spelling d = descriptor_block d.t.0 d.homes

abbrev pub IsDescriptorImage : Desc → Type 0
IsDescriptorImage d = IsDescriptor d.t.0 d.homes
