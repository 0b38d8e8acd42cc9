-- Inodes.
use Rattle.std.specs.Prelude.{◌≡◌, ℕ, ◌+◌, List, Option, Some, None}
use Rattle.split_types.specs.declared.ids.Serial.{Serial}
use Rattle.split_types.specs.DiskLayout.{zeros, zero_block, file_inode, IsInode}
use Rattle.fs_layout.specs.declared.inode.InodeImage.{InodeImage}

-- the number that names an owner
abbrev pub owner_number : Option Serial → ℕ
owner_number None = 0
owner_number (Some serial) = serial.0 + 1

-- the inode of a file, or of a free slot
abbrev pub inode_of : Option Serial → ℕ → List ℕ → List ℕ
inode_of None size blocks = zero_block
inode_of (Some serial) size blocks = file_inode serial size blocks

-- what it may have on a disk of so many blocks: for a free slot size 0 and no blocks
abbrev pub IsInodeOf : ℕ → Option Serial → ℕ → List ℕ → Type 0
IsInodeOf device None size blocks = (size ≡ 0) × (blocks ≡ zeros 1008)
IsInodeOf device (Some serial) size blocks = IsInode device serial size blocks

abbrev pub inode_spelling : InodeImage → List ℕ
inode_spelling i = inode_of i.owner i.size i.blocks

abbrev pub IsInodeImage : ℕ → InodeImage → Type 0
IsInodeImage device i = IsInodeOf device i.owner i.size i.blocks
