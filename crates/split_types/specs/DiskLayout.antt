-- How the metadata lies on the disk: the one spelling of each block, its 4,096 bytes. Numbers take four bytes, the
-- lowest first, and bytes that are not named are 0.
use Rattle.std.specs.Prelude.{◌≡◌, ℕ, zero, suc, ◌+◌, ◌-◌, ◌*◌, ◌^◌, ◌<◌, ◌≤◌, ◌⊎◌, List, ◌∷◌, ◌++◌, length, map, replicate, codes, slice_index_or, Bool, true, false, if◌then◌else◌, IsTrue, All}
use Rattle.std.specs.List.{flat_map, range_with_len}
use Rattle.std.specs.List.Sorted.{IsStrictlyIncreasing}
use Rattle.std.specs.Int.{w32, to_le_bytes}
use Rattle.split_types.specs.declared.ids.Serial.{Serial}
use Rattle.split_types.specs.Names.{is_name}

-- so many bytes 0
unfoldable pub zeros : ℕ → List ℕ
zeros n = replicate n 0

-- a number
abbrev pub number : ℕ → List ℕ
number n = to_le_bytes w32 n

-- numbers, one after another
abbrev pub numbers : List ℕ → List ℕ
numbers ns = flat_map number ns

-- the block without a byte other than 0: a commit block that is cleared, an inode that is free
unfoldable pub zero_block : List ℕ
zero_block = zeros 4096

-- ---- block 0, the superblock: SPLITFS1 or SPLITFS2, the version, the number of blocks of the disk

unfoldable pub super_block : ℕ → ℕ → List ℕ
super_block version device = codes "SPLITFS" ++ (48 + version) ∷ number version ++ number device ++ zeros 4080

-- a version, and a number of blocks that its disks may have
pub record IsSuper (version device : ℕ) : Type 0 where
  pub known : (version ≡ 1) ⊎ (version ≡ 2)
  pub first : version ≡ 1 → 1024 ≤ device
  pub second : version ≡ 2 → 2048 ≤ device
  pub most : device ≤ 32768

-- ---- block 1, the bitmap: a bit for each block of the disk, 1 where the block is used

-- the number of n bits, the first the lowest
abbrev pub number_of_bits : ℕ → (ℕ → Bool) → ℕ
number_of_bits zero bits = 0
number_of_bits (suc n) bits = number_of_bits n (λ i. bits (i + 1)) * 2 + (if bits 0 then 1 else 0)

-- bit i mod 8 of byte i div 8 says whether block i is used
unfoldable pub bitmap_block : (ℕ → Bool) → List ℕ
bitmap_block is_used = map (λ j. number_of_bits 8 (λ k. is_used (8 * j + k))) (range_with_len 0 4096)

-- one entry for each block of a disk of so many blocks, and the blocks of metadata are used
pub record IsBitmap (device : ℕ) (taken : List Bool) : Type 0 where
  pub len : length taken ≡ device
  pub metadata : (i : ℕ) → i < 526 → slice_index_or taken i false ≡ true

-- the block of a list of used blocks: those from its end on are not used
abbrev pub taken_block : List Bool → List ℕ
taken_block taken = bitmap_block (λ i. slice_index_or taken i false)

-- ---- blocks 2 to 5, the directory: 64 entries of 64 bytes, one for each slot

-- an entry: the serial plus 1, the length of the name, the name
unfoldable pub file_entry : Serial → List ℕ → List ℕ
file_entry serial name = number (serial.0 + 1) ++ length name ∷ name ++ zeros (59 - length name)

-- the entry of a free slot
unfoldable pub free_entry : List ℕ
free_entry = zeros 64

-- a serial and a name that an entry may have
pub record IsEntry (serial : Serial) (name : List ℕ) : Type 0 where
  pub serial_fits : serial.0 + 1 < 2 ^ 32
  pub named : IsTrue (is_name name)

-- ---- blocks 6 to 261, the inode of each slot

-- an inode: the serial plus 1, the disk size at 4, from 64 on the block of each of 1,008 pages, 0 where it has none
unfoldable pub file_inode : Serial → ℕ → List ℕ → List ℕ
file_inode serial size blocks = number (serial.0 + 1) ++ number size ++ zeros 56 ++ numbers blocks

-- a block of data of a disk of so many blocks, or none
abbrev pub IsPointer : ℕ → ℕ → Type 0
IsPointer device block = (block ≡ 0) ⊎ ((526 ≤ block) × (block < device))

-- what the inode of a file may have on a disk of so many blocks
pub record IsInode (device : ℕ) (serial : Serial) (size : ℕ) (blocks : List ℕ) : Type 0 where
  pub serial_fits : serial.0 + 1 < 2 ^ 32
  pub size_fits : size ≤ 4128768
  pub len : length blocks ≡ 1008
  pub pointers : All (IsPointer device) blocks

-- ---- the journal

-- a descriptor: SPLITJD1, the transaction, the number of home blocks, the home blocks
unfoldable pub descriptor_block : ℕ → List ℕ → List ℕ
descriptor_block t homes = codes "SPLITJD1" ++ number t ++ number (length homes) ++ numbers homes
    ++ zeros (4080 - 4 * length homes)

-- a transaction and its home blocks: 1 to 261 of blocks 1 to 261, rising
pub record IsDescriptor (t : ℕ) (homes : List ℕ) : Type 0 where
  pub first : 1 ≤ t
  pub fits : t < 2 ^ 32
  pub some : 1 ≤ length homes
  pub few : length homes ≤ 261
  pub rising : IsStrictlyIncreasing homes
  pub within : All (λ home. (1 ≤ home) × (home ≤ 261)) homes

-- a commit block: SPLITJC1, the transaction
unfoldable pub commit_block : ℕ → List ℕ
commit_block t = codes "SPLITJC1" ++ number t ++ zeros 4084

-- a transaction
pub record IsCommit (t : ℕ) : Type 0 where
  pub first : 1 ≤ t
  pub fits : t < 2 ^ 32
