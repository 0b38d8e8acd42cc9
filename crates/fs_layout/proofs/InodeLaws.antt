-- Inodes.
use Rattle.std.proofs.Common.{◌≡◌, ℕ, zero, suc, ◌+◌, ◌*◌, ◌^◌, ◌<◌, ◌≤◌, List, [], ◌++◌, length, take, drop, Option, Some, None, refl, sym, ap, ◌∙◌, arith}
use Rattle.std.specs.Prelude.{◌↔◌, IfSome}
use Rattle.std.proofs.lemmas.List.{take_at, drop_at, take_all, length-append}
use Rattle.std.proofs.lemmas.List.Elements.{All-weaker, All-replicate}
use Rattle.split_types.specs.declared.ids.Serial.{Serial}
use Rattle.split_types.specs.DiskLayout.{number, numbers, zeros, zero_block, file_inode, IsPointer}
use Rattle.fs_layout.specs.declared.inode.InodeImage.{InodeImage}
use Rattle.fs_layout.specs.Inodes.{owner_number, inode_of, IsInodeOf, inode_spelling, IsInodeImage}
use Rattle.fs_layout.specs.Fields.{number_at, with_bytes}
use Rattle.fs_layout.proofs.FieldLaws.{AreBytes, length-zeros, zeros-append, number_again, filled_none, filled_bytes, filled_more, filled_all, number_taken, part_taken}
use Rattle.fs_layout.proofs.NumberLaws.{AllFit, length-numbers, same_numbers}

-- ---- zeros

number_zero : number 0 ≡ zeros 4
unfolding zeros
number_zero = refl

pub numbers-zeros : (n : ℕ) → numbers (zeros n) ≡ zeros (4 * n)
unfolding zeros
numbers-zeros zero = refl
numbers-zeros (suc n) =
    let four : 4 * suc n ≡ 4 + 4 * n = omega arith in
    ap (λ (x : List ℕ). number 0 ++ x) (numbers-zeros n) ∙ ap (λ (x : List ℕ). x ++ zeros (4 * n)) number_zero
    ∙ zeros-append 4 (4 * n) ∙ ap zeros (sym four)

AllFit-zeros : (n : ℕ) → AllFit (zeros n)
unfolding zeros
AllFit-zeros n = All-replicate (λ k. k < 2 ^ 32) n 0 (omega arith)

-- what stands in an inode of a free slot
pub record IsFree (b : List ℕ) : Type 0 where
  pub owner : number_at b 0 ≡ 0
  pub size : number_at b 4 ≡ 0
  pub blocks : take 4032 (drop 64 b) ≡ numbers (zeros 1008)

pub is_free : (b : List ℕ) → b ≡ zero_block → IsFree b
unfolding zero_block zeros
is_free b e = record {
  owner = rw e refl;
  size = rw e refl;
  blocks = ap (λ (x : List ℕ). take 4032 (drop 64 x)) e ∙ sym (numbers-zeros 1008);
}

-- what stands in the inode of a file
pub record IsOf (b : List ℕ) (serial : Serial) (size : ℕ) (blocks : List ℕ) : Type 0 where
  pub has_owner : number_at b 0 ≡ serial.0 + 1
  pub has_size : number_at b 4 ≡ size
  pub has_blocks : take 4032 (drop 64 b) ≡ numbers blocks

abbrev head : Serial → ℕ → List ℕ
head serial size = number (serial.0 + 1) ++ number size ++ zeros 56

length-head : (serial : Serial) (size : ℕ) → length (head serial size) ≡ 64
unfolding zeros
length-head serial size = refl

pub is_of : (b : List ℕ) (serial : Serial) (size : ℕ) (blocks : List ℕ) → serial.0 + 1 < 2 ^ 32 → size < 2 ^ 32
    → length blocks ≡ 1008 → b ≡ file_inode serial size blocks → IsOf b serial size blocks
unfolding file_inode
is_of b serial size blocks s z len e = record {
  has_owner = rw e (number_again (serial.0 + 1) s);
  has_size = rw e (number_again size z);
  has_blocks = ap (λ (x : List ℕ). take 4032 (drop 64 x)) e
      ∙ ap (take 4032) (drop_at (head serial size) (numbers blocks) 64 (length-head serial size))
      ∙ take_all 4032 (numbers blocks) (omega (arith, length-numbers blocks));
}

-- ---- the length

pub inode_pages : (device : ℕ) (owner : Option Serial) (size : ℕ) (blocks : List ℕ)
    → IsInodeOf device owner size blocks → IfSome owner (λ serial. length blocks ≡ 1008)
inode_pages device None size blocks value = tt
inode_pages device (Some serial) size blocks value = value.len

length-file_inode : (serial : Serial) (size : ℕ) (blocks : List ℕ) → length blocks ≡ 1008
    → length (file_inode serial size blocks) ≡ 4096
unfolding file_inode
length-file_inode serial size blocks len = omega (
  arith,
  length-append (head serial size) (numbers blocks),
  length-head serial size,
  length-numbers blocks,
)

length-zero_block : length zero_block ≡ 4096
unfolding zero_block
length-zero_block = length-zeros 4096

pub length-inode_of : (device : ℕ) (owner : Option Serial) (size : ℕ) (blocks : List ℕ)
    → IsInodeOf device owner size blocks → length (inode_of owner size blocks) ≡ 4096
length-inode_of device None size blocks value = length-zero_block
length-inode_of device (Some serial) size blocks value = length-file_inode serial size blocks value.len

-- ---- writing

pub inode_written : (serial : Serial) (size : ℕ) (blocks old cleared owned sized done : List ℕ)
    → length blocks ≡ 1008 → length old ≡ 4096 → cleared ≡ zeros (length old)
    → owned ≡ with_bytes cleared 0 (number (serial.0 + 1))
    → sized ≡ with_bytes owned 4 (number size) → done ≡ with_bytes sized 64 (numbers blocks)
    → done ≡ file_inode serial size blocks
unfolding file_inode
inode_written serial size blocks old cleared owned sized done pages len e0 e1 e2 e3 =
    let s0 = filled_none cleared 4096 (e0 ∙ ap zeros len) in
    let s1 = filled_bytes cleared owned [] (number (serial.0 + 1)) 0 4096 4092 s0 e1 refl refl in
    let s2 = filled_bytes owned sized (number (serial.0 + 1)) (number size) 4 4092 4088 s1 e2 refl refl in
    let s3 = filled_more sized (number (serial.0 + 1) ++ number size) 56 4032 4088 refl s2 in
    let s4 = filled_bytes sized done (head serial size) (numbers blocks) 64 4032 0 s3 e3 (length-head serial size)
    (omega (arith, length-numbers blocks)) in
    filled_all done (head serial size ++ numbers blocks) s4

pub zeros_written : (old cleared : List ℕ) → length old ≡ 4096 → cleared ≡ zeros (length old) → cleared ≡ zero_block
unfolding zero_block
zeros_written old cleared len e = e ∙ ap zeros len

-- ---- reading

pub inode_parts : (b : List ℕ) (serial : Serial) (size : ℕ) (blocks : List ℕ) → AreBytes b → length b ≡ 4096
    → serial.0 + 1 ≡ number_at b 0 → size ≡ number_at b 4 → take 4032 (drop 64 b) ≡ numbers blocks
    → (take 56 (drop 8 b) ≡ zeros 56) ↔ (b ≡ file_inode serial size blocks)
unfolding file_inode
inode_parts b serial size blocks bytes len is_owner is_size numbered = (
  λ p.
      let none : take 0 b ≡ [] = refl in
      let first : take 4 b ≡ number (serial.0 + 1) = number_taken b [] 0 bytes (omega arith) none
      ∙ ap number (sym is_owner) in
      let second : take 8 b ≡ number (serial.0 + 1) ++ number size = number_taken b _ 4 bytes (omega arith) first
      ∙ ap (λ (n : ℕ). number (serial.0 + 1) ++ number n) (sym is_size) in
      let third : take 64 b ≡ head serial size = part_taken b _ (zeros 56) 8 56 second p in
      let all : take 4096 b ≡ head serial size ++ numbers blocks = part_taken b _ (numbers blocks) 64 4032 third
      numbered in
      sym (take_all 4096 b (omega arith)) ∙ all,
  λ e. ap (λ (x : List ℕ). take 56 (drop 8 x)) e ∙ take_at (zeros 56) (numbers blocks) 56 (length-zeros 56),
)

pub free_parts : (b : List ℕ) (size : ℕ) (blocks : List ℕ) → length b ≡ 4096 → size ≡ number_at b 4
    → take 4032 (drop 64 b) ≡ numbers blocks → AllFit blocks
    → (take 4096 (drop 0 b) ≡ zeros 4096) ↔ (((size ≡ 0) × (blocks ≡ zeros 1008)) × (b ≡ zero_block))
unfolding zero_block
free_parts b size blocks len is_size numbered fit = (
  λ p.
      let is : b ≡ zero_block = sym (take_all 4096 b (omega arith)) ∙ p in
      let free = is_free b is in (
        (is_size ∙ free.size, same_numbers blocks (zeros 1008) fit (AllFit-zeros 1008) (sym numbered ∙ free.blocks)),
        is,
      ),
  λ q. take_all 4096 b (omega arith) ∙ q.1,
)

owner_again : (owner : Option Serial) (serial : Serial) → owner_number owner ≡ serial.0 + 1 → owner ≡ Some serial
owner_again None serial e = absurd (omega arith)
owner_again (Some s) serial e =
    let same : s.0 ≡ serial.0 = omega arith in
    rw same refl

owner_none : (owner : Option Serial) → owner_number owner ≡ 0 → owner ≡ None
owner_none None e = refl
owner_none (Some s) e = absurd (omega arith)

pub record IsSame (owner owner' : Option Serial) (size size' : ℕ) (blocks blocks' : List ℕ) : Type 0 where
  pub same_owner : owner ≡ owner'
  pub same_size : size ≡ size'
  pub same_blocks : blocks ≡ blocks'

pub inode_again : (device : ℕ) (b : List ℕ) (owner owner' : Option Serial) (size size' : ℕ) (blocks blocks' : List ℕ)
    → device ≤ 32768 → owner_number owner ≡ number_at b 0 → size ≡ number_at b 4
    → take 4032 (drop 64 b) ≡ numbers blocks → AllFit blocks
    → IsInodeOf device owner' size' blocks' → b ≡ inode_of owner' size' blocks'
    → IsSame owner owner' size size' blocks blocks'
inode_again device b owner None size size' blocks blocks' most is_owner is_size numbered fit value e =
    let free = is_free b e in
    record {
      same_owner = owner_none owner (is_owner ∙ free.owner);
      same_size = is_size ∙ free.size ∙ sym value.0;
      same_blocks = same_numbers blocks (zeros 1008) fit (AllFit-zeros 1008) (sym numbered ∙ free.blocks) ∙ sym value.1;
    }
inode_again device b owner (Some serial) size size' blocks blocks' most is_owner is_size numbered fit value e =
    let of = is_of b serial size' blocks' value.serial_fits (omega (arith, value.size_fits)) value.len e in
    let fit' : AllFit blocks' = All-weaker (IsPointer device) (λ n. n < 2 ^ 32) (λ n w. omega (arith, w)) blocks'
    value.pointers in
    record {
      same_owner = owner_again owner serial (is_owner ∙ of.has_owner);
      same_size = is_size ∙ of.has_size;
      same_blocks = same_numbers blocks blocks' fit fit' (sym numbered ∙ of.has_blocks);
    }

pub image_again : (device : ℕ) (b : List ℕ) (y : InodeImage) (owner : Option Serial) (size : ℕ) (blocks : List ℕ)
    → device ≤ 32768 → owner_number owner ≡ number_at b 0 → size ≡ number_at b 4
    → take 4032 (drop 64 b) ≡ numbers blocks → AllFit blocks
    → IsInodeImage device y → b ≡ inode_spelling y
    → (let x : InodeImage = record { owner = owner; size = size; blocks = blocks } in x ≡ y)
image_again device b y owner size blocks most is_owner is_size numbered fit value e =
    let same = inode_again device b owner y.owner size y.size blocks y.blocks most is_owner is_size numbered fit
    value e in
    rw (same.same_owner, same.same_size, same.same_blocks) refl
