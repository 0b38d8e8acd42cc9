-- Places that stand for the blocks of metadata, from block 1 on.
use Rattle.std.specs.Prelude.{◌≡◌, ℕ, ◌+◌, ◌-◌, ◌^◌, ◌<◌, ◌≤◌, List, [], ◌∷◌, length, replicate, drop, Option, Some, None}
use Rattle.split_types.specs.declared.buf.Buf.{Buf}
use Rattle.split_types.specs.declared.buf.Buf.TheVariants.{Page, Bitmap, Dir, Inode}
use Rattle.split_types.specs.Parents.{buffer_at}
use Rattle.split_types.specs.LiveFiles.{Slots, metadata_block}

-- the place of a buffer
abbrev pub place_of : Buf → ℕ
place_of Bitmap = 0
place_of (Dir k) = 1 + k
place_of (Inode slot) = 5 + slot.0
place_of (Page serial page) = 0

-- the blocks whose places aren't empty, rising; the first place is that of this block
abbrev pub blocks_from : {X : Type 0} → ℕ → List (Option X) → List ℕ
blocks_from block [] = []
blocks_from block (None ∷ places) = blocks_from (block + 1) places
blocks_from block (Some x ∷ places) = block ∷ blocks_from (block + 1) places

abbrev pub blocks_of : {X : Type 0} → List (Option X) → List ℕ
blocks_of places = blocks_from 1 places

-- the images, where those whose places in a list aren't empty are taken anew; the first is that of this block
abbrev pub taken_from : {X : Type 0} → (ℕ → List ℕ) → ℕ → List (Option X) → List (List ℕ) → List (List ℕ)
taken_from image block [] images = images
taken_from image block (place ∷ places) [] = []
taken_from image block (None ∷ places) (old ∷ images) = old ∷ taken_from image (block + 1) places images
taken_from image block (Some x ∷ places) (old ∷ images) = image block ∷ taken_from image (block + 1) places images

-- the images, where those of marked buffers are what their blocks are with these files
abbrev pub images_taken : {X : Type 0} → ℕ → Slots → List (Option X) → List (List ℕ) → List (List ℕ)
images_taken first slots marks images =
    taken_from (λ block. metadata_block first slots (buffer_at block)) 1 marks images

-- how many places have something
pub record IsCounted {X : Type 0} (places : List (Option X)) (taken : ℕ) : Type 0 where
  pub few : length places < 2 ^ 32
  pub counted : taken ≡ length (blocks_of places)

-- the place of a block, if there is one
abbrev pub place_in : Option ℕ → ℕ
place_in None = 0
place_in (Some block) = block - 1

-- the blocks of a round: a second list is empty, and behind those that were carried the listed homes are those of the
-- places that have something
pub record IsRound {X : Type 0} (places next : List (Option X)) (homes : List ℕ) (carried room : ℕ) : Type 0 where
  pub few : length places < 2 ^ 32
  pub empty : next ≡ replicate (length places) None
  pub enough : length places ≤ room
  pub left : drop carried homes ≡ blocks_of places
  pub within : carried ≤ length homes
