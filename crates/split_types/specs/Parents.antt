-- Parents: the earlier events for which an event is made.
use Rattle.std.specs.Prelude.{ℕ, ◌+◌, ◌-◌, ◌==◌, List, [], ◌∷◌, ◌++◌, length, map, if◌then◌else◌, nat_lt}
use Rattle.std.specs.List.{flat_map, range_with_len}
use Rattle.split_types.specs.declared.ids.Serial.{Serial}
use Rattle.split_types.specs.declared.buf.Buf.{Buf}
use Rattle.split_types.specs.declared.buf.Buf.TheVariants.{Page, Bitmap, Dir, Inode}
use Rattle.split_types.specs.declared.request.ReqKind.{ReqKind}
use Rattle.split_types.specs.declared.request.ReqKind.TheVariants.{Read, Pages, Log, Commit, Home, Clear}
use Rattle.split_types.specs.declared.request.Request.{Request}
use Rattle.split_types.specs.declared.event.Event.{Event}
use Rattle.split_types.specs.declared.event.Event.TheVariants.{Serve, Map, Seal, Add}
use Rattle.split_types.specs.History.{◌▹◌}
use Rattle.split_types.specs.OpenDirtyings.{open_at}
use Rattle.split_types.specs.Rounds.{seal_place, round_of}

-- the n pages of a file from this page on
abbrev pub pages_of : Serial → ℕ → ℕ → List Buf
pages_of s g n = map (Page s) (range_with_len g n)

-- the blocks of metadata, by rising block
unfoldable pub metadata_buffers : List Buf
metadata_buffers =
    Bitmap ∷ map Dir (range_with_len 0 4) ++ map (λ slot. Inode (record { 0 = slot })) (range_with_len 0 256)

-- the buffer of a block of metadata
abbrev pub buffer_at : ℕ → Buf
buffer_at block =
    if block == 1 then Bitmap else if nat_lt block 6 then Dir (block - 2) else Inode (record { 0 = block - 6 })

-- the block of a buffer of metadata
abbrev pub home_block : Buf → ℕ
home_block Bitmap = 1
home_block (Dir k) = 2 + k
home_block (Inode slot) = 6 + slot.0
home_block (Page s g) = 0

-- the place of the last serve
abbrev pub last_serve : List Event → List ℕ
last_serve [] = []
last_serve (h ▹ Serve serial page n) = length h ∷ []
last_serve (h ▹ e) = last_serve h

-- the parents of an added request: where pages or buffers that it writes were dirtied, or where its transaction was
-- sealed; a home request writes what all seals of its transaction's round took
abbrev pub parents_of_add : List Event → Request → List ℕ
parents_of_add h r = by_kind r.kind where
  by_kind : ReqKind → List ℕ
  by_kind (Read p s g) = []
  by_kind (Pages s g) = flat_map (open_at h) (pages_of s g r.n)
  by_kind (Log t) = seal_place h t
  by_kind (Commit t) = seal_place h t
  by_kind (Home t) = flat_map (λ seal. open_at seal.before (buffer_at r.first)) (round_of h t)
  by_kind (Clear t) = seal_place h t

-- the parents of an event that comes after h
abbrev pub parents_of : List Event → Event → List ℕ
parents_of h (Add by r) = parents_of_add h r
parents_of h (Serve s g n) = flat_map (open_at h) (pages_of s g n)
parents_of h (Map slot s g n block new size) = last_serve h
parents_of h (Seal t k) = flat_map (open_at h) metadata_buffers
parents_of h _ = []
