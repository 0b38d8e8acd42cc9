-- The bytes of the pages of files.
use Rattle.std.specs.Prelude.{◌≡◌, ℕ, ◌-◌, ◌<◌, ◌≤◌, List, [], ◌++◌, length, take, drop, replicate, sum, slice_get, slice_range, slice_index_or, nat_le, nat_lt, Bool, true, false, ◌&&◌, option_map, unwrap_or, if◌then◌else◌}
use Rattle.split_types.specs.declared.ids.Serial.{Serial}
use Rattle.split_types.specs.declared.buf.Buf.TheVariants.{Page}
use Rattle.split_types.specs.declared.workload.Workload.{Workload}
use Rattle.split_types.specs.declared.event.Event.{Event}
use Rattle.split_types.specs.declared.event.Event.TheVariants.{Put}
use Rattle.split_types.specs.History.{◌▹◌}
use Rattle.split_types.specs.Hooks.{same_buf}
use Rattle.split_types.specs.Workloads.{pages_in}

-- a page, or a block, with this byte at each place
unfoldable pub filled_page : ℕ → List ℕ
filled_page byte = replicate 4096 byte

-- these bytes, with this byte at each place from one up to another
abbrev pub filled : List ℕ → ℕ → ℕ → ℕ → List ℕ
filled bytes from to byte = take from bytes ++ replicate (to - from) byte ++ drop to bytes

-- the byte that a preset file has at each place
abbrev pub fill_of : Workload → ℕ → ℕ
fill_of w s = unwrap_or (option_map (λ f. f.fill) (slice_get w.files s)) 0

-- the byte at each place of page g of a file before any put: that of its preset, and 0 where it is no page of one
abbrev pub start_fill : Workload → ℕ → ℕ → ℕ
start_fill w s g = if nat_lt g (pages_in w s) then fill_of w s else 0

-- the bytes of page g of a file: those before any put, and over them what each put puts, the later over the earlier
abbrev pub page_bytes : Workload → List Event → Serial → ℕ → List ℕ
page_bytes w [] s g = filled_page (start_fill w s.0 g)
page_bytes w (h ▹ Put by t k from to fill) s g =
    elim (same_buf (Page t k) (Page s g)) [
      | true ↦ filled (page_bytes w h s g) from to fill
      | false ↦ page_bytes w h s g
    ]
page_bytes w (h ▹ e) s g = page_bytes w h s g

-- the sum of the bytes of a page from one place up to another
abbrev pub sum_of_bytes : Workload → List Event → Serial → ℕ → ℕ → ℕ → ℕ
sum_of_bytes w h s g from to = sum (slice_range (page_bytes w h s g) from to)

-- ---- the same, byte by byte

-- the put is one of this page, and covers the byte at this place
abbrev pub covers_byte : Serial → ℕ → Serial → ℕ → ℕ → ℕ → ℕ → Bool
covers_byte t k s g from to x = same_buf (Page t k) (Page s g) && nat_le from x && nat_lt x to

-- the byte at a place of a page: the fill of the last put of the page that covers it, else the byte before any put
abbrev pub byte_at : Workload → List Event → Serial → ℕ → ℕ → ℕ
byte_at w [] s g x = start_fill w s.0 g
byte_at w (h ▹ Put by t k from to fill) s g x =
    if covers_byte t k s g from to x then fill else byte_at w h s g x
byte_at w (h ▹ e) s g x = byte_at w h s g x

-- every put stays within its page
abbrev pub PutsFit : List Event → Type 0
PutsFit [] = Unit {0}
PutsFit (h ▹ Put by t k from to fill) = (from ≤ to) × (to ≤ 4096) × PutsFit h
PutsFit (h ▹ e) = PutsFit h

-- a page has 4,096 bytes, and at each place the fill of the last put that covers it
pub record AreBytes (w : Workload) (h : List Event) (s : Serial) (g : ℕ) : Type 0 where
  pub whole : length (page_bytes w h s g) ≡ 4096
  pub each : (x : ℕ) → x < 4096 → slice_index_or (page_bytes w h s g) x 0 ≡ byte_at w h s g x

abbrev pub BytesByByte : Type 0
BytesByByte = (w : Workload) (h : List Event) (s : Serial) (g : ℕ) → PutsFit h → AreBytes w h s g
