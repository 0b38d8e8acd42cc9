-- The bytes of a page, byte by byte.
use Rattle.std.proofs.Common.{◌≡◌, ℕ, ◌+◌, ◌-◌, ◌<◌, ◌≤◌, List, [], ◌++◌, length, take, drop, replicate, Bool, true, false, ◌&&◌, nat_le, nat_lt, if◌then◌else◌, refl, arith, inl, inr, ◌∙◌, ap}
use Rattle.std.specs.Prelude.{slice_index_or}
use Rattle.std.proofs.lemmas.Bool.{cases_lt, lt-leb, le-leb, lt-ltb, le-ltb}
use Rattle.std.proofs.lemmas.List.{length-take, length-drop, length-append, length-replicate, get_or-replicate, get_or_append_left, get_or-append_right, get_or-take, get_or-drop}
use Rattle.split_types.specs.declared.ids.Serial.{Serial}
use Rattle.split_types.specs.declared.buf.Buf.TheVariants.{Page}
use Rattle.split_types.specs.declared.workload.Workload.{Workload}
use Rattle.split_types.specs.declared.event.Event.{Event}
use Rattle.split_types.specs.declared.event.Event.TheVariants.{Put}
use Rattle.split_types.specs.History.{◌▹◌}
use Rattle.split_types.specs.Hooks.{same_buf}
use Rattle.split_types.specs.PageBytes.{filled_page, filled, start_fill, page_bytes, byte_at, PutsFit, BytesByByte}

-- ---- bytes of which some were filled
front-length : (bytes : List ℕ) (from to byte : ℕ) → from ≤ to → to ≤ length bytes
    → length (take from bytes ++ replicate (to - from) byte) ≡ to
front-length bytes from to byte order within =
    omega (
      arith,
      length-append (take from bytes) (replicate (to - from) byte),
      length-take from bytes,
      length-replicate (to - from) byte,
      order,
      within,
    )

pub length-filled : (bytes : List ℕ) (from to byte : ℕ) → from ≤ to → to ≤ length bytes
    → length (filled bytes from to byte) ≡ length bytes
length-filled bytes from to byte order within =
    omega (
      arith,
      length-append (take from bytes ++ replicate (to - from) byte) (drop to bytes),
      front-length bytes from to byte order within,
      length-drop to bytes,
      order,
      within,
    )

filled-below : (bytes : List ℕ) (from to byte x : ℕ) → from ≤ to → to ≤ length bytes → x < from
    → slice_index_or (filled bytes from to byte) x 0 ≡ slice_index_or bytes x 0
filled-below bytes from to byte x order within below =
    get_or_append_left (take from bytes ++ replicate (to - from) byte) (drop to bytes) 0 x
    (omega (arith, front-length bytes from to byte order within, order, below))
    ∙ get_or_append_left (take from bytes) (replicate (to - from) byte) 0 x
    (omega (arith, length-take from bytes, order, within, below))
    ∙ get_or-take from bytes x 0 below

filled-inside : (bytes : List ℕ) (from to byte x : ℕ) → from ≤ to → to ≤ length bytes → from ≤ x → x < to
    → slice_index_or (filled bytes from to byte) x 0 ≡ byte
filled-inside bytes from to byte x order within low high =
    get_or_append_left (take from bytes ++ replicate (to - from) byte) (drop to bytes) 0 x
    (omega (arith, front-length bytes from to byte order within, high))
    ∙ get_or-append_right (take from bytes) (replicate (to - from) byte) from x 0
    (omega (arith, length-take from bytes, order, within)) low
    ∙ get_or-replicate (to - from) (x - from) byte 0 (omega (arith, low, high))

filled-above : (bytes : List ℕ) (from to byte x : ℕ) → from ≤ to → to ≤ length bytes → to ≤ x
    → slice_index_or (filled bytes from to byte) x 0 ≡ slice_index_or bytes x 0
filled-above bytes from to byte x order within above =
    let back : to + (x - to) ≡ x = omega (arith, above) in
    get_or-append_right (take from bytes ++ replicate (to - from) byte) (drop to bytes) to x 0
    (front-length bytes from to byte order within) above
    ∙ get_or-drop to bytes (x - to) 0
    ∙ ap (λ k. slice_index_or bytes k 0) back

filled-at : (bytes : List ℕ) (from to byte x : ℕ) → from ≤ to → to ≤ length bytes
    → slice_index_or (filled bytes from to byte) x 0
    ≡ (if nat_le from x && nat_lt x to then byte else slice_index_or bytes x 0)
filled-at bytes from to byte x order within = elim (cases_lt x from) [
  | inl below ↦ filled-below bytes from to byte x order within below ∙ rw (lt-leb from x below) refl
  | inr low ↦ elim (cases_lt x to) [
    | inl high ↦ filled-inside bytes from to byte x order within low high
        ∙ rw (le-leb from x low, lt-ltb x to high) refl
    | inr above ↦ filled-above bytes from to byte x order within above
        ∙ rw (le-leb from x low, le-ltb x to above) refl
  ]
]

-- ---- pages
-- the bytes of a page that was put, or those of another one
abbrev either : Bool → List ℕ → List ℕ → List ℕ
either b xs ys = elim b [ true ↦ xs | false ↦ ys ]

length-either : (b : Bool) (xs ys : List ℕ) → length xs ≡ 4096 → length ys ≡ 4096 → length (either b xs ys) ≡ 4096
length-either true xs ys first second = first
length-either false xs ys first second = second

either-at : (b : Bool) (bytes : List ℕ) (from to byte old x : ℕ) → from ≤ to → to ≤ length bytes
    → slice_index_or bytes x 0 ≡ old
    → slice_index_or (either b (filled bytes from to byte) bytes) x 0
    ≡ (if b && nat_le from x && nat_lt x to then byte else old)
either-at true bytes from to byte old x order within was =
    filled-at bytes from to byte x order within
    ∙ ap (λ y. if nat_le from x && nat_lt x to then byte else y) was
either-at false bytes from to byte old x order within was = was

pub length-page_bytes : (w : Workload) (h : List Event) (s : Serial) (g : ℕ) → PutsFit h
    → length (page_bytes w h s g) ≡ 4096
unfolding filled_page
length-page_bytes w [] s g fit = length-replicate 4096 (start_fill w s.0 g)
length-page_bytes w (h ▹ Put by t k from to fill) s g fit =
    let old = length-page_bytes w h s g fit.2 in
    let within : to ≤ length (page_bytes w h s g) = omega (arith, old, fit.1) in
    length-either (same_buf (Page t k) (Page s g)) (filled (page_bytes w h s g) from to fill) (page_bytes w h s g)
    (length-filled (page_bytes w h s g) from to fill fit.0 within ∙ old) old
length-page_bytes w (h ▹ e) s g fit = length-page_bytes w h s g fit

pub page_bytes-at : (w : Workload) (h : List Event) (s : Serial) (g x : ℕ) → PutsFit h → x < 4096
    → slice_index_or (page_bytes w h s g) x 0 ≡ byte_at w h s g x
unfolding filled_page
page_bytes-at w [] s g x fit within = get_or-replicate 4096 x (start_fill w s.0 g) 0 within
page_bytes-at w (h ▹ Put by t k from to fill) s g x fit within =
    let high : to ≤ length (page_bytes w h s g) = omega (arith, length-page_bytes w h s g fit.2, fit.1) in
    either-at (same_buf (Page t k) (Page s g)) (page_bytes w h s g) from to fill (byte_at w h s g x) x fit.0 high
    (page_bytes-at w h s g x fit.2 within)
page_bytes-at w (h ▹ e) s g x fit within = page_bytes-at w h s g x fit within

pub bytes_by_byte : BytesByByte
bytes_by_byte w h s g fit = record {
  whole = length-page_bytes w h s g fit;
  each = λ x within. page_bytes-at w h s g x fit within;
}
