-- The files that are kept after one event more.
use Rattle.std.proofs.Common.{◌≡◌, ℕ, ◌+◌, ◌-◌, ◌*◌, ◌<◌, ◌≤◌, ◌==◌, List, [], length, max, slice_get, Bool, true, false, ◌&&◌, Option, Some, None, option_map, refl, ap, sym, ◌∙◌, arith, nat_lt, nat_le, if◌then◌else◌}
use Rattle.std.specs.Prelude.{unwrap_or, is_none}
use Rattle.std.proofs.lemmas.Bool.{cond-true, cond-false, ne_eqb, eq-eqb}
use Rattle.std.proofs.lemmas.List.FromFn.{length-map-range_with_len, fill_by_all}
use Rattle.std.proofs.lemmas.List.Quantifiers.{position-Some}
use Rattle.std.proofs.lemmas.Option.{slice_get_within}
use Rattle.split_types.specs.declared.ids.Pid.{Pid}
use Rattle.split_types.specs.declared.ids.Serial.{Serial}
use Rattle.split_types.specs.declared.ids.Slot.{Slot}
use Rattle.split_types.specs.declared.workload.Preset.{Preset}
use Rattle.split_types.specs.declared.workload.Workload.{Workload}
use Rattle.split_types.specs.declared.event.Event.{Event}
use Rattle.split_types.specs.declared.event.Event.TheVariants.{Make, Put, Drop, Map}
use Rattle.split_types.specs.History.{◌▹◌}
use Rattle.split_types.specs.Workloads.{pages_in}
use Rattle.split_types.specs.Calls.{call_of}
use Rattle.split_types.specs.Files.{is_live}
use Rattle.split_types.specs.FileSizes.{size_of, disk_size_of}
use Rattle.split_types.specs.FileMaps.{mapped_block}
use Rattle.split_types.specs.FileSlots.{file_in_slot, slot_of, file_name, name_of_some, live_file, live_files}
use Rattle.split_types.specs.LiveFiles.{LiveFile, file_at, made_file, grown_file, mapped_file, unmapped, with_run}
use Rattle.split_types.specs.FilesInOrder.{all_files}
use Rattle.split_types.specs.Accepted.{IsAccepted}
use Rattle.split_types.specs.Legal.{IsLegal}
use Rattle.split_types.proofs.Shared.{files_are_in_order, put_in_legal, disk_size_most, case_true, case_false}
use Rattle.split_types.proofs.MapLaws.{maps_are_in_order}
use Rattle.split_types.proofs.PromiseLaws.{promised}
use Rattle.small_fs.specs.Files.{with_file, changed}
use Rattle.split_core.specs.Fits.{MakeFits}
use Rattle.split_core.proofs.FilingFilesLists.{item_is, same_items, one_item, none_mapped, block_in_run, run_item, run_length}

-- ---- a file and its parts
abbrev pub of_parts : Serial → List ℕ → ℕ → ℕ → List (Option ℕ) → LiveFile
of_parts serial name size disk blocks =
    record { serial = serial; name = name; size = size; disk_size = disk; blocks = blocks }

same_parts : (s : Serial) (n m : List ℕ) (z y d e : ℕ) (b c : List (Option ℕ)) → n ≡ m → z ≡ y → d ≡ e → b ≡ c
    → of_parts s n z d b ≡ of_parts s m y e c
same_parts s n m z y d e b c name size disk blocks =
    ap (λ x. of_parts s x z d b) name ∙ ap (λ x. of_parts s m x d b) size ∙ ap (λ x. of_parts s m y x b) disk
    ∙ ap (of_parts s m y e) blocks

-- a file of which nothing changes stays
pub same_file : (w : Workload) (g h : List Event) (s : Serial) → file_name w g s.0 ≡ file_name w h s.0
    → size_of w g s.0 ≡ size_of w h s.0 → disk_size_of w g s.0 ≡ disk_size_of w h s.0
    → ((k : ℕ) → mapped_block w g s.0 k ≡ mapped_block w h s.0 k) → live_file w g s ≡ live_file w h s
same_file w g h s name size disk blocks =
    same_parts s (file_name w g s.0) (file_name w h s.0) (size_of w g s.0) (size_of w h s.0) (disk_size_of w g s.0)
    (disk_size_of w h s.0) (live_file w g s).blocks (live_file w h s).blocks name size disk
    (same_items (mapped_block w h s.0) (mapped_block w g s.0) 1008 None (λ k below. blocks k))

-- what a slot holds
abbrev pub in_slot : Workload → List Event → ℕ → Option LiveFile
in_slot w h k = option_map (live_file w h) (file_in_slot w h k)

-- the file of a slot is found there
pub file_here : (w : Workload) (h : List Event) (k : ℕ) (s : Serial) → k < 256 → file_in_slot w h k ≡ Some s
    → file_at (live_files w h) k ≡ Some (live_file w h s)
file_here w h k s below at = item_is (in_slot w h) 256 k None below ∙ ap (option_map (live_file w h)) at

-- a slot whose file stays
pub slot_stays : (w : Workload) (g h : List Event) (k : ℕ) → file_in_slot w g k ≡ file_in_slot w h k
    → ((t : Serial) → file_in_slot w h k ≡ Some t → live_file w g t ≡ live_file w h t) → in_slot w g k ≡ in_slot w h k
slot_stays w g h k same each = ap (option_map (live_file w g)) same ∙ by_file (file_in_slot w h k) refl
  where
    by_file : (o : Option Serial) → file_in_slot w h k ≡ o
        → option_map (live_file w g) o ≡ option_map (live_file w h) o
    by_file None at = refl
    by_file (Some t) at = ap (λ x. Some x) (each t at)

-- one file changes, and all others stay
one_changed : (w : Workload) (g h : List Event) (change : LiveFile → LiveFile) (s : Serial) (slot : ℕ) → slot < 256
    → file_in_slot w h slot ≡ Some s → ((k : ℕ) → file_in_slot w g k ≡ file_in_slot w h k)
    → live_file w g s ≡ change (live_file w h s)
    → ((t : Serial) (k : ℕ) → file_in_slot w h k ≡ Some t → (k ≡ slot → ⊥) → live_file w g t ≡ live_file w h t)
    → changed change slot (live_files w h) ≡ live_files w g
one_changed w g h change s slot below at same here others =
    one_item (in_slot w h) (in_slot w g) 256 slot (option_map change (file_at (live_files w h) slot)) None below
    (ap (option_map (live_file w g)) (same slot ∙ at) ∙ ap (λ x. Some x) here
    ∙ sym (ap (option_map change) (file_here w h slot s below at)))
    (λ k within other. slot_stays w g h k (same k) (λ t is. others t k is other))

-- ---- files that are not made yet
preset_none : (w : Workload) (s : ℕ) → length w.files ≤ s → pages_in w s ≡ 0
preset_none w s past = by_file (slice_get w.files s) refl
  where
    by_file : (o : Option Preset) → slice_get w.files s ≡ o → unwrap_or (option_map (λ f. f.pages) o) 0 ≡ 0
    by_file None at = refl
    by_file (Some f) at = absurd (omega (arith, past, slice_get_within w.files s f at))

-- a file that isn't made yet has no bytes
pub unsized : (w : Workload) (h : List Event) (s : ℕ) → IsAccepted w → IsLegal w h → all_files w h ≤ s
    → size_of w h s ≡ 0
unsized w [] s accepted legal new = omega (arith, preset_none w s (omega (arith, new)))
unsized w (h ▹ Put by t g from to fill) s accepted legal new =
    let put = put_in_legal w h by t g from to fill accepted legal
    in let below : t.0 < all_files w h = ((files_are_in_order w h accepted legal.1).live t put.file).numbered
    in cond-false (t.0 == s) (max (size_of w h s) (4096 * g + to)) (size_of w h s)
    (ne_eqb t.0 s (λ same. omega (arith, below, new, same))) ∙ unsized w h s accepted legal.1 new
unsized w (h ▹ Make by slot serial) s accepted legal new = unsized w h s accepted legal.1 (omega (arith, new))
unsized w (h ▹ e) s accepted legal new = unsized w h s accepted legal.1 new

-- and no block
pub unplaced : (w : Workload) (h : List Event) (s g : ℕ) → IsAccepted w → IsLegal w h → all_files w h ≤ s
    → mapped_block w h s g ≡ None
unplaced w h s g accepted legal new = by_block (mapped_block w h s g) refl
  where
    by_block : (o : Option ℕ) → mapped_block w h s g ≡ o → o ≡ None
    by_block None at = refl
    by_block (Some x) at =
        absurd (omega (arith, new, (((maps_are_in_order promised).maps w h accepted legal).placed s g x at).numbered))

-- ---- a make
-- the file that is made
made_here : (w : Workload) (h : List Event) (by : Pid) (slot : Slot) (serial : Serial) → IsAccepted w → IsLegal w h
    → (f : MakeFits w h by slot serial)
    → live_file w (h ▹ Make by slot serial) serial ≡ made_file serial f.name
made_here w h by slot serial accepted legal f =
    let g : List Event = h ▹ Make by slot serial
    in let new : all_files w h ≤ serial.0 = omega (arith, ap (λ (t : Serial). t.0) f.serial_is)
    in let size : size_of w h serial.0 ≡ 0 = unsized w h serial.0 accepted legal new
    in let name : file_name w g serial.0 ≡ f.name =
    case_true (serial.0 == serial.0) (name_of_some (call_of w h by.0)) (file_name w h serial.0)
    (eq-eqb serial.0 serial.0 refl) ∙ ap name_of_some f.call
    in same_parts serial (file_name w g serial.0) f.name (size_of w h serial.0) 0 (disk_size_of w h serial.0) 0
    (live_file w g serial).blocks (unmapped 1008) name size
    (omega (arith, size, disk_size_most w h serial.0 legal))
    (none_mapped (mapped_block w g serial.0) 1008 (λ k. unplaced w h serial.0 k accepted legal new))

-- every other file
made_other : (w : Workload) (h : List Event) (by : Pid) (slot : Slot) (serial t : Serial)
    → (serial.0 == t.0) ≡ false → live_file w (h ▹ Make by slot serial) t ≡ live_file w h t
made_other w h by slot serial t other =
    same_file w (h ▹ Make by slot serial) h t
    (case_false (serial.0 == t.0) (name_of_some (call_of w h by.0)) (file_name w h t.0) other) refl refl (λ k. refl)

pub files_make : (w : Workload) (h : List Event) (by : Pid) (slot : Slot) (serial : Serial) → IsAccepted w
    → IsLegal w h → (f : MakeFits w h by slot serial)
    → with_file slot.0 (Some (made_file serial f.name)) (live_files w h) ≡ live_files w (h ▹ Make by slot serial)
files_make w h by slot serial accepted legal f =
    let g : List Event = h ▹ Make by slot serial
    in let within = (position-Some is_none (live_files w h) slot.0 None f.slot_is).0
    in let long : length (live_files w h) ≡ 256 = length-map-range_with_len (in_slot w h) 0 256
    in one_item (in_slot w h) (in_slot w g) 256 slot.0 (Some (made_file serial f.name)) None
    (omega (arith, within, long))
    (ap (option_map (live_file w g))
    (cond-true (slot.0 == slot.0) (Some serial) (file_in_slot w h slot.0) (eq-eqb slot.0 slot.0 refl))
    ∙ ap (λ x. Some x) (made_here w h by slot serial accepted legal f))
    (λ k below other. slot_stays w g h k
    (cond-false (slot.0 == k) (Some serial) (file_in_slot w h k) (ne_eqb slot.0 k (λ e. other (sym e))))
    (λ t at. let order = files_are_in_order w h accepted legal
    in let numbered : t.0 < all_files w h = (order.live t (order.of_slot k t at).0).numbered
    in made_other w h by slot serial t
    (ne_eqb serial.0 t.0 (λ e. omega (arith, numbered, e, ap (λ (t : Serial). t.0) f.serial_is)))))

-- ---- a drop
pub files_drop : (w : Workload) (h : List Event) (by : Pid) (slot : Slot) (serial : Serial) → slot.0 < 256
    → with_file slot.0 None (live_files w h) ≡ live_files w (h ▹ Drop by slot serial)
files_drop w h by slot serial below =
    let g : List Event = h ▹ Drop by slot serial
    in one_item (in_slot w h) (in_slot w g) 256 slot.0 None None below
    (ap (option_map (live_file w g))
    (cond-true (slot.0 == slot.0) None (file_in_slot w h slot.0) (eq-eqb slot.0 slot.0 refl)))
    (λ k within other. slot_stays w g h k
    (cond-false (slot.0 == k) None (file_in_slot w h k) (ne_eqb slot.0 k (λ e. other (sym e))))
    (λ t at. same_file w g h t refl refl refl (λ i. refl)))

-- ---- puts and maps
-- the file of another slot is another file
pub another : (w : Workload) (h : List Event) (s t : Serial) (slot k : ℕ) → IsAccepted w → IsLegal w h
    → file_in_slot w h slot ≡ Some s → file_in_slot w h k ≡ Some t → (k ≡ slot → ⊥) → (s.0 == t.0) ≡ false
another w h s t slot k accepted legal at is other =
    let order = files_are_in_order w h accepted legal
    in ne_eqb s.0 t.0 (λ same. other (sym (order.of_slot k t is).1
    ∙ ap (λ (n : ℕ). (slot_of w h (record { 0 = n })).0) (sym same) ∙ (order.of_slot slot s at).1))

-- a file that is there has a slot
pub slot_here : (w : Workload) (h : List Event) (s : Serial) → IsAccepted w → IsLegal w h → is_live w h s.0 ≡ true
    → ((slot_of w h s).0 < 256) × (file_in_slot w h (slot_of w h s).0 ≡ Some s)
slot_here w h s accepted legal live =
    let file = (files_are_in_order w h accepted legal).live s live
    in (file.slot_within, file.in_slot)

put_here : (w : Workload) (h : List Event) (by : Pid) (s : Serial) (page from to fill : ℕ)
    → live_file w (h ▹ Put by s page from to fill) s ≡ grown_file (4096 * page + to) (live_file w h s)
put_here w h by s page from to fill =
    let g : List Event = h ▹ Put by s page from to fill
    in same_parts s (file_name w g s.0) (file_name w h s.0) (size_of w g s.0)
    (max (size_of w h s.0) (4096 * page + to)) (disk_size_of w g s.0) (disk_size_of w h s.0) (live_file w g s).blocks
    (live_file w h s).blocks refl
    (cond-true (s.0 == s.0) (max (size_of w h s.0) (4096 * page + to)) (size_of w h s.0) (eq-eqb s.0 s.0 refl)) refl
    (same_items (mapped_block w h s.0) (mapped_block w g s.0) 1008 None (λ k below. refl))

put_other : (w : Workload) (h : List Event) (by : Pid) (s t : Serial) (page from to fill : ℕ) → (s.0 == t.0) ≡ false
    → live_file w (h ▹ Put by s page from to fill) t ≡ live_file w h t
put_other w h by s t page from to fill other =
    same_file w (h ▹ Put by s page from to fill) h t refl
    (cond-false (s.0 == t.0) (max (size_of w h t.0) (4096 * page + to)) (size_of w h t.0) other) refl (λ k. refl)

pub files_put : (w : Workload) (h : List Event) (by : Pid) (s : Serial) (page from to fill : ℕ) → IsAccepted w
    → IsLegal w h → is_live w h s.0 ≡ true
    → changed (grown_file (4096 * page + to)) (slot_of w h s).0 (live_files w h)
    ≡ live_files w (h ▹ Put by s page from to fill)
files_put w h by s page from to fill accepted legal live =
    let slot = (slot_of w h s).0
    in let here = slot_here w h s accepted legal live
    in one_changed w (h ▹ Put by s page from to fill) h (grown_file (4096 * page + to)) s slot here.0 here.1
    (λ k. refl) (put_here w h by s page from to fill)
    (λ t k at other. put_other w h by s t page from to fill
    (another w h s t slot k accepted legal here.1 at other))

map_here : (w : Workload) (h : List Event) (slot : Slot) (s : Serial) (page n block : ℕ) (new : Bool) (size : ℕ)
    → page + n ≤ 1008
    → live_file w (h ▹ Map slot s page n block new size) s ≡ mapped_file page n block size (live_file w h s)
map_here w h slot s page n block new size fit =
    let g : List Event = h ▹ Map slot s page n block new size
    in let had = (live_file w h s).blocks
    in let long : length had ≡ 1008 = length-map-range_with_len (mapped_block w h s.0) 0 1008
    in let within : page + n ≤ length had = omega (arith, fit, long)
    in same_parts s (file_name w g s.0) (file_name w h s.0) (size_of w g s.0) (size_of w h s.0) (disk_size_of w g s.0)
    size (live_file w g s).blocks (with_run page n block had) refl refl
    (cond-true (s.0 == s.0) size (disk_size_of w h s.0) (eq-eqb s.0 s.0 refl))
    (sym (fill_by_all (mapped_block w g s.0) (with_run page n block had) 1008 None
    (run_length page n block had within ∙ long)
    (λ k below. run_item page n block had k within
    ∙ ap (λ o. block_in_run page n block o k) (item_is (mapped_block w h s.0) 1008 k None below)
    ∙ sym (ap (λ b. if b && nat_le page k && nat_lt k (page + n) then Some (block + (k - page)) else mapped_block w h s.0 k)
    (eq-eqb s.0 s.0 refl)))))

map_other : (w : Workload) (h : List Event) (slot : Slot) (s t : Serial) (page n block : ℕ) (new : Bool) (size : ℕ)
    → (s.0 == t.0) ≡ false → live_file w (h ▹ Map slot s page n block new size) t ≡ live_file w h t
map_other w h slot s t page n block new size other =
    same_file w (h ▹ Map slot s page n block new size) h t refl refl
    (cond-false (s.0 == t.0) size (disk_size_of w h t.0) other)
    (λ k. ap (λ b. if b && nat_le page k && nat_lt k (page + n) then Some (block + (k - page)) else mapped_block w h t.0 k)
    other)

pub files_map : (w : Workload) (h : List Event) (slot : Slot) (s : Serial) (page n block : ℕ) (new : Bool) (size : ℕ)
    → IsAccepted w → IsLegal w h → page + n ≤ 1008 → slot.0 < 256 → file_in_slot w h slot.0 ≡ Some s
    → changed (mapped_file page n block size) slot.0 (live_files w h)
    ≡ live_files w (h ▹ Map slot s page n block new size)
files_map w h slot s page n block new size accepted legal fit below at =
    one_changed w (h ▹ Map slot s page n block new size) h (mapped_file page n block size) s slot.0 below at
    (λ k. refl) (map_here w h slot s page n block new size fit)
    (λ t k is other. map_other w h slot s t page n block new size
    (another w h s t slot.0 k accepted legal at is other))
