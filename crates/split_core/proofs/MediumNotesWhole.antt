-- Each block that a write carries is whole: a page, the image of a block of metadata, or a block of the journal's own.
use Rattle.std.proofs.Common.{◌≡◌, ℕ, zero, suc, ◌+◌, ◌-◌, ◌*◌, ◌==◌, ◌<◌, ◌≤◌, List, [], ◌∷◌, ◌++◌, length, map, take, drop}
use Rattle.std.proofs.Common.{slice_get, slice_index_or, nat_le, nat_lt, unwrap_or, option_map, Bool, true, false, ◌&&◌}
use Rattle.std.proofs.Common.{Option, Some, None, refl, arith, subst, ap, ◌∙◌, if◌then◌else◌}
use Rattle.std.specs.List.{flat_map, list_all, range_with_len}
use Rattle.std.proofs.lemmas.Bool.{and_parts, leb-true, ltb-true}
use Rattle.std.proofs.lemmas.List.{length-append, length-map, length-take-le, length-drop, take-map, drop-map}
use Rattle.std.proofs.lemmas.List.FromFn.{length-map-range_with_len}
use Rattle.split_types.specs.declared.ids.Serial.{Serial}
use Rattle.split_types.specs.declared.ids.Slot.{Slot}
use Rattle.split_types.specs.declared.ids.Txn.{Txn}
use Rattle.split_types.specs.declared.buf.Buf.{Buf}
use Rattle.split_types.specs.declared.buf.Buf.TheVariants.{Page, Bitmap, Dir, Inode}
use Rattle.split_types.specs.declared.call.Call.{Call}
use Rattle.split_types.specs.declared.call.Call.TheVariants.{Creat, Write, Read, Fsync, Unlink}
use Rattle.split_types.specs.declared.request.ReqKind.{ReqKind}
use Rattle.split_types.specs.declared.request.ReqKind.TheVariants as kind
use Rattle.split_types.specs.declared.request.Request.{Request}
use Rattle.split_types.specs.declared.workload.Preset.{Preset}
use Rattle.split_types.specs.declared.workload.Workload.{Workload}
use Rattle.split_types.specs.declared.event.Event.{Event}
use Rattle.split_types.specs.declared.event.Event.TheVariants.{Make}
use Rattle.split_types.specs.History.{◌▹◌}
use Rattle.split_types.specs.Hooks.{same_buf}
use Rattle.split_types.specs.Names.{is_name, is_name_byte}
use Rattle.split_types.specs.IsWorkload.{IsPreset, IsAsked}
use Rattle.split_types.specs.Calls.{returned, call_of, name_of}
use Rattle.split_types.specs.Requests.{is_write}
use Rattle.split_types.specs.Rounds.{before_seal}
use Rattle.split_types.specs.Parents.{metadata_buffers, buffer_at, home_block}
use Rattle.split_types.specs.ByPlace.{IsMetadata}
use Rattle.split_types.specs.Transactions.{is_marked}
use Rattle.split_types.specs.Bills.{sealed}
use Rattle.split_types.specs.Workloads.{first_block}
use Rattle.split_types.specs.DiskLayout.{zeros, zero_block, number, numbers, bitmap_block, number_of_bits, file_entry, free_entry, file_inode, descriptor_block}
use Rattle.split_types.specs.LiveFiles.{LiveFile, pointer, is_used, slot_entry, slot_inode}
use Rattle.split_types.specs.FileSlots.{name_of_some, file_name, file_in_slot, live_file, live_files, metadata_bytes}
use Rattle.split_types.specs.FileMaps.{mapped_block}
use Rattle.split_types.specs.DiskBytes.{buffer_bytes, buffer_at_place, log_bytes, before_last_take, carried}
use Rattle.split_types.specs.Accepted.{IsAccepted}
use Rattle.split_types.specs.Legal.{IsLegal}
use Rattle.split_types.proofs.Shared.{all_at, filter_there, list_any_here, same_buf-is, same_buf-self, call_is, whole_page}
use Rattle.split_types.proofs.Parents.{metadata_any}
use Rattle.split_types.proofs.JournalStepsSeal.{marked_most}
use Rattle.fs_layout.proofs.FieldLaws.{length-zeros}
use Rattle.fs_layout.proofs.NumberLaws.{length-numbers}
use Rattle.fs_layout.proofs.JournalLaws.{length-commit_block}
use Rattle.fs_layout.proofs.DescriptorLaws.{length-descriptor_block}

-- ---- names
-- no name is longer than 32 bytes
name_few : (name : List ℕ) → is_name name ≡ true → length name ≤ 32
name_few name named =
    let size = and_parts (nat_lt 0 (length name) && nat_le (length name) 32) (list_all is_name_byte name) named
    in let most = and_parts (nat_lt 0 (length name)) (nat_le (length name) 32) size.0
    in leb-true (length name) 32 most.1

call_name : (c : Call) → IsAsked c → length (name_of c) ≤ 32
call_name (Creat name) asked = name_few name asked
call_name (Write name off len fill) asked = name_few name asked.0.named
call_name (Read name off len) asked = name_few name asked.named
call_name (Fsync name) asked = name_few name asked
call_name (Unlink name) asked = name_few name asked

-- nor that of a file: a preset file has its own, and any other that of its maker's call
preset_name : (w : Workload) (s : ℕ) (o : Option Preset) → IsAccepted w → slice_get w.files s ≡ o
    → length (unwrap_or (option_map (λ (f : Preset). f.name) o) []) ≤ 32
preset_name w s None accepted at = omega arith
preset_name w s (Some f) accepted at =
    name_few f.name (all_at IsPreset w.files s f accepted.workload.presets.each at).name

made_name : (w : Workload) (h : List Event) (p : ℕ) (o : Option Call) → IsAccepted w → call_of w h p ≡ o
    → length (name_of_some o) ≤ 32
made_name w h p None accepted at = omega arith
made_name w h p (Some c) accepted at = call_name c (call_is w accepted p (returned h p) c at)

file_name_few : (w : Workload) (h : List Event) (s : ℕ) → IsAccepted w → length (file_name w h s) ≤ 32
file_name_few w [] s accepted = preset_name w s (slice_get w.files s) accepted refl
file_name_few w (h ▹ Make by slot serial) s accepted =
    by_test (serial.0 == s) (file_name_few w h s accepted)
  where
    by_test : (b : Bool) → length (file_name w h s) ≤ 32
        → length {A = ℕ} (elim b [ true ↦ name_of_some (call_of w h by.0) | false ↦ file_name w h s ]) ≤ 32
    by_test true rest = made_name w h by.0 (call_of w h by.0) accepted refl
    by_test false rest = rest
file_name_few w (h ▹ e) s accepted = file_name_few w h s accepted

-- ---- blocks of metadata
zero_whole : length zero_block ≡ 4096
unfolding zero_block
zero_whole = length-zeros 4096

bitmap_whole : (used : ℕ → Bool) → length (bitmap_block used) ≡ 4096
unfolding bitmap_block
bitmap_whole used = length-map-range_with_len (λ (j : ℕ). number_of_bits 8 (λ k. used (8 * j + k))) 0 4096

-- an entry of the directory
abbrev entry_head : Serial → List ℕ → List ℕ
entry_head serial name = number (serial.0 + 1) ++ length name ∷ name

head_long : (serial : Serial) (name : List ℕ) → length (entry_head serial name) ≡ 5 + length name
head_long serial name = omega arith

file_entry_long : (serial : Serial) (name : List ℕ) → length name ≤ 32 → length (file_entry serial name) ≡ 64
unfolding file_entry
file_entry_long serial name few = omega (
  arith,
  length-append (entry_head serial name) (zeros (59 - length name)),
  head_long serial name,
  length-zeros (59 - length name),
)

free_entry_long : length free_entry ≡ 64
unfolding free_entry
free_entry_long = length-zeros 64

entry_long : (w : Workload) (h : List Event) (o : Option Serial) → IsAccepted w
    → length (slot_entry (option_map (live_file w h) o)) ≡ 64
entry_long w h None accepted = free_entry_long
entry_long w h (Some s) accepted = file_entry_long s (file_name w h s.0) (file_name_few w h s.0 accepted)

-- what a slot holds
abbrev in_slot : Workload → List Event → ℕ → Option LiveFile
in_slot w h k = option_map (live_file w h) (file_in_slot w h k)

entries_long : (w : Workload) (h : List Event) (ks : List ℕ) → IsAccepted w
    → length (flat_map slot_entry (map (in_slot w h) ks)) ≡ 64 * length ks
entries_long w h [] accepted = refl
entries_long w h (k ∷ ks) accepted =
    omega (
      arith,
      length-append (slot_entry (in_slot w h k)) (flat_map slot_entry (map (in_slot w h) ks)),
      entry_long w h (file_in_slot w h k) accepted,
      entries_long w h ks accepted,
    )

dir_whole : (w : Workload) (h : List Event) (k : ℕ) → IsAccepted w → k < 4
    → length (metadata_bytes w h (Dir k)) ≡ 4096
dir_whole w h k accepted few =
    let all = range_with_len 0 256
    in let some = take 64 (drop (64 * k) all)
    in let at = ap (take 64) (drop-map (in_slot w h) (64 * k) all) ∙ take-map (in_slot w h) 64 (drop (64 * k) all)
    in let behind : 64 ≤ length (drop (64 * k) all) = omega (arith, length-drop (64 * k) all, all_slots, few)
    in ap (λ l. length (flat_map slot_entry l)) at
    ∙ entries_long w h some accepted
    ∙ ap (λ n. 64 * n) (length-take-le 64 (drop (64 * k) all) behind)
  where
    all_slots : length (range_with_len 0 256) ≡ 256
    all_slots = refl

-- an inode
abbrev inode_head : Serial → ℕ → List ℕ
inode_head serial size = number (serial.0 + 1) ++ number size ++ zeros 56

inode_head_long : (serial : Serial) (size : ℕ) → length (inode_head serial size) ≡ 64
unfolding zeros
inode_head_long serial size = refl

file_inode_long : (serial : Serial) (size : ℕ) (blocks : List ℕ) → length blocks ≡ 1008
    → length (file_inode serial size blocks) ≡ 4096
unfolding file_inode
file_inode_long serial size blocks len = omega (
  arith,
  length-append (inode_head serial size) (numbers blocks),
  inode_head_long serial size,
  length-numbers blocks,
)

inode_long : (w : Workload) (h : List Event) (o : Option Serial)
    → length (slot_inode (option_map (live_file w h) o)) ≡ 4096
inode_long w h None = zero_whole
inode_long w h (Some s) =
    let f = live_file w h s
    in file_inode_long s f.disk_size (map pointer f.blocks)
    (length-map f.blocks pointer ∙ length-map-range_with_len (mapped_block w h s.0) 0 1008)

inode_at_long : (w : Workload) (h : List Event) (ks : List ℕ) (i : ℕ)
    → length (slot_inode (slice_index_or (map (in_slot w h) ks) i None)) ≡ 4096
inode_at_long w h [] i = zero_whole
inode_at_long w h (k ∷ ks) zero = inode_long w h (file_in_slot w h k)
inode_at_long w h (k ∷ ks) (suc i) = inode_at_long w h ks i

inode_whole : (w : Workload) (h : List Event) (slot : Slot) → length (metadata_bytes w h (Inode slot)) ≡ 4096
inode_whole w h slot = inode_at_long w h (range_with_len 0 256) slot.0

metadata_whole : (w : Workload) (h : List Event) (b : Buf) → IsAccepted w → IsMetadata b
    → length (buffer_bytes w h (Some b)) ≡ 4096
metadata_whole w h (Page s g) accepted is = absurd is
metadata_whole w h Bitmap accepted is = bitmap_whole (is_used (first_block w) (live_files w h))
metadata_whole w h (Dir k) accepted is = dir_whole w h k accepted is
metadata_whole w h (Inode slot) accepted is = inode_whole w h slot

-- that of a home block
home_whole : (w : Workload) (h : List Event) (x : ℕ) → IsAccepted w
    → length (buffer_bytes w h (Some (buffer_at x))) ≡ 4096
home_whole w h x accepted = by_tests (x == 1) (nat_lt x 6) refl
  where
    by_tests : (a b : Bool) → nat_lt x 6 ≡ b
        → length (buffer_bytes w h
        (Some (if a then Bitmap else if b then Dir (x - 2) else Inode (record { 0 = x - 6 })))) ≡ 4096
    by_tests true b is = bitmap_whole (is_used (first_block w) (live_files w h))
    by_tests false true is =
        let below = ltb-true x 6 is in dir_whole w h (x - 2) accepted (omega (arith, below))
    by_tests false false is = inode_whole w h (record { 0 = x - 6 })

-- ---- blocks of a log
-- what is found at a place of a list of buffers stands in it
place_there : (bufs : List Buf) (i : ℕ) (b : Buf) → buffer_at_place bufs i ≡ Some b
    → (j : ℕ) × (slice_get bufs j ≡ Some b)
place_there [] i b at = absurd (cc)
place_there (c ∷ bufs) i b at = by_test (i == 0) at (λ rest. place_there bufs (i - 1) b rest)
  where
    by_test : (t : Bool) → (if t then Some c else buffer_at_place bufs (i - 1)) ≡ Some b
        → (buffer_at_place bufs (i - 1) ≡ Some b → (j : ℕ) × (slice_get bufs j ≡ Some b))
        → (j : ℕ) × (slice_get (c ∷ bufs) j ≡ Some b)
    by_test true here rest = (0, here)
    by_test false later rest = let found = rest later in (suc found.0, found.1)

-- a buffer that a seal took is one of metadata
sealed_metadata : (h : List Event) (t : Txn) (i : ℕ) (b : Buf) → buffer_at_place (sealed h t) i ≡ Some b
    → IsMetadata b
sealed_metadata h t i b at =
    let there = place_there (sealed h t) i b at
    in let from = filter_there (is_marked (before_seal h t)) metadata_buffers there.0 b there.1
    in let any = list_any_here (λ c. same_buf c b) metadata_buffers from.0 b from.1 (same_buf-self b)
    in let same = metadata_any (λ c. same_buf c b) any
    in subst IsMetadata (same_buf-is same.0 b same.2) same.1

image_whole : (w : Workload) (h : List Event) (t : Txn) (i : ℕ) (o : Option Buf) → IsAccepted w
    → buffer_at_place (sealed h t) i ≡ o → length (buffer_bytes w (before_seal h t) o) ≡ 4096
image_whole w h t i None accepted at = zero_whole
image_whole w h t i (Some b) accepted at =
    metadata_whole w (before_seal h t) b accepted (sealed_metadata h t i b at)

log_whole : (w : Workload) (h : List Event) (t : Txn) (i : ℕ) → IsAccepted w → length (log_bytes w h t i) ≡ 4096
log_whole w h t i accepted = by_test (i == 0)
  where
    homes : List ℕ
    homes = map home_block (sealed h t)

    few : length homes ≤ 261
    few = omega (arith, length-map (sealed h t) home_block, marked_most (before_seal h t))

    by_test : (b : Bool) → length {A = ℕ} (elim b [
      | true ↦ descriptor_block t.0 homes
      | false ↦ buffer_bytes w (before_seal h t) (buffer_at_place (sealed h t) (i - 1))
    ]) ≡ 4096
    by_test true = length-descriptor_block t.0 homes few
    by_test false = image_whole w h t (i - 1) (buffer_at_place (sealed h t) (i - 1)) accepted refl

-- ---- what a write carries
pub carried_whole : (w : Workload) (h : List Event) (r : Request) (i : ℕ) → IsAccepted w → IsLegal w h
    → is_write r ≡ true → length (carried w h r i) ≡ 4096
carried_whole w h r i accepted legal writing = by_kind r.kind refl
  where
    by_kind : (k : ReqKind) → r.kind ≡ k → length (carried w h r i) ≡ 4096
    by_kind (kind.Read p s g) is = absurd (let none : is_write r ≡ false = rw is refl in cc)
    by_kind (kind.Pages s g) is = rw is (whole_page w h s (g + i) accepted legal)
    by_kind (kind.Log t) is = rw is (log_whole w h t i accepted)
    by_kind (kind.Commit t) is = rw is (length-commit_block t.0)
    by_kind (kind.Home t) is =
        rw is (home_whole w (before_last_take h t (buffer_at r.first)) r.first accepted)
    by_kind (kind.Clear t) is = rw is zero_whole
