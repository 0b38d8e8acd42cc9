-- The files that are kept are read as those of the history: by their slots and serials, and the blocks of their pages.
use Rattle.std.proofs.Common.{◌≡◌, ℕ, ◌<◌, List, Bool, true, false, Option}
use Rattle.std.proofs.Common.{Some, None, option_map, refl, ap, sym, ◌∙◌, subst, arith}
use Rattle.std.specs.Option.{option_and_then}
use Rattle.std.proofs.lemmas.Bool.{false_from_ne_true}
use Rattle.std.proofs.lemmas.List.FromFn.{get_or-map-range_with_len}
use Rattle.std.proofs.lemmas.Option.{same_Some, none-some}
use Rattle.split_types.specs.declared.ids.Serial.{Serial}
use Rattle.split_types.specs.declared.ids.Slot.{Slot}
use Rattle.split_types.specs.declared.workload.Workload.{Workload}
use Rattle.split_types.specs.declared.event.Event.{Event}
use Rattle.split_types.specs.Files.{is_live}
use Rattle.split_types.specs.FileMaps.{mapped_block}
use Rattle.split_types.specs.FileSlots.{file_in_slot, slot_of, live_file, live_files}
use Rattle.split_types.specs.LiveFiles.{LiveFile, file_at, slot_of_serial, block_of_page}
use Rattle.split_types.specs.FilesInOrder.{AreFiles}
use Rattle.split_types.specs.Accepted.{IsAccepted}
use Rattle.split_types.specs.Legal.{IsLegal}
use Rattle.split_types.proofs.Shared.{files_are_in_order}
use Rattle.small_fs.specs.Files.{Files}
use Rattle.writeback.specs.ServedRun.{block_of}
use Rattle.split_core.specs.Fits.{DropFits}
use Rattle.split_core.specs.Filing.{FilesAre}
use Rattle.split_core.proofs.LiveSlots.{at_slot, slot_found, slot_absent}

-- ---- by slot
-- the slot of a file that is there holds it
pub file_here : (w : Workload) (h : List Event) (fs : Files) (slot : Slot) (s : Serial) → IsAccepted w → IsLegal w h
    → FilesAre w fs h → DropFits w h slot s → file_at fs.slots slot.0 ≡ Some (live_file w h s)
file_here w h fs slot s accepted legal are fits =
    let file = (files_are_in_order w h accepted legal).live s fits.live in
    let below : slot.0 < 256 = subst (λ (t : Slot). t.0 < 256) (sym fits.slot_is) file.slot_within in
    ap (λ l. file_at l slot.0) are.slots ∙ at_slot w h slot.0 below ∙ ap (option_map (live_file w h)) fits.in_slot

-- ---- by serial
-- the slot that is found is that of a file that is there
pub found : (w : Workload) (h : List Event) (fs : Files) (s : Serial) (slot : Slot) → IsAccepted w → IsLegal w h
    → FilesAre w fs h → slot_of_serial fs.slots s ≡ Some slot.0 → DropFits w h slot s
found w h fs s slot accepted legal are at = by_live (is_live w h s.0) refl
  where
    files : AreFiles w h
    files = files_are_in_order w h accepted legal

    here : slot_of_serial (live_files w h) s ≡ Some slot.0
    here = ap (λ l. slot_of_serial l s) (sym are.slots) ∙ at

    number : (a b : Slot) → a.0 ≡ b.0 → a ≡ b
    number a b same = ap (λ n. let k : Slot = record { 0 = n } in k) same

    by_live : (b : Bool) → is_live w h s.0 ≡ b → DropFits w h slot s
    by_live true live =
        let same : (slot_of w h s).0 ≡ slot.0 =
        same_Some (slot_of w h s).0 slot.0 (sym (slot_found w h s files live) ∙ here) in
        record {
          live = live;
          slot_is = number slot (slot_of w h s) (sym same);
          in_slot = subst (λ n. file_in_slot w h n ≡ Some s) same (files.live s live).in_slot;
        }
    by_live false gone = absurd (none-some slot.0 (sym (slot_absent w h s files gone) ∙ here))

-- where no slot is found the file isn't there
pub gone : (w : Workload) (h : List Event) (fs : Files) (s : Serial) → IsAccepted w → IsLegal w h → FilesAre w fs h
    → slot_of_serial fs.slots s ≡ None → is_live w h s.0 ≡ false
gone w h fs s accepted legal are none =
    false_from_ne_true (is_live w h s.0) (λ live. none-some (slot_of w h s).0
    (sym none ∙ ap (λ l. slot_of_serial l s) are.slots
    ∙ slot_found w h s (files_are_in_order w h accepted legal) live))

-- a file that is there is found
pub some_slot : (w : Workload) (h : List Event) (fs : Files) (s : Serial) → IsAccepted w → IsLegal w h
    → FilesAre w fs h → is_live w h s.0 ≡ true → slot_of_serial fs.slots s ≡ Some (slot_of w h s).0
some_slot w h fs s accepted legal are live =
    ap (λ l. slot_of_serial l s) are.slots ∙ slot_found w h s (files_are_in_order w h accepted legal) live

-- ---- blocks
-- the block of a page of a file
pub block_here : (w : Workload) (h : List Event) (s : Serial) (page : ℕ) → page < 1008
    → block_of_page (live_file w h s) page ≡ mapped_block w h s.0 page
block_here w h s page below = get_or-map-range_with_len (mapped_block w h s.0) 0 1008 page page None below (omega arith)

-- so writeback sees it
pub block_seen : (w : Workload) (h : List Event) (fs : Files) (s : Serial) (page : ℕ) → IsAccepted w → IsLegal w h
    → FilesAre w fs h → is_live w h s.0 ≡ true → page < 1008 → block_of fs s page ≡ mapped_block w h s.0 page
block_seen w h fs s page accepted legal are live below =
    let file = (files_are_in_order w h accepted legal).live s live in
    let k = (slot_of w h s).0 in
    ap (λ (o : Option ℕ). option_and_then (λ f. block_of_page f page) (option_and_then (file_at fs.slots) o))
    (some_slot w h fs s accepted legal are live)
    ∙ ap (λ (l : List (Option LiveFile)). option_and_then (λ f. block_of_page f page) (file_at l k)) are.slots
    ∙ ap (option_and_then (λ f. block_of_page f page))
    (at_slot w h k file.slot_within ∙ ap (option_map (live_file w h)) file.in_slot)
    ∙ block_here w h s page below
