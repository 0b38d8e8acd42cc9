-- The files that are kept stand before any event, and after one event more.
use Rattle.std.proofs.Common.{◌≡◌, ℕ, ◌+◌, ◌-◌, ◌*◌, ◌<◌, ◌≤◌, List, [], ◌++◌, length, map, take, slice_get, Bool, true, Option, Some, None, option_map, refl, ap, sym, subst, ◌∙◌, arith, nat_lt, inl, inr, if◌then◌else◌, IsSome}
use Rattle.std.specs.Prelude.{replicate, sum_by, unwrap_or, IfSome}
use Rattle.std.specs.List.{range_with_len}
use Rattle.std.proofs.lemmas.Bool.{cond-true, cond-false, cases_lt, lt-ltb, le-ltb}
use Rattle.std.proofs.lemmas.List.{length-append, length-replicate, get_or-replicate, get_or-append_right}
use Rattle.std.proofs.lemmas.List.FromFn.{fill_by_all}
use Rattle.split_types.specs.declared.ids.Pid.{Pid}
use Rattle.split_types.specs.declared.ids.Serial.{Serial}
use Rattle.split_types.specs.declared.ids.Slot.{Slot}
use Rattle.split_types.specs.declared.workload.Preset.{Preset}
use Rattle.split_types.specs.declared.workload.Workload.{Workload}
use Rattle.split_types.specs.declared.event.Event.{Event}
use Rattle.split_types.specs.declared.event.Event.TheVariants.{Make, Put, Drop, Map}
use Rattle.split_types.specs.History.{◌▹◌}
use Rattle.split_types.specs.Workloads.{pages_in, page_block, first_block}
use Rattle.split_types.specs.Files.{is_live}
use Rattle.split_types.specs.FileMaps.{mapped_block}
use Rattle.split_types.specs.FileSlots.{slot_of, file_name, live_file, live_files}
use Rattle.split_types.specs.LiveFiles.{LiveFile, Slots, file_at, free_slot, slot_named, slot_of_serial, made_file, grown_file, mapped_file, preset_file, preset_files, preset_slots, run_of, unmapped}
use Rattle.split_types.specs.IsWorkload.{IsPreset}
use Rattle.split_types.specs.Accepted.{IsAccepted}
use Rattle.split_types.specs.Legal.{IsLegal}
use Rattle.split_types.proofs.Shared.{some_at, all_at}
use Rattle.small_fs.specs.Files.{Files, next_file, with_file, changed}
use Rattle.split_core.specs.Fits.{MakeFits, DropFits}
use Rattle.split_core.specs.Filing.{FilesAre, MayMake}
use Rattle.split_core.proofs.FilingFilesLists.{same_items, first_mapped, length-presets, preset_at}
use Rattle.split_core.proofs.FilingFiles.{of_parts, in_slot, same_file, slot_stays, file_here, slot_here, files_make, files_drop, files_put, files_map}
use Rattle.split_core.proofs.FilingFilesFound.{serial_found, name_free}

-- ---- before any event
-- the preset file of a number
preset_here : (w : Workload) (k : ℕ) (f : Preset) → IsAccepted w → slice_get w.files k ≡ Some f
    → live_file w [] (record { 0 = k })
    ≡ preset_file (0 + k) (first_block w + sum_by (λ x. x.pages) (take k w.files)) f
preset_here w k f accepted at =
    let first = first_block w + sum_by (λ x. x.pages) (take k w.files)
    in let few = (all_at IsPreset w.files k f accepted.workload.presets.each at).pages_most
    in let name : file_name w [] k ≡ f.name = ap (λ o. unwrap_or (option_map (λ (y : Preset). y.name) o) []) at
    in let pages : pages_in w k ≡ f.pages = ap (λ o. unwrap_or (option_map (λ (y : Preset). y.pages) o) 0) at
    in let all : List (Option ℕ) = map (mapped_block w [] k) (range_with_len 0 1008)
    in let blocks : all ≡ run_of first f.pages ++ unmapped (1008 - f.pages) =
    first_mapped (mapped_block w [] k) first f.pages 1008 few (λ g. page_is g pages)
    in let number : k ≡ 0 + k = omega arith
    in ap (λ n. of_parts (record { 0 = n }) (file_name w [] k) (4096 * pages_in w k) (4096 * pages_in w k) all) number
    ∙ ap (λ x. of_parts (record { 0 = 0 + k }) x (4096 * pages_in w k) (4096 * pages_in w k) all) name
    ∙ ap (λ n. of_parts (record { 0 = 0 + k }) f.name (4096 * n) (4096 * n) all) pages
    ∙ ap (of_parts (record { 0 = 0 + k }) f.name (4096 * f.pages) (4096 * f.pages)) blocks
  where
    page_is : (g : ℕ) → pages_in w k ≡ f.pages → mapped_block w [] k g
        ≡ (if nat_lt g f.pages then Some (first_block w + sum_by (λ x. x.pages) (take k w.files) + g) else None)
    page_is g pages =
        let place : page_block w k g ≡ first_block w + sum_by (λ x. x.pages) (take k w.files) + g = omega arith
        in ap (λ n. if nat_lt g n then Some (page_block w k g) else None) pages
        ∙ ap (λ x. if nat_lt g f.pages then Some x else None) place

pub files_start : (w : Workload) → IsAccepted w → preset_slots (first_block w) w.files ≡ live_files w []
files_start w accepted =
    let n = length w.files
    in let front = preset_files 0 (first_block w) w.files
    in let rest : Slots = replicate (256 - n) None
    in let long : length (front ++ rest) ≡ 256 = omega (
      arith,
      accepted.workload.presets.few,
      length-append front rest,
      length-presets 0 (first_block w) w.files,
      length-replicate {A = Option LiveFile} (256 - n) None,
    )
    in fill_by_all (in_slot w []) (front ++ rest) 256 None long (λ k below. elim (cases_lt k n) [
      | inl within ↦
          (let f = some_at w.files k within
          in preset_at 0 (first_block w) w.files rest k f.0 f.1
          ∙ sym (ap (option_map (live_file w []))
          (cond-true (nat_lt k n) (Some (record { 0 = k })) None (lt-ltb k n within))
          ∙ ap (λ x. Some x) (preset_here w k f.0 accepted f.1)))
      | inr past ↦
          get_or-append_right front rest n k None (length-presets 0 (first_block w) w.files) past
          ∙ get_or-replicate {A = Option LiveFile} (256 - n) (k - n) None None (omega (arith, below, past))
          ∙ sym (ap (option_map (live_file w []))
          (cond-false (nat_lt k n) (Some (record { 0 = k })) None (le-ltb k n past)))
    ])

pub files_new : (w : Workload) (fs : Files) → IsAccepted w → fs.first ≡ first_block w
    → fs.slots ≡ preset_slots (first_block w) w.files → fs.next ≡ length w.files → FilesAre w fs []
files_new w fs accepted first slots next = record {
  first = first;
  slots = slots ∙ files_start w accepted;
  next = omega (arith, next);
}

-- ---- after an event
pub files_quiet : (w : Workload) (h : List Event) (e : Event) (fs : Files)
    → ((by : Pid) (slot : Slot) (serial : Serial) → e ≡ Make by slot serial → ⊥)
    → ((by : Pid) (s : Serial) (g from to fill : ℕ) → e ≡ Put by s g from to fill → ⊥)
    → ((by : Pid) (slot : Slot) (serial : Serial) → e ≡ Drop by slot serial → ⊥)
    → ((slot : Slot) (s : Serial) (g n block : ℕ) (new : Bool) (size : ℕ) → e ≡ Map slot s g n block new size → ⊥)
    → FilesAre w fs h → FilesAre w fs (h ▹ e)
files_quiet w h (Make by slot serial) fs make put drop mapped are = absurd (make by slot serial refl)
files_quiet w h (Put by s g from to fill) fs make put drop mapped are = absurd (put by s g from to fill refl)
files_quiet w h (Drop by slot serial) fs make put drop mapped are = absurd (drop by slot serial refl)
files_quiet w h (Map slot s g n block new size) fs make put drop mapped are =
    absurd (mapped slot s g n block new size refl)
files_quiet w h e fs make put drop mapped are = record {
  first = are.first;
  slots = are.slots
      ∙ sym (same_items (in_slot w h) (in_slot w (h ▹ e)) 256 None
      (λ k below. slot_stays w (h ▹ e) h k refl (λ t at. same_file w (h ▹ e) h t refl refl refl (λ i. refl))));
  next = are.next;
}

-- where a file is made
abbrev made_at : ℕ → Option ℕ → Option (Slot × Serial)
made_at next o = option_map (λ s. (record { 0 = s }, record { 0 = next })) o

abbrev pair_of : Slot → Serial → Option (Slot × Serial)
pair_of k s = Some (k, s)

-- where the next file is made
pub next_is : (w : Workload) (h : List Event) (by : Pid) (slot : Slot) (serial : Serial) (fs : Files)
    → MakeFits w h by slot serial → FilesAre w fs h → next_file fs ≡ Some (slot, serial)
next_is w h by slot serial fs f are =
    ap (λ s. made_at fs.next (free_slot s)) are.slots ∙ ap (made_at fs.next) f.slot_is
    ∙ ap (λ n. made_at n (Some slot.0)) are.next ∙ ap (pair_of slot) (sym f.serial_is)

-- the file may be made
pub may_make : (w : Workload) (h : List Event) (by : Pid) (slot : Slot) (serial : Serial) (fs : Files) → IsAccepted w
    → IsLegal w h → (f : MakeFits w h by slot serial) → FilesAre w fs h → 0 < fs.spare → MayMake fs f.name
may_make w h by slot serial fs accepted legal f are room = record {
  few = omega (arith, f.few, are.next, ap (λ (s : Serial). s.0) f.serial_is);
  room = room;
  fresh = ap (λ s. slot_named s f.name) are.slots ∙ name_free w h f.name accepted legal f.fresh;
  free = subst (λ o. IsSome o) (sym (next_is w h by slot serial fs f are)) refl;
}

pub files_made : (w : Workload) (h : List Event) (by : Pid) (slot : Slot) (serial : Serial) (old new : Files)
    → IsAccepted w → IsLegal w h → (f : MakeFits w h by slot serial) → FilesAre w old h
    → IfSome (next_file old) (λ at. new.slots ≡ with_file at.0.0 (Some (made_file at.1 f.name)) old.slots)
    → new.next ≡ old.next + 1 → new.first ≡ old.first → FilesAre w new (h ▹ Make by slot serial)
files_made w h by slot serial old new accepted legal f are slots next first =
    let is : new.slots ≡ with_file slot.0 (Some (made_file serial f.name)) old.slots =
    subst (λ o. IfSome o (λ at. new.slots ≡ with_file at.0.0 (Some (made_file at.1 f.name)) old.slots))
    (next_is w h by slot serial old f are) slots
    in record {
      first = first ∙ are.first;
      slots = is ∙ ap (with_file slot.0 (Some (made_file serial f.name))) are.slots
          ∙ files_make w h by slot serial accepted legal f;
      next = omega (arith, next, are.next);
    }

-- the slot of a file that is there
pub slot_within : (w : Workload) (h : List Event) (slot : Slot) (serial : Serial) → IsAccepted w → IsLegal w h
    → DropFits w h slot serial → slot.0 < 256
slot_within w h slot serial accepted legal f =
    subst (λ (s : Slot). s.0 < 256) (sym f.slot_is) (slot_here w h serial accepted legal f.live).0

pub file_is : (w : Workload) (h : List Event) (slot : Slot) (serial : Serial) (fs : Files) → IsAccepted w
    → IsLegal w h → DropFits w h slot serial → FilesAre w fs h
    → file_at fs.slots slot.0 ≡ Some (live_file w h serial)
file_is w h slot serial fs accepted legal f are =
    ap (λ l. file_at l slot.0) are.slots
    ∙ file_here w h slot.0 serial (slot_within w h slot serial accepted legal f) f.in_slot

pub files_dropped : (w : Workload) (h : List Event) (by : Pid) (slot : Slot) (serial : Serial) (old new : Files)
    → IsAccepted w → IsLegal w h → DropFits w h slot serial → FilesAre w old h
    → new ≡ record old { slots = with_file slot.0 None old.slots } → FilesAre w new (h ▹ Drop by slot serial)
files_dropped w h by slot serial old new accepted legal f are is = record {
  first = ap (λ x. x.first) is ∙ are.first;
  slots = ap (λ x. x.slots) is ∙ ap (with_file slot.0 None) are.slots
      ∙ files_drop w h by slot serial (slot_within w h slot serial accepted legal f);
  next = ap (λ x. x.next) is ∙ are.next;
}

pub files_grown : (w : Workload) (h : List Event) (by : Pid) (s : Serial) (page from to fill : ℕ) (old new : Files)
    → IsAccepted w → IsLegal w h → is_live w h s.0 ≡ true → FilesAre w old h
    → IfSome (slot_of_serial old.slots s)
    (λ at. new ≡ record old { slots = changed (grown_file (4096 * page + to)) at old.slots })
    → FilesAre w new (h ▹ Put by s page from to fill)
files_grown w h by s page from to fill old new accepted legal live are grown =
    let end = 4096 * page + to
    in let is : new ≡ record old { slots = changed (grown_file end) (slot_of w h s).0 old.slots } =
    subst (λ o. IfSome o (λ at. new ≡ record old { slots = changed (grown_file end) at old.slots }))
    (ap (λ l. slot_of_serial l s) are.slots ∙ serial_found w h s accepted legal live) grown
    in record {
      first = ap (λ x. x.first) is ∙ are.first;
      slots = ap (λ x. x.slots) is ∙ ap (changed (grown_file end) (slot_of w h s).0) are.slots
          ∙ files_put w h by s page from to fill accepted legal live;
      next = ap (λ x. x.next) is ∙ are.next;
    }

pub files_mapped : (w : Workload) (h : List Event) (slot : Slot) (s : Serial) (page n block : ℕ) (new_blocks : Bool)
    (size : ℕ) (old new : Files) → IsAccepted w → IsLegal w h → page + n ≤ 1008 → DropFits w h slot s
    → FilesAre w old h → new ≡ record old { slots = changed (mapped_file page n block size) slot.0 old.slots }
    → FilesAre w new (h ▹ Map slot s page n block new_blocks size)
files_mapped w h slot s page n block new_blocks size old new accepted legal fit f are is = record {
  first = ap (λ x. x.first) is ∙ are.first;
  slots = ap (λ x. x.slots) is ∙ ap (changed (mapped_file page n block size) slot.0) are.slots
      ∙ files_map w h slot s page n block new_blocks size accepted legal fit
      (slot_within w h slot s accepted legal f) f.in_slot;
  next = ap (λ x. x.next) is ∙ are.next;
}

-- more room changes no file
pub files_roomy : (w : Workload) (h : List Event) (old new : Files) → new ≡ record old { spare = new.spare }
    → FilesAre w old h → FilesAre w new h
files_roomy w h old new is are = record {
  first = ap (λ x. x.first) is ∙ are.first;
  slots = ap (λ x. x.slots) is ∙ are.slots;
  next = ap (λ x. x.next) is ∙ are.next;
}
