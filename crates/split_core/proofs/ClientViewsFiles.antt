-- The live files as they stand in their slots: by serial, by name, and the blocks of their pages.
use Rattle.std.proofs.Common.{◌≡◌, ℕ, ◌<◌, ◌≤◌, List, length, Bool, true, false, not, ◌&&◌, Option, Some, None}
use Rattle.std.proofs.Common.{is_some, is_none, refl, ap, sym, ◌∙◌, subst, arith, inl, inr, slice_index_or, nat_lt, nat_le}
use Rattle.std.proofs.Common.{option_map}
use Rattle.std.specs.Prelude.{position, IfSome, if◌then◌else◌}
use Rattle.std.specs.List.{position_or_len}
use Rattle.std.specs.Str.{bytes_eq}
use Rattle.std.proofs.lemmas.Bool.{cases_lt, cond-true, cond-false, lt-ltb, le-ltb, both_ways}
use Rattle.std.proofs.lemmas.Bool.{false_from_ne_true}
use Rattle.std.proofs.lemmas.List.FromFn.{get_or-map-range_with_len}
use Rattle.std.proofs.lemmas.List.Sums.{fails_before_first}
use Rattle.std.proofs.lemmas.Slice.Eq.{bytes_eq-Decides}
use Rattle.split_types.specs.declared.ids.Serial.{Serial}
use Rattle.split_types.specs.declared.ids.Slot.{Slot}
use Rattle.split_types.specs.declared.buf.Buf.{Buf}
use Rattle.split_types.specs.declared.buf.Buf.TheVariants.{Page}
use Rattle.split_types.specs.declared.call.Call.{Call}
use Rattle.split_types.specs.declared.request.Service.{Service}
use Rattle.split_types.specs.declared.request.Service.TheVariants.{Idle, Serving, Mapped}
use Rattle.split_types.specs.declared.workload.Workload.{Workload}
use Rattle.split_types.specs.declared.event.Event.{Event}
use Rattle.split_types.specs.Calls.{name_of}
use Rattle.split_types.specs.Files.{is_live, live_named, is_name_taken}
use Rattle.split_types.specs.FileSizes.{if_live}
use Rattle.split_types.specs.Pages.{is_dirty}
use Rattle.split_types.specs.FileMaps.{mapped_block, free_blocks, reserved_pages, is_without_space, is_in_mapped_run}
use Rattle.split_types.specs.FileSlots.{slot_of, slot_of_some, file_name, live_file, live_files}
use Rattle.split_types.specs.LiveFiles.{file_at, has_name, slot_named, slot_of_serial}
use Rattle.split_types.specs.Writeback.{service}
use Rattle.split_types.specs.FilesInOrder.{AreFiles}
use Rattle.split_types.specs.MapsInOrder.{AreMaps}
use Rattle.client_calls.specs.CallFile as call
use Rattle.client_calls.specs.Space as space
use Rattle.delayed_alloc.specs.Blocks.{Blocks, free_count}
use Rattle.small_fs.specs.Files.{Files}
use Rattle.split_core.specs.Filing.{FilesAre, BlocksAre}
use Rattle.split_core.specs.Clients.{mapped_run}
use Rattle.split_core.proofs.FilingBlocksFree.{free_counted}
use Rattle.split_core.proofs.LiveSlots.{none_is, at_slot, all_slots, fails, slot_found, slot_absent}

-- ---- the first place that passes
-- one that passes is found
one_is : {X : Type 0} (p : X → Bool) (xs : List X) (i : ℕ) (d : X) → i < length xs
    → p (slice_index_or xs i d) ≡ true → is_some (position p xs) ≡ true
one_is p xs i d within here = elim (cases_lt (position_or_len p xs) (length xs)) [
  | inl found ↦
      ap is_some (cond-true (nat_lt (position_or_len p xs) (length xs)) (Some (position_or_len p xs)) None
      (lt-ltb (position_or_len p xs) (length xs) found))
  | inr past ↦
      absurd (both_ways (p (slice_index_or xs i d)) (fails_before_first p xs i d (omega (arith, within, past))) here)
]

-- ---- by serial
-- the file that a call is bound to, where it is still there
pub file_is : (w : Workload) (h : List Event) (o : Option Serial) → AreFiles w h
    → if_live w h o ≡ call.file_in (live_files w h) o
file_is w h None files = refl
file_is w h (Some s) files = by_test (is_live w h s.0) refl
  where
    by_test : (b : Bool) → is_live w h s.0 ≡ b
        → (if b then Some s else None) ≡ call.file_in (live_files w h) (Some s)
    by_test true live =
        sym (ap (λ (o : Option ℕ). if is_some o then Some s else None) (slot_found w h s files live))
    by_test false gone =
        sym (ap (λ (o : Option ℕ). if is_some o then Some s else None) (slot_absent w h s files gone))

-- a slot is found exactly where the file is there
pub there_is : (w : Workload) (h : List Event) (fs : Files) (s : Serial) (o : Option Slot) → AreFiles w h
    → FilesAre w fs h → option_map (λ k. k.0) o ≡ slot_of_serial fs.slots s
    → is_some o ≡ is_some (if_live w h (Some s))
there_is w h fs s o files are found =
    any_slot o ∙ ap is_some found ∙ ap (λ slots. is_some (slot_of_serial slots s)) are.slots
    ∙ any_file s (slot_of_serial (live_files w h) s) ∙ ap is_some (sym (file_is w h (Some s) files))
  where
    any_slot : (x : Option Slot) → is_some x ≡ is_some (option_map (λ k. k.0) x)
    any_slot None = refl
    any_slot (Some k) = refl

    any_file : (t : Serial) (x : Option ℕ) → is_some x ≡ is_some (if is_some x then Some t else None)
    any_file t None = refl
    any_file t (Some k) = refl

-- the slot of the file that a call is bound to
pub slot_is : (w : Workload) (h : List Event) (o : Option Serial) → AreFiles w h
    → IfSome (call.slot_in (live_files w h) o) (λ slot. slot_of_some w h (if_live w h o) ≡ record { 0 = slot })
slot_is w h None files = tt
slot_is w h (Some s) files = by_test (is_live w h s.0) refl
  where
    by_test : (b : Bool) → is_live w h s.0 ≡ b
        → IfSome (slot_of_serial (live_files w h) s)
        (λ slot. slot_of_some w h (if b then Some s else None) ≡ record { 0 = slot })
    by_test true live =
        subst (λ (o : Option ℕ). IfSome o (λ slot. slot_of w h s ≡ record { 0 = slot }))
        (sym (slot_found w h s files live)) refl
    by_test false gone =
        subst (λ (o : Option ℕ). IfSome o (λ slot. slot_of_some w h None ≡ record { 0 = slot }))
        (sym (slot_absent w h s files gone)) tt

-- ---- by name
same_name : (a b : List ℕ) → bytes_eq a b ≡ true → a ≡ b
same_name a b is = (bytes_eq-Decides a b).0 is

name_found : (w : Workload) (h : List Event) (name : List ℕ) → AreFiles w h
    → is_some (live_named w h name) ≡ is_some (slot_named (live_files w h) name)
name_found w h name files = by_file (live_named w h name) refl
  where
    by_file : (o : Option Serial) → live_named w h name ≡ o
        → is_some o ≡ is_some (slot_named (live_files w h) name)
    by_file None none =
        sym (ap is_some (none_is (has_name name) (live_files w h) None
        (λ k within. fails w h (has_name name) k (omega (arith, within, all_slots w h)) refl
        (λ t at. false_from_ne_true (bytes_eq (file_name w h t.0) name) (λ same. unnamed t
        (files.live t (files.of_slot k t at).0).by_name (same_name (file_name w h t.0) name same))))))
      where
        unnamed : (t : Serial) → live_named w h (file_name w h t.0) ≡ Some t → file_name w h t.0 ≡ name → ⊥
        unnamed t has same =
            let here : live_named w h name ≡ Some t = ap (live_named w h) (sym same) ∙ has in
            absurd (cc (sym none ∙ here))
    by_file (Some s) at =
        let of = files.of_name name s at in
        let file = files.live s of.0 in
        let k = (slot_of w h s).0 in
        let here : file_at (live_files w h) k ≡ Some (live_file w h s) =
        at_slot w h k file.slot_within ∙ ap (option_map (live_file w h)) file.in_slot in
        sym (one_is (has_name name) (live_files w h) k None (omega (arith, file.slot_within, all_slots w h))
        (ap (has_name name) here ∙ of.1))

-- a live file has the name of a call
pub name_taken_is : (w : Workload) (h : List Event) (c : Option Call) → AreFiles w h
    → is_name_taken w h c ≡ call.is_name_taken (live_files w h) c
name_taken_is w h None files = refl
name_taken_is w h (Some c) files = name_found w h (name_of c) files

-- ---- the blocks of pages
-- a page beyond those that a file may have has no block
no_block : (w : Workload) (h : List Event) (s g : ℕ) → AreMaps w h → 1008 ≤ g → mapped_block w h s g ≡ None
no_block w h s g maps past = by_block (mapped_block w h s g) refl
  where
    by_block : (o : Option ℕ) → mapped_block w h s g ≡ o → o ≡ None
    by_block None at = refl
    by_block (Some x) at = absurd (omega (arith, past, (maps.placed s g x at).page))

-- the block of a page in what a slot holds
block_in_file : (w : Workload) (h : List Event) (s : Serial) (g : ℕ) → AreMaps w h
    → space.block_in (Some (live_file w h s)) g ≡ mapped_block w h s.0 g
block_in_file w h s g maps =
    let had = slice_index_or (live_file w h s).blocks g None in
    elim (cases_lt g 1008) [
      | inl below ↦
          cond-true (nat_lt g 1008) had None (lt-ltb g 1008 below)
          ∙ get_or-map-range_with_len (mapped_block w h s.0) 0 1008 g g None below (omega arith)
      | inr past ↦
          cond-false (nat_lt g 1008) had None (le-ltb g 1008 past) ∙ sym (no_block w h s.0 g maps past)
    ]

pub block_is : (w : Workload) (h : List Event) (s : Serial) (g : ℕ) → AreFiles w h → AreMaps w h
    → is_live w h s.0 ≡ true → mapped_block w h s.0 g ≡ space.block_of (live_files w h) s g
block_is w h s g files maps live =
    let file = files.live s live in
    let k = (slot_of w h s).0 in
    let here : file_at (live_files w h) k ≡ Some (live_file w h s) =
    at_slot w h k file.slot_within ∙ ap (option_map (live_file w h)) file.in_slot in
    sym (ap (λ (o : Option ℕ). elim o [ None ↦ None | Some slot ↦ space.block_at (live_files w h) slot g ])
    (slot_found w h s files live)
    ∙ ap (λ o. space.block_in o g) here ∙ block_in_file w h s g maps)

-- ---- space
-- a block is promised to a page exactly where the page is dirty and has none
unpromised : (none dirty full : Bool) → (none && not (dirty && none) && full) ≡ (none && not dirty && full)
unpromised false dirty full = refl
unpromised true true full = refl
unpromised true false full = refl

pub space_is : (w : Workload) (h : List Event) (s : Serial) (g : ℕ) (a : Blocks) (block : Option ℕ) (dirty : Bool)
    → BlocksAre w a h → mapped_block w h s.0 g ≡ block → is_dirty w h (Page s g) ≡ dirty
    → is_without_space w h (Page s g) ≡ (is_none block && not dirty && space.is_used_up a)
space_is w h s g a block dirty stands at is =
    let free = length (free_blocks w h) in
    let promised = length (reserved_pages w h) in
    unpromised (is_none (mapped_block w h s.0 g)) (is_dirty w h (Page s g)) (nat_le free promised)
    ∙ ap (λ o. is_none o && not (is_dirty w h (Page s g)) && nat_le free promised) at
    ∙ ap (λ d. is_none block && not d && nat_le free promised) is
    ∙ ap (λ n. is_none block && not dirty && nat_le n promised) (sym (free_counted w h a stands))
    ∙ ap (λ n. is_none block && not dirty && nat_le (free_count a) n) (sym stands.reserved)

-- ---- the run that is mapped
pub run_is : (h : List Event) (b : Buf) → is_in_mapped_run h b ≡ space.is_in_run (mapped_run (service h)) b
run_is h b = by_service (service h) refl
  where
    by_service : (x : Service) → service h ≡ x → is_in_mapped_run h b ≡ space.is_in_run (mapped_run x) b
    by_service Idle is = rw is refl
    by_service (Serving run) is = rw is refl
    by_service (Mapped run) is = rw is refl
