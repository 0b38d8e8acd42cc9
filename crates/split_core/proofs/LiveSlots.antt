-- The slots of live files: what each holds, and in which a file is found by its serial.
use Rattle.std.proofs.Common.{◌≡◌, ℕ, ◌<◌, ◌==◌, List, length, Bool, true, false, Option, Some, None, option_map}
use Rattle.std.proofs.Common.{refl, ap, ◌∙◌, subst, arith, slice_index_or, nat_lt}
use Rattle.std.specs.Prelude.{position, if◌then◌else◌}
use Rattle.std.specs.List.{position_or_len}
use Rattle.std.proofs.lemmas.Bool.{cond-true, cond-false, eq-eqb, eqb-true, lt-ltb, le-ltb, both_ways, false_from_ne_true}
use Rattle.std.proofs.lemmas.List.FromFn.{length-map-range_with_len, get_or-map-range_with_len}
use Rattle.std.proofs.lemmas.List.Sums.{position_or_len_is}
use Rattle.split_types.specs.declared.ids.Serial.{Serial}
use Rattle.split_types.specs.declared.workload.Workload.{Workload}
use Rattle.split_types.specs.declared.event.Event.{Event}
use Rattle.split_types.specs.Files.{is_live}
use Rattle.split_types.specs.FileSlots.{file_in_slot, slot_of, live_file, live_files}
use Rattle.split_types.specs.LiveFiles.{LiveFile, file_at, has_serial, slot_of_serial}
use Rattle.split_types.specs.FilesInOrder.{AreFiles}

-- ---- the first place that passes
-- a place that passes, where none before it does
pub first_is : {X : Type 0} (p : X → Bool) (xs : List X) (i : ℕ) (d : X) → i < length xs
    → p (slice_index_or xs i d) ≡ true → ((k : ℕ) → k < i → p (slice_index_or xs k d) ≡ false)
    → position p xs ≡ Some i
first_is p xs i d within here before =
    let at : position_or_len p xs ≡ i = position_or_len_is p xs i d (omega (arith, within)) before (λ lt. here) in
    ap (λ n. if nat_lt n (length xs) then Some n else None) at
    ∙ cond-true (nat_lt i (length xs)) (Some i) None (lt-ltb i (length xs) within)

-- none passes
pub none_is : {X : Type 0} (p : X → Bool) (xs : List X) (d : X)
    → ((k : ℕ) → k < length xs → p (slice_index_or xs k d) ≡ false) → position p xs ≡ None
none_is p xs d none =
    let at : position_or_len p xs ≡ length xs =
    position_or_len_is p xs (length xs) d (omega arith) none (λ lt. absurd (omega (arith, lt))) in
    ap (λ n. if nat_lt n (length xs) then Some n else None) at
    ∙ cond-false (nat_lt (length xs) (length xs)) (Some (length xs)) None (le-ltb (length xs) (length xs) (omega arith))

-- ---- what a slot holds
pub at_slot : (w : Workload) (h : List Event) (k : ℕ) → k < 256
    → file_at (live_files w h) k ≡ option_map (live_file w h) (file_in_slot w h k)
at_slot w h k below =
    get_or-map-range_with_len (λ i. option_map (live_file w h) (file_in_slot w h i)) 0 256 k k None below (omega arith)

pub all_slots : (w : Workload) (h : List Event) → length (live_files w h) ≡ 256
all_slots w h = length-map-range_with_len (λ i. option_map (live_file w h) (file_in_slot w h i)) 0 256

-- a test that no live file of a slot passes fails there
pub fails : (w : Workload) (h : List Event) (test : Option LiveFile → Bool) (k : ℕ) → k < 256 → test None ≡ false
    → ((s : Serial) → file_in_slot w h k ≡ Some s → test (Some (live_file w h s)) ≡ false)
    → test (file_at (live_files w h) k) ≡ false
fails w h test k below none each = ap test (at_slot w h k below) ∙ by_file (file_in_slot w h k) refl
  where
    by_file : (o : Option Serial) → file_in_slot w h k ≡ o → test (option_map (live_file w h) o) ≡ false
    by_file None at = none
    by_file (Some s) at = each s at

-- ---- by serial
-- a file that is there is found in its slot
pub slot_found : (w : Workload) (h : List Event) (s : Serial) → AreFiles w h → is_live w h s.0 ≡ true
    → slot_of_serial (live_files w h) s ≡ Some (slot_of w h s).0
slot_found w h s files live =
    let k = (slot_of w h s).0 in
    let file = files.live s live in
    let here : file_at (live_files w h) k ≡ Some (live_file w h s) =
    at_slot w h k file.slot_within ∙ ap (option_map (live_file w h)) file.in_slot in
    first_is (has_serial s) (live_files w h) k None (omega (arith, file.slot_within, all_slots w h))
    (ap (has_serial s) here ∙ eq-eqb s.0 s.0 refl)
    (λ i before. fails w h (has_serial s) i (omega (arith, before, file.slot_within)) refl
    (λ t at. false_from_ne_true (t.0 == s.0) (λ same. absurd (apart i t before at (eqb-true t.0 s.0 same)))))
  where
    apart : (i : ℕ) (t : Serial) → i < (slot_of w h s).0 → file_in_slot w h i ≡ Some t → t.0 ≡ s.0 → ⊥
    apart i t before at same =
        let place : (slot_of w h s).0 ≡ i =
        subst (λ n. (slot_of w h (record { 0 = n })).0 ≡ i) same (files.of_slot i t at).1 in
        omega (arith, before, place)

-- one that isn't there isn't found
pub slot_absent : (w : Workload) (h : List Event) (s : Serial) → AreFiles w h → is_live w h s.0 ≡ false
    → slot_of_serial (live_files w h) s ≡ None
slot_absent w h s files gone =
    none_is (has_serial s) (live_files w h) None
    (λ k within. fails w h (has_serial s) k (omega (arith, within, all_slots w h)) refl
    (λ t at. false_from_ne_true (t.0 == s.0) (λ same. both_ways (is_live w h s.0) gone
    (subst (λ n. is_live w h n ≡ true) (eqb-true t.0 s.0 same) (files.of_slot k t at).0))))
