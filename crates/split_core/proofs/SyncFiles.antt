-- The slots of the files that are there, and lists of which one element is changed.
use Rattle.std.proofs.Common.{◌≡◌, ℕ, ◌+◌, ◌<◌, Bool, true, false, ◌⊎◌, inl, inr, List, [], ◌∷◌, length, map, slice_get, slice_index_or, Option, Some, None, refl, ap, sym, ◌∙◌, arith, cond, if◌then◌else◌}
use Rattle.std.specs.Prelude.{slice_set, count_by}
use Rattle.std.specs.Option.{option_map}
use Rattle.std.proofs.lemmas.Bool.{cases_eq}
use Rattle.std.proofs.lemmas.Option.{slice_get_within, get_or_from_slice_get, same_Some}
use Rattle.std.proofs.lemmas.List.{get_or-set_same, get_or-set_other, length-set}
use Rattle.std.proofs.lemmas.List.Sums.{sum_by-cons}
use Rattle.split_types.specs.declared.ids.Serial.{Serial}
use Rattle.split_types.specs.declared.ids.Slot.{Slot}
use Rattle.split_types.specs.declared.workload.Workload.{Workload}
use Rattle.split_types.specs.declared.event.Event.{Event}
use Rattle.split_types.specs.LiveFiles.{slot_of_serial}
use Rattle.split_types.specs.FileSlots.{live_files, slot_of}
use Rattle.split_types.specs.Files.{is_live}
use Rattle.split_types.specs.FilesInOrder.{AreFiles}
use Rattle.split_types.specs.Accepted.{IsAccepted}
use Rattle.split_types.specs.Legal.{IsLegal}
use Rattle.split_types.proofs.Shared.{some_at, files_are_in_order}
use Rattle.small_fs.specs.Files.{Files}
use Rattle.split_core.specs.Filing.{FilesAre}
use Rattle.split_core.specs.Syncs.{live_slot}
use Rattle.split_core.proofs.LiveSlots.{slot_found, slot_absent}

-- ---- slots
of_some : (o : Option Slot) (k : Slot) → option_map (λ (slot : Slot). slot.0) o ≡ Some k.0 → o ≡ Some k
of_some None k is = absurd (cc)
of_some (Some j) k is = ap (λ n. Some (record { 0 = n })) (same_Some j.0 k.0 is)

of_none : (o : Option Slot) → option_map (λ (slot : Slot). slot.0) o ≡ None → o ≡ None
of_none None is = refl
of_none (Some j) is = absurd (cc)

-- the slot in which a file is found is that of the file, where that is there
pub slot_is : (w : Workload) (h : List Event) (fs : Files) (s : Serial) (o : Option Slot) → IsAccepted w → IsLegal w h
    → FilesAre w fs h → option_map (λ (slot : Slot). slot.0) o ≡ slot_of_serial fs.slots s → o ≡ live_slot w h s
slot_is w h fs s o accepted legal files is = by_test (is_live w h s.0) refl
  where
    order : AreFiles w h
    order = files_are_in_order w h accepted legal

    found : option_map (λ (slot : Slot). slot.0) o ≡ slot_of_serial (live_files w h) s
    found = is ∙ ap (λ l. slot_of_serial l s) files.slots

    by_test : (b : Bool) → is_live w h s.0 ≡ b → o ≡ (if b then Some (slot_of w h s) else None)
    by_test true live = of_some o (slot_of w h s) (found ∙ slot_found w h s order live)
    by_test false gone = of_none o (found ∙ slot_absent w h s order gone)

-- ---- lists
-- an element of a list of which one was changed
pub set_there : {X : Type 0} (xs : List X) (i j : ℕ) (v y : X) → slice_get (slice_set xs i v) j ≡ Some y
    → ((j ≡ i) × (y ≡ v) × (i < length xs)) ⊎ ((j ≡ i → ⊥) × (slice_get xs j ≡ Some y))
set_there xs i j v y at = elim (cases_eq j i) [
  | inl same ↦ inl (
    same,
    sym read ∙ ap (λ n. slice_index_or (slice_set xs i v) n v) same
        ∙ get_or-set_same xs i v v (omega (arith, within, same)),
    omega (arith, within, same),
  )
  | inr other ↦
      (let was = some_at xs j within
      in let same : was.0 ≡ y =
      sym (get_or_from_slice_get xs j was.0 v was.1) ∙ sym (get_or-set_other xs i j v v other) ∙ read
      in inr (other, was.1 ∙ ap (λ x. Some x) same))
]
  where
    read : slice_index_or (slice_set xs i v) j v ≡ y
    read = get_or_from_slice_get (slice_set xs i v) j y v at

    within : j < length xs
    within = omega (arith, slice_get_within (slice_set xs i v) j y at, length-set xs i v)

-- ---- counts
pub count_same : {X : Type 0} (p : X → Bool) (f : X → X) (xs : List X) → ((x : X) → p (f x) ≡ p x)
    → count_by p (map f xs) ≡ count_by p xs
count_same p f [] same = refl
count_same p f (x ∷ xs) same =
    sum_by-cons (λ y. cond (p y) 1 0) (f x) (map f xs)
    ∙ ap (λ b. cond b 1 0 + count_by p (map f xs)) (same x)
    ∙ ap (λ n. cond (p x) 1 0 + n) (count_same p f xs same)
    ∙ sym (sum_by-cons (λ y. cond (p y) 1 0) x xs)
