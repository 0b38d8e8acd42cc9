-- Files are found by their slots, serials and names.
use Rattle.std.proofs.Common.{◌≡◌, ℕ, ◌<◌, List, true, Option, Some, None, option_map, refl, ap, sym, subst, ◌∙◌, arith}
use Rattle.std.specs.Prelude.{IfSome, IsSome}
use Rattle.std.specs.Str.{bytes_eq}
use Rattle.std.proofs.lemmas.Bool.{false_from_ne_true}
use Rattle.std.proofs.lemmas.Option.{same_Some, none-some}
use Rattle.std.proofs.lemmas.Slice.Eq.{bytes_eq-Decides}
use Rattle.split_types.specs.declared.ids.Serial.{Serial}
use Rattle.split_types.specs.declared.ids.Slot.{Slot}
use Rattle.split_types.specs.declared.call.Call.{Call}
use Rattle.split_types.specs.declared.call.Call.TheVariants.{Creat}
use Rattle.split_types.specs.Calls.{name_of}
use Rattle.split_types.specs.declared.workload.Workload.{Workload}
use Rattle.split_types.specs.declared.event.Event.{Event}
use Rattle.split_types.specs.Files.{is_live, live_named, file_for}
use Rattle.split_types.specs.FileSizes.{size_of_some}
use Rattle.split_types.specs.FileMaps.{mapped_block}
use Rattle.split_types.specs.FileSlots.{slot_of, file_name, live_file, live_files}
use Rattle.split_types.specs.LiveFiles.{LiveFile, Slots, file_at, has_name, slot_named, slot_of_serial, block_of_page}
use Rattle.split_types.specs.Accepted.{IsAccepted}
use Rattle.split_types.specs.Legal.{IsLegal}
use Rattle.split_types.proofs.Shared.{files_are_in_order}
use Rattle.split_core.specs.Filing.{IsFor}
use Rattle.split_core.proofs.FilingFilesLists.{item_is}
use Rattle.split_core.proofs.LiveSlots.{first_is, none_is, all_slots, fails, slot_found}
use Rattle.split_core.proofs.FilingFiles.{file_here, slot_here}

-- ---- by serial
pub serial_found : (w : Workload) (h : List Event) (s : Serial) → IsAccepted w → IsLegal w h
    → is_live w h s.0 ≡ true → slot_of_serial (live_files w h) s ≡ Some (slot_of w h s).0
serial_found w h s accepted legal live = slot_found w h s (files_are_in_order w h accepted legal) live

-- ---- by name
same_name : (a b : List ℕ) → bytes_eq a b ≡ true → a ≡ b
same_name a b is = (bytes_eq-Decides a b).0 is

pub name_found : (w : Workload) (h : List Event) (name : List ℕ) (s : Serial) → IsAccepted w → IsLegal w h
    → live_named w h name ≡ Some s → slot_named (live_files w h) name ≡ Some (slot_of w h s).0
name_found w h name s accepted legal named =
    let order = files_are_in_order w h accepted legal
    in let is = order.of_name name s named
    in let here = slot_here w h s accepted legal is.0
    in let slot = (slot_of w h s).0
    in first_is (has_name name) (live_files w h) slot None (omega (arith, here.0, all_slots w h))
    (ap (has_name name) (file_here w h slot s here.0 here.1) ∙ is.1)
    (λ j before. fails w h (has_name name) j (omega (arith, before, here.0)) refl
    (λ t at_j. false_from_ne_true (bytes_eq (file_name w h t.0) name)
    (λ same. (let other = order.of_slot j t at_j
    in let own : live_named w h name ≡ Some t =
    ap (live_named w h) (sym (same_name (file_name w h t.0) name same)) ∙ (order.live t other.0).by_name
    in let one : s ≡ t = same_Some s t (sym named ∙ own)
    in let at_slot : slot ≡ j = ap (λ (u : Serial). (slot_of w h u).0) one ∙ other.1
    in absurd (omega (arith, before, at_slot))))))

pub name_free : (w : Workload) (h : List Event) (name : List ℕ) → IsAccepted w → IsLegal w h
    → live_named w h name ≡ None → slot_named (live_files w h) name ≡ None
name_free w h name accepted legal none =
    let order = files_are_in_order w h accepted legal
    in none_is (has_name name) (live_files w h) None
    (λ j within. fails w h (has_name name) j (omega (arith, within, all_slots w h)) refl
    (λ t at_j. false_from_ne_true (bytes_eq (file_name w h t.0) name)
    (λ same. none-some t (sym none ∙ ap (live_named w h) (sym (same_name (file_name w h t.0) name same))
    ∙ (order.live t (order.of_slot j t at_j).0).by_name))))

-- the slot that is found by a name
pub slot_by_name : (w : Workload) (h : List Event) (slots : Slots) (name : List ℕ) (r : Option Slot) → IsAccepted w
    → IsLegal w h → slots ≡ live_files w h → option_map (λ (s : Slot). s.0) r ≡ slot_named slots name
    → option_map (slot_of w h) (live_named w h name) ≡ r
slot_by_name w h slots name r accepted legal same found = by_file (live_named w h name) refl r
    (found ∙ ap (λ l. slot_named l name) same)
  where
    by_file : (o : Option Serial) → live_named w h name ≡ o → (r : Option Slot)
        → option_map (λ (s : Slot). s.0) r ≡ slot_named (live_files w h) name → option_map (slot_of w h) o ≡ r
    by_file None at None is = refl
    by_file None at (Some t) is = absurd (none-some t.0 (sym (is ∙ name_free w h name accepted legal at)))
    by_file (Some s) at None is = absurd (none-some (slot_of w h s).0 (is ∙ name_found w h name s accepted legal at))
    by_file (Some s) at (Some t) is =
        ap (λ (n : ℕ). let k : Option Slot = Some (record { 0 = n }) in k)
        (sym (same_Some t.0 (slot_of w h s).0 (is ∙ name_found w h name s accepted legal at)))

-- the file of the slot that is found for a call
pub record HasFile (w : Workload) (h : List Event) (slots : Slots) (o : Option Serial) (slot : Slot) : Type 0 where
  pub serial : Serial
  pub live : is_live w h serial.0 ≡ true
  pub is : o ≡ Some serial
  pub file : file_at slots slot.0 ≡ Some (live_file w h serial)

pub file_by_name : (w : Workload) (h : List Event) (slots : Slots) (name : List ℕ) (slot : Slot) → IsAccepted w
    → IsLegal w h → slots ≡ live_files w h → option_map (slot_of w h) (live_named w h name) ≡ Some slot
    → HasFile w h slots (live_named w h name) slot
file_by_name w h slots name slot accepted legal same found = by_file (live_named w h name) refl found
  where
    by_file : (o : Option Serial) → live_named w h name ≡ o → option_map (slot_of w h) o ≡ Some slot
        → HasFile w h slots o slot
    by_file None at is = absurd (cc)
    by_file (Some s) at is =
        let live = ((files_are_in_order w h accepted legal).of_name name s at).0
        in let here = slot_here w h s accepted legal live
        in record {
          serial = s;
          live = live;
          is = refl;
          file = ap (λ (t : Slot). file_at slots t.0) (sym (same_Some (slot_of w h s) slot is))
              ∙ ap (λ l. file_at l (slot_of w h s).0) same ∙ file_here w h (slot_of w h s).0 s here.0 here.1;
        }

-- the block of a page of a file
pub block_is : (w : Workload) (h : List Event) (s : Serial) (page : ℕ) → page < 1008
    → block_of_page (live_file w h s) page ≡ mapped_block w h s.0 page
block_is w h s page below = item_is (mapped_block w h s.0) 1008 page None below

-- ---- for a call
-- a call that makes no file works on the file of its name
works_on : (w : Workload) (h : List Event) (c : Call) → ((name : List ℕ) → c ≡ Creat name → ⊥)
    → file_for w h (Some c) ≡ live_named w h (name_of c)
works_on w h (Creat name) other = absurd (other name refl)
works_on w h c other = refl

-- the slot that is found for a call is that of its file
pub record IsSlotFor (w : Workload) (h : List Event) (c : Call) (slots : Slots) (r : Option Slot) : Type 0 where
  pub slot : option_map (slot_of w h) (file_for w h (Some c)) ≡ r
  pub live : IfSome r (λ slot. IsSome (file_at slots slot.0))
  pub file : IfSome r (λ slot. IfSome (file_at slots slot.0) (IsFor w h c))

pub slot_is_for : (w : Workload) (h : List Event) (c : Call) (slots : Slots) (r : Option Slot) → IsAccepted w
    → IsLegal w h → slots ≡ live_files w h → ((name : List ℕ) → c ≡ Creat name → ⊥)
    → option_map (λ (s : Slot). s.0) r ≡ slot_named slots (name_of c) → IsSlotFor w h c slots r
slot_is_for w h c slots r accepted legal same other found =
    by_slot r (slot_by_name w h slots (name_of c) r accepted legal same found)
  where
    by_slot : (r : Option Slot) → option_map (slot_of w h) (live_named w h (name_of c)) ≡ r
        → IsSlotFor w h c slots r
    by_slot None none = record {
      slot = ap (option_map (slot_of w h)) (works_on w h c other) ∙ none;
      live = tt;
      file = tt;
    }
    by_slot (Some slot) some =
        let has = file_by_name w h slots (name_of c) slot accepted legal same some
        in let is : file_for w h (Some c) ≡ Some has.serial = works_on w h c other ∙ has.is
        in record {
          slot = ap (option_map (slot_of w h)) (works_on w h c other) ∙ some;
          live = subst (λ o. IsSome o) (sym has.file) refl;
          file = subst (λ o. IfSome o (IsFor w h c)) (sym has.file)
              (record { file = is; size = ap (size_of_some w h) is });
        }

-- ---- the block of a page
pub block_found : (w : Workload) (h : List Event) (slots : Slots) (s : Serial) (page : ℕ) (slot : Slot)
    (r : Option ℕ) → IsAccepted w → IsLegal w h → slots ≡ live_files w h → is_live w h s.0 ≡ true → page < 1008
    → Some slot.0 ≡ slot_of_serial slots s → IfSome (file_at slots slot.0) (λ f. r ≡ block_of_page f page)
    → r ≡ mapped_block w h s.0 page
block_found w h slots s page slot r accepted legal same live below found block =
    let here = slot_here w h s accepted legal live
    in let at : slot.0 ≡ (slot_of w h s).0 =
    same_Some slot.0 (slot_of w h s).0
    (found ∙ ap (λ l. slot_of_serial l s) same ∙ serial_found w h s accepted legal live)
    in let file : file_at slots slot.0 ≡ Some (live_file w h s) =
    ap (λ l. file_at l slot.0) same ∙ ap (file_at (live_files w h)) at
    ∙ file_here w h (slot_of w h s).0 s here.0 here.1
    in subst (λ o. IfSome o (λ f. r ≡ block_of_page f page)) file block ∙ block_is w h s page below

-- a file that is there is found
pub serial_there : (w : Workload) (h : List Event) (slots : Slots) (s : Serial) → IsAccepted w → IsLegal w h
    → slots ≡ live_files w h → is_live w h s.0 ≡ true → None ≡ slot_of_serial slots s → ⊥
serial_there w h slots s accepted legal same live none =
    none-some (slot_of w h s).0 (none ∙ ap (λ l. slot_of_serial l s) same ∙ serial_found w h s accepted legal live)

-- ---- what is handed on of a call that is admitted
-- a call with a slot works on the slot's file
pub file_given : (w : Workload) (h : List Event) (own : Option Call) (c : Call) (o : Option LiveFile) (serial : Serial)
    (size : ℕ) → own ≡ Some c → IsSome o → IfSome o (IsFor w h c) → IfSome o (λ f. serial ≡ f.serial)
    → IfSome o (λ f. size ≡ f.size)
    → (Some serial ≡ file_for w h own) × (size ≡ size_of_some w h (file_for w h own))
file_given w h own c None serial size is some for_it same_serial same_size = absurd (cc)
file_given w h own c (Some f) serial size is some for_it same_serial same_size = (
  ap (λ s. Some s) same_serial ∙ sym for_it.file ∙ sym (ap (file_for w h) is),
  same_size ∙ sym for_it.size ∙ sym (ap (λ o. size_of_some w h (file_for w h o)) is),
)

-- a call without one works on none
pub none_given : (w : Workload) (h : List Event) (own : Option Call) (c : Call) → own ≡ Some c
    → option_map (slot_of w h) (file_for w h (Some c)) ≡ None
    → (None ≡ file_for w h own) × (0 ≡ size_of_some w h (file_for w h own))
none_given w h own c is none =
    let file : file_for w h own ≡ None = ap (file_for w h) is ∙ no_file (file_for w h (Some c)) none
    in (sym file, sym (ap (size_of_some w h) file))
  where
    no_file : (o : Option Serial) → option_map (slot_of w h) o ≡ None → o ≡ None
    no_file None at = refl
    no_file (Some s) at = absurd (cc)
