-- What a call that makes a file gives, and what is asked before any event.
use Rattle.std.proofs.Common.{◌≡◌, ◌⊎◌, ℕ, ◌+◌, ◌-◌, ◌^◌, ◌<◌, ◌≤◌, List, length, take, slice_get, unwrap_or, option_map, Bool, true, false, Option, Some, None, refl, ap, sym, subst, ◌∙◌, arith, nat_lt, inl, inr, if◌then◌else◌, IsSome}
use Rattle.std.specs.Prelude.{All, AllPairs, IsFalse, IfSome, IfOk, OnOk, Ok, Err, Result, sum_by}
use Rattle.std.specs.Str.{bytes_eq}
use Rattle.std.proofs.lemmas.List.{take_all}
use Rattle.std.proofs.lemmas.List.Elements.{All-weaker}
use Rattle.std.proofs.lemmas.List.Sums.{sum_by_push}
use Rattle.std.proofs.lemmas.Option.{slice_get_within}
use Rattle.split_types.specs.declared.ids.Serial.{Serial}
use Rattle.split_types.specs.declared.ids.Slot.{Slot}
use Rattle.split_types.specs.declared.workload.Preset.{Preset}
use Rattle.split_types.specs.declared.workload.Workload.{Workload}
use Rattle.split_types.specs.Workloads.{first_block, pages_in, preset_pages}
use Rattle.split_types.specs.LiveFiles.{slot_named, made_file}
use Rattle.split_types.specs.IsWorkload.{IsPreset, ArePresets}
use Rattle.split_types.specs.Accepted.{IsAccepted}
use Rattle.split_types.proofs.Shared.{data_from, file_within, take_at_some}
use Rattle.small_fs.specs.declared.fs.MakeFault.{MakeFault}
use Rattle.small_fs.specs.declared.fs.MakeFault.TheVariants as fault
use Rattle.small_fs.specs.Files.{Files, next_file, with_file}
use Rattle.split_core.specs.Filing.{MayMake}

-- ---- a file that may be made is made
-- what is asked for the next file of a name, and what is so where there is none
pub record Made (old new : Files) (name : List ℕ) : Type 0 where
  pub slots : IfSome (next_file old) (λ at. new.slots ≡ with_file at.0.0 (Some (made_file at.1 name)) old.slots)
  pub counted : new.next ≡ old.next + 1

no_name : (o : Option ℕ) → o ≡ None → IsSome o → ⊥
no_name None none some = absurd (cc)
no_name (Some k) none some = absurd (cc)

no_place : (o : Option (Slot × Serial)) → o ≡ None → IsSome o → ⊥
no_place None none some = absurd (cc)
no_place (Some k) none some = absurd (cc)

pub made_by : (old new : Files) (name : List ℕ) (r : Result (Slot × Serial) MakeFault) → MayMake old name
    → IfOk r (λ made. next_file old ≡ Some made)
    → IfOk r (λ made. new.slots ≡ with_file made.0.0 (Some (made_file made.1 name)) old.slots)
    → OnOk r (new.next ≡ old.next + 1) → (r ≡ Err fault.Exists → IsSome (slot_named old.slots name))
    → (r ≡ Err fault.NoSlot → next_file old ≡ None) → (r ≡ Err fault.Memory → ⊥) → Made old new name
made_by old new name (Ok made) may next slots counted exists no_slot memory = record {
  slots = subst (λ o. IfSome o (λ at. new.slots ≡ with_file at.0.0 (Some (made_file at.1 name)) old.slots)) (sym next)
      slots;
  counted = counted;
}
made_by old new name (Err fault.Exists) may next slots counted exists no_slot memory =
    absurd (no_name (slot_named old.slots name) may.fresh (exists refl))
made_by old new name (Err fault.NoSlot) may next slots counted exists no_slot memory =
    absurd (no_place (next_file old) (no_slot refl) may.free)
made_by old new name (Err fault.Memory) may next slots counted exists no_slot memory = absurd (memory refl)

-- ---- before any event
-- what is asked of the preset files
pub record MayStart (w : Workload) (first : ℕ) (files : List Preset) : Type 0 where
  pub few : length files ≤ 256
  pub pages : All (λ f. f.pages ≤ 1008) files
  pub apart : AllPairs (λ f g. IsFalse (bytes_eq f.name g.name)) files
  pub one : (first ≡ 526) ⊎ (first ≡ 1318)
  pub fit : first + sum_by (λ f. f.pages) files ≤ 32768

pub may_start : (w : Workload) (first : ℕ) (files : List Preset) → IsAccepted w → first ≡ first_block w
    → files ≡ w.files → MayStart w first files
may_start w first files accepted is same = subst (MayStart w first) (sym same) (record {
  few = presets.few;
  pages = All-weaker IsPreset (λ (f : Preset). f.pages ≤ 1008) (λ f preset. preset.pages_most) w.files presets.each;
  apart = presets.apart;
  one = subst (λ (n : ℕ). (n ≡ 526) ⊎ (n ≡ 1318)) (sym is) (by_version (nat_lt w.version 2));
  fit = omega (arith, is, presets.fit, accepted.workload.machine.device_most);
})
  where
    presets : ArePresets w
    presets = accepted.workload.presets

    by_version : (b : Bool) → ◌≡◌ {A = ℕ} (if b then 526 else 1318) 526 ⊎ ◌≡◌ {A = ℕ} (if b then 526 else 1318) 1318
    by_version true = inl refl
    by_version false = inr refl

-- the blocks that are used lie within the disk
pub used_within : (w : Workload) (first pages : ℕ) → IsAccepted w → first ≡ first_block w → pages ≡ preset_pages w
    → (526 ≤ first) × (526 + (first - 526 + pages) ≤ w.device)
used_within w first pages accepted is sum =
    let fit = accepted.workload.presets.fit
    in let from : 526 ≤ first_block w = data_from w
    in (omega (arith, is, from), omega (arith, is, sum, fit, from))

-- ---- the pages of the files so far
pub pages_fit : (w : Workload) (n pages : ℕ) (f : Preset) → IsAccepted w
    → pages ≡ sum_by (λ x. x.pages) (take n w.files) → slice_get w.files n ≡ Some f → pages + f.pages < 2 ^ 32
pages_fit w n pages f accepted so_far at =
    let has : pages_in w n ≡ f.pages = ap (λ o. unwrap_or (option_map (λ (y : Preset). y.pages) o) 0) at
    in omega (
      arith,
      has,
      so_far,
      file_within w n (slice_get_within w.files n f at),
      accepted.workload.presets.fit,
      accepted.workload.machine.device_most,
    )

pub pages_next : (w : Workload) (n pages : ℕ) (f : Preset) → pages ≡ sum_by (λ x. x.pages) (take n w.files)
    → slice_get w.files n ≡ Some f → pages + f.pages ≡ sum_by (λ x. x.pages) (take (n + 1) w.files)
pages_next w n pages f so_far at =
    omega (
      arith,
      so_far,
      ap (sum_by (λ (x : Preset). x.pages)) (take_at_some w.files n f at),
      sum_by_push (λ (x : Preset). x.pages) (take n w.files) f,
    )

pub pages_all : (w : Workload) (n pages : ℕ) → pages ≡ sum_by (λ x. x.pages) (take n w.files) → length w.files ≤ n
    → pages ≡ preset_pages w
pages_all w n pages so_far all = so_far ∙ ap (sum_by (λ (x : Preset). x.pages)) (take_all n w.files all)
