use Rattle.std.proofs.Common.{◌≡◌, ℕ, ◌+◌, ◌-◌, ◌<◌, length, take, Option, Some, ap, ◌∙◌, arith}
use Rattle.std.specs.Prelude.{option_map}
use Rattle.std.proofs.lemmas.List.{length-take-le}
use Rattle.std.proofs.lemmas.List.Sums.{sum_by_more_le, sum_by_more}
use Rattle.split_types.specs.declared.ids.Serial.{Serial}
use Rattle.split_types.specs.declared.ids.Slot.{Slot}
use Rattle.split_types.specs.declared.workload.Preset.{Preset}
use Rattle.split_types.specs.LiveFiles.{Slots, free_slot, slot_named, preset_file}
use Rattle.small_fs.specs.Files.{Files, with_file}
use Rattle.small_fs.proofs.PresetLaws.{preset_front, preset_free, preset_fresh, preset_more}
use Rattle.small_fs.proofs.fs.Fs.new.Goals as goal

next_of : ℕ → Option ℕ → Option (Slot × Serial)
next_of next o = option_map (λ s. (record { 0 = s }, record { 0 = next })) o

pub insert_preset-requires-clause-free : goal.insert_preset-requires-clause-free
unfolding next_of
insert_preset-requires-clause-free c =
    let i = c.loop-i.i in
    let files = c.args.files.now in
    let lt : i < length files = c.loop-i-test.true in
    let left : 0 < 256 - i = omega (arith, c.requires.few) in
    let len : length (take i files) ≡ i = length-take-le i files (omega arith) in
    ap (next_of c.loop-i.fs.next)
    (ap free_slot c.loop-i.invariant.slots ∙ preset_free c.args.first (take i files) (256 - i) left
    ∙ ap (λ (n : ℕ). let o : Option ℕ = Some n in o) len)

pub insert_preset-requires-clause-fresh : goal.insert_preset-requires-clause-fresh
insert_preset-requires-clause-fresh c =
    let i = c.loop-i.i in
    let f = c.index-files-i.result in
    ap (λ (slots : Slots). slot_named slots f.name) c.loop-i.invariant.slots
    ∙ preset_fresh c.args.first c.args.files.now i (256 - i) f c.loop-i-test.true c.index-files-i.is c.requires.apart

pub insert_preset-requires-clause-fit : goal.insert_preset-requires-clause-fit
insert_preset-requires-clause-fit c =
    let i = c.loop-i.i in
    let files = c.args.files.now in
    let f = c.index-files-i.result in
    let more = sum_by_more_le (λ (g : Preset). g.pages) files i f c.loop-i-test.true in
    omega (arith, more, ap (λ (g : Preset). g.pages) c.index-files-i.is, c.loop-i.invariant.block, c.requires.fit)

pub loop-i-preserved : goal.loop-i-preserved
loop-i-preserved c =
    let i = c.loop-i.i in
    let files = c.args.files.now in
    let first = c.args.first in
    let f = c.index-files-i.result in
    let fs = c.loop-i.fs in
    let v = c.loop-i.invariant in
    let lt : i < length files = c.loop-i-test.true in
    let some : 0 < 256 - i = omega (arith, c.requires.few) in
    let left : 256 - i - 1 ≡ 256 - (i + 1) = omega arith in
    let slots : c.insert_preset.new.self.slots ≡ preset_front first (take (i + 1) files) (256 - (i + 1)) =
    ap (λ (g : Files). g.slots) c.insert_preset.ensures
    ∙ ap (λ (n : ℕ). with_file i (Some (preset_file n c.loop-i.block f)) fs.slots) v.next
    ∙ ap (with_file i (Some (preset_file i c.loop-i.block f))) v.slots
    ∙ preset_more first files i (256 - i) c.loop-i.block f lt c.index-files-i.is some v.block
    ∙ ap (preset_front first (take (i + 1) files)) left in
    let next : c.insert_preset.new.self.next ≡ i + 1 = ap (λ (g : Files). g.next) c.insert_preset.ensures
    ∙ ap (λ (n : ℕ). n + 1) v.next in
    record {
      first = ap (λ (g : Files). g.first) c.insert_preset.ensures ∙ v.first;
      slots = slots;
      next = next;
      block = omega (
        arith,
        v.block,
        sum_by_more (λ (g : Preset). g.pages) files i f lt,
        ap (λ (g : Preset). g.pages) c.index-files-i.is,
      );
    }
