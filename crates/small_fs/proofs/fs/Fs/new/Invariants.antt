use Rattle.std.proofs.Common.{◌≡◌, ◌+◌, ◌-◌, take}
use Rattle.std.specs.Prelude.{sum_by}
use Rattle.small_fs.proofs.PresetLaws.{preset_front}
use Rattle.small_fs.proofs.fs.Fs.new.Given as goal

abbrev pub invariant-loop-i : goal.invariant-loop-i
invariant-loop-i l = record {
  first : l.fs.first ≡ l.first;
  slots : l.fs.slots ≡ preset_front l.first (take l.i l.files) (256 - l.i);
  next : l.fs.next ≡ l.i;
  block : l.block ≡ l.first + sum_by (λ f. f.pages) (take l.i l.files);
}
