use Rattle.std.proofs.Common.{◌≡◌, ◌*◌, take}
use Rattle.std.specs.Prelude.{flat_map}
use Rattle.split_types.specs.LiveFiles.{slot_entry}
use Rattle.small_fs.proofs.image.put_slot_entries.Given as goal

abbrev pub invariant-loop-j : goal.invariant-loop-j
invariant-loop-j l = take (64 * l.j) l.out ≡ flat_map slot_entry (take l.j l.files)
