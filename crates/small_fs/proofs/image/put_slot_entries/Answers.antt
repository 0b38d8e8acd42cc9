use Rattle.std.proofs.Common.{◌≡◌, ◌≤◌, ◌*◌, ◌+◌, ◌-◌, length, drop, refl, arith}
use Rattle.std.proofs.lemmas.List.{length-take, length-drop}
use Rattle.split_types.specs.LiveFiles.{slot_entry}
use Rattle.small_fs.proofs.ImageLaws.{entries_more}
use Rattle.small_fs.proofs.image.put_slot_entries.Goals as goal

pub loop-j-preserved : goal.loop-j-preserved
loop-j-preserved c =
    let at = 64 * c.loop-j.j in
    let whole : length c.loop-j.out ≡ 4096 = omega arith in
    let within : at + 64 ≤ length c.loop-j.out = omega arith in
    let len : length c.put_slot_entry.new.out ≡ 64 = omega (
      arith,
      c.put_slot_entry.auto.out,
      length-take (at + 64 - at) (drop at c.loop-j.out),
      length-drop at c.loop-j.out,
    ) in
    entries_more slot_entry c.args.files.now c.loop-j.out _ c.put_slot_entry.new.out c.loop-j.j _ c.index-files-j.result
    c.loop-j-test.true c.index-files-j.is c.put_slot_entry.ensures len (omega arith) refl c.loop-j.invariant
