use Rattle.std.proofs.Common.{◌≡◌, ◌≤◌, ◌*◌, ◌+◌, ◌-◌, length, drop, refl, arith}
use Rattle.std.proofs.lemmas.List.{length-take, length-drop}
use Rattle.fs_layout.specs.Directory.{entry_spelling}
use Rattle.fs_layout.proofs.DirectoryLaws.{put_dir_more}
use Rattle.fs_layout.proofs.directory.put_dir.Goals as goal

pub loop-j-preserved : goal.loop-j-preserved
loop-j-preserved c =
    let at = 64 * c.loop-j.j in
    let whole : length c.loop-j.out ≡ 4096 = omega arith in
    let within : at + 64 ≤ length c.loop-j.out = omega arith in
    let len : length c.put_entry.new.out ≡ 64 = omega (
      arith,
      c.put_entry.auto.out,
      length-take (at + 64 - at)
          (drop at c.loop-j.out),
      length-drop at c.loop-j.out,
    ) in
    put_dir_more entry_spelling c.args.entries.now c.loop-j.out _ c.put_entry.new.out c.loop-j.j _
    c.index-entries-j.result
    c.loop-j-test.true c.index-entries-j.is c.put_entry.ensures len (omega arith) refl c.loop-j.invariant
