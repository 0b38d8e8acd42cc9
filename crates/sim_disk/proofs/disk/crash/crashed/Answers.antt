-- A block in flight takes the next fate, of which there is one for each.
use Rattle.std.proofs.Common.{◌≡◌, ◌<◌, length, Some, arith, refl, sym, subst}
use Rattle.std.specs.List.{slice_get}
use Rattle.std.proofs.lemmas.Option.{slice_get_read}
use Rattle.sim_disk.specs.Crash.{IsFate}
use Rattle.sim_disk.proofs.CrashLaws.{below_few}
use Rattle.sim_disk.proofs.FateLaws.{found_covers, fate_left, struck_none, struck_one}
use Rattle.sim_disk.proofs.disk.crash.crashed.Goals as goal
use Rattle.sim_disk.proofs.disk.crash.crashed.Goals.{in-Some+in_ok-apply_fate, in_default}

pub bounds-fates-next : goal.bounds-fates-next
bounds-fates-next c =
    fate_left c.args.before.now.blocks c.loop-b.after.blocks c.args.writes.now c.args.fates.now c.loop-b.next
    c.loop-b.b c.loop-b.invariant
    c.in-Some.w.now (sym c.in-Some.ensures) c.requires.count (omega arith)

pub offset_bounds-fates-next : goal.offset_bounds-fates-next
offset_bounds-fates-next c =
    omega (arith, c.loop-b.invariant.counted, below_few c.args.writes.now c.loop-b.b)

pub overflow_add-next : goal.overflow_add-next
overflow_add-next c =
    omega (arith, c.loop-b.invariant.counted, below_few c.args.writes.now c.loop-b.b)

pub apply_fate-requires-clause-covered : goal.apply_fate-requires-clause-covered
apply_fate-requires-clause-covered c = found_covers c.args.writes.now c.loop-b.b c.in-Some.w.now (sym c.in-Some.ensures)

pub apply_fate-requires-clause-size : goal.apply_fate-requires-clause-size
apply_fate-requires-clause-size c =
    let fates = c.args.fates.now in
    let within : c.loop-b.next < length fates = fate_left c.args.before.now.blocks c.loop-b.after.blocks
    c.args.writes.now fates c.loop-b.next c.loop-b.b c.loop-b.invariant
    c.in-Some.w.now (sym c.in-Some.ensures) c.requires.count (omega arith) in
    subst IsFate (sym c.index-fates-next.is) (c.requires.sizes c.loop-b.next c.index-fates-next.result within)

pub loop-b-preserved : goal.loop-b-preserved
loop-b-preserved c = elim c.match-write_over.branch [
  | in-Some+in_ok-apply_fate w ↦
      (let fates = c.args.fates.now in
      let fate = w.index-fates-next.result in
      let within : c.loop-b.next < length fates = fate_left c.args.before.now.blocks c.loop-b.after.blocks
      c.args.writes.now fates c.loop-b.next c.loop-b.b c.loop-b.invariant
      w.in-Some.w.now (sym w.in-Some.ensures) c.requires.count (omega arith) in
      let given : slice_get fates c.loop-b.next ≡ Some fate =
      slice_get_read fates (length fates) c.loop-b.next fate refl within w.index-fates-next.is in
      rw (w.after-is, w.next-is) (struck_one c.args.before.now.blocks c.loop-b.after.blocks c.args.writes.now fates
      c.loop-b.next c.loop-b.b c.loop-b.invariant
      w.in-Some.w.now fate w.apply_fate.new.blocks.blocks (sym w.in-Some.ensures) given w.in_ok-apply_fate.ensures))
  | in_default w ↦
      rw (w.after-is, w.next-is) (struck_none c.args.before.now.blocks c.loop-b.after.blocks c.args.writes.now
      c.args.fates.now c.loop-b.next c.loop-b.b c.loop-b.invariant
      (sym w.in_default.ensures))
]
