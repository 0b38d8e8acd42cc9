use Rattle.workload_reader.proofs.CallLaws.{at_verb, creat_verb, write_verb, read_verb, fsync_verb, unlink_verb}
use Rattle.workload_reader.proofs.calls.action.Goals as goal

pub returns-in-Some : goal.returns-in-Some
returns-in-Some c = at_verb write_verb _ _ _ c.in-Some.ensures c.write.ensures

pub returns-in-Some-after : goal.returns-in-Some-after
returns-in-Some-after c = at_verb read_verb _ _ _ c.in-Some-after.ensures c.read.ensures

pub returns-in-Some-after-2 : goal.returns-in-Some-after-2
returns-in-Some-after-2 c = at_verb creat_verb _ _ _ c.in-Some-after-2.ensures c.creat.ensures

pub returns-in-Some-after-3 : goal.returns-in-Some-after-3
returns-in-Some-after-3 c = at_verb fsync_verb _ _ _ c.in-Some-after-3.ensures c.fsync.ensures

pub returns-in_ok-after : goal.returns-in_ok-after
returns-in_ok-after c = at_verb unlink_verb _ _ _ c.in_ok-after.ensures c.unlink.ensures
