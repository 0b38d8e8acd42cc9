use Rattle.workload_reader.proofs.StandLaws.{absent, one_file}
use Rattle.workload_reader.proofs.seen.Seen.add_file.Goals as goal

pub put-requires-clause-absent : goal.put-requires-clause-absent
put-requires-clause-absent c = absent _ _ _ c.args.self.now.stands.names_are c.requires.new

pub invariant_of-self-2 : goal.invariant_of-self-2
invariant_of-self-2 c = record {
  stands =
      rw (c.in_ok-push.ensures.ok, c.put.ensures, c.len-at.ensures)
      (one_file _ _ _ _ _ _ _ c.args.self.now.stands c.requires);
}
