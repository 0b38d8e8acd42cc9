-- What is made is a workload.
use Rattle.workload_reader.proofs.GeneratedRight.{generated_right}
use Rattle.workload_reader.proofs.generator.generate.Goals as goal

pub returns-clause-within : goal.returns-clause-within
returns-clause-within c =
    rw (c.in_ok-accounts.ensures, c.in_ok-processes.ensures, c.in_ok-files.ensures, c.in_ok-calls.ensures)
    (rw (c.new.ensures, c.new-2.ensures) (generated_right c.args.n))
