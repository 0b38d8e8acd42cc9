use Rattle.std.proofs.Common.{◌≡◌, true, not, take}
use Rattle.std.specs.List.{list_all}
use Rattle.workload_reader.specs.Fields.{is_end}
use Rattle.workload_reader.proofs.word.word.Given as goal

abbrev pub invariant-loop-i : goal.invariant-loop-i
invariant-loop-i l = list_all (λ b. not (is_end b)) (take l.i l.text) ≡ true
