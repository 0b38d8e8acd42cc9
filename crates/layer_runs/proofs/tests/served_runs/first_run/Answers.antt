-- The pages that are dirty are those of the file that is there.
use Rattle.std.proofs.Common.{IsSome, sym, subst, arith}
use Rattle.split_types.specs.declared.ids.Serial.{Serial}
use Rattle.split_types.specs.LiveFiles.{slot_of_serial}
use Rattle.layer_runs.proofs.tests.served_runs.first_run.Goals as goal

pub next_service-requires : goal.next_service-requires
next_service-requires g c = record {
  numbers = λ s k ready. omega (arith, (c.in_ok-cache.ensures s k ready).1);
  files = λ s k ready.
      subst (λ (t : Serial). IsSome (slot_of_serial c.in_ok-fs.fs.slots t)) (sym (c.in_ok-cache.ensures s k ready).0)
      c.in_ok-fs.ensures;
}
