use Rattle.std.proofs.Common.{refl}
use Rattle.workload_reader.proofs.Alike.{after_field}
use Rattle.workload_reader.proofs.settings.setting.Goals as goal

pub returns-in_err-rest : goal.returns-in_err-rest
returns-in_err-rest c =
    rw c.from_residual-in_err-rest.ensures
    (λ n rest formed e. c.in_err-rest.ensures rest (after_field n _ c.in_ok-value.ensures.1 e refl))
