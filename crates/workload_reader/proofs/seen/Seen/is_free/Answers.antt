use Rattle.std.proofs.Common.{refl}
use Rattle.workload_reader.proofs.StandLaws.{absent, new_name}
use Rattle.workload_reader.proofs.seen.Seen.is_free.Goals as goal

pub returns-in-Some : goal.returns-in-Some
returns-in-Some c = (
  λ e. absurd (cc e),
  λ new. absurd
      (absent _ _ _ c.args.self.now.stands.names_are new c.in-Some.field-0 c.in-Some.ensures.place.here),
)

pub returns-in-None : goal.returns-in-None
returns-in-None c = (λ _. new_name _ _ _ c.args.self.now.stands.names_are c.in-None.ensures.none, λ _. refl)
