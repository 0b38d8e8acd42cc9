-- An event that comes next fits, and its place is below the bound.
use Rattle.std.proofs.Common.{List, Result, Ok, Err, ◌∙◌, ap, arith, length}
use Rattle.std.specs.Prelude.{IsOk, OnOk}
use Rattle.split_types.specs.declared.workload.Workload.{Workload}
use Rattle.split_types.specs.declared.event.Event.{Event}
use Rattle.split_types.specs.History.{◌▹◌}
use Rattle.split_types.specs.Hooks.{maker}
use Rattle.split_types.specs.Workloads.{bound}
use Rattle.split_types.specs.Next.{next}
use Rattle.split_types.proofs.Shared.{short, stays_below}
use Rattle.split_core.specs.StandsFor.{Simulation}
use Rattle.split_core.proofs.FitsLaws.{fits}
use Rattle.split_core.proofs.machine.Core.make.Goals as goal

pub overflow_cast-place : goal.overflow_cast-place
overflow_cast-place c =
    let i = c.self.inside in
    omega (
      arith,
      short i.workload i.history.events c.self.invariant.accepted c.self.invariant.legal,
      c.len-place.ensures,
    )

pub give-requires-clause-fits : goal.give-requires-clause-fits
give-requires-clause-fits c =
    let i = c.self.inside in
    let comes = ap (λ (v : Simulation). next v.workload v.history (maker c.args.e.now)) c.self.view_is ∙ c.requires in
    rw c.room.ensures.events (fits i.workload i.history.events
    (maker c.args.e.now) c.args.e.now c.self.invariant.accepted c.self.invariant.legal comes)

pub note-requires-clause-stands : goal.note-requires-clause-stands
note-requires-clause-stands c =
    let i = c.self.inside in
    rw c.room.ensures.events (c.room-2.ensures.stands i.workload i.history.events c.self.invariant.parts)

pub note-requires-clause-fits : goal.note-requires-clause-fits
note-requires-clause-fits c =
    let i = c.self.inside in
    let comes = ap (λ (v : Simulation). next v.workload v.history (maker c.args.e.now)) c.self.view_is ∙ c.requires in
    rw c.room.ensures.events (fits i.workload i.history.events
    (maker c.args.e.now) c.args.e.now c.self.invariant.accepted c.self.invariant.legal comes)

abbrev pair : Workload → List Event → Simulation
pair w h = record { workload = w; history = h }

pushed : {T E P : Type 0} (r : Result T E) → IsOk r → OnOk r P → P
pushed (Ok x) is p = p
pushed (Err x) is p = absurd (cc (is))

pub returns-clause-ok : goal.returns-clause-ok
returns-clause-ok c =
    let i = c.self.inside in
    let same = ap (λ (v : Simulation). length v.history) c.self.view_is in
    let ends = ap (λ (v : Simulation). bound v.workload) c.self.view_is in
    record {
      appended = ap (λ l. pair i.workload l) (pushed c.push.result
          (c.push.ensures.succeeds (omega (arith, c.in_ok-room.ensures.ok))) c.push.ensures.ok
          ∙ ap (λ h. h ▹ c.args.e.now) c.room.ensures.events)
          ∙ ap (λ (v : Simulation). pair v.workload (v.history ▹ c.args.e.now)) c.self.view_is;
      place = omega (arith, c.len-place.ensures, same);
      below = omega (
        arith,
        stays_below i.workload i.history.events c.self.invariant.accepted c.self.invariant.legal,
        ends,
        c.len-place.ensures,
      );
    }
