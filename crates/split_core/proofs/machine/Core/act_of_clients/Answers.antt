-- A process without a next event is passed over.
use Rattle.std.proofs.Common.{◌+◌, ◌<◌, ◌∙◌, sym, ap, subst, arith, length}
use Rattle.split_types.specs.Next.{next}
use Rattle.split_core.specs.StandsFor.{Simulation}
use Rattle.split_core.specs.Steps.{client, Appends}
use Rattle.split_core.proofs.TurnNotes.{comes, pass_client, hit_client, no_client}
use Rattle.split_core.proofs.machine.Core.act_of_clients.Goals as goal

pub make-requires : goal.make-requires
make-requires c = comes c.loop-i.self.workload c.loop-i.self.history (client (c.loop-i.i + 1)) c.in-Some.e
    (sym c.next_of_client.ensures ∙ c.in-Some.is)

pub returns-in-Some-clause-ok : goal.returns-in-Some-clause-ok
returns-in-Some-clause-ok c =
    let v = c.args.self.now in
    let same = c.loop-i.invariant.same in
    let below : c.loop-i.i < length v.workload.procs = omega (
      arith,
      c.loop-i-test.true,
      c.len-n.ensures,
      ap (λ (s : Simulation). length s.workload.procs) c.self.view_is,
    ) in (
      c.in-Some.e,
      c.loop-i.invariant.passed ∙ hit_client v.workload v.history c.loop-i.i c.in-Some.e below
          (sym (ap (λ (s : Simulation). next s.workload s.history (client (c.loop-i.i + 1))) same)
          ∙ sym c.next_of_client.ensures ∙ c.in-Some.is),
      subst (λ (s : Simulation). Appends s c.make.new.self c.in-Some.e c.in_ok-make.field-0) same
          c.in_ok-make.ensures.ok,
    )

pub loop-i-preserved : goal.loop-i-preserved
loop-i-preserved c =
    let v = c.args.self.now in
    let same = c.loop-i.invariant.same in
    let below : c.loop-i.i < length v.workload.procs = omega (
      arith,
      c.loop-i-test.true,
      c.len-n.ensures,
      ap (λ (s : Simulation). length s.workload.procs) c.self.view_is,
    ) in
    record {
      same = same;
      passed = c.loop-i.invariant.passed ∙ pass_client v.workload v.history c.loop-i.i below
          (sym (ap (λ (s : Simulation). next s.workload s.history (client (c.loop-i.i + 1))) same)
          ∙ sym c.next_of_client.ensures ∙ c.in_default.is);
    }

pub returns-clause-ok : goal.returns-clause-ok
returns-clause-ok c =
    let v = c.args.self.now in (
      c.loop-i.invariant.passed ∙ no_client v.workload v.history c.loop-i.i
          (omega (
            arith,
            c.loop-i-test.false,
            c.len-n.ensures,
            ap (λ (s : Simulation). length s.workload.procs) c.self.view_is,
          )),
      c.loop-i.invariant.same,
    )
