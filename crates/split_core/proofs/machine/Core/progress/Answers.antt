-- A process has moved few bytes.
use Rattle.std.proofs.Common.{ap, arith}
use Rattle.split_types.proofs.Shared.{moved_most}
use Rattle.split_core.specs.declared.note.clients.Client.{Client}
use Rattle.split_core.proofs.machine.Core.progress.Goals as goal

pub overflow_cast-result : goal.overflow_cast-result
overflow_cast-result c =
    let i = c.self.inside in
    omega (
      arith,
      moved_most i.workload i.history.events c.args.p.0 c.self.invariant.accepted c.self.invariant.legal,
      ap (λ (x : Client). x.moved) c.client-client.ensures,
    )
