-- The run that the cache and the files say is served next.
use Rattle.std.proofs.Common.{◌∙◌, ap, Some, None}
use Rattle.split_types.specs.Serving.{next_serve}
use Rattle.split_core.specs.StandsFor.{Simulation}
use Rattle.split_core.proofs.NextReadsServes.{may_serve, serve_is}
use Rattle.split_core.proofs.machine.Core.next_serve.Goals as goal

pub next_service-requires : goal.next_service-requires
next_service-requires c =
    let i = c.self.inside in
    may_serve i.workload i.plan i.parts i.history.events c.self.invariant

pub returns-in_err-run : goal.returns-in_err-run
returns-in_err-run c =
    let i = c.self.inside in
    c.from_residual.ensures
    ∙ serve_is i.workload i.plan i.parts i.history.events None c.self.invariant c.in_err-run.ensures
    ∙ ap (λ (v : Simulation). next_serve v.workload v.history) c.self.view_is

pub returns : goal.returns
returns c =
    let i = c.self.inside in
    serve_is i.workload i.plan i.parts i.history.events (Some c.in_ok-run.run') c.self.invariant c.in_ok-run.ensures
    ∙ ap (λ (v : Simulation). next_serve v.workload v.history) c.self.view_is
