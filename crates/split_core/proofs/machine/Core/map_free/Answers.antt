-- The free blocks that the pages get are those that the allocation would take.
use Rattle.std.proofs.Common.{◌∙◌, true, ap, sym, arith}
use Rattle.split_types.specs.Files.{is_live}
use Rattle.split_types.specs.FileMaps.{mapped_block}
use Rattle.split_types.specs.Writeback.{service, served_run}
use Rattle.split_types.specs.Serving.{service_state, map_of, map_free}
use Rattle.split_core.specs.StandsFor.{Simulation}
use Rattle.split_core.proofs.ServingReads.{served_is, promised, free_is}
use Rattle.split_core.proofs.machine.Core.map_free.Goals as goal

pub peek_run-block-requires-clause-some : goal.peek_run-block-requires-clause-some
peek_run-block-requires-clause-some c =
    let i = c.self.inside in
    (served_is i.workload i.plan i.parts i.history.events c.args.run c.self.invariant
    (ap (λ (v : Simulation). served_run (service v.history)) c.self.view_is ∙ ap served_run c.requires.serving)).some

pub peek_run-block-requires-clause-promised : goal.peek_run-block-requires-clause-promised
peek_run-block-requires-clause-promised c =
    let i = c.self.inside in
    let run = c.args.run in
    promised i.workload i.plan i.parts i.history.events run c.self.invariant
    (served_is i.workload i.plan i.parts i.history.events run c.self.invariant
    (ap (λ (v : Simulation). served_run (service v.history)) c.self.view_is ∙ ap served_run c.requires.serving))
    (ap (λ (v : Simulation). is_live v.workload v.history run.serial.0) c.self.view_is ∙ c.requires.file.live)
    (ap (λ (v : Simulation). mapped_block v.workload v.history run.serial.0 run.page) c.self.view_is
    ∙ c.requires.unplaced)

pub map_of-requires-clause-within : goal.map_of-requires-clause-within
map_of-requires-clause-within c =
    let i = c.self.inside in
    omega (
      arith,
      c.peek_run-block.ensures.most,
      (served_is i.workload i.plan i.parts i.history.events c.args.run c.self.invariant
          (ap (λ (v : Simulation). served_run (service v.history)) c.self.view_is
          ∙ ap served_run c.requires.serving)).within,
    )

pub returns : goal.returns
returns c =
    let i = c.self.inside in
    let run = c.args.run in
    let least = c.peek_run-block.ensures in
    sym (ap (λ (v : Simulation). map_free (service_state v.workload v.history run)) c.self.view_is)
    ∙ free_is i.workload i.plan i.parts i.history.events run c.peek_run-block.result.0 c.peek_run-block.result.1 c.map_of.result
    c.self.invariant
    (served_is i.workload i.plan i.parts i.history.events run c.self.invariant
    (ap (λ (v : Simulation). served_run (service v.history)) c.self.view_is ∙ ap served_run c.requires.serving)).some
    least
    (c.map_of.ensures
    ∙ sym (ap (λ (v : Simulation). map_of (service_state v.workload v.history run) c.peek_run-block.result.1
    c.peek_run-block.result.0 true) c.self.view_is))
