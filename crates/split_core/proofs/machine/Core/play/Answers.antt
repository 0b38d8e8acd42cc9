-- A line more is its actor's turns more.
use Rattle.std.proofs.Common.{◌≡◌, ◌∙◌, ap, subst, replicate, take, slice_get, Some}
use Rattle.std.specs.List.{flat_map}
use Rattle.split_types.specs.declared.workload.Go.{Go}
use Rattle.split_types.specs.declared.workload.Workload.{Workload}
use Rattle.split_core.specs.StandsFor.{Simulation}
use Rattle.split_core.proofs.TurnNotes.{Plays, plays_then, lines_more}
use Rattle.split_core.proofs.machine.Core.play.Goals as goal

pub loop-i-preserved : goal.loop-i-preserved
loop-i-preserved g c =
    let start = c.args.self.now in
    let go = c.at-go.result.now in
    let same : c.self-in-loop-i.inside.workload ≡ start.workload =
    ap (λ (v : Simulation). v.workload) c.self-in-loop-i.view_is ∙ c.loop-i.invariant.workload in
    let at = subst (λ (w : Workload). slice_get w.go c.loop-i.i ≡ Some go) same c.at-go.ensures in
    subst (Plays start c.act.new.self) (lines_more start.workload.go c.loop-i.i go at)
    (plays_then start c.loop-i.self c.act.new.self
    (flat_map (λ (x : Go). replicate x.times x.actor) (take c.loop-i.i start.workload.go))
    (replicate go.times go.actor)
    c.loop-i.invariant (record {
      workload = c.act.ensures.workload;
      history = ap (λ (v : Simulation). v.history) c.in_ok-act.ensures.ok;
    }))
