-- A next event is that of its maker.
use Rattle.std.proofs.Common.{◌∙◌, sym}
use Rattle.split_core.proofs.TurnNotes.{comes}
use Rattle.split_core.proofs.machine.Core.act_once.Goals as goal

pub make-requires : goal.make-requires
make-requires c = comes c.args.self.now.workload c.args.self.now.history c.args.a c.in-Some.e (sym c.next.ensures
    ∙ c.in-Some.is)
