-- One page more.
use Rattle.std.proofs.Common.{◌+◌, arith}
use Rattle.split_types.specs.declared.buf.Buf.TheVariants.{Page}
use Rattle.split_types.specs.History.{older}
use Rattle.split_types.specs.OpenDirtyings.{open_at}
use Rattle.provenance.proofs.Runs.{run-more}
use Rattle.provenance.proofs.parentage.open_pages.Goals as goal

pub loop-k-preserved : goal.loop-k-preserved
loop-k-preserved g c =
    run-more (open_at (older c.args.h.now.events c.args.count)) (Page c.args.serial) c.args.page c.loop-k.k
    (c.from.result + c.from-in-loop-k.result)
    c.loop-k.places c.open_before.new.places c.in_ok-open_before.ensures c.loop-k.invariant (omega arith)
