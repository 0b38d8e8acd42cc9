use Rattle.std.proofs.Common.{◌≡◌, subst, arith, IfOk}
use Rattle.split_types.specs.History.{older}
use Rattle.split_types.specs.Parents.{parents_of}
use Rattle.split_types.proofs.Shared.{older-all}
use Rattle.provenance.proofs.parentage.parents.Goals as goal

pub returns : goal.returns
returns g c =
    let whole : older c.args.h.now.events c.len.result ≡ c.args.h.now.events =
    older-all c.args.h.now.events c.len.result (omega arith) in
    subst (λ l. IfOk c.parents_before.result (λ places. places ≡ parents_of l c.args.e.now)) whole
    c.parents_before.ensures
