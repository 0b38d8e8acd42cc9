use Rattle.std.proofs.Common.{◌≡◌, false, None, IsSome, All, arith, subst}
use Rattle.std.proofs.lemmas.List.Folds.{list_any_none}
use Rattle.split_types.proofs.Lists.{find_none}
use Rattle.sim_disk.specs.Medium.{InFlight, is_of}
use Rattle.sim_disk.proofs.write.place_of.Goals as goal

pub unreachable-requires : goal.unreachable-requires
unreachable-requires c =
    let writes = c.args.writes.now in
    let none : All (λ w. is_of c.args.id w ≡ false) writes = λ k d within. c.loop-at.invariant k d (omega arith) in
    let gone : IsSome {T = InFlight} None = subst IsSome
    (find_none (is_of c.args.id) writes (list_any_none (is_of c.args.id) writes none)) c.requires in
    absurd (cc)
