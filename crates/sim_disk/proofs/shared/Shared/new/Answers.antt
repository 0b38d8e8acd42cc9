use Rattle.std.proofs.Common.{◌≡◌, [], map, arith}
use Rattle.std.proofs.lemmas.List.{length-map}
use Rattle.std.proofs.lemmas.List.Elements.{All-map}
use Rattle.sim_disk.proofs.SharedLaws.{none_made}
use Rattle.sim_disk.proofs.shared.Shared.new.Goals as goal

pub invariant_of-result : goal.invariant_of-result
invariant_of-result c =
    let blocks = c.loop.blocks.items in
    none_made (map (λ v. v.items) blocks) (omega (arith, length-map blocks (λ v. v.items)))
    (All-map (λ block. block ≡ []) (λ v. v.items) blocks c.loop.invariant.none)
