use Rattle.std.proofs.Common.{◌≡◌, ◌-◌, ◌≤◌, vec_len}
use Rattle.std.specs.Prelude.{All, replicate}
use Rattle.small_fs.proofs.maps.Maps.room.Given as goal

abbrev pub invariant-loop-alloc : goal.invariant-loop-alloc
invariant-loop-alloc l = record {
  spare : l.self-inside.spare ≡ l.initial.self-inside.spare;
  promised : l.self-inside.spare ≤ vec_len l.self-inside.maps;
  maps : All (λ map. map.items ≡ replicate 1008 0) l.self-inside.maps.items;
}

abbrev pub decreases-loop-alloc : goal.decreases-loop-alloc
decreases-loop-alloc l = l.n - vec_len l.self-inside.maps
