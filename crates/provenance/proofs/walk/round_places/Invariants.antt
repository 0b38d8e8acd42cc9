use Rattle.std.proofs.Common.{◌≡◌, ◌≤◌, ◌<◌, ◌^◌, length}
use Rattle.std.specs.Prelude.{All}
use Rattle.std.specs.List.{list_any}
use Rattle.split_types.specs.History.{older}
use Rattle.split_types.specs.Rounds.{round_of}
use Rattle.provenance.proofs.RoundWalks.{is_own, seals_at, round_with}
use Rattle.provenance.proofs.walk.round_places.Given as goal

abbrev pub invariant-loop-rest : goal.invariant-loop-rest
invariant-loop-rest g l = record {
  within : l.rest ≤ l.count;
  count_within : l.count ≤ length l.h.events;
  short : length l.h.events ≤ 2 ^ 32;
  places : All (λ place. place < l.count) l.places;
  own : l.has_own ≡ list_any (is_own l.t) (seals_at l.h.events l.places);
  round : round_with (seals_at l.h.events l.places) (older l.h.events l.rest) l.t
      ≡ round_of (older l.h.events l.count) l.t;
}

abbrev pub decreases-loop-rest : goal.decreases-loop-rest
decreases-loop-rest g l = l.rest
