use Rattle.std.proofs.Common.{◌≡◌, ℕ, ◌<◌, false, get_or}
use Rattle.sim_disk.specs.Medium.{InFlight, is_of}
use Rattle.sim_disk.proofs.write.place_of.Given as goal

-- no write so far is the request's
abbrev pub invariant-loop-at : goal.invariant-loop-at
invariant-loop-at l = (k : ℕ) (d : InFlight) → k < l.at → is_of l.id (get_or l.writes k d) ≡ false
