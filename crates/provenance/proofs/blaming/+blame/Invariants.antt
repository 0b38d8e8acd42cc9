use Rattle.std.proofs.Common.{◌≡◌, ◌∷◌, map, take}
use Rattle.split_types.specs.Sets.{union_of}
use Rattle.split_types.specs.Blame.{blame}
use Rattle.provenance.proofs.blaming.+blame.Given as goal

abbrev pub decreases-blame : goal.decreases-blame
decreases-blame g l = l.i

abbrev pub invariant-loop-parent : goal.invariant-loop-parent
invariant-loop-parent g l = l.causes ≡ union_of (l.initial.causes ∷ map (blame l.h.events)
    (take l.parent-index l.parent-items))
