-- Four draws, one after another.
use Rattle.std.proofs.Common.{◌≡◌, ℕ, ◌+◌, ◌*◌, ◌∙◌, ap, arith}
use Rattle.workload_reader.specs.Generated.{state}
use Rattle.workload_reader.proofs.GeneratedLaws.{four_drawn}
use Rattle.workload_reader.proofs.generator.Maker.draw.Goals as goal

-- the state by another sum of the same value
at_sum : {s : ℕ} (n i j : ℕ) → s ≡ state n i → i ≡ j → s ≡ state n j
at_sum n i j is same = is ∙ ap (state n) same

pub returns-clause-drawn : goal.returns-clause-drawn
returns-clause-drawn c = λ n i at.
    let one = c.below.ensures.next n (4 * i) at in
    let two = at_sum n (4 * i + 1 + 1) (4 * i + 2) (c.below-2.ensures.next n (4 * i + 1) one) (omega arith) in
    let three = at_sum n (4 * i + 2 + 1) (4 * i + 3) (c.below-3.ensures.next n (4 * i + 2) two) (omega arith) in
    four_drawn n i _ _ _ _ (c.below.ensures.value n (4 * i) at) (c.below-2.ensures.value n (4 * i + 1) one)
    (c.below-3.ensures.value n (4 * i + 2) two) (c.below-4.ensures.value n (4 * i + 3) three)

pub returns-clause-state : goal.returns-clause-state
returns-clause-state c = λ n i at.
    let one = c.below.ensures.next n (4 * i) at in
    let two = at_sum n (4 * i + 1 + 1) (4 * i + 2) (c.below-2.ensures.next n (4 * i + 1) one) (omega arith) in
    let three = at_sum n (4 * i + 2 + 1) (4 * i + 3) (c.below-3.ensures.next n (4 * i + 2) two) (omega arith) in
    at_sum n (4 * i + 3 + 1) (4 * (i + 1)) (c.below-4.ensures.next n (4 * i + 3) three) (omega arith)
