-- The lowest bit of the word stands for the process, and the bits above it are left.
use Rattle.std.proofs.Common.{◌-◌, ◌/◌, ◌∙◌, arith}
use Rattle.std.specs.Int.{trailing_zeros, w64}
use Rattle.cause_set.specs.Marks.{shifted_word, IsWord}
use Rattle.cause_set.proofs.Listing.{Next, marked_from-next, rest-next}
use Rattle.cause_set.proofs.members.first_from.Goals as goal

is : (c : goal.After-marks_from) → IsWord c.args.marks.now c.args.from c.in_ok-number.number c.in_ok-number.word
is c = c.in_ok-number.ensures.found

next : (c : goal.After-marks_from) → Next c.args.marks.now c.in_ok-number.number
next c =
    marked_from-next c.args.marks.now c.in_ok-number.number (is c).some (is c).within
    (c.fits-marks ((c.in_ok-number.number - 1) / 64)) (omega (arith, (is c).value, (is c).any))

pub returns-clause-found : goal.returns-clause-found
returns-clause-found c = rw (is c).value ((is c).same ∙ (next c).found)

pub returns-clause-last : goal.returns-clause-last
returns-clause-last c = rw (is c).value (next c).within

pub returns-clause-rest : goal.returns-clause-rest
returns-clause-rest c =
    rw (c.marks_from.ensures.value, (is c).value)
    (rest-next c.args.marks.now c.in_ok-number.number
    (trailing_zeros w64 (shifted_word c.args.marks.now c.in_ok-number.number)) (is c).some (is c).within
    (c.fits-marks ((c.in_ok-number.number - 1) / 64)))
