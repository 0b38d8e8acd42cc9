-- A mask of the lowest bits leaves the remainder.
use Rattle.std.proofs.Common.{◌≡◌, ◌*◌, ◌%◌, ◌^◌, refl, arith}
use Rattle.std.proofs.lemmas.Nat.{one_shl, and_mask}
use Rattle.cause_set.proofs.causes.ones_below.Goals as goal

pub returns-clause-value : goal.returns-clause-value
returns-clause-value c =
    let shift : 1 * 2 ^ c.min.result % 340282366920938463463374607431768211456 ≡ 2 ^ c.min.result =
    one_shl c.min.result 128 (omega (arith, c.min.ensures)) in
    rw (shift, and_mask c.args.word c.min.result, c.min.ensures) refl
