-- The shares of a cost add up to the cost.
use Rattle.std.proofs.Common.{◌≡◌, ℕ, zero, suc, ◌+◌, ◌*◌, ◌/◌, ◌%◌, min, arith}
use Rattle.std.specs.List.{range_with_len, sum_by}
use Rattle.std.proofs.lemmas.List.Sums.{sum_by-cons}
use Rattle.std.proofs.lemmas.Nat.{div-add-mod'}
use Rattle.std.proofs.Math.Nat.{mod-lt, suc-mul}
use Rattle.std.proofs.lemmas.Bool.Decides.{nat_tests}
use Rattle.split_types.specs.Share.{share}
use Rattle.cause_set.specs.Shares.{SharesAddUp}

-- n shares from rank a on: the even part of each, and one more for each of the ranks that bear what is left over
some_shares : (cost k a n : ℕ)
    → sum_by (λ j. share cost j k) (range_with_len a n) + min a (cost % k) ≡ n * (cost / k) + min (a + n) (cost % k)
some_shares cost k a zero = omega arith
some_shares cost k a (suc n) =
    grind (
      arith,
      nat_tests,
      sum_by-cons (λ j. share cost j k) a (range_with_len (a + 1) n),
      some_shares cost k (a + 1) n,
      suc-mul n (cost / k),
    )

pub shares_add_up : SharesAddUp
shares_add_up cost k some =
    omega (arith, some_shares cost k 0 k, div-add-mod' cost k, mod-lt cost some)
