use Rattle.std.proofs.Common.{◌≡◌, ◌*◌, ◌-ℤ◌, pos, ap, ◌∙◌, w64, of_z, to_z, arith}
use Rattle.std.specs.Int.{int_min, int_max}
use Rattle.std.proofs.lemmas.Int.{ints, to_z-of_z, to_z_pos}
use mir.Val.{SFits}
use Rattle.token_ledger.specs.Standings.{standing_balance}
use Rattle.token_ledger.proofs.StandingLaws.{product_fits}
use Rattle.token_ledger.proofs.standing.Standing.grant.Goals as goal

pub returns : goal.returns
returns c =
    let s = c.args.self.now in
    let d = c.args.d in
    let low = c.requires.standing.low in
    let high = c.requires.standing.high in
    let billed = c.requires.standing.billed in
    let pending = c.requires.standing.pending in
    let most_cap = c.requires.standing.cap in
    let cap = c.from-2.ensures in
    let rate = c.from.ensures in
    let balance = c.balance.ensures in
    let lacking : to_z w64 (of_z w64
    (to_z w64 (of_z w64 c.from-2.result) -ℤ to_z w64
    (of_z w64 c.balance.result))) ≡ pos s.account.cap -ℤ standing_balance s = omega (arith, ints) in
    let most : to_z w64 (c.from.result * d) ≡ pos (s.account.rate * d) =
    to_z_pos w64 (c.from.result * d) (rw rate (product_fits s.account.rate d c.requires.standing.rate c.requires.most))
    ∙ ap (λ r. pos (r * d)) rate in
    let least_fits : SFits w64 c.min.result = record { sfits = c.min.type_inv } in
    let most_fits : SFits w64 c.max.result = record { sfits = c.max.type_inv } in
    to_z-of_z w64 c.min.result least_fits ∙ c.min.ensures.value
    ∙ ap (λ z. int_min z (to_z w64 (of_z w64 c.max.result))) most
    ∙ ap (int_min (pos (s.account.rate * d)))
    (to_z-of_z w64 c.max.result most_fits ∙ c.max.ensures.value ∙ ap (λ z. int_max z (pos 0)) lacking)
