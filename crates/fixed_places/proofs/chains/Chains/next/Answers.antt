use Rattle.std.proofs.Common.{◌≡◌, ◌∙◌, ℕ, ◌<◌, true, None, Some, IfSome, length, get_or, arith, refl, sym, eq-eqb}
use Rattle.std.proofs.lemmas.Grind.{common_steps}
use Rattle.fixed_places.specs.Chains.{is_in}
use Rattle.fixed_places.proofs.PlaceLaws.{some-within}
use Rattle.fixed_places.proofs.ChainLaws.{rises-within, known-at}
use Rattle.fixed_places.proofs.chains.Chains.next.Goals as goal

pub returns-clause-within : goal.returns-clause-within
returns-clause-within c =
    let nexts = c.self.inside.nexts.items in
    let next : c.index.result.now ≡ get_or nexts c.args.at None = grind (arith, common_steps) in
    let inside : IfSome (get_or nexts c.args.at None) (λ q. q < length nexts) =
    rises-within nexts c.self.invariant.rises c.args.at in
    rw (c.as_index.ensures, next, ← c.self.view_is, ← c.self.invariant.nexts_len) inside

pub returns-clause-next : goal.returns-clause-next
returns-clause-next c =
    let nexts = c.self.inside.nexts.items in
    let places = c.self.inside.chains.items in
    let at = c.args.at in
    let next : c.index.result.now ≡ get_or nexts at None = grind (arith, common_steps) in
    rw (c.as_index.ensures, next, ← c.self.view_is)
    (λ chain here.
    let passes : is_in chain places at ≡ true = rw here (eq-eqb chain chain refl) in
    (c.self.invariant.chains chain (known-at places at chain _ c.self.invariant.known here)).next at passes)
