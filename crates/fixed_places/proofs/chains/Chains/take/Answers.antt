use Rattle.std.proofs.Common.{◌≡◌, ◌∙◌, ℕ, ◌<◌, Bool, None, Some, IfSome, List, Option, length, get_or, arith, sym, ap}
use Rattle.std.proofs.lemmas.Grind.{common_steps}
use Rattle.fixed_places.specs.Chains.{IsChain, IsLast, is_in}
use Rattle.fixed_places.proofs.PlaceLaws.{some-within}
use Rattle.fixed_places.proofs.ChainLaws.{chains-taken, known-at}
use Rattle.fixed_places.proofs.chains.Chains.take.Goals as goal

pub last_below-last-requires-clause-start : goal.last_below-last-requires-clause-start
last_below-last-requires-clause-start c =
    let heads = c.self.inside.heads.items in
    let places = c.self.inside.chains.items in
    let chain = c.unwrap-chain.result in
    let at = c.args.at in
    let held : get_or places at None ≡ Some chain = grind (arith, common_steps) in
    let inside : chain < length heads = known-at places at chain (length heads) c.self.invariant.known held in
    let first : c.index-2.result.now ≡ get_or heads chain None = grind (arith, common_steps) in
    let start : IfSome (get_or heads chain None) (λ q. q < length places) = c.self.invariant.starts chain in
    rw (first, c.deref.ensures.value, c.self.invariant.nexts_len) start

pub invariant_of-self : goal.invariant_of-self
invariant_of-self c =
    let heads = c.self.inside.heads.items in
    let nexts = c.self.inside.nexts.items in
    let places = c.self.inside.chains.items in
    let at = c.args.at in
    let chain = c.unwrap-chain.result in
    let last = c.last_below-last.result in
    let chains = c.self.invariant in
    let held : get_or places at None ≡ Some chain = grind (arith, common_steps) in
    let inside : chain < length heads = known-at places at chain (length heads) chains.known held in
    let test : ℕ → Bool = is_in chain places in
    let place : at < length places = some-within places at (rw (ap (λ v. v.places) c.self.view_is) c.requires) in
    let first : c.index-2.result.now ≡ get_or heads chain None = grind (arith, common_steps) in
    let is_chain : IsChain test c.index-2.result.now c.deref.result.now =
    rw (first, c.deref.ensures.value) (chains.chains chain inside) in
    let is_last : IsLast test at last = c.last_below-last.ensures.last test is_chain in
    let last_in : IfSome last (λ l. l < length nexts) = rw (← c.deref.ensures.value) c.last_below-last.ensures.within in
    let next : c.index-next.result.now ≡ get_or nexts at None = grind (arith, common_steps) in
    rw (c.link.ensures.heads, c.link.ensures.nexts, next)
    (chains-taken heads nexts places at chain last chains place held inside is_last last_in)
