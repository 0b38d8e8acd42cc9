use Rattle.std.proofs.Common.{◌≡◌, ◌∙◌, ℕ, ◌<◌, Bool, None, Some, IfSome, List, Option, length, get_or, arith, sym, ap}
use Rattle.std.proofs.lemmas.Grind.{common_steps}
use Rattle.fixed_places.specs.Chains.{IsChain, IsLast, is_in, next_of}
use Rattle.fixed_places.proofs.ChainLaws.{chains-put}
use Rattle.fixed_places.proofs.chains.Chains.put.Goals as goal

pub invariant_of-self : goal.invariant_of-self
invariant_of-self c =
    let heads = c.self.inside.heads.items in
    let nexts = c.self.inside.nexts.items in
    let places = c.self.inside.chains.items in
    let at = c.args.at in
    let chain = c.args.chain in
    let last = c.last_below-last.result in
    let chains = c.self.invariant in
    let inside : chain < length heads = rw (ap (λ v. v.count) c.self.view_is) c.requires.chain in
    let test : ℕ → Bool = is_in chain places in
    let first : c.index.result.now ≡ get_or heads chain None = grind (arith, common_steps) in
    let is_chain : IsChain test c.index.result.now c.deref.result.now =
    rw (first, c.deref.ensures.value) (chains.chains chain inside) in
    let is_last : IsLast test at last = c.last_below-last.ensures.last test is_chain in
    let last_in : IfSome last (λ l. l < length nexts) = rw (← c.deref.ensures.value) c.last_below-last.ensures.within in
    let next : c.next_of.result ≡ next_of last (get_or heads chain None) nexts =
    rw (← c.deref-2.ensures.value, ← c.deref-3.ensures.value) c.next_of.ensures in
    let seen : places ≡ c.args.self.now.places = ap (λ v. v.places) c.self.view_is in
    let place : at < length places = rw seen c.requires.place in
    let empty : get_or places at None ≡ None = rw seen c.requires.empty in
    rw (c.link.ensures.heads, c.link.ensures.nexts, next)
    (chains-put heads nexts places at chain last chains place empty inside is_last last_in)
