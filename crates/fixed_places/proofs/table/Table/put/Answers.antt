use Rattle.std.proofs.Common.{◌≡◌, ◌∙◌, ℕ, ◌<◌, Some, List, Option, length, set, sym, ap}
use Rattle.fixed_places.specs.Keys.{IsAbsent}
use Rattle.fixed_places.specs.Spread.{chain_of}
use Rattle.fixed_places.proofs.TableLaws.{table-set, put-only}
use Rattle.fixed_places.proofs.table.Table.put.Goals as goal

pub invariant_of-self : goal.invariant_of-self
invariant_of-self g c =
    let keys = c.self.inside.keys.items in
    let at = c.args.at in
    let key = c.args.key in
    let code = g.K.Key.code_of in
    let len : c.len.result ≡ length keys = c.len.ensures ∙ c.self.inside.keys.ok.0 in
    let chain : c.chain_of.result ≡ chain_of (length keys) (code key) =
    c.chain_of.ensures.chain ∙ ap (λ n. chain_of n c.code.result) len ∙ ap (chain_of (length keys)) c.code.ensures in
    let place : at < length keys = rw c.self.view_is c.requires.place in
    let absent : IsAbsent keys key = rw c.self.view_is c.requires.absent in
    rw (c.put.ensures, chain)
    (table-set code c.self.inside.chains keys at (Some key) c.self.invariant
    (put-only code keys at key place absent c.self.invariant.only))
