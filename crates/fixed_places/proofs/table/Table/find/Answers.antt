use Rattle.std.proofs.Common.{◌≡◌, ◌≢◌, ◌∙◌, ℕ, ◌<◌, Some, None, IfSome, List, Option, length, get_or, arith, sym, ap}
use Rattle.std.proofs.lemmas.Grind.{common_steps}
use Rattle.fixed_places.specs.Spread.{chain_of}
use Rattle.fixed_places.proofs.TableLaws.{IsSought, sought-start, sought-more}
use Rattle.fixed_places.proofs.table.Table.find.Goals as goal

pub loop-next-init : goal.loop-next-init
loop-next-init g c =
    let keys = c.self.inside.keys.items in
    let code = g.K.Key.code_of in
    let key = c.args.key.now in
    let len : c.len.result ≡ length keys = c.len.ensures ∙ c.self.inside.keys.ok.0 in
    let chain : c.chain_of.result ≡ chain_of (length keys) (code key) =
    c.chain_of.ensures.chain ∙ ap (λ n. chain_of n c.code.result) len ∙ ap (chain_of (length keys)) c.code.ensures in
    rw (← c.self.view_is)
    (sought-start code c.self.inside.chains keys key c.first-next.result c.self.invariant c.first-next.ensures.within
    (rw (← chain) c.first-next.ensures.first))

pub loop-next-preserved : goal.loop-next-preserved
loop-next-preserved g c =
    let keys = c.self.inside.keys.items in
    let code = g.K.Key.code_of in
    let key = c.args.key.now in
    let at = c.in-Some.at in
    let sought : IsSought code c.self.inside.chains.places keys key (Some at) =
    rw (c.self.view_is, ← c.in-Some.is) c.loop-next.invariant in
    let read : c.index.result.now ≡ get_or keys at None = grind (arith, common_steps) in
    let other : get_or keys at None ≢ Some key = λ e. let h = c.if-holds.ensures.1 (read ∙ e) in cc in
    rw (← c.self.view_is)
    (sought-more code c.self.inside.chains keys key at c.next-next.result c.self.invariant sought other
    c.next-next.ensures.within
    (c.next-next.ensures.next (chain_of (length keys) (code key)) sought.linked))
