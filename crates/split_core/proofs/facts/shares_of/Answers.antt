-- One share more.
use Rattle.std.proofs.Common.{ℕ, ap, sym, ◌∙◌, map, ◌++◌, ◌∷◌, []}
use Rattle.std.proofs.lemmas.List.{append_assoc, append-nil}
use Rattle.split_types.specs.declared.ids.Pid.{Pid}
use Rattle.split_core.proofs.FactsReads.{share_in, shares_are}
use Rattle.split_core.proofs.facts.shares_of.Goals as goal

pub loop-p-init : goal.loop-p-init
loop-p-init c =
    let f = share_in c.args.cost c.args.tag.now in
    let all = c.into_iter-p-iterator.ensures.into_iter_gives ∙ c.iter-p-items.ensures in
    ap (λ xs. xs ++ map f c.into_iter-p-iterator.result) c.in_ok-shares.ensures.items ∙ ap (map f) all

pub loop-p-preserved : goal.loop-p-preserved
loop-p-preserved c =
    let f = share_in c.args.cost c.args.tag.now in
    let xs = c.loop-p.shares.items in
    let rest = c.next.new.self in
    ap (λ ys. ys ++ map f rest) c.in_ok-push.ensures.items
    ∙ append_assoc xs ((c.in-Some.p, c.share_of.result) ∷ []) (map f rest)
    ∙ ap (λ n. let one : Pid × ℕ = (c.in-Some.p, n) in xs ++ one ∷ map f rest) c.share_of.ensures
    ∙ ap (λ ps. xs ++ map f ps) (sym c.in-Some.ensures.steps)
    ∙ c.loop-p.invariant

pub returns : goal.returns
returns c =
    let f = share_in c.args.cost c.args.tag.now in
    let xs = c.loop-p.shares.items in
    c.from_vec.ensures ∙ sym (append-nil xs) ∙ ap (λ ps. xs ++ map f ps) (sym c.in-None.ensures.steps.0)
    ∙ c.loop-p.invariant ∙ shares_are c.args.cost c.args.tag.now c.args.tag.now
