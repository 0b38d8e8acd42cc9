use Rattle.std.proofs.Common.{◌≡◌, ◌++◌, ◌∷◌, [], ◌<◌, ◌≤◌, drop, vec_len, arith, subst, sym, ap}
use Rattle.std.proofs.lemmas.Grind.{common_steps}
use Rattle.std.proofs.lemmas.List.Quantifiers.{all_pairs_push}
use Rattle.block_queue.specs.Backlog.{IsById}
use Rattle.block_queue.proofs.waiting.Waiting.push.Goals as goal

pub invariant_of-self : goal.invariant_of-self
invariant_of-self c =
    let start = c.if-len-capacity.self-inside.start in
    let items = c.push_reserved.new.self.items in
    let more : drop start items ≡ c.args.self.now.requests ++ c.args.r ∷ [] = grind (arith, common_steps) in
    let front : start ≤ vec_len c.push_reserved.new.self = grind (arith, common_steps) in
    let up = subst IsById (ap (λ s. s.requests) c.self.view_is) c.self.invariant.1 in
    (front, subst IsById (sym more) (all_pairs_push (λ a b. a.id.0 < b.id.0) _ _ up c.requires.above))
