use Rattle.std.proofs.Common.{◌≡◌, ◌∷◌, [], filter, not, true, Some, Bool, arith, sym, ◌∙◌, subst}
use Rattle.std.specs.Option.{IsSomeAnd}
use Rattle.std.proofs.lemmas.Bool.Decides.{nat_tests}
use Rattle.split_types.specs.declared.request.Request.{Request}
use Rattle.split_types.specs.Requests.{is_numbered}
use Rattle.split_types.proofs.Lists.{filter_one}
use Rattle.block_queue.proofs.ById.{once}
use Rattle.block_queue.proofs.waiting.Waiting.take.Goals as goal

pub returns-clause-request : goal.returns-clause-request
returns-clause-request c =
    let requests = c.args.self.now.requests in
    let has_id : c.remove.result.id ≡ c.args.id = subst (λ o. IsSomeAnd o (λ q. q.id ≡ c.args.id))
    c.remove.ensures.request c.place_of-at.ensures.found in
    let passes : is_numbered c.args.id c.remove.result ≡ true = grind (arith, nat_tests) in
    (filter_one (is_numbered c.args.id) requests c.place_of-at.result c.remove.result c.remove.ensures.request passes
    (once requests c.args.id c.place_of-at.ensures.by_id)).0

pub returns-clause-requests : goal.returns-clause-requests
returns-clause-requests c =
    let requests = c.args.self.now.requests in
    let has_id : c.remove.result.id ≡ c.args.id = subst (λ o. IsSomeAnd o (λ q. q.id ≡ c.args.id))
    c.remove.ensures.request c.place_of-at.ensures.found in
    let passes : is_numbered c.args.id c.remove.result ≡ true = grind (arith, nat_tests) in
    let one = filter_one (is_numbered c.args.id) requests c.place_of-at.result c.remove.result c.remove.ensures.request
    passes (once requests c.args.id c.place_of-at.ensures.by_id) in
    c.remove.ensures.requests ∙ sym one.1
