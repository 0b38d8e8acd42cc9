use Rattle.std.proofs.Common.{rules}
use Rattle.std.proofs.lemmas.List.Sorted.{answers_always}
use Rattle.block_queue.proofs.ById.{search_ends, search_finds}
use Rattle.block_queue.proofs.waiting.Waiting.place_of.Goals as goal

pub unwrap-requires : goal.unwrap-requires
unwrap-requires c =
    let facts = c.binary_search_by_key.ensures in
    let by_key = facts.position (λ r. r.id.0) (answers_always _ _ _ (λ f a r g called. search rules)) in
    let requests = c.as_slice-waiting.ensures.requests in
    search_ends c.args.self.now.requests c.as_slice-waiting.ensures.by_id c.args.id c.requires
    c.binary_search_by_key.result (rw requests at by_key)

pub returns-clause-found : goal.returns-clause-found
returns-clause-found c =
    let facts = c.binary_search_by_key.ensures in
    let by_key = facts.position (λ r. r.id.0) (answers_always _ _ _ (λ f a r g called. search rules)) in
    let requests = c.as_slice-waiting.ensures.requests in
    search_finds c.args.self.now.requests c.args.id c.requires.1 c.binary_search_by_key.result c.unwrap.result
    c.unwrap.ensures (rw requests at facts.bound) (rw requests at by_key)
