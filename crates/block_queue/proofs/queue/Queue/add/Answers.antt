-- Reads are among the requests that wait, whose ids are below the next one.
use Rattle.std.proofs.Common.{◌≡◌, ◌<◌, arith, ap, subst, sym, ◌∙◌, All}
use Rattle.std.proofs.lemmas.List.Elements.{All-filter}
use Rattle.split_types.specs.declared.request.Request.{Request}
use Rattle.block_queue.specs.Backlog.{is_read}
use Rattle.block_queue.proofs.queue.Queue.add.Goals as goal

pub push-requires-clause-above : goal.push-requires-clause-above
push-requires-clause-above c =
    let P : Request → Type 0 = λ q. q.id.0 < c.args.r.id.0 in
    let kept = c.self.invariant in
    let rest : c.room.new.self ≡ record c.args.self.now { spare = c.room.new.self.spare } = c.in_ok-room.ensures.rest in
    let same : c.self.inside.next_id ≡ c.args.self.now.next_id = ap (λ b. b.next_id) c.self.view_is
    ∙ ap (λ b. b.next_id) rest in
    let low : All P c.self.inside.queued.requests = λ k d lt.
    omega (arith, kept.below k d lt, c.requires.above, same) in
    subst (All P) (sym kept.reads) (All-filter is_read P _ low)
