-- The request goes from those that wait, and from the reads where it is one, to those in flight.
use Rattle.std.proofs.Common.{◌≡◌, ◌+◌, ◌<◌, length, filter, not, Bool, true, vec_len, vec_capacity, All, arith, sym, ap, ◌∙◌}
use Rattle.std.proofs.lemmas.List.Elements.{All-filter}
use Rattle.split_types.specs.declared.request.Request.{Request}
use Rattle.split_types.specs.Requests.{is_numbered}
use Rattle.block_queue.specs.Backlog.{is_read}
use Rattle.block_queue.proofs.ById.{filter_comm, any_passing, same_passing, one_fewer}
use Rattle.block_queue.proofs.queue.Queue.send.Goals as goal
use Rattle.block_queue.proofs.queue.Queue.send.Goals.{then-is_read, else-is_read}

pub take-requires : goal.take-requires
take-requires c =
    let passes : is_read c.take-r.result ≡ true = sym (c.is_read.ensures) ∙ c.if-is_read.true in
    rw c.self.invariant.reads (any_passing is_read c.self.inside.queued.requests c.args.id c.take-r.result
    c.take-r.ensures.request passes)

pub invariant_of-self : goal.invariant_of-self
invariant_of-self c =
    let queued = c.self.inside.queued.requests in
    let kept = c.self.invariant in
    let left = c.take-r.ensures.requests in
    let P : Request → Type 0 = λ r. r.id.0 < c.self.inside.next_id in
    let others : Request → Bool = λ r. not (is_numbered c.args.id r) in
    let fewer : length c.take-r.new.self.requests + 1 ≡ length queued =
    rw left (one_fewer is_read queued c.args.id c.take-r.result c.take-r.ensures.request) in
    let below : All P c.take-r.new.self.requests = rw left (All-filter others P queued kept.below) in
    elim c.if-is_read.branch [
      | then-is_read w ↦ rw w.self-inside-is (record {
        below = below;
        reads = w.take.ensures.requests ∙ ap (filter others) kept.reads ∙ filter_comm others is_read queued
            ∙ ap (filter is_read) (sym left);
        few = kept.few;
        counted = omega (arith, ap (λ q. vec_len q.in_flight) w.self-inside-is);
        places = omega (
          arith,
          ap (λ q. vec_len q.in_flight) w.self-inside-is,
          ap (λ q. vec_capacity q.in_flight) w.self-inside-is,
        );
        queued_room = omega arith;
        reads_room = omega arith;
      })
      | else-is_read w ↦ rw w.self-inside-is (record {
        below = below;
        reads = kept.reads ∙ same_passing is_read queued c.args.id c.take-r.result c.take-r.ensures.request
            (sym c.is_read.ensures ∙ w.if-is_read.false) ∙ ap (filter is_read) (sym left);
        few = kept.few;
        counted = omega (arith, ap (λ q. vec_len q.in_flight) w.self-inside-is);
        places = omega (
          arith,
          ap (λ q. vec_len q.in_flight) w.self-inside-is,
          ap (λ q. vec_capacity q.in_flight) w.self-inside-is,
        );
        queued_room = omega arith;
        reads_room = omega arith;
      })
    ]
