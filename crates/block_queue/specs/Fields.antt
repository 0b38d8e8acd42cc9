-- How the fields of a queue make up what contracts see of it.
use Rattle.std.specs.Prelude.{◌≡◌, ◌+◌, ◌^◌, ◌<◌, ◌≤◌, length, filter, vec_len, vec_capacity, All}
use Rattle.block_queue.specs.Backlog.{Backlog, is_read}
use Rattle.block_queue.specs.declared.queue.Queue.TheInside.{Inside}

abbrev pub backlog_of : Inside → Backlog
backlog_of q = record {
  queued = q.queued.requests;
  in_flight = q.in_flight.items;
  next_id = q.next_id;
  spare =
      q.spare;
}

-- all ids that wait are below the next one; the reads stand twice; all requests have ids below the next one, so that
-- there are no
-- more of them; each has a place among those in flight; and there is the room that was promised
pub record IsKept (q : Inside) : Type 0 where
  pub below : All (λ r. r.id.0 < q.next_id) q.queued.requests
  pub reads : q.reads.requests ≡ filter is_read q.queued.requests
  pub few : q.next_id < 2 ^ 32
  pub counted : vec_len q.in_flight + length q.queued.requests ≤ q.next_id
  pub places : vec_len q.in_flight + length q.queued.requests + q.spare ≤ vec_capacity q.in_flight
  pub queued_room : q.spare ≤ q.queued.spare
  pub reads_room : q.spare ≤ q.reads.spare
