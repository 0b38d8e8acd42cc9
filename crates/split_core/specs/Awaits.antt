-- Which processes await a read that they added.
use Rattle.std.specs.Prelude.{ℕ, ◌==◌, List, [], slice_get, Bool, false, not, ◌&&◌, ◌||◌, Option, Some, None}
use Rattle.split_types.specs.declared.ids.Pid.{Pid}
use Rattle.split_types.specs.declared.actor.Actor.TheVariants.{Client}
use Rattle.split_types.specs.declared.event.Event.{Event}
use Rattle.split_types.specs.declared.event.Event.TheVariants.{Ret, Add, Done}
use Rattle.split_types.specs.History.{◌▹◌}
use Rattle.split_types.specs.Requests.{requests}
use Rattle.split_types.specs.Reads.{reads_for, is_process}

-- the process for which the request of this number reads; none where it writes, or isn't added
abbrev pub reader_at : List Event → ℕ → Option Pid
reader_at h id = elim (slice_get (requests h) id) [ None ↦ None | Some r ↦ reads_for r ]

-- the process for which a request reads that an event says to be done
abbrev pub done_for : List Event → Event → Option Pid
done_for h (Done k id ok) = reader_at h id.0
done_for h e = None

-- the call of process p under way added a read, and none of the reads that p added was done since
abbrev pub awaits : List Event → ℕ → Bool
awaits [] p = false
awaits (h ▹ Ret by reply) p = not (by.0 == p) && awaits h p
awaits (h ▹ Add (Client by) r) p = by.0 == p || awaits h p
awaits (h ▹ Done k id ok) p = not (is_process p (reader_at h id.0)) && awaits h p
awaits (h ▹ e) p = awaits h p
