-- The states, computed.
use Rattle.std.proofs.Common.{refl}
use Rattle.split_types.specs.Sets.{pids}
use Rattle.split_types.specs.Parents.{metadata_buffers}
use Rattle.split_types.specs.PageBytes.{filled_page}
use Rattle.split_types.proofs.journaling.journaled_states.Goals as goal

pub returns : goal.returns
unfolding pids metadata_buffers filled_page
returns c = record {
  transactions = record {
    late_slots = refl;
    late_in_journal = refl;
    late_marked = refl;
    late_homes_left = refl;
    data_done = refl;
    data_sent = refl;
    mapped = refl;
  };
  syncs = record { written = refl; awaited = refl; safe = refl };
  sets = record { creators = refl; in_flight = refl; writers = refl };
}
