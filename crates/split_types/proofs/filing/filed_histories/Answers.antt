-- The histories, computed.
use Rattle.std.proofs.Common.{refl}
use Rattle.split_types.specs.Sets.{pids}
use Rattle.split_types.specs.Parents.{metadata_buffers}
use Rattle.split_types.specs.PageBytes.{filled_page}
use Rattle.split_types.proofs.filing.filed_histories.Goals as goal

pub returns : goal.returns
unfolding pids metadata_buffers filled_page
returns c = record {
  made = record {
    last_block = record { legal = (refl, (refl, (refl, (refl, (refl, (refl, (refl, (refl, (refl, (refl, (refl, (refl, (refl, (refl, (refl, (refl, (refl, (refl, (refl, (refl, (refl, (refl, (refl, (refl, (refl, tt))))))))))))))))))))))))); made = refl };
    waiting_blocks = record { legal = (refl, (refl, (refl, (refl, (refl, (refl, (refl, (refl, (refl, (refl, (refl, (refl, (refl, (refl, (refl, (refl, (refl, (refl, (refl, (refl, (refl, (refl, (refl, (refl, (refl, (refl, tt)))))))))))))))))))))))))); made = refl };
    dropped_in_service = record { legal = (refl, (refl, (refl, (refl, (refl, (refl, (refl, (refl, (refl, (refl, (refl, (refl, (refl, (refl, (refl, (refl, (refl, (refl, (refl, (refl, (refl, (refl, (refl, (refl, (refl, (refl, (refl, (refl, (refl, tt))))))))))))))))))))))))))))); made = refl };
    dropped_in_flight = record { legal = (refl, (refl, (refl, (refl, (refl, (refl, (refl, (refl, (refl, (refl, (refl, (refl, (refl, (refl, (refl, (refl, (refl, (refl, (refl, (refl, (refl, (refl, (refl, (refl, (refl, (refl, (refl, (refl, (refl, (refl, (refl, (refl, (refl, (refl, (refl, (refl, (refl, (refl, (refl, tt))))))))))))))))))))))))))))))))))))))); made = refl };
    dropped_at_read = record { legal = (refl, (refl, (refl, (refl, (refl, (refl, (refl, (refl, (refl, (refl, (refl, (refl, (refl, (refl, (refl, (refl, (refl, (refl, (refl, (refl, (refl, (refl, (refl, (refl, (refl, (refl, (refl, (refl, (refl, tt))))))))))))))))))))))))))))); made = refl };
    largest_file = record { legal = (refl, (refl, (refl, (refl, (refl, (refl, (refl, (refl, (refl, (refl, (refl, (refl, (refl, (refl, (refl, (refl, (refl, (refl, (refl, (refl, (refl, (refl, (refl, (refl, (refl, (refl, (refl, (refl, tt)))))))))))))))))))))))))))); made = refl };
    hole = record { legal = (refl, (refl, (refl, (refl, (refl, (refl, (refl, (refl, (refl, (refl, (refl, (refl, (refl, (refl, (refl, (refl, (refl, (refl, (refl, (refl, (refl, (refl, (refl, (refl, (refl, (refl, (refl, (refl, (refl, (refl, (refl, (refl, (refl, (refl, (refl, (refl, (refl, tt))))))))))))))))))))))))))))))))))))); made = refl };
    second_layout = record { legal = (refl, (refl, (refl, (refl, (refl, (refl, (refl, (refl, (refl, (refl, (refl, (refl, (refl, (refl, (refl, (refl, (refl, (refl, (refl, (refl, (refl, (refl, (refl, (refl, (refl, (refl, (refl, (refl, (refl, (refl, (refl, (refl, (refl, (refl, (refl, (refl, (refl, tt))))))))))))))))))))))))))))))))))))); made = refl };
    no_such_names = record { legal = (refl, (refl, (refl, (refl, (refl, (refl, (refl, (refl, (refl, tt))))))))); made = refl };
    slot_again = record { legal = (refl, (refl, (refl, (refl, (refl, (refl, (refl, (refl, (refl, (refl, (refl, (refl, (refl, (refl, (refl, (refl, (refl, (refl, (refl, (refl, (refl, (refl, (refl, (refl, (refl, (refl, (refl, (refl, (refl, (refl, (refl, (refl, (refl, (refl, tt)))))))))))))))))))))))))))))))))); made = refl };
    no_slot = record { legal = (refl, (refl, (refl, tt))); made = refl };
  };
  ends = record {
    last_block = record { replies_are = refl; nexts_are = refl; drained = refl };
    waiting_blocks = record { replies_are = refl; nexts_are = refl; drained = refl };
    dropped_in_service = record { replies_are = refl; nexts_are = refl; drained = refl };
    dropped_in_flight = record { replies_are = refl; nexts_are = refl; drained = refl };
    dropped_at_read = record { replies_are = refl; nexts_are = refl; drained = refl };
    largest_file = record { replies_are = refl; nexts_are = refl; drained = refl };
    hole = record { replies_are = refl; nexts_are = refl; drained = refl };
    second_layout = record { replies_are = refl; nexts_are = refl; drained = refl };
    no_such_names = record { replies_are = refl; nexts_are = refl; drained = refl };
    slot_again = record { replies_are = refl; nexts_are = refl; drained = refl };
    no_slot = record { replies_are = refl; nexts_are = refl; drained = refl };
  };
  due = record {
    last_block = record { requests = refl; processes = refl; time = refl };
    waiting_blocks = record { requests = refl; processes = refl; time = refl };
    dropped_in_service = record { requests = refl; processes = refl; time = refl };
    dropped_in_flight = record { requests = refl; processes = refl; time = refl };
    dropped_at_read = record { requests = refl; processes = refl; time = refl };
    largest_file = record { requests = refl; processes = refl; time = refl };
    hole = record { requests = refl; processes = refl; time = refl };
    second_layout = record { requests = refl; processes = refl; time = refl };
    no_such_names = record { requests = refl; processes = refl; time = refl };
    slot_again = record { requests = refl; processes = refl; time = refl };
    no_slot = record { requests = refl; processes = refl; time = refl };
  };
}
