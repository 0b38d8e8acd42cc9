-- The histories, computed.
use Rattle.std.proofs.Common.{refl}
use Rattle.split_types.specs.Sets.{pids}
use Rattle.split_types.specs.Parents.{metadata_buffers}
use Rattle.split_types.specs.PageBytes.{filled_page}
use Rattle.split_types.proofs.journaling.journaled_histories.Goals as goal

pub returns : goal.returns
unfolding pids metadata_buffers filled_page
returns c = record {
  made = record {
    new_page = record { legal = (refl, (refl, (refl, (refl, (refl, (refl, (refl, (refl, (refl, (refl, (refl, (refl, (refl, (refl, (refl, (refl, (refl, (refl, (refl, (refl, (refl, (refl, (refl, (refl, (refl, (refl, (refl, (refl, (refl, tt))))))))))))))))))))))))))))); made = refl };
    creators = record { legal = (refl, (refl, (refl, (refl, (refl, (refl, (refl, (refl, (refl, (refl, (refl, (refl, (refl, (refl, (refl, (refl, (refl, (refl, (refl, (refl, (refl, (refl, (refl, (refl, (refl, (refl, (refl, (refl, (refl, (refl, (refl, (refl, (refl, (refl, (refl, (refl, (refl, (refl, tt)))))))))))))))))))))))))))))))))))))); made = refl };
    data_before_commit = record { legal = (refl, (refl, (refl, (refl, (refl, (refl, (refl, (refl, (refl, (refl, (refl, (refl, (refl, (refl, (refl, (refl, (refl, (refl, (refl, (refl, (refl, (refl, (refl, (refl, (refl, tt))))))))))))))))))))))))); made = refl };
    one_of_four = record { legal = (refl, (refl, (refl, (refl, (refl, (refl, (refl, (refl, (refl, (refl, (refl, (refl, (refl, (refl, (refl, (refl, (refl, (refl, (refl, (refl, (refl, (refl, (refl, (refl, (refl, tt))))))))))))))))))))))))); made = refl };
    late = record { legal = (refl, (refl, (refl, (refl, (refl, (refl, (refl, (refl, (refl, (refl, (refl, (refl, (refl, (refl, (refl, (refl, (refl, (refl, (refl, (refl, (refl, (refl, (refl, (refl, (refl, (refl, (refl, (refl, (refl, (refl, (refl, (refl, (refl, (refl, (refl, (refl, (refl, (refl, (refl, (refl, (refl, (refl, (refl, (refl, (refl, tt))))))))))))))))))))))))))))))))))))))))))))); made = refl };
    map_before_seal = record { legal = (refl, (refl, (refl, (refl, (refl, (refl, (refl, (refl, (refl, (refl, (refl, (refl, (refl, (refl, (refl, (refl, (refl, (refl, (refl, (refl, (refl, (refl, (refl, (refl, (refl, tt))))))))))))))))))))))))); made = refl };
    synced = record { legal = (refl, (refl, (refl, (refl, (refl, (refl, (refl, (refl, (refl, (refl, (refl, (refl, (refl, (refl, (refl, (refl, (refl, (refl, (refl, (refl, (refl, (refl, (refl, (refl, (refl, (refl, (refl, (refl, (refl, tt))))))))))))))))))))))))))))); made = refl };
  };
  ends = record {
    new_page = record { replies_are = refl; nexts_are = refl; drained = refl };
    creators = record { replies_are = refl; nexts_are = refl; drained = refl };
    data_before_commit = record { replies_are = refl; nexts_are = refl; drained = refl };
    one_of_four = record { replies_are = refl; nexts_are = refl; drained = refl };
    late = record { replies_are = refl; nexts_are = refl; drained = refl };
    map_before_seal = record { replies_are = refl; nexts_are = refl; drained = refl };
    synced = record { replies_are = refl; nexts_are = refl; drained = refl };
  };
  due = record {
    new_page = record { requests = refl; processes = refl; time = refl };
    creators = record { requests = refl; processes = refl; time = refl };
    data_before_commit = record { requests = refl; processes = refl; time = refl };
    one_of_four = record { requests = refl; processes = refl; time = refl };
    late = record { requests = refl; processes = refl; time = refl };
    map_before_seal = record { requests = refl; processes = refl; time = refl };
    synced = record { requests = refl; processes = refl; time = refl };
  };
}
