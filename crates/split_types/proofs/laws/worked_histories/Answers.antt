-- The worked histories, computed.
use Rattle.std.proofs.Common.{refl}
use Rattle.split_types.specs.Sets.{pids}
use Rattle.split_types.specs.Parents.{metadata_buffers}
use Rattle.split_types.proofs.laws.worked_histories.Goals as goal

pub returns : goal.returns
unfolding pids metadata_buffers
returns c = record {
  of_one_overwrite = record { requests = refl; processes = refl; time = refl };
  of_three_writers = record { requests = refl; processes = refl; time = refl };
  of_writer_after_add = record { requests = refl; processes = refl; time = refl };
  of_writer_between_serve_and_map = record { requests = refl; processes = refl; time = refl };
  of_three_creators = record { requests = refl; processes = refl; time = refl };
  of_three_pages = record { requests = refl; processes = refl; time = refl };
  of_three_pages_by_block = record { requests = refl; processes = refl; time = refl };
  of_late_homes = record { requests = refl; processes = refl; time = refl };
  of_two_creators = record { requests = refl; processes = refl; time = refl };
}
