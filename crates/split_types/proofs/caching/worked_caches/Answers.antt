-- The histories, computed.
use Rattle.std.proofs.Common.{refl}
use Rattle.split_types.specs.Sets.{pids}
use Rattle.split_types.specs.Parents.{metadata_buffers}
use Rattle.split_types.proofs.caching.worked_caches.Goals as goal

pub returns : goal.returns
unfolding pids metadata_buffers
returns c = record {
  due = record {
    two_in_flight = record { requests = refl; processes = refl; time = refl };
    small_cache = record { requests = refl; processes = refl; time = refl };
    part_of_page = record { requests = refl; processes = refl; time = refl };
    past_the_end = record { requests = refl; processes = refl; time = refl };
    pinned_page = record { requests = refl; processes = refl; time = refl };
    failed_read = record { requests = refl; processes = refl; time = refl };
  };
  small_cache_after = refl;
  small_cache_full = refl;
  small_cache_crowded = refl;
  pinned_page_after = refl;
  failed_read_after = refl;
  failed_read_seen = refl;
  failed_read_fails = refl;
  dropped_file_after = refl;
}
