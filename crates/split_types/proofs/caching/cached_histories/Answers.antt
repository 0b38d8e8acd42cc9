-- The histories, computed.
use Rattle.std.proofs.Common.{refl}
use Rattle.split_types.specs.Parents.{metadata_buffers}
use Rattle.split_types.specs.PageBytes.{filled_page}
use Rattle.split_types.proofs.caching.cached_histories.Goals as goal

pub returns : goal.returns
unfolding filled_page metadata_buffers
returns c = record {
  of_two_in_flight = record { legal = (refl, (refl, (refl, (refl, (refl, (refl, (refl, (refl, (refl, (refl, (refl, (refl, (refl, (refl, (refl, (refl, tt)))))))))))))))); made = refl };
  of_small_cache = record { legal = (refl, (refl, (refl, (refl, (refl, (refl, (refl, (refl, (refl, (refl, (refl, (refl, (refl, (refl, (refl, (refl, (refl, (refl, (refl, tt))))))))))))))))))); made = refl };
  of_part_of_page = record { legal = (refl, (refl, (refl, (refl, (refl, (refl, (refl, (refl, (refl, (refl, (refl, (refl, (refl, (refl, (refl, tt))))))))))))))); made = refl };
  of_past_the_end = record { legal = (refl, (refl, (refl, (refl, (refl, (refl, (refl, (refl, (refl, (refl, (refl, (refl, (refl, tt))))))))))))); made = refl };
  of_pinned_page = record { legal = (refl, (refl, (refl, (refl, (refl, (refl, (refl, (refl, (refl, (refl, (refl, (refl, (refl, (refl, (refl, (refl, (refl, (refl, (refl, (refl, (refl, (refl, (refl, tt))))))))))))))))))))))); made = refl };
}
