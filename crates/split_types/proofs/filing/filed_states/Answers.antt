-- The histories, computed.
use Rattle.std.proofs.Common.{refl}
use Rattle.split_types.proofs.filing.filed_states.Goals as goal

pub returns : goal.returns
returns c = record {
  space = record {
    last_free = refl;
    last_promised = refl;
    last_left = refl;
    last_run = refl;
    waiting = refl;
    waiting_free = refl;
  };
  growth = record {
    hole_pieces = refl;
    hole_sizes = refl;
    hole_disk_sizes = refl;
    hole_maps = refl;
    hole_held = refl;
    hole_runs = refl;
    largest_sizes = refl;
  };
  slots = record {
    unsettled_in_service = refl;
    service_stays = refl;
    unsettled_in_flight = refl;
    crowded_in_flight = refl;
    in_slot = refl;
    slots = refl;
    free_slots = refl;
    numbers = refl;
    named = refl;
    no_slot = refl;
  };
}
