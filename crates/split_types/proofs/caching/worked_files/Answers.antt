-- The histories, computed.
use Rattle.std.proofs.Common.{refl}
use Rattle.split_types.specs.DiskLayout.{zeros, zero_block, free_entry, file_entry, file_inode, commit_block}
use Rattle.split_types.specs.Parents.{metadata_buffers}
use Rattle.split_types.specs.PageBytes.{filled_page}
use Rattle.split_types.proofs.caching.worked_files.Goals as goal

pub returns : goal.returns
unfolding filled_page zeros zero_block free_entry file_entry file_inode commit_block metadata_buffers
returns c = record {
  pieces = record {
    of_three_pages = refl;
    past_the_end_pieces = refl;
    past_the_end_files = refl;
    past_the_end_got = refl;
    part_of_page_bytes = refl;
    part_of_page_sum = refl;
  };
  maps = record {
    sizes = refl;
    disk_sizes = refl;
    maps = refl;
    reserved = refl;
    in_mapped_run = refl;
    runs = refl;
    free_runs = refl;
  };
  drop = record { slots = refl; taken = refl; waiting = refl };
  blocks = record {
    two_in_flight_blocks = refl;
    small_cache_blocks = refl;
    part_of_page_block = refl;
    names = refl;
    next_file = refl;
    directory = refl;
    inode_in_log = refl;
    inode_at_home = refl;
    commit_block = refl;
  };
}
