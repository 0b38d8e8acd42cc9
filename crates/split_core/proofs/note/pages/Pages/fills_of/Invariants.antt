use Rattle.std.proofs.Common.{◌≡◌, length}
use Rattle.std.specs.List.{flat_map}
use Rattle.split_types.specs.Parents.{pages_of}
use Rattle.sim_disk.specs.Bytes as disk
use Rattle.page_cache.specs.Cached.{page_of}
use Rattle.page_cache.specs.Changes.{bytes_in}
use Rattle.split_core.proofs.note.pages.Pages.fills_of.Given as goal

abbrev pub invariant-loop-k : goal.invariant-loop-k
invariant-loop-k l =
    record {
      fills : disk.spread l.fills
          ≡ flat_map (λ b. bytes_in (page_of l.self.cache b)) (pages_of l.serial l.page l.k);
      len : length l.fills ≡ l.k;
    }
