use Rattle.std.proofs.Common.{◌≡◌, ◌≤◌, ◌*◌, length}
use Rattle.std.specs.Prelude.{vec_capacity}
use Rattle.page_cache.proofs.TakeLaws.{bytes_of}
use Rattle.page_cache.proofs.cache.Cache.run_bytes.Given as goal

abbrev pub invariant-loop-k : goal.invariant-loop-k
invariant-loop-k g l =
    record {
      bytes : l.bytes.items ≡ bytes_of l.self l.s l.page l.k;
      len : length l.bytes.items ≡ 4096 * l.k;
      room : l.n * 4096 ≤ vec_capacity l.bytes;
    }
