use Rattle.std.proofs.Common.{◌≡◌, length, arith}
use Rattle.std.proofs.lemmas.Grind.{common_steps}
use Rattle.std.proofs.lemmas.List.Elements.{All-push}
use Rattle.page_cache.proofs.pool.make_pages.Goals as goal

pub loop-alloc-preserved : goal.loop-alloc-preserved
loop-alloc-preserved c =
    let len : length c.in_ok-vec.field-0.items ≡ 4096 = grind (arith, common_steps) in
    record {
      sized = rw (c.push_reserved.ensures.items, c.reserve.ensures.items)
          (All-push (λ page. length page.items ≡ 4096) c.loop-alloc.ready.items c.in_ok-vec.field-0
          c.loop-alloc.invariant.sized len);
      more = omega (arith, c.push_reserved.ensures.len, c.reserve.ensures.len, c.loop-alloc.invariant.more);
    }
