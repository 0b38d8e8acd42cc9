use Rattle.page_cache.specs.Fields.{all_seen}
use Rattle.page_cache.proofs.KeptLaws.{kept-pool}
use Rattle.page_cache.proofs.cache.Cache.room.Goals as goal
use Rattle.std.proofs.Common.{arith}

pub invariant_of-self : goal.invariant_of-self
invariant_of-self g c =
    let i = c.self.inside in
    let places = all_seen g.S.TagStore.number i.places.items in
    let kept = c.self.invariant.ready in
    kept-pool i.limit i.spare i.spare places i.guide i.pool c.room.new.self c.self.invariant c.in_err-room.ensures.reserved
    (omega (arith, kept.pages, c.in_err-room.ensures.pages)) (omega (arith, kept.runs, c.in_err-room.ensures.runs))

pub invariant_of-self-2 : goal.invariant_of-self-2
invariant_of-self-2 g c =
    let i = c.self.inside in
    let places = all_seen g.S.TagStore.number i.places.items in
    kept-pool i.limit i.spare c.args.n places i.guide i.pool c.room.new.self c.self.invariant
    c.in_ok-room.ensures.reserved c.in_ok-room.ensures.ok_pages c.in_ok-room.ensures.ok_runs
