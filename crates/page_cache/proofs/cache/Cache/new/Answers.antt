use Rattle.std.proofs.Common.{refl, Option, None, is_some, arith}
use Rattle.cause_set.specs.Tags.{same}
use Rattle.cause_set.proofs.TagLaws.{held-empty}
use Rattle.page_cache.specs.Held.{Held, seen}
use Rattle.page_cache.specs.Cached.{is_unsettled, tag_in}
use Rattle.page_cache.proofs.ListLaws.{map-replicate, empty-place, count-replicate}
use Rattle.page_cache.proofs.KeptLaws.{kept-new}
use Rattle.page_cache.proofs.cache.Cache.new.Goals as goal

pub invariant_of-result : goal.invariant_of-result
invariant_of-result g c =
    let number = g.S.TagStore.number in
    let count = c.max-count.result in
    rw (c.in_ok-empty_places.ensures, map-replicate (seen number) count None)
    (kept-new c.args.places count c.in_ok-new.field-0 c.in_ok-new-2.field-0 (omega arith) (omega arith) (omega arith)
    (omega arith)
    c.in_ok-new.ensures c.in_ok-new-2.ensures)

pub returns-clause-empty : goal.returns-clause-empty
returns-clause-empty g c =
    λ b. rw (c.in_ok-empty_places.ensures, map-replicate (seen g.S.TagStore.number) c.max-count.result None)
    (empty-place {X = Held} c.max-count.result _)

pub returns-clause-none : goal.returns-clause-none
returns-clause-none g c =
    let none : Option Held = None in
    rw (c.in_ok-empty_places.ensures, map-replicate (seen g.S.TagStore.number) c.max-count.result None)
    (count-replicate is_some c.max-count.result none refl)

pub returns-clause-settled : goal.returns-clause-settled
returns-clause-settled g c =
    rw (c.in_ok-empty_places.ensures, map-replicate (seen g.S.TagStore.number) c.max-count.result None)
    (count-replicate is_unsettled c.max-count.result None refl)

pub returns-clause-tags : goal.returns-clause-tags
returns-clause-tags g c =
    λ n. rw (
      c.in_ok-empty_places.ensures,
      map-replicate (seen g.S.TagStore.number) c.max-count.result None,
      map-replicate tag_in c.max-count.result None,
    )
    (held-empty same c.max-count.result n)
