use Rattle.page_cache.proofs.GuideLaws.{guide-new}
use Rattle.page_cache.proofs.guide.Guide.new.Goals as goal

pub invariant_of-result : goal.invariant_of-result
invariant_of-result c =
    rw (
      c.in_ok-new.ensures,
      c.in_ok-new-2.ensures,
      c.in_ok-new-3.ensures.candidates,
      c.in_ok-new-4.ensures,
      c.in_ok-new-5.ensures,
      c.in_ok-new-6.ensures,
    )
    (guide-new c.args.places c.in_ok-new-3.field-0.touches c.requires.some c.requires.few c.in_ok-new-3.ensures.touches)
