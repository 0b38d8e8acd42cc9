use Rattle.std.proofs.Common.{◌≡◌, ◌∙◌, get_or, None, arith, ap, take}
use Rattle.std.proofs.lemmas.List.{get_or_read}
use Rattle.cause_set.specs.Tags.{use_in}
use Rattle.journal_core.specs.Causes.{causes_in, causes_at, joined, whole_of}
use Rattle.journal_core.proofs.CauseLaws.{whole-live, whole-step, moved-through, causes_in-beside}
use Rattle.journal_core.proofs.tagging.union.Goals as goal

pub with_place-requires : goal.with_place-requires
with_place-requires g c =
    let places = c.args.places.now in
    let at = c.loop-place.place-index in
    let read : c.place-item.result ≡ get_or places at None =
    get_or_read places at c.place-item.result c.loop-place-test.true c.place-item.is None in
    whole-live g.S.TagStore.number (g.S.TagStore.now c.args.tags.now) (g.S.TagStore.now c.loop-place.tags) places at
    c.loop-place.whole
    c.place-item.result read c.requires c.loop-place.invariant.moved

pub loop-place-preserved : goal.loop-place-preserved
loop-place-preserved g c =
    let number = g.S.TagStore.number in
    let old = g.S.TagStore.now c.args.tags.now in
    let now = g.S.TagStore.now c.loop-place.tags in
    let new = g.S.TagStore.now c.with_place.new.tags in
    let places = c.args.places.now in
    let at = c.loop-place.place-index in
    let whole = c.loop-place.whole in
    let made = c.in_ok-whole.whole in
    let read : c.place-item.result ≡ get_or places at None =
    get_or_read places at c.place-item.result c.loop-place-test.true c.place-item.is None in
    let is : causes_in number new made ≡ joined (whole_of (causes_at number old (take at places)))
    (causes_in number old c.place-item.result) =
    c.in_ok-whole.ensures.set
    ∙ ap (λ x. joined x (causes_in number now c.place-item.result)) c.loop-place.invariant.set
    ∙ ap (λ x. joined (whole_of (causes_at number old (take at places))) x)
    (causes_in-beside number old now (use_in number whole) places at c.place-item.result read c.requires
    c.loop-place.invariant.moved) in
    record {
      moved = moved-through number old now new (use_in number whole) (use_in number made) c.loop-place.invariant.moved
          c.in_ok-whole.ensures.moved;
      set = whole-step number old places at c.place-item.result (causes_in number new made) c.loop-place-test.true read
          is c.in_ok-whole.ensures.is_set;
      spare = omega (arith, c.loop-place.invariant.spare, c.with_place.ensures.spare);
    }
