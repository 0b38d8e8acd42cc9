use Rattle.std.proofs.Common.{◌≡◌, ◌<◌, ◌∙◌, get_or, length, length-set, None, arith, ap}
use Rattle.std.proofs.lemmas.List.{get_or_read, get_or-set_other}
use Rattle.cause_set.specs.Tags.{held}
use Rattle.journal_core.specs.Causes.{causes_in, joined, Covered}
use Rattle.journal_core.proofs.CauseLaws.{joined-held, joined-made, causes_in-beside, joins}
use Rattle.journal_core.proofs.tagging.join_all.Goals as goal

pub loop-at-preserved : goal.loop-at-preserved
loop-at-preserved g c =
    let number = g.S.TagStore.number in
    let old = g.S.TagStore.now c.args.tags.now in
    let now = g.S.TagStore.now c.loop-at.tags in
    let new = g.S.TagStore.now c.both.new.tags in
    let at = c.loop-at.at in
    let into = c.loop-at.into.items in
    let places = c.args.places.now in
    let others = c.args.others.now in
    let inside : at < length into = omega (arith, c.loop-at.invariant.len, c.loop-at-test.true) in
    let place : c.index-places-at.result ≡ get_or places at None =
    get_or_read places at c.index-places-at.result c.loop-at-test.true c.index-places-at.is None in
    let other : c.index-others-at.result ≡ get_or others at None =
    get_or_read others at c.index-others-at.result (omega (arith, c.requires.others, c.loop-at-test.true))
    c.index-others-at.is None in
    let of_places : Covered (held number places) old = λ n. omega (arith, c.requires.uses n) in
    let of_others : Covered (held number others) old = λ n. omega (arith, c.requires.uses n) in
    let here : causes_in number new c.in-Ok.made
    ≡ joined (causes_in number old (get_or places at None)) (causes_in number old (get_or others at None)) =
    c.in-Ok.ensures.set
    ∙ ap (λ x. joined x (causes_in number now c.index-others-at.result))
    (causes_in-beside number old now (held number into) places at c.index-places-at.result place of_places
    c.loop-at.invariant.moved ∙ ap (causes_in number old) place)
    ∙ ap (λ x. joined (causes_in number old (get_or places at None)) x)
    (causes_in-beside number old now (held number into) others at c.index-others-at.result other of_others
    c.loop-at.invariant.moved ∙ ap (causes_in number old) other)
    in
    record {
      len = length-set into at c.in-Ok.made ∙ c.loop-at.invariant.len;
      moved = joined-held number old now new into at c.in-Ok.made inside (c.loop-at.invariant.rest at (omega arith))
          c.loop-at.invariant.moved c.in-Ok.ensures.moved;
      made =
          joined-made number now new into at c.in-Ok.made
          (λ k. joined (causes_in number old (get_or places k None)) (causes_in number old (get_or others k None)))
          inside
          (λ n. omega (arith, c.loop-at.invariant.moved.uses n)) c.in-Ok.ensures.moved here c.loop-at.invariant.made;
      rest =
          λ k past.
          get_or-set_other into at k c.in-Ok.made None (λ same. absurd (omega (arith, same, past)))
          ∙ c.loop-at.invariant.rest k (omega (arith, past));
      spare = omega (arith, c.loop-at.invariant.spare, c.both.ensures.spare);
    }

pub returns-clause-set : goal.returns-clause-set
returns-clause-set g c =
    let number = g.S.TagStore.number in
    let old = g.S.TagStore.now c.args.tags.now in
    let now = g.S.TagStore.now c.loop-at.tags in
    let into = c.loop-at.into.items in
    let places = c.args.places.now in
    let others = c.args.others.now in
    joins number old now into places others c.loop-at.invariant.len c.requires.others
    (λ k within. c.loop-at.invariant.made k (omega (arith, within, c.loop-at-test.false)))
