use Rattle.std.proofs.Common.{◌≡◌, ◌∙◌, ◌<◌, get_or, length, None, arith}
use Rattle.std.proofs.lemmas.List.{get_or_read}
use Rattle.journal_core.proofs.CauseLaws.{freed-live, freed-more}
use Rattle.journal_core.proofs.PlaceLaws.{emptied-more, emptied-get, emptied-length}
use Rattle.journal_core.proofs.tagging.free_all.Goals as goal

pub free-requires : goal.free-requires
free-requires g c =
    let old = c.args.places.now.items in
    let now = c.loop-at.places.items in
    let at = c.loop-at.at in
    let within : at < length old = omega (arith, c.args.places.now.ok.0, c.len-at-end.ensures, c.loop-at-test.true) in
    let inside : at < length now = emptied-length old now at within c.loop-at.invariant.items in
    let read : c.index_mut.result.now ≡ get_or old at None =
    get_or_read now at c.index_mut.result.now inside c.index_mut.ensures.value None
    ∙ emptied-get old now at within c.loop-at.invariant.items in
    freed-live g.S.TagStore.number (g.S.TagStore.now c.args.tags.now) (g.S.TagStore.now c.loop-at.tags) old at
    c.index_mut.result.now within read
    c.requires c.loop-at.invariant.moved

pub loop-at-preserved : goal.loop-at-preserved
loop-at-preserved g c =
    let old = c.args.places.now.items in
    let now = c.loop-at.places.items in
    let at = c.loop-at.at in
    let within : at < length old = omega (arith, c.args.places.now.ok.0, c.len-at-end.ensures, c.loop-at-test.true) in
    let inside : at < length now = emptied-length old now at within c.loop-at.invariant.items in
    let read : c.index_mut.result.now ≡ get_or old at None =
    get_or_read now at c.index_mut.result.now inside c.index_mut.ensures.value None
    ∙ emptied-get old now at within c.loop-at.invariant.items in
    record {
      items = rw c.free.ensures.place (emptied-more old now at within c.loop-at.invariant.items);
      moved =
          freed-more g.S.TagStore.number (g.S.TagStore.now c.args.tags.now) (g.S.TagStore.now c.loop-at.tags)
          (g.S.TagStore.now c.free.new.tags) old at
          c.index_mut.result.now within read c.loop-at.invariant.moved c.free.ensures.moved;
      spare = omega (arith, c.loop-at.invariant.spare, c.free.ensures.spare);
    }
