use Rattle.std.proofs.Common.{◌≡◌, ◌+◌, ◌++◌, ◌∷◌, [], ◌∙◌, length, length-take-le, take, get_or, cond, None, arith, ap, sym}
use Rattle.std.specs.Option.{is_some}
use Rattle.std.proofs.lemmas.List.{get_or_read}
use Rattle.journal_core.specs.Places.{blocks_of}
use Rattle.journal_core.proofs.PlaceLaws.{blocks-more, blocks-at_most}
use Rattle.journal_core.proofs.tagging.list_blocks.Goals as goal

pub list_block-requires : goal.list_block-requires
list_block-requires g c =
    let places = c.args.places.now in
    let at = c.loop-at.at in
    omega (
      arith,
      c.loop-at.into.ok.0,
      ap length c.loop-at.invariant.blocks,
      blocks-at_most (take at places),
      length-take-le at places (omega (arith, c.loop-at-test.true)),
      c.loop-at.invariant.room,
      c.clear.ensures.capacity,
      c.requires.room,
      c.loop-at-test.true,
    )

pub loop-at-preserved : goal.loop-at-preserved
loop-at-preserved g c =
    let places = c.args.places.now in
    let at = c.loop-at.at in
    let read : c.index-places-at.result ≡ get_or places at None =
    get_or_read places at c.index-places-at.result c.loop-at-test.true c.index-places-at.is None in
    record {
      blocks =
          c.list_block.ensures.blocks
          ∙ ap (λ xs. xs ++ cond c.is_some.result ((at + 1) ∷ []) []) c.loop-at.invariant.blocks
          ∙ ap (λ b. blocks_of (take at places) ++ cond b ((at + 1) ∷ []) []) (c.is_some.ensures ∙ ap is_some read)
          ∙ sym (blocks-more places at c.loop-at-test.true);
      room = c.list_block.ensures.room ∙ c.loop-at.invariant.room;
    }
