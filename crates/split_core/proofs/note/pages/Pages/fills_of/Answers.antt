-- One more page is filled with one byte.
use Rattle.std.proofs.Common.{◌∷◌, [], length, arith, ap, length-append, ◌∙◌}
use Rattle.std.specs.List.{flat_map}
use Rattle.split_types.specs.Parents.{pages_of}
use Rattle.sim_disk.specs.Bytes.{spread}
use Rattle.page_cache.specs.Cached.{page_of}
use Rattle.page_cache.specs.Changes.{bytes_in}
use Rattle.split_core.proofs.CargoNotes.{fills_more}
use Rattle.split_core.proofs.note.pages.Pages.fills_of.Goals as goal

pub loop-k-init : goal.loop-k-init
loop-k-init c = record { fills = ap spread c.none-fills.ensures; len = ap length c.none-fills.ensures }

pub push-requires : goal.push-requires
push-requires c = omega (arith, c.loop-k.invariant.len, c.loop-k-test.true, c.requires.few)

pub loop-k-preserved : goal.loop-k-preserved
loop-k-preserved c = record {
  fills = fills_more (λ b. bytes_in (page_of c.args.self.now.cache b)) c.args.serial c.args.page c.loop-k.k
      c.loop-k.fills c.push.new.self _ c.loop-k.invariant.fills c.in_ok-fill_of.ensures c.push.ensures;
  len = omega (
    arith,
    ap length c.push.ensures ∙ length-append c.loop-k.fills (c.in_ok-fill_of.field-0 ∷ []),
    c.loop-k.invariant.len,
  );
}

pub returns : goal.returns
returns c =
    c.loop-k.invariant.fills
    ∙ ap (λ n. flat_map (λ b. bytes_in (page_of c.args.self.now.cache b)) (pages_of c.args.serial c.args.page n))
    (omega (arith, c.loop-k.auto.k-end))
