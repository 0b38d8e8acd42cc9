use Rattle.std.proofs.Common.{◌≡◌, ◌+◌, ◌-◌, ◌≤◌, min, map, get_or, set, arith, sym, ap, ◌∙◌}
use Rattle.std.proofs.lemmas.List.Elements.{All-set}
use Rattle.sim_disk.specs.declared.runs.Place.TheVariants.{Filled}
use Rattle.sim_disk.specs.Bytes.{filled, spread, block_of}
use Rattle.sim_disk.specs.Runs.{content, IsBacked}
use Rattle.sim_disk.proofs.FillLaws.{spread_block}
use Rattle.sim_disk.proofs.RunLaws.{overwrites_more, backed_more}
use Rattle.sim_disk.proofs.blocks.Blocks.hold_filled.Goals as goal

pub make_ready-requires : goal.make_ready-requires
make_ready-requires c = omega (arith, c.loop-at.invariant.ready 0 (omega (arith, c.requires.ready)))

pub loop-at-preserved : goal.loop-at-preserved
loop-at-preserved c =
    let at = c.loop-at.at in
    let b = c.args.first + at in
    let fills = c.args.fills.now in
    let fill = get_or fills at 0 in
    let inside = c.loop-at.self-inside in
    let before = c.loop-at.invariant in
    let made = c.make_ready.new.self.blocks in
    let holds : filled fill ≡ block_of (spread fills) at = sym (spread_block fills at 0 (omega arith)) in
    let stand = map (content inside.runs) inside.places.items in
    let now : map (content c.settle.new.runs) c.settle.new.places.items ≡ set stand b (block_of (spread fills) at) =
    c.settle.ensures.blocks ∙ ap (set stand b) holds in
    record {
      held = record {
        kept = c.settle.ensures.kept;
        backed = rw c.settle.ensures.places (All-set (IsBacked made) inside.places.items b (Filled fill)
            c.make_ready.ensures.made
            (backed_more inside.places.items inside.shared.blocks made c.make_ready.ensures.others before.held.backed));
      };
      blocks = rw now (overwrites_more _ stand c.args.first at (block_of (spread fills)) before.blocks (omega (
        arith,
        before.blocks.size,
        c.requires.within,
      )));
      room = omega arith;
      ready = λ n given.
          let kept : min (15 - at + n) c.make_ready.new.self.left ≤ c.make_ready.new.self.ready =
          c.make_ready.ensures.ready (15 - at + n) (omega (arith, before.ready n given)) in
          omega (arith, kept);
    }
