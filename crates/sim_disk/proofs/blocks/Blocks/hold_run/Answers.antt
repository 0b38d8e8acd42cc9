use Rattle.std.proofs.Common.{refl, arith, ap, ◌∙◌}
use Rattle.sim_disk.specs.Runs.{bytes_in}
use Rattle.sim_disk.proofs.RunLaws.{inserted_kept, inserted_blocks, overwrites_none}
use Rattle.sim_disk.proofs.blocks.Blocks.hold_run.Goals as goal

pub loop-i-init : goal.loop-i-init
loop-i-init c =
    let places = c.self.inside.places.items in
    let runs = c.self.inside.runs in
    let new = c.insert_reserved-run.new.self in
    let key = c.insert_reserved-run.result in
    let call = c.insert_reserved-run.ensures in
    let kept = c.self.invariant.kept in
    record {
      held = record {
        kept = inserted_kept places runs new key _ kept call.was_vacant call.updates refl;
        backed = c.self.invariant.backed;
      };
      run = ap bytes_in call.updates.changed;
      blocks = overwrites_none _ _ _ _ (inserted_blocks places runs new key _ kept call.was_vacant call.updates refl
          ∙ ap (λ s. s.blocks) c.self.view_is);
      room = omega (arith, call.len, call.capacity, ap (λ s. s.room) c.self.view_is);
      left = ap (λ s. s.left) c.self.view_is;
      ready = ap (λ s. s.ready) c.self.view_is;
    }
