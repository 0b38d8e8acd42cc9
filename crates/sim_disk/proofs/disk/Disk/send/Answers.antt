-- The write joins those in flight, which are as they were before room was made.
use Rattle.std.proofs.Common.{◌≡◌, length, All, arith, sym, ap, ◌∙◌, subst}
use Rattle.sim_disk.specs.Medium.{AreApart, write_of}
use Rattle.sim_disk.specs.Fields.{IsWithin}
use Rattle.sim_disk.proofs.WriteLaws.{started}
use Rattle.sim_disk.proofs.disk.Disk.send.Goals as goal

pub invariant_of-self : goal.invariant_of-self
invariant_of-self c =
    let kept = c.self.invariant in
    let w = c.args.w in
    let rest : c.room.new.self ≡ record c.args.self.now { spare = c.room.new.self.spare } = c.in_ok-room.ensures.rest in
    let writes : c.self.inside.writes.items ≡ c.args.self.now.writes = ap (λ m. m.writes) c.self.view_is
    ∙ ap (λ m. m.writes) rest in
    let blocks : length c.self.inside.blocks.blocks ≡ length c.args.self.now.blocks =
    ap (λ m. length m.blocks) c.self.view_is ∙ ap (λ m. length m.blocks) rest in
    let spare : c.self.inside.spare ≡ c.room.new.self.spare = ap (λ m. m.spare) c.self.view_is in
    record {
      writes = rw c.push_reserved.ensures.items
          (started _ _ w kept.writes (subst (λ n. IsWithin n w) (sym blocks) c.requires.within)
          (subst (All (AreApart w)) (sym writes) c.requires.apart)
          (ap (λ l. write_of l w.id) writes ∙ c.requires.other));
      few = kept.few;
      places = omega (arith, spare, c.in_ok-room.ensures.ok);
      room = omega (arith, spare, c.in_ok-room.ensures.ok);
      ready = omega (arith, spare, c.in_ok-room.ensures.ok);
    }
