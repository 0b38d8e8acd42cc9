-- The write that ends had whole blocks of the disk; the others stay in flight.
use Rattle.std.proofs.Common.{◌≡◌, ◌+◌, ◌*◌, length, filter, not, vec_len, vec_capacity, refl, arith, ap}
use Rattle.sim_disk.specs.Medium.{is_of}
use Rattle.split_types.specs.declared.ids.ReqId.{ReqId}
use Rattle.sim_disk.specs.declared.disk.Disk.TheInside.{Inside}
use Rattle.sim_disk.specs.Fields.{IsWithin, IsKept}
use Rattle.sim_disk.proofs.WriteLaws.{all_found, ended}
use Rattle.sim_disk.proofs.disk.Disk.finish.Goals as goal

pub overflow_cast-n : goal.overflow_cast-n
overflow_cast-n c =
    let size = length c.self.inside.blocks.blocks in
    let within = all_found (IsWithin size) (is_of c.args.id)
    c.self.inside.writes.items c.take-w.result c.self.invariant.writes.within c.take-w.ensures.write in
    omega (arith, within.end, c.self.invariant.few, ap length c.into_parts-first.ensures.bytes)

pub hold-requires-clause-within : goal.hold-requires-clause-within
hold-requires-clause-within c =
    let size = length c.self.inside.blocks.blocks in
    let within = all_found (IsWithin size) (is_of c.args.id)
    c.self.inside.writes.items c.take-w.result c.self.invariant.writes.within c.take-w.ensures.write in
    omega (arith, within.end, ap length c.into_parts-first.ensures.bytes)

pub invariant_of-self : goal.invariant_of-self
invariant_of-self c =
    let kept = c.self.invariant in
    let size : length c.hold.new.self.blocks ≡ length c.self.inside.blocks.blocks = c.hold.ensures.bytes.size in
    record {
      writes = rw (size, c.take-w.ensures.others) (ended _ _ (λ w. not (is_of c.args.id w)) kept.writes);
      few = omega (arith, size, kept.few);
      places = omega arith;
      room = omega arith;
      ready = c.hold.ensures.ready (16 * (vec_len c.take-w.new.writes + c.self.inside.spare))
          (omega (arith, kept.ready, c.take-w.ensures.len));
    }

-- a write that ends badly goes, whatever it carried
ended_badly : (d after : Inside) (id : ReqId) → IsKept d → after.blocks ≡ d.blocks → after.spare ≡ d.spare
    → after.writes.items ≡ filter (λ w. not (is_of id w)) d.writes.items → vec_len after.writes + 1 ≡ vec_len d.writes
    → vec_capacity after.writes ≡ vec_capacity d.writes → IsKept after
ended_badly d after id kept blocks spare writes len capacity = record {
  writes = rw (blocks, writes) (ended _ _ (λ w. not (is_of id w)) kept.writes);
  few = rw blocks kept.few;
  places = omega (arith, kept.places, len, capacity, spare);
  room = rw blocks (omega (arith, kept.room, len, spare));
  ready = rw blocks (omega (arith, kept.ready, len, spare));
}

pub invariant_of-self-else-ok : goal.invariant_of-self-else-ok
invariant_of-self-else-ok c =
    ended_badly c.self.inside _ c.args.id c.self.invariant refl refl c.take-w.ensures.others c.take-w.ensures.len
    c.take-w.ensures.capacity

pub invariant_of-self-else-ok-2 : goal.invariant_of-self-else-ok-2
invariant_of-self-else-ok-2 c =
    ended_badly c.self.inside _ c.args.id c.self.invariant refl refl c.take-w.ensures.others c.take-w.ensures.len
    c.take-w.ensures.capacity
