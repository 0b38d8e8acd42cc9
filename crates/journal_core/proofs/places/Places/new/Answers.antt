use Rattle.std.proofs.Common.{Option, length, None, ap, sym}
use Rattle.std.proofs.lemmas.List.{length-replicate}
use Rattle.journal_core.proofs.PlaceLaws.{no-blocks, empty-map}
use Rattle.journal_core.proofs.places.Places.new.Goals as goal

pub invariant_of-result : goal.invariant_of-result
invariant_of-result g c =
    rw c.in_ok-empty_places.ensures
    record {
      few = rw (length-replicate {A = Option g.row.S-Tag.Denot} c.args.places None) c.requires;
      counted = ap length (sym (no-blocks g.row.S-Tag.Denot c.args.places));
    }

pub returns : goal.returns
returns g c = rw c.in_ok-empty_places.ensures (empty-map g.S.TagStore.number c.args.places)
