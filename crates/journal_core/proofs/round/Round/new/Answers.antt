use Rattle.std.proofs.Common.{replicate, None, Option, ap, sym, arith}
use Rattle.std.proofs.lemmas.List.{length-replicate}
use Rattle.journal_core.proofs.PlaceLaws.{no-blocks, empty-map}
use Rattle.journal_core.proofs.round.Round.new.Goals as goal

pub invariant_of-result : goal.invariant_of-result
invariant_of-result g c =
    let blocks = c.args.blocks in
    let len = length-replicate {A = Option g.row.S-Tag.Denot} blocks None in
    rw (c.in_ok-empty_places.ensures, c.in_ok-empty_places-2.ensures, c.in_ok-with_capacity.ensures.items)
    record {
      few = rw len c.requires;
      empty = ap (λ n. replicate n None) (sym len);
      enough = omega (arith, len, c.in_ok-with_capacity.ensures.exact);
      left = sym (no-blocks g.row.S-Tag.Denot blocks);
      within = omega arith;
    }

pub returns : goal.returns
returns g c = rw c.in_ok-empty_places.ensures (empty-map g.S.TagStore.number c.args.blocks)
