-- What a write carries starts as it is kept.
use Rattle.std.proofs.Common.{◌≡◌, length, arith, ap, sym, subst, ◌∙◌}
use Rattle.std.specs.Prelude.{All}
use Rattle.sim_disk.specs.Bytes.{spread}
use Rattle.sim_disk.specs.Medium.{AreApart}
use Rattle.split_core.specs.Cargo.{bytes_of}
use Rattle.split_core.proofs.CargoNotes.{spread_len}
use Rattle.split_core.proofs.note.medium.start.Goals as goal

pub start_filled-requires : goal.start_filled-requires
start_filled-requires c =
    let fills = c.in-Filled.fills
    in let is : spread fills ≡ c.args.cargo = sym (ap bytes_of c.in-Filled.is) ∙ c.into_load.ensures
    in record {
      within = omega (arith, c.requires.within, spread_len fills, ap length is);
      apart =
          subst (λ bytes. All (AreApart (record { id = c.args.id; first = c.args.first; bytes = bytes }))
          c.args.disk.now.writes) (sym is) c.requires.apart;
      other = c.requires.other;
    }
