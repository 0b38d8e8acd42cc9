use Rattle.std.proofs.Common.{◌≡◌, ◌/◌, length, arith, sym, ap, ◌∙◌, subst}
use Rattle.sim_disk.specs.Bytes.{spread, block_of}
use Rattle.sim_disk.specs.Load.{bytes_of}
use Rattle.sim_disk.specs.Sheet.{Overwrites}
use Rattle.sim_disk.proofs.FillLaws.{spread_count}
use Rattle.sim_disk.proofs.blocks.Blocks.hold.Goals as goal

pub hold_filled-requires-clause-within : goal.hold_filled-requires-clause-within
hold_filled-requires-clause-within c =
    let fills = c.as_slice.result.now in
    let bytes : bytes_of c.args.load ≡ spread fills = ap bytes_of c.in-Filled.is ∙ ap spread (sym c.as_slice.ensures) in
    omega (arith, c.requires.within, c.requires.count, spread_count fills, ap (λ l. length l / 4096) bytes)

pub returns-in-Filled-clause-bytes : goal.returns-in-Filled-clause-bytes
returns-in-Filled-clause-bytes c =
    let fills = c.as_slice.result.now in
    let old = c.args.self.now.blocks in
    let new = c.hold_filled.new.self.blocks in
    let bytes : bytes_of c.args.load ≡ spread fills = ap bytes_of c.in-Filled.is ∙ ap spread (sym c.as_slice.ensures) in
    let count : length fills ≡ c.args.n =
    omega (arith, c.requires.count, spread_count fills, ap (λ l. length l / 4096) bytes) in
    subst (λ l. Overwrites old new c.args.first c.args.n (block_of l)) (sym bytes)
    (subst (λ n. Overwrites old new c.args.first n (block_of (spread fills))) count c.hold_filled.ensures.bytes)
