use Rattle.std.proofs.Common.{◌≡◌, ℕ, ◌+◌, ◌-◌, ◌*◌, ◌/◌, ◌<◌, true, length, get_or, take, drop, arith, sym, ap, ◌∙◌, subst}
use Rattle.std.proofs.lemmas.Result.{on_ok_weaker}
use Rattle.sim_disk.specs.Bytes.{filled, spread, block_of}
use Rattle.sim_disk.specs.Load.{bytes_of}
use Rattle.sim_disk.specs.Medium.{InFlight, covers, brings}
use Rattle.sim_disk.proofs.CrashLaws.{covered_from, covered_to}
use Rattle.sim_disk.proofs.FillLaws.{spread_count, spread_block}
use Rattle.sim_disk.proofs.RunLaws.{overwrites_agree}
use Rattle.sim_disk.proofs.write.Write.bring.Goals as goal

pub bounds-as_slice-at : goal.bounds-as_slice-at
bounds-as_slice-at c =
    let fills = c.as_slice.result.now in
    let bytes : bytes_of c.self.inside.load ≡ spread fills =
    ap bytes_of c.in-Filled.is ∙ ap spread (sym c.as_slice.ensures) in
    let w : InFlight =
    record { id = c.self.inside.id; first = c.self.inside.first; bytes = bytes_of c.self.inside.load } in
    let covered : covers w c.args.b ≡ true =
    subst (λ v. covers v c.args.b ≡ true) (sym c.self.view_is) c.requires.covered in
    omega (
      arith,
      covered_from w c.args.b covered,
      covered_to w c.args.b covered,
      spread_count fills,
      ap (λ l. length l / 4096) bytes,
    )

pub returns-in-Filled : goal.returns-in-Filled
returns-in-Filled c =
    let fills = c.as_slice.result.now in
    let at = c.args.b - c.self.inside.first in
    let bytes : bytes_of c.self.inside.load ≡ spread fills =
    ap bytes_of c.in-Filled.is ∙ ap spread (sym c.as_slice.ensures) in
    let w : InFlight =
    record { id = c.self.inside.id; first = c.self.inside.first; bytes = bytes_of c.self.inside.load } in
    let covered : covers w c.args.b ≡ true =
    subst (λ v. covers v c.args.b ≡ true) (sym c.self.view_is) c.requires.covered in
    let within : at < length fills =
    omega (
      arith,
      covered_from w c.args.b covered,
      covered_to w c.args.b covered,
      spread_count fills,
      ap (λ l. length l / 4096) bytes,
    ) in
    let same : (i : ℕ) → i < 1 → filled (get_or fills at 0) ≡ brings c.args.self.now c.args.b = λ i below.
    sym (spread_block fills at 0 within) ∙ ap (λ l. block_of l at) (sym bytes)
    ∙ ap (λ w. brings w c.args.b) c.self.view_is in
    on_ok_weaker c.fill.result (λ over. overwrites_agree _ _ _ _ _ _ same over) c.fill.ensures.blocks

pub returns-in-Bytes : goal.returns-in-Bytes
returns-in-Bytes c =
    let at = c.args.b - c.self.inside.first in
    let from : at * 4096 ≡ 4096 * at = omega arith in
    let len : at * 4096 + 4096 - at * 4096 ≡ 4096 = omega arith in
    let same : (i : ℕ) → i < 1
    → take (at * 4096 + 4096 - at * 4096) (drop (at * 4096) c.deref.result.now) ≡ brings c.args.self.now c.args.b = λ i below.
    rw (len, from, c.deref.ensures.value) (ap (λ l. block_of (bytes_of l) at) (sym c.in-Bytes.is)
    ∙ ap (λ w. brings w c.args.b) c.self.view_is) in
    on_ok_weaker c.overwrite.result (λ over. overwrites_agree _ _ _ _ _ _ same over) c.overwrite.ensures.bytes
