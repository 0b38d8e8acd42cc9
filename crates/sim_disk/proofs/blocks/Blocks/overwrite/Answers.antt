use Rattle.std.proofs.Common.{◌≡◌, ℕ, ◌<◌, arith, subst}
use Rattle.sim_disk.specs.Bytes.{block_of}
use Rattle.sim_disk.specs.Sheet.{Overwrites}
use Rattle.sim_disk.proofs.Filled.{first_block}
use Rattle.sim_disk.proofs.RunLaws.{overwrites_agree}
use Rattle.sim_disk.proofs.blocks.Blocks.overwrite.Goals as goal

pub returns : goal.returns
returns c =
    let bytes = c.in_ok-bytes.bytes.items in
    let same : (i : ℕ) → i < 1 → block_of bytes i ≡ c.args.bytes.now =
    λ i below. let first : i ≡ 0 = omega arith in
    rw (c.in_ok-bytes.ensures.items, first) (first_block c.args.bytes.now c.requires.whole)
    in
    record {
      bytes = subst (λ old. Overwrites old c.hold_run.new.self.blocks c.args.b 1 (λ i. c.args.bytes.now))
          c.in_ok-reserve.ensures.blocks
          (overwrites_agree _ _ _ _ (block_of bytes) _ same c.hold_run.ensures.bytes);
    }
