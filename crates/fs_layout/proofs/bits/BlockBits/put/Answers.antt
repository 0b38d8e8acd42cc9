use Rattle.std.proofs.Common.{ℕ, List, length, ap, ◌∙◌, arith}
use Rattle.split_types.specs.DiskLayout.{taken_block}
use Rattle.fs_layout.specs.BitsOf.{all_bits_of}
use Rattle.fs_layout.proofs.BitsLaws.{bits_again}
use Rattle.fs_layout.proofs.bits.BlockBits.put.Goals as goal

pub returns : goal.returns
returns c =
    let same = c.copy_from_slice.ensures.after ∙ c.deref.ensures.value in
    bits_again c.copy_from_slice.new.self (ap length same ∙ c.self.invariant) (λ i. omega (arith, c.type_inv.out i))
    ∙ ap (λ (x : List ℕ). taken_block (all_bits_of x)) same ∙ ap taken_block c.self.view_is
