use Rattle.fs_layout.proofs.BitsLaws.{zeros_everywhere}
use Rattle.fs_layout.proofs.bits.zero_bytes.Goals as goal

pub returns-clause-zeros : goal.returns-clause-zeros
returns-clause-zeros c = λ j. zeros_everywhere _ 4096 j (c.in_ok-bytes.ensures.items_if_clones_equal (λ y same. same))
