use Rattle.std.proofs.Common.{◌%◌, inl, inr, refl, arith}
use Rattle.std.specs.Int.{w64}
use Rattle.std.proofs.lemmas.Bool.{cases_eq}
use Rattle.std.proofs.lemmas.Nat.Bits.{bit_at_set_same, bit_at_set_other}
use Rattle.delayed_alloc.proofs.txn_marks.TxnMarks.add.Goals as goal

pub returns-clause-added : goal.returns-clause-added
returns-clause-added c =
    rw (bit_at_set_same w64 c.args.self.now.bits (c.args.t.0 % 64) (omega arith)) refl

pub returns-clause-kept : goal.returns-clause-kept
returns-clause-kept c = λ u on.
    elim (cases_eq (u.0 % 64) (c.args.t.0 % 64)) [
      | inl same ↦ rw (same, bit_at_set_same w64 c.args.self.now.bits (c.args.t.0 % 64) (omega arith)) refl
      | inr apart ↦ rw (bit_at_set_other w64 c.args.self.now.bits (c.args.t.0 % 64) (omega arith) (u.0 % 64) apart) on
    ]
