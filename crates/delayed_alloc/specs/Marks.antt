-- Which transactions blocks wait for, as bits: one bit stands for all transactions whose numbers leave the same rest
-- by 64.
use Rattle.std.specs.Prelude.{◌≡◌, ℕ, ◌<◌, ◌≤◌, ◌%◌, ◌==◌, Bool, true, List, slice_index_or}
use Rattle.std.specs.Int.{bit_at}
use Rattle.split_types.specs.declared.ids.Txn.{Txn}
use Rattle.delayed_alloc.specs.Blocks.{State, Taken, Waiting}

-- the transaction has its mark
abbrev pub is_marked : ℕ → Txn → Bool
is_marked bits t = bit_at bits (t.0 % 64) == 1

-- each transaction that a block from the first up to the end waits for has its mark
abbrev pub AreMarked : List State → ℕ → ℕ → ℕ → Type 0
AreMarked states bits first end = (block : ℕ) (t : Txn) → first ≤ block → block < end
    → slice_index_or states block Taken ≡ Waiting t
    → is_marked bits t ≡ true

-- each transaction that a block waits for has its mark
abbrev pub AllMarked : List State → ℕ → Type 0
AllMarked states bits = (block : ℕ) (t : Txn) → slice_index_or states block Taken ≡ Waiting t
    → is_marked bits t ≡ true

-- no mark goes
abbrev pub KeepsMarks : ℕ → ℕ → Type 0
KeepsMarks old new = (t : Txn) → is_marked old t ≡ true → is_marked new t ≡ true
