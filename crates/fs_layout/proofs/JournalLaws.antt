-- Descriptors and commit blocks.
use Rattle.std.proofs.Common.{◌≡◌, ℕ, List, [], ◌++◌, length, take, drop, refl, sym, ap, ◌∙◌, arith, codes}
use Rattle.std.specs.Prelude.{◌↔◌}
use Rattle.split_types.specs.declared.ids.Txn.{Txn}
use Rattle.split_types.specs.DiskLayout.{number, zeros, commit_block}
use Rattle.fs_layout.specs.Journal.{commit_spelling, IsCommitImage}
use Rattle.fs_layout.specs.Fields.{number_at, with_bytes}
use Rattle.fs_layout.proofs.FieldLaws.{AreBytes, number_again, filled_none, filled_bytes, number_taken, zeros_follow, zeros_after}

pub length-commit_block : (t : ℕ) → length (commit_block t) ≡ 4096
unfolding commit_block zeros
length-commit_block t = refl

pub commit_again : (y : Txn) (bytes : List ℕ) (t : ℕ) → t ≡ number_at bytes 8 → IsCommitImage y
    → bytes ≡ commit_spelling y → (let x : Txn = record { 0 = t } in x ≡ y)
unfolding commit_block
commit_again y bytes t is value e =
    let same : t ≡ y.0 = is ∙ rw e (number_again y.0 value.fits) in
    rw same refl

pub commit_written : (t : ℕ) (old cleared labelled done : List ℕ) → length old ≡ 4096 → cleared ≡ zeros (length old)
    → labelled ≡ with_bytes cleared 0 (codes "SPLITJC1")
    → done ≡ with_bytes labelled 8 (number t) → done ≡ commit_block t
unfolding commit_block
commit_written t old cleared labelled done len e0 e1 e2 =
    let s0 = filled_none cleared 4096 (e0 ∙ ap zeros len) in
    let s1 = filled_bytes cleared labelled [] (codes "SPLITJC1") 0 4096 4088 s0 e1 refl refl in
    let s2 = filled_bytes labelled done (codes "SPLITJC1") (number t) 8 4088 4084 s1 e2 refl refl in
    s2.filled

pub commit_parts : (b : List ℕ) (t : ℕ) → AreBytes b → length b ≡ 4096 → t ≡ number_at b 8
    → ((take 8 b ≡ codes "SPLITJC1") × (take 4084 (drop 12 b) ≡ zeros 4084)) ↔ (b ≡ commit_block t)
unfolding commit_block
commit_parts b t bytes len is = (
  λ p.
      let first : take 12 b ≡ codes "SPLITJC1" ++ number t = number_taken b (codes "SPLITJC1") 8 bytes (omega arith)
      p.0 ∙ ap (λ (n : ℕ). codes "SPLITJC1" ++ number n) (sym is) in
      zeros_follow b _ 12 4084 (sym len) first p.1,
  λ e. (ap (take 8) e, zeros_after b (codes "SPLITJC1" ++ number t) 12 4084 e refl),
)
