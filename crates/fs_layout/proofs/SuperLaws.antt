-- The superblock.
use Rattle.std.proofs.Common.{◌≡◌, ℕ, List, [], ◌++◌, length, take, drop, refl, sym, ap, ◌∙◌, arith}
use Rattle.std.specs.Prelude.{◌↔◌}
use Rattle.split_types.specs.DiskLayout.{number, super_block, zeros}
use Rattle.fs_layout.specs.declared.superblock.SuperImage.{SuperImage}
use Rattle.fs_layout.specs.Super.{label, super_spelling, IsSuperImage}
use Rattle.fs_layout.specs.Fields.{number_at, with_bytes}
use Rattle.fs_layout.proofs.FieldLaws.{number_again, AreBytes, filled_none, filled_bytes, number_taken, zeros_follow, zeros_after}

pub length-super_block : (version device : ℕ) → length (super_block version device) ≡ 4096
unfolding super_block zeros
length-super_block version device = refl

pub super_again : (y : SuperImage) (bytes : List ℕ) (version device : ℕ) → version ≡ number_at bytes 8
    → device ≡ number_at bytes 12 → IsSuperImage y → bytes ≡ super_spelling y
    → (let x : SuperImage = record { version = version; device = device } in x ≡ y)
unfolding super_block
super_again y bytes version device v d is e =
    let first : version ≡ y.version = v ∙ rw e (number_again y.version (omega (arith, is.known))) in
    let second : device ≡ y.device = d ∙ rw e (number_again y.device (omega (arith, is.most))) in
    rw (first, second) refl

pub super_written : (version device : ℕ) (old cleared labelled numbered done : List ℕ) → length old ≡ 4096
    → cleared ≡ zeros (length old) → labelled ≡ with_bytes cleared 0 (label version)
    → numbered ≡ with_bytes labelled 8 (number version) → done ≡ with_bytes numbered 12 (number device)
    → done ≡ super_block version device
unfolding super_block
super_written version device old cleared labelled numbered done len e0 e1 e2 e3 =
    let s0 = filled_none cleared 4096 (e0 ∙ ap zeros len) in
    let s1 = filled_bytes cleared labelled [] (label version) 0 4096 4088 s0 e1 refl refl in
    let s2 = filled_bytes labelled numbered (label version) (number version) 8 4088 4084 s1 e2 refl refl in
    let s3 = filled_bytes numbered done (label version ++ number version) (number device) 12 4084 4080 s2 e3 refl
    refl in
    s3.filled

pub super_parts : (b : List ℕ) (version device : ℕ) → AreBytes b → length b ≡ 4096 → version ≡ number_at b 8
    → device ≡ number_at b 12
    → ((take 8 b ≡ label version) × (take 4080 (drop 16 b) ≡ zeros 4080)) ↔ (b ≡ super_block version device)
unfolding super_block
super_parts b version device bytes len v d = (
  λ p.
      let first : take 12 b ≡ label version ++ number version = number_taken b (label version) 8 bytes (omega arith)
      p.0 ∙ ap (λ (n : ℕ). label version ++ number n) (sym v) in
      let second : take 16 b ≡ label version ++ number version ++ number device =
      number_taken b _ 12 bytes (omega arith) first ∙ ap (λ (n : ℕ). label version ++ number version ++ number n)
      (sym d) in
      zeros_follow b _ 16 4080 (sym len) second p.1,
  λ e. (ap (take 8) e, zeros_after b (label version ++ number version ++ number device) 16 4080 e refl),
)
