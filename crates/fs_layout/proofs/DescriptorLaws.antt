-- Descriptors.
use Rattle.std.proofs.Common.{◌≡◌, ℕ, ◌+◌, ◌-◌, ◌*◌, ◌^◌, ◌<◌, ◌≤◌, List, [], ◌++◌, length, take, drop, refl, sym, ap, ◌∙◌, arith, codes}
use Rattle.std.specs.Prelude.{◌↔◌}
use Rattle.std.proofs.lemmas.List.{take_at, length-append}
use Rattle.std.proofs.lemmas.List.Elements.{All-weaker}
use Rattle.split_types.specs.DiskLayout.{number, numbers, zeros, descriptor_block}
use Rattle.fs_layout.specs.declared.journal.Desc.{Desc}
use Rattle.fs_layout.specs.Journal.{descriptor_spelling, IsDescriptorImage}
use Rattle.fs_layout.specs.Fields.{number_at, with_bytes}
use Rattle.fs_layout.proofs.FieldLaws.{AreBytes, length-zeros, number_again, filled_none, filled_bytes, number_taken, part_taken, zeros_follow, zeros_after}
use Rattle.fs_layout.proofs.NumberLaws.{AllFit, length-numbers, same_numbers}

abbrev head : ℕ → ℕ → List ℕ
head t count = codes "SPLITJD1" ++ number t ++ number count

length-head : (t : ℕ) (homes : List ℕ) → length (head t (length homes) ++ numbers homes) ≡ 16 + 4 * length homes
length-head t homes = omega (arith, length-append (head t (length homes)) (numbers homes), length-numbers homes)

pub length-descriptor_block : (t : ℕ) (homes : List ℕ) → length homes ≤ 261 → length (descriptor_block t homes) ≡ 4096
unfolding descriptor_block
length-descriptor_block t homes few = omega (
  arith,
  length-append (head t (length homes) ++ numbers homes)
      (zeros (4080 - 4 * length homes)),
  length-head t homes,
  length-zeros (4080 - 4 * length homes),
)

-- what stands in a descriptor
pub record Describes (b : List ℕ) (t : ℕ) (homes : List ℕ) : Type 0 where
  pub transaction : number_at b 8 ≡ t
  pub count : number_at b 12 ≡ length homes
  pub numbered : take (4 * length homes) (drop 16 b) ≡ numbers homes

pub describes : (b : List ℕ) (y : Desc) → IsDescriptorImage y → b ≡ descriptor_spelling y → Describes b y.t.0 y.homes
unfolding descriptor_block
describes b y value e = record {
  transaction = rw e (number_again y.t.0 value.fits);
  count = rw e (number_again (length y.homes) (omega (arith, value.few)));
  numbered = ap (λ (x : List ℕ). take (4 * length y.homes) (drop 16 x)) e
      ∙ take_at (numbers y.homes) (zeros (4080 - 4 * length y.homes)) (4 * length y.homes) (length-numbers y.homes);
}

pub descriptor_again : (y : Desc) (b homes : List ℕ) (t count : ℕ) → t ≡ number_at b 8 → count ≡ number_at b 12
    → length homes ≡ count → take (4 * count) (drop 16 b) ≡ numbers homes → AllFit homes
    → IsDescriptorImage y → b ≡ descriptor_spelling y
    → (let x : Desc = record { t = record { 0 = t }; homes = homes } in x ≡ y)
descriptor_again y b homes t count is_t is_count len numbered fits value e =
    let says = describes b y value e in
    let first : t ≡ y.t.0 = is_t ∙ says.transaction in
    let same_count : count ≡ length y.homes = is_count ∙ says.count in
    let spelled : numbers homes ≡ numbers y.homes = sym numbered ∙ ap (λ (n : ℕ). take (4 * n) (drop 16 b))
    same_count ∙ says.numbered in
    let second : homes ≡ y.homes = same_numbers homes y.homes fits (All-weaker (λ n. (1 ≤ n) × (n ≤ 261))
    (λ n. n < 2 ^ 32) (λ n w. omega (arith, w.1)) y.homes value.within) spelled in
    rw (first, second) refl

pub descriptor_parts : (b : List ℕ) (t : ℕ) (homes : List ℕ) → AreBytes b → length b ≡ 4096 → length homes ≤ 261
    → t ≡ number_at b 8 → length homes ≡ number_at b 12 → take (4 * length homes) (drop 16 b) ≡ numbers homes
    → ((take 8 b ≡ codes "SPLITJD1") × (take (4096 - (16 + 4 * length homes)) (drop (16 + 4 * length homes) b) ≡
    zeros (4096 - (16 + 4 * length homes)))) ↔ (b ≡ descriptor_block t homes)
unfolding descriptor_block
descriptor_parts b t homes bytes len few is_t is_count numbered =
    let at = 16 + 4 * length homes in
    let left : 4096 - (16 + 4 * length homes) ≡ 4080 - 4 * length homes = omega arith in
    let front = head t (length homes) ++ numbers homes in (
      λ p.
          let first : take 12 b ≡ codes "SPLITJD1" ++ number t = number_taken b (codes "SPLITJD1") 8 bytes
          (omega arith) p.0 ∙ ap (λ (n : ℕ). codes "SPLITJD1" ++ number n) (sym is_t) in
          let second : take 16 b ≡ head t (length homes) = number_taken b _ 12 bytes (omega arith) first
          ∙ ap (λ (n : ℕ). codes "SPLITJD1" ++ number t ++ number n) (sym is_count) in
          let third : take at b ≡ front = part_taken b (head t (length homes)) (numbers homes) 16 (4 * length homes)
          second numbered in
          let last : take (4080 - 4 * length homes) (drop at b) ≡ zeros (4080 - 4 * length homes) = rw (← left) p.1 in
          zeros_follow b front at (4080 - 4 * length homes) (omega arith) third last,
      λ e. (ap (take 8) e, rw left (zeros_after b front at (4080 - 4 * length homes) e (length-head t homes))),
    )

pub descriptor_written : (t : ℕ) (homes old cleared labelled numbered counted done : List ℕ) → length homes ≤ 261
    → length old ≡ 4096 → cleared ≡ zeros (length old) → labelled ≡ with_bytes cleared 0 (codes "SPLITJD1")
    → numbered ≡ with_bytes labelled 8 (number t) → counted ≡ with_bytes numbered 12 (number (length homes))
    → done ≡ with_bytes counted 16 (numbers homes) → done ≡ descriptor_block t homes
unfolding descriptor_block
descriptor_written t homes old cleared labelled numbered counted done few len e0 e1 e2 e3 e4 =
    let s0 = filled_none cleared 4096 (e0 ∙ ap zeros len) in
    let s1 = filled_bytes cleared labelled [] (codes "SPLITJD1") 0 4096 4088 s0 e1 refl refl in
    let s2 = filled_bytes labelled numbered (codes "SPLITJD1") (number t) 8 4088 4084 s1 e2 refl refl in
    let s3 = filled_bytes numbered counted (codes "SPLITJD1" ++ number t) (number (length homes)) 12 4084 4080 s2 e3
    refl refl in
    let s4 = filled_bytes counted done (head t (length homes)) (numbers homes) 16 4080 (4080 - 4 * length homes) s3
    e4 refl (omega (arith, length-numbers homes)) in
    s4.filled
