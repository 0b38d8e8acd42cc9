-- The blocks that have one byte at each place, and which of them were made.
use Rattle.std.proofs.Common.{◌≡◌, ℕ, ◌+◌, ◌-◌, ◌<◌, List, [], ◌∷◌, ◌++◌, length, map, get_or, set, take, replicate, cond, ◌==◌, All, vec_len, Vec, Global, refl, ap, ◌∙◌, inl, inr, arith, count_by}
use Rattle.std.specs.Prelude.{Result, Ok, Err, IsOk, is_ok, if◌then◌else◌}
use Rattle.std.proofs.lemmas.Bool.{cases_eq, cases_lt}
use Rattle.std.proofs.lemmas.List.{length-set, get_or-set_same, get_or-set_other, get_or_past}
use Rattle.std.proofs.lemmas.List.Elements.{All-get_or, All-head, All-tail}
use Rattle.std.proofs.lemmas.List.Sums.{sum_by-set, sum_by-cons}
use Rattle.std.specs.List.{AllZip, each_same}
use Rattle.sim_disk.specs.Bytes.{filled}
use Rattle.sim_disk.specs.Shared.{IsMade, AreFilled, is_nothing}
use Rattle.sim_disk.proofs.Filled.{length-filled}

-- where nothing is there, nothing is there for each byte
nothing_made : (shared : List (List ℕ)) → All (λ block. block ≡ []) shared
    → count_by is_nothing shared ≡ length shared
nothing_made [] none = refl
nothing_made (block ∷ rest) none = omega (
  arith,
  sum_by-cons (λ q. cond (is_nothing q) 1 0) block rest,
  ap {B = ℕ} (λ q. cond (is_nothing q) 1 0) (All-head (λ q. q ≡ []) block rest none),
  nothing_made rest (All-tail (λ q. q ≡ []) block rest none),
)

-- no block was made
pub none_made : (shared : List (List ℕ)) → length shared ≡ 256 → All (λ block. block ≡ []) shared → AreFilled shared 256
none_made shared all none = record {
  all = all;
  made = λ byte. elim (cases_lt byte (length shared)) [
    | inl within ↦ inl (All-get_or (λ block. block ≡ []) shared byte [] within none)
    | inr past ↦ inl (get_or_past shared byte [] past)
  ];
  left = nothing_made shared none ∙ all;
}

one_there : (block : List ℕ) → length block ≡ 4096 → ◌≡◌ {A = ℕ} (cond (is_nothing block) 1 0) 0
one_there block len = ap {B = ℕ} (λ l. cond (l == 0) 1 0) len

-- one block more
module _ (shared : List (List ℕ)) (byte n : ℕ) (block : List ℕ) (before : AreFilled shared n) (within : byte < 256)
    (is : block ≡ filled byte) where
  pub made_here : IsMade (set shared byte block) byte
  made_here = get_or-set_same shared byte block [] (omega (arith, before.all)) ∙ is

  pub made_still : (other : ℕ) → IsMade shared other → IsMade (set shared byte block) other
  made_still other made = elim (cases_eq other byte) [
    | inl here ↦ rw here made_here
    | inr past ↦ get_or-set_other shared byte other block [] past ∙ made
  ]

  -- one byte fewer is left
  counted : get_or shared byte [] ≡ [] → count_by is_nothing (set shared byte block) + 1 ≡ n
  counted none = omega (
    arith,
    before.left,
    sum_by-set (λ q. cond (is_nothing q) 1 0) shared byte block [] (omega (arith, before.all)),
    ap {B = ℕ} (λ q. cond (is_nothing q) 1 0) none,
    one_there block (ap length is ∙ length-filled byte),
  )

  pub some_left : get_or shared byte [] ≡ [] → 0 < n
  some_left none = omega (arith, counted none)

  pub made_more : get_or shared byte [] ≡ [] → AreFilled (set shared byte block) (n - 1)
  made_more none = record {
    all = length-set shared byte block ∙ before.all;
    made = λ other. elim (cases_eq other byte) [
      | inl here ↦ inr (rw here made_here)
      | inr past ↦
          (let same : get_or (set shared byte block) other [] ≡ get_or shared other [] =
          get_or-set_other shared byte other block [] past in
          elim (before.made other) [ inl gone ↦ inl (same ∙ gone) | inr made ↦ inr (same ∙ made) ])
    ];
    left = omega (arith, counted none);
  }

-- memory that is filled up
pub filled_up : {X E : Type 0} (r : Result X E) (old new : List ℕ) (len byte : ℕ)
    → new ≡ (if is_ok r then take 4096 old ++ replicate (4096 - len) byte else old) → IsOk r → old ≡ [] → len ≡ 0
    → new ≡ filled byte
unfolding filled
filled_up (Err e) old new len byte is ok none is_len = absurd (cc)
filled_up (Ok x) old new len byte is ok none is_len =
    is ∙ ap (λ xs. take 4096 xs ++ replicate (4096 - len) byte) none ∙ ap (λ m. replicate (4096 - m) byte) is_len

-- blocks that were copied
pub copied_all : (blocks copies : List (Vec ℕ Global))
    → AllZip (λ v w. AllZip (λ x y. y ≡ x) v.items w.items × (vec_len w ≡ vec_len v)) blocks copies
    → map (λ v. v.items) copies ≡ map (λ v. v.items) blocks
copied_all [] [] same = refl
copied_all [] (w ∷ ws) same = absurd same
copied_all (v ∷ vs) [] same = absurd same
copied_all (v ∷ vs) (w ∷ ws) same =
    ap (λ b. b ∷ map (λ u. u.items) ws) (each_same v.items w.items same.0.0)
    ∙ ap (λ l. v.items ∷ l) (copied_all vs ws same.1)
