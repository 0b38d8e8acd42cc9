-- The blocks of pages, through one more map: which pages it gives which blocks, and what stays.
use Rattle.std.proofs.Common.{◌≡◌, ℕ, ◌+◌, ◌-◌, ◌==◌, ◌<◌, ◌≤◌, Bool, true, false, ◌&&◌, ◌||◌, ◌⊎◌, Option, Some, refl, arith, subst, sym, inl, inr, ◌∙◌, ap, nat_lt, nat_le, if◌then◌else◌}
use Rattle.std.proofs.lemmas.Bool.{cond-true, or_cases, or_left, or_right}
use Rattle.std.proofs.lemmas.Bool.Decides.{nat_tests}
use Rattle.std.proofs.lemmas.Option.{same_Some}
use Rattle.split_types.specs.declared.workload.Workload.{Workload}
use Rattle.split_types.specs.Workloads.{first_block}

-- which pages have which blocks, which blocks stand in which map, and which files keep theirs: each page is one that a
-- file may have, each block one of data, and none is the block of two pages whose files keep their blocks
pub record AreBlocks (w : Workload) (m : ℕ → ℕ → Option ℕ) (i : ℕ → ℕ → Bool) (keeps : ℕ → Bool) : Type 0 where
  pub page : (s g x : ℕ) → m s g ≡ Some x → g < 1008
  pub from : (s g x : ℕ) → m s g ≡ Some x → first_block w ≤ x
  pub to : (s g x : ℕ) → m s g ≡ Some x → x < w.device
  pub apart : (s t g k x : ℕ) → m s g ≡ Some x → m t k ≡ Some x → keeps s ≡ true → keeps t ≡ true
      → (s ≡ t) × (g ≡ k)
  pub in_map : (s g x : ℕ) → m s g ≡ Some x → i s x ≡ true
  pub of_map : (s x : ℕ) → i s x ≡ true → (g : ℕ) × (m s g ≡ Some x)

-- the blocks of pages, where n pages of file t from `page` on have the blocks from `block` on
abbrev pub with_map : (ℕ → ℕ → Option ℕ) → ℕ → ℕ → ℕ → ℕ → ℕ → ℕ → Option ℕ
with_map m t page n block s g =
    if t == s && nat_le page g && nat_lt g (page + n) then Some (block + (g - page)) else m s g

-- the blocks of maps, where that of file t has n blocks more, from `block` on
abbrev pub with_blocks : (ℕ → ℕ → Bool) → ℕ → ℕ → ℕ → ℕ → ℕ → Bool
with_blocks i t n block s x = (t == s && nat_le block x && nat_lt x (block + n)) || i s x

-- n pages of file t from `page` on may have the blocks from `block` on: no other page of a file that keeps its blocks
-- has these, and the pages have no other blocks
pub record IsPlacing (w : Workload) (m : ℕ → ℕ → Option ℕ) (keeps : ℕ → Bool) (t page n block : ℕ) : Type 0 where
  pub within : page + n ≤ 1008
  pub from : (k : ℕ) → k < n → first_block w ≤ block + k
  pub to : (k : ℕ) → k < n → block + k < w.device
  pub own : (s g k : ℕ) → k < n → m s g ≡ Some (block + k) → keeps s ≡ true → (s ≡ t) × (g ≡ page + k)
  pub same : (k x : ℕ) → k < n → m t (page + k) ≡ Some x → x ≡ block + k

-- the map is that of this page: k pages behind its first one
pub record IsNew (t page n block s g x : ℕ) : Type 0 where
  pub file : s ≡ t
  pub behind : ℕ
  pub below : behind < n
  pub page_is : g ≡ page + behind
  pub block_is : x ≡ block + behind

-- a block of a page is that of the map, or the page had it before
pub map_cases : (m : ℕ → ℕ → Option ℕ) (t page n block s g x : ℕ) → with_map m t page n block s g ≡ Some x
    → IsNew t page n block s g x ⊎ (m s g ≡ Some x)
map_cases m t page n block s g x at = by_test (t == s && nat_le page g && nat_lt g (page + n)) refl at
  where
    by_test : (b : Bool) → (t == s && nat_le page g && nat_lt g (page + n)) ≡ b
        → (if b then Some (block + (g - page)) else m s g) ≡ Some x
        → IsNew t page n block s g x ⊎ (m s g ≡ Some x)
    by_test true is same =
        let within : (s ≡ t) × (page ≤ g) × (g < page + n) = grind (arith, nat_tests) in
        inl (record {
          file = within.0;
          behind = g - page;
          below = omega (arith, within.1, within.2);
          page_is = omega (arith, within.1);
          block_is = sym (same_Some (block + (g - page)) x same);
        })
    by_test false is same = inr same

-- the block of a page of the map
pub map_here : (m : ℕ → ℕ → Option ℕ) (t page n block k : ℕ) → k < n
    → with_map m t page n block t (page + k) ≡ Some (block + k)
map_here m t page n block k below =
    cond-true (t == t && nat_le page (page + k) && nat_lt (page + k) (page + n)) (Some (block + (page + k - page)))
    (m t (page + k)) (grind (arith, nat_tests))
    ∙ ap (λ y. Some (block + y)) (omega arith)

-- a page keeps its block
pub map_stays : (w : Workload) (m : ℕ → ℕ → Option ℕ) (keeps : ℕ → Bool) (t page n block s g x : ℕ)
    → IsPlacing w m keeps t page n block → m s g ≡ Some x → with_map m t page n block s g ≡ Some x
map_stays w m keeps t page n block s g x p at = by_test (t == s && nat_le page g && nat_lt g (page + n)) refl
  where
    by_test : (b : Bool) → (t == s && nat_le page g && nat_lt g (page + n)) ≡ b
        → (if b then Some (block + (g - page)) else m s g) ≡ Some x
    by_test true is =
        let within : (s ≡ t) × (page ≤ g) × (g < page + n) = grind (arith, nat_tests) in
        let here : m t g ≡ Some x = subst (λ u. m u g ≡ Some x) within.0 at in
        let behind : g ≡ page + (g - page) = omega (arith, within.1) in
        let there : m t (page + (g - page)) ≡ Some x =
        subst (λ k. m t k ≡ Some x) behind here in
        ap Some (sym (p.same (g - page) x (omega (arith, within.1, within.2)) there))
    by_test false is = at

-- where files with blocks no longer keep them, or all keep them as before
pub blocks_keep : (w : Workload) (m : ℕ → ℕ → Option ℕ) (i : ℕ → ℕ → Bool) (keeps keep : ℕ → Bool)
    → AreBlocks w m i keeps → ((s g x : ℕ) → m s g ≡ Some x → keep s ≡ true → keeps s ≡ true) → AreBlocks w m i keep
blocks_keep w m i keeps keep b was = record {
  page = b.page;
  from = b.from;
  to = b.to;
  apart = λ s t g k x at there own also. b.apart s t g k x at there (was s g x at own) (was t k x there also);
  in_map = b.in_map;
  of_map = b.of_map;
}

-- through one more map
pub blocks_map : (w : Workload) (m : ℕ → ℕ → Option ℕ) (i : ℕ → ℕ → Bool) (keeps : ℕ → Bool) (t page n block : ℕ)
    → AreBlocks w m i keeps → IsPlacing w m keeps t page n block
    → AreBlocks w (λ s g. with_map m t page n block s g) (λ s x. with_blocks i t n block s x) keeps
blocks_map w m i keeps t page n block b p = record {
  page = λ s g x at. elim (map_cases m t page n block s g x at) [
    | inl new ↦ omega (arith, p.within, new.below, new.page_is)
    | inr old ↦ b.page s g x old
  ];
  from = λ s g x at. elim (map_cases m t page n block s g x at) [
    | inl new ↦ omega (arith, p.from new.behind new.below, new.block_is)
    | inr old ↦ b.from s g x old
  ];
  to = λ s g x at. elim (map_cases m t page n block s g x at) [
    | inl new ↦ omega (arith, p.to new.behind new.below, new.block_is)
    | inr old ↦ b.to s g x old
  ];
  apart = λ s u g k x at there own also_own. elim (map_cases m t page n block s g x at) [
    | inl new ↦ elim (map_cases m t page n block u k x there) [
      | inl also ↦ both s u g k x new also
      | inr old ↦ one s u g k x new old also_own
    ]
    | inr old ↦ elim (map_cases m t page n block u k x there) [
      | inl new ↦ (let turned = one u s k g x new old own in (sym turned.0, sym turned.1))
      | inr also ↦ b.apart s u g k x old also own also_own
    ]
  ];
  in_map = λ s g x at. elim (map_cases m t page n block s g x at) [
    | inl new ↦ or_left (t == s && nat_le block x && nat_lt x (block + n)) (i s x) (new_in s g x new)
    | inr old ↦ or_right (t == s && nat_le block x && nat_lt x (block + n)) (i s x) (b.in_map s g x old)
  ];
  of_map = λ s x is. elim (or_cases (t == s && nat_le block x && nat_lt x (block + n)) (i s x) is) [
    | inl new ↦ of_new s x new
    | inr old ↦ (let page_of = b.of_map s x old
        in (page_of.0, map_stays w m keeps t page n block s page_of.0 x p page_of.1))
  ];
}
  where
    both : (s u g k x : ℕ) → IsNew t page n block s g x → IsNew t page n block u k x → (s ≡ u) × (g ≡ k)
    both s u g k x new also =
        (new.file ∙ sym also.file, omega (arith, new.page_is, also.page_is, new.block_is, also.block_is))

    one : (s u g k x : ℕ) → IsNew t page n block s g x → m u k ≡ Some x → keeps u ≡ true → (s ≡ u) × (g ≡ k)
    one s u g k x new old keep =
        let own = p.own u k new.behind new.below (subst (λ y. m u k ≡ Some y) new.block_is old) keep in
        (new.file ∙ sym own.0, new.page_is ∙ sym own.1)

    new_in : (s g x : ℕ) → IsNew t page n block s g x → (t == s && nat_le block x && nat_lt x (block + n)) ≡ true
    new_in s g x new =
        let file : s ≡ t = new.file in
        let below = new.below in
        let is = new.block_is in
        grind (arith, nat_tests)

    of_new : (s x : ℕ) → (t == s && nat_le block x && nat_lt x (block + n)) ≡ true
        → (g : ℕ) × (with_map m t page n block s g ≡ Some x)
    of_new s x is =
        let within : (t ≡ s) × (block ≤ x) × (x < block + n) = grind (arith, nat_tests) in
        let here : with_map m t page n block t (page + (x - block)) ≡ Some (block + (x - block)) =
        map_here m t page n block (x - block) (omega (arith, within.1, within.2)) in
        let same : block + (x - block) ≡ x = omega (arith, within.1) in (
          page + (x - block),
          subst (λ u. with_map m t page n block u (page + (x - block)) ≡ Some x) within.0 (here ∙ ap Some same),
        )
