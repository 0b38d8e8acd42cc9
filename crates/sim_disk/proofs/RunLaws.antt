-- What the blocks of a disk hold when one of them goes over to another run.
use Rattle.std.proofs.Common.{◌≡◌, ℕ, suc, ◌+◌, ◌*◌, ◌<◌, ◌≤◌, List, [], ◌∷◌, length, map, get_or, set, replicate, cond, eq-eqb, true, Some, None, Option, All, refl, sym, ap, ◌∙◌, subst, inl, inr, arith}
use Rattle.std.proofs.lemmas.Bool.{cases_eq, cases_lt}
use Rattle.std.proofs.lemmas.List.{length-set, map-set, get_or-map, get_or-set_same, get_or-set_other, get_or_past}
use Rattle.std.proofs.lemmas.List.Elements.{All-set, All-replicate, All-map, AllZip-get_or, length_all_zip}
use Rattle.std.proofs.lemmas.List.Sums.{sum_by-set, count_by_more_yes, sum_by-take-le}
use Rattle.slab.specs.Slab.{Slab, get, Updates, IsSlotClone, IsSlabClone}
use Rattle.sim_disk.specs.declared.runs.Place.{Place}
use Rattle.sim_disk.specs.declared.runs.Place.TheVariants.{Filled, Within}
use Rattle.sim_disk.specs.declared.runs.Run.{Run}
use Rattle.sim_disk.specs.Bytes.{block_of, block_at, filled}
use Rattle.sim_disk.specs.Sheet.{Overwrites}
use Rattle.sim_disk.specs.Shared.{IsMade}
use Rattle.sim_disk.specs.Runs.{bytes_in, uses_in, content, is_in, standing, Fits, AreKept, IsBacked}

-- two functions that agree at each element of a list
pub map_agree : {X Y : Type 0} (f g : X → Y) (xs : List X)
    → ((j : ℕ) (d : X) → j < length xs → f (get_or xs j d) ≡ g (get_or xs j d)) → map f xs ≡ map g xs
map_agree f g [] same = refl
map_agree f g (x ∷ xs) same = rw (same 0 x (omega arith))
    (ap (λ l. g x ∷ l) (map_agree f g xs (λ j d within. same (suc j) d (omega arith))))

-- a run in which a block stands is counted
pub standing_some : (places : List Place) (j k : ℕ) (d : Place) → j < length places
    → is_in k (get_or places j d) ≡ true → 0 < standing places k
standing_some places j k d within here = omega (
  arith,
  count_by_more_yes (is_in k) places j d within here,
  sum_by-take-le (λ q. cond (is_in k q) 1 0) places (j + 1),
)

-- what a place holds, and whether it fits, hangs on the bytes of its run alone
pub same_content : (runs new : Slab Run) (p : Place)
    → ((k : ℕ) → is_in k p ≡ true → bytes_in (get new k) ≡ bytes_in (get runs k)) → content new p ≡ content runs p
same_content runs new (Filled byte) same = refl
same_content runs new (Within at run) same = ap (λ bytes. block_of bytes at) (same run (eq-eqb run run refl))

pub same_fit : (runs new : Slab Run) (p : Place)
    → ((k : ℕ) → is_in k p ≡ true → bytes_in (get new k) ≡ bytes_in (get runs k)) → Fits runs p → Fits new p
same_fit runs new (Filled byte) same fits = tt
same_fit runs new (Within at run) same fits =
    subst (λ bytes. 4096 * (at + 1) ≤ length bytes) (sym (same run (eq-eqb run run refl))) fits

module _ (places : List Place) (runs new : Slab Run) (b : ℕ) (p old : Place) (kept : AreKept places runs)
    (inside : b < length places) (was : get_or places b old ≡ old)
    (uses : (k : ℕ) → uses_in (get new k) + cond (is_in k old) 1 0 ≡ uses_in (get runs k) + cond (is_in k p) 1 0)
    (bytes : (k : ℕ) → 0 < uses_in (get new k) → bytes_in (get new k) ≡ bytes_in (get runs k))
    (fits : Fits runs p) where
  counted : (k : ℕ) → uses_in (get new k) ≡ standing (set places b p) k
  counted k = omega (
    arith,
    uses k,
    kept.counted k,
    sum_by-set (λ q. cond (is_in k q) 1 0) places b p old inside,
    ap {B = ℕ} (λ q. cond (is_in k q) 1 0) was,
  )

  -- the bytes of runs in which blocks stand stay
  same_bytes : (j : ℕ) (d : Place) → j < length places → (k : ℕ) → is_in k (get_or (set places b p) j d) ≡ true
      → bytes_in (get new k) ≡ bytes_in (get runs k)
  same_bytes j d within k here =
      let moved = set places b p in
      bytes k (omega (arith, counted k, standing_some moved j k d (omega (arith, length-set places b p)) here))

  -- the blocks and their runs are kept
  pub settled_kept : AreKept (set places b p) new
  settled_kept = record {
    counted = counted;
    within = λ j d within. same_fit runs new (get_or (set places b p) j d)
        (same_bytes j d (omega (arith, length-set places b p)))
        (All-set (Fits runs) places b p fits kept.within j d within);
    few = omega (arith, kept.few, length-set places b p);
  }

  -- the block holds what stands in its new place, and all others what they held
  pub settled_blocks : map (content new) (set places b p) ≡ set (map (content runs) places) b (content runs p)
  settled_blocks =
      map_agree (content new) (content runs) (set places b p)
      (λ j d within. same_content runs new (get_or (set places b p) j d)
      (same_bytes j d (omega (arith, length-set places b p))))
      ∙ map-set (content runs) places b p

  -- the run in which it stands now has the same bytes
  pub settled_run : (k : ℕ) → is_in k p ≡ true → bytes_in (get new k) ≡ bytes_in (get runs k)
  settled_run k here =
      same_bytes b old inside k (ap (is_in k) (get_or-set_same places b p old inside) ∙ here)

-- a run that comes in, in which no block stands yet
module _ (places : List Place) (runs new : Slab Run) (key : ℕ) (run : Run) (kept : AreKept places runs)
    (vacant : get runs key ≡ None) (updates : Updates runs new key (Some run)) (unused : run.uses ≡ 0) where
  same_run : (k : ℕ) → uses_in (get new k) ≡ uses_in (get runs k)
  same_run k = elim (cases_eq k key) [
    | inl here ↦ rw (here, updates.changed, vacant) unused
    | inr other ↦ ap uses_in (updates.others k other)
  ]

  -- blocks stand in other runs
  elsewhere : (j : ℕ) (d : Place) → j < length places → (k : ℕ) → is_in k (get_or places j d) ≡ true
      → bytes_in (get new k) ≡ bytes_in (get runs k)
  elsewhere j d within k in_it = elim (cases_eq k key) [
    | inl here ↦ absurd (omega (
      arith,
      kept.counted k,
      standing_some places j k d within in_it,
      ap uses_in (ap (get runs) here ∙ vacant),
    ))
    | inr other ↦ ap bytes_in (updates.others k other)
  ]

  pub inserted_kept : AreKept places new
  inserted_kept = record {
    counted = λ k. same_run k ∙ kept.counted k;
    within = λ j d within. same_fit runs new (get_or places j d) (elsewhere j d within) (kept.within j d within);
    few = kept.few;
  }

  pub inserted_blocks : map (content new) places ≡ map (content runs) places
  inserted_blocks = map_agree (content new) (content runs) places
      (λ j d within. same_content runs new (get_or places j d) (elsewhere j d within))

-- the block of a number holds what its place holds
pub block_at-content : (places : List Place) (runs : Slab Run) (b : ℕ) (p : Place) → b < length places
    → p ≡ get_or places b p → block_at (map (content runs) places) b ≡ content runs p
block_at-content places runs b p within is =
    get_or-map (content runs) places b p [] within ∙ ap (content runs) (sym is)

-- all blocks are the shared block of one byte
pub new_blocks : (n byte : ℕ) (runs : Slab Run)
    → All (λ bytes. bytes ≡ filled byte) (map (content runs) (replicate n (Filled byte)))
new_blocks n byte runs =
    All-map (λ bytes. bytes ≡ filled byte) (content runs) (replicate n (Filled byte))
    (All-replicate (λ q. content runs q ≡ filled byte) n (Filled byte) refl)

-- one block more
pub overwrites_more : (old new : List (List ℕ)) (first i : ℕ) (bytes : ℕ → List ℕ) → Overwrites old new first i bytes
    → first + i < length new → Overwrites old (set new (first + i) (bytes i)) first (i + 1) bytes
overwrites_more old new first i bytes before within = record {
  size = length-set new (first + i) (bytes i) ∙ before.size;
  written = λ j below. elim (cases_eq j i) [
    | inl here ↦ rw here (get_or-set_same new (first + i) (bytes i) [] within)
    | inr other ↦ get_or-set_other new (first + i) (first + j) (bytes i) [] (λ same. other (omega (arith, same)))
        ∙ before.written j (omega (arith, other))
  ];
  others = λ b outside. get_or-set_other new (first + i) b (bytes i) []
      (λ same. elim outside [ inl below ↦ omega arith | inr above ↦ omega arith ])
      ∙ before.others b (elim outside [ inl below ↦ inl below | inr above ↦ inr (omega arith) ]);
}

pub overwrites_none : (old new : List (List ℕ)) (first : ℕ) (bytes : ℕ → List ℕ) → new ≡ old
    → Overwrites old new first 0 bytes
overwrites_none old new first bytes same = record {
  size = ap length same;
  written = λ i below. absurd (omega arith);
  others = λ b outside. ap (λ l. block_at l b) same;
}

pub overwrites_agree : (old new : List (List ℕ)) (first n : ℕ) (bytes same : ℕ → List ℕ)
    → ((i : ℕ) → i < n → bytes i ≡ same i) → Overwrites old new first n bytes → Overwrites old new first n same
overwrites_agree old new first n bytes same agree before =
    record { size = before.size; written = λ i below. before.written i below ∙ agree i below; others = before.others }

-- runs that were copied
abbrev pub IsCopy : Run → Run → Type 0
IsCopy run copy = (copy.bytes.items ≡ run.bytes.items) × (copy.uses ≡ run.uses)

slot_copied : (x y : Option Run) → IsSlotClone IsCopy x y → (bytes_in y ≡ bytes_in x) × (uses_in y ≡ uses_in x)
slot_copied None y same = rw same (refl, refl)
slot_copied (Some r) None same = absurd same
slot_copied (Some r) (Some s) same = same

pub runs_copied : (runs copy : Slab Run) → IsSlabClone IsCopy runs copy → (k : ℕ)
    → (bytes_in (get copy k) ≡ bytes_in (get runs k)) × (uses_in (get copy k) ≡ uses_in (get runs k))
runs_copied runs copy clone k = elim (cases_lt k (length runs.slots)) [
  | inl within ↦ slot_copied (get runs k) (get copy k)
      (AllZip-get_or (IsSlotClone IsCopy) runs.slots copy.slots k None None clone.slots within)
  | inr past ↦ rw (
    get_or_past runs.slots k None past,
    get_or_past copy.slots k None (omega (
      arith,
      past,
      length_all_zip (IsSlotClone IsCopy) runs.slots copy.slots clone.slots,
    )),
  ) (refl, refl)
]

module _ (places : List Place) (runs copy : Slab Run) (same : (k : ℕ)
    → (bytes_in (get copy k) ≡ bytes_in (get runs k)) × (uses_in (get copy k) ≡ uses_in (get runs k))) where
  pub copied_kept : AreKept places runs → AreKept places copy
  copied_kept kept = record {
    counted = λ k. (same k).1 ∙ kept.counted k;
    within = λ j d within. same_fit runs copy (get_or places j d) (λ k here. (same k).0) (kept.within j d within);
    few = kept.few;
  }

  pub copied_blocks : map (content copy) places ≡ map (content runs) places
  copied_blocks = map_agree (content copy) (content runs) places
      (λ j d within. same_content runs copy (get_or places j d) (λ k here. (same k).0))

-- more blocks may be made
pub backed_more : (places : List Place) (shared more : List (List ℕ))
    → ((byte : ℕ) → IsMade shared byte → IsMade more byte) → All (IsBacked shared) places → All (IsBacked more) places
backed_more places shared more still backed = λ j d within. one (get_or places j d) (backed j d within)
  where
    one : (p : Place) → IsBacked shared p → IsBacked more p
    one (Filled byte) made = still byte made
    one (Within at run) made = tt
