-- Lists that are made from a function of the place, and the files that were there at the start.
use Rattle.std.proofs.Common.{◌≡◌, ℕ, zero, suc, ◌+◌, ◌-◌, ◌<◌, ◌≤◌, List, [], ◌∷◌, ◌++◌, length, map, take, drop, slice_get, slice_index_or, true, false, ◌&&◌, Option, Some, None, refl, ap, sym, ◌∙◌, arith, nat_lt, nat_le, inl, inr, if◌then◌else◌}
use Rattle.std.specs.Prelude.{replicate, slice_set, sum_by}
use Rattle.std.specs.List.{range_with_len}
use Rattle.std.proofs.lemmas.Bool.{cases_eq, cases_lt, cond-true, cond-false, lt-ltb, le-ltb}
use Rattle.std.proofs.lemmas.Bool.Decides.{nat_tests}
use Rattle.std.proofs.lemmas.List.{get_or-set_same, get_or-set_other, length-set, length-append, length-take, length-drop, length-replicate, get_or-take, get_or-drop, get_or-replicate, get_or-append_right, get_or_append_left}
use Rattle.std.proofs.lemmas.List.FromFn.{length-map-range_with_len, get_or-map-range_with_len, fill_by_all}
use Rattle.std.proofs.lemmas.List.Sums.{sum_by-cons}
use Rattle.std.proofs.lemmas.Option.{same_Some}
use Rattle.split_types.specs.declared.workload.Preset.{Preset}
use Rattle.split_types.specs.LiveFiles.{LiveFile, Slots, run_of, unmapped, with_run, preset_file, preset_files}

-- ---- items
-- the item of a place
pub item_is : {X : Type 0} (f : ℕ → X) (n i : ℕ) (d : X) → i < n
    → slice_index_or (map f (range_with_len 0 n)) i d ≡ f i
item_is f n i d below = get_or-map-range_with_len f 0 n i i d below (omega arith)

-- where all items are the same
pub same_items : {X : Type 0} (f g : ℕ → X) (n : ℕ) (d : X) → ((k : ℕ) → k < n → g k ≡ f k)
    → map g (range_with_len 0 n) ≡ map f (range_with_len 0 n)
same_items f g n d each =
    fill_by_all f (map g (range_with_len 0 n)) n d (length-map-range_with_len g 0 n)
    (λ k below. item_is g n k d below ∙ each k below)

-- where one item changes
pub one_item : {X : Type 0} (f g : ℕ → X) (n i : ℕ) (x d : X) → i < n → g i ≡ x
    → ((k : ℕ) → k < n → (k ≡ i → ⊥) → g k ≡ f k)
    → slice_set (map f (range_with_len 0 n)) i x ≡ map g (range_with_len 0 n)
one_item f g n i x d within here others =
    let old = map f (range_with_len 0 n)
    in let long : length old ≡ n = length-map-range_with_len f 0 n
    in fill_by_all g (slice_set old i x) n d (length-set old i x ∙ long)
    (λ k below. elim (cases_eq k i) [
      | inl same ↦ ap (λ j. slice_index_or (slice_set old i x) j d) same
          ∙ get_or-set_same old i x d (omega (arith, within, long)) ∙ sym here ∙ ap g (sym same)
      | inr other ↦ get_or-set_other old i k x d other ∙ item_is f n k d below ∙ sym (others k below other)
    ])

-- ---- blocks
length-run_of : (first n : ℕ) → length (run_of first n) ≡ n
length-run_of first n = length-map-range_with_len {X = Option ℕ} (λ b. Some b) first n

-- none of the first n pages has a block
pub none_mapped : (f : ℕ → Option ℕ) (n : ℕ) → ((k : ℕ) → f k ≡ None) → map f (range_with_len 0 n) ≡ unmapped n
unfolding unmapped
none_mapped f n none =
    sym (fill_by_all f (replicate n None) n None (length-replicate {A = Option ℕ} n None)
    (λ k below. get_or-replicate {A = Option ℕ} n k None None below ∙ sym (none k)))

-- the block of a page after a run was mapped
abbrev pub block_in_run : ℕ → ℕ → ℕ → Option ℕ → ℕ → Option ℕ
block_in_run page n first had k = if nat_le page k && nat_lt k (page + n) then Some (first + (k - page)) else had

in_run : (page n first k : ℕ) (had : Option ℕ) → page ≤ k → k < page + n
    → block_in_run page n first had k ≡ Some (first + (k - page))
in_run page n first k had from to =
    let test : (nat_le page k && nat_lt k (page + n)) ≡ true = grind (arith, nat_tests)
    in cond-true (nat_le page k && nat_lt k (page + n)) (Some (first + (k - page))) had test

before_run : (page n first k : ℕ) (had : Option ℕ) → k < page → block_in_run page n first had k ≡ had
before_run page n first k had before =
    let test : (nat_le page k && nat_lt k (page + n)) ≡ false = grind (arith, nat_tests)
    in cond-false (nat_le page k && nat_lt k (page + n)) (Some (first + (k - page))) had test

after_run : (page n first k : ℕ) (had : Option ℕ) → page + n ≤ k → block_in_run page n first had k ≡ had
after_run page n first k had after =
    let test : (nat_le page k && nat_lt k (page + n)) ≡ false = grind (arith, nat_tests)
    in cond-false (nat_le page k && nat_lt k (page + n)) (Some (first + (k - page))) had test

pub run_item : (page n first : ℕ) (blocks : List (Option ℕ)) (k : ℕ) → page + n ≤ length blocks
    → slice_index_or (with_run page n first blocks) k None
    ≡ block_in_run page n first (slice_index_or blocks k None) k
run_item page n first blocks k fit =
    let had = slice_index_or blocks k None
    in let front = take page blocks
    in let run = run_of first n
    in let rest = drop (page + n) blocks
    in let short : length front ≡ page = omega (arith, length-take page blocks, fit)
    in let long : length (front ++ run) ≡ page + n =
    omega (arith, length-append front run, short, length-run_of first n)
    in let back : page + n ≤ k → page + n + (k - (page + n)) ≡ k = λ after. omega (arith, after)
    in elim (cases_lt k page) [
      | inl before ↦
          get_or_append_left (front ++ run) rest None k (omega (arith, long, before))
          ∙ get_or_append_left front run None k (omega (arith, short, before))
          ∙ get_or-take page blocks k None before ∙ sym (before_run page n first k had before)
      | inr from ↦ elim (cases_lt k (page + n)) [
        | inl to ↦
            get_or_append_left (front ++ run) rest None k (omega (arith, long, to))
            ∙ get_or-append_right front run page k None short from
            ∙ get_or-map-range_with_len {X = Option ℕ} (λ b. Some b) first n (k - page) (first + (k - page)) None
            (omega (arith, from, to)) refl
            ∙ sym (in_run page n first k had from to)
        | inr after ↦
            get_or-append_right (front ++ run) rest (page + n) k None long after
            ∙ get_or-drop (page + n) blocks (k - (page + n)) None
            ∙ ap (λ j. slice_index_or blocks j None) (back after)
            ∙ sym (after_run page n first k had after)
      ]
    ]

pub run_length : (page n first : ℕ) (blocks : List (Option ℕ)) → page + n ≤ length blocks
    → length (with_run page n first blocks) ≡ length blocks
run_length page n first blocks fit = omega (
  arith,
  length-append (take page blocks ++ run_of first n) (drop (page + n) blocks),
  length-append (take page blocks) (run_of first n),
  length-take page blocks,
  length-drop (page + n) blocks,
  length-run_of first n,
)

-- the first pages have the blocks from one on, and no other page has one
pub first_mapped : (f : ℕ → Option ℕ) (first pages n : ℕ) → pages ≤ n
    → ((k : ℕ) → f k ≡ (if nat_lt k pages then Some (first + k) else None))
    → map f (range_with_len 0 n) ≡ run_of first pages ++ unmapped (n - pages)
unfolding unmapped
first_mapped f first pages n few each =
    let run = run_of first pages
    in let rest : List (Option ℕ) = replicate (n - pages) None
    in let long : length (run ++ rest) ≡ n = omega (
      arith,
      length-append run rest,
      length-run_of first pages,
      length-replicate {A = Option ℕ} (n - pages) None,
    )
    in sym (fill_by_all f (run ++ rest) n None long (λ k below. elim (cases_lt k pages) [
      | inl within ↦
          get_or_append_left run rest None k (omega (arith, length-run_of first pages, within))
          ∙ get_or-map-range_with_len {X = Option ℕ} (λ b. Some b) first pages k (first + k) None within refl
          ∙ sym (cond-true (nat_lt k pages) (Some (first + k)) None (lt-ltb k pages within)) ∙ sym (each k)
      | inr past ↦
          get_or-append_right run rest pages k None (length-run_of first pages) past
          ∙ get_or-replicate {A = Option ℕ} (n - pages) (k - pages) None None (omega (arith, below, past))
          ∙ sym (cond-false (nat_lt k pages) (Some (first + k)) None (le-ltb k pages past)) ∙ sym (each k)
    ]))

-- ---- the preset files
pub length-presets : (s b : ℕ) (fs : List Preset) → length (preset_files s b fs) ≡ length fs
length-presets s b [] = refl
length-presets s b (f ∷ fs) = ap suc (length-presets (s + 1) (b + f.pages) fs)

some_preset : (s t b c : ℕ) (f g : Preset) → s ≡ t → b ≡ c → f ≡ g
    → ◌≡◌ {A = Option LiveFile} (Some (preset_file s b f)) (Some (preset_file t c g))
some_preset s t b c f g one two three =
    ap (λ n. Some (preset_file n b f)) one ∙ ap (λ n. Some (preset_file t n f)) two
    ∙ ap (λ x. Some (preset_file t c x)) three

-- the preset file of a place has the serial that many above the first, and its pages stand behind those before it
pub preset_at : (s b : ℕ) (fs : List Preset) (rest : Slots) (k : ℕ) (f : Preset) → slice_get fs k ≡ Some f
    → slice_index_or (preset_files s b fs ++ rest) k None
    ≡ Some (preset_file (s + k) (b + sum_by (λ x. x.pages) (take k fs)) f)
preset_at s b [] rest k f at = absurd (cc)
preset_at s b (p ∷ ps) rest zero f at =
    some_preset s (s + 0) b (b + 0) p f (omega arith) (omega arith) (same_Some p f at)
preset_at s b (p ∷ ps) rest (suc k) f at =
    preset_at (s + 1) (b + p.pages) ps rest k f at
    ∙ some_preset (s + 1 + k) (s + suc k) (b + p.pages + sum_by (λ (x : Preset). x.pages) (take k ps))
    (b + sum_by (λ (x : Preset). x.pages) (take (suc k) (p ∷ ps))) f f (omega arith)
    (omega (arith, sum_by-cons (λ (x : Preset). x.pages) p (take k ps))) refl
