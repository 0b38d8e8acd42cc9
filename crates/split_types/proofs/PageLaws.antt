-- Each page of the preset files stands once among all pages, at its own place.
use Rattle.std.proofs.Common.{◌≡◌, ℕ, zero, suc, ◌+◌, ◌<◌, ◌≤◌, List, [], ◌∷◌, length, slice_get, take, sum_by, Some, refl, arith, sym, inl, inr, ◌∙◌, ap, unwrap_or, option_map}
use Rattle.std.proofs.lemmas.List.FromFn.{length-map-range_with_len}
use Rattle.std.proofs.lemmas.List.Sums.{sum_by-cons, sum_by_more_le}
use Rattle.std.proofs.lemmas.Option.{slice_get_cases}
use Rattle.split_types.proofs.Lists.{slice_get-append_left, slice_get-append_right}
use Rattle.split_types.specs.declared.ids.Serial.{Serial}
use Rattle.split_types.specs.declared.buf.Buf.TheVariants.{Page}
use Rattle.split_types.specs.declared.workload.Preset.{Preset}
use Rattle.split_types.specs.declared.workload.Workload.{Workload}
use Rattle.split_types.specs.Parents.{pages_of}
use Rattle.split_types.specs.Workloads.{pages_in, page_index, pages_from, all_pages, preset_pages}

-- ---- the pages of one file
pub page_at : (s : Serial) (g n i : ℕ) → i < n → slice_get (pages_of s g n) i ≡ Some (Page s (g + i))
page_at s g zero i h = absurd (omega arith)
page_at s g (suc n) zero h = ap (λ k. Some (Page s k)) (omega arith)
page_at s g (suc n) (suc i) h = page_at s (g + 1) n i (omega arith) ∙ ap (λ k. Some (Page s k)) (omega arith)

pub length-pages_of : (s : Serial) (g n : ℕ) → length (pages_of s g n) ≡ n
length-pages_of s g n = length-map-range_with_len (Page s) g n

-- ---- the pages of some files
-- the number of pages of all of them, and of the one at a place
pages_sum : List Preset → ℕ
pages_sum files = sum_by (λ f. f.pages) files

pages_at : List Preset → ℕ → ℕ
pages_at files s = unwrap_or (option_map (λ f. f.pages) (slice_get files s)) 0

pages_sum-cons : (f : Preset) (fs : List Preset) → pages_sum (f ∷ fs) ≡ f.pages + pages_sum fs
unfolding pages_sum
pages_sum-cons f fs = sum_by-cons (λ h. h.pages) f fs

pages_sum-nil : pages_sum [] ≡ 0
unfolding pages_sum
pages_sum-nil = refl

pages_at-zero : (f : Preset) (fs : List Preset) → pages_at (f ∷ fs) 0 ≡ f.pages
unfolding pages_at
pages_at-zero f fs = refl

pages_at-suc : (f : Preset) (fs : List Preset) (s : ℕ) → pages_at (f ∷ fs) (suc s) ≡ pages_at fs s
unfolding pages_at
pages_at-suc f fs s = refl

same : (j k g h : ℕ) → j ≡ k → g ≡ h → Some (Page (record { 0 = j }) g) ≡ Some (Page (record { 0 = k }) h)
same j k g h p q = cc

from_at : (k : ℕ) (files : List Preset) (s g i : ℕ) → s < length files → g < pages_at files s
    → i ≡ pages_sum (take s files) + g
    → slice_get (pages_from k files) i ≡ Some (Page (record { 0 = k + s }) g)
from_at k [] s g i file page index = absurd (omega arith)
from_at k (f ∷ fs) zero g i file page index =
    slice_get-append_left (pages_of (record { 0 = k }) 0 f.pages) (pages_from (k + 1) fs) i
    (omega (arith, length-pages_of (record { 0 = k }) 0 f.pages, pages_at-zero f fs, pages_sum-nil))
    ∙ page_at (record { 0 = k }) 0 f.pages i (omega (arith, pages_at-zero f fs, pages_sum-nil))
    ∙ same k (k + 0) (0 + i) g (omega arith) (omega (arith, pages_sum-nil))
from_at k (f ∷ fs) (suc s) g i file page index =
    slice_get-append_right (pages_of (record { 0 = k }) 0 f.pages) (pages_from (k + 1) fs) i
    (pages_sum (take s fs) + g)
    (omega (arith, length-pages_of (record { 0 = k }) 0 f.pages, pages_sum-cons f (take s fs)))
    ∙ from_at (k + 1) fs s g (pages_sum (take s fs) + g) (omega arith) (omega (arith, pages_at-suc f fs s)) refl
    ∙ same (k + 1 + s) (k + suc s) g g (omega arith) refl

-- ---- the pages of a workload
-- the pages of the files before one, and its pages, are within all pages
pub file_within : (w : Workload) (s : ℕ) → s < length w.files → page_index w s 0 + pages_in w s ≤ preset_pages w
file_within w s file = elim (slice_get_cases w.files s).1 [
  | inl found ↦ let at : slice_get w.files s ≡ Some found.0 = found.2 in
      rw at (omega (arith, sum_by_more_le (λ f. f.pages) w.files s found.0 file, ap (λ f. f.pages) found.3))
  | inr past ↦ absurd (omega arith)
]

pub page_index_within : (w : Workload) (s g : ℕ) → s < length w.files → g < pages_in w s
    → page_index w s g < preset_pages w
page_index_within w s g file page = omega (arith, file_within w s file)

pub page_stands : (w : Workload) (s : Serial) (g : ℕ) → s.0 < length w.files → g < pages_in w s.0
    → slice_get (all_pages w) (page_index w s.0 g) ≡ Some (Page s g)
unfolding pages_sum pages_at
page_stands w s g file page =
    from_at 0 w.files s.0 g (page_index w s.0 g) file page (omega arith) ∙ same (0 + s.0) s.0 g g (omega arith) refl

-- two pages at one place are one
pub page_index-apart : (w : Workload) (s : Serial) (g : ℕ) (t : Serial) (k : ℕ) → s.0 < length w.files
    → g < pages_in w s.0 → t.0 < length w.files → k < pages_in w t.0
    → page_index w s.0 g ≡ page_index w t.0 k → (s.0 ≡ t.0) × (g ≡ k)
page_index-apart w s g t k file page file' page' e =
    one s t g k (sym (page_stands w s g file page) ∙ ap (slice_get (all_pages w)) e ∙ page_stands w t k file' page')
  where
    one : (s t : Serial) (g k : ℕ) → Some (Page s g) ≡ Some (Page t k) → (s.0 ≡ t.0) × (g ≡ k)
    one s t g k e = (cc, cc)
