-- What the blocks of data hold before any event.
use Rattle.std.proofs.Common.{◌≡◌, ℕ, zero, suc, ◌+◌, ◌-◌, ◌<◌, ◌≤◌, List, [], ◌∷◌, slice_get, take, sum_by, unwrap_or, option_map, nat_lt, Bool, true, false, Option, Some, None, refl, arith, sym, ap, ◌∙◌, if◌then◌else◌}
use Rattle.std.proofs.lemmas.Bool.{cond-true, cond-false, le-ltb, lt-ltb, ltb-true}
use Rattle.std.proofs.lemmas.List.Sums.{sum_by-cons}
use Rattle.std.proofs.lemmas.Option.{same_Some}
use Rattle.split_types.specs.declared.ids.Serial.{Serial}
use Rattle.split_types.specs.declared.workload.Preset.{Preset}
use Rattle.split_types.specs.declared.workload.Workload.{Workload}
use Rattle.split_types.specs.Workloads.{pages_in, page_block, first_block}
use Rattle.split_types.specs.FileMaps.{mapped_block}
use Rattle.split_types.specs.PageBytes.{filled_page, fill_of, start_fill}
use Rattle.split_types.specs.DiskBytes.{preset_fill, start_metadata, start_block}
use Rattle.split_types.proofs.KeptLists.{case_false}

-- x is the block that page g of a preset file has at the start
pub record IsPresetPage (w : Workload) (s : Serial) (g x : ℕ) : Type 0 where
  pub page : g < pages_in w s.0
  pub block : x ≡ page_block w s.0 g

-- the pages that have blocks at the start are those of the preset files
mapped_start : (w : Workload) (s : Serial) (g x : ℕ) → mapped_block w [] s.0 g ≡ Some x → IsPresetPage w s g x
mapped_start w s g x at = by_test (nat_lt g (pages_in w s.0)) refl at
  where
    by_test : (b : Bool) → nat_lt g (pages_in w s.0) ≡ b → (if b then Some (page_block w s.0 g) else None) ≡ Some x
        → IsPresetPage w s g x
    by_test true is same = record {
      page = ltb-true g (pages_in w s.0) is;
      block = sym (same_Some (page_block w s.0 g) x same);
    }
    by_test false is same = absurd (cc)

-- the byte that is given for a place among the pages of some files is the fill of the file there
fill_at : (files : List Preset) (s g i : ℕ) (f : Preset) → slice_get files s ≡ Some f → g < f.pages
    → i ≡ sum_by (λ x. x.pages) (take s files) + g → preset_fill files i ≡ f.fill
fill_at [] s g i f at page place = absurd (cc)
fill_at (p ∷ ps) zero g i f at page place =
    let same : p ≡ f = same_Some p f at
    in let below : i < p.pages = omega (arith, page, place, ap (λ x. x.pages) same)
    in cond-true (nat_lt i p.pages) p.fill (preset_fill ps (i - p.pages)) (lt-ltb i p.pages below)
    ∙ ap (λ x. x.fill) same
fill_at (p ∷ ps) (suc s) g i f at page place =
    let sum = sum_by-cons (λ (x : Preset). x.pages) p (take s ps)
    in cond-false (nat_lt i p.pages) p.fill (preset_fill ps (i - p.pages))
    (le-ltb i p.pages (omega (arith, place, sum)))
    ∙ fill_at ps s g (i - p.pages) f at page (omega (arith, place, sum))

-- a block of data at the start
pub start_data : (w : Workload) (x : ℕ) → first_block w ≤ x
    → start_block w x ≡ filled_page (preset_fill w.files (x - first_block w))
start_data w x from =
    case_false (nat_lt x (first_block w)) (start_metadata w x) (filled_page (preset_fill w.files (x - first_block w)))
    (le-ltb x (first_block w) from)

-- the byte that is given for it
fill_start : (w : Workload) (s : Serial) (g x : ℕ) → IsPresetPage w s g x
    → preset_fill w.files (x - first_block w) ≡ start_fill w s.0 g
fill_start w s g x is = by_file (slice_get w.files s.0) refl
  where
    by_file : (o : Option Preset) → slice_get w.files s.0 ≡ o
        → preset_fill w.files (x - first_block w) ≡ start_fill w s.0 g
    by_file None none =
        let pages : pages_in w s.0 ≡ 0 = ap (λ o. unwrap_or (option_map (λ y. y.pages) o) 0) none
        in absurd (omega (arith, is.page, pages))
    by_file (Some f) at =
        let pages : pages_in w s.0 ≡ f.pages = ap (λ o. unwrap_or (option_map (λ y. y.pages) o) 0) at
        in let fill : fill_of w s.0 ≡ f.fill = ap (λ o. unwrap_or (option_map (λ y. y.fill) o) 0) at
        in fill_at w.files s.0 g (x - first_block w) f at (omega (arith, is.page, pages)) (omega (arith, is.block))
        ∙ sym (cond-true (nat_lt g (pages_in w s.0)) (fill_of w s.0) 0 (lt-ltb g (pages_in w s.0) is.page) ∙ fill)

-- the block of a page that has one
pub start_page : (w : Workload) (s : Serial) (g x : ℕ) → mapped_block w [] s.0 g ≡ Some x
    → start_block w x ≡ filled_page (start_fill w s.0 g)
start_page w s g x at =
    let is = mapped_start w s g x at
    in start_data w x (omega (arith, is.block)) ∙ ap filled_page (fill_start w s g x is)
