-- What is known of the maps of files at the start.
use Rattle.std.proofs.Common.{◌≡◌, ℕ, ◌+◌, ◌<◌, ◌≤◌, [], length, slice_get, option_map, unwrap_or, nat_lt, nat_le, Bool, true, false, ◌&&◌, ◌||◌, Option, Some, None, refl, arith, sym, ◌∙◌, ap, if◌then◌else◌, ◌-◌}
use Rattle.std.proofs.lemmas.Bool.{cond-true, lt-ltb}
use Rattle.std.proofs.lemmas.Bool.Decides.{nat_tests}
use Rattle.std.proofs.lemmas.Option.{slice_get_within, same_Some}
use Rattle.split_types.specs.declared.workload.Preset.{Preset}
use Rattle.split_types.specs.declared.workload.Workload.{Workload}
use Rattle.split_types.specs.Workloads.{pages_in, page_block}
use Rattle.split_types.specs.FileMaps.{mapped_block, is_in_map}
use Rattle.split_types.specs.IsWorkload.{IsPreset}
use Rattle.split_types.specs.Accepted.{IsAccepted}
use Rattle.split_types.proofs.Lists.{all_at}
use Rattle.split_types.proofs.PageLaws.{page_index_within, page_index-apart}
use Rattle.split_types.proofs.MapBlocks.{AreBlocks}
use Rattle.split_types.proofs.MapState.{keeps_of, MapsOf}

-- a page that has a block is one of a preset file, and that is its place
record IsAtStart (w : Workload) (s g x : ℕ) : Type 0 where
  file : s < length w.files
  page : g < pages_in w s
  most : pages_in w s ≤ 1008
  block : x ≡ page_block w s g

at_start : (w : Workload) (s g x : ℕ) → IsAccepted w → mapped_block w [] s g ≡ Some x → IsAtStart w s g x
at_start w s g x accepted at = by_test (nat_lt g (pages_in w s)) refl at
  where
    by_file : (o : Option Preset) → slice_get w.files s ≡ o → g < unwrap_or (option_map (λ f. f.pages) o) 0
        → (s < length w.files) × (unwrap_or (option_map (λ f. f.pages) o) 0 ≤ 1008)
    by_file None is page = absurd (omega (arith, page))
    by_file (Some f) is page = (
      slice_get_within w.files s f is,
      (all_at IsPreset w.files s f accepted.workload.presets.each is).pages_most,
    )

    by_test : (b : Bool) → nat_lt g (pages_in w s) ≡ b → (if b then Some (page_block w s g) else None) ≡ Some x
        → IsAtStart w s g x
    by_test true is same =
        let within : g < pages_in w s = grind (arith, nat_tests) in
        let file = by_file (slice_get w.files s) refl within in
        record { file = file.0; page = within; most = file.1; block = sym (same_Some (page_block w s g) x same) }
    by_test false is same = absurd (cc)

blocks_start : (w : Workload) → IsAccepted w
    → AreBlocks w (λ s g. mapped_block w [] s g) (λ s x. is_in_map w [] s x) (keeps_of w [])
blocks_start w accepted = record {
  page = λ s g x at. (let is = at_start w s g x accepted at in omega (arith, is.page, is.most));
  from = λ s g x at. (let is = at_start w s g x accepted at in omega (arith, is.block));
  to = λ s g x at.
      (let is = at_start w s g x accepted at in
      omega (arith, is.block, page_index_within w s g is.file is.page, accepted.workload.presets.fit));
  apart = λ s t g k x at there keeps also.
      (let one = at_start w s g x accepted at in
      let other = at_start w t k x accepted there in
      page_index-apart w (record { 0 = s }) g (record { 0 = t }) k one.file one.page other.file other.page
      (omega (arith, one.block, other.block)));
  in_map = λ s g x at. within s g x (at_start w s g x accepted at);
  of_map = λ s x is. there s x is;
}
  where
    within : (s g x : ℕ) → IsAtStart w s g x
        → (nat_le (page_block w s 0) x && nat_lt x (page_block w s 0 + pages_in w s)) ≡ true
    within s g x is =
        let least : page_block w s 0 ≤ x = omega (arith, is.block) in
        let most : x < page_block w s 0 + pages_in w s = omega (arith, is.block, is.page) in
        grind (arith, nat_tests)

    there : (s x : ℕ) → (nat_le (page_block w s 0) x && nat_lt x (page_block w s 0 + pages_in w s)) ≡ true
        → (g : ℕ) × (mapped_block w [] s g ≡ Some x)
    there s x is =
        let bounds : (page_block w s 0 ≤ x) × (x < page_block w s 0 + pages_in w s) = grind (arith, nat_tests) in
        let page : ℕ = x - page_block w s 0 in
        let below : page < pages_in w s = omega (arith, bounds.0, bounds.1) in
        let same : page_block w s page ≡ x = omega (arith, bounds.0) in (
          page,
          cond-true (nat_lt page (pages_in w s)) (Some (page_block w s page)) None (lt-ltb page (pages_in w s) below)
              ∙ ap Some same,
        )

pub maps_start : (w : Workload) → IsAccepted w → MapsOf w []
maps_start w accepted = record {
  blocks = blocks_start w accepted;
  kept = λ s g x at. kept s (at_start w s g x accepted at).file;
  numbered = λ s is. numbered s is;
  put = λ s g is. absurd (cc);
  served = λ run at. absurd (cc);
  mapped = λ run at. absurd (cc);
}
  where
    kept : (s : ℕ) → s < length w.files → (nat_lt s (length w.files) || false) ≡ true
    kept s below = ap (λ b. b || false) (lt-ltb s (length w.files) below)

    numbered : (s : ℕ) → (nat_lt s (length w.files) || false) ≡ true → s < length w.files + 0
    numbered s is = grind (arith, nat_tests)
