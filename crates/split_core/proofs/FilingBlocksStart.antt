-- The blocks that are kept stand for the history before any event.
use Rattle.std.proofs.Common.{◌≡◌, ℕ, suc, ◌+◌, ◌-◌, ◌<◌, ◌≤◌, List, [], ◌∷◌, length, replicate, take, sum_by, slice_get, nat_le, nat_lt, Bool, true, false, not, ◌&&◌, ◌||◌, Some, refl, arith, sym, inl, inr, ap, ◌∙◌, unwrap_or, option_map, if◌then◌else◌}
use Rattle.std.proofs.lemmas.Bool.{cases_lt, or_left, false_from_ne_true, lt-ltb, le-leb}
use Rattle.std.proofs.lemmas.Bool.Decides.{nat_tests}
use Rattle.std.proofs.lemmas.List.{length-append, length-replicate, get_or-replicate}
use Rattle.std.proofs.lemmas.List.Sums.{sum_by-cons}
use Rattle.std.proofs.lemmas.Option.{slice_get-get_or, slice_get_within}
use Rattle.split_types.specs.declared.ids.Txn.{Txn}
use Rattle.split_types.specs.declared.workload.Preset.{Preset}
use Rattle.split_types.specs.declared.workload.Workload.{Workload}
use Rattle.split_types.specs.Workloads.{first_block, preset_pages, pages_in, page_block}
use Rattle.split_types.specs.FileMaps.{is_taken, is_waiting}
use Rattle.split_types.specs.MapsInOrder.{keeps_blocks}
use Rattle.split_types.specs.Accepted.{IsAccepted}
use Rattle.split_types.proofs.Shared.{slice_get-append_left, slice_get-append_right, file_within}
use Rattle.split_types.proofs.MapState.{MapsOf}
use Rattle.split_types.proofs.MapLaws.{maps_of}
use Rattle.delayed_alloc.specs.Blocks.{State, Free, Taken, Waiting, state_at, new_blocks}
use Rattle.split_core.specs.Filing.{BlocksAre, is_free_block, says_free}
use Rattle.split_core.proofs.FilingBlocksUsed.{taken_by, is_in_use, used_of}

-- ---- the states
replicated : (n k : ℕ) (s : State) → k < n → slice_get (replicate n s) k ≡ Some s
replicated n k s below =
    slice_get-get_or (replicate n s) k s (omega (arith, below, length-replicate n s))
    ∙ ap Some (get_or-replicate n k s s below)

start_taken : (device taken x : ℕ) → x < taken → state_at (new_blocks device taken) x ≡ Some Taken
start_taken device taken x below =
    slice_get-append_left (replicate taken Taken) (replicate (device - taken) Free) x
    (omega (arith, below, length-replicate taken Taken))
    ∙ replicated taken x Taken below

start_free : (device taken x : ℕ) → taken ≤ x → x < device → state_at (new_blocks device taken) x ≡ Some Free
start_free device taken x past below =
    slice_get-append_right (replicate taken Taken) (replicate (device - taken) Free) x (x - taken)
    (omega (arith, past, length-replicate taken Taken))
    ∙ replicated (device - taken) (x - taken) Free (omega (arith, past, below))

-- ---- the pages of preset files
-- the file and page at a place among all pages
record IsPlaceOf (files : List Preset) (i : ℕ) : Type 0 where
  file : ℕ
  page : ℕ
  there : file < length files
  within : page < unwrap_or (option_map (λ f. f.pages) (slice_get files file)) 0
  place : i ≡ sum_by (λ f. f.pages) (take file files) + page

place_of : (files : List Preset) (i : ℕ) → i < sum_by (λ f. f.pages) files → IsPlaceOf files i
place_of [] i below = absurd (omega (arith, below))
place_of (f ∷ files) i below = elim (cases_lt i f.pages) [
  | inl here ↦ record {
    file = 0;
    page = i;
    there = omega arith;
    within = here;
    place = omega arith;
  }
  | inr past ↦
      (let later = place_of files (i - f.pages)
      (omega (arith, past, below, sum_by-cons (λ g. g.pages) f files))
      in record {
        file = suc later.file;
        page = later.page;
        there = omega (arith, later.there);
        within = later.within;
        place = omega (arith, past, later.place, sum_by-cons (λ g. g.pages) f (take later.file files));
      })
]

-- a block of data is taken where it is one of theirs
start_in : (w : Workload) (x : ℕ) → IsAccepted w → first_block w ≤ x → x < first_block w + preset_pages w
    → is_taken w [] x ≡ true
start_in w x accepted from to =
    let at = place_of w.files (x - first_block w) (omega (arith, from, to))
    in let least : page_block w at.file 0 ≤ x = omega (arith, from, at.place)
    in let most : x < page_block w at.file 0 + pages_in w at.file = omega (arith, from, at.place, at.within)
    in taken_by w [] at.file x (maps_of w [] accepted tt) (lt-ltb at.file (length w.files) at.there)
    (grind (arith, nat_tests))

start_out : (w : Workload) (x : ℕ) → IsAccepted w → first_block w + preset_pages w ≤ x → is_in_use w [] x ≡ false
start_out w x accepted past = false_from_ne_true (is_in_use w [] x) (λ used. out (used_of w [] x used))
  where
    f : MapsOf w []
    f = maps_of w [] accepted tt

    live : (s : ℕ) → (nat_lt s (length w.files) || false) ≡ true → s < length w.files
    live s is = grind (arith, nat_tests)

    out : (s : ℕ) × (keeps_blocks w [] s ≡ true)
        × ((nat_le (page_block w s 0) x && nat_lt x (page_block w s 0 + pages_in w s)) ≡ true)
        → ⊥
    out at =
        let in_map = at.2
        in let within : (page_block w at.0 0 ≤ x) × (x < page_block w at.0 0 + pages_in w at.0) =
        grind (arith, nat_tests)
        in let kept = live at.0 (f.kept at.0 (f.blocks.of_map at.0 x at.2).0 x (f.blocks.of_map at.0 x at.2).1)
        in omega (arith, within.1, file_within w at.0 kept, past)

-- ---- what stands
first_most : (w : Workload) → 526 ≤ first_block w
first_most w = by_test (nat_lt w.version 2)
  where
    by_test : (b : Bool) → 526 ≤ (if b then 526 else 1318)
    by_test true = omega arith
    by_test false = omega arith

-- those of the preset files are taken
starts : (w : Workload) (taken : ℕ) → IsAccepted w → taken ≡ first_block w + preset_pages w
    → BlocksAre w (new_blocks w.device taken) []
starts w taken accepted is = record {
  count = count;
  free = λ x below. elim (cases_lt x taken) [
    | inl used ↦ ap says_free (start_taken w.device taken x used) ∙ sym (no_free x used)
    | inr past ↦
        ap says_free (start_free w.device taken x past below)
        ∙ sym (ap (λ b. nat_le (first_block w) x && not b) (start_out w x accepted (omega (arith, past, is)))
        ∙ and_yes (nat_le (first_block w) x) (le-leb (first_block w) x (omega (arith, past, is))))
  ];
  taken = λ x there. start_taken w.device taken x (before x there);
  waits = λ s x t going drop within. absurd (cc);
  gone = λ x t there. absurd (none_waits x t there);
  reserved = refl;
}
  where
    count : length (new_blocks w.device taken).states ≡ w.device
    count = omega (
      arith,
      length-append (replicate taken Taken) (replicate (w.device - taken) Free),
      length-replicate taken Taken,
      length-replicate (w.device - taken) Free,
      is,
      accepted.workload.presets.fit,
    )

    none_waits : (x : ℕ) (t : Txn) → state_at (new_blocks w.device taken) x ≡ Some (Waiting t) → ⊥
    none_waits x t there = elim (cases_lt x taken) [
      | inl used ↦
          (let both : Some (Waiting t) ≡ Some Taken = sym there ∙ start_taken w.device taken x used in cc)
      | inr past ↦
          (let below = slice_get_within (new_blocks w.device taken).states x (Waiting t) there
          in let both : Some (Waiting t) ≡ Some Free =
          sym there ∙ start_free w.device taken x past (omega (arith, below, count)) in cc)
    ]

    and_yes : (b : Bool) → b ≡ true → (b && true) ≡ true
    and_yes true is_so = refl
    and_yes false is_so = absurd (cc)

    and_no : (b : Bool) → (b && false) ≡ false
    and_no true = refl
    and_no false = refl

    no_free : (x : ℕ) → x < taken → is_free_block w [] x ≡ false
    no_free x below = elim (cases_lt x (first_block w)) [
      | inl less ↦
          (let past : nat_le (first_block w) x ≡ false = grind (arith, nat_tests)
          in ap (λ b. b && not (is_in_use w [] x)) past)
      | inr from ↦
          ap (λ b. nat_le (first_block w) x && not b)
          (or_left (is_taken w [] x) (is_waiting w [] x) (start_in w x accepted from (omega (arith, below, is))))
          ∙ and_no (nat_le (first_block w) x)
    ]

    before : (x : ℕ) → is_taken w [] x ≡ true → x < taken
    before x there = elim (cases_lt x taken) [
      | inl below ↦ below
      | inr past ↦
          absurd (let out = start_out w x accepted (omega (arith, past, is))
          in let used = or_left (is_taken w [] x) (is_waiting w [] x) there
          in let both : true ≡ false = sym used ∙ out in cc)
    ]

pub blocks_start : (w : Workload) → IsAccepted w
    → BlocksAre w (new_blocks w.device (526 + (first_block w - 526 + preset_pages w))) []
blocks_start w accepted =
    starts w (526 + (first_block w - 526 + preset_pages w)) accepted (omega (arith, first_most w))
