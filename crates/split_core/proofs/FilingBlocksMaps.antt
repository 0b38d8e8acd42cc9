-- The blocks that are kept stand for the history still, after a map.
use Rattle.std.proofs.Common.{◌≡◌, ℕ, zero, suc, ◌+◌, ◌-◌, ◌==◌, ◌<◌, ◌≤◌, List, ◌∷◌, length, filter, nat_le, nat_lt, Bool, true, false, not, ◌&&◌, ◌||◌, ◌⊎◌, Option, Some, None, is_none, refl, arith, sym, subst, inl, inr, ap, ◌∙◌, if◌then◌else◌}
use Rattle.std.specs.List.{range_with_len}
use Rattle.std.proofs.lemmas.Bool.{cases_Bool, cases_lt, cases_order, and_parts, or_cases, or_left, or_right, cond-true, cond-false, both_ways}
use Rattle.std.proofs.lemmas.Bool.Decides.{nat_tests}
use Rattle.std.proofs.lemmas.Option.{same_Some}
use Rattle.split_types.specs.declared.ids.Serial.{Serial}
use Rattle.split_types.specs.declared.ids.Slot.{Slot}
use Rattle.split_types.specs.declared.ids.Txn.{Txn}
use Rattle.split_types.specs.declared.buf.Buf.TheVariants.{Page}
use Rattle.split_types.specs.declared.workload.Workload.{Workload}
use Rattle.split_types.specs.declared.event.Event.{Event}
use Rattle.split_types.specs.declared.event.Event.TheVariants.{Map}
use Rattle.split_types.specs.History.{◌▹◌}
use Rattle.split_types.specs.Sets.{has}
use Rattle.split_types.specs.Workloads.{first_block}
use Rattle.split_types.specs.Files.{is_live}
use Rattle.split_types.specs.Pages.{is_dirty}
use Rattle.split_types.specs.FileMaps.{mapped_block, is_in_map, is_dropped, is_going, is_taken, is_waiting, free_blocks}
use Rattle.split_types.specs.FileMaps.{has_no_block, is_reserved, reserved_pages}
use Rattle.split_types.specs.MapsInOrder.{keeps_blocks}
use Rattle.split_types.specs.ServedRuns.{FreeRun, in_a_row, free_run_of}
use Rattle.split_types.specs.Writeback.{served_run}
use Rattle.split_types.specs.Accepted.{IsAccepted}
use Rattle.split_types.specs.Legal.{IsLegal}
use Rattle.split_types.proofs.Shared.{free_is, has-range, has-filter}
use Rattle.split_types.proofs.MapState.{ServesOf, MapsOf}
use Rattle.split_types.proofs.MapLaws.{maps_of}
use Rattle.split_types.proofs.PromisePages.{reserved_mapped}
use Rattle.delayed_alloc.specs.Blocks.{Blocks, Free, Taken, Waiting, state_at, IsLeastRun, TakesRun}
use Rattle.split_core.specs.Fits.{HaveBlocks, MapFits, Fits}
use Rattle.split_core.specs.Filing.{BlocksAre, says_free}
use Rattle.split_core.proofs.FilingBlocksWaits.{live_undropped, waits_still, going_same}
use Rattle.split_core.proofs.FilingBlocksUsed.{taken_by, taken_of, is_in_use, used_of, used_by, reserved_same, carried}
use Rattle.split_core.proofs.FilingBlocksFree.{free_state, state_there}

-- ---- the run that is taken
-- the first of the numbers of a range that pass is the least
least_first : (free : ℕ → Bool) (k n y asked : ℕ) (run : FreeRun)
    → free_run_of (filter free (range_with_len k n)) asked ≡ Some run
    → has (filter free (range_with_len k n)) y ≡ true → run.first ≤ y
least_first free k zero y asked run is there = absurd (cc)
least_first free k (suc n) y asked run is there = elim (cases_Bool (free k)) [
  | inl here ↦
      (let front : filter free (range_with_len k (suc n)) ≡ k ∷ filter free (range_with_len (k + 1) n) =
      cond-true (free k) (k ∷ filter free (range_with_len (k + 1) n)) (filter free (range_with_len (k + 1) n)) here
      in let first : k ≡ run.first =
      ap (λ r. r.first) (same_Some (record {
        first = k;
        n = in_a_row (k ∷ filter free (range_with_len (k + 1) n)) k asked;
      }) run (ap (λ l. free_run_of l asked) (sym front) ∙ is))
      in let within : (nat_le k y && nat_lt y (k + suc n)) ≡ true =
      sym (has-range k (suc n) y)
      ∙ (and_parts (has (range_with_len k (suc n)) y) (free y)
      (sym (has-filter free (range_with_len k (suc n)) y) ∙ there)).0
      in let least : k ≤ y = grind (arith, nat_tests)
      in omega (arith, first, least))
  | inr past ↦
      (let front : filter free (range_with_len k (suc n)) ≡ filter free (range_with_len (k + 1) n) =
      cond-false (free k) (k ∷ filter free (range_with_len (k + 1) n)) (filter free (range_with_len (k + 1) n)) past
      in least_first free (k + 1) n y asked run (ap (λ l. free_run_of l asked) (sym front) ∙ is)
      (ap (λ l. has l y) (sym front) ∙ there))
]

-- the run that is mapped is the one that is taken
pub map_is_least : (w : Workload) (h : List Event) (slot : Slot) (s : Serial) (g n block size : ℕ) (a : Blocks)
    → IsAccepted w → IsLegal w (h ▹ Map slot s g n block true size) → Fits w h (Map slot s g n block true size)
    → BlocksAre w a h → IsLeastRun a n block n
map_is_least w h slot s g n block size a accepted legal fits stands = record {
  some = fits.kind.kind.some;
  most = omega arith;
  free = λ x from to. free_state w h a x stands (at x from to);
  least = λ x is. least_first (λ y. not (is_in_use w h y)) (first_block w) (w.device - first_block w) x
      fits.kind.run.n (record { first = block; n = n }) fits.kind.kind.free (state_there w h a x stands is);
  longest = inl refl;
}
  where
    at : (x : ℕ) → block ≤ x → x < block + n → has (free_blocks w h) x ≡ true
    at x from to =
        ap (has (free_blocks w h)) {x = x} {y = block + (x - block)} (omega (arith, from))
        ∙ (free_is (free_blocks w h) fits.kind.run.n (record { first = block; n = n }) fits.kind.kind.free).each
        (x - block) (omega (arith, from, to))

-- and its blocks were promised
pub map_promised : (w : Workload) (h : List Event) (slot : Slot) (s : Serial) (g n block size : ℕ) (a : Blocks)
    → IsAccepted w → IsLegal w (h ▹ Map slot s g n block true size) → Fits w h (Map slot s g n block true size)
    → BlocksAre w a h → n ≤ a.reserved
map_promised w h slot s g n block size a accepted legal fits stands =
    omega (arith, fits.kind.kind.most, fits.kind.kind.enough, stands.reserved)

-- there is but one such run
as_long : (a : Blocks) (n first m block k : ℕ) → IsLeastRun a n first m → IsLeastRun a n block k → first ≡ block
    → m < k → ⊥
as_long a n first m block k one other same less = elim one.longest [
  | inl is ↦ omega (arith, is, less, other.most)
  | inr out ↦ out (other.free (first + m) (omega (arith, same)) (omega (arith, same, less)))
]

pub least_once : (a : Blocks) (n first m block k : ℕ) → IsLeastRun a n first m → IsLeastRun a n block k
    → (first ≡ block) × (m ≡ k)
least_once a n first m block k one other = (same, long)
  where
    same : first ≡ block
    same =
        let up = one.least block (other.free block (omega arith) (omega (arith, other.some)))
        in let down = other.least first (one.free first (omega arith) (omega (arith, one.some)))
        in omega (arith, up, down)

    long : m ≡ k
    long = elim (cases_order m k) [
      | inl is ↦ is
      | inr (inl less) ↦ absurd (as_long a n first m block k one other same less)
      | inr (inr more) ↦ absurd (as_long a n block k first m other one (sym same) more)
    ]

-- ---- a map of pages that had no blocks
none_is : (o : Option ℕ) → is_none o ≡ true → o ≡ None
none_is None is = refl
none_is (Some x) is = absurd (cc)

-- as many promises fewer
map_reserved : (w : Workload) (h : List Event) (slot : Slot) (s : Serial) (g n block size : ℕ) → IsAccepted w
    → IsLegal w h → MapFits w h slot s g n block true size
    → length (reserved_pages w (h ▹ Map slot s g n block true size)) + n ≡ length (reserved_pages w h)
map_reserved w h slot s g n block size accepted legal m =
    subst (λ t. length (reserved_pages w (h ▹ Map slot t g n block true size)) + n ≡ length (reserved_pages w h))
    (sym m.serial)
    (subst (λ p. length (reserved_pages w (h ▹ Map slot m.run.serial p n block true size)) + n
    ≡ length (reserved_pages w h)) (sym m.page)
    (reserved_mapped w h slot m.run n block true size serves live none m.kind.most))
  where
    serves : ServesOf w h m.run
    serves = (maps_of w h accepted legal).served m.run (ap served_run m.served)

    live : is_live w h m.run.serial.0 ≡ true
    live = subst (λ t. is_live w h t.0 ≡ true) m.serial m.file.live

    promised : is_reserved w h (Page m.run.serial (m.run.page + 0)) ≡ true
    promised = m.kind.promised 0 (omega (arith, m.kind.some, m.kind.most))

    none : mapped_block w h m.run.serial.0 m.run.page ≡ None
    none =
        ap (mapped_block w h m.run.serial.0) {x = m.run.page} {y = m.run.page + 0} (omega arith)
        ∙ none_is (mapped_block w h m.run.serial.0 (m.run.page + 0))
        (and_parts (is_dirty w h (Page m.run.serial (m.run.page + 0)))
        (has_no_block w h (Page m.run.serial (m.run.page + 0))) promised).1

-- the block is one of the map's
abbrev is_mapped : ℕ → ℕ → ℕ → Bool
is_mapped block n x = nat_le block x && nat_lt x (block + n)

same_tests : (a b : Bool) → (a ≡ true → b ≡ true) → (b ≡ true → a ≡ true) → a ≡ b
same_tests true b there back = sym (there refl)
same_tests false true there back = back refl
same_tests false false there back = refl

maps_run : (w : Workload) (h : List Event) (slot : Slot) (s : Serial) (g n block size : ℕ) (old new : Blocks)
    → IsAccepted w → IsLegal w (h ▹ Map slot s g n block true size) → Fits w h (Map slot s g n block true size)
    → BlocksAre w old h → IsLeastRun old n block n → TakesRun old new block n
    → BlocksAre w new (h ▹ Map slot s g n block true size)
maps_run w h slot s g n block size old new accepted legal fits stands least takes = record {
  count = takes.blocks ∙ stands.count;
  free = λ x below. elim (cases_Bool (is_mapped block n x)) [
    | inl within ↦
        ap says_free (new_at x within)
        ∙ sym (ap (λ b. nat_le (first_block w) x && not b) (or_left (is_taken w later x) (is_waiting w later x)
        (taken_by w later s.0 x after fits.kind.file.live (new_in x within)))
        ∙ and_no (nat_le (first_block w) x))
    | inr outside ↦
        ap says_free (takes.others x (apart x outside)) ∙ stands.free x below
        ∙ ap (λ b. nat_le (first_block w) x && not b) (used_same x outside)
  ];
  taken = λ x is. elim (cases_Bool (is_mapped block n x)) [
    | inl within ↦ new_at x within
    | inr outside ↦
        (let at = taken_of w later x is
        in takes.others x (apart x outside)
        ∙ stands.taken x (taken_by w h at.0 x before at.1 (old_in at.0 x outside at.2)))
  ];
  waits = λ u x t is drop within. waited x t
      (stands.waits u x t (sym (going u) ∙ is) drop (going_in u x (sym (going u) ∙ is) within))
      (cases_Bool (is_mapped block n x));
  gone = λ x t is. still x t (cases_Bool (is_mapped block n x)) is;
  reserved = omega (
    arith,
    takes.promised,
    stands.reserved,
    map_reserved w h slot s g n block size accepted legal.1 fits.kind,
  );
}
  where
    later : List Event
    later = h ▹ Map slot s g n block true size

    before : MapsOf w h
    before = maps_of w h accepted legal.1

    after : MapsOf w (h ▹ Map slot s g n block true size)
    after = maps_of w (h ▹ Map slot s g n block true size) accepted legal

    and_no : (b : Bool) → (b && false) ≡ false
    and_no true = refl
    and_no false = refl

    new_at : (x : ℕ) → is_mapped block n x ≡ true → state_at new x ≡ Some Taken
    new_at x within =
        let bounds : (block ≤ x) × (x < block + n) = grind (arith, nat_tests) in takes.run x bounds.0 bounds.1

    apart : (x : ℕ) → is_mapped block n x ≡ false → (x < block) ⊎ (block + n ≤ x)
    apart x outside = elim (cases_lt x block) [
      | inl less ↦ inl less
      | inr from ↦ elim (cases_lt x (block + n)) [
        | inl below ↦ absurd (both_ways (is_mapped block n x) outside (grind (arith, nat_tests)))
        | inr past ↦ inr past
      ]
    ]

    new_in : (x : ℕ) → is_mapped block n x ≡ true
        → ((s.0 == s.0 && nat_le block x && nat_lt x (block + n)) || is_in_map w h s.0 x) ≡ true
    new_in x within =
        or_left (s.0 == s.0 && nat_le block x && nat_lt x (block + n)) (is_in_map w h s.0 x)
        (let bounds : (block ≤ x) × (x < block + n) = grind (arith, nat_tests) in grind (arith, nat_tests))

    old_in : (t x : ℕ) → is_mapped block n x ≡ false
        → ((s.0 == t && nat_le block x && nat_lt x (block + n)) || is_in_map w h t x) ≡ true
        → is_in_map w h t x ≡ true
    old_in t x outside is =
        elim (or_cases (s.0 == t && nat_le block x && nat_lt x (block + n)) (is_in_map w h t x) is) [
          | inl new ↦ absurd (both_ways (is_mapped block n x) outside (grind (arith, nat_tests)))
          | inr old ↦ old
        ]

    going : (u : ℕ) → is_going (h ▹ Map slot s g n block true size) u ≡ is_going h u
    going = going_same h (h ▹ Map slot s g n block true size)
        (record { dropped = λ u. refl; takers = λ u. refl; committed = λ u. refl })

    keeps : (u : ℕ) → keeps_blocks w (h ▹ Map slot s g n block true size) u ≡ keeps_blocks w h u
    keeps u = ap (λ b. is_live w h u || b) (going u)

    -- the map of a file that was dropped stays, since this file is there
    going_in : (u x : ℕ) → is_going h u ≡ true
        → ((s.0 == u && nat_le block x && nat_lt x (block + n)) || is_in_map w h u x) ≡ true
        → is_in_map w h u x ≡ true
    going_in u x gone is =
        elim (or_cases (s.0 == u && nat_le block x && nat_lt x (block + n)) (is_in_map w h u x) is) [
          | inl new ↦
              (let same : s.0 ≡ u = grind (arith, nat_tests)
              in absurd (live_undropped w h u accepted legal.1
              (subst (λ m. is_live w h m ≡ true) same fits.kind.file.live) (and_parts (is_dropped h u) _ gone).0))
          | inr old ↦ old
        ]

    -- a block that waits isn't one of the map
    waited : (x : ℕ) (t : Txn) → state_at old x ≡ Some (Waiting t)
        → (is_mapped block n x ≡ true) ⊎ (is_mapped block n x ≡ false) → state_at new x ≡ Some (Waiting t)
    waited x t is (inr outside) = takes.others x (apart x outside) ∙ is
    waited x t is (inl within) =
        let bounds : (block ≤ x) × (x < block + n) = grind (arith, nat_tests)
        in absurd (let both : Some (Waiting t) ≡ Some Free = sym is ∙ least.free x bounds.0 bounds.1 in cc)

    still : (x : ℕ) (t : Txn) → (is_mapped block n x ≡ true) ⊎ (is_mapped block n x ≡ false)
        → state_at new x ≡ Some (Waiting t) → is_waiting w (h ▹ Map slot s g n block true size) x ≡ true
    still x t (inl within) is =
        absurd (let both : Some (Waiting t) ≡ Some Taken = sym is ∙ new_at x within in cc)
    still x t (inr outside) is =
        waits_still w h (h ▹ Map slot s g n block true size) x after
        (λ u gone within. (
          going u ∙ gone,
          or_right (s.0 == u && nat_le block x && nat_lt x (block + n)) (is_in_map w h u x) within,
        ))
        (stands.gone x t (sym (takes.others x (apart x outside)) ∙ is))

    used_same : (x : ℕ) → is_mapped block n x ≡ false
        → is_in_use w h x ≡ is_in_use w (h ▹ Map slot s g n block true size) x
    used_same x outside =
        same_tests (is_in_use w h x) (is_in_use w (h ▹ Map slot s g n block true size) x)
        (λ used. (let at = used_of w h x used
        in used_by w (h ▹ Map slot s g n block true size) at.0 x after (keeps at.0 ∙ at.1)
        (or_right (s.0 == at.0 && nat_le block x && nat_lt x (block + n)) (is_in_map w h at.0 x) at.2)))
        (λ used. (let at = used_of w (h ▹ Map slot s g n block true size) x used
        in used_by w h at.0 x before (sym (keeps at.0) ∙ at.1) (old_in at.0 x outside at.2)))

pub blocks_map : (w : Workload) (h : List Event) (slot : Slot) (s : Serial) (g n block size : ℕ) (old new : Blocks)
    (first m : ℕ)
    → IsAccepted w → IsLegal w (h ▹ Map slot s g n block true size) → Fits w h (Map slot s g n block true size)
    → BlocksAre w old h → IsLeastRun old n first m → TakesRun old new first m
    → BlocksAre w new (h ▹ Map slot s g n block true size)
blocks_map w h slot s g n block size old new first m accepted legal fits stands least takes =
    let is = map_is_least w h slot s g n block size old accepted legal fits stands
    in let same = least_once old n first m block n least is
    in maps_run w h slot s g n block size old new accepted legal fits stands is
    (subst (λ k. TakesRun old new block k) same.1 (subst (λ b. TakesRun old new b m) same.0 takes))

-- ---- a map of pages that keep their blocks
pub blocks_map_old : (w : Workload) (h : List Event) (slot : Slot) (s : Serial) (g n block size : ℕ) (a : Blocks)
    → IsAccepted w → IsLegal w (h ▹ Map slot s g n block false size) → Fits w h (Map slot s g n block false size)
    → BlocksAre w a h → BlocksAre w a (h ▹ Map slot s g n block false size)
blocks_map_old w h slot s g n block size a accepted legal fits stands =
    carried w h (Map slot s g n block false size) a a accepted legal refl same (λ t x within. refl)
    (record { dropped = λ t. refl; takers = λ t. refl; committed = λ t. refl })
    (stands.reserved ∙ sym (reserved_same w h (Map slot s g n block false size) promised)) stands
  where
    f : MapsOf w h
    f = maps_of w h accepted legal.1

    blocks : HaveBlocks w h s g n block
    blocks =
        subst (λ t. HaveBlocks w h t g n block) (sym fits.kind.serial)
        (subst (λ p. HaveBlocks w h fits.kind.run.serial p n block) (sym fits.kind.page) fits.kind.kind)

    -- a block of the map stood in it
    same : (t x : ℕ)
        → ((s.0 == t && nat_le block x && nat_lt x (block + n)) || is_in_map w h t x) ≡ is_in_map w h t x
    same t x = by_test (s.0 == t && nat_le block x && nat_lt x (block + n)) refl
      where
        by_test : (b : Bool) → (s.0 == t && nat_le block x && nat_lt x (block + n)) ≡ b
            → (b || is_in_map w h t x) ≡ is_in_map w h t x
        by_test false is = refl
        by_test true is =
            let within : (s.0 ≡ t) × (block ≤ x) × (x < block + n) = grind (arith, nat_tests)
            in let at : block + (x - block) ≡ x = omega (arith, within.1)
            in let old : is_in_map w h s.0 (block + (x - block)) ≡ true =
            f.blocks.in_map s.0 (g + (x - block)) (block + (x - block))
            (blocks.place (x - block) (omega (arith, within.1, within.2)))
            in sym (subst (λ u. is_in_map w h u x ≡ true) within.0
            (subst (λ y. is_in_map w h s.0 y ≡ true) at old))

    -- a page of the map had a block
    promised : (t : Serial) (k : ℕ)
        → (is_dirty w h (Page t k)
        && is_none (if s.0 == t.0 && nat_le g k && nat_lt k (g + n) then Some (block + (k - g)) else mapped_block w h
        t.0 k))
        ≡ (is_dirty w h (Page t k) && is_none (mapped_block w h t.0 k))
    promised t k = by_test (s.0 == t.0 && nat_le g k && nat_lt k (g + n)) refl
      where
        by_test : (b : Bool) → (s.0 == t.0 && nat_le g k && nat_lt k (g + n)) ≡ b
            → (is_dirty w h (Page t k) && is_none (if b then Some (block + (k - g)) else mapped_block w h t.0 k))
            ≡ (is_dirty w h (Page t k) && is_none (mapped_block w h t.0 k))
        by_test false is = refl
        by_test true is =
            let within : (s.0 ≡ t.0) × (g ≤ k) × (k < g + n) = grind (arith, nat_tests)
            in let at : g + (k - g) ≡ k = omega (arith, within.1)
            in let there : mapped_block w h t.0 k ≡ Some (block + (k - g)) =
            subst (λ u. mapped_block w h u k ≡ Some (block + (k - g))) within.0
            (subst (λ j. mapped_block w h s.0 j ≡ Some (block + (k - g))) at
            (blocks.place (k - g) (omega (arith, within.1, within.2))))
            in ap (λ o. is_dirty w h (Page t k) && is_none o) (sym there)
