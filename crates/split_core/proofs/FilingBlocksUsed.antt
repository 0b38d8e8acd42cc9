-- Which blocks are taken and which are free, by the maps of files; and what is kept of blocks after an event that leaves
-- the maps as they were.
use Rattle.std.proofs.Common.{◌≡◌, ℕ, ◌+◌, ◌-◌, ◌<◌, ◌≤◌, List, length, slice_get, nat_le, nat_lt, Bool, true, false, not, ◌&&◌, ◌||◌, ◌⊎◌, Some, refl, arith, sym, inl, inr, ap, ◌∙◌}
use Rattle.std.specs.List.{range_with_len}
use Rattle.std.proofs.lemmas.Bool.{cases_Bool, and_parts, and_from, or_cases, or_left, or_right, lt-ltb}
use Rattle.std.proofs.lemmas.Bool.Decides.{nat_tests}
use Rattle.split_types.specs.declared.ids.Serial.{Serial}
use Rattle.split_types.specs.declared.buf.Buf.{Buf}
use Rattle.split_types.specs.declared.buf.Buf.TheVariants.{Page}
use Rattle.split_types.specs.declared.workload.Workload.{Workload}
use Rattle.split_types.specs.declared.event.Event.{Event}
use Rattle.split_types.specs.History.{◌▹◌}
use Rattle.split_types.specs.Sets.{has}
use Rattle.split_types.specs.Workloads.{first_block}
use Rattle.split_types.specs.Files.{is_live}
use Rattle.split_types.specs.Pages.{is_dirty, is_busy}
use Rattle.split_types.specs.HeldPages.{known_pages}
use Rattle.split_types.specs.FileMaps.{mapped_block, is_in_map, serials, is_going, is_taken, is_waiting, free_blocks}
use Rattle.split_types.specs.FileMaps.{has_no_block, is_reserved, reserved_pages}
use Rattle.split_types.specs.FilesInOrder.{all_files}
use Rattle.split_types.specs.MapsInOrder.{keeps_blocks}
use Rattle.split_types.specs.Accepted.{IsAccepted}
use Rattle.split_types.specs.Legal.{IsLegal}
use Rattle.split_types.proofs.Shared.{list_any_here, find_some, has-filter, has-range, pages_are_known, StandsIn}
use Rattle.split_types.proofs.Shared.{lengths_same}
use Rattle.split_types.proofs.MapState.{MapsOf, keeps_of, keeps_is}
use Rattle.split_types.proofs.MapLaws.{maps_of}
use Rattle.split_types.proofs.PromiseFree.{free_stays}
use Rattle.delayed_alloc.specs.Blocks.{Blocks, state_at}
use Rattle.split_core.specs.Filing.{BlocksAre, is_free_block, says_free}
use Rattle.split_core.proofs.FilingBlocksWaits.{range_at, waits_by, waits_of, waits_still, SameDrops, going_same}

-- ---- blocks that are taken
-- a block in the map of a file that is there
pub taken_by : (w : Workload) (h : List Event) (s x : ℕ) → MapsOf w h → is_live w h s ≡ true
    → is_in_map w h s x ≡ true → is_taken w h x ≡ true
taken_by w h s x f live within =
    list_any_here (λ t. is_live w h t && is_in_map w h t x) (serials w h) s s
    (range_at (all_files w h) s (f.numbered s (or_left (is_live w h s) _ live)))
    (and_from (is_live w h s) (is_in_map w h s x) live within)

pub taken_of : (w : Workload) (h : List Event) (x : ℕ) → is_taken w h x ≡ true
    → (s : ℕ) × (is_live w h s ≡ true) × (is_in_map w h s x ≡ true)
taken_of w h x taken =
    let found = find_some (λ s. is_live w h s && is_in_map w h s x) (serials w h) taken
    in let both = and_parts (is_live w h found.element) (is_in_map w h found.element x) found.passes
    in (found.element, both.0, both.1)

-- ---- blocks in use
-- the block is taken, or it waits
abbrev pub is_in_use : Workload → List Event → ℕ → Bool
is_in_use w h x = is_taken w h x || is_waiting w h x

-- some file that keeps its blocks has it in its map
pub used_of : (w : Workload) (h : List Event) (x : ℕ) → is_in_use w h x ≡ true
    → (s : ℕ) × (keeps_blocks w h s ≡ true) × (is_in_map w h s x ≡ true)
used_of w h x used = elim (or_cases (is_taken w h x) (is_waiting w h x) used) [
  | inl taken ↦ (let at = taken_of w h x taken in (at.0, or_left (is_live w h at.0) (is_going h at.0) at.1, at.2))
  | inr waits ↦ (let at = waits_of w h x waits in (at.0, or_right (is_live w h at.0) (is_going h at.0) at.1, at.2))
]

-- and each such block is in use
pub used_by : (w : Workload) (h : List Event) (s x : ℕ) → MapsOf w h → keeps_blocks w h s ≡ true
    → is_in_map w h s x ≡ true → is_in_use w h x ≡ true
used_by w h s x f keeps within = elim (or_cases (is_live w h s) (is_going h s) keeps) [
  | inl live ↦ or_left (is_taken w h x) (is_waiting w h x) (taken_by w h s x f live within)
  | inr going ↦ or_right (is_taken w h x) (is_waiting w h x) (waits_by w h s x f going within)
]

-- ---- free blocks
pub free_at : (w : Workload) (h : List Event) (x : ℕ) → x < w.device
    → is_free_block w h x ≡ has (free_blocks w h) x
free_at w h x below =
    sym (has-filter (λ y. not (is_in_use w h y)) area x
    ∙ ap (λ b. b && not (is_in_use w h x))
    (has-range (first_block w) (w.device - first_block w) x ∙ bounds (cases_Bool (nat_le (first_block w) x))))
  where
    area : List ℕ
    area = range_with_len (first_block w) (w.device - first_block w)

    bounds : (nat_le (first_block w) x ≡ true) ⊎ (nat_le (first_block w) x ≡ false)
        → (nat_le (first_block w) x && nat_lt x (first_block w + (w.device - first_block w)))
        ≡ nat_le (first_block w) x
    bounds (inl is) =
        let least : first_block w ≤ x = grind (arith, nat_tests)
        in ap (λ b. b && nat_lt x (first_block w + (w.device - first_block w))) is
        ∙ lt-ltb x (first_block w + (w.device - first_block w)) (omega (arith, least, below)) ∙ sym is
    bounds (inr is) = ap (λ b. b && nat_lt x (first_block w + (w.device - first_block w))) is ∙ sym is

-- where the same blocks are free, and what is kept says the same of each
pub free_kept : (w : Workload) (h later : List Event) (old new : Blocks) → BlocksAre w old h
    → free_blocks w later ≡ free_blocks w h
    → ((x : ℕ) → says_free (state_at new x) ≡ says_free (state_at old x))
    → (x : ℕ) → x < w.device → says_free (state_at new x) ≡ is_free_block w later x
free_kept w h later old new stands frees says x below =
    says x ∙ stands.free x below ∙ free_at w h x below ∙ ap (λ l. has l x) (sym frees)
    ∙ sym (free_at w later x below)

-- ---- pages with promises
-- such a page is dirty, so it is known
pub reserved_known : (w : Workload) (h : List Event) (b : Buf) → is_reserved w h b ≡ true → StandsIn b (known_pages h)
reserved_known w h b is =
    pages_are_known.unsettled w h b
    (or_left (is_dirty w h b) (is_busy w h b) (and_parts (is_dirty w h b) (has_no_block w h b) is).0)

-- as many have one, where the same have one
pub reserved_same : (w : Workload) (h : List Event) (e : Event)
    → ((s : Serial) (g : ℕ) → is_reserved w (h ▹ e) (Page s g) ≡ is_reserved w h (Page s g))
    → length (reserved_pages w (h ▹ e)) ≡ length (reserved_pages w h)
reserved_same w h e same =
    lengths_same (is_reserved w h) (is_reserved w (h ▹ e)) h e (reserved_known w h) agree
  where
    agree : (b : Buf) → is_reserved w (h ▹ e) b ≡ is_reserved w h b
    agree (Page s g) = same s g
    agree b = refl

-- ---- an event that leaves all maps
-- files with blocks are there as before, and the same were dropped
pub carried : (w : Workload) (h : List Event) (e : Event) (old new : Blocks) → IsAccepted w → IsLegal w (h ▹ e)
    → new.states ≡ old.states
    → ((s x : ℕ) → is_in_map w (h ▹ e) s x ≡ is_in_map w h s x)
    → ((s x : ℕ) → is_in_map w h s x ≡ true → is_live w (h ▹ e) s ≡ is_live w h s)
    → SameDrops h (h ▹ e)
    → new.reserved ≡ length (reserved_pages w (h ▹ e)) → BlocksAre w old h → BlocksAre w new (h ▹ e)
carried w h e old new accepted legal states same lives drops reserved stands = record {
  count = ap length states ∙ stands.count;
  free = free_kept w h (h ▹ e) old new stands (free_stays w h (h ▹ e) f after same keeps) (λ x. ap says_free (at x));
  taken = λ x is. at x ∙ stands.taken x (before x (taken_of w (h ▹ e) x is));
  waits = λ s x t is drop within. at x
      ∙ stands.waits s x t (sym (going s) ∙ is) (sym (drops.takers s) ∙ drop) (sym (same s x) ∙ within);
  gone = λ x t is. waits_still w h (h ▹ e) x after (λ s going_on within. (going s ∙ going_on, same s x ∙ within))
      (stands.gone x t (sym (at x) ∙ is));
  reserved = reserved;
}
  where
    f : MapsOf w h
    f = maps_of w h accepted legal.1

    after : MapsOf w (h ▹ e)
    after = maps_of w (h ▹ e) accepted legal

    at : (x : ℕ) → state_at new x ≡ state_at old x
    at x = ap (λ l. slice_get l x) states

    going : (s : ℕ) → is_going (h ▹ e) s ≡ is_going h s
    going = going_same h (h ▹ e) drops

    keeps : (s g x : ℕ) → mapped_block w h s g ≡ Some x → keeps_of w (h ▹ e) s ≡ keeps_of w h s
    keeps s g x there =
        keeps_is w (h ▹ e) s ∙ ap (λ b. b || is_going (h ▹ e) s) (lives s x (f.blocks.in_map s g x there))
        ∙ ap (λ b. is_live w h s || b) (going s) ∙ sym (keeps_is w h s)

    before : (x : ℕ) → (s : ℕ) × (is_live w (h ▹ e) s ≡ true) × (is_in_map w (h ▹ e) s x ≡ true)
        → is_taken w h x ≡ true
    before x later =
        let within = sym (same later.0 x) ∙ later.2
        in taken_by w h later.0 x f (sym (lives later.0 x within) ∙ later.1) within

-- and all files and promises
pub passed : (w : Workload) (h : List Event) (e : Event) (a : Blocks) → IsAccepted w → IsLegal w (h ▹ e)
    → ((s x : ℕ) → is_in_map w (h ▹ e) s x ≡ is_in_map w h s x)
    → ((s : ℕ) → is_live w (h ▹ e) s ≡ is_live w h s) → SameDrops h (h ▹ e)
    → ((s : Serial) (g : ℕ) → is_reserved w (h ▹ e) (Page s g) ≡ is_reserved w h (Page s g))
    → BlocksAre w a h → BlocksAre w a (h ▹ e)
passed w h e a accepted legal same lives drops reserved stands =
    carried w h e a a accepted legal refl same (λ s x within. lives s) drops
    (stands.reserved ∙ sym (reserved_same w h e reserved)) stands
