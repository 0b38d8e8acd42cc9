-- In every legal history of an accepted workload, no more pages without blocks are dirty than blocks are free.
use Rattle.std.proofs.Common.{◌≡◌, ℕ, ◌+◌, ◌-◌, ◌==◌, ◌<◌, ◌≤◌, List, [], length, max, nat_lt, nat_le, Bool, true, false, not, ◌&&◌, ◌||◌, Option, Some, None, is_none, refl, arith, sym, subst, inl, inr, ap, ◌∙◌, if◌then◌else◌}
use Rattle.std.proofs.lemmas.Bool.{cases_Bool, eqb-true}
use Rattle.std.proofs.lemmas.Bool.Decides.{nat_tests}
use Rattle.split_types.specs.declared.ids.Serial.{Serial}
use Rattle.split_types.specs.declared.buf.Buf.TheVariants.{Page}
use Rattle.split_types.specs.declared.request.Run.{Run}
use Rattle.split_types.specs.declared.workload.Workload.{Workload}
use Rattle.split_types.specs.declared.event.Event.{Event}
use Rattle.split_types.specs.declared.event.Event.TheVariants.{Put}
use Rattle.split_types.specs.History.{◌▹◌, adds}
use Rattle.split_types.specs.Hooks.{maker, covers}
use Rattle.split_types.specs.Files.{is_live, bound_file}
use Rattle.split_types.specs.Pages.{is_put_since, is_dirty}
use Rattle.split_types.specs.FileSizes.{disk_size_of}
use Rattle.split_types.specs.FileMaps.{mapped_block, is_in_map, makes, free_blocks, has_no_block, is_reserved, reserved_pages}
use Rattle.split_types.specs.FileSlots.{slot_of}
use Rattle.split_types.specs.ServedRuns.{FreeRun}
use Rattle.split_types.specs.Writeback.{served_run}
use Rattle.split_types.specs.Serving.{service_state, bytes_up_to, map_of, request_for}
use Rattle.split_types.specs.Accepted.{IsAccepted}
use Rattle.split_types.specs.Legal.{IsLegal}
use Rattle.split_types.specs.Proving.Came.{Came, journal_request}
use Rattle.split_types.specs.Proving.Came.Came.{came_enter, came_admit, came_changed, came_exists, came_no_slot, came_make, came_drop, came_no_file, came_too_big}
use Rattle.split_types.specs.Proving.Came.Came.{came_wrote, came_read, came_fault, came_no_space, came_put, came_get, came_zeros, came_evict, came_load}
use Rattle.split_types.specs.Proving.Came.Came.{came_flushed, came_synced, came_serve, came_skip, came_map, came_grow, came_add, came_seal, came_journal, came_send, came_done}
use Rattle.split_types.proofs.CameLaws.{came}
use Rattle.split_types.proofs.FileLaws.{live_of}
use Rattle.split_types.proofs.MapRuns.{IsFreeRun, free_is, apart_some}
use Rattle.split_types.proofs.MapState.{ServesOf, MapsOf, keeps_of}
use Rattle.split_types.proofs.MapSteps.{make_keeps, drop_keeps, done_keeps}
use Rattle.split_types.proofs.MapLaws.{maps_of}
use Rattle.split_types.proofs.PromiseFree.{free_grows, free_falls}
use Rattle.split_types.proofs.PromisePages.{reserved_fewer, reserved_put, reserved_mapped}

-- no more pages have a free block promised than blocks are free
abbrev IsPromised : Workload → List Event → Type 0
IsPromised w h = length (reserved_pages w h) ≤ length (free_blocks w h)

-- ---- what an event may change
-- maps have the blocks that they had, the files that keep them did so before, and a page has a block promised only if
-- it had one promised
drops : (w : Workload) (h : List Event) (e : Event) → MapsOf w h
    → ((s x : ℕ) → is_in_map w (h ▹ e) s x ≡ is_in_map w h s x)
    → ((s g x : ℕ) → mapped_block w h s g ≡ Some x → keeps_of w (h ▹ e) s ≡ true → keeps_of w h s ≡ true)
    → ((s : Serial) (g : ℕ) → is_reserved w (h ▹ e) (Page s g) ≡ true → is_reserved w h (Page s g) ≡ true)
    → IsPromised w h → IsPromised w (h ▹ e)
drops w h e f same keep fewer was =
    omega (arith, was, reserved_fewer w h e fewer, free_grows w h (h ▹ e) f before)
  where
    before : (s x : ℕ) → (keeps_of w (h ▹ e) s ≡ true) × (is_in_map w (h ▹ e) s x ≡ true)
        → (keeps_of w h s ≡ true) × (is_in_map w h s x ≡ true)
    before s x own =
        let within : is_in_map w h s x ≡ true = sym (same s x) ∙ own.1 in
        let at = f.blocks.of_map s x within in (keep s at.0 x at.1 own.0, within)

-- the same files keep them
keeps : (w : Workload) (h : List Event) (e : Event) → MapsOf w h → ((s : ℕ) → keeps_of w (h ▹ e) s ≡ keeps_of w h s)
    → ((s x : ℕ) → is_in_map w (h ▹ e) s x ≡ is_in_map w h s x)
    → ((s : Serial) (g : ℕ) → is_reserved w (h ▹ e) (Page s g) ≡ true → is_reserved w h (Page s g) ≡ true)
    → IsPromised w h → IsPromised w (h ▹ e)
keeps w h e f keep same fewer was = drops w h e f same (λ s g x at own. sym (keep s) ∙ own) fewer was

-- a page was put, where it was put or is one of a new file; it is one of an old file
make_bits : (new live put none : Bool) → (put ≡ true → new ≡ false) → (((new || live) && put) && none) ≡ true
    → ((live && put) && none) ≡ true
make_bits false live put none old is = is
make_bits true live false none old is = absurd (cc)
make_bits true live true none old is = absurd (cc (old refl))

drop_bits : (here live put none : Bool) → (((not here && live) && put) && none) ≡ true
    → ((live && put) && none) ≡ true
drop_bits true live put none is = absurd (cc)
drop_bits false live put none is = is

add_bits : (live taken put none : Bool) → ((live && (not taken && put)) && none) ≡ true
    → ((live && put) && none) ≡ true
add_bits true false put none is = is
add_bits true true put none is = absurd (cc)
add_bits false taken put none is = absurd (cc)

-- a page of a new file was never put
old_page : (w : Workload) (h : List Event) (s : Serial) (g : ℕ) → MapsOf w h → is_put_since h (Page s g) ≡ true
    → (length w.files + makes h == s.0) ≡ false
old_page w h s g f put = elim (cases_Bool (length w.files + makes h == s.0)) [
  | inl new ↦
      (let same : length w.files + makes h ≡ s.0 = eqb-true (length w.files + makes h) s.0 new in
      let below = (f.put s g put).0 in
      absurd (omega (arith, same, below)))
  | inr old ↦ old
]

-- ---- maps
-- of pages that have blocks: they have the same ones
grow_same : (w : Workload) (h : List Event) (run : Run) (block s x : ℕ) → MapsOf w h → ServesOf w h run
    → mapped_block w h run.serial.0 run.page ≡ Some block
    → ((run.serial.0 == s && nat_le block x && nat_lt x (block + run.n)) || is_in_map w h s x) ≡ is_in_map w h s x
grow_same w h run block s x f serves first =
    by_test (run.serial.0 == s && nat_le block x && nat_lt x (block + run.n)) refl
  where
    there : (k : ℕ) → k < run.n → is_in_map w h run.serial.0 (block + k) ≡ true
    there k below =
        f.blocks.in_map run.serial.0 (run.page + k) (block + k)
        (apart_some k block (mapped_block w h run.serial.0 run.page)
        (mapped_block w h run.serial.0 (run.page + k)) first (serves.in_a_row k below))

    by_test : (b : Bool) → (run.serial.0 == s && nat_le block x && nat_lt x (block + run.n)) ≡ b
        → (b || is_in_map w h s x) ≡ is_in_map w h s x
    by_test false is = refl
    by_test true is =
        let within : (run.serial.0 ≡ s) × (block ≤ x) × (x < block + run.n) = grind (arith, nat_tests) in
        let at : block + (x - block) ≡ x = omega (arith, within.1) in
        let old : is_in_map w h run.serial.0 x ≡ true =
        subst (λ y. is_in_map w h run.serial.0 y ≡ true) at (there (x - block) (omega (arith, within.1, within.2))) in
        sym (subst (λ t. is_in_map w h t x ≡ true) within.0 old)

grow_bits : (dirty new : Bool) (x : ℕ) (m : Option ℕ) → (dirty && is_none (if new then Some x else m)) ≡ true
    → (dirty && is_none m) ≡ true
grow_bits dirty false x m is = is
grow_bits true true x m is = absurd (cc)
grow_bits false true x m is = absurd (cc)

grows : (w : Workload) (h : List Event) (run : Run) (block : ℕ) → MapsOf w h
    → MapsOf w (h ▹ map_of (service_state w h run) run.n block false) → ServesOf w h run
    → mapped_block w h run.serial.0 run.page ≡ Some block → IsPromised w h
    → IsPromised w (h ▹ map_of (service_state w h run) run.n block false)
grows w h run block f after serves first was =
    keeps w h (map_of (service_state w h run) run.n block false) f (λ s. refl)
    (λ s x. grow_same w h run block s x f serves first)
    (λ s g is. grow_bits (is_dirty w h (Page s g))
    (run.serial.0 == s.0 && nat_le run.page g && nat_lt g (run.page + run.n)) (block + (g - run.page))
    (mapped_block w h s.0 g) is) was

-- of pages without blocks: as many blocks are taken as pages get the blocks that were promised to them
places : (w : Workload) (h : List Event) (run : Run) (free : FreeRun) → MapsOf w h
    → MapsOf w (h ▹ map_of (service_state w h run) free.n free.first true) → ServesOf w h run
    → is_live w h run.serial.0 ≡ true → mapped_block w h run.serial.0 run.page ≡ None
    → IsFreeRun (free_blocks w h) run.n free → IsPromised w h
    → IsPromised w (h ▹ map_of (service_state w h run) free.n free.first true)
places w h run free f after serves live none is was =
    omega (
      arith,
      was,
      reserved_mapped w h (slot_of w h run.serial) run free.n free.first true size serves live none is.most,
      free_falls w h (slot_of w h run.serial) run.serial run.page free.n free.first size live f after
          (is.some serves.some) is.each,
    )
  where
    size : ℕ
    size = max (disk_size_of w h run.serial.0) (bytes_up_to (service_state w h run) free.n)

-- ---- any event that comes next
same_page : (w : Workload) (h : List Event) (s : Serial) (g : ℕ) → is_reserved w h (Page s g) ≡ true
    → is_reserved w h (Page s g) ≡ true
same_page w h s g is = is

goes : (w : Workload) (h : List Event) (e : Event) → MapsOf w h → MapsOf w (h ▹ e) → IsPromised w h → Came w h e
    → IsPromised w (h ▹ e)
goes w h e f after was (came_enter p c has out) = keeps w h e f (λ s. refl) (λ s x. refl) (same_page w h) was
goes w h e f after was (came_admit p c has in_call out may) =
    keeps w h e f (λ s. refl) (λ s x. refl) (same_page w h) was
goes w h e f after was (came_changed p c admitted names acted) =
    keeps w h e f (λ s. refl) (λ s x. refl) (same_page w h) was
goes w h e f after was (came_exists p name admitted idle taken) =
    keeps w h e f (λ s. refl) (λ s x. refl) (same_page w h) was
goes w h e f after was (came_no_slot p name admitted idle unused full) =
    keeps w h e f (λ s. refl) (λ s x. refl) (same_page w h) was
goes w h e f after was (came_make p name slot admitted idle unused free) =
    drops w h e f (λ s x. refl) (λ s g x at. make_keeps w h p (record { 0 = slot }) s g x f at)
    (λ s g is. make_bits (length w.files + makes h == s.0) (is_live w h s.0) (is_put_since h (Page s g))
    (has_no_block w h (Page s g)) (λ put. old_page w h s g f put) is) was
goes w h e f after was (came_drop p name serial working idle) =
    drops w h e f (λ s x. refl)
    (λ s g x at. drop_keeps w h p (slot_of w h serial) serial s (live_of w h (bound_file w h p.0) serial working.file))
    (λ s g is. drop_bits (serial.0 == s.0) (is_live w h s.0) (is_put_since h (Page s g))
    (has_no_block w h (Page s g)) is) was
goes w h e f after was (came_no_file p c admitted none) = keeps w h e f (λ s. refl) (λ s x. refl) (same_page w h) was
goes w h e f after was (came_too_big p name off len fill serial working big) =
    keeps w h e f (λ s. refl) (λ s x. refl) (same_page w h) was
goes w h e f after was (came_wrote p name off len fill serial working left) =
    keeps w h e f (λ s. refl) (λ s x. refl) (same_page w h) was
goes w h e f after was (came_read p name off len serial working left) =
    keeps w h e f (λ s. refl) (λ s x. refl) (same_page w h) was
goes w h e f after was (came_fault p c serial piece working left bad) =
    keeps w h e f (λ s. refl) (λ s x. refl) (same_page w h) was
goes w h e f after was (came_no_space p name off len fill serial piece here out none) =
    keeps w h e f (λ s. refl) (λ s x. refl) (same_page w h) was
goes w h e f after was (came_put p name off len fill serial piece here may) =
    omega (
      arith,
      reserved_put w h p serial piece.page piece.from piece.to fill may.space was,
      free_grows w h (h ▹ Put p serial piece.page piece.from piece.to fill) f (λ s x own. own),
    )
goes w h e f after was (came_get p name off len serial piece here held) =
    keeps w h e f (λ s. refl) (λ s x. refl) (same_page w h) was
goes w h e f after was (came_zeros p name off len serial piece here absent none) =
    keeps w h e f (λ s. refl) (λ s x. refl) (same_page w h) was
goes w h e f after was (came_evict p c serial piece here absent s g found) =
    keeps w h e f (λ s. refl) (λ t x. refl) (same_page w h) was
goes w h e f after was (came_load p c serial piece here absent block at) =
    keeps w h e f (λ s. refl) (λ s x. refl) (same_page w h) was
goes w h e f after was (came_flushed p name serial working idle written) =
    keeps w h e f (λ s. refl) (λ s x. refl) (same_page w h) was
goes w h e f after was (came_synced p name serial working acted safe) =
    keeps w h e f (λ s. refl) (λ s x. refl) (same_page w h) was
goes w h e f after was (came_serve run idle found) = keeps w h e f (λ s. refl) (λ s x. refl) (same_page w h) was
goes w h e f after was (came_skip run served gone) = keeps w h e f (λ s. refl) (λ s x. refl) (same_page w h) was
goes w h e f after was (came_map run free serves live none found) =
    places w h run free f after (f.served run (ap served_run serves)) live none
    (free_is (free_blocks w h) run.n free found) was
goes w h e f after was (came_grow run block serves live first short) =
    grows w h run block f after (f.served run (ap served_run serves)) first was
goes w h e f after was (came_add run block served live first long) =
    keeps w h e f (λ s. refl) (λ s x. refl)
    (λ s g is. add_bits (is_live w h s.0) (covers (request_for (adds h) run block) (Page s g))
    (is_put_since h (Page s g)) (has_no_block w h (Page s g)) is) was
goes w h e f after was (came_seal may) = keeps w h e f (λ s. refl) (λ s x. refl) (same_page w h) was
goes w h e f after was (came_journal kind first n j) =
    keeps w h e f (λ s. refl) (λ s x. refl)
    (λ s g is. add_bits (is_live w h s.0) (covers (journal_request (adds h) kind first n) (Page s g))
    (is_put_since h (Page s g)) (has_no_block w h (Page s g)) is) was
goes w h e f after was (came_send r free picked) = keeps w h e f (λ s. refl) (λ s x. refl) (same_page w h) was
goes w h e f after was (came_done k r there) =
    drops w h e f (λ s x. refl) (λ s g x at. done_keeps w h k r.id s) (same_page w h) was

-- ---- what is proved
pub promised : (w : Workload) (h : List Event) → IsAccepted w → IsLegal w h
    → length (reserved_pages w h) ≤ length (free_blocks w h)
promised w [] accepted legal = omega arith
promised w (h ▹ e) accepted legal =
    goes w h e (maps_of w h accepted legal.1) (maps_of w (h ▹ e) accepted legal) (promised w h accepted legal.1)
    (came w h (maker e) e legal.0)
