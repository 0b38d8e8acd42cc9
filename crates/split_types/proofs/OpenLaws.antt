-- In a legal history a page is dirty exactly where it has open dirtyings.
use Rattle.std.proofs.Common.{◌≡◌, ℕ, ◌==◌, List, [], ◌∷◌, ◌++◌, length, nat_lt, Bool, true, false, not, ◌&&◌, ◌||◌, refl, arith, subst, sym, inl, inr, ◌∙◌, ap, if◌then◌else◌}
use Rattle.std.proofs.lemmas.Bool.{cases_Bool, eqb-true, lt-ltb}
use Rattle.std.proofs.lemmas.Bool.Decides.{nat_tests}
use Rattle.split_types.specs.declared.ids.Serial.{Serial}
use Rattle.split_types.specs.declared.buf.Buf.TheVariants.{Page}
use Rattle.split_types.specs.declared.workload.Workload.{Workload}
use Rattle.split_types.specs.declared.event.Event.{Event}
use Rattle.split_types.specs.declared.event.Event.TheVariants.{Put}
use Rattle.split_types.specs.History.{◌▹◌, adds}
use Rattle.split_types.specs.Hooks.{maker, same_buf, is_among}
use Rattle.split_types.specs.OpenDirtyings.{open_at}
use Rattle.split_types.specs.Files.{is_live}
use Rattle.split_types.specs.FileSlots.{next_serial}
use Rattle.split_types.specs.Pages.{is_put_since, is_dirty}
use Rattle.split_types.specs.Accepted.{IsAccepted}
use Rattle.split_types.specs.FilesInOrder.{all_files}
use Rattle.split_types.specs.MapsInOrder.{AreMaps}
use Rattle.split_types.specs.LegalHistories.{DirtyAreOpen}
use Rattle.split_types.specs.Proving.Came.{Came}
use Rattle.split_types.specs.Proving.Came.Came.{came_enter, came_admit, came_changed, came_exists, came_no_slot, came_make, came_drop, came_no_file, came_too_big}
use Rattle.split_types.specs.Proving.Came.Came.{came_wrote, came_read, came_fault, came_no_space, came_get, came_zeros, came_evict, came_load}
use Rattle.split_types.specs.Proving.Came.Came.{came_flushed, came_synced, came_seal, came_journal, came_serve, came_skip, came_map, came_grow, came_add, came_send, came_done}
use Rattle.split_types.proofs.CameLaws.{came}
use Rattle.split_types.proofs.JournalAdds.{of_journal}
use Rattle.split_types.proofs.KnownLaws.{maps_known}
use Rattle.split_types.proofs.PutLaws.{put_in}

-- the page has open dirtyings
abbrev is_open : List Event → Serial → ℕ → Bool
is_open h s g = nat_lt 0 (length (open_at h (Page s g)))

none_left : (b : Bool) → (b && false) ≡ false
none_left true = refl
none_left false = refl

-- ---- what an event makes of a page, of a file that is there or isn't, that was put since or wasn't
-- a put of this page or of another
open_put : (b live put : Bool) (n : ℕ) (places : List ℕ) → (b ≡ true → live ≡ true)
    → (live && put) ≡ nat_lt 0 (length places)
    → (live && (b || put)) ≡ nat_lt 0 (length ((if b || false then n ∷ [] else []) ++ places))
open_put true live put n places there is =
    ap (λ b. b && true) (there refl) ∙ sym (lt-ltb 0 (length (n ∷ places)) (omega arith))
open_put false live put n places there is = is

-- a request that takes it or doesn't
open_out : (b live put : Bool) (places : List ℕ) → (live && put) ≡ nat_lt 0 (length places)
    → (live && (not b && put)) ≡ nat_lt 0 (length (if b then [] else places))
open_out true live put places is = none_left live
open_out false live put places is = is

-- a drop of its file or of another
open_drop : (b live put : Bool) (places : List ℕ) → (live && put) ≡ nat_lt 0 (length places)
    → ((not b && live) && put) ≡ nat_lt 0 (length (if b || false then [] else places))
open_drop true live put places is = refl
open_drop false live put places is = is

-- a make of its file, of which no page was put before, or of another
open_make : (b live put : Bool) (places : List ℕ) → (b ≡ true → put ≡ false)
    → (live && put) ≡ nat_lt 0 (length places) → ((b || live) && put) ≡ nat_lt 0 (length places)
open_make true live put places new is =
    new refl ∙ sym (none_left live) ∙ sym (ap (λ c. live && c) (new refl)) ∙ is
open_make false live put places new is = is

-- no page of the file that is made next was put
new_unput : (w : Workload) (h : List Event) (s : Serial) (g : ℕ) → AreMaps w h
    → ((next_serial w h).0 == s.0) ≡ true → is_put_since h (Page s g) ≡ false
new_unput w h s g maps same = elim (cases_Bool (is_put_since h (Page s g))) [
  | inl put ↦ absurd (omega (arith, eqb-true (all_files w h) s.0 same, (maps.put s g put).0))
  | inr none ↦ none
]

open_next : (w : Workload) (h : List Event) (e : Event) (s : Serial) (g : ℕ) → IsAccepted w → AreMaps w h → Came w h e
    → is_dirty w h (Page s g) ≡ is_open h s g → is_dirty w (h ▹ e) (Page s g) ≡ is_open (h ▹ e) s g
open_next w h (Put by t k from to fill) s g accepted maps c is =
    open_put (same_buf (Page s g) (Page t k)) (is_live w h s.0) (is_put_since h (Page s g)) (length h)
    (open_at h (Page s g)) there is
  where
    there : same_buf (Page s g) (Page t k) ≡ true → is_live w h s.0 ≡ true
    there here =
        let same : s.0 ≡ t.0 = grind (arith, nat_tests)
        in subst (λ n. is_live w h n ≡ true) (sym same) (put_in w h by t k from to fill accepted c).file
open_next w h e s g accepted maps (came_make p name slot admitted idle unused at) is =
    open_make ((next_serial w h).0 == s.0) (is_live w h s.0) (is_put_since h (Page s g)) (open_at h (Page s g))
    (λ same. new_unput w h s g maps same) is
open_next w h e s g accepted maps (came_drop p name serial working idle) is =
    open_drop (serial.0 == s.0) (is_live w h s.0) (is_put_since h (Page s g)) (open_at h (Page s g)) is
open_next w h e s g accepted maps (came_add run block at there placed known) is =
    open_out (is_among run.serial run.page run.n (Page s g)) (is_live w h s.0) (is_put_since h (Page s g))
    (open_at h (Page s g)) is
open_next w h e s g accepted maps (came_enter p c has out) is = is
open_next w h e s g accepted maps (came_admit p c has in' out may) is = is
open_next w h e s g accepted maps (came_no_file p c admitted none) is = is
open_next w h e s g accepted maps (came_changed p c admitted names acted) is = is
open_next w h e s g accepted maps (came_exists p name admitted idle taken) is = is
open_next w h e s g accepted maps (came_no_slot p name admitted idle unused none) is = is
open_next w h e s g accepted maps (came_too_big p name off len fill t working big) is = is
open_next w h e s g accepted maps (came_no_space p name off len fill t piece here out none) is = is
open_next w h e s g accepted maps (came_wrote p name off len fill t working none) is = is
open_next w h e s g accepted maps (came_read p name off len t working none) is = is
open_next w h e s g accepted maps (came_fault p c t piece working left bad) is = is
open_next w h e s g accepted maps (came_get p name off len t piece here held) is = is
open_next w h e s g accepted maps (came_zeros p name off len t piece here absent none) is = is
open_next w h e s g accepted maps (came_evict p c t piece here absent v k found) is = is
open_next w h e s g accepted maps (came_load p c t piece here absent block at) is = is
open_next w h e s g accepted maps (came_serve run idle found) is = is
open_next w h e s g accepted maps (came_skip run at gone) is = is
open_next w h e s g accepted maps (came_map run free serves there none at) is = is
open_next w h e s g accepted maps (came_grow run block serves there at short) is = is
open_next w h e s g accepted maps (came_flushed q name t working idle down) is = is
open_next w h e s g accepted maps (came_synced q name t working acted safe) is = is
open_next w h e s g accepted maps (came_seal may) is = is
open_next w h e s g accepted maps (came_journal kind first n j) is =
    rw ((of_journal w h (adds h) kind first n j).covers_none (Page s g)) is
open_next w h e s g accepted maps (came_send r free picked) is = is
open_next w h e s g accepted maps (came_done k r at) is = is

pub dirty_are_open : DirtyAreOpen
dirty_are_open w [] s g accepted legal = none_left (is_live w [] s.0)
dirty_are_open w (h ▹ e) s g accepted legal =
    open_next w h e s g accepted (maps_known.maps w h accepted legal.1) (came w h (maker e) e legal.0)
    (dirty_are_open w h s g accepted legal.1)
