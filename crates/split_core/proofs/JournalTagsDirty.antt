-- The tags of the journal over an event that dirties buffers of metadata.
use Rattle.std.proofs.Common.{◌≡◌, ℕ, ◌+◌, ◌<◌, List, [], ◌∷◌, ◌++◌, length, map, get_or, set, cond, Bool, true, false, ◌||◌, Option, Some, None, refl, arith, subst, sym, inl, inr, ◌∙◌, ap, if◌then◌else◌}
use Rattle.std.specs.Prelude.{◌/◌, is_none}
use Rattle.std.specs.List.{list_any}
use Rattle.std.proofs.lemmas.Bool.{cases_eq, cond-false}
use Rattle.std.proofs.lemmas.List.{length-set, get_or-set_same, get_or-set_other}
use Rattle.std.proofs.lemmas.List.Quantifiers.{position-Some}
use Rattle.split_types.specs.declared.ids.Pid.{Pid}
use Rattle.split_types.specs.declared.ids.Serial.{Serial}
use Rattle.split_types.specs.declared.ids.Slot.{Slot}
use Rattle.split_types.specs.declared.actor.Actor.TheVariants.{Wb}
use Rattle.split_types.specs.declared.buf.Buf.{Buf}
use Rattle.split_types.specs.declared.buf.Buf.TheVariants.{Page, Bitmap, Dir, Inode}
use Rattle.split_types.specs.declared.workload.Workload.{Workload}
use Rattle.split_types.specs.declared.event.Event.{Event}
use Rattle.split_types.specs.declared.event.Event.TheVariants.{Make, Drop, Map}
use Rattle.split_types.specs.History.{◌▹◌}
use Rattle.split_types.specs.ByPlace.{IsMetadata}
use Rattle.split_types.specs.Hooks.{same_buf, dirties, is_dirtied, is_freed, is_out}
use Rattle.split_types.specs.OpenDirtyings.{open_at}
use Rattle.split_types.specs.Parents.{buffer_at}
use Rattle.split_types.specs.Blame.{blame}
use Rattle.split_types.specs.Files.{is_live, bound_file}
use Rattle.split_types.specs.FileSlots.{live_files, slot_of}
use Rattle.split_types.specs.Accepted.{IsAccepted}
use Rattle.split_types.specs.Legal.{IsLegal}
use Rattle.split_types.specs.Hooks.{maker}
use Rattle.split_types.specs.Proving.Came.{Came}
use Rattle.split_types.specs.Proving.Came.Came.{came_make, came_drop, came_map, came_grow}
use Rattle.split_types.proofs.Blame.{blame_is_set}
use Rattle.split_types.proofs.CameLaws.{came}
use Rattle.split_types.proofs.FileLaws.{live_of, files_are_in_order}
use Rattle.journal_core.specs.Causes.{wider, together}
use Rattle.journal_core.specs.Places.{place_of}
use Rattle.journal_core.specs.Journaled.{Journaled, with_mark}
use Rattle.split_core.specs.Journaling.{mark_all, after_event}
use Rattle.split_core.proofs.LiveSlots.{all_slots}
use Rattle.split_core.proofs.JournalTagsPlaces.{place_within, here_is, other_is, metadata_at}
use Rattle.split_core.proofs.JournalTagsSets.{wider_is}
use Rattle.split_core.proofs.JournalTagsKept.{open_stay, MarksAre, TagsAre, LeavesRest, round_stays, slots_rest, stage_rest}

-- ---- several buffers are marked
-- buffers of metadata, no two of them the same
abbrev pub AreMarked : List Buf → Type 0
AreMarked [] = Unit {0}
AreMarked (b ∷ bs) =
    IsMetadata b × ((c : Buf) → same_buf c b ≡ true → list_any (same_buf c) bs ≡ false) × AreMarked bs

-- the place of one that is marked has more, and each other one is as it was
abbrev pub marked_at : List Buf → List ℕ → List (Option (List ℕ)) → ℕ → Option (List ℕ)
marked_at bs more marks k =
    cond (list_any (same_buf (buffer_at (k + 1))) bs) (Some (wider (get_or marks k None) more)) (get_or marks k None)

one_marked : (b : Buf) (more : List ℕ) (marks : List (Option (List ℕ))) (k : ℕ) → length marks ≡ 261 → IsMetadata b
    → k ≡ place_of b
    → get_or (set marks (place_of b) (Some (wider (get_or marks (place_of b) None) more))) k None
    ≡ Some (wider (get_or marks k None) more)
one_marked b more marks k long metadata same =
    ap (λ n. get_or (set marks (place_of b) (Some (wider (get_or marks (place_of b) None) more))) n None) same
    ∙ get_or-set_same marks (place_of b) (Some (wider (get_or marks (place_of b) None) more)) None
    (omega (arith, long, place_within b metadata))
    ∙ ap (λ n. Some (wider (get_or marks n None) more)) (sym same)

more_marked : (b : Buf) (bs : List Buf) (more : List ℕ) (marks : List (Option (List ℕ))) (k : ℕ) → length marks ≡ 261
    → IsMetadata b → ((c : Buf) → same_buf c b ≡ true → list_any (same_buf c) bs ≡ false)
    → marked_at bs more (set marks (place_of b) (Some (wider (get_or marks (place_of b) None) more))) k
    ≡ marked_at (b ∷ bs) more marks k
more_marked b bs more marks k long metadata apart = elim (cases_eq k (place_of b)) [
  | inl same ↦
      (let here = here_is b k metadata same
      in cond-false (list_any (same_buf (buffer_at (k + 1))) bs) (Some (wider (get_or marked k None) more))
      (get_or marked k None) (apart (buffer_at (k + 1)) here)
      ∙ one_marked b more marks k long metadata same
      ∙ sym (with_test (same_buf (buffer_at (k + 1)) b) true here))
  | inr other ↦
      (let past = other_is b k metadata other
      in ap (λ o. cond (list_any (same_buf (buffer_at (k + 1))) bs) (Some (wider o more)) o)
      (get_or-set_other marks (place_of b) k (Some (wider (get_or marks (place_of b) None) more)) None other)
      ∙ sym (with_test (same_buf (buffer_at (k + 1)) b) false past))
]
  where
    marked : List (Option (List ℕ))
    marked = set marks (place_of b) (Some (wider (get_or marks (place_of b) None) more))

    with_test : (t s : Bool) → t ≡ s
        → cond (t || list_any (same_buf (buffer_at (k + 1))) bs) (Some (wider (get_or marks k None) more))
        (get_or marks k None)
        ≡ cond (s || list_any (same_buf (buffer_at (k + 1))) bs) (Some (wider (get_or marks k None) more))
        (get_or marks k None)
    with_test t s is =
        ap (λ (x : Bool). cond (x || list_any (same_buf (buffer_at (k + 1))) bs)
        (Some (wider (get_or marks k None) more)) (get_or marks k None)) is

all_marked : (bs : List Buf) (more : List ℕ) (j : Journaled (List ℕ)) (k : ℕ) → length j.marks ≡ 261 → AreMarked bs
    → get_or (mark_all bs more j).marks k None ≡ marked_at bs more j.marks k
all_marked [] more j k long are = refl
all_marked (b ∷ bs) more j k long are =
    all_marked bs more (with_mark (place_of b) more j) k
    (length-set j.marks (place_of b) (Some (wider (get_or j.marks (place_of b) None) more)) ∙ long) are.2
    ∙ more_marked b bs more j.marks k long are.0 are.1

all_long : (bs : List Buf) (more : List ℕ) (j : Journaled (List ℕ))
    → length (mark_all bs more j).marks ≡ length j.marks
all_long [] more j = refl
all_long (b ∷ bs) more j =
    all_long bs more (with_mark (place_of b) more j)
    ∙ length-set j.marks (place_of b) (Some (wider (get_or j.marks (place_of b) None) more))

-- ---- the marks after it
open_more : (h : List Event) (e : Event) (b : Buf) → is_freed e b ≡ false → is_out e b ≡ false
    → open_at (h ▹ e) b ≡ (if is_dirtied e b then length h ∷ [] else []) ++ open_at h b
open_more h e b unfreed inside =
    ap (λ t. (if is_dirtied e b then length h ∷ [] else []) ++ (if t || is_out e b then [] else open_at h b)) unfreed
    ∙ ap (λ t. (if is_dirtied e b then length h ∷ [] else []) ++ (if t then [] else open_at h b)) inside

marks_more : (h : List Event) (e : Event) (j : Journaled (List ℕ)) → AreMarked (dirties e)
    → ((b : Buf) → IsMetadata b → is_freed e b ≡ false) → ((b : Buf) → is_out e b ≡ false) → MarksAre h j.marks
    → MarksAre (h ▹ e) (mark_all (dirties e) (blame (h ▹ e) (length h)) j).marks
marks_more h e j dirtied unfreed inside are = record {
  long = all_long (dirties e) own j ∙ are.long;
  each =
      λ k below. all_marked (dirties e) own j k are.long dirtied
      ∙ by_test (is_dirtied e (buffer_at (k + 1))) (get_or j.marks k None) (open_at h (buffer_at (k + 1)))
      (are.each k below) (open_stay h e (buffer_at (k + 1)))
      ∙ sym (ap (λ l. together (map (blame (h ▹ e)) l))
      (open_more h e (buffer_at (k + 1)) (unfreed (buffer_at (k + 1)) (metadata_at k below))
      (inside (buffer_at (k + 1)))));
}
  where
    own : List ℕ
    own = blame (h ▹ e) (length h)

    by_test : (t : Bool) (old : Option (List ℕ)) (opens : List ℕ) → old ≡ together (map (blame h) opens)
        → map (blame (h ▹ e)) opens ≡ map (blame h) opens
        → cond t (Some (wider old own)) old
        ≡ together (map (blame (h ▹ e)) ((if t then length h ∷ [] else []) ++ opens))
    by_test true old opens is same =
        ap (λ o. Some (wider o own)) is
        ∙ wider_is (map (blame h) opens) own (blame_is_set (h ▹ e) (length h))
        ∙ ap (λ l. together (own ∷ l)) (sym same)
    by_test false old opens is same = is ∙ ap together (sym same)

-- ---- what these events dirty
of_dir : (j : ℕ) (slot : Slot) (c : Buf) → same_buf c (Dir j) ≡ true → (same_buf c (Inode slot) || false) ≡ false
of_dir j slot (Page s g) is = absurd (cc)
of_dir j slot Bitmap is = absurd (cc)
of_dir j slot (Dir k) is = refl
of_dir j slot (Inode s) is = absurd (cc)

of_dir_too : (j : ℕ) (slot : Slot) (c : Buf) → same_buf c (Dir j) ≡ true
    → (same_buf c (Inode slot) || (same_buf c Bitmap || false)) ≡ false
of_dir_too j slot (Page s g) is = absurd (cc)
of_dir_too j slot Bitmap is = absurd (cc)
of_dir_too j slot (Dir k) is = refl
of_dir_too j slot (Inode s) is = absurd (cc)

of_inode : (slot : Slot) (c : Buf) → same_buf c (Inode slot) ≡ true → (same_buf c Bitmap || false) ≡ false
of_inode slot (Page s g) is = absurd (cc)
of_inode slot Bitmap is = absurd (cc)
of_inode slot (Dir k) is = absurd (cc)
of_inode slot (Inode s) is = refl

-- the slot of a file that is there
file_within : (w : Workload) (h : List Event) (serial : Serial) → IsAccepted w → IsLegal w h
    → is_live w h serial.0 ≡ true → (slot_of w h serial).0 < 256
file_within w h serial accepted legal live = ((files_are_in_order w h accepted legal).live serial live).slot_within

make_marks : (w : Workload) (h : List Event) (by : Pid) (slot : Slot) (serial : Serial)
    → Came w h (Make by slot serial) → AreMarked (dirties (Make by slot serial))
make_marks w h by slot serial (came_make p name k admitted idle unused free) =
    let found = position-Some is_none (live_files w h) k None free
    in let within : k < 256 = omega (arith, found.0, all_slots w h)
    in (omega arith, of_dir (k / 64) (record { 0 = k }), (within, (λ c is. refl), tt))

drop_marks : (w : Workload) (h : List Event) (by : Pid) (slot : Slot) (serial : Serial) → IsAccepted w
    → IsLegal w h → Came w h (Drop by slot serial) → AreMarked (dirties (Drop by slot serial))
drop_marks w h by slot serial accepted legal (came_drop p name s working idle) =
    let within = file_within w h s accepted legal (live_of w h (bound_file w h p.0) s working.file)
    in (
      omega (arith, within),
      of_dir_too ((slot_of w h s).0 / 64) (slot_of w h s),
      (within, of_inode (slot_of w h s), (tt, (λ c is. refl), tt)),
    )

mapped_marks : (slot : Slot) (serial : Serial) (g n block : ℕ) (new : Bool) (size : ℕ) → slot.0 < 256
    → AreMarked (dirties (Map slot serial g n block new size))
mapped_marks slot serial g n block true size within = (within, of_inode slot, (tt, (λ c is. refl), tt))
mapped_marks slot serial g n block false size within = (within, (λ c is. refl), tt)

map_marks : (w : Workload) (h : List Event) (slot : Slot) (serial : Serial) (g n block : ℕ) (new : Bool) (size : ℕ)
    → IsAccepted w → IsLegal w h → Came w h (Map slot serial g n block new size)
    → AreMarked (dirties (Map slot serial g n block new size))
map_marks w h slot serial g n block new size accepted legal (came_map run free serves live none found) =
    mapped_marks slot serial g n block new size (file_within w h run.serial accepted legal live)
map_marks w h slot serial g n block new size accepted legal (came_grow run at serves live there small) =
    mapped_marks slot serial g n block new size (file_within w h run.serial accepted legal live)

-- ---- these events
drop_frees : (by : Pid) (slot : Slot) (serial : Serial) (b : Buf) → IsMetadata b
    → is_freed (Drop by slot serial) b ≡ false
drop_frees by slot serial (Page s g) metadata = absurd metadata
drop_frees by slot serial Bitmap metadata = refl
drop_frees by slot serial (Dir k) metadata = refl
drop_frees by slot serial (Inode s) metadata = refl

-- the marks are all that changes
pub only_marks : (bs : List Buf) (more : List ℕ) (j : Journaled (List ℕ))
    → mark_all bs more j ≡ record j { marks = (mark_all bs more j).marks }
only_marks [] more j = refl
only_marks (b ∷ bs) more j = only_marks bs more (with_mark (place_of b) more j)

tags_dirtied : (w : Workload) (h : List Event) (e : Event) (j : Journaled (List ℕ)) → IsAccepted w → IsLegal w h
    → AreMarked (dirties e) → ((b : Buf) → IsMetadata b → is_freed e b ≡ false) → ((b : Buf) → is_out e b ≡ false)
    → LeavesRest h e → TagsAre h j → TagsAre (h ▹ e) (mark_all (dirties e) (blame (h ▹ e) (length h)) j)
tags_dirtied w h e j accepted legal dirtied unfreed inside leaves are =
    subst (TagsAre (h ▹ e)) (sym (only_marks (dirties e) (blame (h ▹ e) (length h)) j)) (record {
      marks = marks_more h e j dirtied unfreed inside are.marks;
      round = round_stays w h e j.round accepted legal (λ b metadata. leaves.awaits b) are.round;
      slots = slots_rest h e j.slots leaves are.slots;
      stage = stage_rest h e j.work.used j.work.unfinished j.work.stage leaves are.stage;
    })

pub tags_make : (w : Workload) (h : List Event) (by : Pid) (slot : Slot) (serial : Serial) (j : Journaled (List ℕ))
    → IsAccepted w → IsLegal w (h ▹ Make by slot serial) → TagsAre h j
    → TagsAre (h ▹ Make by slot serial) (after_event w h (Make by slot serial) j)
tags_make w h by slot serial j accepted legal are =
    tags_dirtied w h (Make by slot serial) j accepted legal.1
    (make_marks w h by slot serial (came w h (maker (Make by slot serial)) (Make by slot serial) legal.0))
    (λ b metadata. refl) (λ b. refl)
    (record {
      awaits = λ b. refl;
      round = refl;
      sealed = refl;
      journal = refl;
      slot = λ t. refl;
      place = λ t. refl;
    }) are

pub tags_drop : (w : Workload) (h : List Event) (by : Pid) (slot : Slot) (serial : Serial) (j : Journaled (List ℕ))
    → IsAccepted w → IsLegal w (h ▹ Drop by slot serial) → TagsAre h j
    → TagsAre (h ▹ Drop by slot serial) (after_event w h (Drop by slot serial) j)
tags_drop w h by slot serial j accepted legal are =
    tags_dirtied w h (Drop by slot serial) j accepted legal.1
    (drop_marks w h by slot serial accepted legal.1
    (came w h (maker (Drop by slot serial)) (Drop by slot serial) legal.0))
    (drop_frees by slot serial) (λ b. refl)
    (record {
      awaits = λ b. refl;
      round = refl;
      sealed = refl;
      journal = refl;
      slot = λ t. refl;
      place = λ t. refl;
    }) are

pub tags_map : (w : Workload) (h : List Event) (slot : Slot) (serial : Serial) (g n block : ℕ) (new : Bool) (size : ℕ)
    (j : Journaled (List ℕ)) → IsAccepted w → IsLegal w (h ▹ Map slot serial g n block new size) → TagsAre h j
    → TagsAre (h ▹ Map slot serial g n block new size) (after_event w h (Map slot serial g n block new size) j)
tags_map w h slot serial g n block new size j accepted legal are =
    tags_dirtied w h (Map slot serial g n block new size) j accepted legal.1
    (map_marks w h slot serial g n block new size accepted legal.1
    (came w h Wb (Map slot serial g n block new size) legal.0)) (λ b metadata. refl) (λ b. refl)
    (record {
      awaits = λ b. refl;
      round = refl;
      sealed = refl;
      journal = refl;
      slot = λ t. refl;
      place = λ t. refl;
    }) are
