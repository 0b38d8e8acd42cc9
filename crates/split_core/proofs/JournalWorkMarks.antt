-- What the journal has to do with a history, over a change of files: the buffers that it dirties are marked.
use Rattle.std.proofs.Common.{◌≡◌, ℕ, ◌/◌, ◌<◌, List, [], ◌∷◌, ◌++◌, length, get_or, set, nat_lt, cond, Bool, true, false, ◌||◌, Option, Some, None, refl, ap, sym, subst, ◌∙◌, arith, length-set, if◌then◌else◌}
use Rattle.std.specs.Prelude.{is_none}
use Rattle.std.specs.Option.{is_some}
use Rattle.std.specs.List.{list_any}
use Rattle.std.proofs.lemmas.Bool.{lt-ltb}
use Rattle.std.proofs.lemmas.List.Quantifiers.{position-Some}
use Rattle.split_types.specs.declared.ids.Pid.{Pid}
use Rattle.split_types.specs.declared.ids.Serial.{Serial}
use Rattle.split_types.specs.declared.ids.Slot.{Slot}
use Rattle.split_types.specs.declared.actor.Actor.TheVariants.{Client, Wb}
use Rattle.split_types.specs.declared.buf.Buf.{Buf}
use Rattle.split_types.specs.declared.buf.Buf.TheVariants.{Page, Bitmap, Dir, Inode}
use Rattle.split_types.specs.declared.workload.Workload.{Workload}
use Rattle.split_types.specs.declared.event.Event.{Event}
use Rattle.split_types.specs.declared.event.Event.TheVariants.{Make, Drop, Map}
use Rattle.split_types.specs.History.{◌▹◌}
use Rattle.split_types.specs.Hooks.{dirties, same_buf, is_dirtied, is_freed, is_out}
use Rattle.split_types.specs.OpenDirtyings.{open_at}
use Rattle.split_types.specs.ByPlace.{IsMetadata}
use Rattle.split_types.specs.Blame.{blame}
use Rattle.split_types.specs.Files.{bound_file}
use Rattle.split_types.specs.FileSlots.{live_files}
use Rattle.split_types.specs.Transactions.{is_marked}
use Rattle.split_types.specs.Accepted.{IsAccepted}
use Rattle.split_types.specs.Legal.{IsLegal}
use Rattle.split_types.specs.Proving.Came.{Came}
use Rattle.split_types.specs.Proving.Came.Came.{came_make, came_drop, came_map, came_grow}
use Rattle.split_types.proofs.Shared.{came, files_are_in_order, live_of}
use Rattle.journal_core.specs.Causes.{wider}
use Rattle.journal_core.specs.Places.{place_of}
use Rattle.journal_core.specs.Journaled.{Journaled}
use Rattle.split_core.specs.Journaling.{mark_all}
use Rattle.split_core.proofs.LiveSlots.{all_slots}
use Rattle.split_core.proofs.JournalWorkPlaces.{place_within, same_place, set_some}
use Rattle.split_core.proofs.JournalWorkKnown.{Stands, Keeps, marked_on}

-- ---- several buffers are marked
abbrev marked : List Buf → List ℕ → List (Option (List ℕ)) → List (Option (List ℕ))
marked [] more marks = marks
marked (b ∷ bs) more marks =
    marked bs more (set marks (place_of b) (Some (wider (get_or marks (place_of b) None) more)))

mark_all_is : (bs : List Buf) (more : List ℕ) (j : Journaled (List ℕ))
    → mark_all bs more j ≡ record j { marks = marked bs more j.marks }
mark_all_is [] more j = refl
mark_all_is (b ∷ bs) more j =
    mark_all_is bs more
    (record j { marks = set j.marks (place_of b) (Some (wider (get_or j.marks (place_of b) None) more)) })

marked_long : (bs : List Buf) (more : List ℕ) (marks : List (Option (List ℕ)))
    → length (marked bs more marks) ≡ length marks
marked_long [] more marks = refl
marked_long (b ∷ bs) more marks =
    marked_long bs more (set marks (place_of b) (Some (wider (get_or marks (place_of b) None) more)))
    ∙ length-set marks (place_of b) (Some (wider (get_or marks (place_of b) None) more))

-- each of these is a buffer of metadata
abbrev AreMetadata : List Buf → Type 0
AreMetadata [] = Unit {0}
AreMetadata (b ∷ bs) = IsMetadata b × AreMetadata bs

turned : (x y z : Bool) → (y || cond x true z) ≡ ((x || y) || z)
turned true true z = refl
turned true false z = refl
turned false true z = refl
turned false false z = refl

marked_some : (bs : List Buf) (more : List ℕ) (marks : List (Option (List ℕ))) (b : Buf) → AreMetadata bs
    → length marks ≡ 261 → IsMetadata b
    → is_some (get_or (marked bs more marks) (place_of b) None)
    ≡ (list_any (same_buf b) bs || is_some (get_or marks (place_of b) None))
marked_some [] more marks b are long is = refl
marked_some (c ∷ cs) more marks b are long is =
    marked_some cs more now b are.1
    (length-set marks (place_of c) new ∙ long) is
    ∙ ap (λ x. list_any (same_buf b) cs || x)
    (set_some marks (place_of c) (place_of b) new (omega (arith, place_within c are.0, long)))
    ∙ ap (λ x. list_any (same_buf b) cs || cond x true (is_some (get_or marks (place_of b) None)))
    (sym (same_place b c is are.0))
    ∙ turned (same_buf b c) (list_any (same_buf b) cs) (is_some (get_or marks (place_of b) None))
  where
    new : Option (List ℕ)
    new = Some (wider (get_or marks (place_of c) None) more)

    now : List (Option (List ℕ))
    now = set marks (place_of c) new

-- ---- what an event marks
abbrev StaysIn : Event → Type 0
StaysIn e = (b : Buf) → IsMetadata b → (is_freed e b || is_out e b) ≡ false

pub dirtied_marked : (h : List Event) (e : Event) (b : Buf) → (is_freed e b || is_out e b) ≡ false
    → is_marked (h ▹ e) b ≡ (is_dirtied e b || is_marked h b)
dirtied_marked h e b in' = go (is_dirtied e b) (is_freed e b || is_out e b) in' (open_at h b)
  where
    go : (d out : Bool) → out ≡ false → (places : List ℕ)
        → nat_lt 0 (length ((if d then length h ∷ [] else []) ++ (if out then [] else places)))
        ≡ (d || nat_lt 0 (length places))
    go d true none places = absurd (cc)
    go false false none places = refl
    go true false none places = lt-ltb 0 (length (length h ∷ places)) (omega arith)

marks_event : (w : Workload) (h : List Event) (e : Event) (more : List ℕ) (j : Journaled (List ℕ)) → Keeps h (h ▹ e)
    → StaysIn e → AreMetadata (dirties e) → Stands w h j → Stands w (h ▹ e) (mark_all (dirties e) more j)
marks_event w h e more j k in' are s =
    subst (Stands w (h ▹ e)) (sym (mark_all_is (dirties e) more j))
    (marked_on w h (h ▹ e) j (marked (dirties e) more j.marks) k s (marked_long (dirties e) more j.marks ∙ s.marks_long)
    (λ b is. marked_some (dirties e) more j.marks b are s.marks_long is
    ∙ ap (λ x. is_dirtied e b || x) (s.marks_are b is) ∙ sym (dirtied_marked h e b (in' b is))))

-- ---- a make, a drop and a map
made_slot : (w : Workload) (h : List Event) (by : Pid) (slot : Slot) (serial : Serial) → Came w h (Make by slot serial)
    → slot.0 < 256
made_slot w h by slot serial (came_make p name k admitted idle unused at) =
    omega (arith, (position-Some is_none (live_files w h) k None at).0, all_slots w h)

dropped_slot : (w : Workload) (h : List Event) (by : Pid) (slot : Slot) (serial : Serial) → IsAccepted w → IsLegal w h
    → Came w h (Drop by slot serial) → slot.0 < 256
dropped_slot w h by slot serial accepted legal (came_drop p name s working idle) =
    ((files_are_in_order w h accepted legal).live s (live_of w h (bound_file w h p.0) s working.file)).slot_within

mapped_slot : (w : Workload) (h : List Event) (slot : Slot) (serial : Serial) (g n block : ℕ) (new : Bool) (size : ℕ)
    → IsAccepted w → IsLegal w h → Came w h (Map slot serial g n block new size) → slot.0 < 256
mapped_slot w h slot serial g n block new size accepted legal (came_map run free serves live none found) =
    ((files_are_in_order w h accepted legal).live run.serial live).slot_within
mapped_slot w h slot serial g n block new size accepted legal (came_grow run at serves live there small) =
    ((files_are_in_order w h accepted legal).live run.serial live).slot_within

keeps_make : (h : List Event) (by : Pid) (slot : Slot) (serial : Serial) → Keeps h (h ▹ Make by slot serial)
keeps_make h by slot serial = record {
  same_stage = refl;
  sealed = refl;
  held = refl;
  slot = λ t. refl;
  under = refl;
  left = λ i r at commits. (i, at);
  home = refl;
  awaits = λ b. refl;
  settled = λ t. refl;
}

keeps_drop : (h : List Event) (by : Pid) (slot : Slot) (serial : Serial) → Keeps h (h ▹ Drop by slot serial)
keeps_drop h by slot serial = record {
  same_stage = refl;
  sealed = refl;
  held = refl;
  slot = λ t. refl;
  under = refl;
  left = λ i r at commits. (i, at);
  home = refl;
  awaits = λ b. refl;
  settled = λ t. refl;
}

keeps_map : (h : List Event) (slot : Slot) (serial : Serial) (g n block : ℕ) (new : Bool) (size : ℕ)
    → Keeps h (h ▹ Map slot serial g n block new size)
keeps_map h slot serial g n block new size = record {
  same_stage = refl;
  sealed = refl;
  held = refl;
  slot = λ t. refl;
  under = refl;
  left = λ i r at commits. (i, at);
  home = refl;
  awaits = λ b. refl;
  settled = λ t. refl;
}

drop_in : (by : Pid) (slot : Slot) (serial : Serial) → StaysIn (Drop by slot serial)
drop_in by slot serial (Page s g) is = absurd (is)
drop_in by slot serial Bitmap is = refl
drop_in by slot serial (Dir k) is = refl
drop_in by slot serial (Inode own) is = refl

map_dirties : (slot : Slot) (serial : Serial) (g n block : ℕ) (new : Bool) (size : ℕ) → slot.0 < 256
    → AreMetadata (dirties (Map slot serial g n block new size))
map_dirties slot serial g n block true size within = (within, (tt, tt))
map_dirties slot serial g n block false size within = (within, tt)

dir_within : (slot : ℕ) → slot < 256 → slot / 64 < 4
dir_within slot within = omega (arith, within)

pub stands_make : (w : Workload) (h : List Event) (by : Pid) (slot : Slot) (serial : Serial) (j : Journaled (List ℕ))
    → IsLegal w (h ▹ Make by slot serial) → Stands w h j
    → Stands w (h ▹ Make by slot serial)
    (mark_all (dirties (Make by slot serial)) (blame (h ▹ Make by slot serial) (length h)) j)
stands_make w h by slot serial j legal s =
    let within = made_slot w h by slot serial (came w h (Client by) (Make by slot serial) legal.0) in
    marks_event w h (Make by slot serial) (blame (h ▹ Make by slot serial) (length h)) j (keeps_make h by slot serial)
    (λ b is. refl) (dir_within slot.0 within, (within, tt)) s

pub stands_drop : (w : Workload) (h : List Event) (by : Pid) (slot : Slot) (serial : Serial) (j : Journaled (List ℕ))
    → IsAccepted w → IsLegal w (h ▹ Drop by slot serial) → Stands w h j
    → Stands w (h ▹ Drop by slot serial)
    (mark_all (dirties (Drop by slot serial)) (blame (h ▹ Drop by slot serial) (length h)) j)
stands_drop w h by slot serial j accepted legal s =
    let within = dropped_slot w h by slot serial accepted legal.1
    (came w h (Client by) (Drop by slot serial) legal.0) in
    marks_event w h (Drop by slot serial) (blame (h ▹ Drop by slot serial) (length h)) j (keeps_drop h by slot serial)
    (drop_in by slot serial) (dir_within slot.0 within, (within, (tt, tt))) s

pub stands_map : (w : Workload) (h : List Event) (slot : Slot) (serial : Serial) (g n block : ℕ) (new : Bool) (size : ℕ)
    (j : Journaled (List ℕ)) → IsAccepted w → IsLegal w (h ▹ Map slot serial g n block new size) → Stands w h j
    → Stands w (h ▹ Map slot serial g n block new size)
    (mark_all (dirties (Map slot serial g n block new size))
    (blame (h ▹ Map slot serial g n block new size) (length h)) j)
stands_map w h slot serial g n block new size j accepted legal s =
    let e : Event = Map slot serial g n block new size in
    let within = mapped_slot w h slot serial g n block new size accepted legal.1 (came w h Wb e legal.0) in
    marks_event w h e (blame (h ▹ e) (length h)) j (keeps_map h slot serial g n block new size) (λ b is. refl)
    (map_dirties slot serial g n block new size within) s
