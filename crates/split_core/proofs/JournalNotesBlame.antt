-- For whom a change of files is made, and which buffers it dirties.
use Rattle.std.proofs.Common.{◌≡◌, ℕ, ◌/◌, ◌<◌, ◌≤◌, List, [], ◌∷◌, length, map, Bool, true, false, nat_lt, if◌then◌else◌, Some, None, refl, ap, sym, ◌∙◌, arith}
use Rattle.std.specs.Prelude.{All, is_none}
use Rattle.std.specs.List.{position_or_len}
use Rattle.std.proofs.lemmas.Bool.Decides.{nat_tests}
use Rattle.std.proofs.lemmas.Option.{same_Some}
use Rattle.std.proofs.lemmas.List.Elements.{All-cons, All-nil}
use Rattle.split_types.specs.declared.ids.Pid.{Pid}
use Rattle.split_types.specs.declared.ids.Serial.{Serial}
use Rattle.split_types.specs.declared.ids.Slot.{Slot}
use Rattle.split_types.specs.declared.buf.Buf.TheVariants.{Bitmap, Dir, Inode}
use Rattle.split_types.specs.declared.request.ReqKind.{ReqKind}
use Rattle.split_types.specs.declared.request.ReqKind.TheVariants as kind
use Rattle.split_types.specs.declared.request.Run.{Run}
use Rattle.split_types.specs.declared.request.Service.TheVariants.{Serving}
use Rattle.split_types.specs.declared.workload.Workload.{Workload}
use Rattle.split_types.specs.declared.event.Event.{Event}
use Rattle.split_types.specs.declared.event.Event.TheVariants.{Enter, Admit, Make, Put, Get, Drop, Flushed, Ret, Serve, Map, Skip, Seal, Add, Send, Done, Evict, Tick}
use Rattle.split_types.specs.History.{◌▹◌}
use Rattle.split_types.specs.Hooks.{dirties}
use Rattle.split_types.specs.Parents.{last_serve}
use Rattle.split_types.specs.Blame.{blame}
use Rattle.split_types.specs.Sets.{union_of}
use Rattle.split_types.specs.Writeback.{after_add, service}
use Rattle.split_types.specs.FileSlots.{live_files}
use Rattle.split_types.specs.LiveFiles.{free_slot}
use Rattle.split_types.proofs.Shared.{blame-new, blame-stays, blame_is_set, union-one, union-empty, one-is_set}
use Rattle.small_fs.specs.Metadata.{IsMetadata}
use Rattle.split_core.specs.Served.{served_for, left_for}
use Rattle.split_core.proofs.LiveSlots.{all_slots}

-- ---- makes and drops
pub blame_make : (h : List Event) (by : Pid) (slot : Slot) (serial : Serial) → 1 ≤ by.0 → by.0 ≤ 256
    → blame (h ▹ Make by slot serial) (length h) ≡ by.0 ∷ []
blame_make h by slot serial first last =
    blame-new h (Make by slot serial) ∙ union-one (by.0 ∷ []) (one-is_set by.0 first last)

pub blame_drop : (h : List Event) (by : Pid) (slot : Slot) (serial : Serial) → 1 ≤ by.0 → by.0 ≤ 256
    → blame (h ▹ Drop by slot serial) (length h) ≡ by.0 ∷ []
blame_drop h by slot serial first last =
    blame-new h (Drop by slot serial) ∙ union-one (by.0 ∷ []) (one-is_set by.0 first last)

-- ---- maps
-- a run that is served was served at this place, for those to blame for that
pub record ServedAt (h : List Event) : Type 0 where
  pub place : ℕ
  pub within : place < length h
  pub last : last_serve h ≡ place ∷ []
  pub for_is : served_for h ≡ Some (blame h place)

served_new : (h : List Event) (s : Serial) (g n : ℕ) → ServedAt (h ▹ Serve s g n)
served_new h s g n = record { place = length h; within = omega arith; last = refl; for_is = refl }

served_stays : (h : List Event) (e : Event) → last_serve (h ▹ e) ≡ last_serve h → served_for (h ▹ e) ≡ served_for h
    → ServedAt h → ServedAt (h ▹ e)
served_stays h e last for s = record {
  place = s.place;
  within = omega (arith, s.within);
  last = last ∙ s.last;
  for_is = for ∙ s.for_is ∙ ap Some (sym (blame-stays h e s.place s.within));
}

pub served_at : (h : List Event) (run : Run) → service h ≡ Serving run → ServedAt h
served_at [] run is = absurd (cc)
served_at (h ▹ Serve s g n) run is = served_new h s g n
served_at (h ▹ Map slot s g n block new size) run is = absurd (cc)
served_at (h ▹ Skip) run is = absurd (cc)
served_at (h ▹ Add by r) run is = by_kind (served_at h run) r.kind refl is
  where
    other : (service h ≡ Serving run → ServedAt h) → (k : ReqKind) → r.kind ≡ k
        → left_for k (served_for h) ≡ served_for h → service h ≡ Serving run → ServedAt (h ▹ Add by r)
    other before k at same serves =
        served_stays h (Add by r) refl (ap (λ x. left_for x (served_for h)) at ∙ same) (before serves)

    by_kind : (service h ≡ Serving run → ServedAt h) → (k : ReqKind) → r.kind ≡ k
        → after_add k (service h) ≡ Serving run → ServedAt (h ▹ Add by r)
    by_kind before (kind.Pages s g) at some = absurd (cc)
    by_kind before (kind.Read p s g) at some = other before (kind.Read p s g) at refl some
    by_kind before (kind.Log t) at some = other before (kind.Log t) at refl some
    by_kind before (kind.Commit t) at some = other before (kind.Commit t) at refl some
    by_kind before (kind.Home t) at some = other before (kind.Home t) at refl some
    by_kind before (kind.Clear t) at some = other before (kind.Clear t) at refl some
served_at (h ▹ Enter p k) run is = served_stays h (Enter p k) refl refl (served_at h run is)
served_at (h ▹ Admit p) run is = served_stays h (Admit p) refl refl (served_at h run is)
served_at (h ▹ Make by slot serial) run is = served_stays h (Make by slot serial) refl refl (served_at h run is)
served_at (h ▹ Put by s g from to fill) run is = served_stays h (Put by s g from to fill) refl refl (served_at h run is)
served_at (h ▹ Get by s g from to sum) run is = served_stays h (Get by s g from to sum) refl refl (served_at h run is)
served_at (h ▹ Drop by slot serial) run is = served_stays h (Drop by slot serial) refl refl (served_at h run is)
served_at (h ▹ Flushed p) run is = served_stays h (Flushed p) refl refl (served_at h run is)
served_at (h ▹ Ret p reply) run is = served_stays h (Ret p reply) refl refl (served_at h run is)
served_at (h ▹ Seal t k) run is = served_stays h (Seal t k) refl refl (served_at h run is)
served_at (h ▹ Send id cost) run is = served_stays h (Send id cost) refl refl (served_at h run is)
served_at (h ▹ Done k id ok) run is = served_stays h (Done k id ok) refl refl (served_at h run is)
served_at (h ▹ Evict by s g) run is = served_stays h (Evict by s g) refl refl (served_at h run is)
served_at (h ▹ Tick d) run is = served_stays h (Tick d) refl refl (served_at h run is)

-- a map is made for those for whom its run was served
pub blame_map : (h : List Event) (slot : Slot) (s : Serial) (g n block : ℕ) (new : Bool) (size : ℕ) (run : Run)
    (set : List ℕ) → service h ≡ Serving run → served_for h ≡ Some set
    → blame (h ▹ Map slot s g n block new size) (length h) ≡ set
blame_map h slot s g n block new size run set serves for =
    let at = served_at h run serves
    in let same : blame h at.place ≡ set = same_Some (blame h at.place) set (sym at.for_is ∙ for)
    in blame-new h (Map slot s g n block new size)
    ∙ ap (λ places. union_of ([] ∷ map (blame h) places)) at.last
    ∙ union-empty (blame h at.place ∷ []) ∙ union-one (blame h at.place) (blame_is_set h at.place) ∙ same

-- ---- buffers
pub slot_free : (w : Workload) (h : List Event) (slot : ℕ) → free_slot (live_files w h) ≡ Some slot → slot < 256
slot_free w h slot is =
    by_test (position_or_len is_none (live_files w h)) (length (live_files w h)) (all_slots w h) is
  where
    by_test : (k n : ℕ) → n ≡ 256 → (if nat_lt k n then Some k else None) ≡ Some slot → slot < 256
    by_test k n long at = grind (arith, nat_tests)

within_dir : (k : ℕ) → k < 256 → k / 64 < 4
within_dir k below = omega arith

inode_one : (slot : Slot) → slot.0 < 256 → All IsMetadata (Inode slot ∷ [])
inode_one slot below = All-cons IsMetadata (Inode slot) [] below (All-nil IsMetadata)

inode_two : (slot : Slot) → slot.0 < 256 → All IsMetadata (Inode slot ∷ Bitmap ∷ [])
inode_two slot below =
    All-cons IsMetadata (Inode slot) (Bitmap ∷ []) below (All-cons IsMetadata Bitmap [] tt (All-nil IsMetadata))

pub metadata_make : (by : Pid) (slot : Slot) (serial : Serial) → slot.0 < 256
    → All IsMetadata (dirties (Make by slot serial))
metadata_make by slot serial below =
    All-cons IsMetadata (Dir (slot.0 / 64)) (Inode slot ∷ []) (within_dir slot.0 below) (inode_one slot below)

pub metadata_drop : (by : Pid) (slot : Slot) (serial : Serial) → slot.0 < 256
    → All IsMetadata (dirties (Drop by slot serial))
metadata_drop by slot serial below =
    All-cons IsMetadata (Dir (slot.0 / 64)) (Inode slot ∷ Bitmap ∷ []) (within_dir slot.0 below) (inode_two slot below)

pub metadata_map : (slot : Slot) (s : Serial) (g n block : ℕ) (new : Bool) (size : ℕ) → slot.0 < 256
    → All IsMetadata (dirties (Map slot s g n block new size))
metadata_map slot s g n block true size below = inode_two slot below
metadata_map slot s g n block false size below = inode_one slot below
