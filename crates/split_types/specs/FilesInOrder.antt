-- What is known of the files of every history that an accepted workload may have.
use Rattle.std.specs.Prelude.{◌≡◌, ℕ, ◌+◌, ◌<◌, List, length, Some, IsTrue}
use Rattle.std.specs.Str.{bytes_eq}
use Rattle.split_types.specs.declared.ids.Serial.{Serial}
use Rattle.split_types.specs.declared.workload.Workload.{Workload}
use Rattle.split_types.specs.declared.event.Event.{Event}
use Rattle.split_types.specs.Names.{is_name}
use Rattle.split_types.specs.Files.{is_live, live_named, bound_file}
use Rattle.split_types.specs.FileMaps.{makes}
use Rattle.split_types.specs.FileSlots.{file_in_slot, slot_of, file_name}
use Rattle.split_types.specs.Accepted.{IsAccepted}
use Rattle.split_types.specs.Legal.{IsLegal}

-- how many files there ever were
abbrev pub all_files : Workload → List Event → ℕ
all_files w h = length w.files + makes h

-- what is known of a file that is there: its number, its slot and its name
pub record IsFile (w : Workload) (h : List Event) (s : Serial) : Type 0 where
  pub numbered : s.0 < all_files w h
  pub slot_within : (slot_of w h s).0 < 256
  pub in_slot : file_in_slot w h (slot_of w h s).0 ≡ Some s
  pub named : IsTrue (is_name (file_name w h s.0))
  pub by_name : live_named w h (file_name w h s.0) ≡ Some s

-- a file that is found in a slot or by a name is there, and has that slot or name; a call is bound to a file that there
-- once was
pub record AreFiles (w : Workload) (h : List Event) : Type 0 where
  pub live : (s : Serial) → IsTrue (is_live w h s.0) → IsFile w h s
  pub of_slot : (k : ℕ) (s : Serial) → file_in_slot w h k ≡ Some s
      → IsTrue (is_live w h s.0) × ((slot_of w h s).0 ≡ k)
  pub of_name : (name : List ℕ) (s : Serial) → live_named w h name ≡ Some s
      → IsTrue (is_live w h s.0) × IsTrue (bytes_eq (file_name w h s.0) name)
  pub bound : (p : ℕ) (s : Serial) → bound_file w h p ≡ Some s → s.0 < all_files w h

abbrev pub FilesAreInOrder : Type 0
FilesAreInOrder = (w : Workload) (h : List Event) → IsAccepted w → IsLegal w h → AreFiles w h
