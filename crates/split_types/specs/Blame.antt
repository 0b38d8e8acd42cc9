-- Blame: the processes for which an event was made, reached backwards through its parents.
use Rattle.std.specs.Prelude.{ℕ, ◌==◌, List, [], ◌∷◌, length, map, if◌then◌else◌}
use Rattle.std.specs.List.{flat_map}
use Rattle.split_types.specs.declared.buf.Buf.{Buf}
use Rattle.split_types.specs.declared.request.ReqKind.{ReqKind}
use Rattle.split_types.specs.declared.request.ReqKind.TheVariants.{Read}
use Rattle.split_types.specs.declared.event.Event.{Event}
use Rattle.split_types.specs.declared.event.Event.TheVariants.{Make, Put, Drop, Add}
use Rattle.split_types.specs.History.{◌▹◌, adds}
use Rattle.split_types.specs.OpenDirtyings.{open_at}
use Rattle.split_types.specs.Parents.{parents_of}
use Rattle.split_types.specs.Sets.{union_of}

-- the process that makes a put, a make, a drop or an added read
abbrev pub own_blame : Event → List ℕ
own_blame (Make by slot serial) = by.0 ∷ []
own_blame (Put by serial page from to fill) = by.0 ∷ []
own_blame (Drop by slot serial) = by.0 ∷ []
own_blame (Add by r) = by_kind r.kind where
  by_kind : ReqKind → List ℕ
  by_kind (Read p s g) = p.0 ∷ []
  by_kind _ = []
own_blame _ = []

-- the processes to blame for the event at a place: its own, and those to blame for its parents
abbrev pub blame : List Event → ℕ → List ℕ
blame [] i = []
blame (h ▹ e) i = if i == length h then union_of (own_blame e ∷ map (blame h) (parents_of h e)) else blame h i

-- the processes to blame for the open dirtyings of some buffers
abbrev pub causes : List Event → List Buf → List ℕ
causes h bufs = union_of (map (blame h) (flat_map (open_at h) bufs))

-- the tag of a request: the processes to blame for its add
abbrev pub tag : List Event → ℕ → List ℕ
tag [] id = []
tag (h ▹ Add by r) id = if id == adds h then blame (h ▹ Add by r) (length h) else tag h id
tag (h ▹ e) id = tag h id
