-- Open dirtyings: where a buffer was dirtied, and since when it wasn't freed or written out.
use Rattle.std.specs.Prelude.{ℕ, List, [], ◌∷◌, ◌++◌, length, ◌||◌, if◌then◌else◌}
use Rattle.split_types.specs.declared.buf.Buf.{Buf}
use Rattle.split_types.specs.declared.event.Event.{Event}
use Rattle.split_types.specs.History.{◌▹◌}
use Rattle.split_types.specs.Hooks.{is_dirtied, is_freed, is_out}

-- the places at which an event dirties the buffer, and after which no event frees it or writes it out
abbrev pub open_at : List Event → Buf → List ℕ
open_at [] b = []
open_at (h ▹ e) b =
    (if is_dirtied e b then length h ∷ [] else [])
    ++ (if is_freed e b || is_out e b then [] else open_at h b)
