-- The sets of processes that the stack has to keep: for buffers that are dirty or on their way home, for the run that
-- writeback serves, and for the transactions that are in the journal.
use Rattle.std.specs.Prelude.{ℕ, List, [], ◌∷◌, ◌++◌, length, map, if◌then◌else◌}
use Rattle.std.specs.List.{list_any, flat_map}
use Rattle.std.specs.Str.{bytes_eq}
use Rattle.split_types.specs.declared.request.Service.{Service}
use Rattle.split_types.specs.declared.request.Service.TheVariants.{Idle}
use Rattle.split_types.specs.declared.event.Event.{Event}
use Rattle.split_types.specs.OpenDirtyings.{open_at}
use Rattle.split_types.specs.Rounds.{seal_place}
use Rattle.split_types.specs.Parents.{metadata_buffers, last_serve}
use Rattle.split_types.specs.Sets.{union_of}
use Rattle.split_types.specs.Blame.{blame}
use Rattle.split_types.specs.HeldPages.{known_pages}
use Rattle.split_types.specs.Writeback.{service}
use Rattle.split_types.specs.Transactions.{in_journal, awaiting_at}

-- the processes to blame for events at these places together, where there is such a place
abbrev pub set_of : List Event → List ℕ → List (List ℕ)
set_of h [] = []
set_of h (i ∷ places) = union_of (map (blame h) (i ∷ places)) ∷ []

-- the places of the last serve, where writeback is serving
abbrev pub serves_at : List Event → Service → List ℕ
serves_at h Idle = []
serves_at h _ = last_serve h

-- for each page and each buffer of metadata those to blame for its open dirtyings, and for each of metadata those to
-- blame for what awaits its home request; those to blame for the serve; and for the seal of each transaction in the
-- journal
abbrev pub kept_sets : List Event → List (List ℕ)
kept_sets h =
    flat_map (λ b. set_of h (open_at h b)) (known_pages h ++ metadata_buffers)
    ++ flat_map (λ b. set_of h (awaiting_at h b)) metadata_buffers
    ++ set_of h (serves_at h (service h))
    ++ flat_map (λ t. set_of h (seal_place h t)) (in_journal h)

-- some sets, each once
abbrev pub each_once : List (List ℕ) → List (List ℕ)
each_once [] = []
each_once (set ∷ sets) = if list_any (bytes_eq set) sets then each_once sets else set ∷ each_once sets

-- how many different ones there are
abbrev pub live_sets : List Event → ℕ
live_sets h = length (each_once (kept_sets h))
