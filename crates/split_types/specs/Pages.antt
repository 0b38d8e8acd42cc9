-- The state of a page: dirty, busy.
use Rattle.std.specs.Prelude.{List, [], Bool, false, not, ◌&&◌, ◌||◌}
use Rattle.std.specs.List.{list_any}
use Rattle.split_types.specs.declared.buf.Buf.{Buf}
use Rattle.split_types.specs.declared.buf.Buf.TheVariants.{Page}
use Rattle.split_types.specs.declared.workload.Workload.{Workload}
use Rattle.split_types.specs.declared.event.Event.{Event}
use Rattle.split_types.specs.declared.event.Event.TheVariants.{Put, Add}
use Rattle.split_types.specs.History.{◌▹◌}
use Rattle.split_types.specs.Hooks.{same_buf, covers}
use Rattle.split_types.specs.Requests.{unfinished}
use Rattle.split_types.specs.Files.{is_live}

-- the buffer is a page of a file that is there
abbrev pub is_live_page : Workload → List Event → Buf → Bool
is_live_page w h (Page s g) = is_live w h s.0
is_live_page w h _ = false

-- the page was put since a request for pages last took it
abbrev pub is_put_since : List Event → Buf → Bool
is_put_since [] b = false
is_put_since (h ▹ Put by s g from to fill) b = same_buf b (Page s g) || is_put_since h b
is_put_since (h ▹ Add by r) b = not (covers r b) && is_put_since h b
is_put_since (h ▹ e) b = is_put_since h b

-- a page of a file that is there is dirty where it was put since a request for pages last took it
abbrev pub is_dirty : Workload → List Event → Buf → Bool
is_dirty w h b = is_live_page w h b && is_put_since h b

-- it is busy where a request that writes it is queued, in flight or was done badly
abbrev pub is_busy : Workload → List Event → Buf → Bool
is_busy w h b = is_live_page w h b && list_any (λ r. covers r b) (unfinished h)

-- writeback may serve the page
abbrev pub is_ready : Workload → List Event → Buf → Bool
is_ready w h b = is_dirty w h b && not (is_busy w h b)
