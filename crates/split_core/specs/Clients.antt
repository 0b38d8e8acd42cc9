-- What is kept of the processes has to do with a history.
use Rattle.std.specs.Prelude.{◌≡◌, ℕ, ◌+◌, ◌<◌, ◌≤◌, List, length, slice_get, false, IsTrue, IsFalse}
use Rattle.std.specs.Prelude.{Option, Some, None}
use Rattle.split_types.specs.declared.request.Run.{Run}
use Rattle.split_types.specs.declared.request.Service.{Service}
use Rattle.split_types.specs.declared.request.Service.TheVariants.{Mapped}
use Rattle.split_types.specs.declared.workload.Workload.{Workload}
use Rattle.split_types.specs.declared.event.Event.{Event}
use Rattle.split_types.specs.Calls.{returned, is_entered, is_admitted, has_acted, moved, call_of}
use Rattle.split_types.specs.Files.{bound_file}
use Rattle.split_types.specs.FileSizes.{size_at_admit}
use Rattle.split_types.specs.Pieces.{got}
use Rattle.split_types.specs.Calls.{is_finished}
use Rattle.split_core.specs.Awaits.{awaits}
use Rattle.split_core.specs.declared.note.clients.Client.{Client}
use Rattle.split_core.specs.declared.note.clients.Clients.{Clients}
use Rattle.client_calls.specs.declared.Progress.{Progress}

-- how far process p has come
abbrev pub client_of : Workload → List Event → ℕ → Client
client_of w h p = record {
  returned = returned h p;
  entered = is_entered h p;
  admitted = is_admitted h p;
  acted = has_acted h p;
  file = bound_file w h p;
  size = size_at_admit w h p;
  moved = moved h p;
  got = got h p;
  awaits = awaits h p;
}

pub record ClientsStand (w : Workload) (c : Clients) (h : List Event) : Type 0 where
  pub processes : length c.clients.items ≡ length w.procs
  pub clients_are : (i : ℕ) (x : Client) → slice_get c.clients.items i ≡ Some x → x ≡ client_of w h (i + 1)
  pub finished_most : c.finished ≤ length w.procs
  pub finished_are : (i : ℕ) → i < c.finished → IsTrue (is_finished w h (i + 1))
  pub next_is_left : c.finished < length w.procs → IsFalse (is_finished w h (c.finished + 1))

-- the run of a service whose pages are mapped, and whose request isn't added
abbrev pub mapped_run : Service → Option Run
mapped_run (Mapped run) = Some run
mapped_run _ = None

-- how far process p has come, as the decision on its next event sees it; no read of its was done badly
pub record IsProgress (w : Workload) (h : List Event) (p : ℕ) (x : Progress) : Type 0 where
  pub call : x.call ≡ call_of w h p
  pub number : x.number ≡ returned h p
  pub entered : x.entered ≡ is_entered h p
  pub admitted : x.admitted ≡ is_admitted h p
  pub acted : x.acted ≡ has_acted h p
  pub bound : x.bound ≡ bound_file w h p
  pub size : x.size_at_admit ≡ size_at_admit w h p
  pub moved : x.moved ≡ moved h p
  pub sum : x.sum ≡ got h p
  pub well : x.bad_read ≡ false
