-- Which requests are done badly.
use Rattle.std.specs.Prelude.{ℕ, ◌==◌, List, [], Bool, if◌then◌else◌}
use Rattle.split_types.specs.declared.ids.ReqId.{ReqId}
use Rattle.split_types.specs.declared.workload.Workload.{Workload}
use Rattle.split_types.specs.declared.event.Event.{Event}
use Rattle.split_types.specs.declared.event.Event.TheVariants.{Send}
use Rattle.split_types.specs.History.{◌▹◌}
use Rattle.split_types.specs.Sets.{has}
use Rattle.split_types.specs.Requests.{sends}

-- how many sends came before that of the request
abbrev pub sends_before : List Event → ReqId → ℕ
sends_before [] id = 0
sends_before (h ▹ Send i cost) id = if i.0 == id.0 then sends h else sends_before h id
sends_before (h ▹ e) id = sends_before h id

-- the request, which was sent, is done badly: the workload says so of its send
abbrev pub is_failing : Workload → List Event → ReqId → Bool
is_failing w h id = has w.fails (sends_before h id)
