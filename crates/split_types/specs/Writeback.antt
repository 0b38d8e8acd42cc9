-- The service of writeback: what it has served and not written out.
use Rattle.std.specs.Prelude.{List, [], Option, Some, None}
use Rattle.split_types.specs.declared.request.ReqKind.{ReqKind}
use Rattle.split_types.specs.declared.request.ReqKind.TheVariants.{Pages}
use Rattle.split_types.specs.declared.request.Run.{Run}
use Rattle.split_types.specs.declared.request.Service.{Service}
use Rattle.split_types.specs.declared.request.Service.TheVariants.{Idle, Serving, Mapped}
use Rattle.split_types.specs.declared.event.Event.{Event}
use Rattle.split_types.specs.declared.event.Event.TheVariants.{Serve, Map, Skip, Add}
use Rattle.split_types.specs.History.{◌▹◌}

-- a service ends with the request that it adds for its pages
abbrev pub after_add : ReqKind → Service → Service
after_add (Pages s g) service = Idle
after_add _ service = service

-- the service of writeback: of a run from its serve on, of what its map left of it from then on, until its add or skip
abbrev pub service : List Event → Service
service [] = Idle
service (h ▹ Serve serial page n) = Serving (record { serial = serial; page = page; n = n })
service (h ▹ Map slot serial page n block new size) = Mapped (record { serial = serial; page = page; n = n })
service (h ▹ Skip) = Idle
service (h ▹ Add by r) = after_add r.kind (service h)
service (h ▹ e) = service h

-- the run that a service serves
abbrev pub served_run : Service → Option Run
served_run Idle = None
served_run (Serving run) = Some run
served_run (Mapped run) = Some run
