-- What the service that is kept has to do with a history.
use Rattle.std.specs.Prelude.{◌≡◌, ℕ, List, [], length, Option, Some, None}
use Rattle.std.specs.Option.{option_map}
use Rattle.split_types.specs.declared.request.ReqKind.{ReqKind}
use Rattle.split_types.specs.declared.request.ReqKind.TheVariants.{Pages}
use Rattle.split_types.specs.declared.request.Service.{Service}
use Rattle.split_types.specs.declared.request.Service.TheVariants as service
use Rattle.split_types.specs.declared.event.Event.{Event}
use Rattle.split_types.specs.declared.event.Event.TheVariants.{Serve, Skip, Add}
use Rattle.split_types.specs.History.{◌▹◌}
use Rattle.split_types.specs.Blame.{blame}
use Rattle.split_types.specs.Writeback.{service}
use Rattle.cause_set.specs.Tags.{Tags, use_in}
use Rattle.proxies.specs.declared.writeback.Writeback.{Writeback}
use Rattle.proxies.specs.declared.writeback.Writeback.TheVariants as writeback
use Rattle.proxies.specs.Causes.{causes_of_writeback}
use Rattle.split_core.specs.declared.note.service.Served.{Served}

-- what writeback serves
abbrev pub service_of : {T : Type 0} → Writeback T → Service
service_of writeback.Idle = service.Idle
service_of (writeback.Serving run causes) = service.Serving run
service_of (writeback.Mapped run causes) = service.Mapped run

-- a service ends with the request for its pages
abbrev pub left_for : ReqKind → Option (List ℕ) → Option (List ℕ)
left_for (Pages s g) causes = None
left_for _ causes = causes

-- for whom writeback serves: as long as it does, those to blame for its last serve
abbrev pub served_for : List Event → Option (List ℕ)
served_for [] = None
served_for (h ▹ Serve s g n) = Some (blame (h ▹ Serve s g n) (length h))
served_for (h ▹ Skip) = None
served_for (h ▹ Add by r) = left_for r.kind (served_for h)
served_for (h ▹ e) = served_for h

-- the uses of tags that it holds
abbrev pub held_by_service : Served → ℕ → ℕ
held_by_service s n = use_in (λ t. t.number) (causes_of_writeback s.state) n

pub record ServedStands (s : Served) (tags : Tags) (h : List Event) : Type 0 where
  pub service_is : service_of s.state ≡ service h
  pub causes_are : option_map (λ t. tags.members t.number) (causes_of_writeback s.state) ≡ served_for h
