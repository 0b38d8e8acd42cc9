-- What the parts hand to each other with an event, by its kind.
use Rattle.std.specs.Prelude.{◌≡◌, ℕ, List, count_by, slice_get, is_none, not, ◌&&◌, Bool, true, false, Option, Some}
use Rattle.split_types.specs.declared.ids.Pid.{Pid}
use Rattle.split_types.specs.declared.ids.Serial.{Serial}
use Rattle.split_types.specs.declared.buf.Buf.TheVariants.{Page}
use Rattle.split_types.specs.declared.call.Call.{Call}
use Rattle.split_types.specs.declared.call.Call.TheVariants.{Fsync}
use Rattle.split_types.specs.declared.workload.Workload.{Workload}
use Rattle.split_types.specs.declared.event.Event.{Event}
use Rattle.split_types.specs.declared.event.Event.TheVariants.{Admit, Make, Put, Drop, Map, Send, Done}
use Rattle.split_types.specs.Requests.{requests}
use Rattle.split_types.specs.CostAndClock.{cost_of}
use Rattle.split_types.specs.Blame.{tag}
use Rattle.split_types.specs.Rounds.{next_txn}
use Rattle.split_types.specs.Calls.{call_of, name_of}
use Rattle.split_types.specs.Files.{file_for}
use Rattle.split_types.specs.FileSizes.{size_of, size_of_some}
use Rattle.split_types.specs.FileMaps.{mapped_block, reserved_pages}
use Rattle.split_types.specs.Pages.{is_dirty}
use Rattle.split_types.specs.PagesInCache.{is_page_of}
use Rattle.std.specs.Option.{option_map}
use Rattle.split_core.specs.declared.parts.Given.{Given}

-- the call, if there is one, is an fsync
abbrev pub is_sync : Option Call → Bool
is_sync (Some (Fsync name)) = true
is_sync _ = false

-- of a call that is admitted the file that it works on, its size, and whether it is an fsync
pub record GivenAdmit (w : Workload) (h : List Event) (p : Pid) (g : Given) : Type 0 where
  pub file_is : g.file ≡ file_for w h (call_of w h p.0)
  pub size_is : g.size ≡ size_of_some w h (file_for w h (call_of w h p.0))
  pub syncs_is : g.syncs ≡ is_sync (call_of w h p.0)

-- of a make the name that its call names, and the transaction that takes the make
pub record GivenMake (w : Workload) (h : List Event) (by : Pid) (g : Given) : Type 0 where
  pub name_is : g.name ≡ option_map name_of (call_of w h by.0)
  pub next_is : g.next ≡ next_txn h

-- of a request that is done the request, its cost and its tag
pub record GivenDone (w : Workload) (h : List Event) (id : ℕ) (g : Given) : Type 0 where
  pub request_is : g.request ≡ slice_get (requests h) id
  pub cost_is : g.cost ≡ cost_of h id
  pub tag_is : g.tag ≡ tag h id

-- of a drop the size of the file, to how many of its pages a free block is promised, and the transaction that takes the
-- drop
pub record GivenDrop (w : Workload) (h : List Event) (s : Serial) (g : Given) : Type 0 where
  pub size_is : g.size ≡ size_of w h s.0
  pub promised_is : g.promised ≡ count_by (is_page_of s) (reserved_pages w h)
  pub next_is : g.next ≡ next_txn h

-- of a map the transaction that takes it; of a put whether a free block is to be promised to its page, which becomes
-- dirty and has none
abbrev pub IsGiven : Workload → List Event → Event → Given → Type 0
IsGiven w h (Admit p) g = GivenAdmit w h p g
IsGiven w h (Make by slot serial) g = GivenMake w h by g
IsGiven w h (Map slot s page n block new size) g = g.next ≡ next_txn h
IsGiven w h (Put by s page from to fill) g =
    g.promise ≡ (not (is_dirty w h (Page s page)) && is_none (mapped_block w h s.0 page))
IsGiven w h (Drop by slot s) g = GivenDrop w h s g
IsGiven w h (Send id cost) g = g.request ≡ slice_get (requests h) id.0
IsGiven w h (Done k id ok) g = GivenDone w h id.0 g
IsGiven w h _ g = Unit {0}
