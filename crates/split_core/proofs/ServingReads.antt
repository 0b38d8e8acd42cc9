-- How a service goes on is read from the files and blocks that are kept.
use Rattle.std.proofs.Common.{◌≡◌, ℕ, ◌+◌, ◌*◌, ◌<◌, ◌≤◌, min, max, List, nat_lt, not, Bool, true, false, Option, Some, None}
use Rattle.std.proofs.Common.{refl, ap, sym, ◌∙◌, subst, arith}
use Rattle.std.specs.Prelude.{IsSome, IfSome}
use Rattle.std.proofs.lemmas.Bool.{cond-true, cond-false, lt-ltb, le-ltb}
use Rattle.split_types.specs.declared.ids.Serial.{Serial}
use Rattle.split_types.specs.declared.ids.Slot.{Slot}
use Rattle.split_types.specs.declared.request.Run.{Run}
use Rattle.split_types.specs.declared.request.Service.TheVariants.{Serving, Mapped}
use Rattle.split_types.specs.declared.workload.Workload.{Workload}
use Rattle.split_types.specs.declared.event.Event.{Event}
use Rattle.split_types.specs.declared.event.Event.TheVariants.{Map, Skip}
use Rattle.split_types.specs.Files.{is_live}
use Rattle.split_types.specs.FileSizes.{size_of, disk_size_of}
use Rattle.split_types.specs.FileMaps.{mapped_block}
use Rattle.split_types.specs.FileSlots.{slot_of, live_file}
use Rattle.split_types.specs.LiveFiles.{LiveFile, file_at, block_of_page, slot_of_serial}
use Rattle.split_types.specs.MapsInOrder.{IsServed}
use Rattle.split_types.specs.ServedRuns.{FreeRun}
use Rattle.split_types.specs.Writeback.{service, served_run}
use Rattle.split_types.specs.Serving.{ServiceState, service_state, bytes_up_to, map_of, map_free, add_of, next_of_placed, next_of_serving, next_of_mapped, unless_dropped, next_in_service, next_of_writeback}
use Rattle.split_types.proofs.Shared.{maps_known}
use Rattle.delayed_alloc.specs.Blocks.{IsLeastRun}
use Rattle.split_core.specs.declared.plan.Plan.{Plan}
use Rattle.split_core.specs.declared.parts.Parts.{Parts}
use Rattle.split_core.specs.Fits.{DropFits}
use Rattle.split_core.specs.StandsFor.{StandsFor}
use Rattle.split_core.proofs.FilesRead.{file_here, found, gone, block_here}
use Rattle.split_core.proofs.FitsLawsBlocks.{run_promised, promised_enough}
use Rattle.split_core.proofs.FilingBlocksFree.{least_run}

-- ---- the run that is served
pub served_is : (w : Workload) (plan : Plan) (p : Parts) (h : List Event) (run : Run) → StandsFor w plan p h
    → served_run (service h) ≡ Some run → IsServed w h run
served_is w plan p h run stands is = maps_known.served w h run stands.accepted stands.legal is

-- as many free blocks are promised as its pages need
pub promised : (w : Workload) (plan : Plan) (p : Parts) (h : List Event) (run : Run) → StandsFor w plan p h
    → IsServed w h run → is_live w h run.serial.0 ≡ true → mapped_block w h run.serial.0 run.page ≡ None
    → run.n ≤ p.filing.alloc.reserved
promised w plan p h run stands served live none =
    omega (
      arith,
      stands.parts.filing.blocks.reserved,
      promised_enough w h run (run_promised w h run served live none),
    )

module _ (w : Workload) (plan : Plan) (p : Parts) (h : List Event) (slot : Slot) (s : Serial)
    (stands : StandsFor w plan p h) (fits : DropFits w h slot s) where
  -- ---- its file
  here : file_at p.filing.fs.slots slot.0 ≡ Some (live_file w h s)
  here = file_here w h p.filing.fs slot s stands.accepted stands.legal stands.parts.filing.files fits

  pub file_kept : IsSome (file_at p.filing.fs.slots slot.0)
  file_kept = subst IsSome (sym here) refl

  pub size_kept : (r : ℕ) → IfSome (file_at p.filing.fs.slots slot.0) (λ f. r ≡ f.size) → r ≡ size_of w h s.0
  size_kept r is = subst (λ (o : Option LiveFile). IfSome o (λ f. r ≡ f.size)) here is

  pub disk_size_kept : (r : ℕ) → IfSome (file_at p.filing.fs.slots slot.0) (λ f. r ≡ f.disk_size)
      → r ≡ disk_size_of w h s.0
  disk_size_kept r is = subst (λ (o : Option LiveFile). IfSome o (λ f. r ≡ f.disk_size)) here is

  pub block_kept : (r : Option ℕ) (page : ℕ) → page < 1008
      → IfSome (file_at p.filing.fs.slots slot.0) (λ f. r ≡ block_of_page f page) → r ≡ mapped_block w h s.0 page
  block_kept r page below is =
      subst (λ (o : Option LiveFile). IfSome o (λ f. r ≡ block_of_page f page)) here is ∙ block_here w h s page below

-- the block of the first page of the run
pub first_block_kept : (w : Workload) (plan : Plan) (p : Parts) (h : List Event) (slot : Slot) (run : Run)
    (r : Option ℕ) → StandsFor w plan p h → DropFits w h slot run.serial → served_run (service h) ≡ Some run
    → IfSome (file_at p.filing.fs.slots slot.0) (λ f. r ≡ block_of_page f run.page)
    → r ≡ mapped_block w h run.serial.0 run.page
first_block_kept w plan p h slot run r stands fits is =
    let served = served_is w plan p h run stands is in
    block_kept w plan p h slot run.serial stands fits r run.page (omega (arith, served.some, served.within))

-- the bytes up to the end of some pages of the run
pub end_is : (w : Workload) (h : List Event) (run : Run) (n size end : ℕ) → size ≡ size_of w h run.serial.0
    → end ≡ min size (4096 * (run.page + n)) → end ≡ bytes_up_to (service_state w h run) n
end_is w h run n size end same is = is ∙ ap (λ x. min x (4096 * (run.page + n))) same

-- ---- what comes next
pub map_is : (w : Workload) (h : List Event) (slot : Slot) (run : Run) (n block : ℕ) (new : Bool)
    (end disk most : ℕ) → DropFits w h slot run.serial → end ≡ bytes_up_to (service_state w h run) n
    → disk ≡ disk_size_of w h run.serial.0 → most ≡ max disk end
    → Map slot run.serial run.page n block new most ≡ map_of (service_state w h run) n block new
map_is w h slot run n block new end disk most fits end_is disk_is most_is =
    ap (λ t. Map t run.serial run.page n block new most) fits.slot_is
    ∙ ap (Map (slot_of w h run.serial) run.serial run.page n block new)
    (most_is ∙ ap (max disk) end_is ∙ ap (λ x. max x (bytes_up_to (service_state w h run) n)) disk_is)

pub free_is : (w : Workload) (plan : Plan) (p : Parts) (h : List Event) (run : Run) (first n : ℕ) (e : Event)
    → StandsFor w plan p h → 1 ≤ run.n → IsLeastRun p.filing.alloc run.n first n
    → e ≡ map_of (service_state w h run) n first true → map_free (service_state w h run) ≡ Some e
free_is w plan p h run first n e stands some least is =
    ap (λ (o : Option FreeRun). elim o [ None ↦ None | Some f ↦ Some (map_of (service_state w h run) f.n f.first true) ])
    (least_run w h p.filing.alloc run.n first n stands.parts.filing.blocks least some)
    ∙ ap Some (sym is)

pub placed_short : (w : Workload) (h : List Event) (run : Run) (block end disk : ℕ) (e : Event)
    → end ≡ bytes_up_to (service_state w h run) run.n → disk ≡ disk_size_of w h run.serial.0 → disk < end
    → e ≡ map_of (service_state w h run) run.n block false
    → next_of_placed (service_state w h run) block ≡ Some e
placed_short w h run block end disk e end_is disk_is short is =
    let s = service_state w h run in
    cond-true (nat_lt s.disk_size (bytes_up_to s run.n)) (Some (map_of s run.n block false)) (Some (add_of s block))
    (lt-ltb s.disk_size (bytes_up_to s run.n) (omega (arith, end_is, disk_is, short)))
    ∙ ap Some (sym is)

pub placed_long : (w : Workload) (h : List Event) (run : Run) (block end disk : ℕ) (e : Event)
    → end ≡ bytes_up_to (service_state w h run) run.n → disk ≡ disk_size_of w h run.serial.0 → end ≤ disk
    → e ≡ add_of (service_state w h run) block → next_of_placed (service_state w h run) block ≡ Some e
placed_long w h run block end disk e end_is disk_is long is =
    let s = service_state w h run in
    cond-false (nat_lt s.disk_size (bytes_up_to s run.n)) (Some (map_of s run.n block false)) (Some (add_of s block))
    (le-ltb s.disk_size (bytes_up_to s run.n) (omega (arith, end_is, disk_is, long)))
    ∙ ap Some (sym is)

-- a run that was served
pub serving_free : (s : ServiceState) (e : Event) → None ≡ s.block → map_free s ≡ Some e → Some e ≡ next_of_serving s
serving_free s e none is =
    sym is ∙ ap (λ o. elim o [ None ↦ map_free s | Some block ↦ next_of_placed s block ]) none

pub serving_placed : (s : ServiceState) (block : ℕ) (e : Event) → Some block ≡ s.block
    → next_of_placed s block ≡ Some e → Some e ≡ next_of_serving s
serving_placed s block e at is =
    sym is ∙ ap (λ o. elim o [ None ↦ map_free s | Some block ↦ next_of_placed s block ]) at

pub mapped_none : (s : ServiceState) → None ≡ s.block → None ≡ next_of_mapped s
mapped_none s none = ap (λ o. elim o [ None ↦ None | Some block ↦ Some (add_of s block) ]) none

pub mapped_some : (s : ServiceState) (block : ℕ) (e : Event) → Some block ≡ s.block → e ≡ add_of s block
    → Some e ≡ next_of_mapped s
mapped_some s block e at is =
    ap Some is ∙ ap (λ o. elim o [ None ↦ None | Some block ↦ Some (add_of s block) ]) at

-- ---- all of it
pub slot_kept : (w : Workload) (plan : Plan) (p : Parts) (h : List Event) (s : Serial) (slot : Slot)
    → StandsFor w plan p h → Some slot.0 ≡ slot_of_serial p.filing.fs.slots s → DropFits w h slot s
slot_kept w plan p h s slot stands at =
    found w h p.filing.fs s slot stands.accepted stands.legal stands.parts.filing.files (sym at)

dropped : (w : Workload) (plan : Plan) (p : Parts) (h : List Event) (run : Run) (e : Option Event)
    → StandsFor w plan p h → None ≡ slot_of_serial p.filing.fs.slots run.serial
    → unless_dropped (service_state w h run) e ≡ Some Skip
dropped w plan p h run e stands none =
    cond-true (not (is_live w h run.serial.0)) (Some Skip) e
    (ap not (gone w h p.filing.fs run.serial stands.accepted stands.legal stands.parts.filing.files (sym none)))

kept : (w : Workload) (h : List Event) (slot : Slot) (run : Run) (e : Option Event) → DropFits w h slot run.serial
    → unless_dropped (service_state w h run) e ≡ e
kept w h slot run e fits = cond-false (not (is_live w h run.serial.0)) (Some Skip) e (ap not fits.live)

pub serving_skips : (w : Workload) (plan : Plan) (p : Parts) (h : List Event) (run : Run) → StandsFor w plan p h
    → service h ≡ Serving run → None ≡ slot_of_serial p.filing.fs.slots run.serial
    → Some Skip ≡ next_of_writeback w h
serving_skips w plan p h run stands is none =
    sym (ap (next_in_service w h) is
    ∙ dropped w plan p h run (next_of_serving (service_state w h run)) stands none)

pub serving_goes : (w : Workload) (h : List Event) (slot : Slot) (run : Run) (e : Option Event)
    → service h ≡ Serving run → DropFits w h slot run.serial → e ≡ next_of_serving (service_state w h run)
    → e ≡ next_of_writeback w h
serving_goes w h slot run e is fits same =
    same ∙ sym (ap (next_in_service w h) is ∙ kept w h slot run (next_of_serving (service_state w h run)) fits)

pub mapped_skips : (w : Workload) (plan : Plan) (p : Parts) (h : List Event) (run : Run) → StandsFor w plan p h
    → service h ≡ Mapped run → None ≡ slot_of_serial p.filing.fs.slots run.serial
    → Some Skip ≡ next_of_writeback w h
mapped_skips w plan p h run stands is none =
    sym (ap (next_in_service w h) is
    ∙ dropped w plan p h run (next_of_mapped (service_state w h run)) stands none)

pub mapped_goes : (w : Workload) (h : List Event) (slot : Slot) (run : Run) (e : Option Event)
    → service h ≡ Mapped run → DropFits w h slot run.serial → e ≡ next_of_mapped (service_state w h run)
    → e ≡ next_of_writeback w h
mapped_goes w h slot run e is fits same =
    same ∙ sym (ap (next_in_service w h) is ∙ kept w h slot run (next_of_mapped (service_state w h run)) fits)
