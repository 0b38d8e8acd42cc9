-- Files and blocks stand after one event more, by what the calls of their parts do.
use Rattle.std.proofs.Common.{◌≡◌, ℕ, ◌+◌, ◌*◌, ◌<◌, ◌≤◌, List, slice_get, Bool, true, false, not, ◌&&◌, Option, Some, None, option_map, is_none, refl, ap, sym, subst, ◌∙◌, arith, IsSome}
use Rattle.std.specs.Prelude.{count_by, IfSome}
use Rattle.std.specs.Bool.{OnTrue, OnFalse}
use Rattle.std.proofs.lemmas.Bool.{OnTrue_at, OnFalse_at, OnTrue_from}
use Rattle.split_types.specs.declared.ids.Pid.{Pid}
use Rattle.split_types.specs.declared.ids.ReqId.{ReqId}
use Rattle.split_types.specs.declared.ids.Serial.{Serial}
use Rattle.split_types.specs.declared.ids.Slot.{Slot}
use Rattle.split_types.specs.declared.buf.Buf.TheVariants.{Page}
use Rattle.split_types.specs.declared.request.Request.{Request}
use Rattle.split_types.specs.declared.workload.Workload.{Workload}
use Rattle.split_types.specs.declared.event.Event.{Event}
use Rattle.split_types.specs.declared.event.Event.TheVariants.{Make, Put, Drop, Map, Done}
use Rattle.split_types.specs.History.{◌▹◌}
use Rattle.split_types.specs.Workloads.{first_block}
use Rattle.split_types.specs.Calls.{call_of, name_of}
use Rattle.split_types.specs.Requests.{requests}
use Rattle.split_types.specs.Pages.{is_dirty}
use Rattle.split_types.specs.PagesInCache.{is_page_of}
use Rattle.split_types.specs.FileMaps.{mapped_block, reserved_pages}
use Rattle.split_types.specs.FileSlots.{live_file}
use Rattle.split_types.specs.LiveFiles.{file_at, made_file, grown_file, mapped_file, blocks_of, slot_of_serial}
use Rattle.split_types.specs.Accepted.{IsAccepted}
use Rattle.split_types.proofs.Shared.{data_from}
use Rattle.small_fs.specs.Files.{next_file, with_file, changed}
use Rattle.split_core.specs.declared.note.filing.Filing.{Filing}
use Rattle.split_core.specs.declared.parts.Given.{Given}
use Rattle.split_core.specs.Givens.{GivenDrop}
use Rattle.split_core.specs.Fits.{Fits, MakeFits, MapFits, MapsKind}
use Rattle.split_core.specs.Filing.{FilingStands, FilesAre, BlocksAre, MayMake, AreTaken, LetsGo, settles, Takes}
use Rattle.split_core.proofs.FilingFilesNotes.{files_quiet, may_make, file_is, files_made, files_dropped, files_grown, files_mapped}
use Rattle.split_core.proofs.FilingBlocks.{blocks_quiet, blocks_make, blocks_put}
use Rattle.split_core.proofs.FilingBlocksSettles.{blocks_done}
use Rattle.split_core.proofs.FilingBlocksDrops.{drop_taken, drop_once, drop_promised, blocks_drop}
use Rattle.split_core.proofs.FilingBlocksMaps.{map_promised, blocks_map, blocks_map_old}

-- ---- other events
pub stands_quiet : (w : Workload) (h : List Event) (e : Event) (f : Filing) → IsAccepted w → Fits w h e
    → ((by : Pid) (slot : Slot) (serial : Serial) → e ≡ Make by slot serial → ⊥)
    → ((by : Pid) (s : Serial) (g from to fill : ℕ) → e ≡ Put by s g from to fill → ⊥)
    → ((by : Pid) (slot : Slot) (serial : Serial) → e ≡ Drop by slot serial → ⊥)
    → ((slot : Slot) (s : Serial) (g n block : ℕ) (new : Bool) (size : ℕ) → e ≡ Map slot s g n block new size → ⊥)
    → ((k : ℕ) (id : ReqId) (ok : Bool) → e ≡ Done k id ok → ⊥)
    → FilingStands w f h → FilingStands w f (h ▹ e)
stands_quiet w h e f accepted fits make put drop mapped done stands = record {
  files = files_quiet w h e f.fs make put drop mapped stands.files;
  blocks = blocks_quiet w h e f.alloc accepted fits.legal fits make put drop mapped done stands.blocks;
}

-- ---- a request that is done
-- files stay; blocks that wait for the transaction that it commits become free
pub stands_done : (w : Workload) (h : List Event) (k : ℕ) (id : ReqId) (ok : Bool) (old new : Filing)
    (request : Option Request) → IsAccepted w → Fits w h (Done k id ok) → FilingStands w old h
    → request ≡ slice_get (requests h) id.0 → new.fs ≡ old.fs → new.alloc ≡ settles request old.alloc
    → FilingStands w new (h ▹ Done k id ok)
stands_done w h k id ok old new request accepted fits stands given files blocks = record {
  files = subst (λ x. FilesAre w x (h ▹ Done k id ok)) (sym files)
      (files_quiet w h (Done k id ok) old.fs (λ by slot s is. absurd (cc)) (λ by s g from to fill is. absurd (cc))
      (λ by slot s is. absurd (cc)) (λ slot s g n block new size is. absurd (cc)) stands.files);
  blocks = subst (λ a. BlocksAre w a (h ▹ Done k id ok))
      (sym (blocks ∙ ap (λ o. settles o old.alloc) (given ∙ fits.kind.at)))
      (blocks_done w h k id ok old.alloc accepted fits stands.blocks);
}

-- ---- a make
-- the name that is handed on
name_is : (w : Workload) (h : List Event) (by : Pid) (slot : Slot) (serial : Serial) (name : Option (List ℕ))
    → (f : MakeFits w h by slot serial) → name ≡ option_map name_of (call_of w h by.0) → name ≡ Some f.name
name_is w h by slot serial name f given = given ∙ ap (option_map name_of) f.call

pub make_may : (w : Workload) (h : List Event) (by : Pid) (slot : Slot) (serial : Serial) (f : Filing)
    (name : Option (List ℕ)) → IsAccepted w → Fits w h (Make by slot serial) → FilingStands w f h
    → name ≡ option_map name_of (call_of w h by.0) → 0 < f.fs.spare → IfSome name (MayMake f.fs)
make_may w h by slot serial f name accepted fits stands given room =
    subst (λ o. IfSome o (MayMake f.fs)) (sym (name_is w h by slot serial name fits.kind given))
    (may_make w h by slot serial f.fs accepted fits.legal.1 fits.kind stands.files room)

pub stands_make : (w : Workload) (h : List Event) (by : Pid) (slot : Slot) (serial : Serial) (old new : Filing)
    (name : Option (List ℕ)) → IsAccepted w → Fits w h (Make by slot serial) → FilingStands w old h
    → name ≡ option_map name_of (call_of w h by.0)
    → IfSome name (λ n. IfSome (next_file old.fs)
    (λ at. new.fs.slots ≡ with_file at.0.0 (Some (made_file at.1 n)) old.fs.slots))
    → IfSome name (λ n. new.fs.next ≡ old.fs.next + 1) → new.fs.first ≡ old.fs.first → new.alloc ≡ old.alloc
    → FilingStands w new (h ▹ Make by slot serial)
stands_make w h by slot serial old new name accepted fits stands given slots next first same =
    let is = name_is w h by slot serial name fits.kind given
    in let f : MakeFits w h by slot serial = fits.kind
    in record {
      files = files_made w h by slot serial old.fs new.fs accepted fits.legal.1 f stands.files
          (subst (λ o. IfSome o (λ n. IfSome (next_file old.fs)
          (λ at. new.fs.slots ≡ with_file at.0.0 (Some (made_file at.1 n)) old.fs.slots))) is slots)
          (subst (λ o. IfSome o (λ n. new.fs.next ≡ old.fs.next + 1)) is next) first;
      blocks = subst (λ a. BlocksAre w a (h ▹ Make by slot serial)) (sym same)
          (blocks_make w h by slot serial old.alloc accepted fits.legal fits stands.blocks);
    }

-- ---- a drop
-- what is asked before its file is dropped
pub record MayDrop (f : Filing) (slot : Slot) (n : ℕ) : Type 0 where
  pub live : IsSome (file_at f.fs.slots slot.0)
  pub taken : IfSome (file_at f.fs.slots slot.0) (λ x. AreTaken f.alloc (blocks_of x))
  pub promised : n ≤ f.alloc.reserved

pub drop_may : (w : Workload) (h : List Event) (by : Pid) (slot : Slot) (serial : Serial) (f : Filing) (promised : ℕ)
    → IsAccepted w → Fits w h (Drop by slot serial) → FilingStands w f h
    → promised ≡ count_by (is_page_of serial) (reserved_pages w h) → MayDrop f slot promised
drop_may w h by slot serial f promised accepted fits stands given =
    let is = file_is w h slot serial f.fs accepted fits.legal.1 fits.kind stands.files
    in record {
      live = subst (λ o. IsSome o) (sym is) refl;
      taken = subst (λ o. IfSome o (λ x. AreTaken f.alloc (blocks_of x))) (sym is) (record {
        taken = drop_taken w h by slot serial f.alloc accepted fits.legal fits stands.blocks;
        once = drop_once w h by slot serial accepted fits.legal fits;
      });
      promised = omega (arith, given, drop_promised w h serial f.alloc stands.blocks);
    }

pub stands_drop : (w : Workload) (h : List Event) (by : Pid) (slot : Slot) (serial : Serial) (old new : Filing)
    (given : Given) → IsAccepted w → Fits w h (Drop by slot serial) → FilingStands w old h → GivenDrop w h serial given
    → new.fs ≡ record old.fs { slots = with_file slot.0 None old.fs.slots }
    → IfSome (file_at old.fs.slots slot.0)
    (λ x. LetsGo old.alloc new.alloc given.next (blocks_of x) given.promised)
    → FilingStands w new (h ▹ Drop by slot serial)
stands_drop w h by slot serial old new given accepted fits stands is_given files blocks =
    let is = file_is w h slot serial old.fs accepted fits.legal.1 fits.kind stands.files
    in let go : LetsGo old.alloc new.alloc given.next (blocks_of (live_file w h serial)) given.promised =
    subst (λ o. IfSome o (λ x. LetsGo old.alloc new.alloc given.next (blocks_of x) given.promised)) is blocks
    in record {
      files = files_dropped w h by slot serial old.fs new.fs accepted fits.legal.1 fits.kind stands.files files;
      blocks = blocks_drop w h by slot serial old.alloc new.alloc accepted fits.legal fits stands.blocks
          (subst (λ t. LetsGo old.alloc new.alloc t (blocks_of (live_file w h serial))
          (count_by (is_page_of serial) (reserved_pages w h))) is_given.next_is
          (subst (LetsGo old.alloc new.alloc given.next (blocks_of (live_file w h serial))) is_given.promised_is go));
    }

-- ---- a put
pub stands_put : (w : Workload) (h : List Event) (by : Pid) (s : Serial) (page from to fill : ℕ) (old new : Filing)
    (promise : Bool) → IsAccepted w → Fits w h (Put by s page from to fill) → FilingStands w old h
    → promise ≡ (not (is_dirty w h (Page s page)) && is_none (mapped_block w h s.0 page))
    → IfSome (slot_of_serial old.fs.slots s)
    (λ at. new.fs ≡ record old.fs { slots = changed (grown_file (4096 * page + to)) at old.fs.slots })
    → OnTrue promise (new.alloc ≡ record old.alloc { reserved = old.alloc.reserved + 1 })
    → OnFalse promise (new.alloc ≡ old.alloc) → FilingStands w new (h ▹ Put by s page from to fill)
stands_put w h by s page from to fill old new promise accepted fits stands given files more same = record {
  files = files_grown w h by s page from to fill old.fs new.fs accepted fits.legal.1 fits.kind.page.live stands.files
      files;
  blocks = blocks_put w h by s page from to fill promise old.alloc new.alloc accepted fits.legal fits given
      stands.blocks more same;
}

-- ---- a map
-- what is asked before pages are mapped
pub record MayMap (f : Filing) (slot : Slot) (page n block : ℕ) (new : Bool) (bytes : ℕ) : Type 0 where
  pub live : IsSome (file_at f.fs.slots slot.0)
  pub pages : page + n ≤ 1008
  pub first : 526 ≤ block
  pub blocks : block + n ≤ 32768
  pub size : bytes ≤ 4128768
  pub some : OnTrue new (1 ≤ n)
  pub promised : OnTrue new (n ≤ f.alloc.reserved)

-- the blocks that are mapped are blocks of data
record IsWithin (w : Workload) (page n block : ℕ) : Type 0 where
  some : 1 ≤ n
  pages : page + n ≤ 1008
  from : first_block w ≤ block
  to : block + n ≤ w.device

map_within : (w : Workload) (h : List Event) (slot : Slot) (s : Serial) (page n block : ℕ) (new : Bool) (size : ℕ)
    → MapFits w h slot s page n block new size → IsWithin w page n block
map_within w h slot s page n block new size f = by_kind new f.kind
  where
    by_kind : (b : Bool) → MapsKind w h f.run n block b → IsWithin w page n block
    by_kind true maps = record {
      some = maps.some;
      pages = omega (arith, maps.most, f.within);
      from = maps.from;
      to = maps.to;
    }
    by_kind false have = record {
      some = have.some;
      pages = omega (arith, have.within, f.page);
      from = have.from;
      to = have.to;
    }

pub map_may : (w : Workload) (h : List Event) (slot : Slot) (s : Serial) (page n block : ℕ) (new : Bool) (size : ℕ)
    (f : Filing) → IsAccepted w → Fits w h (Map slot s page n block new size) → FilingStands w f h
    → MayMap f slot page n block new size
map_may w h slot s page n block new size f accepted fits stands =
    let kind : MapFits w h slot s page n block new size = fits.kind
    in let within = map_within w h slot s page n block new size kind
    in let is = file_is w h slot s f.fs accepted fits.legal.1 kind.file stands.files
    in record {
      live = subst (λ o. IsSome o) (sym is) refl;
      pages = within.pages;
      first = omega (arith, within.from, data_from w);
      blocks = omega (arith, within.to, accepted.workload.machine.device_most);
      size = kind.most;
      some = OnTrue_from new (1 ≤ n) (λ e. within.some);
      promised = promised_by new fits;
    }
  where
    promised_by : (b : Bool) → Fits w h (Map slot s page n block b size) → OnTrue b (n ≤ f.alloc.reserved)
    promised_by true all =
        OnTrue_from true (n ≤ f.alloc.reserved)
        (λ e. map_promised w h slot s page n block size f.alloc accepted all.legal all stands.blocks)
    promised_by false all = OnTrue_from false (n ≤ f.alloc.reserved) (λ e. absurd (cc))

pub stands_map : (w : Workload) (h : List Event) (slot : Slot) (s : Serial) (page n block : ℕ) (new_blocks : Bool)
    (size : ℕ) (old new : Filing) → IsAccepted w → Fits w h (Map slot s page n block new_blocks size)
    → FilingStands w old h
    → new.fs ≡ record old.fs { slots = changed (mapped_file page n block size) slot.0 old.fs.slots }
    → OnTrue new_blocks (Takes old.alloc new.alloc n) → OnFalse new_blocks (new.alloc ≡ old.alloc)
    → FilingStands w new (h ▹ Map slot s page n block new_blocks size)
stands_map w h slot s page n block new_blocks size old new accepted fits stands files taken same =
    let kind : MapFits w h slot s page n block new_blocks size = fits.kind
    in let within = map_within w h slot s page n block new_blocks size kind
    in record {
      files = files_mapped w h slot s page n block new_blocks size old.fs new.fs accepted fits.legal.1 within.pages
          kind.file stands.files files;
      blocks = blocks_by new_blocks fits taken same;
    }
  where
    blocks_by : (b : Bool) → Fits w h (Map slot s page n block b size) → OnTrue b (Takes old.alloc new.alloc n)
        → OnFalse b (new.alloc ≡ old.alloc) → BlocksAre w new.alloc (h ▹ Map slot s page n block b size)
    blocks_by true all t e =
        let takes : Takes old.alloc new.alloc n = OnTrue_at refl t
        in blocks_map w h slot s page n block size old.alloc new.alloc takes.first takes.found accepted all.legal all
        stands.blocks takes.least takes.taken
    blocks_by false all t e =
        let same : new.alloc ≡ old.alloc = OnFalse_at refl e
        in subst (λ a. BlocksAre w a (h ▹ Map slot s page n block false size)) (sym same)
        (blocks_map_old w h slot s page n block size old.alloc accepted all.legal all stands.blocks)
