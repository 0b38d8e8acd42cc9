-- What is known of the pages of a cache: what is dirty or busy was put or loaded, what is loading wasn't, and one
-- request at most reads a page.
use Rattle.std.proofs.Common.{◌≡◌, ℕ, ◌+◌, ◌-◌, ◌<◌, ◌≤◌, List, [], ◌∷◌, slice_get, filter, count_by, nat_lt, Bool, true, false, not, ◌&&◌, ◌||◌, Option, Some, refl, arith, subst, sym, inl, inr, cond, ap, ◌∙◌}
use Rattle.std.specs.List.{list_any}
use Rattle.std.proofs.lemmas.Bool.{and_parts, cases_Bool}
use Rattle.std.proofs.lemmas.Bool.Decides.{nat_tests}
use Rattle.std.proofs.lemmas.List.Sums.{sum_by-cons}
use Rattle.std.proofs.lemmas.List.Filters.{sum_by-filter_both}
use Rattle.split_types.specs.declared.ids.Pid.{Pid}
use Rattle.split_types.specs.declared.ids.ReqId.{ReqId}
use Rattle.split_types.specs.declared.ids.Serial.{Serial}
use Rattle.split_types.specs.declared.buf.Buf.{Buf}
use Rattle.split_types.specs.declared.buf.Buf.TheVariants.{Page}
use Rattle.split_types.specs.declared.call.Call.{Call}
use Rattle.split_types.specs.declared.request.ReqKind.{ReqKind}
use Rattle.split_types.specs.declared.request.ReqKind.TheVariants.{Read, Pages}
use Rattle.split_types.specs.declared.request.Request.{Request}
use Rattle.split_types.specs.declared.request.Run.{Run}
use Rattle.split_types.specs.declared.workload.Workload.{Workload}
use Rattle.split_types.specs.declared.event.Event.{Event}
use Rattle.split_types.specs.declared.event.Event.TheVariants.{Make, Drop}
use Rattle.split_types.specs.History.{◌▹◌}
use Rattle.split_types.specs.Hooks.{is_among, covers}
use Rattle.split_types.specs.Requests.{is_numbered, requests, in_flight, unfinished}
use Rattle.split_types.specs.Files.{is_live, bound_file}
use Rattle.split_types.specs.Pages.{is_live_page, is_put_since, is_dirty, is_busy, is_ready}
use Rattle.split_types.specs.Pieces.{Piece}
use Rattle.split_types.specs.Reads.{reads, outstanding, request_numbered}
use Rattle.split_types.specs.Writeback.{service, served_run}
use Rattle.split_types.specs.FileMaps.{mapped_block}
use Rattle.split_types.specs.FilesInOrder.{all_files}
use Rattle.split_types.specs.MapsInOrder.{IsServed}
use Rattle.split_types.specs.PagesInCache.{is_page_of}
use Rattle.split_types.specs.Accepted.{IsAccepted}
use Rattle.split_types.specs.Legal.{IsLegal}
use Rattle.split_types.specs.Proving.Came.{IsAtPiece}
use Rattle.split_types.specs.Transactions.{is_of_commit}
use Rattle.split_types.specs.Proving.Runs.{MovesRun}
use Rattle.split_types.specs.Proving.Known.{Known}
use Rattle.split_types.proofs.Lists.{count_none, any_counted, none_counted, filter_one, find_some}
use Rattle.split_types.proofs.FileLaws.{live_of}
use Rattle.split_types.proofs.KnownLaws.{maps_known, known}
use Rattle.split_types.proofs.NumberLaws.{all_done_well, flying_there}
use Rattle.split_types.proofs.PinLaws.{Pins, pins}
use Rattle.split_types.proofs.HeldLaws.{same_buf-is}

-- ---- tests on lists
-- how many pass without one element, the only one of its number
pub count_without : {X : Type 0} (p q : X → Bool) (xs : List X) (i : ℕ) (x : X) → slice_get xs i ≡ Some x → q x ≡ true
    → count_by q xs ≤ 1 → count_by p (filter (λ y. not (q y)) xs) + cond (p x) 1 0 ≡ count_by p xs
count_without p q xs i x at passes once =
    let only : count_by p (filter q xs) ≡ count_by p (x ∷ []) =
    ap (count_by p) (filter_one q xs i x at passes once).0
    in omega (
      arith,
      only,
      sum_by-cons (λ y. cond (p y) 1 0) x [],
      sum_by-filter_both q (λ y. not (q y)) (λ y. refl) (λ y. cond (p y) 1 0) xs,
    )

-- whether any passes without that element, where no two pass
pub any_without : {X : Type 0} (p q : X → Bool) (xs : List X) (i : ℕ) (x : X) → slice_get xs i ≡ Some x → q x ≡ true
    → count_by q xs ≤ 1 → count_by p xs ≤ 1
    → list_any p (filter (λ y. not (q y)) xs) ≡ (not (p x) && list_any p xs)
any_without p q xs i x at passes once most = by_test (p x) (count_without p q xs i x at passes once)
  where
    by_test : (b : Bool) → count_by p (filter (λ y. not (q y)) xs) + cond b 1 0 ≡ count_by p xs
        → list_any p (filter (λ y. not (q y)) xs) ≡ (not b && list_any p xs)
    by_test true counts = none_counted p (filter (λ y. not (q y)) xs) (omega (arith, counts, most))
    by_test false counts =
        let same : count_by p (filter (λ y. not (q y)) xs) ≡ count_by p xs = omega (arith, counts)
        in any_counted p (filter (λ y. not (q y)) xs) ∙ ap (nat_lt 0) same ∙ sym (any_counted p xs)

-- ---- pages of files that are there
pub live_here : (w : Workload) (h : List Event) (p : Pid) (c : Call) (s : Serial) (piece : Piece)
    → IsAtPiece w h p c s piece → is_live w h s.0 ≡ true
live_here w h p c s piece here = live_of w h (bound_file w h p.0) s here.working.file

-- after an event the page is one of a file that is there
abbrev pub live_after : Workload → List Event → Event → Buf → Bool
live_after w h (Make by slot serial) b = is_page_of serial b || is_live_page w h b
live_after w h (Drop by slot serial) b = not (is_page_of serial b) && is_live_page w h b
live_after w h e b = is_live_page w h b

-- an event makes a file, or drops one, or does neither
pub live_changes : (w : Workload) (h : List Event) (e : Event) (b : Buf)
    → is_live_page w (h ▹ e) b ≡ live_after w h e b
live_changes w h (Make by slot serial) (Page s g) = refl
live_changes w h (Drop by slot serial) (Page s g) = refl
live_changes w h e (Page s g) = refl
live_changes w h (Make by slot serial) b = refl
live_changes w h (Drop by slot serial) b = refl
live_changes w h e b = refl

-- ---- what is known before an event
-- what is known after a history: of its requests, of the pages that are kept for processes, and of the run that is
-- served
pub record IsKnown (w : Workload) (h : List Event) : Type 0 where
  pub known : Known w h
  pub well : outstanding h ≡ unfinished h
  pub kept_pages : Pins w h
  pub served : (run : Run) → served_run (service h) ≡ Some run → IsServed w h run

pub is_known : (w : Workload) (h : List Event) → IsAccepted w → IsLegal w h → IsKnown w h
is_known w h accepted legal = record {
  known = known w h accepted legal;
  well = all_done_well w h legal;
  kept_pages = pins w h accepted legal;
  served = λ run at. maps_known.served w h run accepted legal at;
}

-- ---- what requests read and write
-- the request reads this page
pub record IsReadOf (r : Request) (b : Buf) : Type 0 where
  pub by : Pid
  pub serial : Serial
  pub page : ℕ
  pub kind : r.kind ≡ Read by serial page
  pub is : b ≡ Page serial page

read_page-of : (id : ReqId) (k : ReqKind) (first n : ℕ) (b : Buf)
    → reads (record { id = id; kind = k; first = first; n = n }) b ≡ true
    → IsReadOf (record { id = id; kind = k; first = first; n = n }) b
read_page-of id (Read p s g) first n b is = record {
  by = p;
  serial = s;
  page = g;
  kind = refl;
  is = same_buf-is b (Page s g) is;
}
read_page-of id k first n b is = absurd (cc)

pub read_page : (r : Request) (b : Buf) → reads r b ≡ true → IsReadOf r b
read_page r b is = read_page-of r.id r.kind r.first r.n b is

-- the request writes this page, one of a run
pub record IsWriteOf (r : Request) (b : Buf) : Type 0 where
  pub serial : Serial
  pub page : ℕ
  pub kind : r.kind ≡ Pages serial page
  pub among : is_among serial page r.n b ≡ true

written_page-of : (id : ReqId) (k : ReqKind) (first n : ℕ) (b : Buf)
    → covers (record { id = id; kind = k; first = first; n = n }) b ≡ true
    → IsWriteOf (record { id = id; kind = k; first = first; n = n }) b
written_page-of id (Pages s g) first n b is = record { serial = s; page = g; kind = refl; among = is }
written_page-of id k first n b is = absurd (cc)

pub written_page : (r : Request) (b : Buf) → covers r b ≡ true → IsWriteOf r b
written_page r b is = written_page-of r.id r.kind r.first r.n b is

-- the buffer is the page of this file so many after one
pub record IsAfter (s : Serial) (g n : ℕ) (b : Buf) : Type 0 where
  pub after : ℕ
  pub below : after < n
  pub is : b ≡ Page s (g + after)

pub among_at : (s : Serial) (g n : ℕ) (b : Buf) → is_among s g n b ≡ true → IsAfter s g n b
among_at s g n (Page t k) is =
    let within : (s.0 ≡ t.0) × (g ≤ k) × (k < g + n) = grind (arith, nat_tests)
    in let at : k ≡ g + (k - g) = omega (arith, within)
    in record {
      after = k - g;
      below = omega (arith, within);
      is = ap (λ x. Page (record { 0 = x }) k) (sym within.0) ∙ ap (Page s) at;
    }
among_at s g n b is = absurd (cc)

kind_read : (p q : Pid) (s t : Serial) (g k : ℕ) → Read p s g ≡ Read q t k → (s ≡ t) × (g ≡ k)
kind_read p q s t g k e = (cc, cc)

-- what a request reads is the page of its run
pub read_moved : (total : ℕ) (block_of : ℕ → ℕ → Option ℕ) (r : Request) (b : Buf) (run : MovesRun total block_of r)
    → reads r b ≡ true → b ≡ Page run.serial run.page
read_moved total block_of r b run does =
    let at = read_page r b does
    in elim run.kind [
      | inl pages ↦
          absurd (let e : Read at.by at.serial at.page ≡ Pages run.serial run.page = sym at.kind ∙ pages in cc)
      | inr read ↦
          (let same = kind_read at.by read.0 at.serial run.serial at.page run.page (sym at.kind ∙ read.1)
          in at.is ∙ ap (λ s. Page s at.page) same.0 ∙ ap (Page run.serial) same.1)
    ]

-- each page of the run that is served is ready, while its file is there
pub served_ready : (w : Workload) (h : List Event) (run : Run) (b : Buf) → IsServed w h run
    → is_live w h run.serial.0 ≡ true → is_among run.serial run.page run.n b ≡ true → is_ready w h b ≡ true
served_ready w h run b served live among =
    let at = among_at run.serial run.page run.n b among
    in subst (λ x. is_ready w h x ≡ true) (sym at.is) (served.ready live at.after at.below)

-- and so it is there
pub ready_live : (w : Workload) (h : List Event) (b : Buf) → is_ready w h b ≡ true → is_live_page w h b ≡ true
ready_live w h b ready =
    let dirty = and_parts (is_dirty w h b) (not (is_busy w h b)) ready
    in (and_parts (is_live_page w h b) (is_put_since h b) dirty.0).0

-- ---- requests that are done
-- what is known of a request in flight: it is the one of its number among all, and among those that aren't done
pub record IsFlying (w : Workload) (h : List Event) (r : Request) : Type 0 where
  pub added : slice_get (requests h) r.id.0 ≡ Some r
  pub run : is_of_commit r ≡ false → MovesRun (all_files w h) (mapped_block w h) r
  pub place : ℕ
  pub left : slice_get (unfinished h) place ≡ Some r
  pub out : slice_get (outstanding h) place ≡ Some r
  pub once : count_by (is_numbered r.id) (unfinished h) ≤ 1
  pub out_once : count_by (is_numbered r.id) (outstanding h) ≤ 1
  pub numbered : request_numbered h r.id ≡ Some r

pub flying : (w : Workload) (h : List Event) (k : ℕ) (r : Request) → IsKnown w h → slice_get (in_flight h) k ≡ Some r
    → IsFlying w h r
flying w h k r f at =
    let added = f.known.waiting.flight_of k r at
    in let left = flying_there w h k r f.known at
    in let out : slice_get (outstanding h) left.0 ≡ Some r = ap (λ l. slice_get l left.0) f.well ∙ left.1
    in let once : count_by (is_numbered r.id) (unfinished h) ≤ 1 =
    omega (arith, f.known.waiting.once r.id, f.known.waiting.left_once r.id)
    in record {
      added = added;
      run = f.known.runs r.id.0 r added;
      place = left.0;
      left = left.1;
      out = out;
      once = once;
      out_once = subst (λ l. count_by (is_numbered r.id) l ≤ 1) (sym f.well) once;
      numbered = f.kept_pages.named left.0 r out;
    }

-- no two requests that weren't done well write one page
pub takes_once : (w : Workload) (h : List Event) (b : Buf) → Known w h
    → count_by (λ r. covers r b) (unfinished h) ≤ 1
takes_once w h b f = elim (cases_Bool (list_any (λ r. covers r b) (unfinished h))) [
  | inl any ↦
      (let found = find_some (λ r. covers r b) (unfinished h) any
      in let at = written_page found.element b found.passes
      in let after = among_at at.serial at.page found.element.n b at.among
      in subst (λ x. count_by (λ r. covers r x) (unfinished h) ≤ 1) (sym after.is)
      (f.takes at.serial (at.page + after.after)))
  | inr none ↦ omega (arith, count_none (λ r. covers r b) (unfinished h) none)
]
