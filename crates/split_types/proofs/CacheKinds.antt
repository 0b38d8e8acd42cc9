-- What is dirty or busy is held; what is loading is nothing else, and is read once, from its block.
use Rattle.std.proofs.Common.{◌≡◌, ℕ, List, [], slice_get, Bool, true, false, ◌&&◌, Some, refl, arith, sym, subst, inl, inr, ap, ◌∙◌}
use Rattle.std.specs.List.{list_any}
use Rattle.std.proofs.lemmas.Bool.{and_from, and_parts, and_right, both_ways, false_from_ne_true, or_cases, or_right}
use Rattle.split_types.specs.declared.actor.Actor.{Actor}
use Rattle.split_types.specs.declared.buf.Buf.{Buf}
use Rattle.split_types.specs.declared.request.Request.{Request}
use Rattle.split_types.specs.declared.workload.Workload.{Workload}
use Rattle.split_types.specs.declared.event.Event.{Event}
use Rattle.split_types.specs.declared.event.Event.TheVariants.{Add}
use Rattle.split_types.specs.History.{◌▹◌, adds}
use Rattle.split_types.specs.Hooks.{maker, covers}
use Rattle.split_types.specs.Requests.{requests, unfinished}
use Rattle.split_types.specs.Pages.{is_live_page, is_put_since, is_dirty, is_busy}
use Rattle.split_types.specs.Reads.{reads, outstanding, is_loading}
use Rattle.split_types.specs.HeldPages.{is_placed}
use Rattle.split_types.specs.FileMaps.{mapped_block}
use Rattle.split_types.specs.FilesInOrder.{all_files}
use Rattle.split_types.specs.PagesInCache.{IsPlaced, UnsettledAreHeld, IsOnlyLoading, ReadsBlock, LoadingPages}
use Rattle.split_types.specs.Accepted.{IsAccepted}
use Rattle.split_types.specs.Legal.{IsLegal}
use Rattle.split_types.specs.Proving.Came.{Came, journal_request}
use Rattle.split_types.specs.Proving.Came.Came.{came_load, came_add, came_journal}
use Rattle.split_types.proofs.CameLaws.{came}
use Rattle.split_types.proofs.JournalAdds.{of_journal, reads_moves}
use Rattle.split_types.proofs.KnownLaws.{known}
use Rattle.split_types.proofs.Lists.{slice_get-push}
use Rattle.split_types.proofs.CacheLaws.{read_moved}
use Rattle.split_types.proofs.CacheKept.{Kept, kept}

-- ---- what is dirty or busy
-- the page of a file that is there, and was put or loaded
placed_held : (w : Workload) (h : List Event) (b : Buf) → is_live_page w h b ≡ true → is_placed h b ≡ true
    → IsPlaced w h b
placed_held w h b live placed = record {
  placed = placed;
  held =
      or_right (is_loading w h b) (is_live_page w h b && is_placed h b)
      (and_from (is_live_page w h b) (is_placed h b) live placed);
}

pub unsettled_are_held : UnsettledAreHeld
unsettled_are_held w h b accepted legal unsettled =
    let all = kept w h accepted legal
    in elim (or_cases (is_dirty w h b) (is_busy w h b) unsettled) [
      | inl dirty ↦
          (let parts = and_parts (is_live_page w h b) (is_put_since h b) dirty
          in placed_held w h b parts.0 (all.put_placed b parts.1))
      | inr busy ↦
          (let parts = and_parts (is_live_page w h b) (list_any (λ r. covers r b) (unfinished h)) busy
          in placed_held w h b parts.0 (all.busy_placed b parts.1))
    ]

-- ---- what is loading
only_loading : (w : Workload) (h : List Event) (b : Buf) → IsAccepted w → IsLegal w h → is_loading w h b ≡ true
    → IsOnlyLoading w h b
only_loading w h b accepted legal loading = record {
  unplaced = absent;
  clean = settled (is_put_since h b) (λ put. all.put_placed b put);
  idle = settled (list_any (λ r. covers r b) (unfinished h)) (λ busy. all.busy_placed b busy);
}
  where
    all : Kept h
    all = kept w h accepted legal

    absent : is_placed h b ≡ false
    absent =
        all.reads_absent b (and_parts (is_live_page w h b) (list_any (λ r. reads r b) (outstanding h)) loading).1

    settled : (t : Bool) → (t ≡ true → is_placed h b ≡ true) → (is_live_page w h b && t) ≡ false
    settled t is =
        and_right (is_live_page w h b) t (false_from_ne_true t (λ yes. both_ways (is_placed h b) absent (is yes)))

-- ---- what requests read
-- a request that is added and reads a page reads one alone
added_one : (w : Workload) (h : List Event) (by : Actor) (q : Request) (b : Buf) → Came w h (Add by q)
    → reads q b ≡ true → q.n ≡ 1
added_one w h by q b (came_load p c s piece here absent block at) does = refl
added_one w h by q b (came_add run block at there placed known) does = absurd (both_ways false refl does)
added_one w h by q b (came_journal kind first n j) does =
    absurd (both_ways (reads (journal_request (adds h) kind first n) b)
    ((of_journal w h (adds h) kind first n j).reads_none b) does)

read_one : (w : Workload) (h : List Event) (i : ℕ) (r : Request) (b : Buf) → IsLegal w h
    → slice_get (requests h) i ≡ Some r → reads r b ≡ true → r.n ≡ 1
read_one w [] i r b legal at does = absurd (cc)
read_one w (h ▹ Add by q) i r b legal at does = elim (slice_get-push (requests h) q i r at) [
  | inl old ↦ read_one w h i r b legal.1 old does
  | inr new ↦
      subst (λ x. x.n ≡ 1) new.1
      (added_one w h by q b (came w h (maker (Add by q)) (Add by q) legal.0)
      (subst (λ x. reads x b ≡ true) (sym new.1) does))
]
read_one w (h ▹ e) i r b legal at does = read_one w h i r b legal.1 at does

reads_block : (w : Workload) (h : List Event) (i : ℕ) (r : Request) (b : Buf) → IsAccepted w → IsLegal w h
    → slice_get (requests h) i ≡ Some r → reads r b ≡ true → ReadsBlock w h r b
reads_block w h i r b accepted legal at does =
    let run = (known w h accepted legal).runs i r at (reads_moves r b does)
    in record {
      serial = run.serial;
      page = run.page;
      is = read_moved (all_files w h) (mapped_block w h) r b run does;
      file = run.run.file;
      within = omega (arith, run.run.within, run.run.some);
      one = read_one w h i r b legal at does;
      place =
          ap (mapped_block w h run.serial.0) (omega arith)
          ∙ run.place 0 (omega (arith, run.run.some))
          ∙ ap Some (omega arith);
    }

pub loading_pages : LoadingPages
loading_pages = record {
  only = only_loading;
  once = λ w h b accepted legal. (kept w h accepted legal).reads_once b;
  blocks = reads_block;
}
