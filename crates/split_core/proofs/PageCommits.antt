-- What the cache holds is what the history holds, after a request of the commit thread is added or done: no page changes.
use Rattle.std.proofs.Common.{◌≡◌, ℕ, ◌+◌, List, [], length, slice_get, Bool, true, false, not, ◌&&◌, ◌||◌, Some, refl, ap}
use Rattle.std.proofs.Common.{◌∙◌, arith, if◌then◌else◌}
use Rattle.std.specs.Prelude.{count_by}
use Rattle.split_types.specs.declared.ids.Pid.{Pid}
use Rattle.split_types.specs.declared.ids.ReqId.{ReqId}
use Rattle.split_types.specs.declared.ids.Serial.{Serial}
use Rattle.split_types.specs.declared.buf.Buf.{Buf}
use Rattle.split_types.specs.declared.buf.Buf.TheVariants.{Page}
use Rattle.split_types.specs.declared.actor.Actor.{Actor}
use Rattle.split_types.specs.declared.request.ReqKind.{ReqKind}
use Rattle.split_types.specs.declared.request.ReqKind.TheVariants.{Read, Pages, Log, Commit, Home, Clear}
use Rattle.split_types.specs.declared.request.Request.{Request}
use Rattle.split_types.specs.declared.workload.Workload.{Workload}
use Rattle.split_types.specs.declared.event.Event.{Event}
use Rattle.split_types.specs.declared.event.Event.TheVariants.{Add, Done}
use Rattle.split_types.specs.History.{◌▹◌}
use Rattle.split_types.specs.Hooks.{covers}
use Rattle.split_types.specs.Pages.{is_live_page, is_dirty, is_busy}
use Rattle.split_types.specs.Requests.{requests, is_write}
use Rattle.split_types.specs.Reads.{reads, reads_for, is_loading}
use Rattle.split_types.specs.HeldPages.{is_held, held_pages, unsettled_pages}
use Rattle.split_types.specs.Victims.{last_touch}
use Rattle.split_types.specs.Transactions.{is_of_commit}
use Rattle.split_types.specs.PagesInCache.{CountsAre, CountsDone, pages_written, pin_of}
use Rattle.split_types.specs.Accepted.{IsAccepted}
use Rattle.split_types.specs.Legal.{IsLegal}
use Rattle.split_types.proofs.Shared.{pages_change}
use Rattle.split_types.proofs.Shared.{pins_change}
use Rattle.split_types.proofs.Shared.{counts_change}
use Rattle.split_types.proofs.Shared.{touches_change}
use Rattle.split_types.proofs.Shared.{running_causes}
use Rattle.cause_set.specs.Tags.{Tags}
use Rattle.page_cache.specs.Cached.{Cached}
use Rattle.split_core.specs.declared.note.pages.Pages.{Pages as Kept}
use Rattle.split_core.specs.Pages.{CacheStands, PagesBefore, PagesAfter, IsDoneOf}
use Rattle.split_core.proofs.PageFacts.{Leaves}
use Rattle.split_core.proofs.PageNotes.{pages_quiet}
use Rattle.split_core.proofs.PageKinds.{before_as, after_as}
use Rattle.split_core.proofs.PageTags.{tags_kept}
use Rattle.split_core.proofs.PageDones.{done_of}

-- ---- a request of the commit thread
-- it neither reads nor covers a page
pub record LeavesPages (r : Request) : Type 0 where
  pub reads_none : (b : Buf) → reads r b ≡ false
  pub covers_none : (b : Buf) → covers r b ≡ false
  pub writes : is_write r ≡ true
  pub no_pages : pages_written r ≡ []

pub leaves_pages : (r : Request) → is_of_commit r ≡ true → LeavesPages r
leaves_pages r commits = by_kind r.kind refl
  where
    by_kind : (k : ReqKind) → r.kind ≡ k → LeavesPages r
    by_kind (Read p s g) is = let other : is_of_commit r ≡ false = rw is refl in absurd (cc)
    by_kind (Pages s g) is = let other : is_of_commit r ≡ false = rw is refl in absurd (cc)
    by_kind (Log t) is = record {
      reads_none = λ b. rw is refl;
      covers_none = λ b. rw is refl;
      writes = rw is refl;
      no_pages = rw is refl;
    }
    by_kind (Commit t) is = record {
      reads_none = λ b. rw is refl;
      covers_none = λ b. rw is refl;
      writes = rw is refl;
      no_pages = rw is refl;
    }
    by_kind (Home t) is = record {
      reads_none = λ b. rw is refl;
      covers_none = λ b. rw is refl;
      writes = rw is refl;
      no_pages = rw is refl;
    }
    by_kind (Clear t) is = record {
      reads_none = λ b. rw is refl;
      covers_none = λ b. rw is refl;
      writes = rw is refl;
      no_pages = rw is refl;
    }

-- a request that neither reads nor writes pages is one
pub commits : (r : Request) → ((p : Pid) (s : Serial) (g : ℕ) → r.kind ≡ Read p s g → ⊥)
    → ((s : Serial) (g : ℕ) → r.kind ≡ Pages s g → ⊥) → is_of_commit r ≡ true
commits r read pages = by_kind r.kind refl
  where
    by_kind : (k : ReqKind) → r.kind ≡ k → is_of_commit r ≡ true
    by_kind (Read p s g) is = absurd (read p s g is)
    by_kind (Pages s g) is = absurd (pages s g is)
    by_kind (Log t) is = rw is refl
    by_kind (Commit t) is = rw is refl
    by_kind (Home t) is = rw is refl
    by_kind (Clear t) is = rw is refl

-- ---- it is added
pages_added : (w : Workload) (h : List Event) (by : Actor) (r : Request) (c : Cached) (tags : Tags) → IsAccepted w
    → IsLegal w (h ▹ Add by r) → LeavesPages r → CacheStands w c tags h → CacheStands w c tags (h ▹ Add by r)
pages_added w h by r c tags accepted legal leaves stands =
    pages_quiet w h (Add by r) c tags accepted legal
    (record { leaves = left; pins = pins; counts = counts }) (λ s g there. refl) stands
  where
    left : (s : Serial) (g : ℕ) → Leaves w h (h ▹ Add by r) s g
    left s g =
        let b = Page s g in
        let now = pages_change w h (Add by r) b accepted legal in
        record {
          page = record {
            held_is = now.held_is ∙ ap (λ t. t || is_held w h b) (leaves.reads_none b);
            loading_is = now.loading_is ∙ ap (λ t. t || is_loading w h b) (leaves.reads_none b);
            dirty_is = now.dirty_is ∙ ap (λ t. not t && is_dirty w h b) (leaves.covers_none b);
            busy_is = now.busy_is ∙ ap (λ t. t || is_busy w h b) (leaves.covers_none b);
          };
          causes_are = running_causes.kept h (Add by r) b refl (leaves.covers_none b);
          bytes_are = refl;
        }

    pins : (s : Serial) (g : ℕ) → pin_of w (h ▹ Add by r) (Page s g) ≡ pin_of w h (Page s g)
    pins s g =
        pins_change.change w h (Add by r) (Page s g) accepted legal
        ∙ ap (λ t. if t then reads_for r else pin_of w h (Page s g)) (leaves.reads_none (Page s g))

    counts : CountsAre w (h ▹ Add by r) (length (held_pages w h)) (length (unsettled_pages w h))
    counts =
        let all : CountsAre w (h ▹ Add by r)
        (if is_write r then length (held_pages w h) else length (held_pages w h) + 1)
        (length (unsettled_pages w h)) =
        counts_change w h (Add by r) accepted legal in
        record {
          held_is = all.held_is
              ∙ ap (λ t. if t then length (held_pages w h) else length (held_pages w h) + 1) leaves.writes;
          unsettled_is = all.unsettled_is;
        }

pub after_commit_add : (w : Workload) (h : List Event) (by : Actor) (r : Request) (q : Kept) (tags : Tags)
    → PagesBefore w q tags h (Add by r) → is_of_commit r ≡ true → PagesAfter w q q tags tags (h ▹ Add by r)
after_commit_add w h by r q tags before commits = record {
  stands = pages_added w h by r q.cache tags before.accepted before.fits.legal (leaves_pages r commits) before.stands;
  tags = tags_kept tags q.cache q.cache (λ n. refl);
}

-- ---- it is done
pages_done : (w : Workload) (h : List Event) (k : ℕ) (id : ReqId) (ok : Bool) (r : Request) (c : Cached) (tags : Tags)
    → IsAccepted w → IsLegal w (h ▹ Done k id ok) → slice_get (requests h) id.0 ≡ Some r → LeavesPages r
    → CacheStands w c tags h → CacheStands w c tags (h ▹ Done k id ok)
pages_done w h k id ok r c tags accepted legal at leaves stands =
    pages_quiet w h (Done k id ok) c tags accepted legal
    (record {
      leaves = left;
      pins = λ s g. pins_change.change w h (Done k id ok) (Page s g) accepted legal;
      counts = counts;
    })
    (λ s g there. touches_change.change w h (Done k id ok) (Page s g) accepted legal r at
    ∙ ap (λ t. if t then length h else last_touch h (Page s g)) (leaves.reads_none (Page s g)))
    stands
  where
    left : (s : Serial) (g : ℕ) → Leaves w h (h ▹ Done k id ok) s g
    left s g =
        let b = Page s g in
        let now = pages_change w h (Done k id ok) b accepted legal r at in
        record {
          page = record {
            held_is = now.held_is;
            loading_is = now.loading_is ∙ ap (λ t. not t && is_loading w h b) (leaves.reads_none b);
            dirty_is = now.dirty_is;
            busy_is = now.busy_is ∙ ap (λ t. not t && is_busy w h b) (leaves.covers_none b);
          };
          causes_are = running_causes.kept h (Done k id ok) b refl refl;
          bytes_are = refl;
        }

    counts : CountsAre w (h ▹ Done k id ok) (length (held_pages w h)) (length (unsettled_pages w h))
    counts =
        let all : CountsDone w h (h ▹ Done k id ok) r = counts_change w h (Done k id ok) accepted legal r at in
        let none = ap (count_by (λ b. is_live_page w h b && not (is_dirty w h b))) leaves.no_pages in
        record { held_is = all.held_is; unsettled_is = omega (arith, all.settled_is, none) }

pub after_commit_done : (w : Workload) (h : List Event) (e : Event) (r : Request) (q : Kept) (tags : Tags)
    → PagesBefore w q tags h e → IsDoneOf h e r → is_of_commit r ≡ true → PagesAfter w q q tags tags (h ▹ e)
after_commit_done w h e r q tags before done commits =
    let d = done_of w h e r q tags before done in
    let b = before_as w q tags h e (Done d.k d.id d.ok) d.is before in
    after_as w q q tags tags h e (Done d.k d.id d.ok) d.is (record {
      stands = pages_done w h d.k d.id d.ok r q.cache tags b.accepted b.fits.legal d.at (leaves_pages r commits)
          b.stands;
      tags = tags_kept tags q.cache q.cache (λ n. refl);
    })
