-- The requests of the journal write no pages of files and read none, whichever of the four they are.
use Rattle.std.proofs.Common.{◌≡◌, ℕ, List, [], true, false, None, refl}
use Rattle.std.proofs.lemmas.Bool.{both_ways}
use Rattle.split_types.specs.declared.buf.Buf.{Buf}
use Rattle.split_types.specs.declared.request.ReqKind.{ReqKind}
use Rattle.split_types.specs.declared.request.ReqKind.TheVariants.{Read, Pages, Log, Commit, Home, Clear}
use Rattle.split_types.specs.declared.request.Request.{Request}
use Rattle.split_types.specs.declared.request.Service.{Service}
use Rattle.split_types.specs.declared.workload.Workload.{Workload}
use Rattle.split_types.specs.declared.event.Event.{Event}
use Rattle.split_types.specs.Hooks.{covers}
use Rattle.split_types.specs.Requests.{is_write, is_pages}
use Rattle.split_types.specs.Reads.{reads, reads_for}
use Rattle.split_types.specs.HeldPages.{pages_moved}
use Rattle.split_types.specs.Transactions.{is_of_commit}
use Rattle.split_types.specs.Writeback.{after_add}
use Rattle.split_types.specs.Proving.Came.{Journals, journal_request}

-- the request is of the journal: a write of the commit thread, which leaves pages and writeback's service as they are
pub record IsOfJournal (r : Request) : Type 0 where
  pub writes : is_write r ≡ true
  pub commits : is_of_commit r ≡ true
  pub no_pages : is_pages r ≡ false
  pub covers_none : (b : Buf) → covers r b ≡ false
  pub reads_none : (b : Buf) → reads r b ≡ false
  pub reads_for_none : reads_for r ≡ None
  pub moves_none : pages_moved r ≡ []
  pub service_stays : (s : Service) → after_add r.kind s ≡ s

pub of_journal : (w : Workload) (h : List Event) (id : ℕ) (kind : ReqKind) (first n : ℕ) → Journals w h kind first n
    → IsOfJournal (journal_request id kind first n)
of_journal w h id (Read p s g) first n j = absurd (j)
of_journal w h id (Pages s g) first n j = absurd (j)
of_journal w h id (Log t) first n j = record {
  writes = refl;
  commits = refl;
  no_pages = refl;
  covers_none = λ b. refl;
  reads_none = λ b. refl;
  reads_for_none = refl;
  moves_none = refl;
  service_stays = λ s. refl;
}
of_journal w h id (Commit t) first n j = record {
  writes = refl;
  commits = refl;
  no_pages = refl;
  covers_none = λ b. refl;
  reads_none = λ b. refl;
  reads_for_none = refl;
  moves_none = refl;
  service_stays = λ s. refl;
}
of_journal w h id (Home t) first n j = record {
  writes = refl;
  commits = refl;
  no_pages = refl;
  covers_none = λ b. refl;
  reads_none = λ b. refl;
  reads_for_none = refl;
  moves_none = refl;
  service_stays = λ s. refl;
}
of_journal w h id (Clear t) first n j = record {
  writes = refl;
  commits = refl;
  no_pages = refl;
  covers_none = λ b. refl;
  reads_none = λ b. refl;
  reads_for_none = refl;
  moves_none = refl;
  service_stays = λ s. refl;
}

-- so a request that reads a page isn't the commit thread's
pub reads_moves : (r : Request) (b : Buf) → reads r b ≡ true → is_of_commit r ≡ false
reads_moves r b does = by_kind r.kind refl
  where
    by_kind : (k : ReqKind) → r.kind ≡ k → is_of_commit r ≡ false
    by_kind (Read p s g) is = rw is refl
    by_kind (Pages s g) is = rw is refl
    by_kind (Log t) is = absurd (both_ways (reads r b) (rw is refl) does)
    by_kind (Commit t) is = absurd (both_ways (reads r b) (rw is refl) does)
    by_kind (Home t) is = absurd (both_ways (reads r b) (rw is refl) does)
    by_kind (Clear t) is = absurd (both_ways (reads r b) (rw is refl) does)

-- nor is one that covers a page
pub covers_moves : (r : Request) (b : Buf) → covers r b ≡ true → is_of_commit r ≡ false
covers_moves r b does = by_kind r.kind refl
  where
    by_kind : (k : ReqKind) → r.kind ≡ k → is_of_commit r ≡ false
    by_kind (Read p s g) is = rw is refl
    by_kind (Pages s g) is = rw is refl
    by_kind (Log t) is = absurd (both_ways (covers r b) (rw is refl) does)
    by_kind (Commit t) is = absurd (both_ways (covers r b) (rw is refl) does)
    by_kind (Home t) is = absurd (both_ways (covers r b) (rw is refl) does)
    by_kind (Clear t) is = absurd (both_ways (covers r b) (rw is refl) does)
