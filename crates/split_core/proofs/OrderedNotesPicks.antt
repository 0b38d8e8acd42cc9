-- What is kept of a commit's data decides which request is sent next, as the scheduler of the workload does.
use Rattle.std.proofs.Common.{◌≡◌, ℕ, ◌==◌, ◌≤◌, List, length, filter, slice_get, Bool, true, false}
use Rattle.std.proofs.Common.{not, ◌&&◌, ◌||◌, Option, Some, None, refl, ap, sym, ◌∙◌, arith, nat_lt, inl, inr}
use Rattle.std.proofs.Common.{if◌then◌else◌}
use Rattle.std.specs.List.{list_any}
use Rattle.std.proofs.lemmas.Bool.{cases_Bool, and_parts, and_from, lt-ltb, ltb-true, both_ways}
use Rattle.std.proofs.lemmas.Bool.Decides.{nat_tests}
use Rattle.std.proofs.lemmas.List.Sums.{length-filter}
use Rattle.std.proofs.lemmas.Option.{slice_get_within, same_Some}
use Rattle.split_types.specs.declared.ids.Txn.{Txn}
use Rattle.split_types.specs.declared.request.ReqKind.{ReqKind}
use Rattle.split_types.specs.declared.request.ReqKind.TheVariants.{Read, Pages, Log, Commit, Home, Clear}
use Rattle.split_types.specs.declared.request.Request.{Request}
use Rattle.split_types.specs.declared.workload.Workload.{Workload}
use Rattle.split_types.specs.declared.event.Event.{Event}
use Rattle.split_types.specs.History.{adds}
use Rattle.split_types.specs.Rounds.{before_seal, last_txn}
use Rattle.split_types.specs.Requests.{is_numbered, is_write, is_pages, requests, queued, unfinished}
use Rattle.split_types.specs.Schedulers.{pick, earlier, has_stopped, is_eligible, is_data_done, oldest_write}
use Rattle.split_types.specs.Schedulers.{oldest_read}
use Rattle.split_types.specs.Transactions.{is_of_commit, under_way, stage, Stage}
use Rattle.split_types.specs.Transactions.Stage.{Fresh, Sealed, Logging, Committing, Homing, Clearing}
use Rattle.split_types.specs.Accepted.{IsAccepted}
use Rattle.split_types.specs.Legal.{IsLegal}
use Rattle.split_types.specs.Proving.Known.{KnownRequests}
use Rattle.split_types.specs.Proving.JournalKnown.{AtStage}
use Rattle.split_types.proofs.Shared.{known_requests, journal_known, find_there, find_some, list_any_here, some_at}
use Rattle.split_types.proofs.Shared.{counted_here, count_none, any_counted, same_number, number_here}
use Rattle.split_types.proofs.CommitLaws.{before_there}
use Rattle.split_types.proofs.RequestLaws.{fifo_picks}
use Rattle.sched_api.specs.View.{View}
use Rattle.sched_api.specs.Picks as sched
use Rattle.split_core.specs.declared.note.ordered.Ordered.{Ordered}
use Rattle.split_core.specs.Dispatch.{is_ordered, commits_first, is_data_done_for, is_ordered_done, OrderedStands}
use Rattle.split_core.proofs.OrderedNotes.{adds_counted}

-- ---- the commit request that waits is that of the last seal
-- a request that is queued is unfinished
queued_left : (h : List Event) (k : ℕ) (r : Request) → KnownRequests h → slice_get (queued h) k ≡ Some r
    → (i : ℕ) × (slice_get (unfinished h) i ≡ Some r)
queued_left h k r f at =
    let here = counted_here (is_numbered r.id) (queued h) k r at (number_here r)
    in let any : list_any (is_numbered r.id) (unfinished h) ≡ true =
    elim (cases_Bool (list_any (is_numbered r.id) (unfinished h))) [
      | inl some ↦ some
      | inr none ↦
          absurd (omega (arith, here, f.waiting.left_once r.id, count_none (is_numbered r.id) (unfinished h) none))
    ]
    in let there = find_some (is_numbered r.id) (unfinished h) any
    in let is : there.element ≡ r =
    same_number (requests h) (unfinished h) there.place there.element r f.waiting.left_of there.there
    (f.waiting.queue_of k r at) there.passes
    in (there.place, there.there ∙ ap Some is)

-- one of the commit thread's is under way
is_under_way : (h : List Event) (i : ℕ) (r : Request) → slice_get (unfinished h) i ≡ Some r → is_of_commit r ≡ true
    → 1 ≤ under_way h
is_under_way h i r at commits =
    omega (arith, length-filter is_of_commit (unfinished h), counted_here is_of_commit (unfinished h) i r at commits)

commits : (r : Request) (t : Txn) → r.kind ≡ Commit t → is_of_commit r ≡ true
commits r t is = rw is refl

same_txn : (t u : Txn) → t.0 ≡ u.0 → t ≡ u
same_txn t u e = ap (λ n. record { 0 = n }) e

-- a commit request that is unfinished is that of the transaction which was sealed last
at_stage : (h : List Event) (cleared : ℕ) (s : Stage) (i : ℕ) (r : Request) (t : Txn) → AtStage h cleared s
    → slice_get (unfinished h) i ≡ Some r → r.kind ≡ Commit t → t ≡ last_txn h
at_stage h cleared Fresh i r t stands at is =
    absurd (omega (arith, stands.0, is_under_way h i r at (commits r t is)))
at_stage h cleared (Sealed u k) i r t stands at is =
    absurd (omega (arith, stands.0, is_under_way h i r at (commits r t is)))
at_stage h cleared (Logging u) i r t stands at is =
    let kind = stands.3 i r at (commits r t is) in absurd (cc)
at_stage h cleared (Committing u) i r t stands at is =
    let kind = stands.3 i r at (commits r t is)
    in let same : t ≡ u = cc
    in same ∙ same_txn u (last_txn h) stands.1
at_stage h cleared (Homing u) i r t stands at is =
    let kind = stands.2.kinds i r at (commits r t is) in absurd (cc)
at_stage h cleared (Clearing u) i r t stands at is = elim stands [
  | inl one ↦ (let kind = one.2 i r at (commits r t is) in absurd (cc))
  | inr none ↦ absurd (omega (arith, none, is_under_way h i r at (commits r t is)))
]

waits_last : (w : Workload) (h : List Event) (k : ℕ) (r : Request) (t : Txn) → IsAccepted w → IsLegal w h
    → slice_get (queued h) k ≡ Some r → r.kind ≡ Commit t → t ≡ last_txn h
waits_last w h k r t accepted legal at is =
    let left = queued_left h k r (known_requests w h accepted legal) at
    in let j = journal_known w h accepted legal
    in at_stage h j.cleared (stage h) left.0 r t j.stands left.1 is

-- ---- its data is done where none of the requests for pages from before the seal is left
same_tests : (a b : Bool) → (a ≡ true → b ≡ true) → (b ≡ true → a ≡ true) → a ≡ b
same_tests true b there back = sym (there refl)
same_tests false true there back = absurd (both_ways false refl (back refl))
same_tests false false there back = refl

module _ (h : List Event) (t : Txn) (f : KnownRequests h) where
  -- a request for pages that isn't done well yet
  abbrev is_left : Request → Bool
  is_left r = is_pages r && list_any (is_numbered r.id) (unfinished h)

  -- such a request is unfinished
  left_there : list_any is_left (requests (before_seal h t)) ≡ true
      → list_any (is_ordered (adds (before_seal h t))) (unfinished h) ≡ true
  left_there any =
      let q = find_some is_left (requests (before_seal h t)) any
      in let parts = and_parts (is_pages q.element) (list_any (is_numbered q.element.id) (unfinished h)) q.passes
      in let u = find_some (is_numbered q.element.id) (unfinished h) parts.1
      in let at = before_there h t q.place q.element q.there
      in let number = f.numbered.number_is q.place q.element at
      in let same : u.element ≡ q.element =
      same_number (requests h) (unfinished h) u.place u.element q.element f.waiting.left_of u.there
      (ap (slice_get (requests h)) number ∙ at) u.passes
      in let early = lt-ltb q.element.id.0 (adds (before_seal h t))
      (omega (
        arith,
        number,
        adds_counted (before_seal h t),
        slice_get_within (requests (before_seal h t)) q.place q.element q.there,
      ))
      in list_any_here (is_ordered (adds (before_seal h t))) (unfinished h) u.place q.element (u.there ∙ ap Some same)
      (and_from (is_pages q.element) (nat_lt q.element.id.0 (adds (before_seal h t))) parts.0 early)

  -- and one that is unfinished, and one of the first, is such a request
  left_back : list_any (is_ordered (adds (before_seal h t))) (unfinished h) ≡ true
      → list_any is_left (requests (before_seal h t)) ≡ true
  left_back any =
      let u = find_some (is_ordered (adds (before_seal h t))) (unfinished h) any
      in let parts = and_parts (is_pages u.element) (nat_lt u.element.id.0 (adds (before_seal h t))) u.passes
      in let q = some_at (requests (before_seal h t)) u.element.id.0
      (omega (arith, adds_counted (before_seal h t), ltb-true u.element.id.0 (adds (before_seal h t)) parts.1))
      in let same : q.0 ≡ u.element =
      same_Some q.0 u.element
      (sym (before_there h t u.element.id.0 q.0 q.1) ∙ f.waiting.left_of u.place u.element u.there)
      in list_any_here is_left (requests (before_seal h t)) u.element.id.0 u.element (q.1 ∙ ap Some same)
      (and_from (is_pages u.element) (list_any (is_numbered u.element.id) (unfinished h)) parts.0
      (list_any_here (is_numbered u.element.id) (unfinished h) u.place u.element u.there (number_here u.element)))

  none_left : (length (filter (is_ordered (adds (before_seal h t))) (unfinished h)) == 0) ≡ is_data_done h t
  none_left =
      let count = length-filter (is_ordered (adds (before_seal h t))) (unfinished h)
      in let any = any_counted (is_ordered (adds (before_seal h t))) (unfinished h)
      in let same = same_tests (list_any is_left (requests (before_seal h t)))
      (list_any (is_ordered (adds (before_seal h t))) (unfinished h)) left_there left_back
      in by_count (length (filter (is_ordered (adds (before_seal h t))) (unfinished h)))
      ∙ ap not (ap (nat_lt 0) count ∙ sym any ∙ sym same)
    where
      by_count : (n : ℕ) → (n == 0) ≡ not (nat_lt 0 n)
      by_count n = grind (arith, nat_tests)

-- ---- so what is kept says whether the oldest write may be sent
or_true : (b : Bool) → (b || true) ≡ true
or_true true = refl
or_true false = refl

or_false : (b : Bool) → (b || false) ≡ b
or_false true = refl
or_false false = refl

pub ordered_is : (w : Workload) (h : List Event) (o : Ordered) → IsAccepted w → IsLegal w h → OrderedStands o h
    → (o.left == 0 || not (commits_first (queued h))) ≡ is_ordered_done h
ordered_is w h o accepted legal stands = by_oldest (oldest_write h) refl
  where
    -- the first write in the queue
    by_kind : (r : Request) (kind : ReqKind) → oldest_write h ≡ Some r → r.kind ≡ kind
        → (o.left == 0 || not (commits_first (queued h))) ≡ is_ordered_done h
    by_kind r (Commit t) first is =
        let there = find_there is_write (queued h) r first
        in let last = waits_last w h there.0 r t accepted legal there.1 is
        in let its : is_ordered_done h ≡ is_data_done h t = rw (first, is) refl
        in let waits : commits_first (queued h) ≡ true = rw (first, is) refl
        in let before : o.before ≡ adds (before_seal h t) =
        stands.before_is ∙ ap (λ u. adds (before_seal h u)) (sym last)
        in ap (λ b. o.left == 0 || not b) waits ∙ or_false (o.left == 0)
        ∙ ap (λ n. n == 0) (stands.left_is ∙ ap (λ b. length (filter (is_ordered b) (unfinished h))) before)
        ∙ none_left h t (known_requests w h accepted legal) ∙ sym its
    by_kind r (Read p s g) first is = rw (first, is) (or_true (o.left == 0))
    by_kind r (Pages s g) first is = rw (first, is) (or_true (o.left == 0))
    by_kind r (Log t) first is = rw (first, is) (or_true (o.left == 0))
    by_kind r (Home t) first is = rw (first, is) (or_true (o.left == 0))
    by_kind r (Clear t) first is = rw (first, is) (or_true (o.left == 0))

    by_oldest : (first : Option Request) → oldest_write h ≡ first
        → (o.left == 0 || not (commits_first (queued h))) ≡ is_ordered_done h
    by_oldest None first = rw first (or_true (o.left == 0))
    by_oldest (Some r) first = by_kind r r.kind first refl

-- ---- and the same request is picked
-- a write may be sent where the data is done that it waits for
eligible_is : (h : List Event) (r : Request) → has_stopped h ≡ false
    → is_eligible h r ≡ is_data_done_for h (Some r)
eligible_is h r going = by_kind r.kind refl
  where
    by_kind : (kind : ReqKind) → r.kind ≡ kind → is_eligible h r ≡ is_data_done_for h (Some r)
    by_kind (Commit t) is = rw (going, is) refl
    by_kind (Read p s g) is = rw (going, is) refl
    by_kind (Pages s g) is = rw (going, is) refl
    by_kind (Log t) is = rw (going, is) refl
    by_kind (Home t) is = rw (going, is) refl
    by_kind (Clear t) is = rw (going, is) refl

same_write : (h : List Event) (done : Bool) (first : Option Request) → has_stopped h ≡ false
    → done ≡ is_data_done_for h first
    → (if false || not done then None else first)
    ≡ (elim first [ None ↦ None | Some r ↦ if is_eligible h r then Some r else None ])
same_write h done None going is = by_test done
  where
    by_test : (b : Bool) → ◌≡◌ {A = Option Request} (if false || not b then None else None) None
    by_test true = refl
    by_test false = refl
same_write h done (Some r) going is =
    by_test done ∙ ap (λ b. if b then Some r else None) (is ∙ sym (eligible_is h r going))
  where
    by_test : (b : Bool)
        → ◌≡◌ {A = Option Request} (if false || not b then None else Some r) (if b then Some r else None)
    by_test true = refl
    by_test false = refl

pub picks_same : (w : Workload) (h : List Event) (f : View) → IsAccepted w → IsLegal w h → f.stopped ≡ false
    → f.ordered_done ≡ is_ordered_done h → sched.fifo_pick f (queued h) ≡ pick w h
picks_same w h f accepted legal stopped ordered =
    let going = (known_requests w h accepted legal).going
    in ap (λ b. earlier (if b || not f.ordered_done then None else oldest_write h) (oldest_read h)) stopped
    ∙ ap (λ o. earlier o (oldest_read h)) (same_write h f.ordered_done (oldest_write h) going ordered)
    ∙ sym (fifo_picks w h accepted)
