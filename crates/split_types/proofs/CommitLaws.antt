-- No commit request is sent before the data of its transaction is done.
use Rattle.std.proofs.Common.{◌≡◌, ℕ, ◌==◌, ◌<◌, List, [], ◌∷◌, slice_get, Bool, true, false, not, ◌&&◌, Option, Some, None, IsTrue, refl, arith, subst, sym, inl, inr, ◌∙◌, ap, if◌then◌else◌}
use Rattle.std.specs.List.{list_any}
use Rattle.std.proofs.lemmas.Bool.{cases_Bool, both_ways, and_parts, and_from, not_from_true}
use Rattle.std.proofs.lemmas.Option.{same_Some, slice_get_within}
use Rattle.split_types.specs.declared.ids.Txn.{Txn}
use Rattle.split_types.specs.declared.ids.ReqId.{ReqId}
use Rattle.split_types.specs.declared.facts.ReqState.TheVariants as state
use Rattle.split_types.specs.declared.request.ReqKind.TheVariants.{Commit}
use Rattle.split_types.specs.declared.request.Request.{Request}
use Rattle.split_types.specs.declared.workload.Workload.{Workload}
use Rattle.split_types.specs.declared.event.Event.{Event}
use Rattle.split_types.specs.declared.event.Event.TheVariants.{Seal, Add, Send}
use Rattle.split_types.specs.History.{◌▹◌, adds}
use Rattle.split_types.specs.Hooks.{maker}
use Rattle.split_types.specs.Rounds.{before_seal}
use Rattle.split_types.specs.Requests.{is_numbered, is_write, is_pages, requests, queued, unfinished, state_of}
use Rattle.split_types.specs.Reads.{request_numbered}
use Rattle.split_types.specs.Schedulers.{pick, eligible_write, oldest_write, oldest_read, is_eligible, is_data_done, has_stopped}
use Rattle.split_types.specs.Accepted.{IsAccepted}
use Rattle.split_types.specs.Legal.{IsLegal}
use Rattle.split_types.specs.JournalPromises.{CommitOrder}
use Rattle.split_types.specs.Proving.Came.{Came}
use Rattle.split_types.specs.Proving.Came.Came.{came_send}
use Rattle.split_types.specs.Proving.Known.{KnownRequests}
use Rattle.split_types.proofs.CameLaws.{came}
use Rattle.split_types.proofs.Lists.{slice_get-push_old, find_there, list_any_here, count_none}
use Rattle.split_types.proofs.RequestLaws.{earlier_is, fifo_picks, picked_there, known_requests}

-- the requests before a seal stand where they stood
pub before_there : (h : List Event) (t : Txn) (i : ℕ) (q : Request) → slice_get (requests (before_seal h t)) i ≡ Some q
    → slice_get (requests h) i ≡ Some q
before_there [] t i q at = absurd (cc)
before_there (h ▹ Seal u k) t i q at = by_test (u.0 == t.0) at (λ is. before_there h t i q is)
  where
    by_test : (b : Bool) → slice_get (requests (if b then h else before_seal h t)) i ≡ Some q
        → (slice_get (requests (before_seal h t)) i ≡ Some q → slice_get (requests h) i ≡ Some q)
        → slice_get (requests h) i ≡ Some q
    by_test true is rest = is
    by_test false is rest = rest is
before_there (h ▹ Add by r) t i q at = slice_get-push_old (requests h) r i q (before_there h t i q at)
before_there (h ▹ e) t i q at = before_there h t i q at

-- a write that may be sent is eligible
eligible_may : (h : List Event) (o : Option Request) (r : Request)
    → (elim o [ None ↦ None | Some q ↦ if is_eligible h q then Some q else None ]) ≡ Some r → is_eligible h r ≡ true
eligible_may h None r is = absurd (cc)
eligible_may h (Some q) r is = by_test (is_eligible h q) refl is
  where
    by_test : (b : Bool) → is_eligible h q ≡ b → (if b then Some q else None) ≡ Some r → is_eligible h r ≡ true
    by_test true may at = subst (λ x. is_eligible h x ≡ true) (same_Some q r at) may
    by_test false may at = absurd (cc)

data_of : (h : List Event) (r : Request) (t : Txn) → r.kind ≡ Commit t → is_eligible h r ≡ true
    → is_data_done h t ≡ true
data_of h r t kind may = (and_parts (not (has_stopped h)) (is_data_done h t) (sym same ∙ may)).1
  where
    same : is_eligible h r ≡ (not (has_stopped h) && is_data_done h t)
    same = rw kind refl

writes_commit : (r : Request) (t : Txn) → r.kind ≡ Commit t → not (is_write r) ≡ false
writes_commit r t kind = rw kind refl

-- a commit request that is picked has its data done
pub picked_data : (w : Workload) (h : List Event) (r : Request) (t : Txn) → IsAccepted w → pick w h ≡ Some r
    → r.kind ≡ Commit t → is_data_done h t ≡ true
picked_data w h r t accepted picked kind =
    elim (earlier_is (eligible_write h) (oldest_read h) r (sym (fifo_picks w h accepted) ∙ picked)) [
      | inl write ↦ data_of h r t kind (eligible_may h (oldest_write h) r write)
      | inr read ↦
          (let there = find_there (λ q. not (is_write q)) (queued h) r read
          in absurd (both_ways (not (is_write r)) (writes_commit r t kind) there.2))
    ]

-- where the data of a transaction is done, each request for pages that was added before its seal is done well
pub data_is_done : (h : List Event) (t : Txn) (i : ℕ) (q : Request) → KnownRequests h → is_data_done h t ≡ true
    → slice_get (requests (before_seal h t)) i ≡ Some q → is_pages q ≡ true → state_of h q.id.0 ≡ state.Done
data_is_done h t i q f done at pages = elim (cases_Bool (list_any (is_numbered q.id) (unfinished h))) [
  | inl left ↦
      (let any = list_any_here (λ r. is_pages r && list_any (is_numbered r.id) (unfinished h))
      (requests (before_seal h t)) i q at
      (and_from (is_pages q) (list_any (is_numbered q.id) (unfinished h)) pages left)
      in absurd (both_ways (is_data_done h t) (not_from_true
      (list_any (λ r. is_pages r && list_any (is_numbered r.id) (unfinished h)) (requests (before_seal h t))) any)
      done))
  | inr gone ↦
      (let there = before_there h t i q at
      in f.finished q.id
      (omega (arith, f.numbered.number_is i q there, f.numbered.counted, slice_get_within (requests h) i q there))
      (count_none (is_numbered q.id) (unfinished h) gone))
]

sent_data : (w : Workload) (h : List Event) (id : ReqId) (cost : ℕ) (r : Request) (t : Txn) → IsAccepted w
    → KnownRequests h → Came w h (Send id cost) → request_numbered h id ≡ Some r → r.kind ≡ Commit t
    → is_data_done h t ≡ true
sent_data w h id cost r t accepted f (came_send q free picked) named kind =
    let there = picked_there w h q accepted picked
    in let same : q ≡ r = same_Some q r (sym (f.named q.id q (f.waiting.queue_of there.0 q there.1)) ∙ named)
    in picked_data w h r t accepted (picked ∙ ap Some same) kind

pub commit_order : CommitOrder
commit_order w h id cost r q t i accepted legal named kind at pages =
    let f = known_requests w h accepted legal.1
    in data_is_done h t i q f
    (sent_data w h id cost r t accepted f (came w h (maker (Send id cost)) (Send id cost) legal.0) named kind) at pages
