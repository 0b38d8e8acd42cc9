-- Of the requests of an accepted workload the one that was added first is picked, where it may be sent.
use Rattle.std.proofs.Common.{◌≡◌, ℕ, zero, suc, ◌+◌, ◌≤◌, List, [], ◌∷◌, slice_get, find, Bool, true, false, not, Option, Some, None, refl, arith, inl, inr, ◌∙◌, ap, nat_lt, if◌then◌else◌}
use Rattle.std.proofs.lemmas.Bool.{both_ways, cases_Bool, cond-true, cond-false, not_from_true, not_from_false, lt-ltb, le-ltb}
use Rattle.std.proofs.lemmas.Option.{same_Some}
use Rattle.split_types.specs.declared.request.ReqKind.{ReqKind}
use Rattle.split_types.specs.declared.request.ReqKind.TheVariants.{Read, Pages, Log, Commit, Home, Clear}
use Rattle.split_types.specs.declared.request.Request.{Request}
use Rattle.split_types.specs.declared.workload.Workload.{Workload}
use Rattle.split_types.specs.declared.event.Event.{Event}
use Rattle.split_types.specs.History.{adds}
use Rattle.split_types.specs.Requests.{is_write, queued}
use Rattle.split_types.specs.Transactions.{is_of_commit}
use Rattle.split_types.specs.Schedulers.{pick, earlier, is_eligible, has_stopped}
use Rattle.split_types.specs.Accepted.{IsAccepted}
use Rattle.split_types.specs.Proving.Known.{Known, RiseTo}
use Rattle.split_types.proofs.RequestLaws.{fifo_picks}
use Rattle.split_types.proofs.Lists.{find_there}

-- a request that isn't the commit thread's waits for nothing
pub eligible : (h : List Event) (r : Request) → is_of_commit r ≡ false → has_stopped h ≡ false
    → is_eligible h r ≡ true
eligible h r none going = by_kind r.kind refl
  where
    by_kind : (k : ReqKind) → r.kind ≡ k → is_eligible h r ≡ true
    by_kind (Commit t) is = absurd (both_ways (is_of_commit r) none (rw is refl))
    by_kind (Read p s g) is = rw (going, is) refl
    by_kind (Pages s g) is = rw (going, is) refl
    by_kind (Log t) is = rw (going, is) refl
    by_kind (Home t) is = rw (going, is) refl
    by_kind (Clear t) is = rw (going, is) refl

-- a request of some has a number from theirs on
pub number_from : (low : ℕ) (rs : List Request) (high k : ℕ) (r : Request) → RiseTo low rs high
    → slice_get rs k ≡ Some r → low ≤ r.id.0
number_from low [] high k r rise at = absurd (cc)
number_from low (q ∷ rs) high zero r rise at = omega (arith, rise.0, ap (λ x. x.id.0) (same_Some q r at))
number_from low (q ∷ rs) high (suc k) r rise at =
    omega (arith, rise.0, number_from (q.id.0 + 1) rs high k r rise.1 at)

-- a write goes before the reads behind it
before_reads : (r : Request) (rs : List Request) (high : ℕ) (o : Option Request) → RiseTo (r.id.0 + 1) rs high
    → find (λ q. not (is_write q)) rs ≡ o → earlier (Some r) o ≡ Some r
before_reads r rs high None rise found = refl
before_reads r rs high (Some q) rise found =
    let there = find_there (λ x. not (is_write x)) rs q found
    in let later = number_from (r.id.0 + 1) rs high there.0 q rise there.1
    in cond-true (nat_lt r.id.0 q.id.0) (Some r) (Some q) (lt-ltb r.id.0 q.id.0 (omega (arith, later)))

-- a read goes before the writes behind it
before_writes : (h : List Event) (r : Request) (rs : List Request) (high : ℕ) (o : Option Request)
    → RiseTo (r.id.0 + 1) rs high → find is_write rs ≡ o
    → earlier (elim o [ None ↦ None | Some q ↦ if is_eligible h q then Some q else None ]) (Some r) ≡ Some r
before_writes h r rs high None rise found = refl
before_writes h r rs high (Some q) rise found = by_test (is_eligible h q)
  where
    at : (k : ℕ) × (slice_get rs k ≡ Some q)
    at = (let there = find_there is_write rs q found in (there.0, there.1))

    by_test : (b : Bool) → earlier (if b then Some q else None) (Some r) ≡ Some r
    by_test true =
        let later = number_from (r.id.0 + 1) rs high at.0 q rise at.1
        in cond-false (nat_lt q.id.0 r.id.0) (Some q) (Some r) (le-ltb q.id.0 r.id.0 (omega (arith, later)))
    by_test false = refl

-- of requests with rising numbers, the first of which may be sent, that one
first_is : (h : List Event) (rs : List Request) (high : ℕ) → RiseTo 0 rs high
    → ((r : Request) → slice_get rs 0 ≡ Some r → is_eligible h r ≡ true)
    → earlier (elim (find is_write rs) [ None ↦ None | Some r ↦ if is_eligible h r then Some r else None ])
    (find (λ r. not (is_write r)) rs) ≡ slice_get rs 0
first_is h [] high rise may = refl
first_is h (r ∷ rs) high rise may = elim (cases_Bool (is_write r)) [
  | inl write ↦
      (let own = cond-true (is_write r) (Some r) (find is_write rs) write
      in let others =
      cond-false (not (is_write r)) (Some r) (find (λ x. not (is_write x)) rs) (not_from_true (is_write r) write)
      in ap (λ o. earlier (elim o [
        | None ↦ None
        | Some q ↦ if is_eligible h q then Some q else None
      ]) (find (λ x. not (is_write x)) (r ∷ rs))) own
      ∙ ap (λ b. earlier (if b then Some r else None) (find (λ x. not (is_write x)) (r ∷ rs))) (may r refl)
      ∙ ap (earlier (Some r)) others
      ∙ before_reads r rs high (find (λ x. not (is_write x)) rs) rise.1 refl)
  | inr read ↦
      (let own = cond-false (is_write r) (Some r) (find is_write rs) read
      in let others =
      cond-true (not (is_write r)) (Some r) (find (λ x. not (is_write x)) rs) (not_from_false (is_write r) read)
      in ap (λ o. earlier (elim o [
        | None ↦ None
        | Some q ↦ if is_eligible h q then Some q else None
      ]) (find (λ x. not (is_write x)) (r ∷ rs))) own
      ∙ ap (earlier (elim (find is_write rs) [
        | None ↦ None
        | Some q ↦ if is_eligible h q then Some q else None
      ])) others
      ∙ before_writes h r rs high (find is_write rs) rise.1 refl)
]

-- the first in the queue is picked where it may be sent, as all may but a commit request that awaits its data
pub picks_first : (w : Workload) (h : List Event) → IsAccepted w → Known w h
    → ((r : Request) → slice_get (queued h) 0 ≡ Some r → is_eligible h r ≡ true) → pick w h ≡ slice_get (queued h) 0
picks_first w h accepted f may = fifo_picks w h accepted ∙ first_is h (queued h) (adds h) f.rises may
