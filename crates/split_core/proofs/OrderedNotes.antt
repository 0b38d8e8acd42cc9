-- What a commit waits for after one event more: how many requests for pages are unfinished, of all and of those that
-- were added before the last seal.
use Rattle.std.proofs.Common.{◌≡◌, ℕ, suc, ◌+◌, ◌-◌, ◌==◌, ◌<◌, ◌≤◌, List, [], ◌∷◌, ◌++◌, length, filter, slice_get}
use Rattle.std.proofs.Common.{Bool, true, false, cond}
use Rattle.std.proofs.Common.{not, ◌&&◌, Option, Some, None, refl, ap, sym, ◌∙◌, subst, arith, nat_lt, inl, inr}
use Rattle.std.proofs.Common.{count_by, if◌then◌else◌}
use Rattle.std.specs.List.{list_any}
use Rattle.std.proofs.lemmas.Bool.{cond-true, eq-eqb, eqb-true, le-ltb, lt-ltb, cases_Bool, and_from}
use Rattle.std.proofs.lemmas.List.{length_push}
use Rattle.std.proofs.lemmas.List.Sums.{length-filter, count_by-le-length}
use Rattle.std.proofs.lemmas.Option.{slice_get_within, same_Some}
use Rattle.split_types.specs.declared.ids.ReqId.{ReqId}
use Rattle.split_types.specs.declared.ids.Txn.{Txn}
use Rattle.split_types.specs.declared.actor.Actor.{Actor}
use Rattle.split_types.specs.declared.request.Request.{Request}
use Rattle.split_types.specs.declared.workload.Sched.{Sched}
use Rattle.split_types.specs.declared.workload.Sched.TheVariants.{Fifo, Afq, Deadline, Token}
use Rattle.split_types.specs.declared.workload.Workload.{Workload}
use Rattle.split_types.specs.declared.event.Event.{Event}
use Rattle.split_types.specs.declared.event.Event.TheVariants.{Seal, Add, Send, Done}
use Rattle.split_types.specs.History.{◌▹◌, adds}
use Rattle.split_types.specs.Hooks.{maker}
use Rattle.split_types.specs.Rounds.{before_seal, seals, last_txn}
use Rattle.split_types.specs.Requests.{is_numbered, is_write, is_pages, requests, queued, in_flight, unfinished, sends}
use Rattle.split_types.specs.Schedulers.{pick, earlier, eligible_write, is_eligible, oldest_write, oldest_read}
use Rattle.split_types.specs.Legal.{IsLegal}
use Rattle.split_types.specs.Proving.Came.{Came}
use Rattle.split_types.specs.Proving.Came.Came.{came_load, came_add, came_journal, came_send, came_done}
use Rattle.split_types.specs.Proving.Known.{AreWaiting, dones}
use Rattle.split_types.proofs.Shared.{came, find_there, find_some, same_number, number_here, counted_here}
use Rattle.split_types.proofs.Shared.{count_none, count_push, count_without}
use Rattle.split_types.proofs.WaitingLaws.{waiting_add, waiting_send, waiting_done}
use Rattle.split_types.proofs.RequestLaws.{earlier_is}
use Rattle.split_core.specs.declared.note.ordered.Ordered.{Ordered}
use Rattle.split_core.specs.Fits.{AddFits, SealFits}
use Rattle.split_core.specs.Dispatch.{adds_at_seal, is_ordered, OrderedStands}

-- ---- requests of a legal history
pub adds_counted : (h : List Event) → adds h ≡ length (requests h)
adds_counted [] = refl
adds_counted (h ▹ Add by r) = omega (arith, adds_counted h, length_push (requests h) r)
adds_counted (h ▹ e) = adds_counted h

-- a request that is added has the next number
new_number : (w : Workload) (h : List Event) (by : Actor) (r : Request) → Came w h (Add by r) → r.id.0 ≡ adds h
new_number w h by r (came_load p c s piece here absent block at) = refl
new_number w h by r (came_add run block at there placed long) = refl
new_number w h by r (came_journal kind first n j) = refl

-- a write that may be sent is the oldest
oldest_may : (h : List Event) (o : Option Request) (r : Request)
    → (elim o [ None ↦ None | Some q ↦ if is_eligible h q then Some q else None ]) ≡ Some r → o ≡ Some r
oldest_may h None r is = absurd (cc)
oldest_may h (Some q) r is = by_test (is_eligible h q) is
  where
    by_test : (b : Bool) → (if b then Some q else None) ≡ Some r → Some q ≡ Some r
    by_test true at = at
    by_test false at = absurd (cc)

-- one that is picked is queued
picked_queued : (w : Workload) (h : List Event) (r : Request) → pick w h ≡ Some r
    → (k : ℕ) × (slice_get (queued h) k ≡ Some r)
picked_queued w h r picked = by_sched w.sched refl
  where
    by_sched : (s : Sched) → w.sched ≡ s → (k : ℕ) × (slice_get (queued h) k ≡ Some r)
    by_sched Fifo is =
        let fifo : pick w h ≡ earlier (eligible_write h) (oldest_read h) = rw is refl
        in elim (earlier_is (eligible_write h) (oldest_read h) r (sym fifo ∙ picked)) [
          | inl write ↦
              (let there = find_there is_write (queued h) r (oldest_may h (oldest_write h) r write)
              in (there.0, there.1))
          | inr read ↦ (let there = find_there (λ q. not (is_write q)) (queued h) r read in (there.0, there.1))
        ]
    by_sched Afq is = let none : pick w h ≡ None = rw is refl in absurd (cc)
    by_sched Deadline is = let none : pick w h ≡ None = rw is refl in absurd (cc)
    by_sched Token is = let none : pick w h ≡ None = rw is refl in absurd (cc)

abbrev Waits : List Event → Type 0
Waits h = AreWaiting (requests h) (queued h) (in_flight h) (unfinished h) (sends h) (dones h)

waits_next : (w : Workload) (h : List Event) (e : Event) → Waits h → Came w h e → Waits (h ▹ e)
waits_next w h (Add by r) a row =
    waiting_add (requests h) (queued h) (in_flight h) (unfinished h) (sends h) (dones h) r
    (new_number w h by r row ∙ adds_counted h) a
waits_next w h (Send id cost) a (came_send r free picked) =
    let there = picked_queued w h r picked
    in waiting_send (requests h) (queued h) (in_flight h) (unfinished h) (sends h) (dones h) there.0 r there.1 a
waits_next w h (Done j id ok) a (came_done k r at) =
    waiting_done (requests h) (queued h) (in_flight h) (unfinished h) (sends h) (dones h) k r at a
waits_next w h e a row = a

-- each is queued, in flight, or done
waits : (w : Workload) (h : List Event) → IsLegal w h → Waits h
waits w [] legal = record {
  queue_of = λ k r at. absurd (cc);
  flight_of = λ k r at. absurd (cc);
  left_of = λ k r at. absurd (cc);
  once = λ id. omega arith;
  left_once = λ id. refl;
  queue_long = refl;
  flight_long = refl;
}
waits w (h ▹ e) legal = waits_next w h e (waits w h legal.1) (came w h (maker e) e legal.0)

-- one that is unfinished was added
left_below : (w : Workload) (h : List Event) (i : ℕ) (r : Request) → IsLegal w h → slice_get (unfinished h) i ≡ Some r
    → r.id.0 < adds h
left_below w h i r legal at =
    omega (arith, adds_counted h, slice_get_within (requests h) r.id.0 r ((waits w h legal).left_of i r at))

-- no more were added before a seal than in all
before_most : (h : List Event) (t : Txn) → adds (before_seal h t) ≤ adds h
before_most [] t = omega arith
before_most (h ▹ Seal u k) t = by_test (u.0 == t.0) (before_most h t)
  where
    by_test : (b : Bool) → adds (before_seal h t) ≤ adds h → adds (if b then h else before_seal h t) ≤ adds h
    by_test true rest = omega arith
    by_test false rest = rest
before_most (h ▹ Add by r) t = omega (arith, before_most h t)
before_most (h ▹ e) t = before_most h t

-- those that are unfinished are no more than were added
left_most : (h : List Event) → length (unfinished h) ≤ adds h
left_most [] = omega arith
left_most (h ▹ Add by r) = omega (arith, left_most h, length_push (unfinished h) r)
left_most (h ▹ Done k id true) = omega (
  arith,
  left_most h,
  length-filter (λ r. not (is_numbered id r)) (unfinished h),
  count_by-le-length (λ r. not (is_numbered id r)) (unfinished h),
)
left_most (h ▹ e) = left_most h

pub pages_most : (h : List Event) → length (filter is_pages (unfinished h)) ≤ adds h
pages_most h =
    omega (arith, length-filter is_pages (unfinished h), count_by-le-length is_pages (unfinished h), left_most h)

-- ---- an add
-- a new request isn't one of those before the seal
new_unordered : (h : List Event) (r : Request) (before : ℕ) → r.id.0 ≡ adds h → before ≡ adds_at_seal h
    → is_ordered before r ≡ false
new_unordered h r before new is = late (is_pages r) (nat_lt r.id.0 before)
    (le-ltb r.id.0 before (omega (arith, new, is, before_most h (last_txn h))))
  where
    late : (a b : Bool) → b ≡ false → (a && b) ≡ false
    late true b is = is
    late false b is = refl

pub ordered_add : (w : Workload) (h : List Event) (by : Actor) (r : Request) (o new : Ordered) → AddFits w h by r
    → OrderedStands o h → new.added ≡ o.added + 1 → new.before ≡ o.before
    → new.pages ≡ o.pages + cond (is_pages r) 1 0 → new.left ≡ o.left → OrderedStands new (h ▹ Add by r)
ordered_add w h by r o new fits stands added before pages left = record {
  added_is = omega (arith, added, stands.added_is);
  before_is = before ∙ stands.before_is;
  pages_is =
      omega (
        arith,
        pages,
        stands.pages_is,
        length-filter is_pages (unfinished h),
        length-filter is_pages (unfinished h ++ r ∷ []),
        count_push is_pages (unfinished h) r,
      );
  left_is = subst (λ b. new.left ≡ length (filter (is_ordered b) (unfinished h ++ r ∷ []))) (sym before) (omega (
    arith,
    left,
    stands.left_is,
    length-filter (is_ordered o.before) (unfinished h),
    length-filter (is_ordered o.before) (unfinished h ++ r ∷ []),
    count_push (is_ordered o.before) (unfinished h) r,
    none (is_ordered o.before r) (new_unordered h r o.before fits.number stands.before_is),
  ));
}
  where
    none : (b : Bool) → b ≡ false → ◌≡◌ {A = ℕ} (cond b 1 0) 0
    none b is = rw is refl

-- ---- a seal
-- two tests that agree on each element keep the same
same_kept : {X : Type 0} (p q : X → Bool) (xs : List X)
    → ((i : ℕ) (x : X) → slice_get xs i ≡ Some x → p x ≡ q x) → filter p xs ≡ filter q xs
same_kept p q [] same = refl
same_kept p q (x ∷ xs) same =
    rw (same 0 x refl) (ap (λ l. if q x then x ∷ l else l) (same_kept p q xs (λ i y at. same (suc i) y at)))

pub ordered_seal : (w : Workload) (h : List Event) (t : Txn) (k : ℕ) (o new : Ordered) → IsLegal w h → SealFits w h t k
    → OrderedStands o h → new.added ≡ o.added → new.before ≡ o.added → new.pages ≡ o.pages → new.left ≡ o.pages
    → OrderedStands new (h ▹ Seal t k)
ordered_seal w h t k o new legal fits stands added before pages left = record {
  added_is = added ∙ stands.added_is;
  before_is = all ∙ sym (ap adds (cond-true (t.0 == seals h + 1) h (before_seal h (last_txn (h ▹ Seal t k)))
      (eq-eqb t.0 (seals h + 1) (ap (λ x. x.0) fits.number))));
  pages_is = pages ∙ stands.pages_is;
  left_is = left ∙ stands.pages_is ∙ ap length (same_kept is_pages (is_ordered new.before) (unfinished h) kept);
}
  where
    all : new.before ≡ adds h
    all = before ∙ stands.added_is

    and_true : (a b : Bool) → b ≡ true → a ≡ (a && b)
    and_true true b is = sym is
    and_true false b is = refl

    kept : (i : ℕ) (r : Request) → slice_get (unfinished h) i ≡ Some r → is_pages r ≡ is_ordered new.before r
    kept i r at = and_true (is_pages r) (nat_lt r.id.0 new.before)
        (lt-ltb r.id.0 new.before (omega (arith, all, left_below w h i r legal at)))

-- ---- a completion
-- the request that is done is unfinished before, and no other of its number is
pub record IsLeft (h : List Event) (k : ℕ) (id : ReqId) (ok : Bool) (r : Request) : Type 0 where
  pub place : ℕ
  pub at : slice_get (unfinished h) place ≡ Some r
  pub own : is_numbered id r ≡ true
  pub once : count_by (is_numbered id) (unfinished h) ≤ 1
  pub rest : unfinished (h ▹ Done k id ok) ≡ filter (λ q. not (is_numbered id q)) (unfinished h)

flight_left : (h : List Event) (k : ℕ) (q r : Request) → Waits h → slice_get (in_flight h) k ≡ Some q
    → slice_get (requests h) q.id.0 ≡ Some r → IsLeft h k q.id true r
flight_left h k q r a flies at =
    let here = counted_here (is_numbered q.id) (in_flight h) k q flies (number_here q)
    in let any : list_any (is_numbered q.id) (unfinished h) ≡ true =
    elim (cases_Bool (list_any (is_numbered q.id) (unfinished h))) [
      | inl some ↦ some
      | inr none ↦ absurd (omega (arith, here, a.left_once q.id, count_none (is_numbered q.id) (unfinished h) none))
    ]
    in let there = find_some (is_numbered q.id) (unfinished h) any
    in let same : q ≡ r = same_Some q r (sym (a.flight_of k q flies) ∙ at)
    in let is : there.element ≡ q =
    same_number (requests h) (unfinished h) there.place there.element q a.left_of there.there
    (a.flight_of k q flies) there.passes
    in record {
      place = there.place;
      at = there.there ∙ ap Some (is ∙ same);
      own = subst (λ x. is_numbered q.id x ≡ true) same (number_here q);
      once = omega (arith, a.once q.id, a.left_once q.id);
      rest = refl;
    }

done_came : (w : Workload) (h : List Event) (k : ℕ) (id : ReqId) (ok : Bool) (r : Request) → Waits h
    → Came w h (Done k id ok) → slice_get (requests h) id.0 ≡ Some r → IsLeft h k id ok r
done_came w h k id ok r a (came_done j q flies) at = flight_left h j q r a flies at

pub done_left : (w : Workload) (h : List Event) (k : ℕ) (id : ReqId) (ok : Bool) (r : Request)
    → IsLegal w (h ▹ Done k id ok) → slice_get (requests h) id.0 ≡ Some r → IsLeft h k id ok r
done_left w h k id ok r legal at =
    done_came w h k id ok r (waits w h legal.1) (came w h (maker (Done k id ok)) (Done k id ok) legal.0) at

-- one less passes a test where it does
done_less : (h : List Event) (k : ℕ) (id : ReqId) (ok : Bool) (r : Request) (p : Request → Bool)
    → IsLeft h k id ok r
    → length (filter p (unfinished (h ▹ Done k id ok))) + cond (p r) 1 0 ≡ length (filter p (unfinished h))
done_less h k id ok r p left =
    let rest = filter (λ q. not (is_numbered id q)) (unfinished h)
    in omega (
      arith,
      ap (λ l. length (filter p l)) left.rest,
      length-filter p rest,
      length-filter p (unfinished h),
      count_without p (is_numbered id) (unfinished h) left.place r left.at left.own left.once,
    )

-- so it is counted before
pub done_page : (h : List Event) (k : ℕ) (id : ReqId) (ok : Bool) (r : Request) (o : Ordered) → IsLeft h k id ok r
    → OrderedStands o h → is_pages r ≡ true → 1 ≤ o.pages
done_page h k id ok r o left stands pages = omega (
  arith,
  stands.pages_is,
  length-filter is_pages (unfinished h),
  counted_here is_pages (unfinished h) left.place r left.at pages,
)

pub done_early : (h : List Event) (k : ℕ) (id : ReqId) (ok : Bool) (r : Request) (o : Ordered) → IsLeft h k id ok r
    → OrderedStands o h → is_pages r ≡ true → id.0 < o.before → 1 ≤ o.left
done_early h k id ok r o left stands pages early =
    let ordered : is_ordered o.before r ≡ true =
    and_from (is_pages r) (nat_lt r.id.0 o.before) pages
    (lt-ltb r.id.0 o.before (omega (arith, early, eqb-true r.id.0 id.0 left.own)))
    in omega (
      arith,
      stands.left_is,
      length-filter (is_ordered o.before) (unfinished h),
      counted_here (is_ordered o.before) (unfinished h) left.place r left.at ordered,
    )

one_less : (b : Bool) (n : ℕ) → cond b (n - 1) n ≡ n - cond b 1 0
one_less true n = refl
one_less false n = omega arith

pub ordered_done : (h : List Event) (k : ℕ) (id : ReqId) (ok : Bool) (r : Request) (o new : Ordered)
    (pages early : Bool) → IsLeft h k id ok r → OrderedStands o h → is_pages r ≡ pages → nat_lt id.0 o.before ≡ early
    → new.added ≡ o.added → new.before ≡ o.before → new.pages ≡ cond pages (o.pages - 1) o.pages
    → new.left ≡ cond (pages && early) (o.left - 1) o.left → OrderedStands new (h ▹ Done k id ok)
ordered_done h k id ok r o new pages early is stands of_pages of_first added before counts left = record {
  added_is = added ∙ stands.added_is;
  before_is = before ∙ stands.before_is;
  pages_is =
      omega (
        arith,
        counts,
        one_less pages o.pages,
        one (is_pages r) pages of_pages,
        stands.pages_is,
        done_less h k id ok r is_pages is,
      );
  left_is = subst (λ b. new.left ≡ length (filter (is_ordered b) (unfinished (h ▹ Done k id ok)))) (sym before) (omega (
    arith,
    left,
    one_less (pages && early) o.left,
    one (is_ordered o.before r) (pages && early) ordered,
    stands.left_is,
    done_less h k id ok r (is_ordered o.before) is,
  ));
}
  where
    ordered : is_ordered o.before r ≡ (pages && early)
    ordered =
        ap (λ n. is_pages r && nat_lt n o.before) (eqb-true r.id.0 id.0 is.own) ∙ ap (λ b. is_pages r && b) of_first
        ∙ ap (λ b. b && early) of_pages

    one : (a b : Bool) → a ≡ b → ◌≡◌ {A = ℕ} (cond a 1 0) (cond b 1 0)
    one a b same = ap {B = ℕ} (λ b. cond b 1 0) same
