-- Requests by their numbers, and which of them wait: what an add, a send and a completion change.
use Rattle.std.proofs.Common.{◌≡◌, ℕ, suc, ◌+◌, ◌==◌, ◌≤◌, List, [], ◌∷◌, ◌++◌, length, slice_get, filter, Bool, true, false, not, Some, refl, arith, subst, sym, inl, inr, cond, count_by, ◌∙◌, ap}
use Rattle.std.specs.Prelude.{remove}
use Rattle.std.proofs.lemmas.Bool.{cases_eq, eq-eqb, ne_eqb, eqb-true, cond-true, cond-false, not_from_true, not_from_false}
use Rattle.std.proofs.lemmas.List.{length_push}
use Rattle.std.proofs.lemmas.List.Filters.{length-filter_both}
use Rattle.std.proofs.lemmas.List.Sums.{length-filter}
use Rattle.std.proofs.lemmas.Option.{slice_get_within, same_Some}
use Rattle.split_types.specs.declared.ids.ReqId.{ReqId}
use Rattle.split_types.specs.declared.request.Request.{Request}
use Rattle.split_types.specs.Requests.{is_numbered}
use Rattle.split_types.specs.Proving.Known.{AreNumbered, AreOf, AreWaiting}
use Rattle.split_types.proofs.Lists.{slice_get-push, slice_get-push_old, slice_get-push_new, count_push, count_no, counted_here, count_filter, count_filter_out, filter_one, filter_there}

-- ---- numbers
pub number_here : (r : Request) → is_numbered r.id r ≡ true
number_here r = eq-eqb r.id.0 r.id.0 refl

pub numbered_push : (all : List Request) (count : ℕ) (first long : ℕ → ℕ) (r : Request) → r.id.0 ≡ count
    → AreNumbered all count first long
    → AreNumbered (all ++ r ∷ []) (count + 1) (λ id. cond (id == count) r.first (first id))
    (λ id. cond (id == count) r.n (long id))
numbered_push all count first long r id n = record {
  counted = omega (arith, n.counted, length_push all r);
  number_is = λ i q at. elim (slice_get-push all r i q at) [
    | inl old ↦ n.number_is i q old
    | inr new ↦ omega (arith, ap (λ x. x.id.0) new.1, n.counted, new.0)
  ];
  first_is = λ i q at. elim (slice_get-push all r i q at) [
    | inl old ↦
        cond-false (i == count) r.first (first i)
        (ne_eqb i count (λ (e : i ≡ count). omega (arith, n.counted, slice_get_within all i q old)))
        ∙ n.first_is i q old
    | inr new ↦
        cond-true (i == count) r.first (first i) (eq-eqb i count (omega (arith, new.0, n.counted)))
        ∙ ap (λ x. x.first) new.1
  ];
  length_is = λ i q at. elim (slice_get-push all r i q at) [
    | inl old ↦
        cond-false (i == count) r.n (long i)
        (ne_eqb i count (λ (e : i ≡ count). omega (arith, n.counted, slice_get_within all i q old)))
        ∙ n.length_is i q old
    | inr new ↦
        cond-true (i == count) r.n (long i) (eq-eqb i count (omega (arith, new.0, n.counted))) ∙ ap (λ x. x.n) new.1
  ];
}

-- ---- requests among all of them
of_push : (all some : List Request) (r : Request) → AreOf all some → AreOf (all ++ r ∷ []) some
of_push all some r of k q at = slice_get-push_old all r q.id.0 q (of k q at)

of_both : (all some : List Request) (r : Request) → slice_get all r.id.0 ≡ Some r → AreOf all some
    → AreOf all (some ++ r ∷ [])
of_both all some r own of k q at = elim (slice_get-push some r k q at) [
  | inl old ↦ of k q old
  | inr new ↦ subst (λ x. slice_get all x.id.0 ≡ Some x) new.1 own
]

of_filter : (p : Request → Bool) (all some : List Request) → AreOf all some → AreOf all (filter p some)
of_filter p all some of k q at = let there = filter_there p some k q at in of there.0 q there.1

-- a number that none of them has
pub none_numbered : (all some : List Request) (id : ReqId) → AreOf all some → length all ≤ id.0
    → count_by (is_numbered id) some ≡ 0
none_numbered all [] id of past = refl
none_numbered all (q ∷ some) id of past =
    let other : is_numbered id q ≡ false =
    ne_eqb q.id.0 id.0 (λ (e : q.id.0 ≡ id.0). omega (arith, slice_get_within all q.id.0 q (of 0 q refl)))
    in count_no (is_numbered id) q some other ∙ none_numbered all some id (λ k r at. of (suc k) r at) past

-- two of one number are one
pub same_number : (all some : List Request) (k : ℕ) (q r : Request) → AreOf all some → slice_get some k ≡ Some q
    → slice_get all r.id.0 ≡ Some r → is_numbered r.id q ≡ true → q ≡ r
same_number all some k q r of at own numbered =
    same_Some q r (sym (of k q at) ∙ ap (slice_get all) (eqb-true q.id.0 r.id.0 numbered) ∙ own)

-- ---- counts by number
pub one_more : (id : ReqId) (some : List Request) (r : Request)
    → count_by (is_numbered id) (some ++ r ∷ []) ≡ count_by (is_numbered id) some + cond (r.id.0 == id.0) 1 0
one_more id some r = count_push (is_numbered id) some r

-- without the requests of one number the others are as before
pub count_others : (id j : ReqId) (some : List Request) → (j.0 ≡ id.0 → ⊥)
    → count_by (is_numbered j) (filter (λ r. not (is_numbered id r)) some) ≡ count_by (is_numbered j) some
count_others id j some other =
    count_filter (is_numbered j) (λ r. not (is_numbered id r)) some
    (λ r numbered. apart r (eqb-true r.id.0 j.0 numbered))
  where
    apart : (r : Request) → r.id.0 ≡ j.0 → not (is_numbered id r) ≡ true
    apart r is = not_from_false (is_numbered id r) (ne_eqb r.id.0 id.0 (λ (e : r.id.0 ≡ id.0). other (omega arith)))

pub count_gone : (id j : ReqId) (some : List Request) → j.0 ≡ id.0
    → count_by (is_numbered j) (filter (λ r. not (is_numbered id r)) some) ≡ 0
count_gone id j some same =
    count_filter_out (is_numbered j) (λ r. not (is_numbered id r)) some
    (λ r numbered. one r (eqb-true r.id.0 j.0 numbered))
  where
    one : (r : Request) → r.id.0 ≡ j.0 → not (is_numbered id r) ≡ false
    one r is = not_from_true (is_numbered id r) (eq-eqb r.id.0 id.0 (omega arith))

length_others : (id : ReqId) (some : List Request)
    → length (filter (λ r. not (is_numbered id r)) some) + count_by (is_numbered id) some ≡ length some
length_others id some =
    omega (
      arith,
      length-filter_both (is_numbered id) (λ r. not (is_numbered id r)) (λ r. refl) some,
      length-filter (is_numbered id) some,
    )

-- a count for each number, by whether it is this one
pub by_number : (id : ReqId) (P : ReqId → Type 0) → ((j : ReqId) → j.0 ≡ id.0 → P j)
    → ((j : ReqId) → (j.0 ≡ id.0 → ⊥) → P j) → (j : ReqId) → P j
by_number id P own others j = elim (cases_eq j.0 id.0) [ inl same ↦ own j same | inr other ↦ others j other ]

-- ---- an add
pub waiting_add : (all queue flight left : List Request) (sent done : ℕ) (r : Request) → r.id.0 ≡ length all
    → AreWaiting all queue flight left sent done
    → AreWaiting (all ++ r ∷ []) (queue ++ r ∷ []) flight (left ++ r ∷ []) sent done
waiting_add all queue flight left sent done r id a =
    let own : slice_get (all ++ r ∷ []) r.id.0 ≡ Some r = ap (slice_get (all ++ r ∷ [])) id ∙ slice_get-push_new all r
    in record {
      queue_of = of_both (all ++ r ∷ []) queue r own (of_push all queue r a.queue_of);
      flight_of = of_push all flight r a.flight_of;
      left_of = of_both (all ++ r ∷ []) left r own (of_push all left r a.left_of);
      once = by_number r.id (λ j. count_by (is_numbered j) (queue ++ r ∷ []) + count_by (is_numbered j) flight ≤ 1)
          (λ j same. omega (
            arith,
            one_more j queue r,
            at_most (r.id.0 == j.0),
            none_numbered all queue j a.queue_of (omega arith),
            none_numbered all flight j a.flight_of (omega arith),
          ))
          (λ j other. omega (
            arith,
            one_more j queue r,
            no_more (r.id.0 == j.0) (ne_eqb r.id.0 j.0 (λ (e : r.id.0 ≡ j.0). other (sym e))),
            a.once j,
          ));
      left_once = λ j. omega (arith, one_more j queue r, one_more j left r, a.left_once j);
      queue_long = omega (arith, length_push queue r, length_push all r, a.queue_long);
      flight_long = a.flight_long;
    }
  where
    at_most : (b : Bool) → cond b 1 0 ≤ 1
    at_most true = omega arith
    at_most false = omega arith

    no_more : (b : Bool) → b ≡ false → ◌≡◌ {A = ℕ} (cond b 1 0) 0
    no_more b is = rw is refl

-- ---- a send
-- the request at a place in the queue is the one of its number there
pub queue_one : (all queue flight left : List Request) (sent done k : ℕ) (r : Request)
    → AreWaiting all queue flight left sent done → slice_get queue k ≡ Some r
    → (filter (is_numbered r.id) queue ≡ r ∷ []) × (filter (λ q. not (is_numbered r.id q)) queue ≡ remove queue k)
queue_one all queue flight left sent done k r a at =
    filter_one (is_numbered r.id) queue k r at (number_here r) (omega (arith, a.once r.id))

-- and that at a place in flight
pub flight_one : (all queue flight left : List Request) (sent done k : ℕ) (r : Request)
    → AreWaiting all queue flight left sent done → slice_get flight k ≡ Some r
    → (filter (is_numbered r.id) flight ≡ r ∷ []) × (filter (λ q. not (is_numbered r.id q)) flight ≡ remove flight k)
flight_one all queue flight left sent done k r a at =
    filter_one (is_numbered r.id) flight k r at (number_here r) (omega (arith, a.once r.id))

-- a request in the queue isn't in flight, nor the other way round
counts_queued : (all queue flight left : List Request) (sent done k : ℕ) (r : Request)
    → AreWaiting all queue flight left sent done → slice_get queue k ≡ Some r
    → (j : ReqId) → j.0 ≡ r.id.0 → (count_by (is_numbered j) queue ≡ 1) × (count_by (is_numbered j) flight ≡ 0)
counts_queued all queue flight left sent done k r a at j same =
    let here = counted_here (is_numbered j) queue k r at (eq-eqb r.id.0 j.0 (sym same))
    in (omega (arith, a.once j, here), omega (arith, a.once j, here))

counts_flying : (all queue flight left : List Request) (sent done k : ℕ) (r : Request)
    → AreWaiting all queue flight left sent done → slice_get flight k ≡ Some r
    → (j : ReqId) → j.0 ≡ r.id.0 → (count_by (is_numbered j) queue ≡ 0) × (count_by (is_numbered j) flight ≡ 1)
counts_flying all queue flight left sent done k r a at j same =
    let here = counted_here (is_numbered j) flight k r at (eq-eqb r.id.0 j.0 (sym same))
    in (omega (arith, a.once j, here), omega (arith, a.once j, here))

sent_waiting : (all queue flight left : List Request) (sent done k : ℕ) (r : Request) → slice_get queue k ≡ Some r
    → AreWaiting all queue flight left sent done
    → AreWaiting all (filter (λ q. not (is_numbered r.id q)) queue) (flight ++ r ∷ []) left (sent + 1) done
sent_waiting all queue flight left sent done k r at a = record {
  queue_of = of_filter (λ q. not (is_numbered r.id q)) all queue a.queue_of;
  flight_of = of_both all flight r (a.queue_of k r at) a.flight_of;
  left_of = a.left_of;
  once =
      by_number r.id
      (λ j. count_by (is_numbered j) (filter (λ q. not (is_numbered r.id q)) queue) + count_by (is_numbered j)
      (flight ++ r ∷ []) ≤ 1)
      (λ j same. omega (
        arith,
        count_gone r.id j queue same,
        one_more j flight r,
        one (r.id.0 == j.0) (eq-eqb r.id.0 j.0 (sym same)),
        (counts_queued all queue flight left sent done k r a at j same).1,
      ))
      (λ j other. omega (
        arith,
        count_others r.id j queue other,
        one_more j flight r,
        none (r.id.0 == j.0) (ne_eqb r.id.0 j.0 (λ (e : r.id.0 ≡ j.0). other (sym e))),
        a.once j,
      ));
  left_once =
      by_number r.id
      (λ j. count_by (is_numbered j) left
      ≡ count_by (is_numbered j) (filter (λ q. not (is_numbered r.id q)) queue) + count_by (is_numbered j)
      (flight ++ r ∷ []))
      (λ j same. omega (
        arith,
        count_gone r.id j queue same,
        one_more j flight r,
        one (r.id.0 == j.0) (eq-eqb r.id.0 j.0 (sym same)),
        counts_queued all queue flight left sent done k r a at j same,
        a.left_once j,
      ))
      (λ j other. omega (
        arith,
        count_others r.id j queue other,
        one_more j flight r,
        none (r.id.0 == j.0) (ne_eqb r.id.0 j.0 (λ (e : r.id.0 ≡ j.0). other (sym e))),
        a.left_once j,
      ));
  queue_long =
      omega (
        arith,
        length_others r.id queue,
        (counts_queued all queue flight left sent done k r a at r.id refl).0,
        a.queue_long,
      );
  flight_long = omega (arith, length_push flight r, a.flight_long);
}
  where
    one : (b : Bool) → b ≡ true → ◌≡◌ {A = ℕ} (cond b 1 0) 1
    one b is = rw is refl

    none : (b : Bool) → b ≡ false → ◌≡◌ {A = ℕ} (cond b 1 0) 0
    none b is = rw is refl

pub waiting_send : (all queue flight left : List Request) (sent done k : ℕ) (r : Request)
    → slice_get queue k ≡ Some r → AreWaiting all queue flight left sent done
    → AreWaiting all (filter (λ q. not (is_numbered r.id q)) queue) (flight ++ filter (is_numbered r.id) queue) left
    (sent + 1) done
waiting_send all queue flight left sent done k r at a =
    subst (λ l. AreWaiting all (filter (λ q. not (is_numbered r.id q)) queue) (flight ++ l) left (sent + 1) done)
    (sym (queue_one all queue flight left sent done k r a at).0)
    (sent_waiting all queue flight left sent done k r at a)

-- ---- a completion
pub waiting_done : (all queue flight left : List Request) (sent done k : ℕ) (r : Request)
    → slice_get flight k ≡ Some r → AreWaiting all queue flight left sent done
    → AreWaiting all queue (filter (λ q. not (is_numbered r.id q)) flight)
    (filter (λ q. not (is_numbered r.id q)) left) sent (done + 1)
waiting_done all queue flight left sent done k r at a = record {
  queue_of = a.queue_of;
  flight_of = of_filter (λ q. not (is_numbered r.id q)) all flight a.flight_of;
  left_of = of_filter (λ q. not (is_numbered r.id q)) all left a.left_of;
  once =
      by_number r.id
      (λ j. count_by (is_numbered j) queue + count_by (is_numbered j)
      (filter (λ q. not (is_numbered r.id q)) flight) ≤ 1)
      (λ j same. omega
      (arith, count_gone r.id j flight same, (counts_flying all queue flight left sent done k r a at j same).0))
      (λ j other. omega (arith, count_others r.id j flight other, a.once j));
  left_once =
      by_number r.id
      (λ j. count_by (is_numbered j) (filter (λ q. not (is_numbered r.id q)) left)
      ≡ count_by (is_numbered j) queue + count_by (is_numbered j) (filter (λ q. not (is_numbered r.id q)) flight))
      (λ j same. omega (
        arith,
        count_gone r.id j left same,
        count_gone r.id j flight same,
        (counts_flying all queue flight left sent done k r a at j same).0,
      ))
      (λ j other. omega (arith, count_others r.id j left other, count_others r.id j flight other, a.left_once j));
  queue_long = a.queue_long;
  flight_long =
      omega (
        arith,
        length_others r.id flight,
        (counts_flying all queue flight left sent done k r a at r.id refl).1,
        a.flight_long,
      );
}

-- ---- nothing waits
pub nothing_left : (all left : List Request) → ((id : ReqId) → count_by (is_numbered id) left ≡ 0) → left ≡ []
nothing_left all [] none = refl
nothing_left all (r ∷ left) none =
    absurd (omega (arith, counted_here (is_numbered r.id) (r ∷ left) 0 r refl (number_here r), none r.id))
