-- Rounds of transactions, said by the places of their seals.
use Rattle.std.proofs.Common.{◌≡◌, ℕ, ◌==◌, ◌<◌, ◌≤◌, ◌⊎◌, List, [], length, Bool, true, false, Some, None, refl, arith, subst, sym, inl, inr, ◌∙◌, ap, if◌then◌else◌}
use Rattle.std.specs.List.{list_any}
use Rattle.std.proofs.lemmas.Bool.{cases_Bool, or_cases, or_left, or_right, both_ways, cond-true, cond-false, cases_order}
use Rattle.std.proofs.lemmas.Option.{same_Some}
use Rattle.split_types.specs.declared.ids.Txn.{Txn}
use Rattle.split_types.specs.declared.event.Event.{Event}
use Rattle.split_types.specs.declared.event.Event.TheVariants.{Seal, Add}
use Rattle.split_types.specs.History.{◌▹◌, event_at, older}
use Rattle.split_types.specs.Rounds.{Sealing, is_clear, open_round, round_of}
use Rattle.split_types.specs.ByPlace.{IsLast, IsInRound, is_seal, is_seal_of, is_clear_add}
use Rattle.split_types.proofs.History.{event_at-new, event_at-stays, event_at-none, event_at-within, older-before, older-stays}

-- ---- the last event that passes a test
pub last_more : (test : Event → Bool) (h : List Event) (e : Event) (j : ℕ) → test e ≡ false → IsLast test h j
    → IsLast test (h ▹ e) j
last_more test h e j fails l = record {
  event = l.event;
  there = event_at-stays h e j (event_at-within h l.event j l.there) ∙ l.there;
  passes = l.passes;
  last = λ k d above at. elim (cases_order k (length h)) [
    | inl same ↦
        subst (λ x. test x ≡ false)
        (same_Some e d (sym (event_at-new h e) ∙ ap (event_at (h ▹ e)) (sym same) ∙ at)) fails
    | inr (inl below) ↦ l.last k d above (sym (event_at-stays h e k below) ∙ at)
    | inr (inr past) ↦ (let none : event_at (h ▹ e) k ≡ None = event_at-none (h ▹ e) k (omega arith) in cc)
  ];
}

pub last_new : (test : Event → Bool) (h : List Event) (e : Event) → test e ≡ true → IsLast test (h ▹ e) (length h)
last_new test h e passes = record {
  event = e;
  there = event_at-new h e;
  passes = passes;
  last = λ k d above at. (let none : event_at (h ▹ e) k ≡ None = event_at-none (h ▹ e) k (omega arith) in cc);
}

-- what the newest event is where it is the last, and where it isn't
pub last_here : (test : Event → Bool) (h : List Event) (e : Event) (j : ℕ) → test e ≡ true → IsLast test (h ▹ e) j
    → j ≡ length h
last_here test h e j passes l = elim (cases_order j (length h)) [
  | inl same ↦ same
  | inr (inl below) ↦ absurd (both_ways (test e) (l.last (length h) e below (event_at-new h e)) passes)
  | inr (inr past) ↦ (let within = event_at-within (h ▹ e) l.event j l.there in omega arith)
]

pub last_before : (test : Event → Bool) (h : List Event) (e : Event) (j : ℕ) → test e ≡ false
    → IsLast test (h ▹ e) j → IsLast test h j
last_before test h e j fails l = elim (cases_order j (length h)) [
  | inl same ↦
      absurd
      (both_ways (test e) fails
      (subst (λ x. test x ≡ true)
      (sym (same_Some e l.event (sym (event_at-new h e) ∙ ap (event_at (h ▹ e)) (sym same) ∙ l.there))) l.passes))
  | inr (inl below) ↦ record {
    event = l.event;
    there = sym (event_at-stays h e j below) ∙ l.there;
    passes = l.passes;
    last = λ k d above at. l.last k d above (event_at-stays h e k (event_at-within h d k at) ∙ at);
  }
  | inr (inr past) ↦ (let within = event_at-within (h ▹ e) l.event j l.there in absurd (omega arith))
]

-- ---- the round under way
-- a seal stands at this place, and no clear request is added after it
record IsSince (h : List Event) (i : ℕ) : Type 0 where
  event : Event
  there : event_at h i ≡ Some event
  seals : is_seal event ≡ true
  no_clear : (k : ℕ) (e : Event) → i < k → event_at h k ≡ Some e → is_clear_add e ≡ false

since_new : (h : List Event) (t : Txn) (k : ℕ) → IsSince (h ▹ Seal t k) (length h)
since_new h t k = record {
  event = Seal t k;
  there = event_at-new h (Seal t k);
  seals = refl;
  no_clear =
      λ j d above at.
      (let none : event_at (h ▹ Seal t k) j ≡ None = event_at-none (h ▹ Seal t k) j (omega arith) in cc);
}

since_more : (h : List Event) (e : Event) (i : ℕ) → is_clear_add e ≡ false → IsSince h i → IsSince (h ▹ e) i
since_more h e i other s = record {
  event = s.event;
  there = event_at-stays h e i (event_at-within h s.event i s.there) ∙ s.there;
  seals = s.seals;
  no_clear = λ k d above at. elim (cases_order k (length h)) [
    | inl same ↦
        subst (λ x. is_clear_add x ≡ false)
        (same_Some e d (sym (event_at-new h e) ∙ ap (event_at (h ▹ e)) (sym same) ∙ at)) other
    | inr (inl below) ↦ s.no_clear k d above (sym (event_at-stays h e k below) ∙ at)
    | inr (inr past) ↦ (let none : event_at (h ▹ e) k ≡ None = event_at-none (h ▹ e) k (omega arith) in cc)
  ];
}

since_before : (h : List Event) (e : Event) (i : ℕ) → i < length h → IsSince (h ▹ e) i
    → (IsSince h i) × (is_clear_add e ≡ false)
since_before h e i below s = (
  record {
    event = s.event;
    there = sym (event_at-stays h e i below) ∙ s.there;
    seals = s.seals;
    no_clear = λ k d above at. s.no_clear k d above (event_at-stays h e k (event_at-within h d k at) ∙ at);
  },
  s.no_clear (length h) e below (event_at-new h e),
)

-- an event that is no seal
round_other : (h : List Event) (e : Event) → is_seal e ≡ false
    → open_round (h ▹ e) ≡ (if is_clear_add e then [] else open_round h)
round_other h (Seal t k) other = absurd (cc)
round_other h (Add by r) other = refl
round_other h e other = refl

-- some seal of the round under way passes a test of its transaction and of the history before it
record Passes (test : Txn → List Event → Bool) (h : List Event) : Type 0 where
  place : ℕ
  txn : Txn
  k : ℕ
  since : IsSince h place
  there : event_at h place ≡ Some (Seal txn k)
  passes : test txn (older h place) ≡ true

passes_more : (test : Txn → List Event → Bool) (h : List Event) (e : Event) → is_clear_add e ≡ false → Passes test h
    → Passes test (h ▹ e)
passes_more test h e other p =
    let below = event_at-within h (Seal p.txn p.k) p.place p.there
    in record {
      place = p.place;
      txn = p.txn;
      k = p.k;
      since = since_more h e p.place other p.since;
      there = event_at-stays h e p.place below ∙ p.there;
      passes = ap (test p.txn) (older-stays h e p.place (omega arith)) ∙ p.passes;
    }

passes_new : (test : Txn → List Event → Bool) (h : List Event) (t : Txn) (k : ℕ) → test t h ≡ true
    → Passes test (h ▹ Seal t k)
passes_new test h t k is = record {
  place = length h;
  txn = t;
  k = k;
  since = since_new h t k;
  there = event_at-new h (Seal t k);
  passes = ap (test t) (older-before h (Seal t k)) ∙ is;
}

abbrev pub any_of : (Txn → List Event → Bool) → List Sealing → Bool
any_of test round = list_any (λ s. test s.txn s.before) round

any_passes : (test : Txn → List Event → Bool) (h : List Event) → any_of test (open_round h) ≡ true → Passes test h
any_passes test [] any = absurd (cc)
any_passes test (h ▹ Seal t k) any = elim (or_cases (test t h) (any_of test (open_round h)) any) [
  | inl here ↦ passes_new test h t k here
  | inr later ↦ passes_more test h (Seal t k) refl (any_passes test h later)
]
any_passes test (h ▹ Add by r) any = elim (cases_Bool (is_clear r)) [
  | inl clears ↦ (let none = ap (any_of test) (cond-true (is_clear r) [] (open_round h) clears) in absurd (cc))
  | inr other ↦
      passes_more test h (Add by r) other
      (any_passes test h (sym (ap (any_of test) (cond-false (is_clear r) [] (open_round h) other)) ∙ any))
]
any_passes test (h ▹ e) any = passes_more test h e refl (any_passes test h any)

-- the other way round
seal_at : (h : List Event) (t u : Txn) (k j i : ℕ) → i ≡ length h → event_at (h ▹ Seal t k) i ≡ Some (Seal u j) → t ≡ u
seal_at h t u k j i last at =
    let same : Seal t k ≡ Seal u j =
    same_Some (Seal t k) (Seal u j) (sym (event_at-new h (Seal t k)) ∙ ap (event_at (h ▹ Seal t k)) (sym last) ∙ at)
    in cc

passes_before : (test : Txn → List Event → Bool) (h : List Event) (e : Event) (p : Passes test (h ▹ e))
    → p.place < length h → (Passes test h) × (is_clear_add e ≡ false)
passes_before test h e p below =
    let since = since_before h e p.place below p.since
    in (
      record {
        place = p.place;
        txn = p.txn;
        k = p.k;
        since = since.0;
        there = sym (event_at-stays h e p.place below) ∙ p.there;
        passes = ap (test p.txn) (sym (older-stays h e p.place (omega arith))) ∙ p.passes;
      },
      since.1,
    )

place_before : (test : Txn → List Event → Bool) (h : List Event) (e : Event) (p : Passes test (h ▹ e))
    → is_seal e ≡ false → p.place < length h
place_before test h e p other = elim (cases_order p.place (length h)) [
  | inl same ↦
      (let here : e ≡ Seal p.txn p.k =
      same_Some e (Seal p.txn p.k) (sym (event_at-new h e) ∙ ap (event_at (h ▹ e)) (sym same) ∙ p.there)
      in absurd (both_ways (is_seal e) other (ap is_seal here)))
  | inr (inl below) ↦ below
  | inr (inr past) ↦ (let within = event_at-within (h ▹ e) (Seal p.txn p.k) p.place p.there in absurd (omega arith))
]

passes_other : (test : Txn → List Event → Bool) (h : List Event) (e : Event) → is_seal e ≡ false
    → (Passes test h → any_of test (open_round h) ≡ true) → Passes test (h ▹ e)
    → any_of test (open_round (h ▹ e)) ≡ true
passes_other test h e other more p =
    let before = passes_before test h e p (place_before test h e p other)
    in ap (any_of test) (round_other h e other ∙ cond-false (is_clear_add e) [] (open_round h) before.1) ∙ more before.0

passes_any : (test : Txn → List Event → Bool) (h : List Event) → Passes test h → any_of test (open_round h) ≡ true
passes_any test [] p = absurd (let at = p.there in cc)
passes_any test (h ▹ Seal t k) p = elim (cases_order p.place (length h)) [
  | inl same ↦
      or_left (test t h) (any_of test (open_round h))
      (subst (λ u. test u h ≡ true) (sym (seal_at h t p.txn k p.k p.place same p.there))
      (ap (test p.txn) (sym (ap (older (h ▹ Seal t k)) same ∙ older-before h (Seal t k))) ∙ p.passes))
  | inr (inl below) ↦
      or_right (test t h) (any_of test (open_round h))
      (passes_any test h (passes_before test h (Seal t k) p below).0)
  | inr (inr past) ↦
      (let within = event_at-within (h ▹ Seal t k) (Seal p.txn p.k) p.place p.there
      in absurd (omega arith))
]
passes_any test (h ▹ e) p = passes_other test h e refl (λ q. passes_any test h q) p

-- ---- the round of a transaction
-- where an event passes a test there is a last one that does
record LastFrom (test : Event → Bool) (h : List Event) (i : ℕ) : Type 0 where
  place : ℕ
  from : i ≤ place
  last : IsLast test h place

last_from : (test : Event → Bool) (h : List Event) (e : Event) (i : ℕ) → event_at h i ≡ Some e → test e ≡ true
    → LastFrom test h i
last_from test [] e i at passes = absurd (cc)
last_from test (h ▹ d) e i at passes = elim (cases_Bool (test d)) [
  | inl here ↦ record {
    place = length h;
    from = (let within = event_at-within (h ▹ d) e i at in omega arith);
    last = last_new test h d here;
  }
  | inr past ↦ elim (cases_order i (length h)) [
    | inl same ↦
        absurd
        (both_ways (test d) past
        (subst (λ x. test x ≡ true)
        (sym (same_Some d e (sym (event_at-new h d) ∙ ap (event_at (h ▹ d)) (sym same) ∙ at))) passes))
    | inr (inl below) ↦
        (let before = last_from test h e i (sym (event_at-stays h d i below) ∙ at) passes
        in record { place = before.place; from = before.from; last = last_more test h d before.place past before.last })
    | inr (inr beyond) ↦ (let within = event_at-within (h ▹ d) e i at in absurd (omega arith))
  ]
]

abbrev of_txn : Txn → Txn → List Event → Bool
of_txn t u g = u.0 == t.0

abbrev is_open : List Event → Txn → Bool
is_open h t = any_of (of_txn t) (open_round h)

round_is : (h : List Event) (e : Event) (t : Txn) → is_open (h ▹ e) t ≡ true → round_of (h ▹ e) t ≡ open_round (h ▹ e)
round_is h e t is = cond-true (is_open (h ▹ e) t) (open_round (h ▹ e)) (round_of h t) is

round_before : (h : List Event) (e : Event) (t : Txn) → is_open (h ▹ e) t ≡ false → round_of (h ▹ e) t ≡ round_of h t
round_before h e t is = cond-false (is_open (h ▹ e) t) (open_round (h ▹ e)) (round_of h t) is

-- a seal of the transaction that no clear request follows opens its round
opens : (h : List Event) (t : Txn) (i : ℕ) (e : Event) → event_at h i ≡ Some e → is_seal_of t e ≡ true
    → ((k : ℕ) (d : Event) → i < k → event_at h k ≡ Some d → is_clear_add d ≡ false) → is_open h t ≡ true
opens h t i (Seal u k) at seals no_clear =
    passes_any (of_txn t) h
    (record {
      place = i;
      txn = u;
      k = k;
      since = record { event = Seal u k; there = at; seals = refl; no_clear = no_clear };
      there = at;
      passes = seals;
    })
opens h t i e at seals no_clear = absurd (cc)

-- the other way round, its last seal is one that no clear request follows
open_last : (h : List Event) (t : Txn) → is_open h t ≡ true
    → (own : ℕ) × IsLast (is_seal_of t) h own
    × ((k : ℕ) (d : Event) → own < k → event_at h k ≡ Some d → is_clear_add d ≡ false)
open_last h t is =
    let p = any_passes (of_txn t) h is
    in let last = last_from (is_seal_of t) h (Seal p.txn p.k) p.place p.there p.passes
    in (last.place, last.last, λ k d above at. p.since.no_clear k d (omega (arith, last.from)) at)

-- a seal of the round passes a test of the history before it
pub record InRound (test : List Event → Bool) (h : List Event) (t : Txn) : Type 0 where
  pub place : ℕ
  pub in_round : IsInRound h t place
  pub passes : test (older h place) ≡ true

seal_is_no_clear : (e : Event) → is_seal e ≡ true → is_clear_add e ≡ false
seal_is_no_clear (Seal t k) is = refl
seal_is_no_clear e is = absurd (cc)

seal_of_seals : (t : Txn) (e : Event) → is_seal_of t e ≡ true → is_seal e ≡ true
seal_of_seals t (Seal u k) is = refl
seal_of_seals t e is = absurd (cc)

in_open : (test : List Event → Bool) (h : List Event) (t : Txn) → is_open h t ≡ true → Passes (λ u g. test g) h
    → InRound test h t
in_open test h t is p =
    let own = open_last h t is
    in record {
      place = p.place;
      in_round = record {
        own = own.0;
        own_seal = own.1;
        event = Seal p.txn p.k;
        there = p.there;
        seals = refl;
        no_clear =
            λ k d between at. elim between
            [ inl after ↦ own.2 k d after.0 at | inr before ↦ p.since.no_clear k d before.0 at ];
      };
      passes = p.passes;
    }

in_more : (test : List Event → Bool) (h : List Event) (e : Event) (t : Txn) → is_seal_of t e ≡ false
    → InRound test h t → InRound test (h ▹ e) t
in_more test h e t other r =
    let in' = r.in_round
    in let own_below = event_at-within h in'.own_seal.event in'.own in'.own_seal.there
    in let below = event_at-within h in'.event r.place in'.there
    in record {
      place = r.place;
      in_round = record {
        own = in'.own;
        own_seal = last_more (is_seal_of t) h e in'.own other in'.own_seal;
        event = in'.event;
        there = event_at-stays h e r.place below ∙ in'.there;
        seals = in'.seals;
        no_clear =
            λ k d between at. in'.no_clear k d between
            (sym (event_at-stays h e k (within k between own_below below)) ∙ at);
      };
      passes = ap test (older-stays h e r.place (omega arith)) ∙ r.passes;
    }
  where
    within : (k : ℕ) → (r.in_round.own < k × k < r.place) ⊎ (r.place < k × k < r.in_round.own)
        → r.in_round.own < length h → r.place < length h → k < length h
    within k (inl after) own_below below = omega arith
    within k (inr before) own_below below = omega arith

-- a seal of the transaction opens its round
seal_opens : (h : List Event) (e : Event) (t : Txn) → is_seal_of t e ≡ true → is_open (h ▹ e) t ≡ true
seal_opens h e t is =
    opens (h ▹ e) t (length h) e (event_at-new h e) is
    (λ k d above at. (let none : event_at (h ▹ e) k ≡ None = event_at-none (h ▹ e) k (omega arith) in cc))

not_seal : (h : List Event) (e : Event) (t : Txn) → is_open (h ▹ e) t ≡ false → is_seal_of t e ≡ false
not_seal h e t closed =
    elim (cases_Bool (is_seal_of t e))
    [ inl seals ↦ absurd (both_ways (is_open (h ▹ e) t) closed (seal_opens h e t seals)) | inr other ↦ other ]

pub round_in : (test : List Event → Bool) (h : List Event) (t : Txn)
    → list_any (λ s. test s.before) (round_of h t) ≡ true → InRound test h t
round_in test [] t any = absurd (cc)
round_in test (h ▹ e) t any = elim (cases_Bool (is_open (h ▹ e) t)) [
  | inl here ↦
      in_open test (h ▹ e) t here
      (any_passes (λ u g. test g) (h ▹ e) (sym (ap (any_of (λ u g. test g)) (round_is h e t here)) ∙ any))
  | inr closed ↦
      in_more test h e t (not_seal h e t closed)
      (round_in test h t (sym (ap (any_of (λ u g. test g)) (round_before h e t closed)) ∙ any))
]

-- ---- the other way round
-- a seal of a round that is under way is one that no clear request follows
in_passes : (test : List Event → Bool) (h : List Event) (t : Txn) → is_open h t ≡ true → InRound test h t
    → Passes (λ u g. test g) h
in_passes test h t is r = as_seal r.in_round.event r.in_round.there r.in_round.seals
  where
    in' : IsInRound h t r.place
    in' = r.in_round

    no_clear : (k : ℕ) (d : Event) → r.place < k → event_at h k ≡ Some d → is_clear_add d ≡ false
    no_clear k d above at =
        let p = open_last h t is
        in let own : p.0 ≡ in'.own = last_one p.0 in'.own p.1 in'.own_seal
        in elim (cases_order k in'.own) [
          | inl same ↦
              seal_is_no_clear d
              (seal_of_seals t d
              (subst (λ x. is_seal_of t x ≡ true)
              (same_Some in'.own_seal.event d (sym in'.own_seal.there ∙ ap (event_at h) (sym same) ∙ at))
              in'.own_seal.passes))
          | inr (inl below) ↦ in'.no_clear k d (inr (above, below)) at
          | inr (inr past) ↦ p.2 k d (omega arith) at
        ]
      where
        last_one : (i j : ℕ) → IsLast (is_seal_of t) h i → IsLast (is_seal_of t) h j → i ≡ j
        last_one i j a b = elim (cases_order i j) [
          | inl same ↦ same
          | inr (inl below) ↦ absurd (both_ways (is_seal_of t b.event) (a.last j b.event below b.there) b.passes)
          | inr (inr past) ↦ absurd (both_ways (is_seal_of t a.event) (b.last i a.event past a.there) a.passes)
        ]

    as_seal : (e : Event) → event_at h r.place ≡ Some e → is_seal e ≡ true → Passes (λ u g. test g) h
    as_seal (Seal u k) at seals =
        record {
          place = r.place;
          txn = u;
          k = k;
          since =
              record { event = Seal u k; there = at; seals = refl; no_clear = no_clear };
          there = at;
          passes = r.passes;
        }
    as_seal e at seals = absurd (cc)

in_before : (test : List Event → Bool) (h : List Event) (e : Event) (t : Txn) → is_open (h ▹ e) t ≡ false
    → InRound test (h ▹ e) t → InRound test h t
in_before test h e t closed r = record {
  place = r.place;
  in_round = record {
    own = in'.own;
    own_seal = last_before (is_seal_of t) h e in'.own (not_seal h e t closed) in'.own_seal;
    event = in'.event;
    there = sym (event_at-stays h e r.place below) ∙ in'.there;
    seals = in'.seals;
    no_clear = λ k d between at. in'.no_clear k d between (event_at-stays h e k (event_at-within h d k at) ∙ at);
  };
  passes = ap test (sym (older-stays h e r.place (omega (arith, below)))) ∙ r.passes;
}
  where
    in' : IsInRound (h ▹ e) t r.place
    in' = r.in_round

    own_below : in'.own < length h
    own_below =
        let l = last_before (is_seal_of t) h e in'.own (not_seal h e t closed) in'.own_seal
        in event_at-within h l.event in'.own l.there

    -- were the newest event a seal of the round, no clear request would follow the transaction's own seal
    below : r.place < length h
    below = elim (cases_order r.place (length h)) [
      | inr (inl less) ↦ less
      | inr (inr past) ↦ (let within = event_at-within (h ▹ e) in'.event r.place in'.there in absurd (omega arith))
      | inl same ↦
          absurd
          (both_ways (is_open (h ▹ e) t) closed
          (opens (h ▹ e) t in'.own in'.own_seal.event in'.own_seal.there in'.own_seal.passes
          (λ k d above at. no_clear same k d above at)))
    ]
      where
        no_clear : r.place ≡ length h → (k : ℕ) (d : Event) → in'.own < k → event_at (h ▹ e) k ≡ Some d
            → is_clear_add d ≡ false
        no_clear same k d above at = elim (cases_order k r.place) [
          | inl here ↦
              seal_is_no_clear d
              (subst (λ x. is_seal x ≡ true)
              (same_Some in'.event d (sym in'.there ∙ ap (event_at (h ▹ e)) (sym here) ∙ at)) in'.seals)
          | inr (inl less) ↦ in'.no_clear k d (inl (above, less)) at
          | inr (inr past) ↦ (let none : event_at (h ▹ e) k ≡ None = event_at-none (h ▹ e) k (omega arith) in cc)
        ]

pub in_round_of : (test : List Event → Bool) (h : List Event) (t : Txn) → InRound test h t
    → list_any (λ s. test s.before) (round_of h t) ≡ true
in_round_of test [] t r = absurd (let at = r.in_round.there in cc)
in_round_of test (h ▹ e) t r = elim (cases_Bool (is_open (h ▹ e) t)) [
  | inl here ↦
      ap (any_of (λ u g. test g)) (round_is h e t here)
      ∙ passes_any (λ u g. test g) (h ▹ e) (in_passes test (h ▹ e) t here r)
  | inr closed ↦
      ap (any_of (λ u g. test g)) (round_before h e t closed) ∙ in_round_of test h t (in_before test h e t closed r)
]
