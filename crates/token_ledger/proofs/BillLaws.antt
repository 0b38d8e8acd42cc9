-- What the accounts are billed.
use Rattle.std.proofs.Common.{◌≡◌, ℕ, ◌+◌, ◌-◌, ◌^◌, ◌<◌, ◌≤◌, ◌==◌, ◌||◌, Bool, true, false, if◌then◌else◌, List, [], ◌∷◌, length, get_or, set, map, take, refl, ap, sym, subst, ◌∙◌, inl, inr, arith}
use Rattle.std.specs.Prelude.{All, sum_by}
use Rattle.std.specs.List.{enumerate_from}
use Rattle.std.proofs.lemmas.Bool.{cases_eq}
use Rattle.std.proofs.lemmas.Bool.Decides.{nat_tests}
use Rattle.std.proofs.lemmas.List.{get_or-map, get_or-set_same, get_or-set_other, length-set, length-map, get_or_default, same_lists, take_all}
use Rattle.std.proofs.lemmas.List.Folds.{list_any_at}
use Rattle.std.proofs.lemmas.List.FromFn.{get_or-enumerate_from, length-enumerate_from}
use Rattle.std.proofs.lemmas.List.Sums.{sum_by-le-sum_by, sum_by-cons, sum_by_more, sum_by-take-le}
use Rattle.split_types.specs.Sets.{pids, has, some_has, IsSet}
use Rattle.split_types.specs.Share.{share, share_of, rank, bill_of_parts}
use Rattle.split_types.proofs.Shared.{rank-below}
use Rattle.cause_set.specs.Shares.{IsPart, BillsAddUp}
use Rattle.token_ledger.specs.declared.pair.Pair.{Pair}
use Rattle.token_ledger.specs.declared.standing.Standing.{Standing}
use Rattle.token_ledger.specs.Places.{OpenOnes}
use Rattle.token_ledger.specs.Books.{Books, Bills, owner_in, of_account, bill_of}
use Rattle.token_ledger.specs.Standings.{books_of, IsStanding, IsNumber, AreKept, AreBilled, bears, billed_at}
use Rattle.token_ledger.proofs.ListLaws.{sum_filter, sum_same, sum_none, sum_swap}
use Rattle.token_ledger.proofs.RankLaws.{Rises, set_rises, rank_first, rank_rest}
use Rattle.token_ledger.proofs.StandingLaws.{nobody, of_here, of_other}

-- ---- what an account bears

of_nothing : (owners : List ℕ) (a p : ℕ) → of_account owners a p 0 ≡ 0
of_nothing owners a p = by_test (owner_in owners p == a)
  where
    by_test : (t : Bool) → let n : ℕ = if t then 0 else 0 in n ≡ 0
    by_test true = refl
    by_test false = refl

-- an account bears a share of a set where its processes do: nothing counts but the set's
pub bears_set : (owners : List ℕ) (cost : ℕ) (set : List ℕ) (a : ℕ) → IsSet set
    → sum_by (λ p. of_account owners a p (share_of cost set p)) set ≡ bears owners cost set a
bears_set owners cost set a is =
    let f : ℕ → ℕ = λ p. of_account owners a p (share_of cost set p) in
    ap (sum_by f) (sym is)
    ∙ sum_filter f (has set) pids (λ p out. ap
    (λ t. of_account owners a p (if t then share cost (rank set p) (length set) else 0)) out
    ∙ of_nothing owners a p)

-- an account's part of a sum
of_sum : {Y : Type 0} (owners : List ℕ) (a p : ℕ) (g : Y → ℕ) (ys : List Y)
    → sum_by (λ y. of_account owners a p (g y)) ys ≡ of_account owners a p (sum_by g ys)
of_sum owners a p g ys = by_test (owner_in owners p == a)
  where
    by_test : (t : Bool) → sum_by (λ y. if t then g y else 0) ys ≡ (if t then sum_by g ys else 0)
    by_test true = refl
    by_test false = sum_none (λ y. 0) ys (λ y. refl)

-- what an account bears of one of the parts
abbrev pub part_bears : List ℕ → ℕ → ℕ → ℕ → ℕ × List ℕ → ℕ
part_bears owners cost m a part = bears owners (share cost part.0 m) part.1 a

-- what an account bears of all parts is what its processes bear
bears_all : (owners : List ℕ) (cost : ℕ) (parts : List (List ℕ)) (a : ℕ)
    → sum_by (part_bears owners cost (length parts) a) (enumerate_from 0 parts) ≡ bill_of owners cost parts a
bears_all owners cost parts a =
    let m : ℕ = length parts in
    sum_swap (λ part p. of_account owners a p (share_of (share cost part.0 m) part.1 p)) (enumerate_from 0 parts) pids
    ∙ sum_same (λ p. sum_by (λ part. of_account owners a p (share_of (share cost part.0 m) part.1 p))
    (enumerate_from 0 parts))
    (λ p. of_account owners a p (bill_of_parts cost parts p)) pids
    (λ p. of_sum owners a p (λ part. share_of (share cost part.0 m) part.1 p) (enumerate_from 0 parts))

-- what an account bears of the first parts
abbrev pub first_bears : List ℕ → ℕ → List (List ℕ) → ℕ → ℕ → ℕ
first_bears owners cost parts n a = sum_by (part_bears owners cost (length parts) a) (take n (enumerate_from 0 parts))

pub first_more : (owners : List ℕ) (cost : ℕ) (parts : List (List ℕ)) (n : ℕ) (part : List ℕ) (a : ℕ)
    → n < length parts → part ≡ get_or parts n part
    → first_bears owners cost parts (n + 1) a ≡ first_bears owners cost parts n a + bears owners
    (share cost n (length parts)) part a
first_more owners cost parts n part a within is =
    let f = part_bears owners cost (length parts) a in
    let here : get_or (enumerate_from 0 parts) n (0, part) ≡ (0 + n, get_or parts n part) =
    get_or-enumerate_from 0 parts n (0, part) within in
    let place : 0 + n ≡ n = omega arith in
    sum_by_more f (enumerate_from 0 parts) n (0, part) (omega (arith, length-enumerate_from 0 parts))
    ∙ ap (λ q. first_bears owners cost parts n a + part_bears owners cost (length parts) a q) here
    ∙ ap (λ i. first_bears owners cost parts n a + bears owners (share cost i (length parts))
    (get_or parts n part) a) place
    ∙ ap (λ s. first_bears owners cost parts n a + bears owners (share cost n (length parts)) s a) (sym is)

pub first_all : (owners : List ℕ) (cost : ℕ) (parts : List (List ℕ)) (n a : ℕ) → length parts ≤ n
    → first_bears owners cost parts n a ≡ bill_of owners cost parts a
first_all owners cost parts n a all =
    ap (sum_by (part_bears owners cost (length parts) a))
    (take_all n (enumerate_from 0 parts) (omega (arith, length-enumerate_from 0 parts)))
    ∙ bears_all owners cost parts a

pub first_most : (owners : List ℕ) (cost : ℕ) (parts : List (List ℕ)) (n a : ℕ)
    → first_bears owners cost parts n a ≤ bill_of owners cost parts a
first_most owners cost parts n a =
    omega (
      arith,
      sum_by-take-le (part_bears owners cost (length parts) a)
          (enumerate_from 0 parts) n,
      bears_all owners cost parts a,
    )

-- who stands in a part stands in one of the parts
pub part_payers : (parts : List (List ℕ)) (n p : ℕ) (part : List ℕ) → n < length parts → part ≡ get_or parts n part
    → has part p ≡ true → some_has parts p ≡ true
part_payers parts n p part within is here =
    list_any_at (λ xs. has xs p) parts n part within (ap (λ xs. has xs p) (sym is) ∙ here)

-- an account bears no more than a cost
pub bill_within : (owners : List ℕ) (cost : ℕ) (parts : List (List ℕ)) (a : ℕ) → BillsAddUp → 1 ≤ length parts
    → All IsPart parts → bill_of owners cost parts a ≤ cost
bill_within owners cost parts a law some are =
    omega (
      arith,
      law cost parts some are,
      sum_by-le-sum_by (λ p. of_account owners a p (bill_of_parts cost parts p)) (bill_of_parts cost parts) pids
          (λ p. least p (owner_in owners p == a)),
    )
  where
    least : (p : ℕ) (t : Bool) → (if t then bill_of_parts cost parts p else 0) ≤ bill_of_parts cost parts p
    least p true = omega arith
    least p false = omega arith

-- ---- accounts that are billed

pub billed_none : (S : List Standing) (bill : ℕ → ℕ) → ((a : ℕ) → bill a ≡ 0) → AreBilled S S bill
billed_none S bill none = record {
  len = refl;
  each = λ i d within.
      let s : Standing = get_or S i d in
      let same : s.billed ≡ s.billed + bill (i + 1) = (let no = none (i + 1) in omega arith) in
      ap (λ n. let t : Standing = record s { billed = n } in t) same;
}

pub billed_then : (R S T : List Standing) (f g h : ℕ → ℕ) → AreBilled R S f → AreBilled S T g
    → ((a : ℕ) → h a ≡ f a + g a) → AreBilled R T h
billed_then R S T f g h first second sum = record {
  len = second.len ∙ first.len;
  each = λ i d within.
      let s : Standing = get_or R i d in
      let len = first.len in
      let same : (s.billed + f (i + 1)) + g (i + 1) ≡ s.billed + h (i + 1) = (let both = sum (i + 1) in omega arith) in
      second.each i d (omega arith)
      ∙ ap (λ t. let u : Standing = record t { billed = t.billed + g (i + 1) } in u) (first.each i d within)
      ∙ ap (λ n. let t : Standing = record s { billed = n } in t) same;
}

pub billed_as : (R S : List Standing) (f h : ℕ → ℕ) → AreBilled R S f → ((a : ℕ) → h a ≡ f a) → AreBilled R S h
billed_as R S f h are same = record {
  len = are.len;
  each = λ i d within.
      let s : Standing = get_or R i d in
      are.each i d within ∙ ap (λ n. let t : Standing = record s { billed = s.billed + n } in t) (sym (same (i + 1)));
}

-- one account is billed
pub billed_one : (S : List Standing) (at : ℕ) (s : Standing) (n : ℕ) (g : ℕ → ℕ) → at < length S → s ≡ get_or S at s
    → g (at + 1) ≡ n → ((i : ℕ) → (i ≡ at → ⊥) → g (i + 1) ≡ 0)
    → AreBilled S (set S at (record s { billed = s.billed + n })) g
billed_one S at s n g within read here others = record {
  len = length-set S at (record s { billed = s.billed + n });
  each = λ i d in_range. elim (cases_eq i at) [
    | inl is ↦
        let same : get_or S i d ≡ s = ap (λ k. get_or S k d) is ∙ get_or_default S at d s within ∙ sym read in
        let due : g (i + 1) ≡ n = ap (λ k. g (k + 1)) is ∙ here in
        ap (λ k. get_or (set S at (record s { billed = s.billed + n })) k d) is
        ∙ get_or-set_same S at (record s { billed = s.billed + n }) d within
        ∙ ap (λ m. let t : Standing = record s { billed = s.billed + m } in t) (sym due)
        ∙ ap (λ t. let u : Standing = record t { billed = t.billed + g (i + 1) } in u) (sym same)
    | inr apart ↦
        let t : Standing = get_or S i d in
        let none : t.billed ≡ t.billed + g (i + 1) = (let no = others i apart in omega arith) in
        get_or-set_other S at i (record s { billed = s.billed + n }) d apart
        ∙ ap (λ m. let u : Standing = record t { billed = m } in u) none
  ];
}

-- a function of an account that doesn't see its bill
pub billed_keeps : {Y : Type 0} (f : Standing → Y) (S T : List Standing) (bill : ℕ → ℕ) → AreBilled S T bill
    → ((s : Standing) (n : ℕ) → f (record s { billed = n }) ≡ f s) → map f T ≡ map f S
billed_keeps f S T bill are blind =
    same_lists (map f T) (map f S) (length-map T f ∙ are.len ∙ sym (length-map S f))
    (λ k d within.
    let len = are.len in
    let in_T : k < length T = rw (← length-map T f) within in
    let in_S : k < length S = omega arith in
    let s : Standing = get_or S k nobody in
    get_or-map f T k nobody d in_T ∙ ap f (are.each k nobody in_S) ∙ blind s (s.billed + bill (k + 1))
    ∙ sym (get_or-map f S k nobody d in_S))

-- what an account was billed after that
pub billed_now : (S T : List Standing) (bill : ℕ → ℕ) (a : ℕ) → AreBilled S T bill → IsNumber (length S) a
    → billed_at T a ≡ billed_at S a + bill a
billed_now S T bill a are number =
    let from = number.from in
    let to = number.to in
    let len = are.len in
    let in_S : a - 1 < length S = omega arith in
    let in_T : a - 1 < length T = omega arith in
    let back : (a - 1) + 1 ≡ a = omega arith in
    get_or-map (λ s. s.billed) T (a - 1) nobody 0 in_T ∙ ap (λ s. s.billed) (are.each (a - 1) nobody in_S)
    ∙ ap (λ n. n + bill ((a - 1) + 1)) (sym (get_or-map (λ s. s.billed) S (a - 1) nobody 0 in_S))
    ∙ ap (λ k. billed_at S a + bill k) back

-- the books are kept over a bill
pub kept_billed : (S T : List Standing) (O : List ℕ) (P : List Pair) (bill : ℕ → ℕ) → AreKept S O P → AreBilled S T bill
    → ((a : ℕ) → IsNumber (length S) a → billed_at S a + bill a < 2 ^ 60) → AreKept T O P
kept_billed S T O P bill kept are room = record {
  bounds = λ i d within.
      let len = are.len in
      let in_S : i < length S = omega arith in
      let s : Standing = get_or S i d in
      let old : IsStanding s = kept.bounds i d in_S in
      let number : IsNumber (length S) (i + 1) = record { from = omega arith; to = omega arith } in
      let place : (i + 1) - 1 ≡ i = omega arith in
      let was : billed_at S (i + 1) ≡ s.billed = ap (λ k. get_or (map (λ s. s.billed) S) k 0) place
      ∙ get_or-map (λ s. s.billed) S i d 0 in_S in
      let fits = room (i + 1) number in
      let now : IsStanding (record s { billed = s.billed + bill (i + 1) }) =
      record {
        rate = old.rate;
        cap = old.cap;
        low = old.low;
        high = old.high;
        billed = omega arith;
        pending = old.pending;
      } in
      subst IsStanding (sym (are.each i d in_S)) now;
  owned = rw are.len kept.owned;
  payers = kept.payers;
  held = λ a number. ap (λ ns. get_or ns (a - 1) 0) (billed_keeps (λ s. s.pending) S T bill are (λ s n. refl))
      ∙ kept.held a (rw (← are.len) number);
}

pub books_billed : (S T : List Standing) (O : List ℕ) (ones : OpenOnes) (cost : ℕ) (parts : List (List ℕ))
    → AreBilled S T (bill_of O cost parts)
    → Bills (books_of S O ones) (books_of T O ones) cost parts
books_billed S T O ones cost parts are = record {
  billed = λ a has.
      let to : a ≤ length S = rw (← length-map S (λ s. s.account)) has.to in
      billed_now S T (bill_of O cost parts) a are (record { from = has.from; to = to });
  rest =
      ap (λ accounts. let b : Books = record {
        accounts = accounts;
        owners = O;
        granted = map (λ s. s.granted) T;
        billed = map (λ s. s.billed) T;
        pairs = ones.pairs;
        spare = ones.spare;
      } in b)
      (billed_keeps (λ s. s.account) S T (bill_of O cost parts) are (λ s n. refl))
      ∙ ap (λ granted. let b : Books = record {
        accounts = map (λ s. s.account) S;
        owners = O;
        granted = granted;
        billed = map (λ s. s.billed) T;
        pairs = ones.pairs;
        spare = ones.spare;
      } in b)
      (billed_keeps (λ s. s.granted) S T (bill_of O cost parts) are (λ s n. refl));
}

-- ---- a part that is being billed

-- n are billed, and those that are left rise and stand in the set, behind them; what an account was billed and what those
-- of its processes that are left bear are all that it bears
pub record IsBilling (start now : List Standing) (owners : List ℕ) (cost : ℕ) (set : List ℕ) (n : ℕ) (left : List ℕ)
    : Type 0 where
  pub done : ℕ → ℕ
  pub billed : AreBilled start now done
  pub among : (p : ℕ) → has left p ≡ true → has set p ≡ true
  pub rises : Rises left
  pub ranks : (p : ℕ) → has left p ≡ true → rank set p ≡ n + rank left p
  pub sum : (a : ℕ) → done a + sum_by (λ p. of_account owners a p (share_of cost set p)) left ≡ bears owners cost set a

pub billing_none : (S : List Standing) (owners : List ℕ) (cost : ℕ) (set left : List ℕ) → IsSet set → left ≡ set
    → IsBilling S S owners cost set 0 left
billing_none S owners cost set left is all = rw all (record {
  done = λ a. 0;
  billed = billed_none S (λ a. 0) (λ a. refl);
  among = λ p here. here;
  rises = set_rises set is;
  ranks = λ p here. omega arith;
  sum = λ a. (let zero = bears_set owners cost set a is in omega arith);
})

here_first : (q : ℕ) (rest : List ℕ) → has (q ∷ rest) q ≡ true
here_first q rest = grind (arith, nat_tests)

-- the next one is a payer
pub billing_payer : (S T : List Standing) (owners : List ℕ) (cost : ℕ) (set : List ℕ) (n q : ℕ) (rest : List ℕ)
    → IsBilling S T owners cost set n (q ∷ rest) → has set q ≡ true
billing_payer S T owners cost set n q rest b = b.among q (here_first q rest)

-- its rank is how many are billed, so its share is the one of that rank
pub billing_rank : (S T : List Standing) (owners : List ℕ) (cost : ℕ) (set : List ℕ) (n q : ℕ) (rest : List ℕ)
    → IsBilling S T owners cost set n (q ∷ rest) → rank set q ≡ n
billing_rank S T owners cost set n q rest b =
    let first = rank_first q rest b.rises in
    let all = b.ranks q (here_first q rest) in
    omega arith

pub billing_below : (S T : List Standing) (owners : List ℕ) (cost : ℕ) (set : List ℕ) (n q : ℕ) (rest : List ℕ)
    → IsBilling S T owners cost set n (q ∷ rest) → n < length set
billing_below S T owners cost set n q rest b =
    let is = billing_rank S T owners cost set n q rest b in
    let below = rank-below set q (billing_payer S T owners cost set n q rest b) in
    omega arith

pub billing_share : (S T : List Standing) (owners : List ℕ) (cost : ℕ) (set : List ℕ) (n q : ℕ) (rest : List ℕ)
    → IsBilling S T owners cost set n (q ∷ rest) → share_of cost set q ≡ share cost n (length set)
billing_share S T owners cost set n q rest b =
    ap (λ t. if t then share cost (rank set q) (length set) else 0) (billing_payer S T owners cost set n q rest b)
    ∙ ap (λ r. share cost r (length set)) (billing_rank S T owners cost set n q rest b)

-- its share fits
pub billing_fits : (S T : List Standing) (owners : List ℕ) (cost : ℕ) (set : List ℕ) (n q : ℕ) (rest : List ℕ) (at : ℕ)
    (s : Standing)
    → IsBilling S T owners cost set n (q ∷ rest) → at < length S → s ≡ get_or T at s → at + 1 ≡ owner_in owners q
    → ((a : ℕ) → IsNumber (length S) a → billed_at S a + bears owners cost set a < 2 ^ 60)
    → s.billed + share_of cost set q < 2 ^ 60
billing_fits S T owners cost set n q rest at s b within read owner room =
    let f : ℕ → ℕ = λ p. of_account owners (at + 1) p (share_of cost set p) in
    let len = b.billed.len in
    let number : IsNumber (length S) (at + 1) = record { from = omega arith; to = omega arith } in
    let place : (at + 1) - 1 ≡ at = omega arith in
    let now : billed_at T (at + 1) ≡ s.billed = ap (λ k. get_or (map (λ s. s.billed) T) k 0) place
    ∙ get_or-map (λ s. s.billed) T at s 0 (omega arith) ∙ ap (λ s. s.billed) (sym read) in
    let grown = billed_now S T b.done (at + 1) b.billed number in
    let due = b.sum (at + 1) in
    let first = sum_by-cons f q rest in
    let mine : f q ≡ share_of cost set q = of_here owners (at + 1) q (share_of cost set q) (sym owner) in
    let fits = room (at + 1) number in
    omega arith

pub billing_more : (S T : List Standing) (owners : List ℕ) (cost : ℕ) (those : List ℕ) (n q : ℕ) (rest : List ℕ) (at : ℕ)
    (s : Standing)
    → IsBilling S T owners cost those n (q ∷ rest) → at < length S → s ≡ get_or T at s → at + 1 ≡ owner_in owners q
    → IsBilling S (set T at (record s { billed = s.billed + share_of cost those q })) owners cost those (n + 1) rest
billing_more S T owners cost those n q rest at s b within read owner =
    let len = b.billed.len in
    let bill : ℕ = share_of cost those q in
    let more : ℕ → ℕ = λ a. of_account owners a q bill in
    let one : AreBilled T (set T at (record s { billed = s.billed + bill })) more =
    billed_one T at s bill more (omega arith) read (of_here owners (at + 1) q bill (sym owner))
    (λ i apart. of_other owners (i + 1) q bill (λ e. apart (omega arith))) in
    record {
      done = λ a. b.done a + more a;
      billed = billed_then S T (set T at (record s { billed = s.billed + bill })) b.done more
          (λ a. b.done a + more a) b.billed one (λ a. refl);
      among = λ p here. b.among p (later p (q == p) here);
      rises = b.rises.1;
      ranks = λ p here.
          let before = b.ranks p (later p (q == p) here) in
          let one_below = rank_rest q p rest b.rises here in
          omega arith;
      sum = λ a.
          let due = b.sum a in
          let first = sum_by-cons (λ p. of_account owners a p (share_of cost those p)) q rest in
          omega arith;
    }
  where
    later : (p : ℕ) (t : Bool) → has rest p ≡ true → (t || has rest p) ≡ true
    later p true here = refl
    later p false here = here

pub billing_all : (S T : List Standing) (owners : List ℕ) (cost : ℕ) (set : List ℕ) (n : ℕ) (left : List ℕ)
    → IsBilling S T owners cost set n left → left ≡ [] → AreBilled S T (bears owners cost set)
billing_all S T owners cost set n left b none =
    billed_as S T b.done (bears owners cost set) b.billed
    (λ a. let due = rw none at (b.sum a) in omega arith)
