-- What becomes of the accounts where one changes, or each.
use Rattle.std.proofs.Common.{◌≡◌, Some, None, ℕ, ℤ, pos, negsuc, ◌+◌, ◌-◌, ◌*◌, ◌^◌, ◌<◌, ◌≤◌, ◌==◌, ◌+ℤ◌, ◌-ℤ◌, ◌≤ℤ◌, ◌<ℤ◌, Bool, true, false, if◌then◌else◌, List, [], length, get_or, set, map, refl, ap, sym, subst, ◌∙◌, inl, inr, arith}
use Rattle.std.specs.Prelude.{All, sum_by}
use Rattle.std.proofs.lemmas.Bool.{cases_eq}
use Rattle.std.proofs.lemmas.Bool.Decides.{nat_tests}
use Rattle.std.proofs.lemmas.Int.{ints, clamps}
use Rattle.std.proofs.Math.Nat.{mul-le-mul_right}
use Rattle.std.proofs.lemmas.List.{map-set, get_or-map, get_or-set_same, get_or-set_other, length-set, length-map, get_or_default, map-id}
use Rattle.std.proofs.lemmas.List.Elements.{All-set, All-map, All-weaker, All-nil}
use Rattle.split_types.specs.declared.workload.Account.{Account}
use Rattle.split_types.specs.declared.workload.Workload.{Workload}
use Rattle.split_types.specs.IsWorkload.{IsWorkload, IsAccount, IsProcess}
use Rattle.split_types.specs.declared.ids.ReqId.{ReqId}
use Rattle.split_types.specs.declared.buf.Buf.{Buf}
use Rattle.token_ledger.specs.declared.pair.Pair.{Pair}
use Rattle.token_ledger.specs.declared.standing.Standing.{Standing}
use Rattle.token_ledger.specs.Places.{OpenOnes}
use Rattle.token_ledger.specs.Books.{Books, HasAccount, IsOneMore, Advances, owner_in, of_account, pending_in, opening, is_of, marked, grant, granted_of, grant_of, balance_of}
use Rattle.token_ledger.specs.Standings.{books_of, opened, IsStanding, IsNumber, AreKept, pending_at, standing_balance, advanced}
use Rattle.token_ledger.proofs.ListLaws.{map_through, map_flat, map_kept, map_after, sum_after, all_insert, all_remove, all_at, sum_insert}

-- an account that stands nowhere
abbrev pub nobody : Standing
nobody = record { account = record { rate = 0; cap = 0; start = pos 0 }; granted = pos 0; billed = 0; pending = 0 }

-- ---- what is an account's

pub of_here : (owners : List ℕ) (a p n : ℕ) → owner_in owners p ≡ a → of_account owners a p n ≡ n
of_here owners a p n is = ap (λ t. if t then n else 0) (same (owner_in owners p) a is)
  where
    same : (x y : ℕ) → x ≡ y → (x == y) ≡ true
    same x y e = grind (arith, nat_tests)

pub of_other : (owners : List ℕ) (a p n : ℕ) → (owner_in owners p ≡ a → ⊥) → of_account owners a p n ≡ 0
of_other owners a p n apart = ap (λ t. if t then n else 0) (other (owner_in owners p) a apart)
  where
    other : (x y : ℕ) → (x ≡ y → ⊥) → (x == y) ≡ false
    other x y e = grind (arith, nat_tests, e)

-- what is held back where one pair more is open
pub pending_more : (owners : List ℕ) (old new : List Pair) (q : Pair) (a : ℕ) → IsOneMore old new q
    → pending_in owners new a ≡ pending_in owners old a + of_account owners a q.by.0 q.estimate
pending_more owners old new q a more =
    let f : Pair → ℕ = λ q. of_account owners a q.by.0 q.estimate in
    ap (sum_by f) more.is ∙ sum_insert f more.before more.after q ∙ ap (λ n. n + f q) (sym (ap (sum_by f) more.was))

-- where an account of a process stands
pub owner_within : (S : List Standing) (O : List ℕ) (p at : ℕ) → All (IsNumber (length S)) O → IsNumber (length O) p
    → at + 1 ≡ owner_in O p → at < length S
owner_within S O p at owned process is =
    let number : IsNumber (length S) (owner_in O p) =
    owned (p - 1) 0 (let from = process.from in let to = process.to in omega arith) in
    let to = number.to in
    omega arith

pub owner_some : (accounts : ℕ) (O : List ℕ) (p : ℕ) → All (IsNumber accounts) O → IsNumber (length O) p
    → 1 ≤ owner_in O p
owner_some accounts O p owned process =
    let number : IsNumber accounts (owner_in O p) =
    owned (p - 1) 0 (let from = process.from in let to = process.to in omega arith) in
    number.from

-- what is held back from the account at a place
pub pending_here : (S : List Standing) (at : ℕ) (s : Standing) → at < length S → s ≡ get_or S at s
    → pending_at S (at + 1) ≡ s.pending
pending_here S at s within read =
    let place : (at + 1) - 1 ≡ at = omega arith in
    ap (λ i. get_or (map (λ s. s.pending) S) i 0) place ∙ get_or-map (λ s. s.pending) S at s 0 within
    ∙ ap (λ s. s.pending) (sym read)

-- what is held back from each account where one place is written
pending_written : (S : List Standing) (at : ℕ) (s : Standing) (n a : ℕ) → at < length S
    → pending_at (set S at (record s { pending = n })) a ≡ get_or (set (map (λ s. s.pending) S) at n) (a - 1) 0
pending_written S at s n a within =
    ap (λ ns. get_or ns (a - 1) 0) (map-set (λ s. s.pending) S at (record s { pending = n }))

pub standing_at : (S : List Standing) (at : ℕ) (s : Standing) → All IsStanding S → at < length S → s ≡ get_or S at s
    → IsStanding s
standing_at S at s all within read = subst IsStanding (sym read) (all at s within)

pub pending_fits : (S : List Standing) (O : List ℕ) (P : List Pair) (q p e : ℕ) (at : ℕ) (s : Standing) → AreKept S O P
    → IsNumber (length O) p
    → at + 1 ≡ owner_in O p → s ≡ get_or S at s → s.pending ≡ pending_in O P (owner_in O p)
pending_fits S O P q p e at s kept process is read =
    let within : at < length S = owner_within S O p at kept.owned process is in
    let here : IsNumber (length S) (at + 1) = record { from = omega arith; to = omega arith } in
    sym (pending_here S at s within read) ∙ kept.held (at + 1) here ∙ ap (pending_in O P) is

-- a pair more is open: its estimate is held back from its process's account
pub kept_opened : (S : List Standing) (O : List ℕ) (P Q : List Pair) (q : Pair) (at : ℕ) (s : Standing) → AreKept S O P
    → IsOneMore P Q q
    → IsNumber (length O) q.by.0 → at + 1 ≡ owner_in O q.by.0 → s ≡ get_or S at s
    → pending_in O P (owner_in O q.by.0) + q.estimate < 2 ^ 60
    → AreKept (set S at (record s { pending = s.pending + q.estimate })) O Q
kept_opened S O P Q q at s kept more process is read room =
    let within : at < length S = owner_within S O q.by.0 at kept.owned process is in
    let n : ℕ = s.pending + q.estimate in
    let len : length (set S at (record s { pending = n })) ≡ length S = length-set S at (record s { pending = n }) in
    let old : IsStanding s = standing_at S at s kept.bounds within read in
    let was : s.pending ≡ pending_in O P (owner_in O q.by.0) =
    pending_fits S O P 0 q.by.0 0 at s kept process is read in
    record {
      bounds = All-set IsStanding S at (record s { pending = n })
          (record {
            rate = old.rate;
            cap = old.cap;
            low = old.low;
            high = old.high;
            billed = old.billed;
            pending = omega arith;
          }) kept.bounds;
      owned = rw len kept.owned;
      payers = subst (All (λ q. IsNumber (length O) q.by.0)) (sym more.is)
          (all_insert (λ q. IsNumber (length O) q.by.0) more.before more.after q
          (subst (All (λ q. IsNumber (length O) q.by.0)) more.was kept.payers) process);
      held = λ a number.
          let number' : IsNumber (length S) a = rw (← len) number in
          let from = number'.from in
          let to = number'.to in
          let due = kept.held a number' in
          let then_due = pending_more O P Q q a more in
          pending_written S at s n a within ∙ elim (cases_eq (a - 1) at) [
            | inl here ↦
                let same : owner_in O q.by.0 ≡ a = omega arith in
                let mine = of_here O a q.by.0 q.estimate same in
                let before : s.pending ≡ pending_in O P a = was ∙ ap (pending_in O P) same in
                ap (λ i. get_or (set (map (λ s. s.pending) S) at n) i 0) here
                ∙ get_or-set_same (map (λ s. s.pending) S) at n 0 (rw (length-map S (λ s. s.pending)) within)
                ∙ omega arith
            | inr apart ↦
                let none = of_other O a q.by.0 q.estimate (λ e. apart (omega arith)) in
                get_or-set_other (map (λ s. s.pending) S) at (a - 1) n 0 apart ∙ omega arith
          ];
    }

-- what a pair holds back is held back from its account
pub closing_fits : (S : List Standing) (O : List ℕ) (P Q : List Pair) (q : Pair) (at : ℕ) (s : Standing)
    → AreKept S O P → IsOneMore Q P q
    → IsNumber (length O) q.by.0 → at + 1 ≡ owner_in O q.by.0 → s ≡ get_or S at s → q.estimate ≤ s.pending
closing_fits S O P Q q at s kept more process is read =
    let was : s.pending ≡ pending_in O P (owner_in O q.by.0) =
    pending_fits S O P 0 q.by.0 0 at s kept process is read in
    let due = pending_more O Q P q (owner_in O q.by.0) more in
    let mine = of_here O (owner_in O q.by.0) q.by.0 q.estimate refl in
    omega arith

-- the pair of a process that is one of the pairs
pub payer_is : (n : ℕ) (P Q : List Pair) (q : Pair) → All (λ q. IsNumber n q.by.0) P → IsOneMore Q P q
    → IsNumber n q.by.0
payer_is n P Q q payers more = all_at (λ q. IsNumber n q.by.0) more.before more.after q
    (subst (All (λ q. IsNumber n q.by.0)) more.is payers)

-- a pair fewer is open
pub kept_closed : (S : List Standing) (O : List ℕ) (P Q : List Pair) (q : Pair) (at : ℕ) (s : Standing) → AreKept S O P
    → IsOneMore Q P q
    → at + 1 ≡ owner_in O q.by.0 → s ≡ get_or S at s
    → AreKept (set S at (record s { pending = s.pending - q.estimate })) O Q
kept_closed S O P Q q at s kept more is read =
    let process = payer_is (length O) P Q q kept.payers more in
    let within : at < length S = owner_within S O q.by.0 at kept.owned process is in
    let n : ℕ = s.pending - q.estimate in
    let len : length (set S at (record s { pending = n })) ≡ length S = length-set S at (record s { pending = n }) in
    let old : IsStanding s = standing_at S at s kept.bounds within read in
    let most = old.pending in
    let was : s.pending ≡ pending_in O P (owner_in O q.by.0) =
    pending_fits S O P 0 q.by.0 0 at s kept process is read in
    record {
      bounds = All-set IsStanding S at (record s { pending = n })
          (record {
            rate = old.rate;
            cap = old.cap;
            low = old.low;
            high = old.high;
            billed = old.billed;
            pending = omega arith;
          }) kept.bounds;
      owned = rw len kept.owned;
      payers = subst (All (λ q. IsNumber (length O) q.by.0)) (sym more.was)
          (all_remove (λ q. IsNumber (length O) q.by.0) more.before more.after q
          (subst (All (λ q. IsNumber (length O) q.by.0)) more.is kept.payers));
      held = λ a number.
          let number' : IsNumber (length S) a = rw (← len) number in
          let from = number'.from in
          let to = number'.to in
          let due = kept.held a number' in
          let then_due = pending_more O Q P q a more in
          pending_written S at s n a within ∙ elim (cases_eq (a - 1) at) [
            | inl here ↦
                let same : owner_in O q.by.0 ≡ a = omega arith in
                let mine = of_here O a q.by.0 q.estimate same in
                let before : s.pending ≡ pending_in O P a = was ∙ ap (pending_in O P) same in
                ap (λ i. get_or (set (map (λ s. s.pending) S) at n) i 0) here
                ∙ get_or-set_same (map (λ s. s.pending) S) at n 0 (rw (length-map S (λ s. s.pending)) within)
                ∙ omega arith
            | inr apart ↦
                let none = of_other O a q.by.0 q.estimate (λ e. apart (omega arith)) in
                get_or-set_other (map (λ s. s.pending) S) at (a - 1) n 0 apart ∙ omega arith
          ];
    }

-- marks hold nothing back
pub kept_marked : (S : List Standing) (O : List ℕ) (P Q : List Pair) (b : Buf) (id : ReqId) → AreKept S O P
    → Q ≡ map (marked b id) P → AreKept S O Q
kept_marked S O P Q b id kept is = rw is (record {
  bounds = kept.bounds;
  owned = kept.owned;
  payers = All-map (λ q. IsNumber (length O) q.by.0) (marked b id) P
      (All-weaker (λ q. IsNumber (length O) q.by.0) (λ q. IsNumber (length O) (marked b id q).by.0)
      (λ q process. subst (IsNumber (length O)) (sym (same_payer (is_of b None q) q)) process) P kept.payers);
  held = λ a number. kept.held a number
      ∙ sym (sum_after (λ q. of_account O a q.by.0 q.estimate) (marked b id) P (λ q. same_due a (is_of b None q) q));
})
  where
    same_payer : (t : Bool) (q : Pair) → (if t then (record q { mark = Some id }) else q).by.0 ≡ q.by.0
    same_payer true q = refl
    same_payer false q = refl

    same_due : (a : ℕ) (t : Bool) (q : Pair)
        → of_account O a (if t then (record q { mark = Some id }) else q).by.0
        (if t then (record q { mark = Some id }) else q).estimate ≡ of_account O a q.by.0 q.estimate
    same_due a true q = refl
    same_due a false q = refl

-- ---- balances and grants

-- the balance of an account is that of its place
pub balance_here : (S : List Standing) (O : List ℕ) (ones : OpenOnes) (a : ℕ) (s : Standing) → AreKept S O ones.pairs
    → IsNumber (length S) a
    → s ≡ get_or S (a - 1) s → standing_balance s ≡ balance_of (books_of S O ones) a
balance_here S O ones a s kept number read =
    let from = number.from in
    let to = number.to in
    let within : a - 1 < length S = omega arith in
    let granted : get_or (map (λ s. s.granted) S) (a - 1) (pos 0) ≡ s.granted =
    get_or-map (λ s. s.granted) S (a - 1) s (pos 0) within ∙ ap (λ s. s.granted) (sym read) in
    let billed : get_or (map (λ s. s.billed) S) (a - 1) 0 ≡ s.billed = get_or-map (λ s. s.billed) S (a - 1) s 0 within
    ∙ ap (λ s. s.billed) (sym read) in
    let pending : pending_at S a ≡ s.pending = get_or-map (λ s. s.pending) S (a - 1) s 0 within
    ∙ ap (λ s. s.pending) (sym read) in
    let due : s.pending ≡ pending_in O ones.pairs a = sym pending ∙ kept.held a number in
    ap (λ g. (g -ℤ pos s.billed) -ℤ pos s.pending) (sym granted)
    ∙ ap (λ n. (get_or (map (λ s. s.granted) S) (a - 1) (pos 0) -ℤ pos n) -ℤ pos s.pending) (sym billed)
    ∙ ap (λ n. (get_or (map (λ s. s.granted) S) (a - 1) (pos 0) -ℤ pos
    (get_or (map (λ s. s.billed) S) (a - 1) 0)) -ℤ pos n) due

-- and its grant
pub grant_here : (S : List Standing) (O : List ℕ) (ones : OpenOnes) (a d : ℕ) (s : Standing) → AreKept S O ones.pairs
    → IsNumber (length S) a
    → s ≡ get_or S (a - 1) s → (advanced d s).granted ≡ granted_of (books_of S O ones) a +ℤ grant_of
    (books_of S O ones) a d
grant_here S O ones a d s kept number read =
    let from = number.from in
    let to = number.to in
    let within : a - 1 < length S = omega arith in
    let granted : get_or (map (λ s. s.granted) S) (a - 1) (pos 0) ≡ s.granted =
    get_or-map (λ s. s.granted) S (a - 1) s (pos 0) within ∙ ap (λ s. s.granted) (sym read) in
    let account : get_or (map (λ s. s.account) S) (a - 1) s.account ≡ s.account =
    get_or-map (λ s. s.account) S (a - 1) s s.account within ∙ ap (λ s. s.account) (sym read) in
    let len = length-map S (λ s. s.account) in
    let rate : get_or (map (λ x. x.rate) (map (λ s. s.account) S)) (a - 1) 0 ≡ s.account.rate =
    get_or-map (λ x. x.rate) (map (λ s. s.account) S) (a - 1) s.account 0 (omega arith) ∙ ap (λ x. x.rate) account in
    let cap : get_or (map (λ x. x.cap) (map (λ s. s.account) S)) (a - 1) 0 ≡ s.account.cap =
    get_or-map (λ x. x.cap) (map (λ s. s.account) S) (a - 1) s.account 0 (omega arith) ∙ ap (λ x. x.cap) account in
    ap (λ g. g +ℤ grant s.account.rate s.account.cap (standing_balance s) d) (sym granted)
    ∙ ap (λ r. granted_of (books_of S O ones) a +ℤ grant r s.account.cap (standing_balance s) d) (sym rate)
    ∙ ap (λ c. granted_of (books_of S O ones) a +ℤ grant
    (get_or (map (λ x. x.rate) (map (λ s. s.account) S)) (a - 1) 0) c (standing_balance s) d) (sym cap)
    ∙ ap (λ b. granted_of (books_of S O ones) a +ℤ grant
    (get_or (map (λ x. x.rate) (map (λ s. s.account) S)) (a - 1) 0)
    (get_or (map (λ x. x.cap) (map (λ s. s.account) S)) (a - 1) 0) b d)
    (balance_here S O ones a s kept number read)

pub product_fits : (rate d : ℕ) → rate ≤ 1000000 → d ≤ 2 ^ 36 → rate * d < 2 ^ 63
product_fits rate d least most = omega (arith, mul-le-mul_right d least)

-- nothing is taken by a grant
grant_some : (rate cap d : ℕ) (balance : ℤ) → pos 0 ≤ℤ grant rate cap balance d
grant_some rate cap d balance = omega (arith, ints, clamps)

pub standing_advanced : (d : ℕ) (s : Standing) → IsStanding s → (advanced d s).granted <ℤ pos (2 ^ 60)
    → IsStanding (advanced d s)
standing_advanced d s is room =
    let low = is.low in
    let some = grant_some s.account.rate s.account.cap d (standing_balance s) in
    record {
      rate = is.rate;
      cap = is.cap;
      low = lower s.granted (grant s.account.rate s.account.cap (standing_balance s) d) low some;
      high = room;
      billed = is.billed;
      pending = is.pending;
    }
  where
    lower : (g n : ℤ) → negsuc 999999999 ≤ℤ g → pos 0 ≤ℤ n → negsuc 999999999 ≤ℤ (g +ℤ n)
    lower g n low some = omega (arith, ints)

-- the clock advances for all
pub kept_advanced : (S T : List Standing) (O : List ℕ) (P : List Pair) (d : ℕ) → AreKept S O P → T ≡ map (advanced d) S
    → ((i : ℕ) (s : Standing) → i < length S → (advanced d (get_or S i s)).granted <ℤ pos (2 ^ 60)) → AreKept T O P
kept_advanced S T O P d kept is room = rw is (record {
  bounds = All-map IsStanding (advanced d) S
      (λ i s within. standing_advanced d (get_or S i s) (kept.bounds i s within) (room i s within));
  owned = rw (length-map S (advanced d)) kept.owned;
  payers = kept.payers;
  held = λ a number. ap (λ ns. get_or ns (a - 1) 0) (map_after (λ s. s.pending) (advanced d) S (λ s. refl))
      ∙ kept.held a (rw (← length-map S (advanced d)) number);
})

pub books_advanced : (S T : List Standing) (O : List ℕ) (ones : OpenOnes) (d : ℕ) → AreKept S O ones.pairs
    → T ≡ map (advanced d) S
    → Advances (books_of S O ones) (books_of T O ones) d
books_advanced S T O ones d kept is = rw is (record {
  granted = λ a has.
      let from = has.from in
      let to : a ≤ length S = rw (← length-map S (λ s. s.account)) has.to in
      let number : IsNumber (length S) a = record { from = from; to = to } in
      let within : a - 1 < length S = omega arith in
      let s : Standing = get_or S (a - 1) nobody in
      let read : s ≡ get_or S (a - 1) s = get_or_default S (a - 1) nobody s within in
      get_or-map (λ s. s.granted) (map (advanced d) S) (a - 1) (advanced d s) (pos 0)
      (rw (length-map S (advanced d)) within)
      ∙ ap (λ s. s.granted) (get_or-map (advanced d) S (a - 1) s (advanced d s) within ∙ ap (advanced d) (sym read))
      ∙ grant_here S O ones a d s kept number read;
  rest =
      ap (λ accounts. let b : Books = record {
        accounts = accounts;
        owners = O;
        granted = map (λ s. s.granted) (map (advanced d) S);
        billed = map (λ s. s.billed) (map (advanced d) S);
        pairs = ones.pairs;
        spare = ones.spare;
      } in b)
      (map_after (λ s. s.account) (advanced d) S (λ s. refl))
      ∙ ap (λ billed. let b : Books = record {
        accounts = map (λ s. s.account) S;
        owners = O;
        granted = map (λ s. s.granted) (map (advanced d) S);
        billed = billed;
        pairs = ones.pairs;
        spare = ones.spare;
      } in b)
      (map_after (λ s. s.billed) (advanced d) S (λ s. refl));
})

pub advance_room : (S : List Standing) (O : List ℕ) (ones : OpenOnes) (d : ℕ) → AreKept S O ones.pairs
    → ((a : ℕ) → HasAccount (books_of S O ones) a
    → (granted_of (books_of S O ones) a +ℤ grant_of (books_of S O ones) a d) <ℤ pos (2 ^ 60))
    → (i : ℕ) (s : Standing) → i < length S → (advanced d (get_or S i s)).granted <ℤ pos (2 ^ 60)
advance_room S O ones d kept room i s within =
    let x : Standing = get_or S i s in
    let number : IsNumber (length S) (i + 1) = record { from = omega arith; to = omega arith } in
    let place : (i + 1) - 1 ≡ i = omega arith in
    let read : x ≡ get_or S ((i + 1) - 1) x = get_or_default S i s x within ∙ ap (λ k. get_or S k x) (sym place) in
    let has : HasAccount (books_of S O ones)
    (i + 1) = record { from = number.from; to = rw (length-map S (λ s. s.account)) number.to } in
    subst (λ (g : ℤ). g <ℤ pos (2 ^ 60)) (sym (grant_here S O ones (i + 1) d x kept number read)) (room (i + 1) has)

-- ---- the books where an account's pending changes

-- books are the same where the accounts don't differ in what is seen of them
pub books_same : (S T : List Standing) (O : List ℕ) (ones : OpenOnes) → map (λ s. s.account) T ≡ map (λ s. s.account) S
    → map (λ s. s.granted) T ≡ map (λ s. s.granted) S → map (λ s. s.billed) T ≡ map (λ s. s.billed) S
    → books_of T O ones ≡ books_of S O ones
books_same S T O ones accounts granted billed =
    ap (λ x. let b : Books = record {
      accounts = x;
      owners = O;
      granted = map (λ s. s.granted) T;
      billed = map (λ s. s.billed) T;
      pairs = ones.pairs;
      spare = ones.spare;
    } in b) accounts
    ∙ ap (λ x. let b : Books = record {
      accounts = map (λ s. s.account) S;
      owners = O;
      granted = x;
      billed = map (λ s. s.billed) T;
      pairs = ones.pairs;
      spare = ones.spare;
    } in b) granted
    ∙ ap (λ x. let b : Books = record {
      accounts = map (λ s. s.account) S;
      owners = O;
      granted = map (λ s. s.granted) S;
      billed = x;
      pairs = ones.pairs;
      spare = ones.spare;
    } in b) billed

pub books_held : (S : List Standing) (O : List ℕ) (ones : OpenOnes) (at : ℕ) (s : Standing) (n : ℕ) → at < length S
    → s ≡ get_or S at s
    → books_of (set S at (record s { pending = n })) O ones ≡ books_of S O ones
books_held S O ones at s n within read =
    let t : Standing = record s { pending = n } in
    books_same S (set S at t) O ones
    (map_kept (λ s. s.account) S at t s within (ap (λ s. s.account) read))
    (map_kept (λ s. s.granted) S at t s within (ap (λ s. s.granted) read))
    (map_kept (λ s. s.billed) S at t s within (ap (λ s. s.billed) read))

-- ---- the start

opened_standing : (a : Account) → IsAccount a → IsStanding (opened a)
opened_standing a is =
    let most = is.start_most in
    record {
      rate = is.rate_most;
      cap = is.cap_most;
      low = is.start_least;
      high = below a.start most;
      billed = omega arith;
      pending = omega arith;
    }
  where
    below : (z : ℤ) → z ≤ℤ pos 1000000000 → z <ℤ pos (2 ^ 60)
    below z most = omega (arith, ints)

pub kept_opening : (w : Workload) (S : List Standing) (O : List ℕ) (P : List Pair) → IsWorkload w
    → S ≡ map opened w.accounts → O ≡ map (λ p. p.account) w.procs
    → P ≡ [] → AreKept S O P
kept_opening w S O P is standings owners none =
    let len : length (map opened w.accounts) ≡ length w.accounts = length-map w.accounts opened in
    rw (standings, owners, none) (record {
      bounds = All-map IsStanding opened w.accounts
          (All-weaker IsAccount (λ a. IsStanding (opened a)) opened_standing w.accounts is.accounts.each);
      owned = rw len (All-map (IsNumber (length w.accounts)) (λ p. p.account) w.procs
          (All-weaker (IsProcess (length w.accounts)) (λ p. IsNumber (length w.accounts) p.account)
          (λ p process. record { from = process.account_least; to = process.account_most }) w.procs is.processes.each));
      payers = All-nil (λ q. IsNumber (length (map (λ p. p.account) w.procs)) q.by.0);
      held = λ a number.
          let from = number.from in
          let to = number.to in
          let within : a - 1 < length w.accounts = omega arith in
          ap (λ ns. get_or ns (a - 1) 0) (map_through (λ s. s.pending) opened (λ a. 0) w.accounts (λ a. refl))
          ∙ get_or-map (λ a. 0) w.accounts (a - 1) nobody.account 0 within;
    })

pub books_opening : (w : Workload) (S : List Standing) (O : List ℕ) (ones : OpenOnes) → S ≡ map opened w.accounts
    → O ≡ map (λ p. p.account) w.procs
    → ones.pairs ≡ [] → books_of S O ones ≡ opening w ones.spare
books_opening w S O ones standings owners none = rw (standings, owners, none) (
    ap (λ x. let b : Books = record {
      accounts = x;
      owners = map (λ p. p.account) w.procs;
      granted = map (λ s. s.granted) (map opened w.accounts);
      billed = map (λ s. s.billed) (map opened w.accounts);
      pairs = [];
      spare = ones.spare;
    } in b)
    (map_through (λ s. s.account) opened (λ a. a) w.accounts (λ a. refl) ∙ map-id w.accounts)
    ∙ ap (λ x. let b : Books = record {
      accounts = w.accounts;
      owners = map (λ p. p.account) w.procs;
      granted = x;
      billed = map (λ s. s.billed) (map opened w.accounts);
      pairs = [];
      spare = ones.spare;
    } in b)
    (map_through (λ s. s.granted) opened (λ a. a.start) w.accounts (λ a. refl))
    ∙ ap (λ x. let b : Books = record {
      accounts = w.accounts;
      owners = map (λ p. p.account) w.procs;
      granted = map (λ a. a.start) w.accounts;
      billed = x;
      pairs = [];
      spare = ones.spare;
    } in b)
    (map_through (λ s. s.billed) opened (λ a. 0) w.accounts (λ a. refl) ∙ map_flat 0 w.accounts))
