-- The blocks of a dropped file wait, one after another.
use Rattle.std.proofs.Common.{◌≡◌, ℕ, zero, suc, ◌+◌, ◌-◌, ◌<◌, ◌≤◌, List, [], ◌∷◌, length, slice_get, Some, refl, ap, sym, subst, ◌∙◌, arith, inl, inr}
use Rattle.std.specs.Prelude.{slice_set, Option, None, IsSome, IfSome}
use Rattle.std.proofs.lemmas.Bool.{cases_eq}
use Rattle.std.proofs.lemmas.List.{length-set, get_or-set_same}
use Rattle.std.proofs.lemmas.Option.{same_Some, slice_get-get_or, slice_get_within}
use Rattle.split_types.specs.declared.ids.Txn.{Txn}
use Rattle.split_types.specs.LiveFiles.{LiveFile, blocks_of}
use Rattle.delayed_alloc.specs.Blocks.{Blocks, Taken, Waiting, state_at}
use Rattle.split_core.specs.Filing.{AreTaken, LetsGo}

-- ---- one item
set_here : {X : Type 0} (xs : List X) (i : ℕ) (y : X) → i < length xs → slice_get (slice_set xs i y) i ≡ Some y
set_here xs i y below =
    slice_get-get_or (slice_set xs i y) i y (omega (arith, below, length-set xs i y))
    ∙ ap (λ x. Some x) (get_or-set_same xs i y y below)

set_other : {X : Type 0} (xs : List X) (i j : ℕ) (y : X) → (j ≡ i → ⊥)
    → slice_get (slice_set xs i y) j ≡ slice_get xs j
set_other [] i j y other = refl
set_other (x ∷ xs) zero zero y other = absurd (other refl)
set_other (x ∷ xs) zero (suc j) y other = refl
set_other (x ∷ xs) (suc i) zero y other = refl
set_other (x ∷ xs) (suc i) (suc j) y other = set_other xs i j y (λ e. other (ap suc e))

-- ---- the first blocks
-- the first i of the blocks wait for a transaction, and all others are as before
pub record GoneTo (old new : Blocks) (t : Txn) (gone : List ℕ) (i : ℕ) : Type 0 where
  pub count : length new.states ≡ length old.states
  pub reserved : new.reserved ≡ old.reserved
  pub waits : (k x : ℕ) → k < i → slice_get gone k ≡ Some x → state_at new x ≡ Some (Waiting t)
  pub others : (x : ℕ) → ((k : ℕ) → k < i → slice_get gone k ≡ Some x → ⊥) → state_at new x ≡ state_at old x

pub gone_none : (a : Blocks) (t : Txn) (gone : List ℕ) → GoneTo a a t gone 0
gone_none a t gone = record {
  count = refl;
  reserved = refl;
  waits = λ k x below at. absurd (omega (arith, below));
  others = λ x none. refl;
}

-- the next is still taken
pub still_taken : (old new : Blocks) (t : Txn) (gone : List ℕ) (i x : ℕ) → AreTaken old gone
    → GoneTo old new t gone i → slice_get gone i ≡ Some x → state_at new x ≡ Some Taken
still_taken old new t gone i x are so_far at =
    so_far.others x (λ k below is. omega (arith, below, are.once k i x is at)) ∙ are.taken i x at

pub gone_more : (old new next : Blocks) (t : Txn) (gone : List ℕ) (i x : ℕ) → AreTaken old gone
    → GoneTo old new t gone i → slice_get gone i ≡ Some x
    → next ≡ record new { states = slice_set new.states x (Waiting t) } → GoneTo old next t gone (i + 1)
gone_more old new next t gone i x are so_far at is =
    let states : next.states ≡ slice_set new.states x (Waiting t) = ap (λ a. a.states) is
    in let within : x < length new.states =
    slice_get_within new.states x Taken (still_taken old new t gone i x are so_far at)
    in record {
      count = ap length states ∙ length-set new.states x (Waiting t) ∙ so_far.count;
      reserved = ap (λ a. a.reserved) is ∙ so_far.reserved;
      waits = λ k y below here. elim (cases_eq y x) [
        | inl same ↦ ap (λ l. slice_get l y) states ∙ ap (slice_get (slice_set new.states x (Waiting t))) same
            ∙ set_here new.states x (Waiting t) within
        | inr other ↦ ap (λ l. slice_get l y) states ∙ set_other new.states x y (Waiting t) other
            ∙ so_far.waits k y (earlier k y below here other) here
      ];
      others = λ y none. ap (λ l. slice_get l y) states
          ∙ set_other new.states x y (Waiting t) (λ same. none i (omega arith) (at ∙ ap (λ z. Some z) (sym same)))
          ∙ so_far.others y (λ k below here. none k (omega (arith, below)) here);
    }
  where
    earlier : (k y : ℕ) → k < i + 1 → slice_get gone k ≡ Some y → (y ≡ x → ⊥) → k < i
    earlier k y below here other = elim (cases_eq k i) [
      | inl same ↦ absurd (other (same_Some y x (sym here ∙ ap (slice_get gone) same ∙ at)))
      | inr before ↦ omega (arith, below, before)
    ]

pub gone_all : (old new : Blocks) (t : Txn) (gone : List ℕ) (i : ℕ) → length gone ≤ i → GoneTo old new t gone i
    → LetsGo old new t gone 0
gone_all old new t gone i all so_far = record {
  count = so_far.count;
  waits = λ k x at. so_far.waits k x (omega (arith, all, slice_get_within gone k x at)) at;
  others = λ x none. so_far.others x (λ k below at. none k at);
  reserved = omega (arith, so_far.reserved);
}

-- and so many promises are taken back
pub promises_back : (old new last : Blocks) (t : Txn) (gone : List ℕ) (n : ℕ) → LetsGo old new t gone 0
    → last.states ≡ new.states → last.reserved ≡ new.reserved - n → LetsGo old last t gone n
promises_back old new last t gone n all states reserved = record {
  count = ap length states ∙ all.count;
  waits = λ k x at. ap (λ l. slice_get l x) states ∙ all.waits k x at;
  others = λ x none. ap (λ l. slice_get l x) states ∙ all.others x none;
  reserved = omega (arith, reserved, all.reserved);
}

-- the blocks of the file of a slot
pub taken_of : (o : Option LiveFile) (a : Blocks) (blocks : List ℕ) → IsSome o
    → IfSome o (λ f. AreTaken a (blocks_of f)) → IfSome o (λ f. blocks ≡ blocks_of f) → AreTaken a blocks
taken_of None a blocks some taken are = absurd (cc)
taken_of (Some f) a blocks some taken are = subst (AreTaken a) (sym are) taken
