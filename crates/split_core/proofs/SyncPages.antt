-- What becomes of the sets of pages that are to be written.
use Rattle.std.proofs.Common.{◌≡◌, ℕ, zero, suc, ◌+◌, ◌<◌, ◌≤◌, Bool, true, false, ◌||◌, List, length, inl, inr, refl, ap, sym, ◌∙◌, subst, arith, if◌then◌else◌}
use Rattle.std.specs.Prelude.{replicate, slice_set}
use Rattle.std.proofs.lemmas.Bool.{cases_eq, cases_lt}
use Rattle.std.proofs.lemmas.List.{get_or_past, get_or-set_same, get_or-set_other, length-set, get_or-replicate, length-replicate}
use Rattle.split_core.specs.declared.note.syncs.Unwritten.{Unwritten}
use Rattle.split_core.specs.Syncs.{is_in, pages_taken, pages_done}

-- ---- one page
pub in_none : (g : ℕ) → is_in (replicate 1008 false) g ≡ false
in_none g = elim (cases_lt g 1008) [
  | inl within ↦ get_or-replicate 1008 g false false within
  | inr past ↦ get_or_past (replicate 1008 false) g false (omega (arith, past, length-replicate 1008 false))
]

pub in_here : (set : List Bool) (g : ℕ) (v : Bool) → g < length set → is_in (slice_set set g v) g ≡ v
in_here set g v within = get_or-set_same set g v false within

pub in_other : (set : List Bool) (g k : ℕ) (v : Bool) → (k ≡ g → ⊥) → is_in (slice_set set g v) k ≡ is_in set k
in_other set g k v other = get_or-set_other set g k v false other

-- a page that is set where another set has it
moved_here : (b : Bool) (set : List Bool) (g : ℕ) → g < length set
    → is_in (if b then slice_set set g true else set) g ≡ (b || is_in set g)
moved_here true set g within = in_here set g true within
moved_here false set g within = refl

moved_other : (b : Bool) (set : List Bool) (g k : ℕ) → (k ≡ g → ⊥)
    → is_in (if b then slice_set set g true else set) k ≡ is_in set k
moved_other true set g k other = in_other set g k true other
moved_other false set g k other = refl

moved_long : (b : Bool) (set : List Bool) (g : ℕ) → length (if b then slice_set set g true else set) ≡ length set
moved_long true set g = length-set set g true
moved_long false set g = refl

-- ---- a run of pages
-- a request took the n pages from this one on
pub record IsTakenFrom (g n : ℕ) (old new : Unwritten) : Type 0 where
  pub dirty_long : length new.dirty ≡ length old.dirty
  pub flying_long : length new.flying ≡ length old.flying
  pub dirty_in : (k : ℕ) → g ≤ k → k < g + n → is_in new.dirty k ≡ false
  pub flying_in : (k : ℕ) → g ≤ k → k < g + n → is_in new.flying k ≡ (is_in old.dirty k || is_in old.flying k)
  pub dirty_out : (k : ℕ) → (g ≤ k → k < g + n → ⊥) → is_in new.dirty k ≡ is_in old.dirty k
  pub flying_out : (k : ℕ) → (g ≤ k → k < g + n → ⊥) → is_in new.flying k ≡ is_in old.flying k

pub taken_from : (g n : ℕ) (u : Unwritten) → g + n ≤ 1008 → length u.dirty ≡ 1008 → length u.flying ≡ 1008
    → IsTakenFrom g n u (pages_taken g n u)
taken_from g zero u within dirty flying = record {
  dirty_long = refl;
  flying_long = refl;
  dirty_in = λ k from to. absurd (omega (arith, from, to));
  flying_in = λ k from to. absurd (omega (arith, from, to));
  dirty_out = λ k out. refl;
  flying_out = λ k out. refl;
}
taken_from g (suc n) u within dirty flying =
    let v : Unwritten = pages_taken g n u
    in let t : IsTakenFrom g n u v = taken_from g n u (omega (arith, within)) dirty flying
    in let b : Bool = is_in v.dirty (g + n)
    in let was : b ≡ is_in u.dirty (g + n) = t.dirty_out (g + n) (λ from to. omega (arith, to))
    in record {
      dirty_long = length-set v.dirty (g + n) false ∙ t.dirty_long;
      flying_long = moved_long b v.flying (g + n) ∙ t.flying_long;
      dirty_in = λ k from to. elim (cases_eq k (g + n)) [
        | inl same ↦ ap (is_in (slice_set v.dirty (g + n) false)) same
            ∙ in_here v.dirty (g + n) false (omega (arith, t.dirty_long, dirty, within))
        | inr other ↦ in_other v.dirty (g + n) k false other ∙ t.dirty_in k from (omega (arith, to, other))
      ];
      flying_in = λ k from to. elim (cases_eq k (g + n)) [
        | inl same ↦ subst
            (λ i. is_in (if b then slice_set v.flying (g + n) true else v.flying) i
            ≡ (is_in u.dirty i || is_in u.flying i)) (sym same)
            (moved_here b v.flying (g + n) (omega (arith, t.flying_long, flying, within))
            ∙ ap (λ c. c || is_in v.flying (g + n)) was
            ∙ ap (λ c. is_in u.dirty (g + n) || c) (t.flying_out (g + n) (λ low high. omega (arith, high))))
        | inr other ↦ moved_other b v.flying (g + n) k other ∙ t.flying_in k from (omega (arith, to, other))
      ];
      dirty_out = λ k out.
          in_other v.dirty (g + n) k false (λ same. out (omega (arith, same)) (omega (arith, same)))
          ∙ t.dirty_out k (λ from to. out from (omega (arith, to)));
      flying_out = λ k out.
          moved_other b v.flying (g + n) k (λ same. out (omega (arith, same)) (omega (arith, same)))
          ∙ t.flying_out k (λ from to. out from (omega (arith, to)));
    }

-- the request for the n pages from this one on is done
pub record IsDoneFrom (g n : ℕ) (old new : Unwritten) : Type 0 where
  pub dirty_is : new.dirty ≡ old.dirty
  pub flying_long : length new.flying ≡ length old.flying
  pub flying_in : (k : ℕ) → g ≤ k → k < g + n → is_in new.flying k ≡ false
  pub flying_out : (k : ℕ) → (g ≤ k → k < g + n → ⊥) → is_in new.flying k ≡ is_in old.flying k

pub done_from : (g n : ℕ) (u : Unwritten) → g + n ≤ 1008 → length u.flying ≡ 1008
    → IsDoneFrom g n u (pages_done g n u)
done_from g zero u within flying = record {
  dirty_is = refl;
  flying_long = refl;
  flying_in = λ k from to. absurd (omega (arith, from, to));
  flying_out = λ k out. refl;
}
done_from g (suc n) u within flying =
    let v : Unwritten = pages_done g n u
    in let t : IsDoneFrom g n u v = done_from g n u (omega (arith, within)) flying
    in record {
      dirty_is = t.dirty_is;
      flying_long = length-set v.flying (g + n) false ∙ t.flying_long;
      flying_in = λ k from to. elim (cases_eq k (g + n)) [
        | inl same ↦ ap (is_in (slice_set v.flying (g + n) false)) same
            ∙ in_here v.flying (g + n) false (omega (arith, t.flying_long, flying, within))
        | inr other ↦ in_other v.flying (g + n) k false other ∙ t.flying_in k from (omega (arith, to, other))
      ];
      flying_out = λ k out.
          in_other v.flying (g + n) k false (λ same. out (omega (arith, same)) (omega (arith, same)))
          ∙ t.flying_out k (λ from to. out from (omega (arith, to)));
    }
