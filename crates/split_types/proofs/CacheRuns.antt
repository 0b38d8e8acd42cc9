-- The pages of a run, and those that a request writes: each stands there once.
use Rattle.std.proofs.Common.{◌≡◌, ℕ, zero, suc, ◌+◌, true, false, arith, subst, sym, inl, inr}
use Rattle.std.specs.List.{list_any}
use Rattle.std.proofs.lemmas.Bool.{both_ways, false_from_ne_true, or_cases}
use Rattle.std.proofs.lemmas.Bool.Decides.{nat_tests}
use Rattle.split_types.specs.declared.ids.ReqId.{ReqId}
use Rattle.split_types.specs.declared.ids.Serial.{Serial}
use Rattle.split_types.specs.declared.buf.Buf.{Buf}
use Rattle.split_types.specs.declared.buf.Buf.TheVariants.{Page}
use Rattle.split_types.specs.declared.request.ReqKind.{ReqKind}
use Rattle.split_types.specs.declared.request.ReqKind.TheVariants.{Pages}
use Rattle.split_types.specs.declared.request.Request.{Request}
use Rattle.split_types.specs.Hooks.{same_buf, is_among, covers}
use Rattle.split_types.specs.Parents.{pages_of}
use Rattle.split_types.specs.PagesInCache.{pages_written}
use Rattle.split_types.proofs.Lists.{count_none, find_some, list_any_here}
use Rattle.split_types.proofs.HeldLaws.{same_buf-is, same_buf-self, among_pages}
use Rattle.split_types.proofs.CacheCounts.{StandsIn, AreDistinct}

-- ---- the pages of a run
among_more : (s : Serial) (g n : ℕ) (c : Buf) → is_among s (g + 1) n c ≡ true → is_among s g (suc n) c ≡ true
among_more s g n (Page t k) is = grind (arith, nat_tests, is)
among_more s g n c is = absurd (cc)

among_first : (s : Serial) (g n : ℕ) → is_among s g (suc n) (Page s g) ≡ true
among_first s g n = grind (arith, nat_tests)

pages_among : (s : Serial) (g n : ℕ) (c : Buf) → StandsIn c (pages_of s g n) → is_among s g n c ≡ true
pages_among s g zero c stands = absurd (cc)
pages_among s g (suc n) c stands =
    elim (or_cases (same_buf c (Page s g)) (list_any (same_buf c) (pages_of s (g + 1) n)) stands) [
      | inl first ↦
          subst (λ x. is_among s g (suc n) x ≡ true) (sym (same_buf-is c (Page s g) first)) (among_first s g n)
      | inr later ↦ among_more s g n c (pages_among s (g + 1) n c later)
    ]

past_first : (s : Serial) (g n : ℕ) → is_among s (g + 1) n (Page s g) ≡ false
past_first s g n = grind (arith, nat_tests)

distinct_pages : (s : Serial) (g n : ℕ) → AreDistinct (pages_of s g n)
distinct_pages s g zero = tt
distinct_pages s g (suc n) = (
  count_none (λ b. same_buf b (Page s g)) (pages_of s (g + 1) n)
      (false_from_ne_true (list_any (λ b. same_buf b (Page s g)) (pages_of s (g + 1) n)) twice),
  distinct_pages s (g + 1) n,
)
  where
    twice : list_any (λ b. same_buf b (Page s g)) (pages_of s (g + 1) n) ≡ true → ⊥
    twice any =
        let found = find_some (λ b. same_buf b (Page s g)) (pages_of s (g + 1) n) any
        in let stands =
        list_any_here (same_buf found.element) (pages_of s (g + 1) n) found.place found.element found.there
        (same_buf-self found.element)
        in both_ways (is_among s (g + 1) n (Page s g)) (past_first s g n)
        (subst (λ x. is_among s (g + 1) n x ≡ true) (same_buf-is found.element (Page s g) found.passes)
        (pages_among s (g + 1) n found.element stands))

-- the pages that a request writes are distinct, and those that it covers
pub record AreWritten (r : Request) : Type 0 where
  pub distinct : AreDistinct (pages_written r)
  pub covered : (c : Buf) → StandsIn c (pages_written r) → covers r c ≡ true
  pub stands : (c : Buf) → covers r c ≡ true → StandsIn c (pages_written r)

written-of : (id : ReqId) (k : ReqKind) (first n : ℕ)
    → AreWritten (record { id = id; kind = k; first = first; n = n })
written-of id (Pages s g) first n = record {
  distinct = distinct_pages s g n;
  covered = λ c stands. pages_among s g n c stands;
  stands = λ c is. among_pages s g n c is;
}
written-of id k first n = record {
  distinct = tt;
  covered = λ c stands. absurd (cc);
  stands = λ c is. absurd (cc);
}

pub are_written : (r : Request) → AreWritten r
are_written r = written-of r.id r.kind r.first r.n
