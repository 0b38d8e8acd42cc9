-- Buffers and marks that are one.
use Rattle.std.proofs.Common.{◌≡◌, ℕ, ◌==◌, Bool, true, false, ◌&&◌, Option, Some, None, refl, ap, ◌∙◌, arith}
use Rattle.std.proofs.lemmas.Bool.Decides.{nat_tests}
use Rattle.split_types.specs.declared.ids.ReqId.{ReqId}
use Rattle.split_types.specs.declared.ids.Serial.{Serial}
use Rattle.split_types.specs.declared.ids.Slot.{Slot}
use Rattle.split_types.specs.declared.buf.Buf.{Buf}
use Rattle.split_types.specs.declared.buf.Buf.TheVariants.{Page, Bitmap, Dir, Inode}
use Rattle.split_types.specs.Hooks.{same_buf}
use Rattle.token_ledger.specs.Books.{same_mark, is_of}
use Rattle.token_ledger.specs.declared.pair.Pair.{Pair}

same_number : (m n : ℕ) → (m == n) ≡ true → m ≡ n
same_number m n is = grind (arith, nat_tests)

number_self : (n : ℕ) → (n == n) ≡ true
number_self n = grind (arith, nat_tests)

both : (a b : Bool) → (a && b) ≡ true → (a ≡ true) × (b ≡ true)
both true true is = (refl, refl)
both true false is = absurd (cc)
both false b is = absurd (cc)

page_of : (s t : Serial) (g k : ℕ) → s.0 ≡ t.0 → g ≡ k → let p : Buf = Page s g in p ≡ Page t k
page_of s t g k serial page = ap (λ n. let r : Serial = record { 0 = n } in Page r g) serial ∙ ap (Page t) page

pub same_buf_is : (b c : Buf) → same_buf b c ≡ true → b ≡ c
same_buf_is (Page s g) (Page t k) is =
    let parts = both (s.0 == t.0) (g == k) is in
    page_of s t g k (same_number s.0 t.0 parts.0) (same_number g k parts.1)
same_buf_is Bitmap Bitmap is = refl
same_buf_is (Dir k) (Dir j) is = ap Dir (same_number k j is)
same_buf_is (Inode s) (Inode t) is = ap (λ n. let r : Slot = record { 0 = n } in Inode r) (same_number s.0 t.0 is)
same_buf_is (Page s g) Bitmap is = absurd (cc)
same_buf_is (Page s g) (Dir j) is = absurd (cc)
same_buf_is (Page s g) (Inode t) is = absurd (cc)
same_buf_is Bitmap (Page t k) is = absurd (cc)
same_buf_is Bitmap (Dir j) is = absurd (cc)
same_buf_is Bitmap (Inode t) is = absurd (cc)
same_buf_is (Dir k) (Page t j) is = absurd (cc)
same_buf_is (Dir k) Bitmap is = absurd (cc)
same_buf_is (Dir k) (Inode t) is = absurd (cc)
same_buf_is (Inode s) (Page t k) is = absurd (cc)
same_buf_is (Inode s) Bitmap is = absurd (cc)
same_buf_is (Inode s) (Dir j) is = absurd (cc)

pub same_buf_self : (b : Buf) → same_buf b b ≡ true
same_buf_self (Page s g) = ap (λ t. t && (g == g)) (number_self s.0) ∙ number_self g
same_buf_self Bitmap = refl
same_buf_self (Dir k) = number_self k
same_buf_self (Inode s) = number_self s.0

same_mark_is : (m n : Option ReqId) → same_mark m n ≡ true → m ≡ n
same_mark_is None None is = refl
same_mark_is (Some i) (Some j) is = ap (λ n. let r : ReqId = record { 0 = n } in Some r) (same_number i.0 j.0 is)
same_mark_is None (Some j) is = absurd (cc)
same_mark_is (Some i) None is = absurd (cc)

same_mark_self : (m : Option ReqId) → same_mark m m ≡ true
same_mark_self None = refl
same_mark_self (Some i) = number_self i.0

-- a pair is of its own buffer and mark
pub of_itself : (q : Pair) → is_of q.buf q.mark q ≡ true
of_itself q = ap (λ t. t && same_mark q.mark q.mark) (same_buf_self q.buf) ∙ same_mark_self q.mark

-- and of no other
pub of_another : (b : Buf) (mark : Option ReqId) (q : Pair) → (q.buf ≡ b → q.mark ≡ mark → ⊥) → is_of b mark q ≡ false
of_another b mark q apart = by_test (is_of b mark q) refl
  where
    by_test : (t : Bool) → is_of b mark q ≡ t → t ≡ false
    by_test false is = refl
    by_test true is =
        let parts = both (same_buf q.buf b) (same_mark q.mark mark) is in
        absurd (apart (same_buf_is q.buf b parts.0) (same_mark_is q.mark mark parts.1))
