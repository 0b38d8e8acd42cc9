-- Handing text over leaves the rest due.
use Rattle.std.proofs.Common.{◌≡◌, ◌++◌, ◌∙◌, List, [], ℕ, Option, Bool, true, false, ap, sym, refl, subst, append_assoc, arith}
use Rattle.std.specs.Io.KnownBytes.{Appends}
use Rattle.std.proofs.KnownBytes.{Appends-trans}
use Rattle.outside.specs.Faults.{Rose}
use Rattle.outside.specs.Whole.{AppendsFront}
use Rattle.sink_printer.specs.Due.{Told, Due, Underway, Hands}

-- it hadn't failed before, where it hasn't now
fine_before : {K : Type 0} {told : Told K} {before now : K} {failed_before failed : Bool} {bytes : List ℕ}
    → Hands told before failed_before now failed bytes → failed ≡ false → failed_before ≡ false
fine_before {failed_before = false} h f = refl
fine_before {failed_before = true} h f = absurd (cc (f, (h.skipped refl).0))

-- more of the text was handed over
more : (before was now : Option (List ℕ)) (whole bytes rest : List ℕ) → Underway before was whole [] (bytes ++ rest)
    → Appends was now bytes → Underway before now whole [] rest
more before was now whole bytes rest u a = record {
  handed = u.handed ++ bytes;
  parts = u.parts ∙ sym (append_assoc u.handed bytes rest);
  appended = Appends-trans _ _ _ _ _ u.appended a;
}

-- a front of what was due is a front of the text
front_more : (before was now : Option (List ℕ)) (whole bytes rest : List ℕ)
    → Underway before was whole [] (bytes ++ rest) → AppendsFront was now bytes → AppendsFront before now whole
front_more before was now whole bytes rest u (front, behind, parts, a) = (
  u.handed ++ front,
  behind ++ rest,
  u.parts ∙ ap (λ l. u.handed ++ (l ++ rest)) parts ∙ ap (λ l. u.handed ++ l) (append_assoc front behind rest)
      ∙ sym (append_assoc u.handed front (behind ++ rest)),
  Appends-trans _ _ _ _ _ u.appended a,
)

pub hands_due : {K : Type 0} {told : Told K} {start was now : K} {failed_before failed : Bool}
    (whole bytes rest : List ℕ)
    → Due told start whole was [] failed_before (bytes ++ rest) → Hands told was failed_before now failed bytes
    → Due told start whole now [] failed rest
hands_due {told} {start} {failed_before = true} {failed = true} whole bytes rest d h = record {
  later = omega (arith, d.later, h.later);
  same_room = h.same_room ∙ d.same_room;
  fine = λ f. absurd (cc f);
  front = λ f. subst (λ k. AppendsFront (told.held start) (told.held k) whole) (sym (h.skipped refl).1) (d.front refl);
  rose = λ f. subst (λ k. Rose (told.faults start) (told.faults k)) (sym (h.skipped refl).1) (d.rose refl);
}
hands_due {told} {start} {failed_before = true} {failed = false} whole bytes rest d h = absurd (cc ((h.skipped refl).0))
hands_due {told} {start} {failed_before = false} {failed = false} whole bytes rest d h = record {
  later = omega (arith, d.later, h.later);
  same_room = h.same_room ∙ d.same_room;
  fine = λ f. more _ _ _ whole bytes rest (d.fine refl) (h.handed refl);
  front = λ f. absurd (cc f);
  rose = λ f. absurd (cc f);
}
hands_due {told} {start} {failed_before = false} {failed = true} whole bytes rest d h = record {
  later = omega (arith, d.later, h.later);
  same_room = h.same_room ∙ d.same_room;
  fine = λ f. absurd (cc f);
  front = λ f. front_more _ _ _ whole bytes rest (d.fine refl) (h.front refl refl);
  rose = λ f. omega (arith, d.later, h.rose refl refl);
}

-- what is kept is due as what is to come
pub kept_due : {K : Type 0} {told : Told K} {start now : K} {failed : Bool} (whole kept rest : List ℕ)
    → Due told start whole now kept failed rest → Due told start whole now [] failed (kept ++ rest)
kept_due whole kept rest d = record {
  later = d.later;
  same_room = d.same_room;
  fine = λ f. let u = d.fine f in record { handed = u.handed; parts = u.parts; appended = u.appended };
  front = d.front;
  rose = d.rose;
}

-- the same where what is kept has a name
pub hands_kept : {K : Type 0} {told : Told K} {start was now : K} {failed_before failed : Bool}
    (whole kept bytes rest : List ℕ) → kept ≡ []
    → Due told start whole was kept failed_before (bytes ++ rest) → Hands told was failed_before now failed bytes
    → Due told start whole now kept failed rest
hands_kept {told = told} {start = start} {was = was} {now = now} {failed_before = failed_before} {failed = failed} whole
    kept bytes rest empty d h =
    subst (λ k. Due told start whole now k failed rest) (sym empty)
    (hands_due whole bytes rest (subst (λ k. Due told start whole was k failed_before (bytes ++ rest)) empty d) h)
