-- The lines of a trace around those of its workload.
use Rattle.std.proofs.Common.{◌≡◌, ◌≢◌, ℕ, zero, suc, ◌+◌, ◌<◌, ◌==◌, ◌∙◌, Bool, true, false, not, List, [], ◌∷◌, ◌++◌, codes, if◌then◌else◌, ap, refl, sym, subst, arith, append_assoc, eq-eqb, eqb-true}
use Rattle.split_types.specs.Lines.{numeral, fields, line}
use Rattle.split_types.specs.TraceText.{trace_version}
use Rattle.split_types.proofs.Shared.{numeral_digit}
use Rattle.workload_reader.specs.Fields.{FieldAt, IsWithin}
use Rattle.workload_reader.proofs.Alike.{cancel, after_field}
use Rattle.workload_reader.proofs.HeadLaws.{fields_behind}
use Rattle.trace_text.specs.TraceLines.{first_text, version_text, count_text, IsTraceVersion, FirstLine, StopsFirst, IsMispaired, Mispairs}
use Rattle.workload_reader.specs.declared.cause.Cause.{Cause}
use Rattle.workload_reader.specs.declared.cause.Cause.TheVariants as cause
use Rattle.workload_reader.specs.Refusal.{has_newline}

-- the lines that say a digit
pub first_is : (version : ℕ) (rest : List ℕ) → version < 10
    → first_text version ++ rest ≡ codes "splittrace " ++ (48 + version) ∷ 10 ∷ rest
first_is version rest small = ap (λ w. line (codes "splittrace" ∷ w ∷ []) ++ rest) (numeral_digit version small)

pub version_is : (version : ℕ) (rest : List ℕ) → version < 10
    → version_text version ++ rest ≡ codes "splitload " ++ (48 + version) ∷ 10 ∷ rest
version_is version rest small = ap (λ w. line (codes "splitload" ∷ w ∷ []) ++ rest) (numeral_digit version small)

-- a first line
pub first_read : {text rest : List ℕ} (version : ℕ) → IsTraceVersion version
    → text ≡ codes "splittrace " ++ (48 + version) ∷ 10 ∷ rest → FirstLine text version rest
first_read {text} {rest} version is e = record {
  version_is = is;
  text_is = e
      ∙ sym (first_is version rest (omega (arith, is.1)));
}

-- there are two
one_or_two : (version : ℕ) (rest text : List ℕ) → IsTraceVersion version
    → text ≡ codes "splittrace " ++ (48 + version) ∷ 10 ∷ rest
    → (text ≢ codes "splittrace 1\n" ++ rest) → (text ≢ codes "splittrace 2\n" ++ rest) → ⊥
one_or_two zero rest text is e one two = absurd (omega (arith, is.0))
one_or_two (suc zero) rest text is e one two = one e
one_or_two (suc (suc zero)) rest text is e one two = two e
one_or_two (suc (suc (suc n))) rest text is e one two = absurd (omega (arith, is.1))

pub no_first : {text : List ℕ} → ((rest : List ℕ) → text ≢ codes "splittrace 1\n" ++ rest)
    → ((rest : List ℕ) → text ≢ codes "splittrace 2\n" ++ rest)
    → (version : ℕ) (rest : List ℕ) → IsTraceVersion version → text ≢ first_text version ++ rest
no_first {text} one two version rest is e = one_or_two version rest text is (e
    ∙ first_is version rest (omega (arith, is.1))) (one rest) (two rest)

-- the version of the workload that follows
pub version_read : {text rest : List ℕ} (version : ℕ) → IsWithin 1 3 version
    → text ≡ codes "splitload " ++ (48 + version) ∷ 10 ∷ rest
    → IsWithin 1 3 version × ((rest : List ℕ) × (text ≡ version_text version ++ rest))
version_read {text} {rest} version is e = (is, (rest, e ∙ sym (version_is version rest (omega (arith, is.1)))))

by_version : (version : ℕ) (rest text : List ℕ) → IsWithin 1 3 version
    → text ≡ codes "splitload " ++ (48 + version) ∷ 10 ∷ rest
    → (text ≢ codes "splitload 1\n" ++ rest) → (text ≢ codes "splitload 2\n" ++ rest)
    → (text ≢ codes "splitload 3\n" ++ rest) → ⊥
by_version zero rest text is e one two three = absurd (omega (arith, is.0))
by_version (suc zero) rest text is e one two three = one e
by_version (suc (suc zero)) rest text is e one two three = two e
by_version (suc (suc (suc zero))) rest text is e one two three = three e
by_version (suc (suc (suc (suc n)))) rest text is e one two three = absurd (omega (arith, is.1))

pub no_version : {text : List ℕ} → ((rest : List ℕ) → text ≢ codes "splitload 1\n" ++ rest)
    → ((rest : List ℕ) → text ≢ codes "splitload 2\n" ++ rest)
    → ((rest : List ℕ) → text ≢ codes "splitload 3\n" ++ rest) → (version : ℕ) (rest : List ℕ) → IsWithin 1 3 version
    → text ≢ version_text version ++ rest
no_version {text} one two three version rest is e =
    by_version version rest text is (e ∙ version_is version rest (omega (arith, is.1))) (one rest) (two rest)
    (three rest)

-- one version is said
pub one_version : {text : List ℕ} (m n : ℕ) (x y : List ℕ) → m < 10 → n < 10 → text ≡ version_text m ++ x
    → text ≡ version_text n ++ y → m ≡ n
one_version {text} m n x y small_m small_n is_m is_n =
    let same = cancel (codes "splitload ") (sym (version_is m x small_m) ∙ sym is_m ∙ is_n ∙ version_is n y small_n) in
    let digit : 48 + m ≡ 48 + n = cc in
    omega (arith, digit)

pub mispairs : {text : List ℕ} (version other : ℕ) (b : Bool)
    → IsWithin 1 3 other × ((rest : List ℕ) × (text ≡ version_text other ++ rest))
    → b ≡ not (trace_version other == version) → Mispairs version text b
mispairs {text} version other true found is = record {
  other = other;
  rest = found.1.0;
  formed = found.0;
  text_is = found.1.1;
  unlike = λ same. absurd (cc (is ∙ ap not (eq-eqb (trace_version other) version same)));
}
mispairs {text} version other false found is = λ m.
    let one = one_version m.other other m.rest found.1.0 (omega (arith, m.formed.1)) (omega (arith, found.0.1))
    m.text_is found.1.1 in
    m.unlike (ap trace_version one ∙ alike (trace_version other == version) refl is) where
      alike : (same : Bool) → (trace_version other == version) ≡ same → false ≡ not same → trace_version other ≡ version
      alike true e is = eqb-true (trace_version other) version e
      alike false e is = absurd (cc)

pub no_mispairs : {text : List ℕ} (version : ℕ) → ((other : ℕ) (rest : List ℕ) → IsWithin 1 3 other
    → text ≢ version_text other ++ rest) → IsMispaired version text → ⊥
no_mispairs version none m = none m.other m.rest m.formed m.text_is

-- the line of a count
pub count_is : (n : ℕ) (rest : List ℕ) → count_text n ++ rest ≡ codes "events" ++ (32 ∷ numeral n ++ 10 ∷ rest)
count_is n rest = append_assoc (codes "events") (fields (numeral n ∷ []) ++ 10 ∷ []) rest
    ∙ ap (λ l. codes "events" ++ l) (fields_behind (numeral n ∷ []) rest)

pub no_count_word : {text : List ℕ} → ((rest : List ℕ) → text ≢ codes "events" ++ rest) → (n : ℕ) (rest : List ℕ)
    → text ≢ count_text n ++ rest
no_count_word none n rest e = none _ (e ∙ count_is n rest)

pub no_count : {text more : List ℕ} → text ≡ codes "events" ++ more
    → ((n : ℕ) (rest : List ℕ) → FieldAt more n rest → ⊥) → (n : ℕ) (rest : List ℕ) → text ≢ count_text n ++ rest
no_count {text} {more} is none n rest e = none n (10 ∷ rest)
    (record { text_is = cancel (codes "events") (sym is ∙ e ∙ count_is n rest); ends = refl })

pub no_count_end : {text more last : List ℕ} {m : ℕ} → text ≡ codes "events" ++ more → FieldAt more m last
    → ((rest : List ℕ) → last ≢ 10 ∷ rest) → (n : ℕ) (rest : List ℕ) → text ≢ count_text n ++ rest
no_count_end {text} {more} {last} {m} is at none n rest e =
    none rest (after_field n (10 ∷ rest) at (cancel (codes "events") (sym is ∙ e ∙ count_is n rest)) refl)

pub count_read : {text more last rest : List ℕ} {m : ℕ} → text ≡ codes "events" ++ more → FieldAt more m last
    → last ≡ 10 ∷ rest → text ≡ count_text m ++ rest
count_read {text} {more} {last} {rest} {m} is at end =
    is ∙ ap (λ l. codes "events" ++ l) (at.text_is ∙ ap (λ l. 32 ∷ numeral m ++ l) end) ∙ sym (count_is m rest)

-- why no first line is there
pub first_stops : {text : List ℕ} (c : Cause) → c ≡ (if has_newline text then cause.Form else cause.Cut)
    → ((rest : List ℕ) → text ≢ codes "splittrace 1\n" ++ rest)
    → ((rest : List ℕ) → text ≢ codes "splittrace 2\n" ++ rest) → StopsFirst text c
first_stops {text} c is one two = subst (StopsFirst text) (sym is) (by_newline (has_newline text) refl) where
  by_newline : (b : Bool) → has_newline text ≡ b → StopsFirst text (if b then cause.Form else cause.Cut)
  by_newline true e = (e, no_first one two)
  by_newline false e = e
