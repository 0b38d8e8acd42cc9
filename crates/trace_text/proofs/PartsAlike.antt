-- The lines of a trace around those of its workload are one, or one of them is refused for one cause.
use Rattle.std.proofs.Common.{◌≡◌, ◌≢◌, ◌⊎◌, inl, inr, ℕ, ◌+◌, ◌≤◌, ◌^◌, ◌∙◌, List, [], ◌∷◌, ◌++◌, codes, refl, sym, subst, arith}
use Rattle.split_types.specs.declared.workload.Workload.{Workload}
use Rattle.split_types.specs.Lines.{numeral}
use Rattle.workload_reader.specs.declared.cause.Cause.{Cause}
use Rattle.workload_reader.specs.declared.cause.Cause.TheVariants as cause
use Rattle.workload_reader.specs.Fields.{NumberAt}
use Rattle.workload_reader.specs.Refusal.{ReadsFront}
use Rattle.workload_reader.proofs.Alike.{cancel, number_alike}
use Rattle.workload_reader.proofs.RefusalLaws.{FrontsAlike, fronts_alike}
use Rattle.trace_text.specs.TraceLines.{first_text, count_text, IsTraceVersion, FirstLine, StopsFirst, IsMispaired, CountLine, StopsCount}
use Rattle.trace_text.specs.ReadsTrace.{HeadAt, FrontAt}
use Rattle.trace_text.proofs.FirstLaws.{first_is, count_is}
use Rattle.trace_text.proofs.EventsAlike.{formless, is_form, is_cut, no_line}

-- a trace has one first line
pub first_alike : {text x y : List ℕ} {m n : ℕ} → FirstLine text m x → FirstLine text n y → (m ≡ n) × (x ≡ y)
first_alike {text} {x} {y} {m} {n} a b =
    let same = cancel (codes "splittrace ") (sym (first_is m x (omega (arith, a.version_is.1))) ∙ sym a.text_is
    ∙ b.text_is ∙ first_is n y (omega (arith, b.version_is.1))) in
    let digit : 48 + m ≡ 48 + n = cc in
    let rest : x ≡ y = cc in
    (omega (arith, digit), rest)

-- no such line stands at the front
record NoFirst (text : List ℕ) (c : Cause) : Type 0 where
  is : c ≡ formless text
  none : (version : ℕ) (rest : List ℕ) → IsTraceVersion version → text ≢ first_text version ++ rest

first_by : (text : List ℕ) (c : Cause) → StopsFirst text c → NoFirst text c
first_by text cause.Form s = record { is = is_form text s.0; none = s.1 }
first_by text cause.Cut s =
    record {
      is = is_cut text s;
      none = λ version rest is.
          no_line text (codes "splittrace" ∷ numeral version ∷ []) rest s;
    }
first_by text c s = absurd s

pub one_first : (text : List ℕ) (c d : Cause) → StopsFirst text c → StopsFirst text d → c ≡ d
one_first text c d p q =
    let a = first_by text c p in
    let b = first_by text d q in
    a.is ∙ sym b.is

pub first_never_refused : {text rest : List ℕ} {version : ℕ} (c : Cause) → FirstLine text version rest
    → StopsFirst text c → ⊥
first_never_refused {text} {rest} {version} c a s = (first_by text c s).none version rest a.version_is a.text_is

-- a workload of the trace's version follows, or one of another
pub paired_never_refused : {text x y : List ℕ} {version : ℕ} → HeadAt text x → FirstLine text version y
    → IsMispaired version y → ⊥
paired_never_refused {text} {x} {y} {version} a first mispaired =
    let same = first_alike first a.first in
    a.paired (subst (λ v. IsMispaired v x) same.0 (subst (λ b. IsMispaired version b) same.1 mispaired))

-- what follows the first line is one
pub heads_alike : {text x y : List ℕ} → HeadAt text x → HeadAt text y → x ≡ y
heads_alike a b = (first_alike a.first b.first).1

pub trace_fronts_alike : {text x y : List ℕ} {v w : Workload} {m n : ℕ} → FrontAt text v m x → FrontAt text w n y
    → FrontsAlike v w m n x y
trace_fronts_alike {text} {x} {y} {v} {w} {m} {n} a b =
    fronts_alike (subst (λ t. ReadsFront t v m x) (heads_alike a.head b.head) a.front) b.front

-- one number of events is said
count_alike : {text : List ℕ} (m n : ℕ) (x y : List ℕ) → text ≡ count_text m ++ x → text ≡ count_text n ++ y
    → (m ≡ n) × (x ≡ y)
count_alike {text} m n x y is_m is_n =
    let same = cancel (codes "events ") (sym (count_is m x) ∙ sym is_m ∙ is_n ∙ count_is n y) in
    let one : NumberAt (numeral m ++ 10 ∷ x) m (10 ∷ x) = record { text_is = refl; ends = refl } in
    let other : NumberAt (numeral m ++ 10 ∷ x) n (10 ∷ y) = record { text_is = same; ends = refl } in
    let number = number_alike one other in
    (number.0, cancel (10 ∷ []) number.1)

pub counts_alike : {text x y : List ℕ} {m n : ℕ} → CountLine text m x → CountLine text n y → (m ≡ n) × (x ≡ y)
counts_alike {text} {x} {y} {m} {n} a b = count_alike m n x y a.text_is b.text_is

-- no such line stands at the front
record NoCount (text : List ℕ) (c : Cause) : Type 0 where
  is : c ≡ formless text
  none : (n : ℕ) (rest : List ℕ) → text ≢ count_text n ++ rest

-- or one of too many events
record TooMany (text : List ℕ) (c : Cause) : Type 0 where
  is : c ≡ cause.Range
  n : ℕ
  rest : List ℕ
  text_is : text ≡ count_text n ++ rest
  many : 2 ^ 32 ≤ n

count_by : (text : List ℕ) (c : Cause) → StopsCount text c → NoCount text c ⊎ TooMany text c
count_by text cause.Form s = inl (record { is = is_form text s.0; none = s.1 })
count_by text cause.Cut s =
    inl (record { is = is_cut text s; none = λ n rest. no_line text (codes "events" ∷ numeral n ∷ []) rest s })
count_by text cause.Range s = inr (record { is = refl; n = s.0; rest = s.1; text_is = s.2; many = s.3 })
count_by text c s = absurd s

pub one_count : (text : List ℕ) (c d : Cause) → StopsCount text c → StopsCount text d → c ≡ d
one_count text c d p q = by_both (count_by text c p) (count_by text d q) where
  by_both : NoCount text c ⊎ TooMany text c → NoCount text d ⊎ TooMany text d → c ≡ d
  by_both (inl a) (inl b) = a.is ∙ sym b.is
  by_both (inl a) (inr b) = absurd (a.none b.n b.rest b.text_is)
  by_both (inr a) (inl b) = absurd (b.none a.n a.rest a.text_is)
  by_both (inr a) (inr b) = a.is ∙ sym b.is

pub count_never_refused : {text rest : List ℕ} {n : ℕ} (c : Cause) → CountLine text n rest → StopsCount text c → ⊥
count_never_refused {text} {rest} {n} c a s = by_way (count_by text c s) where
  by_way : NoCount text c ⊎ TooMany text c → ⊥
  by_way (inl b) = b.none n rest a.text_is
  by_way (inr b) =
      let same = (count_alike n b.n rest b.rest a.text_is b.text_is).0 in
      let few = a.few in
      let many = b.many in
      absurd (omega (arith, same, few, many))
