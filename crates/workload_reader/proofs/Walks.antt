-- Lines that stand at the front of one text.
use Rattle.std.proofs.Common.{◌≡◌, ◌∙◌, ◌⊎◌, inl, inr, List, [], ◌∷◌, ◌++◌, ℕ, true, ap, refl, sym, subst}
use Rattle.std.proofs.Common.{append_assoc}
use Rattle.std.proofs.lemmas.List.{append-nil}
use Rattle.workload_reader.specs.declared.line.Line.{Line}
use Rattle.workload_reader.specs.Line.{IsFormed, place, stands, stage, text_line, lines_text, said}
use Rattle.workload_reader.specs.Refusal.{AreRight}
use Rattle.workload_reader.specs.Table.{IsRight}
use Rattle.workload_reader.proofs.LinesAlike.{line_alike}

-- lines in their order, behind others of which the last stands first
abbrev pub onto : List Line → List Line → List Line
onto [] before = before
onto (l ∷ lines) before = onto lines (l ∷ before)

-- the text of lines in their order
abbrev pub lines_on : List Line → List ℕ
lines_on [] = []
lines_on (l ∷ lines) = text_line l ++ lines_on lines

-- lines in their order, of which the last stood first
abbrev turned : List Line → List Line → List Line
turned [] lines = lines
turned (l ∷ before) lines = turned before (l ∷ lines)

onto_turned : (before lines : List Line) → onto (turned before lines) [] ≡ onto lines before
onto_turned [] lines = refl
onto_turned (l ∷ before) lines = onto_turned before (l ∷ lines)

onto_text : (lines before : List Line) → lines_text (onto lines before) ≡ lines_text before ++ lines_on lines
onto_text [] before = sym (append-nil (lines_text before))
onto_text (l ∷ lines) before =
    onto_text lines (l ∷ before) ∙ append_assoc (lines_text before) (text_line l) (lines_on lines)

turned_text : (before : List Line) → lines_text before ≡ lines_on (turned before [])
turned_text before = ap lines_text (sym (onto_turned before [])) ∙ onto_text (turned before []) []

abbrev AreFormed : List Line → Type 0
AreFormed [] = Unit {0}
AreFormed (l ∷ lines) = IsFormed l × AreFormed lines

turned_formed : (before lines : List Line) → AreRight before → AreFormed lines → AreFormed (turned before lines)
turned_formed [] lines right formed = formed
turned_formed (l ∷ before) lines right formed = turned_formed before (l ∷ lines) right.0 (right.1, formed)

-- the longer lines are the shorter ones and more, with which the text behind the shorter begins
pub record Goes (longer shorter : List Line) (behind_longer behind_shorter : List ℕ) : Type 0 where
  pub more : List Line
  pub longer_is : longer ≡ onto more shorter
  pub text_is : behind_shorter ≡ lines_on more ++ behind_longer

-- one of the two goes on from the other
abbrev OneGoes : List Line → List Line → List ℕ → List ℕ → Type 0
OneGoes a b x y = Goes a b x y ⊎ Goes b a y x

in_order : (base ls ms : List Line) (x y : List ℕ) → AreFormed ls → AreFormed ms → lines_on ls ++ x ≡ lines_on ms ++ y
    → OneGoes (onto ls base) (onto ms base) x y
in_order base [] ms x y formed_l formed_m e = inr (record { more = ms; longer_is = refl; text_is = e })
in_order base (l ∷ ls) [] x y formed_l formed_m e = inl (record { more = l ∷ ls; longer_is = refl; text_is = sym e })
in_order base (l ∷ ls) (m ∷ ms) x y formed_l formed_m e =
    let same = line_alike l m (lines_on ls ++ x) (lines_on ms ++ y) formed_l.0 formed_m.0
    (sym (append_assoc (text_line l) (lines_on ls) x) ∙ e ∙ append_assoc (text_line m) (lines_on ms) y) in
    let others = in_order (l ∷ base) ls ms x y formed_l.1 formed_m.1 same.1 in
    subst (λ k. OneGoes (onto ls (l ∷ base)) (onto ms (k ∷ base)) x y) same.0 others

-- of two lists of right lines at the front of one text one goes on from the other
pub one_goes : (a b : List Line) (x y : List ℕ) → AreRight a → AreRight b → lines_text a ++ x ≡ lines_text b ++ y
    → Goes a b x y ⊎ Goes b a y x
one_goes a b x y right_a right_b e =
    let ordered = in_order [] (turned a []) (turned b []) x y (turned_formed a [] right_a tt)
    (turned_formed b [] right_b tt)
    (ap (λ t. t ++ x) (sym (turned_text a)) ∙ e ∙ ap (λ t. t ++ y) (turned_text b)) in
    subst (λ k. OneGoes k b x y) (onto_turned a [])
    (subst (λ k. OneGoes (onto (turned a []) []) k x y) (onto_turned b []) ordered)

-- lines before those that are right are right
pub before_right : (more before : List Line) → AreRight (onto more before) → AreRight before
before_right [] before right = right
before_right (l ∷ more) before right = (before_right more (l ∷ before) right).0

-- a right line that may stand behind others, at the front of a text
pub record Follows (before : List Line) (text : List ℕ) : Type 0 where
  pub l : Line
  pub tail : List ℕ
  pub formed : IsFormed l
  pub may : stands (stage before) (place l) ≡ true
  pub right : IsRight (said before) l
  pub text_is : text ≡ text_line l ++ tail

-- the longer lines are the shorter, or one follows those
pub goes_on : (longer shorter : List Line) (x y : List ℕ) → AreRight longer → Goes longer shorter x y
    → ((longer ≡ shorter) × (y ≡ x)) ⊎ Follows shorter y
goes_on longer shorter x y right goes = by_more goes.more goes.longer_is goes.text_is where
  by_more : (more : List Line) → longer ≡ onto more shorter → y ≡ lines_on more ++ x
      → ((longer ≡ shorter) × (y ≡ x)) ⊎ Follows shorter y
  by_more [] is text_is = inl (is, text_is)
  by_more (l ∷ more) is text_is =
      let next = before_right more (l ∷ shorter) (subst AreRight is right) in
      inr (record {
        l = l;
        tail = lines_on more ++ x;
        formed = next.1;
        may = next.2;
        right = next.3;
        text_is = text_is ∙ append_assoc (text_line l) (lines_on more) x;
      })
