-- A text has one refusal, or is that of one workload.
use Rattle.std.proofs.Common.{◌≡◌, ◌≢◌, ℕ, ◌==◌, ◌∙◌, ◌⊎◌, inl, inr, List, [], ◌∷◌, ◌++◌, length, true}
use Rattle.std.proofs.Common.{false}
use Rattle.std.proofs.Common.{ap, refl, sym, subst, arith, append_assoc, Bool, ◌||◌}
use Rattle.std.proofs.lemmas.Bool.{false≢true}
use Rattle.std.proofs.lemmas.Bool.Decides.{nat_tests}
use Rattle.split_types.specs.declared.workload.Workload.{Workload}
use Rattle.split_types.specs.Lines.{line, fields}
use Rattle.workload_reader.specs.declared.cause.Cause.{Cause}
use Rattle.workload_reader.specs.declared.cause.Cause.TheVariants as cause
use Rattle.workload_reader.specs.declared.line.Line.{Line}
use Rattle.workload_reader.specs.Line.{IsFormed, place, stands, stage, has_ended, text_line, line_words}
use Rattle.workload_reader.specs.Line.{said}
use Rattle.workload_reader.specs.Refusal.{has_newline, Stops, ReadsFront, RefusesFront}
use Rattle.workload_reader.specs.Table.{IsRight, Fails}
use Rattle.workload_reader.proofs.LinesAlike.{line_alike}
use Rattle.workload_reader.proofs.Walks.{Goes, Follows, one_goes, goes_on}

-- a line ends with a newline
any_front : (xs ys : List ℕ) → has_newline ys ≡ true → has_newline (xs ++ ys) ≡ true
any_front [] ys there = there
any_front (x ∷ xs) ys there = let more = any_front xs ys there in either (x == 10) more where
  either : (b : Bool) → has_newline (xs ++ ys) ≡ true → (b || has_newline (xs ++ ys)) ≡ true
  either true more = refl
  either false more = more

newline_behind : (words : List (List ℕ)) (rest : List ℕ) → has_newline (line words ++ rest) ≡ true
newline_behind [] rest = refl
newline_behind (word ∷ words) rest =
    ap has_newline
    (append_assoc word (fields words ++ 10 ∷ []) rest
    ∙ ap (λ t. word ++ t) (append_assoc (fields words) (10 ∷ []) rest))
    ∙ any_front word (fields words ++ (10 ∷ rest)) (any_front (fields words) (10 ∷ rest) refl)

-- a right line fails nothing
right_fails : (w : Workload) (l : Line) (c : Cause) → IsRight w l → Fails w l c → ⊥
right_fails w l cause.Range right fails = fails right.in_range
right_fails w l cause.Ref right fails = fails.1 right.refers
right_fails w l cause.Name right fails = fails.2 right.new
right_fails w l cause.Limit right fails = fails.3 right.few
right_fails w l cause.Space right fails = fails.4 right.fits
right_fails w l cause.NotBuilt right fails = fails.5 right.built
right_fails w l c right fails = fails

-- a line fails one thing first
one_fault : (w : Workload) (l : Line) (c d : Cause) → Fails w l c → Fails w l d → c ≡ d
one_fault w l cause.Range cause.Range p q = refl
one_fault w l cause.Range cause.Ref p q = absurd (p q.0)
one_fault w l cause.Range cause.Name p q = absurd (p q.0)
one_fault w l cause.Range cause.Limit p q = absurd (p q.0)
one_fault w l cause.Range cause.Space p q = absurd (p q.0)
one_fault w l cause.Range cause.NotBuilt p q = absurd (p q.0)
one_fault w l cause.Range d p q = absurd q
one_fault w l cause.Ref cause.Range p q = absurd (q p.0)
one_fault w l cause.Ref cause.Ref p q = refl
one_fault w l cause.Ref cause.Name p q = absurd (p.1 q.1)
one_fault w l cause.Ref cause.Limit p q = absurd (p.1 q.1)
one_fault w l cause.Ref cause.Space p q = absurd (p.1 q.1)
one_fault w l cause.Ref cause.NotBuilt p q = absurd (p.1 q.1)
one_fault w l cause.Ref d p q = absurd q
one_fault w l cause.Name cause.Range p q = absurd (q p.0)
one_fault w l cause.Name cause.Ref p q = absurd (q.1 p.1)
one_fault w l cause.Name cause.Name p q = refl
one_fault w l cause.Name cause.Limit p q = absurd (p.2 q.2)
one_fault w l cause.Name cause.Space p q = absurd (p.2 q.2)
one_fault w l cause.Name cause.NotBuilt p q = absurd (p.2 q.2)
one_fault w l cause.Name d p q = absurd q
one_fault w l cause.Limit cause.Range p q = absurd (q p.0)
one_fault w l cause.Limit cause.Ref p q = absurd (q.1 p.1)
one_fault w l cause.Limit cause.Name p q = absurd (q.2 p.2)
one_fault w l cause.Limit cause.Limit p q = refl
one_fault w l cause.Limit cause.Space p q = absurd (p.3 q.3)
one_fault w l cause.Limit cause.NotBuilt p q = absurd (p.3 q.3)
one_fault w l cause.Limit d p q = absurd q
one_fault w l cause.Space cause.Range p q = absurd (q p.0)
one_fault w l cause.Space cause.Ref p q = absurd (q.1 p.1)
one_fault w l cause.Space cause.Name p q = absurd (q.2 p.2)
one_fault w l cause.Space cause.Limit p q = absurd (q.3 p.3)
one_fault w l cause.Space cause.Space p q = refl
one_fault w l cause.Space cause.NotBuilt p q = absurd (p.4 q.4)
one_fault w l cause.Space d p q = absurd q
one_fault w l cause.NotBuilt cause.Range p q = absurd (q p.0)
one_fault w l cause.NotBuilt cause.Ref p q = absurd (q.1 p.1)
one_fault w l cause.NotBuilt cause.Name p q = absurd (q.2 p.2)
one_fault w l cause.NotBuilt cause.Limit p q = absurd (q.3 p.3)
one_fault w l cause.NotBuilt cause.Space p q = absurd (q.4 p.4)
one_fault w l cause.NotBuilt cause.NotBuilt p q = refl
one_fault w l cause.NotBuilt d p q = absurd q
one_fault w l c d p q = absurd p

-- no line stands at the front of the bytes
abbrev NoLine : ℕ → List ℕ → Type 0
NoLine at bytes = (l : Line) (rest : List ℕ) → IsFormed l → stands at (place l) ≡ true → bytes ≢ text_line l ++ rest

-- a line at the front of the bytes that fails something first
record FailsAt (w : Workload) (at : ℕ) (bytes : List ℕ) (c : Cause) : Type 0 where
  l : Line
  tail : List ℕ
  formed : IsFormed l
  may : stands at (place l) ≡ true
  text_is : bytes ≡ text_line l ++ tail
  fails : Fails w l c

record IsForm (at : ℕ) (bytes : List ℕ) (c : Cause) : Type 0 where
  is : c ≡ cause.Form
  whole : has_newline bytes ≡ true
  none : NoLine at bytes

record IsCut (bytes : List ℕ) (c : Cause) : Type 0 where
  is : c ≡ cause.Cut
  open_end : has_newline bytes ≡ false

-- the three ways in which reading stops at a line
stops_by : (w : Workload) (at : ℕ) (bytes : List ℕ) (c : Cause) → Stops w at bytes c
    → IsForm at bytes c ⊎ (IsCut bytes c ⊎ FailsAt w at bytes c)
stops_by w at bytes cause.Form s = inl (record { is = refl; whole = s.0; none = s.1 })
stops_by w at bytes cause.Cut s = inr (inl (record { is = refl; open_end = s }))
stops_by w at bytes cause.After s = absurd s
stops_by w at bytes cause.Long s = absurd s
stops_by w at bytes cause.Range s =
    inr (inr (record { l = s.0; tail = s.1; formed = s.2; may = s.3; text_is = s.4; fails = s.5 }))
stops_by w at bytes cause.Ref s =
    inr (inr (record { l = s.0; tail = s.1; formed = s.2; may = s.3; text_is = s.4; fails = s.5 }))
stops_by w at bytes cause.Name s =
    inr (inr (record { l = s.0; tail = s.1; formed = s.2; may = s.3; text_is = s.4; fails = s.5 }))
stops_by w at bytes cause.Limit s =
    inr (inr (record { l = s.0; tail = s.1; formed = s.2; may = s.3; text_is = s.4; fails = s.5 }))
stops_by w at bytes cause.Space s =
    inr (inr (record { l = s.0; tail = s.1; formed = s.2; may = s.3; text_is = s.4; fails = s.5 }))
stops_by w at bytes cause.NotBuilt s =
    inr (inr (record { l = s.0; tail = s.1; formed = s.2; may = s.3; text_is = s.4; fails = s.5 }))

has_line : (l : Line) (bytes tail : List ℕ) → bytes ≡ text_line l ++ tail → has_newline bytes ≡ true
has_line l bytes tail is = ap has_newline is ∙ newline_behind (line_words l) tail

-- one line fails
same_fault : (w : Workload) (at : ℕ) (bytes : List ℕ) (c d : Cause) → FailsAt w at bytes c → FailsAt w at bytes d
    → c ≡ d
same_fault w at bytes c d p q =
    let same = line_alike q.l p.l q.tail p.tail q.formed p.formed (sym q.text_is ∙ p.text_is) in
    one_fault w p.l c d p.fails (subst (λ l. Fails w l d) same.0 q.fails)

-- reading stops at a line for one cause
one_cause : (w : Workload) (at : ℕ) (bytes : List ℕ) (c d : Cause) → Stops w at bytes c → Stops w at bytes d → c ≡ d
one_cause w at bytes c d p q = by_both (stops_by w at bytes c p) (stops_by w at bytes d q) where
  by_both : IsForm at bytes c ⊎ (IsCut bytes c ⊎ FailsAt w at bytes c)
      → IsForm at bytes d ⊎ (IsCut bytes d ⊎ FailsAt w at bytes d) → c ≡ d
  by_both (inl f) (inl g) = f.is ∙ sym g.is
  by_both (inl f) (inr (inl g)) = absurd (false≢true (sym g.open_end ∙ f.whole))
  by_both (inl f) (inr (inr g)) = absurd (f.none g.l g.tail g.formed g.may g.text_is)
  by_both (inr (inl f)) (inl g) = absurd (false≢true (sym f.open_end ∙ g.whole))
  by_both (inr (inl f)) (inr (inl g)) = f.is ∙ sym g.is
  by_both (inr (inl f)) (inr (inr g)) = absurd (false≢true (sym f.open_end ∙ has_line g.l bytes g.tail g.text_is))
  by_both (inr (inr f)) (inl g) = absurd (g.none f.l f.tail f.formed f.may f.text_is)
  by_both (inr (inr f)) (inr (inl g)) = absurd (false≢true (sym g.open_end ∙ has_line f.l bytes f.tail f.text_is))
  by_both (inr (inr f)) (inr (inr g)) = same_fault w at bytes c d f g

-- reading doesn't stop at a right line
follows_stops : (before : List Line) (text : List ℕ) (c : Cause) → Follows before text
    → Stops (said before) (stage before) text c → ⊥
follows_stops before text c next s = by_stop (stops_by (said before) (stage before) text c s) where
  by_stop : IsForm (stage before) text c ⊎ (IsCut text c ⊎ FailsAt (said before) (stage before) text c) → ⊥
  by_stop (inl f) = f.none next.l next.tail next.formed next.may next.text_is
  by_stop (inr (inl f)) = false≢true (sym f.open_end ∙ has_line next.l text next.tail next.text_is)
  by_stop (inr (inr f)) =
      let same = line_alike f.l next.l f.tail next.tail f.formed next.formed (sym f.text_is ∙ next.text_is) in
      right_fails (said before) next.l c next.right (subst (λ l. Fails (said before) l c) same.0 f.fails)

-- nothing stands behind `end`
none_follows : (before : List Line) (text : List ℕ) → has_ended before ≡ true → Follows before text → ⊥
none_follows before text ended next = over (stage before) (place next.l) ended next.may where
  over : (at k : ℕ) → (at == 12) ≡ true → stands at k ≡ true → ⊥
  over at k ended may = grind (arith, nat_tests)

-- one workload's lines stand at the front of a text
pub record FrontsAlike (v w : Workload) (m n : ℕ) (x y : List ℕ) : Type 0 where
  pub workload : v ≡ w
  pub lines : m ≡ n
  pub rest : x ≡ y

pub fronts_alike : {text x y : List ℕ} {v w : Workload} {m n : ℕ} → ReadsFront text v m x → ReadsFront text w n y
    → FrontsAlike v w m n x y
fronts_alike {text} {x} {y} {v} {w} {m} {n} a b =
    by_longer (one_goes a.before b.before x y a.right b.right (sym a.text_is ∙ b.text_is)) where
      same : a.before ≡ b.before → x ≡ y → FrontsAlike v w m n x y
      same is rest = record {
        workload = sym a.said_is ∙ ap said is ∙ b.said_is;
        lines = sym a.number ∙ ap length is ∙ b.number;
        rest = rest;
      }

      longer : ((a.before ≡ b.before) × (y ≡ x)) ⊎ Follows b.before y → FrontsAlike v w m n x y
      longer (inl p) = same p.0 (sym p.1)
      longer (inr next) = absurd (none_follows b.before y b.ended next)

      shorter : ((b.before ≡ a.before) × (x ≡ y)) ⊎ Follows a.before x → FrontsAlike v w m n x y
      shorter (inl p) = same (sym p.0) p.1
      shorter (inr next) = absurd (none_follows a.before x a.ended next)

      by_longer : Goes a.before b.before x y ⊎ Goes b.before a.before y x → FrontsAlike v w m n x y
      by_longer (inl goes) = longer (goes_on a.before b.before x y a.right goes)
      by_longer (inr goes) = shorter (goes_on b.before a.before y x b.right goes)

-- where they do, none of them is refused
pub front_never_refused : {text rest : List ℕ} {w : Workload} {n k : ℕ} {c : Cause} → ReadsFront text w n rest
    → RefusesFront text k c → ⊥
front_never_refused {text} {rest} {w} {n} {k} {c} a b =
    by_longer (one_goes a.before b.before rest b.rest a.right b.right (sym a.text_is ∙ b.text_is)) where
      same : a.before ≡ b.before → ⊥
      same is = false≢true (sym b.going ∙ ap has_ended (sym is) ∙ a.ended)

      longer : ((a.before ≡ b.before) × (b.rest ≡ rest)) ⊎ Follows b.before b.rest → ⊥
      longer (inl p) = same p.0
      longer (inr next) = follows_stops b.before b.rest c next b.stops

      shorter : ((b.before ≡ a.before) × (rest ≡ b.rest)) ⊎ Follows a.before rest → ⊥
      shorter (inl p) = same (sym p.0)
      shorter (inr next) = none_follows a.before rest a.ended next

      by_longer : Goes a.before b.before rest b.rest ⊎ Goes b.before a.before b.rest rest → ⊥
      by_longer (inl goes) = longer (goes_on a.before b.before rest b.rest a.right goes)
      by_longer (inr goes) = shorter (goes_on b.before a.before b.rest rest b.right goes)

-- one line is refused first, for one cause
pub one_stop : {text : List ℕ} {m n : ℕ} {c d : Cause} → RefusesFront text m c → RefusesFront text n d
    → (m ≡ n) × (c ≡ d)
one_stop {text} {m} {n} {c} {d} a b =
    by_longer (one_goes a.before b.before a.rest b.rest a.right b.right (sym a.text_is ∙ b.text_is)) where
      same : a.before ≡ b.before → a.rest ≡ b.rest → (m ≡ n) × (c ≡ d)
      same is rest = (
        sym a.number ∙ ap length is ∙ b.number,
        one_cause (said b.before) (stage b.before) b.rest c d
            (subst (λ t. Stops (said b.before) (stage b.before) t c) rest
            (subst (λ l. Stops (said l) (stage l) a.rest c) is a.stops))
            b.stops,
      )

      longer : ((a.before ≡ b.before) × (b.rest ≡ a.rest)) ⊎ Follows b.before b.rest → (m ≡ n) × (c ≡ d)
      longer (inl p) = same p.0 (sym p.1)
      longer (inr next) = absurd (follows_stops b.before b.rest d next b.stops)

      shorter : ((b.before ≡ a.before) × (a.rest ≡ b.rest)) ⊎ Follows a.before a.rest → (m ≡ n) × (c ≡ d)
      shorter (inl p) = same (sym p.0) p.1
      shorter (inr next) = absurd (follows_stops a.before a.rest c next a.stops)

      by_longer : Goes a.before b.before a.rest b.rest ⊎ Goes b.before a.before b.rest a.rest → (m ≡ n) × (c ≡ d)
      by_longer (inl goes) = longer (goes_on a.before b.before a.rest b.rest a.right goes)
      by_longer (inr goes) = shorter (goes_on b.before a.before b.rest a.rest b.right goes)
