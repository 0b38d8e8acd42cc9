-- At the front of a text stand the lines of one list of events, or one of them is refused for one cause.
use Rattle.std.proofs.Common.{◌≡◌, ◌≢◌, ◌⊎◌, inl, inr, ℕ, ◌<◌, ◌≤◌, ◌==◌, ◌∙◌, Bool, true, false, ◌||◌, List, [], ◌∷◌, ◌++◌, length, reverse, nat_lt, if◌then◌else◌, ap, refl, sym, subst, arith, append_assoc, length-append}
use Rattle.std.proofs.lemmas.Bool.{false≢true}
use Rattle.std.proofs.lemmas.Bool.Decides.{nat_tests}
use Rattle.std.proofs.lemmas.List.{append-nil, reverse-append}
use Rattle.split_types.specs.declared.event.Event.{Event}
use Rattle.split_types.specs.History.{adds}
use Rattle.split_types.specs.Lines.{line, fields, lines_of}
use Rattle.split_types.specs.EventText.{event_words}
use Rattle.workload_reader.specs.declared.cause.Cause.{Cause}
use Rattle.workload_reader.specs.declared.cause.Cause.TheVariants as cause
use Rattle.workload_reader.specs.Refusal.{has_newline}
use Rattle.trace_text.specs.EventLines.{EventLine, Shown, words, text_line, IsFormed, IsInRange}
use Rattle.trace_text.specs.ReadsEvent.{HasLine, StopsEvent}
use Rattle.trace_text.specs.Events.{HaveLines, EventsAt, EventRefused}
use Rattle.trace_text.proofs.EventAlike.{line_alike}

-- a line ends with a newline
any_front : (xs ys : List ℕ) → has_newline ys ≡ true → has_newline (xs ++ ys) ≡ true
any_front [] ys there = there
any_front (x ∷ xs) ys there = let more = any_front xs ys there in either (x == 10) more where
  either : (b : Bool) → has_newline (xs ++ ys) ≡ true → (b || has_newline (xs ++ ys)) ≡ true
  either true more = refl
  either false more = more

pub newline_behind : (ws : List (List ℕ)) (rest : List ℕ) → has_newline (line ws ++ rest) ≡ true
newline_behind [] rest = refl
newline_behind (word ∷ others) rest =
    ap has_newline
    (append_assoc word (fields others ++ 10 ∷ []) rest
    ∙ ap (λ t. word ++ t) (append_assoc (fields others) (10 ∷ []) rest))
    ∙ any_front word (fields others ++ (10 ∷ rest)) (any_front (fields others) (10 ∷ rest) refl)

-- the cause where a text has no line of a form
abbrev pub formless : List ℕ → Cause
formless text = if has_newline text then cause.Form else cause.Cut

pub is_form : (text : List ℕ) → has_newline text ≡ true → cause.Form ≡ formless text
is_form text there = sym (ap (λ b. if b then cause.Form else cause.Cut) there)

pub is_cut : (text : List ℕ) → has_newline text ≡ false → cause.Cut ≡ formless text
is_cut text none = sym (ap (λ b. if b then cause.Form else cause.Cut) none)

-- a text without a newline begins with no line
pub no_line : (text : List ℕ) (ws : List (List ℕ)) (rest : List ℕ) → has_newline text ≡ false → text ≢ line ws ++ rest
no_line text ws rest none is = false≢true (sym none ∙ ap has_newline is ∙ newline_behind ws rest)

-- no event's line stands at the front
record NoEvent (adds : ℕ) (text : List ℕ) (c : Cause) : Type 0 where
  is : c ≡ formless text
  none : (l : EventLine) (rest : List ℕ) → IsFormed adds l → text ≢ text_line l ++ rest

-- or that of one out of its range
record OutOfRange (most adds : ℕ) (text : List ℕ) (c : Cause) : Type 0 where
  is : c ≡ cause.Range
  l : EventLine
  rest : List ℕ
  formed : IsFormed adds l
  text_is : text ≡ text_line l ++ rest
  out : IsInRange most l → ⊥

stops_by : (most adds : ℕ) (text : List ℕ) (c : Cause) → StopsEvent most adds text c
    → NoEvent adds text c ⊎ OutOfRange most adds text c
stops_by most adds text cause.Form s = inl (record { is = is_form text s.0; none = s.1 })
stops_by most adds text cause.Cut s =
    inl (record { is = is_cut text s; none = λ l rest formed. no_line text (words l) rest s })
stops_by most adds text cause.Range s =
    inr (record { is = refl; l = s.0; rest = s.1; formed = s.2; text_is = s.3; out = s.4 })
stops_by most adds text c s = absurd s

-- reading stops at an event for one cause
one_cause : (most adds : ℕ) (text : List ℕ) (c d : Cause) → StopsEvent most adds text c → StopsEvent most adds text d
    → c ≡ d
one_cause most adds text c d p q = by_both (stops_by most adds text c p) (stops_by most adds text d q) where
  by_both : NoEvent adds text c ⊎ OutOfRange most adds text c → NoEvent adds text d ⊎ OutOfRange most adds text d
      → c ≡ d
  by_both (inl a) (inl b) = a.is ∙ sym b.is
  by_both (inl a) (inr b) = absurd (a.none b.l b.rest b.formed b.text_is)
  by_both (inr a) (inl b) = absurd (b.none a.l a.rest a.formed a.text_is)
  by_both (inr a) (inr b) = a.is ∙ sym b.is

-- an event with its line at the front
pub record NextLine (most adds : ℕ) (text : List ℕ) : Type 0 where
  pub e : Event
  pub has : HasLine most adds e
  pub rest : List ℕ
  pub text_is : text ≡ text_line (Shown e) ++ rest

-- where there is one, reading doesn't stop
stops_never : (most adds : ℕ) (text : List ℕ) (c : Cause) → NextLine most adds text → StopsEvent most adds text c → ⊥
stops_never most adds text c n s = by_way (stops_by most adds text c s) where
  by_way : NoEvent adds text c ⊎ OutOfRange most adds text c → ⊥
  by_way (inl a) = a.none (Shown n.e) n.rest n.has.formed n.text_is
  by_way (inr a) =
      let same = line_alike adds (Shown n.e) a.l n.rest a.rest n.has.formed a.formed (sym n.text_is ∙ a.text_is) in
      a.out (subst (IsInRange most) same.0 n.has.range)

-- each of the events, from the oldest on, has a line behind those of a history
abbrev LinesFrom : ℕ → List Event → List Event → Type 0
LinesFrom most h [] = Unit {0}
LinesFrom most h (e ∷ es) = HasLine most (adds h) e × LinesFrom most (e ∷ h) es

older_have : (most : ℕ) (newer h : List Event) → HaveLines most (newer ++ h) → HaveLines most h
older_have most [] h have = have
older_have most (e ∷ newer) h have = older_have most newer h have.0

reverse_on : (e : Event) (es h : List Event) → reverse (e ∷ es) ++ h ≡ reverse es ++ e ∷ h
reverse_on e es h = ap (λ l. l ++ h) (reverse-append (e ∷ []) es) ∙ append_assoc (reverse es) (e ∷ []) h

lines_from : (most : ℕ) (es h : List Event) → HaveLines most (reverse es ++ h) → LinesFrom most h es
lines_from most [] h have = tt
lines_from most (e ∷ es) h have =
    let turned = subst (HaveLines most) (reverse_on e es h) have in
    ((older_have most (reverse es) (e ∷ h) turned).1, lines_from most es (e ∷ h) turned)

lines_of_all : (most : ℕ) (es : List Event) → HaveLines most (reverse es) → LinesFrom most [] es
lines_of_all most es have = lines_from most es [] (subst (HaveLines most) (sym (append-nil (reverse es))) have)

shown_same : (a b : Event) → Shown a ≡ Shown b → a ≡ b
shown_same a b e = cc

-- the first list goes on as the second
record GoesOn (es fs : List Event) (x y : List ℕ) : Type 0 where
  later : List Event
  events_are : fs ≡ es ++ later
  rest_is : x ≡ lines_of event_words later ++ y

goes_on : (most : ℕ) (h es fs : List Event) (x y : List ℕ) → LinesFrom most h es → LinesFrom most h fs
    → lines_of event_words es ++ x ≡ lines_of event_words fs ++ y → length es ≤ length fs → GoesOn es fs x y
goes_on most h [] fs x y p q e few = record { later = fs; events_are = refl; rest_is = e }
goes_on most h (a ∷ es) [] x y p q e few = absurd (omega (arith, few))
goes_on most h (a ∷ es) (b ∷ fs) x y p q e few =
    let same = line_alike (adds h) (Shown a) (Shown b) (lines_of event_words es ++ x) (lines_of event_words fs ++ y)
    p.0.formed q.0.formed (sym (append_assoc (text_line (Shown a)) (lines_of event_words es) x) ∙ e
    ∙ append_assoc (text_line (Shown b)) (lines_of event_words fs) y) in
    let is = shown_same a b same.0 in
    let more = goes_on most (a ∷ h) es fs x y p.1 (subst (λ f. LinesFrom most (f ∷ h) fs) (sym is) q.1) same.1
    (omega (arith, few)) in
    record {
      later = more.later;
      events_are = ap (λ f. f ∷ fs) (sym is) ∙ ap (λ l. a ∷ l) more.events_are;
      rest_is = more.rest_is;
    }

events_go : {text x y : List ℕ} {most m n : ℕ} {es fs : List Event} → EventsAt text most m es x
    → EventsAt text most n fs y → m ≤ n → GoesOn es fs x y
events_go {text} {x} {y} {most} {m} {n} {es} {fs} a b few =
    goes_on most [] es fs x y (lines_of_all most es a.lines) (lines_of_all most fs b.lines) (sym a.text_is ∙ b.text_is)
    (omega (arith, a.number, b.number, few))

none_later : (es later : List Event) → length (es ++ later) ≡ length es → later ≡ []
none_later es [] same = refl
none_later es (e ∷ later) same = absurd (omega (arith, same, length-append es (e ∷ later)))

-- so many events at the front of one text are one list, and so is what follows them
pub events_alike : {text x y : List ℕ} {most m n : ℕ} {es fs : List Event} → EventsAt text most m es x
    → EventsAt text most n fs y → m ≡ n → (es ≡ fs) × (x ≡ y)
events_alike {text} {x} {y} {most} {m} {n} {es} {fs} a b same =
    let g = events_go a b (omega (arith, same)) in
    let none = none_later es g.later (sym (ap length g.events_are) ∙ b.number ∙ sym same ∙ sym a.number) in (
      sym (g.events_are ∙ ap (λ l. es ++ l) none ∙ append-nil es),
      g.rest_is ∙ ap (λ l. lines_of event_words l ++ y) none,
    )

-- the next event after these has its line
next_line : {x y : List ℕ} {most : ℕ} {es fs : List Event} → (g : GoesOn es fs x y) → HaveLines most (reverse fs)
    → length es < length fs → NextLine most (adds (reverse es)) x
next_line {x} {y} {most} {es} {fs} g lines more = at g.later g.events_are g.rest_is where
  at : (later : List Event) → fs ≡ es ++ later → x ≡ lines_of event_words later ++ y
      → NextLine most (adds (reverse es)) x
  at [] events_are rest_is = absurd (omega (arith, more, ap length (events_are ∙ append-nil es)))
  at (e ∷ later) events_are rest_is =
      let turned = ap reverse events_are ∙ reverse-append es (e ∷ later) ∙ reverse_on e later (reverse es) in
      record {
        e = e;
        has = (older_have most (reverse later) (e ∷ reverse es) (subst (HaveLines most) turned lines)).1;
        rest = lines_of event_words later ++ y;
        text_is = rest_is ∙ append_assoc (text_line (Shown e)) (lines_of event_words later) y;
      }

-- where all lines are there, none is refused
pub events_never_refused : {text x : List ℕ} {most count before : ℕ} {es : List Event} {c : Cause}
    → EventsAt text most count es x → EventRefused text most count before c → ⊥
events_never_refused {text} {x} {most} {count} {before} {es} {c} a r =
    let g = events_go r.read a (omega (arith, r.more)) in
    stops_never most (adds (reverse r.events)) r.rest c
    (next_line g a.lines (omega (arith, r.more, r.read.number, a.number))) r.stops

-- nor is one where more of them are there
earlier_never : {text : List ℕ} {most count m n : ℕ} {c d : Cause} → EventRefused text most count m c
    → EventRefused text most count n d → m < n → ⊥
earlier_never {text} {most} {count} {m} {n} {c} {d} a b less =
    let g = events_go a.read b.read (omega (arith, less)) in
    stops_never most (adds (reverse a.events)) a.rest c
    (next_line g b.read.lines (omega (arith, less, a.read.number, b.read.number))) a.stops

-- one event is refused first, for one cause
pub one_event : {text : List ℕ} {most count m n : ℕ} {c d : Cause} → EventRefused text most count m c
    → EventRefused text most count n d → (m ≡ n) × (c ≡ d)
one_event {text} {most} {count} {m} {n} {c} {d} a b = by_order (nat_lt m n) refl (nat_lt n m) refl where
  same : m ≡ n → (m ≡ n) × (c ≡ d)
  same is =
      let alike = events_alike a.read b.read is in (
        is,
        one_cause most (adds (reverse b.events)) b.rest c d
            (subst (λ t. StopsEvent most (adds (reverse b.events)) t c) alike.1
            (subst (λ es. StopsEvent most (adds (reverse es)) a.rest c) alike.0 a.stops))
            b.stops,
      )

  by_order : (less : Bool) → nat_lt m n ≡ less → (more : Bool) → nat_lt n m ≡ more → (m ≡ n) × (c ≡ d)
  by_order true is more other = absurd (earlier_never a b (grind (arith, nat_tests)))
  by_order false is true other = absurd (earlier_never b a (grind (arith, nat_tests)))
  by_order false is false other = same (grind (arith, nat_tests))
