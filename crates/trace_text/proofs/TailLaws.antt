-- What is left of a line behind what it begins with.
use Rattle.std.proofs.Common.{◌≡◌, ◌≢◌, ℕ, ◌∙◌, Bool, true, false, List, [], ◌∷◌, ◌++◌, Option, ap, refl, sym, subst}
use Rattle.std.proofs.lemmas.Bool.{false≢true}
use Rattle.split_types.specs.declared.ids.Pid.{Pid}
use Rattle.split_types.specs.declared.actor.Actor.{Actor}
use Rattle.split_types.specs.declared.request.ReqKind.{ReqKind}
use Rattle.split_types.specs.declared.request.ReqKind.TheVariants as kind
use Rattle.split_types.specs.declared.event.Event.{Event}
use Rattle.split_types.specs.declared.event.Event.TheVariants as event
use Rattle.split_types.specs.Lines.{numeral}
use Rattle.split_types.specs.EventText.{numerals, subject}
use Rattle.workload_reader.specs.Fields.{ends_number, NumberAt, behind}
use Rattle.workload_reader.proofs.Alike.{number_alike}
use Rattle.trace_text.specs.declared.row.ClientRow.{ClientRow}
use Rattle.trace_text.specs.declared.row.ClientRow.TheVariants as client
use Rattle.trace_text.specs.declared.row.ThreadRow.{ThreadRow}
use Rattle.trace_text.specs.EventLines.{EventLine, Shown, OddMap, smalls, wides, IsAskedBy, IsFormed}
use Rattle.trace_text.specs.Numbers.{LineNumbers, HasCounts, number_words}
use Rattle.trace_text.specs.Rows.{Row, Client, Thread, Asks, Returns, Reads, Completes, client_count, client_is_wide, client_event, thread_count, thread_is_wide, thread_line, request_count}
use Rattle.trace_text.specs.Tails.{added_row, row_of, actor_number, number_of, added_words, last_words, tail, Says}
use Rattle.trace_text.proofs.ClientEvents.{client_smalls, client_wides, client_maker}
use Rattle.trace_text.proofs.ThreadEvents.{thread_is_line}

-- an actor with a number is behind what a row begins with
abbrev pub has_number : Row → Bool
has_number (Client row) = true
has_number (Thread row) = false
has_number (Asks row) = false
has_number Returns = true
has_number Reads = true
has_number Completes = true

abbrev pub row_count : Row → ℕ
row_count (Client row) = client_count row
row_count (Thread row) = thread_count row
row_count (Asks row) = request_count row
row_count _ = 0

abbrev pub row_is_wide : Row → Bool
row_is_wide (Client row) = client_is_wide row
row_is_wide (Thread row) = thread_is_wide row
row_is_wide _ = false

-- numbers are all that follows
abbrev pub numbers_only : Row → Bool
numbers_only (Client row) = true
numbers_only (Thread row) = true
numbers_only (Asks row) = true
numbers_only _ = false

-- words that are so many numbers
record AreNumbers (words : List (List ℕ)) (ns ws : List ℕ) (count : ℕ) (has_wide : Bool) : Type 0 where
  words_are : words ≡ numerals (ns ++ ws)
  counts : HasCounts count has_wide (ns, ws)

added_numbers : (k : ReqKind) (first n : ℕ) → numbers_only (added_row k) ≡ true
    → AreNumbers (added_words k first n) (first ∷ n ∷ subject k) [] (row_count (added_row k))
    (row_is_wide (added_row k))
added_numbers (kind.Read p serial page) first n only = absurd (false≢true only)
added_numbers (kind.Pages serial page) first n only = record { words_are = refl; counts = (refl, refl) }
added_numbers (kind.Log t) first n only = record { words_are = refl; counts = (refl, refl) }
added_numbers (kind.Commit t) first n only = record { words_are = refl; counts = (refl, refl) }
added_numbers (kind.Home t) first n only = record { words_are = refl; counts = (refl, refl) }
added_numbers (kind.Clear t) first n only = record { words_are = refl; counts = (refl, refl) }

-- of a row with numbers alone
line_numbers : (l : EventLine) → numbers_only (row_of l) ≡ true
    → AreNumbers (last_words l) (smalls l) (wides l) (row_count (row_of l)) (row_is_wide (row_of l))
line_numbers (Shown (event.Enter by k)) only = record { words_are = refl; counts = (refl, refl) }
line_numbers (Shown (event.Admit by)) only = record { words_are = refl; counts = (refl, refl) }
line_numbers (Shown (event.Make by slot serial)) only = record { words_are = refl; counts = (refl, refl) }
line_numbers (Shown (event.Put by serial page start end fill)) only = record { words_are = refl; counts = (refl, refl) }
line_numbers (Shown (event.Get by serial page start end sum)) only = record { words_are = refl; counts = (refl, refl) }
line_numbers (Shown (event.Drop by slot serial)) only = record { words_are = refl; counts = (refl, refl) }
line_numbers (Shown (event.Flushed by)) only = record { words_are = refl; counts = (refl, refl) }
line_numbers (Shown (event.Ret by answer)) only = absurd (false≢true only)
line_numbers (Shown (event.Serve serial page n)) only = record { words_are = refl; counts = (refl, refl) }
line_numbers (Shown (event.Map slot serial page n block new size)) only =
    record { words_are = refl; counts = (refl, refl) }
line_numbers (Shown event.Skip) only = record { words_are = refl; counts = (refl, refl) }
line_numbers (Shown (event.Seal t k)) only = record { words_are = refl; counts = (refl, refl) }
line_numbers (Shown (event.Add by r)) only = added_numbers r.kind r.first r.n only
line_numbers (Shown (event.Send id cost)) only = record { words_are = refl; counts = (refl, refl) }
line_numbers (Shown (event.Done k id ok)) only = absurd (false≢true only)
line_numbers (Shown (event.Evict by serial page)) only = record { words_are = refl; counts = (refl, refl) }
line_numbers (Shown (event.Tick d)) only = record { words_are = refl; counts = (refl, refl) }
line_numbers (OddMap slot serial page n block new size) only = record { words_are = refl; counts = (refl, refl) }

-- an actor's number, where a row has one
record HasNumber (l : EventLine) : Type 0 where
  number : ℕ
  number_is : number_of l ≡ numeral number

added_number : (by : Actor) (k : ReqKind) (n : ℕ) → IsAskedBy by k n → has_number (added_row k) ≡ true
    → (p : ℕ) × (actor_number by ≡ numeral p)
added_number by (kind.Read p serial page) n is has = (p.0, ap actor_number is.0)
added_number by (kind.Pages serial page) n is has = absurd (false≢true has)
added_number by (kind.Log t) n is has = absurd (false≢true has)
added_number by (kind.Commit t) n is has = absurd (false≢true has)
added_number by (kind.Home t) n is has = absurd (false≢true has)
added_number by (kind.Clear t) n is has = absurd (false≢true has)

line_number : (adds : ℕ) (l : EventLine) → IsFormed adds l → has_number (row_of l) ≡ true → HasNumber l
line_number adds (Shown (event.Enter by k)) formed has = record { number = by.0; number_is = refl }
line_number adds (Shown (event.Admit by)) formed has = record { number = by.0; number_is = refl }
line_number adds (Shown (event.Make by slot serial)) formed has = record { number = by.0; number_is = refl }
line_number adds (Shown (event.Put by serial page start end fill)) formed has =
    record { number = by.0; number_is = refl }
line_number adds (Shown (event.Get by serial page start end sum)) formed has =
    record { number = by.0; number_is = refl }
line_number adds (Shown (event.Drop by slot serial)) formed has = record { number = by.0; number_is = refl }
line_number adds (Shown (event.Flushed by)) formed has = record { number = by.0; number_is = refl }
line_number adds (Shown (event.Ret by answer)) formed has = record { number = by.0; number_is = refl }
line_number adds (Shown (event.Add by r)) formed has = let p = added_number by r.kind r.n formed.1 has in
    record { number = p.0; number_is = p.1 }
line_number adds (Shown (event.Done k id ok)) formed has = record { number = k; number_is = refl }
line_number adds (Shown (event.Evict by serial page)) formed has = record { number = by.0; number_is = refl }
line_number adds l formed has = absurd (false≢true has)

added_alone : (by : Actor) (k : ReqKind) (n : ℕ) → IsAskedBy by k n → has_number (added_row k) ≡ false
    → actor_number by ≡ []
added_alone by (kind.Read p serial page) n is none = absurd (false≢true (sym none))
added_alone by (kind.Pages serial page) n is none = ap actor_number is
added_alone by (kind.Log t) n is none = ap actor_number is
added_alone by (kind.Commit t) n is none = ap actor_number is.0
added_alone by (kind.Home t) n is none = ap actor_number is.0
added_alone by (kind.Clear t) n is none = ap actor_number is.0

-- and none where a row has none
pub line_alone : (adds : ℕ) (l : EventLine) → IsFormed adds l → has_number (row_of l) ≡ false → number_of l ≡ []
line_alone adds (Shown (event.Serve serial page n)) formed none = refl
line_alone adds (Shown (event.Map slot serial page n block new size)) formed none = refl
line_alone adds (Shown event.Skip) formed none = refl
line_alone adds (Shown (event.Seal t k)) formed none = refl
line_alone adds (Shown (event.Add by r)) formed none = added_alone by r.kind r.n formed.1 none
line_alone adds (Shown (event.Send id cost)) formed none = refl
line_alone adds (Shown (event.Tick d)) formed none = refl
line_alone adds (OddMap slot serial page n block new size) formed none = refl
line_alone adds l formed none = absurd (false≢true (sym none))

-- no digit follows a word
ends_words : (words : List (List ℕ)) (rest : List ℕ) → ends_number (behind words (10 ∷ rest)) ≡ true
ends_words [] rest = refl
ends_words (word ∷ words) rest = refl

-- an actor's number stands at the front of what is left of a line
pub number_here : {text : List ℕ} (adds : ℕ) (row : Row) (l : EventLine) (rest : List ℕ) → has_number row ≡ true
    → IsFormed adds l → row_of l ≡ row → text ≡ tail l rest
    → (p : ℕ) × (number_of l ≡ numeral p) × NumberAt text p (behind (last_words l) (10 ∷ rest))
number_here {text} adds row l rest has formed at e =
    let n = line_number adds l formed (ap has_number at ∙ has) in (
      n.number,
      n.number_is,
      record {
        text_is = e ∙ ap (λ w. w ++ behind (last_words l) (10 ∷ rest)) n.number_is;
        ends =
            ends_words (last_words l) rest;
      },
    )

-- what follows the actor's number that was read is what follows it in the line
pub after_number : {text more : List ℕ} {p : ℕ} (adds : ℕ) (row : Row) (l : EventLine) (rest : List ℕ)
    → has_number row ≡ true → NumberAt text p more → IsFormed adds l → row_of l ≡ row → text ≡ tail l rest
    → more ≡ behind (last_words l) (10 ∷ rest)
after_number {text} {more} {p} adds row l rest has read formed at e =
    (number_alike read (number_here adds row l rest has formed at e).2).1

-- the numbers of a line with numbers alone
pub line_words : (row : Row) (l : EventLine) → numbers_only row ≡ true → row_of l ≡ row
    → (last_words l ≡ number_words (smalls l, wides l))
    × HasCounts (row_count row) (row_is_wide row) (smalls l, wides l)
line_words row l only at =
    let are = line_numbers l (ap numbers_only at ∙ only) in
    (are.words_are, subst (λ r. HasCounts (row_count r) (row_is_wide r) (smalls l, wides l)) at are.counts)

-- a client's line of which no number can be read
pub client_unread : (row : ClientRow) (text : List ℕ) (adds : ℕ) → ((n : ℕ) (rest : List ℕ) → NumberAt text n rest → ⊥)
    → (l : EventLine) (rest : List ℕ) → IsFormed adds l → row_of l ≡ Client row → text ≢ tail l rest
client_unread row text adds none l rest formed at e = let p = number_here adds (Client row) l rest refl formed at e in
    none p.0 _ p.2

-- or whose other numbers can't
pub client_unfinished : (row : ClientRow) (text more : List ℕ) (p adds : ℕ) → NumberAt text p more
    → ((x : LineNumbers) (rest : List ℕ) → HasCounts (client_count row) (client_is_wide row) x
    → more ≢ behind (number_words x) (10 ∷ rest))
    → (l : EventLine) (rest : List ℕ) → IsFormed adds l → row_of l ≡ Client row → text ≢ tail l rest
client_unfinished row text more p adds read none l rest formed at e =
    let words = line_words (Client row) l refl at in
    none (smalls l, wides l) rest words.1 (after_number adds (Client row) l rest refl read formed at e
    ∙ ap (λ w. behind w (10 ∷ rest)) words.0)

client_formed : (row : ClientRow) (by : Pid) (ns ws : List ℕ) (adds : ℕ)
    → IsFormed adds (Shown (client_event row by ns ws)) × (row_of (Shown (client_event row by ns ws)) ≡ Client row)
client_formed client.Enter by ns ws adds = (tt, refl)
client_formed client.Admit by ns ws adds = (tt, refl)
client_formed client.Make by ns ws adds = (tt, refl)
client_formed client.Put by ns ws adds = (tt, refl)
client_formed client.Get by ns ws adds = (tt, refl)
client_formed client.Drop by ns ws adds = (tt, refl)
client_formed client.Flushed by ns ws adds = (tt, refl)
client_formed client.Evict by ns ws adds = (tt, refl)

-- a line with these numbers
number_line : {ns ws : List ℕ} (row : Row) (l : EventLine) (rest : List ℕ) → numbers_only row ≡ true → row_of l ≡ row
    → smalls l ≡ ns → wides l ≡ ws
    → behind (last_words l) (10 ∷ rest) ≡ behind (number_words (ns, ws)) (10 ∷ rest)
number_line {ns} {ws} row l rest only at smalls_is wides_is =
    ap (λ w. behind w (10 ∷ rest)) (line_words row l only at).0
    ∙ ap (λ s. behind (numerals (s ++ wides l)) (10 ∷ rest)) smalls_is
    ∙ ap (λ w. behind (numerals (ns ++ w)) (10 ∷ rest)) wides_is

-- a client's line that was read
pub client_read : (row : ClientRow) (text more last : List ℕ) (p most adds : ℕ) (x : LineNumbers) (found : Option Event)
    → NumberAt text p more → HasCounts (client_count row) (client_is_wide row) x
    → more ≡ behind (number_words x) (10 ∷ last) → Says most (Shown (client_event row (record { 0 = p }) x.0 x.1)) found
    → (l : EventLine) × IsFormed adds l × (row_of l ≡ Client row) × (text ≡ tail l last) × Says most l found
client_read row text more last p most adds x found read counts is says =
    let by : Pid = record { 0 = p } in
    let l = Shown (client_event row by x.0 x.1) in
    let formed = client_formed row by x.0 x.1 adds in (
      l,
      formed.0,
      formed.1,
      read.text_is
          ∙ ap (λ r. numeral p ++ r) (is
          ∙ sym (number_line (Client row) l last refl formed.1 (client_smalls row by x.0 x.1 counts.0)
          (client_wides row by x.0 x.1 counts.1)))
          ∙ ap (λ a. actor_number a ++ behind (last_words l) (10 ∷ last)) (sym (client_maker row by x.0 x.1)),
      says,
    )

-- a thread's line whose numbers can't be read
pub thread_unread : (row : ThreadRow) (text : List ℕ) (adds : ℕ)
    → ((x : LineNumbers) (rest : List ℕ) → HasCounts (thread_count row) (thread_is_wide row) x
    → text ≢ behind (number_words x) (10 ∷ rest))
    → (l : EventLine) (rest : List ℕ) → IsFormed adds l → row_of l ≡ Thread row → text ≢ tail l rest
thread_unread row text adds none l rest formed at e =
    let words = line_words (Thread row) l refl at in
    let alone = line_alone adds l formed (ap has_number at) in
    none (smalls l, wides l) rest words.1 (e ∙ ap (λ w. w ++ behind (last_words l) (10 ∷ rest)) alone
    ∙ ap (λ w. behind w (10 ∷ rest)) words.0)

-- a thread's line that was read
pub thread_read : (row : ThreadRow) (text last : List ℕ) (most adds : ℕ) (x : LineNumbers) (found : Option Event)
    → HasCounts (thread_count row) (thread_is_wide row) x
    → text ≡ behind (number_words x) (10 ∷ last) → Says most (thread_line row x.0 x.1) found
    → (l : EventLine) × IsFormed adds l × (row_of l ≡ Thread row) × (text ≡ tail l last) × Says most l found
thread_read row text last most adds x found counts is says =
    let l = thread_line row x.0 x.1 in
    let line = thread_is_line adds row x.0 x.1 counts.0 counts.1 in (
      l,
      line.formed,
      line.row_is,
      is ∙ sym (number_line (Thread row) l last refl line.row_is line.smalls_is line.wides_is)
          ∙ ap (λ w. w ++ behind (last_words l) (10 ∷ last)) (sym line.number_is),
      says,
    )
