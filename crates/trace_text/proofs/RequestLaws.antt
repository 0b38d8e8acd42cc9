-- The lines of requests, behind what they begin with.
use Rattle.std.proofs.Common.{◌≡◌, ◌≢◌, ℕ, zero, suc, ◌≤◌, ◌==◌, ◌∙◌, Bool, true, false, List, [], ◌∷◌, ◌++◌, length, map, get_or, codes, if◌then◌else◌, Option, ap, refl, sym, arith, eq-eqb, eqb-true}
use Rattle.std.proofs.lemmas.Bool.{false≢true}
use Rattle.std.proofs.lemmas.List.{get_or-take, append-nil}
use Rattle.split_types.specs.declared.actor.Actor.{Actor}
use Rattle.split_types.specs.declared.request.ReqKind.{ReqKind}
use Rattle.split_types.specs.declared.request.ReqKind.TheVariants as kind
use Rattle.split_types.specs.declared.event.Event.{Event}
use Rattle.split_types.specs.declared.event.Event.TheVariants as event
use Rattle.split_types.specs.Lines.{numeral}
use Rattle.split_types.specs.EventText.{numerals, subject}
use Rattle.workload_reader.specs.Fields.{NumberAt, behind}
use Rattle.workload_reader.proofs.Alike.{cancel}
use Rattle.trace_text.specs.declared.numbers.Numbers.{Numbers}
use Rattle.trace_text.specs.declared.row.RequestRow.{RequestRow}
use Rattle.trace_text.specs.declared.row.RequestRow.TheVariants as asked
use Rattle.trace_text.specs.EventLines.{EventLine, Shown, is_small, smalls, IsAskedBy, IsFormed}
use Rattle.trace_text.specs.Numbers.{small_or_none, LineNumbers, HasCounts, number_words, Holds}
use Rattle.trace_text.specs.Rows.{Asks, Reads, request_count, request_event, allows, read_event}
use Rattle.trace_text.specs.Tails.{added_row, row_of, number_of, added_words, last_words, tail, Says}
use Rattle.trace_text.proofs.Fields.{numbers_alike}
use Rattle.trace_text.proofs.ClientEvents.{none_left, all_of_them}
use Rattle.trace_text.proofs.ThreadEvents.{request_smalls}
use Rattle.trace_text.proofs.TailLaws.{has_number, line_alone, number_here, after_number}

-- a request of a thread: its numbers are all that follows, and it may be for so many blocks
record IsRequest (row : RequestRow) (l : EventLine) : Type 0 where
  ns : List ℕ
  words_are : last_words l ≡ numerals ns
  number : length ns ≡ request_count row
  allowed : allows row (get_or ns 1 0) ≡ true

added_request : (by : Actor) (k : ReqKind) (first n : ℕ) (row : RequestRow) → IsAskedBy by k n → added_row k ≡ Asks row
    → (length (first ∷ n ∷ subject k) ≡ request_count row) × (allows row n ≡ true)
    × (added_words k first n ≡ numerals (first ∷ n ∷ subject k))
added_request by (kind.Pages serial page) first n asked.Pages is at = (refl, refl, refl)
added_request by (kind.Log t) first n asked.Log is at = (refl, refl, refl)
added_request by (kind.Commit t) first n asked.Commit is at = (refl, eq-eqb n 1 is.1, refl)
added_request by (kind.Home t) first n asked.Home is at = (refl, eq-eqb n 1 is.1, refl)
added_request by (kind.Clear t) first n asked.Clear is at = (refl, eq-eqb n 1 is.1, refl)
added_request by k first n row is at = absurd (cc)

request_of_line : (adds : ℕ) (row : RequestRow) (l : EventLine) → IsFormed adds l → row_of l ≡ Asks row
    → IsRequest row l
request_of_line adds row (Shown (event.Add by r)) formed at =
    let is = added_request by r.kind r.first r.n row formed.1 at in
    record { ns = r.first ∷ r.n ∷ subject r.kind; words_are = is.2; number = is.0; allowed = is.1 }
request_of_line adds row l formed at = absurd (cc)

asks_alone : (adds : ℕ) (row : RequestRow) (l : EventLine) → IsFormed adds l → row_of l ≡ Asks row → number_of l ≡ []
asks_alone adds row l formed at = line_alone adds l formed (ap has_number at)

-- what is left of the line
asked_tail : (adds : ℕ) (row : RequestRow) (l : EventLine) (rest : List ℕ) → IsFormed adds l → row_of l ≡ Asks row
    → (r : IsRequest row l) → tail l rest ≡ behind (numerals r.ns) (10 ∷ rest)
asked_tail adds row l rest formed at r = ap (λ w. w ++ behind (last_words l) (10 ∷ rest))
    (asks_alone adds row l formed at) ∙ ap (λ w. behind w (10 ∷ rest)) r.words_are

-- a request whose numbers can't be read
pub asked_unread : (row : RequestRow) (text : List ℕ) (adds : ℕ)
    → ((x : LineNumbers) (rest : List ℕ) → HasCounts (request_count row) false x
    → text ≢ behind (number_words x) (10 ∷ rest))
    → (l : EventLine) (rest : List ℕ) → IsFormed adds l → row_of l ≡ Asks row → text ≢ tail l rest
asked_unread row text adds none l rest formed at e =
    let r = request_of_line adds row l formed at in
    none (r.ns, []) rest (r.number, refl) (e ∙ asked_tail adds row l rest formed at r
    ∙ ap (λ ns. behind (numerals ns) (10 ∷ rest)) (sym (append-nil r.ns)))

get_or-kept : (ns : List ℕ) (i : ℕ) → get_or (map small_or_none ns) i 0 ≡ small_or_none (get_or ns i 0)
get_or-kept [] i = refl
get_or-kept (n ∷ ns) zero = refl
get_or-kept (n ∷ ns) (suc i) = get_or-kept ns i

-- the second number, as it is kept
pub second : {count : ℕ} {x : LineNumbers} {n : Numbers} → Holds count false x n → 2 ≤ count
    → get_or n.small 1 0 ≡ small_or_none (get_or x.0 1 0)
second {count} {x} {n} h more = sym (get_or-take count n.small 1 0 (omega arith)) ∙ ap (λ l. get_or l 1 0) h.small
    ∙ get_or-kept x.0 1

-- it is 1 exactly where 1 is kept
one_kept : (m : ℕ) → small_or_none m ≡ 1 → m ≡ 1
one_kept m e = by_bits (is_small m) e where
  by_bits : (fits : Bool) → (if fits then m else 0) ≡ 1 → m ≡ 1
  by_bits true is = is
  by_bits false is = absurd (omega (arith, is))

request_more : (row : RequestRow) → 2 ≤ request_count row
request_more asked.Pages = omega arith
request_more asked.Log = omega arith
request_more asked.Commit = omega arith
request_more asked.Home = omega arith
request_more asked.Clear = omega arith

-- whether it may be for so many blocks, as the numbers kept say
allows_kept : (row : RequestRow) (m : ℕ) → allows row m ≡ true → allows row (small_or_none m) ≡ true
allows_kept asked.Pages m e = refl
allows_kept asked.Log m e = refl
allows_kept asked.Commit m e = ap (λ k. small_or_none k == 1) (eqb-true m 1 e)
allows_kept asked.Home m e = ap (λ k. small_or_none k == 1) (eqb-true m 1 e)
allows_kept asked.Clear m e = ap (λ k. small_or_none k == 1) (eqb-true m 1 e)

-- the numbers that were read are those of the line
same_numbers : {count : ℕ} {text : List ℕ} (last rest : List ℕ) (x : LineNumbers) (ns : List ℕ)
    → HasCounts count false x → length ns ≡ count → text ≡ behind (number_words x) (10 ∷ last)
    → text ≡ behind (numerals ns) (10 ∷ rest) → x.0 ≡ ns
same_numbers {count} {text} last rest x ns counts number read e =
    let none = none_left x.1 counts.1 in
    let whole : x.0 ++ x.1 ≡ x.0 = ap (λ w. x.0 ++ w) (sym none) ∙ append-nil x.0 in
    (numbers_alike x.0 ns (10 ∷ last) (10 ∷ rest) (counts.0 ∙ sym number) (λ _. refl) (λ _. refl)
    (ap (λ l. behind (numerals l) (10 ∷ last)) (sym whole) ∙ sym read ∙ e)).0

-- a request for blocks that it may not be for
pub asked_refused : (row : RequestRow) (text last : List ℕ) (adds : ℕ) (x : LineNumbers) (n : Numbers)
    → HasCounts (request_count row) false x → text ≡ behind (number_words x) (10 ∷ last)
    → Holds (request_count row) false x n → allows row (get_or n.small 1 0) ≡ false → (l : EventLine) (rest : List ℕ)
    → IsFormed adds l → row_of l ≡ Asks row → text ≢ tail l rest
asked_refused row text last adds x n counts read holds refused l rest formed at e =
    let r = request_of_line adds row l formed at in
    let same = same_numbers _ rest x r.ns counts r.number read (e ∙ asked_tail adds row l rest formed at r) in
    let kept : allows row (small_or_none (get_or x.0 1 0)) ≡ true =
    allows_kept row (get_or x.0 1 0) (ap (λ ns. allows row (get_or ns 1 0)) same ∙ r.allowed) in
    false≢true (sym refused ∙ ap (allows row) (second holds (request_more row)) ∙ kept)

request_formed : (row : RequestRow) (adds : ℕ) (ns : List ℕ) → allows row (get_or ns 1 0) ≡ true
    → IsFormed adds (Shown (request_event row adds ns)) × (row_of (Shown (request_event row adds ns)) ≡ Asks row)
    × (number_of (Shown (request_event row adds ns)) ≡ [])
    × (last_words (Shown (request_event row adds ns)) ≡ numerals (smalls (Shown (request_event row adds ns))))
request_formed asked.Pages adds ns allowed = ((refl, refl), refl, refl, refl)
request_formed asked.Log adds ns allowed = ((refl, refl), refl, refl, refl)
request_formed asked.Commit adds ns allowed = ((refl, (refl, eqb-true (get_or ns 1 0) 1 allowed)), refl, refl, refl)
request_formed asked.Home adds ns allowed = ((refl, (refl, eqb-true (get_or ns 1 0) 1 allowed)), refl, refl, refl)
request_formed asked.Clear adds ns allowed = ((refl, (refl, eqb-true (get_or ns 1 0) 1 allowed)), refl, refl, refl)

kept_allows : (row : RequestRow) (m : ℕ) → allows row (small_or_none m) ≡ true → allows row m ≡ true
kept_allows asked.Pages m e = refl
kept_allows asked.Log m e = refl
kept_allows asked.Commit m e = eq-eqb m 1 (one_kept m (eqb-true (small_or_none m) 1 e))
kept_allows asked.Home m e = eq-eqb m 1 (one_kept m (eqb-true (small_or_none m) 1 e))
kept_allows asked.Clear m e = eq-eqb m 1 (one_kept m (eqb-true (small_or_none m) 1 e))

-- the words of the numbers that were read
only_smalls : (x : LineNumbers) (rest : List ℕ) → length x.1 ≡ 0
    → behind (number_words x) rest ≡ behind (numerals x.0) rest
only_smalls x rest none = ap (λ w. behind (numerals (x.0 ++ w)) rest) (sym (none_left x.1 none))
    ∙ ap (λ l. behind (numerals l) rest) (append-nil x.0)

-- a request that was read
pub asked_read : (row : RequestRow) (text last : List ℕ) (most adds : ℕ) (x : LineNumbers) (n : Numbers)
    (found : Option Event) → HasCounts (request_count row) false x
    → text ≡ behind (number_words x) (10 ∷ last) → Holds (request_count row) false x n
    → allows row (get_or n.small 1 0) ≡ true → Says most (Shown (request_event row adds x.0)) found
    → (l : EventLine) × IsFormed adds l × (row_of l ≡ Asks row) × (text ≡ tail l last) × Says most l found
asked_read row text last most adds x n found counts read holds allowed says =
    let l = Shown (request_event row adds x.0) in
    let formed = request_formed row adds x.0 (kept_allows row (get_or x.0 1 0)
    (ap (allows row) (sym (second holds (request_more row))) ∙ allowed)) in (
      l,
      formed.0,
      formed.1,
      read
          ∙ only_smalls x (10 ∷ last) counts.1
          ∙ ap (λ ns. behind (numerals ns) (10 ∷ last)) (sym (request_smalls row adds x.0 counts.0))
          ∙ ap (λ w. behind w (10 ∷ last)) (sym formed.3)
          ∙ ap (λ w. w ++ behind (last_words l) (10 ∷ last)) (sym formed.2),
      says,
    )

-- a read of a page: four numbers behind a word, of which one is 1
record IsRead (l : EventLine) : Type 0 where
  ns : List ℕ
  words_are : last_words l ≡ codes "read" ∷ numerals ns
  number : length ns ≡ 4
  one : get_or ns 1 0 ≡ 1

added_read : (by : Actor) (k : ReqKind) (first n : ℕ) → IsAskedBy by k n → added_row k ≡ Reads
    → (length (first ∷ n ∷ subject k) ≡ 4) × (n ≡ 1) × (added_words k first n
    ≡ codes "read" ∷ numerals (first ∷ n ∷ subject k))
added_read by (kind.Read p serial page) first n is at = (refl, is.1, refl)
added_read by k first n is at = absurd (cc)

read_of_line : (adds : ℕ) (l : EventLine) → IsFormed adds l → row_of l ≡ Reads → IsRead l
read_of_line adds (Shown (event.Add by r)) formed at =
    let is = added_read by r.kind r.first r.n formed.1 at in
    record { ns = r.first ∷ r.n ∷ subject r.kind; words_are = is.2; number = is.0; one = is.1 }
read_of_line adds l formed at = absurd (cc)

pub read_unread : (text : List ℕ) (adds : ℕ) → ((n : ℕ) (rest : List ℕ) → NumberAt text n rest → ⊥)
    → (l : EventLine) (rest : List ℕ) → IsFormed adds l → row_of l ≡ Reads → text ≢ tail l rest
read_unread text adds none l rest formed at e = let p = number_here adds Reads l rest refl formed at e in none p.0 _ p.2

-- what follows the client that was read
read_after : {text more : List ℕ} {p : ℕ} (adds : ℕ) (l : EventLine) (rest : List ℕ) → NumberAt text p more
    → IsFormed adds l → row_of l ≡ Reads → text ≡ tail l rest → (r : IsRead l)
    → more ≡ codes " read" ++ behind (numerals r.ns) (10 ∷ rest)
read_after adds l rest read formed at e r = after_number adds Reads l rest refl read formed at e
    ∙ ap (λ w. behind w (10 ∷ rest)) r.words_are

pub read_unnamed : (text more : List ℕ) (p adds : ℕ) → NumberAt text p more
    → ((rest : List ℕ) → more ≢ codes " read" ++ rest)
    → (l : EventLine) (rest : List ℕ) → IsFormed adds l → row_of l ≡ Reads → text ≢ tail l rest
read_unnamed text more p adds read none l rest formed at e =
    none _ (read_after adds l rest read formed at e (read_of_line adds l formed at))

-- what follows the word that was read
read_last : {text more last : List ℕ} {p : ℕ} (adds : ℕ) (l : EventLine) (rest : List ℕ) → NumberAt text p more
    → more ≡ codes " read" ++ last → IsFormed adds l → row_of l ≡ Reads → text ≡ tail l rest → (r : IsRead l)
    → last ≡ behind (numerals r.ns) (10 ∷ rest)
read_last adds l rest read named formed at e r = cancel (codes " read") (sym named
    ∙ read_after adds l rest read formed at e r)

pub read_unfinished : (text more last : List ℕ) (p adds : ℕ) → NumberAt text p more → more ≡ codes " read" ++ last
    → ((x : LineNumbers) (rest : List ℕ) → HasCounts 4 false x → last ≢ behind (number_words x) (10 ∷ rest))
    → (l : EventLine) (rest : List ℕ) → IsFormed adds l → row_of l ≡ Reads → text ≢ tail l rest
read_unfinished text more last p adds read named none l rest formed at e =
    let r = read_of_line adds l formed at in
    none (r.ns, []) rest (r.number, refl) (read_last adds l rest read named formed at e r
    ∙ ap (λ ns. behind (numerals ns) (10 ∷ rest)) (sym (append-nil r.ns)))

pub read_refused : (text more last end : List ℕ) (p adds : ℕ) (x : LineNumbers) (n : Numbers) → NumberAt text p more
    → more ≡ codes " read" ++ last → HasCounts 4 false x
    → last ≡ behind (number_words x) (10 ∷ end) → Holds 4 false x n → (get_or n.small 1 0 ≡ 1 → ⊥)
    → (l : EventLine) (rest : List ℕ) → IsFormed adds l → row_of l ≡ Reads → text ≢ tail l rest
read_refused text more last end p adds x n read named counts is holds never l rest formed at e =
    let r = read_of_line adds l formed at in
    let same = same_numbers _ rest x r.ns counts r.number is (read_last adds l rest read named formed at e r) in
    never (second holds (omega arith) ∙ ap (λ ns. small_or_none (get_or ns 1 0)) same ∙ ap small_or_none r.one)

pub read_read : (text more last end : List ℕ) (p most adds : ℕ) (x : LineNumbers) (n : Numbers) (found : Option Event)
    → NumberAt text p more → more ≡ codes " read" ++ last → HasCounts 4 false x
    → last ≡ behind (number_words x) (10 ∷ end) → Holds 4 false x n → get_or n.small 1 0 ≡ 1
    → Says most (Shown (read_event (record { 0 = p }) adds x.0)) found
    → (l : EventLine) × IsFormed adds l × (row_of l ≡ Reads) × (text ≡ tail l end) × Says most l found
read_read text more last end p most adds x n found read named counts is holds one says = (
  Shown (read_event (record { 0 = p }) adds x.0),
  (refl, (refl, one_kept (get_or x.0 1 0) (sym (second holds (omega arith)) ∙ one))),
  refl,
  read.text_is ∙ ap (λ r. numeral p ++ r) (named ∙ ap (λ r. codes " read" ++ r) (is ∙ only_smalls x (10 ∷ end) counts.1
      ∙ ap (λ ns. behind (numerals ns) (10 ∷ end)) (sym (all_of_them 4 x.0 counts.0)))),
  says,
)
