-- What lines begin with.
use Rattle.std.proofs.Common.{◌≡◌, ◌≢◌, ℕ, ◌==◌, Bool, true, false, ◌&&◌, List, [], ◌∷◌, ◌++◌, codes, if◌then◌else◌, ap, refl, sym, ◌∙◌, append_assoc, eqb-true, Option, Some, None, Bor}
use Rattle.std.proofs.lemmas.Bool.{false≢true}
use Rattle.std.specs.Char.{is_ascii_digit}
use Rattle.split_types.proofs.Shared.{front}
use Rattle.split_types.specs.declared.actor.Actor.{Actor}
use Rattle.split_types.specs.declared.request.ReqKind.{ReqKind}
use Rattle.split_types.specs.declared.request.ReqKind.TheVariants as kind
use Rattle.split_types.specs.declared.event.Event.{Event}
use Rattle.split_types.specs.declared.event.Event.TheVariants as event
use Rattle.split_types.specs.Lines.{numeral, fields, line, actor_word}
use Rattle.split_types.specs.EventText.{numerals, kind_word, subject, event_fields}
use Rattle.workload_reader.specs.Fields.{behind}
use Rattle.workload_reader.proofs.Alike.{cancel}
use Rattle.workload_reader.proofs.HeadLaws.{fields_behind}
use Rattle.trace_text.specs.declared.row.ClientRow.TheVariants as client
use Rattle.trace_text.specs.declared.row.ThreadRow.TheVariants as thread
use Rattle.trace_text.specs.declared.row.RequestRow.TheVariants as request
use Rattle.trace_text.specs.declared.row.ClientRow.{ClientRow}
use Rattle.trace_text.specs.declared.row.ThreadRow.{ThreadRow}
use Rattle.trace_text.specs.declared.row.RequestRow.{RequestRow}
use Rattle.trace_text.specs.EventLines.{EventLine, Shown, OddMap, text_line, IsAskedBy, IsFormed}
use Rattle.trace_text.specs.Rows.{Row, Client, Thread, Asks, Returns, Reads, Completes, head, client_head, thread_head, request_head}
use Rattle.trace_text.specs.Tails.{added_row, row_of, actor_number, added_words, last_words, tail, ReadsTail, ReadsLine}

-- a line: its word, its actor, and what follows
begins : (word actor : List ℕ) (others : List (List ℕ)) (rest : List ℕ)
    → line (word ∷ actor ∷ others) ++ rest ≡ word ++ (32 ∷ (actor ++ behind others (10 ∷ rest)))
begins word actor others rest =
    append_assoc word (fields (actor ∷ others) ++ 10 ∷ []) rest
    ∙ ap (λ l. word ++ l) (fields_behind (actor ∷ others) rest)

-- the line of a request
added_text : (by : Actor) (k : ReqKind) (first n : ℕ) (rest : List ℕ) → IsAskedBy by k n
    → line (codes "add" ∷ actor_word by ∷ kind_word k ∷ numerals (first ∷ n ∷ subject k)) ++ rest ≡ head (added_row k)
    ++ (actor_number by ++ behind (added_words k first n) (10 ∷ rest))
added_text by (kind.Read p serial page) first n rest is =
    rw is.0 (begins (codes "add") (99 ∷ numeral p.0) (kind_word (kind.Read p serial page) ∷ numerals
    (first ∷ n ∷ subject (kind.Read p serial page))) rest)
added_text by (kind.Pages serial page) first n rest is =
    rw is (begins (codes "add") (codes "wb") (kind_word (kind.Pages serial page) ∷ numerals
    (first ∷ n ∷ subject (kind.Pages serial page))) rest)
added_text by (kind.Log t) first n rest is = rw is (begins (codes "add") (codes "cm")
    (kind_word (kind.Log t) ∷ numerals (first ∷ n ∷ subject (kind.Log t))) rest)
added_text by (kind.Commit t) first n rest is = rw is.0
    (begins (codes "add") (codes "cm") (kind_word (kind.Commit t) ∷ numerals (first ∷ n ∷ subject (kind.Commit t)))
    rest)
added_text by (kind.Home t) first n rest is = rw is.0 (begins (codes "add") (codes "cm")
    (kind_word (kind.Home t) ∷ numerals (first ∷ n ∷ subject (kind.Home t))) rest)
added_text by (kind.Clear t) first n rest is = rw is.0
    (begins (codes "add") (codes "cm") (kind_word (kind.Clear t) ∷ numerals (first ∷ n ∷ subject (kind.Clear t))) rest)

-- each line begins as its row says
pub text_is : (adds : ℕ) (l : EventLine) (rest : List ℕ) → IsFormed adds l
    → text_line l ++ rest ≡ head (row_of l) ++ tail l rest
text_is adds (Shown (event.Enter by k)) rest formed = begins (codes "enter") (99 ∷ numeral by.0)
    (event_fields (event.Enter by k)) rest
text_is adds (Shown (event.Admit by)) rest formed = begins (codes "admit") (99 ∷ numeral by.0)
    (event_fields (event.Admit by)) rest
text_is adds (Shown (event.Make by slot serial)) rest formed =
    begins (codes "make") (99 ∷ numeral by.0) (event_fields (event.Make by slot serial)) rest
text_is adds (Shown (event.Put by serial page from to fill)) rest formed =
    begins (codes "put") (99 ∷ numeral by.0) (event_fields (event.Put by serial page from to fill)) rest
text_is adds (Shown (event.Get by serial page from to sum)) rest formed =
    begins (codes "get") (99 ∷ numeral by.0) (event_fields (event.Get by serial page from to sum)) rest
text_is adds (Shown (event.Drop by slot serial)) rest formed =
    begins (codes "drop") (99 ∷ numeral by.0) (event_fields (event.Drop by slot serial)) rest
text_is adds (Shown (event.Flushed by)) rest formed = begins (codes "flushed") (99 ∷ numeral by.0)
    (event_fields (event.Flushed by)) rest
text_is adds (Shown (event.Ret by reply)) rest formed =
    begins (codes "ret") (99 ∷ numeral by.0) (event_fields (event.Ret by reply)) rest
text_is adds (Shown (event.Serve serial page n)) rest formed =
    begins (codes "serve") (codes "wb") (event_fields (event.Serve serial page n)) rest
text_is adds (Shown (event.Map slot serial page n block new size)) rest formed =
    begins (codes "map") (codes "wb") (event_fields (event.Map slot serial page n block new size)) rest
text_is adds (Shown event.Skip) rest formed = begins (codes "skip") (codes "wb") [] rest
text_is adds (Shown (event.Seal t k)) rest formed = begins (codes "seal") (codes "cm") (event_fields (event.Seal t k))
    rest
text_is adds (Shown (event.Add by r)) rest formed = added_text by r.kind r.first r.n rest formed.1
text_is adds (Shown (event.Send id cost)) rest formed =
    begins (codes "send") (codes "dq") (event_fields (event.Send id cost)) rest
text_is adds (Shown (event.Done k id ok)) rest formed =
    begins (codes "done") (100 ∷ 110 ∷ numeral k) (event_fields (event.Done k id ok)) rest
text_is adds (Shown (event.Evict by serial page)) rest formed =
    begins (codes "evict") (99 ∷ numeral by.0) (event_fields (event.Evict by serial page)) rest
text_is adds (Shown (event.Tick d)) rest formed = begins (codes "tick") (codes "tk") (event_fields (event.Tick d)) rest
text_is adds (OddMap slot serial page n block new size) rest formed =
    begins (codes "map") (codes "wb") (last_words (OddMap slot serial page n block new size)) rest

-- the bytes begin with the word
unfoldable pub starts : List ℕ → List ℕ → Bool
starts [] bs = true
starts (a ∷ more) [] = false
starts (a ∷ more) (b ∷ bs) = (a == b) && starts more bs

-- the first of these rows as which the text begins, or else that of a page's read
row_among : List Row → List ℕ → Row
row_among [] text = Reads
row_among (row ∷ rows) text = if starts (head row) text then row else row_among rows text

rows : List Row
rows =
    Client client.Enter ∷
    Client client.Admit ∷
    Client client.Make ∷
    Client client.Put ∷
    Client client.Get ∷
    Client client.Drop ∷
    Client client.Flushed ∷
    Client client.Evict ∷
    Thread thread.Serve ∷
    Thread thread.Map ∷
    Thread thread.Skip ∷
    Thread thread.Seal ∷
    Thread thread.Send ∷
    Thread thread.Tick ∷
    Asks request.Pages ∷
    Asks request.Log ∷
    Asks request.Commit ∷
    Asks request.Home ∷
    Asks request.Clear ∷
    Returns ∷
    Completes ∷
    []

-- the row as which the text begins
pub row_at : List ℕ → Row
row_at text = row_among rows text

is_read : Row → Bool
is_read Reads = true
is_read _ = false

row_back : (row : Row) (rest : List ℕ) → is_read row ≡ false → row_at (head row ++ rest) ≡ row
unfolding is_read row_at row_among rows starts
row_back (Client client.Enter) rest other = refl
row_back (Client client.Admit) rest other = refl
row_back (Client client.Make) rest other = refl
row_back (Client client.Put) rest other = refl
row_back (Client client.Get) rest other = refl
row_back (Client client.Drop) rest other = refl
row_back (Client client.Flushed) rest other = refl
row_back (Client client.Evict) rest other = refl
row_back (Thread thread.Serve) rest other = refl
row_back (Thread thread.Map) rest other = refl
row_back (Thread thread.Skip) rest other = refl
row_back (Thread thread.Seal) rest other = refl
row_back (Thread thread.Send) rest other = refl
row_back (Thread thread.Tick) rest other = refl
row_back (Asks request.Pages) rest other = refl
row_back (Asks request.Log) rest other = refl
row_back (Asks request.Commit) rest other = refl
row_back (Asks request.Home) rest other = refl
row_back (Asks request.Clear) rest other = refl
row_back Returns rest other = refl
row_back Completes rest other = refl
row_back Reads rest other = absurd (cc)

-- bytes that don't go on as a word
not_starts : (word more : List ℕ) → ((rest : List ℕ) → more ≢ word ++ rest) → starts word more ≡ false
unfolding starts
not_starts [] more none = absurd (none more refl)
not_starts (a ∷ word) [] none = refl
not_starts (a ∷ word) (b ∷ more) none = not_at (a == b) refl (not_starts word more) where
  not_at : (same : Bool) → (a == b) ≡ same → (((rest : List ℕ) → more ≢ word ++ rest) → starts word more ≡ false)
      → ((a == b) && starts word more) ≡ false
  not_at true is others =
      rw is (others (λ rest e. none rest (ap (λ l. b ∷ l) e ∙ ap (λ k. k ∷ word ++ rest) (sym (eqb-true a b is)))))
  not_at false is others = rw is refl

-- behind `add c` stands no request of the journal
pub record IsNoRequest (more : List ℕ) : Type 0 where
  pub log : (rest : List ℕ) → more ≢ codes "m log" ++ rest
  pub commit : (rest : List ℕ) → more ≢ codes "m commit" ++ rest
  pub home : (rest : List ℕ) → more ≢ codes "m home" ++ rest
  pub clear : (rest : List ℕ) → more ≢ codes "m clear" ++ rest

read_back : (more : List ℕ) → IsNoRequest more → row_at (codes "add c" ++ more) ≡ Reads
unfolding row_at row_among rows starts
read_back more none =
    let log = not_starts (codes "m log") more none.log in
    let commit = not_starts (codes "m commit") more none.commit in
    let home = not_starts (codes "m home") more none.home in
    let clear = not_starts (codes "m clear") more none.clear in
    rw (log, commit, home, clear) refl

-- a client's number begins with no letter
no_letter : (p : ℕ) (x y : List ℕ) → numeral p ++ x ≢ 109 ∷ y
no_letter p x y e =
    let f = front p in
    let first : f.first ≡ 109 = let g = sym (ap (λ l. l ++ x) f.word_is) ∙ e in cc in
    false≢true (sym (ap is_ascii_digit first) ∙ f.digit)

read_apart : (p : ℕ) (x : List ℕ) → IsNoRequest (numeral p ++ x)
read_apart p x = record {
  log = λ rest e. no_letter p x _ e;
  commit = λ rest e. no_letter p x _ e;
  home = λ rest e. no_letter p x _ e;
  clear = λ rest e. no_letter p x _ e;
}

added_back : (by : Actor) (k : ReqKind) (n : ℕ) (more : List ℕ) → IsAskedBy by k n
    → row_at (head (added_row k) ++ (actor_number by ++ more)) ≡ added_row k
unfolding is_read
added_back by (kind.Read p serial page) n more is = rw is.0 (read_back (numeral p.0 ++ more) (read_apart p.0 more))
added_back by (kind.Pages serial page) n more is = row_back (Asks request.Pages) _ refl
added_back by (kind.Log t) n more is = row_back (Asks request.Log) _ refl
added_back by (kind.Commit t) n more is = row_back (Asks request.Commit) _ refl
added_back by (kind.Home t) n more is = row_back (Asks request.Home) _ refl
added_back by (kind.Clear t) n more is = row_back (Asks request.Clear) _ refl

-- a line begins as its row alone
pub line_back : (adds : ℕ) (l : EventLine) (rest : List ℕ) → IsFormed adds l
    → row_at (head (row_of l) ++ tail l rest) ≡ row_of l
unfolding is_read
line_back adds (Shown (event.Enter by k)) rest formed = row_back (Client client.Enter) _ refl
line_back adds (Shown (event.Admit by)) rest formed = row_back (Client client.Admit) _ refl
line_back adds (Shown (event.Make by slot serial)) rest formed = row_back (Client client.Make) _ refl
line_back adds (Shown (event.Put by serial page start end fill)) rest formed = row_back (Client client.Put) _ refl
line_back adds (Shown (event.Get by serial page start end sum)) rest formed = row_back (Client client.Get) _ refl
line_back adds (Shown (event.Drop by slot serial)) rest formed = row_back (Client client.Drop) _ refl
line_back adds (Shown (event.Flushed by)) rest formed = row_back (Client client.Flushed) _ refl
line_back adds (Shown (event.Ret by reply)) rest formed = row_back Returns _ refl
line_back adds (Shown (event.Serve serial page n)) rest formed = row_back (Thread thread.Serve) _ refl
line_back adds (Shown (event.Map slot serial page n block new size)) rest formed = row_back (Thread thread.Map) _ refl
line_back adds (Shown event.Skip) rest formed = row_back (Thread thread.Skip) _ refl
line_back adds (Shown (event.Seal t k)) rest formed = row_back (Thread thread.Seal) _ refl
line_back adds (Shown (event.Add by r)) rest formed = added_back by r.kind r.n
    (behind (added_words r.kind r.first r.n) (10 ∷ rest)) formed.1
line_back adds (Shown (event.Send id cost)) rest formed = row_back (Thread thread.Send) _ refl
line_back adds (Shown (event.Done k id ok)) rest formed = row_back Completes _ refl
line_back adds (Shown (event.Evict by serial page)) rest formed = row_back (Client client.Evict) _ refl
line_back adds (Shown (event.Tick d)) rest formed = row_back (Thread thread.Tick) _ refl
line_back adds (OddMap slot serial page n block new size) rest formed = row_back (Thread thread.Map) _ refl

-- what was read behind what a line begins with is what was read of the line
at_this : (most adds : ℕ) (row : Row) (text more : List ℕ) (r : Option (Option Event × Bor (List ℕ)))
    → text ≡ head row ++ more → row_at text ≡ row → ReadsTail most adds row more r → ReadsLine most adds text r
at_this most adds row text more (Some r) is alone p = (
  p.0,
  p.1,
  is ∙ ap (λ l. head row ++ l) p.3 ∙ ap (λ k. head k ++ tail p.0 r.1.now) (sym p.2)
      ∙ sym (text_is adds p.0 r.1.now p.1),
  p.4,
)
at_this most adds row text more None is alone p = λ l rest formed e.
    let whole = e ∙ text_is adds l rest formed in
    let at = sym (line_back adds l rest formed) ∙ sym (ap row_at whole) ∙ alone in
    p l rest formed at (cancel (head row) (sym is ∙ whole ∙ ap (λ k. head k ++ tail l rest) at))

pub at_client : (most adds : ℕ) (row : ClientRow) (text more : List ℕ) (r : Option (Option Event × Bor (List ℕ)))
    → text ≡ client_head row ++ more → ReadsTail most adds (Client row) more r → ReadsLine most adds text r
unfolding is_read
at_client most adds row text more r is p = at_this most adds (Client row) text more r is (ap row_at is
    ∙ row_back (Client row) more refl) p

pub at_thread : (most adds : ℕ) (row : ThreadRow) (text more : List ℕ) (r : Option (Option Event × Bor (List ℕ)))
    → text ≡ thread_head row ++ more → ReadsTail most adds (Thread row) more r → ReadsLine most adds text r
unfolding is_read
at_thread most adds row text more r is p = at_this most adds (Thread row) text more r is (ap row_at is
    ∙ row_back (Thread row) more refl) p

pub at_request : (most adds : ℕ) (row : RequestRow) (text more : List ℕ) (r : Option (Option Event × Bor (List ℕ)))
    → text ≡ request_head row ++ more → ReadsTail most adds (Asks row) more r → ReadsLine most adds text r
unfolding is_read
at_request most adds row text more r is p = at_this most adds (Asks row) text more r is (ap row_at is
    ∙ row_back (Asks row) more refl) p

pub at_return : (most adds : ℕ) (text more : List ℕ) (r : Option (Option Event × Bor (List ℕ)))
    → text ≡ codes "ret c" ++ more → ReadsTail most adds Returns more r → ReadsLine most adds text r
unfolding is_read
at_return most adds text more r is p = at_this most adds Returns text more r is (ap row_at is
    ∙ row_back Returns more refl) p

pub at_completion : (most adds : ℕ) (text more : List ℕ) (r : Option (Option Event × Bor (List ℕ)))
    → text ≡ codes "done dn" ++ more → ReadsTail most adds Completes more r → ReadsLine most adds text r
unfolding is_read
at_completion most adds text more r is p = at_this most adds Completes text more r is (ap row_at is
    ∙ row_back Completes more refl) p

-- a page's read, where no thread's request is there
pub at_read : (most adds : ℕ) (text more : List ℕ) (r : Option (Option Event × Bor (List ℕ)))
    → ((row : RequestRow) (rest : List ℕ) → text ≢ request_head row ++ rest)
    → text ≡ codes "add c" ++ more → ReadsTail most adds Reads more r → ReadsLine most adds text r
at_read most adds text more r none is p =
    at_this most adds Reads text more r is (ap row_at is ∙ read_back more (record {
      log = λ rest e. none request.Log rest (is ∙ ap (λ l. codes "add c" ++ l) e);
      commit = λ rest e. none request.Commit rest (is ∙ ap (λ l. codes "add c" ++ l) e);
      home = λ rest e. none request.Home rest (is ∙ ap (λ l. codes "add c" ++ l) e);
      clear = λ rest e. none request.Clear rest (is ∙ ap (λ l. codes "add c" ++ l) e);
    })) p

-- no request's row
pub no_request : {text : List ℕ} → ((rest : List ℕ) → text ≢ codes "add wb pages" ++ rest)
    → ((rest : List ℕ) → text ≢ codes "add cm log" ++ rest) → ((rest : List ℕ) → text ≢ codes "add cm home" ++ rest)
    → ((rest : List ℕ) → text ≢ codes "add cm commit" ++ rest) → ((rest : List ℕ) → text ≢ codes "add cm clear" ++ rest)
    → (row : RequestRow) (rest : List ℕ) → text ≢ request_head row ++ rest
no_request a b c d e request.Pages = a
no_request a b c d e request.Log = b
no_request a b c d e request.Home = c
no_request a b c d e request.Commit = d
no_request a b c d e request.Clear = e

no_head : {text : List ℕ} → ((row : ClientRow) (rest : List ℕ) → text ≢ client_head row ++ rest)
    → ((row : ThreadRow) (rest : List ℕ) → text ≢ thread_head row ++ rest)
    → ((row : RequestRow) (rest : List ℕ) → text ≢ request_head row ++ rest)
    → ((rest : List ℕ) → text ≢ codes "ret c" ++ rest) → ((rest : List ℕ) → text ≢ codes "done dn" ++ rest)
    → ((rest : List ℕ) → text ≢ codes "add c" ++ rest) → (row : Row) (rest : List ℕ) → text ≢ head row ++ rest
no_head a b c d e f (Client row) = a row
no_head a b c d e f (Thread row) = b row
no_head a b c d e f (Asks row) = c row
no_head a b c d e f Returns = d
no_head a b c d e f Completes = e
no_head a b c d e f Reads = f

-- a text that begins as no row does has no line
pub no_row : {text : List ℕ} → ((row : ClientRow) (rest : List ℕ) → text ≢ client_head row ++ rest)
    → ((row : ThreadRow) (rest : List ℕ) → text ≢ thread_head row ++ rest)
    → ((row : RequestRow) (rest : List ℕ) → text ≢ request_head row ++ rest)
    → ((rest : List ℕ) → text ≢ codes "ret c" ++ rest) → ((rest : List ℕ) → text ≢ codes "done dn" ++ rest)
    → ((rest : List ℕ) → text ≢ codes "add c" ++ rest) → (most adds : ℕ) → ReadsLine most adds text None
no_row a b c d e f most adds l rest formed is = no_head a b c d e f (row_of l) (tail l rest) (is
    ∙ text_is adds l rest formed)
