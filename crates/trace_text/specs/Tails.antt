-- A line at the front of a text: what it begins with, and what is left of it.
use Rattle.std.specs.Prelude.{◌≡◌, ◌≢◌, ℕ, List, [], ◌∷◌, ◌++◌, codes, Bool, if◌then◌else◌, Option, Some, None}
use Rattle.std.specs.Borrow.{Bor}
use Rattle.split_types.specs.declared.actor.Actor.{Actor}
use Rattle.split_types.specs.declared.actor.Actor.TheVariants as actor
use Rattle.split_types.specs.declared.request.ReqKind.{ReqKind}
use Rattle.split_types.specs.declared.request.ReqKind.TheVariants as kind
use Rattle.split_types.specs.declared.event.Event.{Event}
use Rattle.split_types.specs.declared.event.Event.TheVariants as event
use Rattle.split_types.specs.Hooks.{maker}
use Rattle.split_types.specs.Lines.{numeral}
use Rattle.split_types.specs.EventText.{numerals, subject, event_fields}
use Rattle.workload_reader.specs.Fields.{behind}
use Rattle.trace_text.specs.declared.row.ClientRow.TheVariants as client
use Rattle.trace_text.specs.declared.row.ThreadRow.TheVariants as thread
use Rattle.trace_text.specs.declared.row.RequestRow.TheVariants as request
use Rattle.trace_text.specs.EventLines.{EventLine, Shown, OddMap, text_line, IsFormed, IsInRange}
use Rattle.trace_text.specs.Rows.{Row, Client, Thread, Asks, Returns, Reads, Completes}

abbrev pub added_row : ReqKind → Row
added_row (kind.Read p serial page) = Reads
added_row (kind.Pages serial page) = Asks request.Pages
added_row (kind.Log t) = Asks request.Log
added_row (kind.Commit t) = Asks request.Commit
added_row (kind.Home t) = Asks request.Home
added_row (kind.Clear t) = Asks request.Clear

-- what the line begins with
abbrev pub row_of : EventLine → Row
row_of (Shown (event.Enter by k)) = Client client.Enter
row_of (Shown (event.Admit by)) = Client client.Admit
row_of (Shown (event.Make by slot serial)) = Client client.Make
row_of (Shown (event.Put by serial page from to fill)) = Client client.Put
row_of (Shown (event.Get by serial page from to sum)) = Client client.Get
row_of (Shown (event.Drop by slot serial)) = Client client.Drop
row_of (Shown (event.Flushed by)) = Client client.Flushed
row_of (Shown (event.Ret by reply)) = Returns
row_of (Shown (event.Serve serial page n)) = Thread thread.Serve
row_of (Shown (event.Map slot serial page n block new size)) = Thread thread.Map
row_of (Shown event.Skip) = Thread thread.Skip
row_of (Shown (event.Seal t k)) = Thread thread.Seal
row_of (Shown (event.Add by r)) = added_row r.kind
row_of (Shown (event.Send id cost)) = Thread thread.Send
row_of (Shown (event.Done k id ok)) = Completes
row_of (Shown (event.Evict by serial page)) = Client client.Evict
row_of (Shown (event.Tick d)) = Thread thread.Tick
row_of (OddMap slot serial page n block new size) = Thread thread.Map

-- the number that is a part of the actor's word
abbrev pub actor_number : Actor → List ℕ
actor_number (actor.Client p) = numeral p.0
actor_number (actor.Dn k) = numeral k
actor_number _ = []

abbrev pub number_of : EventLine → List ℕ
number_of (Shown e) = actor_number (maker e)
number_of (OddMap slot serial page n block new size) = []

-- the words of a request behind what its line begins with
abbrev pub added_words : ReqKind → ℕ → ℕ → List (List ℕ)
added_words (kind.Read p serial page) first n = codes "read" ∷ numerals (first ∷ n ∷ serial.0 ∷ page ∷ [])
added_words k first n = numerals (first ∷ n ∷ subject k)

-- the words that follow what the line begins with, and that number
abbrev pub last_words : EventLine → List (List ℕ)
last_words (Shown (event.Add by r)) = added_words r.kind r.first r.n
last_words (Shown e) = event_fields e
last_words (OddMap slot serial page n block new size) = numerals (slot ∷ serial ∷ page ∷ n ∷ block ∷ new ∷ size ∷ [])

-- the word that says whether a request was done well
abbrev pub outcome_words : Bool → List (List ℕ)
outcome_words ok = (if ok then codes "ok" else codes "bad") ∷ []

-- what follows what the line begins with, and then the rest
abbrev pub tail : EventLine → List ℕ → List ℕ
tail l rest = number_of l ++ behind (last_words l) (10 ∷ rest)

-- what was found of a line: its event where its numbers are in their ranges, else none
abbrev pub Says : ℕ → EventLine → Option Event → Type 0
Says most l None = IsInRange most l → ⊥
Says most l (Some e) = (l ≡ Shown e) × IsInRange most l

-- what was read of a line behind what it begins with, and what follows it; or no such line stands there
abbrev pub ReadsTail : ℕ → ℕ → Row → List ℕ → Option (Option Event × Bor (List ℕ)) → Type 0
ReadsTail most adds row text None = (l : EventLine) (rest : List ℕ) → IsFormed adds l → row_of l ≡ row
    → text ≢ tail l rest
ReadsTail most adds row text (Some r) = (l : EventLine) × IsFormed adds l × (row_of l ≡ row) × (text ≡ tail l r.1.now)
    × Says most l r.0

-- the same of a whole line
abbrev pub ReadsLine : ℕ → ℕ → List ℕ → Option (Option Event × Bor (List ℕ)) → Type 0
ReadsLine most adds text None = (l : EventLine) (rest : List ℕ) → IsFormed adds l → text ≢ text_line l ++ rest
ReadsLine most adds text (Some r) = (l : EventLine) × IsFormed adds l × (text ≡ text_line l ++ r.1.now)
    × Says most l r.0
