-- The line of an event: what it is, its actor, and its numbers.
use Rattle.std.specs.Prelude.{ℕ, List, [], ◌∷◌, map, codes, Bool, if◌then◌else◌}
use Rattle.split_types.specs.declared.call.Reply.{Reply}
use Rattle.split_types.specs.declared.call.Reply.TheVariants as reply
use Rattle.split_types.specs.declared.request.ReqKind.{ReqKind}
use Rattle.split_types.specs.declared.request.ReqKind.TheVariants as kind
use Rattle.split_types.specs.declared.request.Request.{Request}
use Rattle.split_types.specs.declared.event.Event.{Event}
use Rattle.split_types.specs.declared.event.Event.TheVariants as event
use Rattle.split_types.specs.Lines.{numeral, actor_word}
use Rattle.split_types.specs.Hooks.{maker}

-- the words of numbers
abbrev pub numerals : List ℕ → List (List ℕ)
numerals numbers = map numeral numbers

-- 1 for yes, 0 for no
abbrev pub flag : Bool → ℕ
flag b = if b then 1 else 0

abbrev pub reply_words : Reply → List (List ℕ)
reply_words reply.Done = codes "done" ∷ []
reply_words (reply.Count n sum) = codes "count" ∷ numerals (n ∷ sum ∷ [])
reply_words reply.NoFile = codes "nofile" ∷ []
reply_words reply.Exists = codes "exists" ∷ []
reply_words reply.NoSlot = codes "noslot" ∷ []
reply_words reply.TooBig = codes "toobig" ∷ []
reply_words (reply.NoSpace n) = codes "nospace" ∷ numerals (n ∷ [])
reply_words reply.Stopped = codes "stopped" ∷ []
reply_words reply.ReadFault = codes "readfault" ∷ []

abbrev pub kind_word : ReqKind → List ℕ
kind_word (kind.Read p s g) = codes "read"
kind_word (kind.Pages s g) = codes "pages"
kind_word (kind.Log t) = codes "log"
kind_word (kind.Commit t) = codes "commit"
kind_word (kind.Home t) = codes "home"
kind_word (kind.Clear t) = codes "clear"

-- the numbers that say what a request is for: a page, or a transaction
abbrev pub subject : ReqKind → List ℕ
subject (kind.Read p s g) = s.0 ∷ g ∷ []
subject (kind.Pages s g) = s.0 ∷ g ∷ []
subject (kind.Log t) = t.0 ∷ []
subject (kind.Commit t) = t.0 ∷ []
subject (kind.Home t) = t.0 ∷ []
subject (kind.Clear t) = t.0 ∷ []

abbrev pub request_words : Request → List (List ℕ)
request_words r = kind_word r.kind ∷ numerals (r.first ∷ r.n ∷ subject r.kind)

-- the first word of an event's line
abbrev pub event_word : Event → List ℕ
event_word (event.Enter by k) = codes "enter"
event_word (event.Admit by) = codes "admit"
event_word (event.Make by slot serial) = codes "make"
event_word (event.Put by serial page from to fill) = codes "put"
event_word (event.Get by serial page from to sum) = codes "get"
event_word (event.Drop by slot serial) = codes "drop"
event_word (event.Flushed by) = codes "flushed"
event_word (event.Ret by reply) = codes "ret"
event_word (event.Serve serial page n) = codes "serve"
event_word (event.Map slot serial page n block new size) = codes "map"
event_word event.Skip = codes "skip"
event_word (event.Seal t k) = codes "seal"
event_word (event.Add by r) = codes "add"
event_word (event.Send id cost) = codes "send"
event_word (event.Done k id ok) = codes "done"
event_word (event.Evict by serial page) = codes "evict"
event_word (event.Tick d) = codes "tick"

-- the words that follow its actor
abbrev pub event_fields : Event → List (List ℕ)
event_fields (event.Enter by k) = numerals (k ∷ [])
event_fields (event.Admit by) = []
event_fields (event.Make by slot serial) = numerals (slot.0 ∷ serial.0 ∷ [])
event_fields (event.Put by serial page from to fill) = numerals (serial.0 ∷ page ∷ from ∷ to ∷ fill ∷ [])
event_fields (event.Get by serial page from to sum) = numerals (serial.0 ∷ page ∷ from ∷ to ∷ sum ∷ [])
event_fields (event.Drop by slot serial) = numerals (slot.0 ∷ serial.0 ∷ [])
event_fields (event.Flushed by) = []
event_fields (event.Ret by reply) = reply_words reply
event_fields (event.Serve serial page n) = numerals (serial.0 ∷ page ∷ n ∷ [])
event_fields (event.Map slot serial page n block new size) =
    numerals (slot.0 ∷ serial.0 ∷ page ∷ n ∷ block ∷ flag new ∷ size ∷ [])
event_fields event.Skip = []
event_fields (event.Seal t k) = numerals (t.0 ∷ k ∷ [])
event_fields (event.Add by r) = request_words r
event_fields (event.Send id cost) = numerals (id.0 ∷ cost ∷ [])
event_fields (event.Done k id ok) = numeral id.0 ∷ (if ok then codes "ok" else codes "bad") ∷ []
event_fields (event.Evict by serial page) = numerals (serial.0 ∷ page ∷ [])
event_fields (event.Tick d) = numerals (d ∷ [])

-- the words of an event
abbrev pub event_words : Event → List (List ℕ)
event_words e = event_word e ∷ actor_word (maker e) ∷ event_fields e
