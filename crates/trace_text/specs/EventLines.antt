-- The lines of events in a trace, and what is asked of them.
use Rattle.std.specs.Prelude.{◌≡◌, ℕ, ◌^◌, ◌≤◌, List, [], ◌∷◌, codes, nat_lt, Bool, true}
use Rattle.std.specs.List.{list_all}
use Rattle.split_types.specs.declared.actor.Actor.{Actor}
use Rattle.split_types.specs.declared.actor.Actor.TheVariants as actor
use Rattle.split_types.specs.declared.call.Reply.{Reply}
use Rattle.split_types.specs.declared.call.Reply.TheVariants as reply
use Rattle.split_types.specs.declared.request.ReqKind.{ReqKind}
use Rattle.split_types.specs.declared.request.ReqKind.TheVariants as kind
use Rattle.split_types.specs.declared.event.Event.{Event}
use Rattle.split_types.specs.declared.event.Event.TheVariants as event
use Rattle.split_types.specs.Hooks.{maker}
use Rattle.split_types.specs.Lines.{line}
use Rattle.split_types.specs.EventText.{numerals, flag, subject, event_words}
use Rattle.workload_reader.specs.Table.{IsActorOf}

-- the line of an event, or that of a map which says neither that its blocks are new nor that they aren't, but another
-- number
pub data EventLine : Type 0 where
  Shown : Event → EventLine
  OddMap : ℕ → ℕ → ℕ → ℕ → ℕ → ℕ → ℕ → EventLine

abbrev pub words : EventLine → List (List ℕ)
words (Shown e) = event_words e
words (OddMap slot serial page n block new size) = codes "map" ∷ codes "wb" ∷ numerals
    (slot ∷ serial ∷ page ∷ n ∷ block ∷ new ∷ size ∷ [])

abbrev pub text_line : EventLine → List ℕ
text_line l = line (words l)

-- a request of this kind is added by this actor, and is for so many blocks
abbrev pub IsAskedBy : Actor → ReqKind → ℕ → Type 0
IsAskedBy by (kind.Read p serial page) n = (by ≡ actor.Client p) × (n ≡ 1)
IsAskedBy by (kind.Pages serial page) n = by ≡ actor.Wb
IsAskedBy by (kind.Log t) n = by ≡ actor.Cm
IsAskedBy by (kind.Commit t) n = (by ≡ actor.Cm) × (n ≡ 1)
IsAskedBy by (kind.Home t) n = (by ≡ actor.Cm) × (n ≡ 1)
IsAskedBy by (kind.Clear t) n = (by ≡ actor.Cm) × (n ≡ 1)

-- a line that may stand behind so many added requests, whatever its numbers
abbrev pub IsFormed : ℕ → EventLine → Type 0
IsFormed adds (Shown (event.Add by r)) = (r.id.0 ≡ adds) × IsAskedBy by r.kind r.n
IsFormed adds (Shown e) = Unit {0}
IsFormed adds (OddMap slot serial page n block new size) = 2 ≤ new

-- the numbers of an answer below 2 ^ 32, and those below 2 ^ 64
abbrev pub reply_smalls : Reply → List ℕ
reply_smalls (reply.Count n sum) = n ∷ []
reply_smalls (reply.NoSpace n) = n ∷ []
reply_smalls _ = []

abbrev pub reply_wides : Reply → List ℕ
reply_wides (reply.Count n sum) = sum ∷ []
reply_wides _ = []

-- the numbers of a line, its process apart, that are to be below 2 ^ 32, in their order
abbrev pub smalls : EventLine → List ℕ
smalls (Shown (event.Enter by k)) = k ∷ []
smalls (Shown (event.Admit by)) = []
smalls (Shown (event.Make by slot serial)) = slot.0 ∷ serial.0 ∷ []
smalls (Shown (event.Put by serial page from to fill)) = serial.0 ∷ page ∷ from ∷ to ∷ fill ∷ []
smalls (Shown (event.Get by serial page from to sum)) = serial.0 ∷ page ∷ from ∷ to ∷ []
smalls (Shown (event.Drop by slot serial)) = slot.0 ∷ serial.0 ∷ []
smalls (Shown (event.Flushed by)) = []
smalls (Shown (event.Ret by answer)) = reply_smalls answer
smalls (Shown (event.Serve serial page n)) = serial.0 ∷ page ∷ n ∷ []
smalls (Shown (event.Map slot serial page n block new size)) =
    slot.0 ∷ serial.0 ∷ page ∷ n ∷ block ∷ flag new ∷ size ∷ []
smalls (Shown event.Skip) = []
smalls (Shown (event.Seal t k)) = t.0 ∷ k ∷ []
smalls (Shown (event.Add by r)) = r.first ∷ r.n ∷ subject r.kind
smalls (Shown (event.Send id cost)) = id.0 ∷ []
smalls (Shown (event.Done k id ok)) = k ∷ id.0 ∷ []
smalls (Shown (event.Evict by serial page)) = serial.0 ∷ page ∷ []
smalls (Shown (event.Tick d)) = []
smalls (OddMap slot serial page n block new size) = slot ∷ serial ∷ page ∷ n ∷ block ∷ new ∷ size ∷ []

-- its number that is to be below 2 ^ 64: a sum, a cost or a time
abbrev pub wides : EventLine → List ℕ
wides (Shown (event.Get by serial page from to sum)) = sum ∷ []
wides (Shown (event.Ret by answer)) = reply_wides answer
wides (Shown (event.Send id cost)) = cost ∷ []
wides (Shown (event.Tick d)) = d ∷ []
wides _ = []

abbrev pub is_small : ℕ → Bool
is_small n = nat_lt n (2 ^ 32)

abbrev pub is_wide : ℕ → Bool
is_wide n = nat_lt n (2 ^ 64)

pub record AreInRange (ns ws : List ℕ) : Type 0 where
  pub small : list_all is_small ns ≡ true
  pub wide : list_all is_wide ws ≡ true

abbrev pub IsReplyInRange : Reply → Type 0
IsReplyInRange answer = AreInRange (reply_smalls answer) (reply_wides answer)

-- the numbers of the line are in their ranges, where there are so many processes at most
abbrev pub IsInRange : ℕ → EventLine → Type 0
IsInRange most (Shown e) = IsActorOf most (maker e) × AreInRange (smalls (Shown e)) (wides (Shown e))
IsInRange most (OddMap slot serial page n block new size) = ⊥
