-- Transactions: where each was sealed, which of them are of one round, and which slot each takes.
use Rattle.std.specs.Prelude.{ℕ, ◌+◌, ◌==◌, List, [], ◌∷◌, length, Bool, true, false, if◌then◌else◌}
use Rattle.std.specs.List.{list_any}
use Rattle.split_types.specs.declared.ids.Txn.{Txn}
use Rattle.split_types.specs.declared.request.ReqKind.{ReqKind}
use Rattle.split_types.specs.declared.request.ReqKind.TheVariants.{Clear}
use Rattle.split_types.specs.declared.request.Request.{Request}
use Rattle.split_types.specs.declared.event.Event.{Event}
use Rattle.split_types.specs.declared.event.Event.TheVariants.{Seal, Add}
use Rattle.split_types.specs.History.{◌▹◌}

-- the place of the seal of a transaction
abbrev pub seal_place : List Event → Txn → List ℕ
seal_place [] t = []
seal_place (h ▹ Seal u k) t = if u.0 == t.0 then length h ∷ [] else seal_place h t
seal_place (h ▹ e) t = seal_place h t

-- the history before the seal of a transaction
abbrev pub before_seal : List Event → Txn → List Event
before_seal [] t = []
before_seal (h ▹ Seal u k) t = if u.0 == t.0 then h else before_seal h t
before_seal (h ▹ e) t = before_seal h t

-- the seal of a transaction, with the history before it
pub record Sealing : Type 0 where
  pub txn : Txn
  pub before : List Event

-- the request clears a transaction from the journal
abbrev pub is_clear : Request → Bool
is_clear r = by_kind r.kind where
  by_kind : ReqKind → Bool
  by_kind (Clear t) = true
  by_kind _ = false

-- the seals since a clear request was last added, the newest first
abbrev pub open_round : List Event → List Sealing
open_round [] = []
open_round (h ▹ Seal t k) = record { txn = t; before = h } ∷ open_round h
open_round (h ▹ Add by r) = if is_clear r then [] else open_round h
open_round (h ▹ e) = open_round h

-- the seals of a transaction's round: two are of one round where no clear request is added between them
abbrev pub round_of : List Event → Txn → List Sealing
round_of [] t = []
round_of (h ▹ e) t = if list_any (λ s. s.txn.0 == t.0) (open_round (h ▹ e)) then open_round (h ▹ e) else round_of h t

-- ---- numbers

-- the number of seals
abbrev pub seals : List Event → ℕ
seals [] = 0
seals (h ▹ Seal t k) = seals h + 1
seals (h ▹ e) = seals h

-- transactions are numbered by their seals, from 1: the one that was sealed last, and the one that is sealed next
abbrev pub last_txn : List Event → Txn
last_txn h = record { 0 = seals h }

abbrev pub next_txn : List Event → Txn
next_txn h = record { 0 = seals h + 1 }

-- the slot of a transaction: the number of seals of its round before its own
abbrev pub slot_of_txn : List Event → Txn → ℕ
slot_of_txn [] t = 0
slot_of_txn (h ▹ Seal u k) t = elim (u.0 == t.0) [ true ↦ length (open_round h) | false ↦ slot_of_txn h t ]
slot_of_txn (h ▹ e) t = slot_of_txn h t
