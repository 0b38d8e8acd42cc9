-- The text of a report.
use Rattle.std.specs.Prelude.{ℕ, List, [], ◌∷◌, ◌++◌, length, map, take, drop, codes}
use Rattle.std.specs.List.{enumerate_from}
use Rattle.split_types.specs.declared.ids.Pid.{Pid}
use Rattle.split_types.specs.declared.facts.ReqState.{ReqState}
use Rattle.split_types.specs.declared.facts.ReqState.TheVariants as state
use Rattle.split_types.specs.declared.facts.ReqFact.{ReqFact}
use Rattle.split_types.specs.declared.facts.AccountFact.{AccountFact}
use Rattle.split_types.specs.declared.facts.Facts.{Facts}
use Rattle.split_types.specs.declared.workload.Sched.{Sched}
use Rattle.split_types.specs.declared.workload.Sched.TheVariants.{Token}
use Rattle.split_types.specs.Lines.{numeral, signed_numeral, line, lines_of}
use Rattle.split_types.specs.EventText.{kind_word}

abbrev pub state_word : ReqState → List ℕ
state_word state.Queued = codes "queued"
state_word state.Done = codes "done"
state_word state.Bad = codes "bad"

-- a process and its share
abbrev pub share_word : Pid × ℕ → List ℕ
share_word s = numeral s.0.0 ++ 58 ∷ numeral s.1

abbrev pub request_words : ReqFact → List (List ℕ)
request_words f =
    codes "req" ∷ numeral f.req.id.0 ∷ kind_word f.req.kind ∷ numeral f.req.first ∷ numeral f.req.n ∷ state_word f.state
    ∷ numeral f.cost
    ∷ map share_word f.shares

-- a process, counted from 1, and what is billed to it
abbrev pub billed_words : ℕ × ℕ → List (List ℕ)
billed_words b = codes "proc" ∷ numeral b.0 ∷ codes "billed" ∷ numeral b.1 ∷ []

abbrev pub account_words : ℕ × AccountFact → List (List ℕ)
account_words a =
    codes "account" ∷ numeral a.0 ∷ codes "granted" ∷ signed_numeral a.1.granted ∷ codes "billed" ∷ signed_numeral
    a.1.billed
    ∷ codes "pending" ∷ signed_numeral a.1.pending ∷ codes "balance" ∷ signed_numeral a.1.balance ∷ []

-- accounts are shown under the scheduler `token` alone
abbrev pub account_lines : Sched → List AccountFact → List ℕ
account_lines Token accounts = lines_of account_words (enumerate_from 1 accounts)
account_lines _ accounts = []

-- how many events a client made
abbrev pub made_words : ℕ × ℕ → List (List ℕ)
made_words m = codes "made" ∷ (99 ∷ numeral m.0) ∷ numeral m.1 ∷ []

-- how many events one of the stack's own actors made
abbrev pub made_by : List ℕ → ℕ → List (List ℕ)
made_by actor n = codes "made" ∷ actor ∷ numeral n ∷ []

-- the five numbers that follow those of the clients
abbrev pub made_lines : List ℕ → List ℕ
made_lines (wb ∷ cm ∷ dq ∷ dn ∷ tk ∷ []) =
    line (made_by (codes "wb") wb) ++ line (made_by (codes "cm") cm) ++ line (made_by (codes "dq") dq)
    ++ line (made_by (codes "dn") dn) ++ line (made_by (codes "tk") tk)
made_lines _ = []

abbrev pub report_text : Facts → Sched → List ℕ
report_text f sched =
    line (codes "report" ∷ numeral 1 ∷ [])
    ++ line (codes "requests" ∷ numeral (length f.reqs) ∷ [])
    ++ lines_of request_words f.reqs
    ++ lines_of billed_words (enumerate_from 1 f.billed)
    ++ account_lines sched f.accounts
    ++ lines_of made_words (enumerate_from 1 (take (length f.billed) f.made))
    ++ made_lines (drop (length f.billed) f.made)
    ++ line (codes "clock" ∷ numeral f.clock ∷ [])
    ++ line (codes "end" ∷ [])
