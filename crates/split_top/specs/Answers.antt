-- What is answered to an input, and what of it is written.
use Rattle.std.specs.Prelude.{◌≡◌, ◌≢◌, ℕ, ◌⊎◌, ⊤, List, length, Option, Result, Err, OnOk, IfOk}
use Rattle.std.specs.Io.KnownBytes.{Consumes, Appends, IsAtEnd}
use Rattle.outside.specs.Faults.{Rose}
use Rattle.outside.specs.Whole.{AppendsFront}
use Rattle.sink_printer.specs.Due.{Told}
use Rattle.split_types.specs.declared.workload.Workload.{Workload}
use Rattle.split_types.specs.declared.event.Event.{Event}
use Rattle.workload_reader.specs.declared.fault.LineFault.{LineFault}
use Rattle.workload_reader.specs.Refusal.{Refuses}
use Rattle.split_top.specs.declared.call.Status.{Status}
use Rattle.split_top.specs.declared.call.Status.TheVariants as status
use Rattle.split_top.specs.declared.answer.Stop.{Stop}
use Rattle.split_top.specs.declared.answer.Stop.TheVariants as stop
use Rattle.split_top.specs.Refusals.{refusal_text}
use Rattle.split_top.specs.Replay.{IsReplay}

-- the answer to an input: the text of the run that it asks for, or the line that says which of its lines is refused
-- first, and why
abbrev pub AnswersTo : List ℕ → List ℕ → Status → Type 0
AnswersTo input text status.Ok = (w : Workload) × (h : List Event) × IsReplay input w h text
AnswersTo input text status.Refused = (f : LineFault) × Refuses input f × (text ≡ refusal_text f)
AnswersTo input text _ = ⊥

-- the answer to what was read of a source: all that it had left, or one byte more than a text may have
pub record Answers (left left_now : Option (List ℕ)) (text : List ℕ) (s : Status) : Type 0 where
  pub input : List ℕ
  pub read : Consumes left left_now input
  pub enough : IsAtEnd left_now ⊎ (length input ≡ 16777217)
  pub answer : AnswersTo input text s

-- what came of writing a text
pub record Writes {K : Type 0} (told : Told K) (before now : K) (text : List ℕ) (result : Result ⊤ Stop) : Type 0 where
  -- it was written as a whole
  pub whole : OnOk result (Appends (told.held before) (told.held now) text)
  -- the sink failed, and took a front of it
  pub front : result ≡ Err stop.Write → AppendsFront (told.held before) (told.held now) text
  pub rose : result ≡ Err stop.Write → Rose (told.faults before) (told.faults now)
  -- there was no memory, and nothing was written
  pub none : result ≡ Err stop.Memory → now ≡ before
  pub no_read : result ≢ Err stop.Read
  pub same_room : told.room now ≡ told.room before

-- what came of answering an input
pub record WritesAnswer {K : Type 0} (told : Told K) (before now : K) (input : List ℕ) (result : Result Status Stop) :
    Type 0 where
  pub whole : IfOk result (λ s. (text : List ℕ) × AnswersTo input text s
      × Appends (told.held before) (told.held now) text)
  pub front : result ≡ Err stop.Write → (text : List ℕ) × (s : Status) × AnswersTo input text s
      × AppendsFront (told.held before) (told.held now) text
  pub rose : result ≡ Err stop.Write → Rose (told.faults before) (told.faults now)
  pub none : result ≡ Err stop.Memory → now ≡ before
  pub no_read : result ≢ Err stop.Read
  pub same_room : told.room now ≡ told.room before

-- an answer was written as a whole, with this status
pub record Wrote (left left_now held held_now : Option (List ℕ)) (s : Status) : Type 0 where
  pub text : List ℕ
  pub answer : Answers left left_now text s
  pub written : Appends held held_now text

-- a front of an answer was written
pub record WroteFront (left left_now held held_now : Option (List ℕ)) : Type 0 where
  pub text : List ℕ
  pub s : Status
  pub answer : Answers left left_now text s
  pub written : AppendsFront held held_now text

-- what came of answering what was left of a source
pub record Replies {K : Type 0} (told : Told K) (left left_now : Option (List ℕ)) (before now : K)
    (result : Result Status Stop) : Type 0 where
  pub whole : IfOk result (λ s. Wrote left left_now (told.held before) (told.held now) s)
  pub front : result ≡ Err stop.Write → WroteFront left left_now (told.held before) (told.held now)
  pub rose : result ≡ Err stop.Write → Rose (told.faults before) (told.faults now)
  pub none : result ≡ Err stop.Memory → now ≡ before
  pub unread : result ≡ Err stop.Read → now ≡ before
  pub same_room : told.room now ≡ told.room before
