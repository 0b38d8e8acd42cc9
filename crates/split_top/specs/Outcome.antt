-- What a call of the program does, whatever its streams are.
use Rattle.std.specs.Prelude.{◌≡◌, ◌≢◌, ◌⊎◌, ◌↔◌, ℕ, List, Option}
use Rattle.std.specs.Io.KnownBytes.{Appends, IsAtEnd}
use Rattle.outside.specs.Faults.{Rose}
use Rattle.outside.specs.Whole.{AppendsFront}
use Rattle.split_types.specs.WorkloadText.{workload_text}
use Rattle.workload_reader.specs.Generated.{generated}
use Rattle.split_top.specs.declared.call.Status.{Status}
use Rattle.split_top.specs.declared.call.Status.TheVariants as status
use Rattle.split_top.specs.declared.command.Command.{Command}
use Rattle.split_top.specs.declared.command.Command.TheVariants.{Replay, Gen}
use Rattle.split_top.specs.Command.{Asks, AskNothing}
use Rattle.split_top.specs.Answers.{Wrote, WroteFront}

-- what a source of type S and a sink of type K tell of themselves: the bytes left, the bytes held, the counts of
-- faults, and how many bytes the sink can hold
pub record Told (S K : Type 0) : Type 0 where
  pub left : S → Option (List ℕ)
  pub read_faults : S → ℕ
  pub held : K → Option (List ℕ)
  pub write_faults : K → ℕ
  pub room : K → Option ℕ

-- what the word `replay` made of its source and its sink, by the status
pub record Replayed {S K : Type 0} (told : Told S K) (source_old source : S) (sink_old sink : K) (s : Status)
    : Type 0 where
  -- the whole input was read, and its answer was written as a whole
  pub ok : s ≡ status.Ok
      → Wrote (told.left source_old) (told.left source) (told.held sink_old) (told.held sink) status.Ok
  pub all_read : s ≡ status.Ok → IsAtEnd (told.left source)
  -- what was read is the text of no accepted workload, and one line was written
  pub refused : s ≡ status.Refused
      → Wrote (told.left source_old) (told.left source) (told.held sink_old) (told.held sink) status.Refused
  -- a front of the answer was written
  pub front : s ≡ status.WriteFault
      → WroteFront (told.left source_old) (told.left source) (told.held sink_old) (told.held sink)

-- what the words `gen` and n made of them
pub record Made {S K : Type 0} (told : Told S K) (n : ℕ) (source_old source : S) (sink_old sink : K) (s : Status)
    : Type 0 where
  -- the text of the workload that is made from n was written as a whole
  pub ok : s ≡ status.Ok → Appends (told.held sink_old) (told.held sink) (workload_text (generated n))
  -- nothing was read, so nothing is refused, and the source didn't fail
  pub none_read : source ≡ source_old
  pub none_refused : s ≢ status.Refused
  pub no_read_fault : s ≢ status.ReadFault
  -- a front of the text was written
  pub front : s ≡ status.WriteFault → AppendsFront (told.held sink_old) (told.held sink) (workload_text (generated n))

-- what a command made of them
abbrev pub Obeys : {S K : Type 0} → Told S K → Command → S → S → K → K → Status → Type 0
Obeys told Replay source_old source sink_old sink s = Replayed told source_old source sink_old sink s
Obeys told (Gen n) source_old source sink_old sink s = Made told n source_old source sink_old sink s

-- what a call with these words did to its source and its sink, by its status
pub record Outcome {S K : Type 0} (told : Told S K) (words : List (List ℕ)) (source_old source : S) (sink_old sink : K)
    (s : Status) : Type 0 where
  -- what the words ask for was done
  pub obeyed : (command : Command) → Asks words command → Obeys told command source_old source sink_old sink s
  -- exactly where the words ask for nothing; and then source and sink are as before
  pub bad_words : (s ≡ status.BadWords) ↔ AskNothing words
  pub untouched : s ≡ status.BadWords → (source ≡ source_old) × (sink ≡ sink_old)
  -- only where the source failed, and the sink is as before
  pub read_fault : s ≡ status.ReadFault
      → Rose (told.read_faults source_old) (told.read_faults source) × (sink ≡ sink_old)
  -- only where the sink failed
  pub write_fault : s ≡ status.WriteFault → Rose (told.write_faults sink_old) (told.write_faults sink)
  -- want of memory may come at any time before something was written; the sink is as before
  pub out_of_memory : s ≡ status.OutOfMemory → sink ≡ sink_old
  -- no words ask for a look at a trace
  pub audit_no : s ≢ status.AuditNo
  -- where the words ask for something and nothing fails, there is an answer or no memory for it
  pub complete : (command : Command) → Asks words command
      → (Rose (told.read_faults source_old) (told.read_faults source) → ⊥)
      → (Rose (told.write_faults sink_old) (told.write_faults sink) → ⊥)
      → (s ≡ status.Ok) ⊎ (s ≡ status.Refused) ⊎ (s ≡ status.OutOfMemory)
  pub same_room : told.room sink ≡ told.room sink_old
