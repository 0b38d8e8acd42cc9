-- The run of a workload, and its text.
use Rattle.std.specs.Prelude.{◌≡◌, ℕ, List, [], ◌++◌}
use Rattle.split_types.specs.declared.workload.Workload.{Workload}
use Rattle.split_types.specs.declared.event.Event.{Event}
use Rattle.split_types.specs.WorkloadText.{Spells}
use Rattle.split_types.specs.Legal.{drain, play, go_actors}
use Rattle.split_types.specs.LegalHistories.{Conserves}
use Rattle.split_types.specs.JournalPromises.{CommitsWait}
use Rattle.split_types.specs.Draining.{IsWhole}
use Rattle.split_types.specs.FactsOf.{facts_of}
use Rattle.split_types.specs.TraceText.{trace_text}
use Rattle.split_types.specs.ReportText.{report_text}

-- the trace of a history, and the report behind it
unfoldable pub text_of : Workload → List Event → List ℕ
text_of w h = trace_text w h ++ report_text (facts_of w h) w.sched

-- the run of a workload: from no event on the actors of its `go` lines take turns, and then it is drained
abbrev pub run_of : Workload → List Event
run_of w = drain w (play w [] (go_actors w))

-- the text shows the history h, which is the run of the workload w that the input spells
pub record IsReplay (input : List ℕ) (w : Workload) (h : List Event) (text : List ℕ) : Type 0 where
  pub spells : Spells input w
  pub run : h ≡ run_of w
  -- each event is the next one of its actor, all calls returned, all that was dirtied is written out
  pub whole : IsWhole w h
  -- each request has processes that pay for it and is done at most once, what they bear adds up to its cost, and all
  -- bills to the clock
  pub conserves : Conserves w h
  -- no commit record is sent before all data writes that were added before its seal are done
  pub ordered : CommitsWait h
  pub text_is : text ≡ text_of w h
