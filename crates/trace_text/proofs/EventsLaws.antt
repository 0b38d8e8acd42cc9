-- The events of a trace, read one by one.
use Rattle.std.proofs.Common.{◌≡◌, ℕ, ◌+◌, ◌<◌, ◌≤◌, ◌∙◌, List, [], ◌∷◌, ◌++◌, length, reverse, ap, sym, subst, arith, length-append, append_assoc}
use Rattle.std.proofs.lemmas.List.{length_push, append-nil, reverse-append}
use Rattle.split_types.specs.declared.event.Event.{Event}
use Rattle.split_types.specs.History.{adds}
use Rattle.split_types.specs.Lines.{lines_of}
use Rattle.split_types.specs.EventText.{event_words}
use Rattle.split_types.proofs.Shared.{lines_of_append}
use Rattle.workload_reader.specs.declared.cause.Cause.{Cause}
use Rattle.workload_reader.proofs.FrontLaws.{line-some}
use Rattle.trace_text.specs.EventLines.{Shown, text_line}
use Rattle.trace_text.specs.ReadsEvent.{HasLine, StopsEvent}
use Rattle.trace_text.specs.Events.{HaveLines, EventsAt, EventRefused}

pub events_begin : (text : List ℕ) (most : ℕ) (events : List Event) → events ≡ [] → EventsAt text most 0 events text
events_begin text most events none = record {
  lines = subst (λ es. HaveLines most (reverse es)) (sym none) tt;
  number = ap length none;
  text_is = ap (λ es. lines_of event_words es ++ text) (sym none);
}

-- the newest stands first
pub reverse_push : (events : List Event) (e : Event) → reverse (events ++ e ∷ []) ≡ e ∷ reverse events
reverse_push events e = reverse-append events (e ∷ [])

-- one event more
pub events_more : {text rest : List ℕ} {most i n : ℕ} {events : List Event} (later : List Event) (e : Event)
    (more : List ℕ) → EventsAt text most i events rest → later ≡ events ++ e ∷ []
    → n ≡ adds (reverse events) → HasLine most n e × (rest ≡ text_line (Shown e) ++ more)
    → EventsAt text most (i + 1) later more
events_more {text} {rest} {most} {i} {n} {events} later e more read is are found = record {
  lines = subst (HaveLines most) (sym (ap reverse is ∙ reverse_push events e)) (
    read.lines,
    subst (λ k. HasLine most k e) are found.0,
  );
  number = ap length is ∙ length_push events e ∙ ap (λ n. n + 1) read.number;
  text_is = read.text_is
      ∙ ap (λ r. lines_of event_words events ++ r) found.1
      ∙ sym (append_assoc (lines_of event_words events) (text_line (Shown e)) more)
      ∙ ap (λ l. (lines_of event_words events ++ l) ++ more) (sym (append-nil (text_line (Shown e))))
      ∙ ap (λ l. l ++ more) (sym (lines_of_append event_words events (e ∷ [])))
      ∙ ap (λ es. lines_of event_words es ++ more) (sym is);
}

-- the requests that were added
pub adds_more : {n : ℕ} (events : List Event) (k : ℕ) (later : List Event) (e : Event) → n ≡ adds (reverse events)
    → later ≡ events ++ e ∷ []
    → ((h : List Event) → adds (e ∷ h) ≡ adds h + k) → n + k ≡ adds (reverse later)
adds_more {n} events k later e are is one = ap (λ m. m + k) are ∙ sym (one (reverse events))
    ∙ ap adds (sym (ap reverse is ∙ reverse_push events e))

-- a line has a byte at least
pub event_some : (rest : List ℕ) (e : Event) (more : List ℕ) → rest ≡ text_line (Shown e) ++ more
    → length more + 1 ≤ length rest
event_some rest e more is = omega (
  arith,
  ap length is,
  length-append (text_line (Shown e)) more,
  line-some (event_words e),
)

pub event_stops : {text rest : List ℕ} {most i count n : ℕ} {events : List Event} (c : Cause)
    → EventsAt text most i events rest → i < count → n ≡ adds (reverse events)
    → StopsEvent most n rest c → EventRefused text most count i c
event_stops {text} {rest} {most} {i} {count} {n} {events} c read more are stops =
    record {
      events = events;
      rest = rest;
      read = read;
      more = more;
      stops =
          subst (λ k. StopsEvent most k rest c) are stops;
    }
