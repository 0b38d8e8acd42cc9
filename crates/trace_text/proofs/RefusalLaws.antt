-- A text begins with one trace, or has one refusal.
use Rattle.std.proofs.Common.{◌≡◌, ℕ, ◌+◌, ◌≤◌, ◌==◌, ◌∙◌, Bool, true, false, List, ◌++◌, length, if◌then◌else◌, ap, refl, sym, subst, arith}
use Rattle.std.proofs.lemmas.List.{append-nil}
use Rattle.split_types.specs.declared.event.Event.{Event}
use Rattle.split_types.specs.declared.workload.Workload.{Workload}
use Rattle.split_types.specs.Accepted.{IsAccepted}
use Rattle.split_types.specs.IsWorkload.{most_processes}
use Rattle.split_types.specs.Lines.{lines_of}
use Rattle.split_types.specs.EventText.{event_words}
use Rattle.split_types.specs.WorkloadText.{workload_text, Spells}
use Rattle.split_types.specs.TraceText.{trace_version}
use Rattle.workload_reader.specs.declared.cause.Cause.{Cause}
use Rattle.workload_reader.specs.Fields.{IsWithin}
use Rattle.workload_reader.specs.Line.{lines_text}
use Rattle.workload_reader.specs.Refusal.{ReadsFront, RefusesFront}
use Rattle.workload_reader.proofs.Complete.{spelled_front}
use Rattle.workload_reader.proofs.RefusalLaws.{front_never_refused, one_stop}
use Rattle.trace_text.specs.TraceLines.{count_text, IsMispaired, CountLine, StopsCount}
use Rattle.trace_text.specs.Events.{EventsAt, EventRefused}
use Rattle.trace_text.specs.ReadsTrace.{TraceAt, FrontAt, BodyAt, LineRefused, first_refused, version_refused, workload_refused, count_refused, event_refused}
use Rattle.trace_text.proofs.FirstLaws.{one_version}
use Rattle.trace_text.proofs.TraceLaws.{begins_more, workload_begins, trace_parts}
use Rattle.trace_text.proofs.EventsAlike.{events_alike, events_never_refused, one_event}
use Rattle.trace_text.proofs.PartsAlike.{one_first, first_never_refused, paired_never_refused, heads_alike, trace_fronts_alike, counts_alike, one_count, count_never_refused}

-- the parts of a trace at the front of a text
pub record PartsAt (text : List ℕ) (w : Workload) (events : List Event) (rest : List ℕ) : Type 0 where
  pub lines : ℕ
  pub last : List ℕ
  pub front : FrontAt text w lines last
  pub body : BodyAt last (most_processes w) events rest

two_versions : (version : ℕ) → IsWithin 1 2 (trace_version version)
two_versions version = either (version == 3) where
  either : (b : Bool) → IsWithin 1 2 (if b then 2 else 1)
  either true = (omega arith, omega arith)
  either false = (omega arith, omega arith)

-- the workload that follows is of the trace's version
pairs : (w : Workload) (last : List ℕ) → w.version ≤ 3 → IsMispaired (trace_version w.version) (workload_text w ++ last)
    → ⊥
pairs w last most m =
    let b = begins_more last (workload_begins w) in
    let formed = m.formed in
    let one = one_version m.other w.version m.rest b.more (omega (arith, formed.1)) (omega (arith, most)) m.text_is
    b.text_is in
    m.unlike (ap trace_version one)

-- the lines of an accepted workload, and what follows them
workload_front : (w : Workload) (last : List ℕ) → IsAccepted w → length (workload_text w) ≤ 16777216
    → (lines : ℕ) × ReadsFront (workload_text w ++ last) w lines last
workload_front w last accepted short =
    let spells : Spells (workload_text w) w = record { accepted = accepted; text_is = refl; short = short } in
    let found = spelled_front spells in
    let front = found.1 in (
      found.0,
      record {
        before = front.before;
        right = front.right;
        ended = front.ended;
        said_is = front.said_is;
        number = front.number;
        text_is = ap (λ t. t ++ last) (front.text_is ∙ append-nil (lines_text front.before));
      },
    )

pub parts_of : {text rest : List ℕ} {w : Workload} {events : List Event} → TraceAt text w events rest
    → length (workload_text w) ≤ 16777216 → PartsAt text w events rest
parts_of {text} {rest} {w} {events} t short =
    let after = lines_of event_words events ++ rest in
    let last = count_text (length events) ++ after in
    let front = workload_front w last t.accepted short in
    record {
      lines = front.0;
      last = last;
      front = record {
        body = workload_text w ++ last;
        head = record {
          version = trace_version w.version;
          first = record { version_is = two_versions w.version; text_is = t.text_is ∙ trace_parts w events rest };
          paired = pairs w last t.accepted.workload.machine.version_most;
        };
        front = front.1;
      };
      body = record {
        count = length events;
        after = after;
        counted = record { few = t.few; text_is = refl };
        read = record { lines = t.lines; number = refl; text_is = refl };
      };
    }

-- traces at the front of one text are one
pub record TracesAlike (v w : Workload) (es fs : List Event) (x y : List ℕ) : Type 0 where
  pub workload : v ≡ w
  pub events : es ≡ fs
  pub rest : x ≡ y

pub parts_alike : {text x y : List ℕ} {v w : Workload} {es fs : List Event} → PartsAt text v es x → PartsAt text w fs y
    → TracesAlike v w es fs x y
parts_alike {text} {x} {y} {v} {w} {es} {fs} p q =
    let front = trace_fronts_alike p.front q.front in
    let count = counts_alike (subst (λ b. CountLine b p.body.count p.body.after) front.rest p.body.counted)
    q.body.counted in
    let read = subst (λ u. EventsAt p.body.after (most_processes u) p.body.count es x) front.workload p.body.read in
    let events = events_alike (subst (λ a. EventsAt a (most_processes w) p.body.count es x) count.1 read) q.body.read
    count.0 in
    record { workload = front.workload; events = events.0; rest = events.1 }

-- behind one front stand the same lines
events_turned : {a b : List ℕ} {v w : Workload} {m n before : ℕ} {c : Cause} → v ≡ w → m ≡ n → a ≡ b
    → EventRefused a (most_processes v) m before c → EventRefused b (most_processes w) n before c
events_turned {a} {b} {v} {w} {m} {n} {before} {c} workload number text r =
    subst (λ u. EventRefused b (most_processes u) n before c) workload
    (subst (λ k. EventRefused b (most_processes v) k before c) number
    (subst (λ t. EventRefused t (most_processes v) m before c) text r))

-- a trace has no line that is refused
pub parts_never_refused : {text rest : List ℕ} {w : Workload} {events : List Event} (line : ℕ) (c : Cause)
    → PartsAt text w events rest → LineRefused text line c → ⊥
parts_never_refused {text} {rest} {w} {events} line c p (first_refused at stops) =
    first_never_refused c p.front.head.first stops
parts_never_refused {text} {rest} {w} {events} line c p (version_refused version b at is first mispaired) =
    paired_never_refused p.front.head first mispaired
parts_never_refused {text} {rest} {w} {events} line c p (workload_refused b lines at head refused) =
    front_never_refused p.front.front (subst (λ t. RefusesFront t lines c) (heads_alike head p.front.head) refused)
parts_never_refused {text} {rest} {w} {events} line c p (count_refused v lines last at front stops) =
    let same = trace_fronts_alike p.front front in
    count_never_refused c (subst (λ l. CountLine l p.body.count p.body.after) same.rest p.body.counted) stops
parts_never_refused {text} {rest} {w} {events} line c p (event_refused v lines count before last es at front counted
    refused) =
    let same = trace_fronts_alike front p.front in
    let number = counts_alike (subst (λ l. CountLine l count es) same.rest counted) p.body.counted in
    events_never_refused p.body.read (events_turned same.workload number.0 number.1 refused)

-- one line is refused first, for one cause
pub one_line : {text : List ℕ} {m n : ℕ} {c d : Cause} → LineRefused text m c → LineRefused text n d
    → (m ≡ n) × (c ≡ d)
one_line {text} {m} {n} {c} {d} (first_refused at stops) (first_refused to halts) =
    (at ∙ sym to, one_first text c d stops halts)
one_line {text} {m} {n} {c} {d} (first_refused at stops) (version_refused v b to is first mispaired) =
    absurd (first_never_refused c first stops)
one_line {text} {m} {n} {c} {d} (first_refused at stops) (workload_refused b lines to head refused) =
    absurd (first_never_refused c head.first stops)
one_line {text} {m} {n} {c} {d} (first_refused at stops) (count_refused w lines rest to front halts) =
    absurd (first_never_refused c front.head.first stops)
one_line {text} {m} {n} {c} {d} (first_refused at stops) (event_refused w lines k i rest es to front counted refused) =
    absurd (first_never_refused c front.head.first stops)
one_line {text} {m} {n} {c} {d} (version_refused v b at is first mispaired) (first_refused to halts) =
    absurd (first_never_refused d first halts)
one_line {text} {m} {n} {c} {d} (workload_refused b lines at head refused) (first_refused to halts) =
    absurd (first_never_refused d head.first halts)
one_line {text} {m} {n} {c} {d} (count_refused w lines rest at front stops) (first_refused to halts) =
    absurd (first_never_refused d front.head.first halts)
one_line {text} {m} {n} {c} {d} (event_refused w lines k i rest es at front counted refused) (first_refused to halts) =
    absurd (first_never_refused d front.head.first halts)
one_line {text} {m} {n} {c} {d} (version_refused v b at is first mispaired)
    (version_refused u a to other second unlike) = (at ∙ sym to, is ∙ sym other)
one_line {text} {m} {n} {c} {d} (version_refused v b at is first mispaired) (workload_refused a lines to head refused) =
    absurd (paired_never_refused head first mispaired)
one_line {text} {m} {n} {c} {d} (version_refused v b at is first mispaired) (count_refused w lines rest to front halts)
    =
    absurd (paired_never_refused front.head first mispaired)
one_line {text} {m} {n} {c} {d} (version_refused v b at is first mispaired)
    (event_refused w lines k i rest es to front counted refused) =
    absurd (paired_never_refused front.head first mispaired)
one_line {text} {m} {n} {c} {d} (workload_refused a lines at head refused) (version_refused v b to is first mispaired) =
    absurd (paired_never_refused head first mispaired)
one_line {text} {m} {n} {c} {d} (count_refused w lines rest at front stops) (version_refused v b to is first mispaired)
    =
    absurd (paired_never_refused front.head first mispaired)
one_line {text} {m} {n} {c} {d} (event_refused w lines k i rest es at front counted refused)
    (version_refused v b to is first mispaired) = absurd (paired_never_refused front.head first mispaired)
one_line {text} {m} {n} {c} {d} (workload_refused a lines at head refused) (workload_refused b others to next halted) =
    let same = one_stop (subst (λ t. RefusesFront t lines c) (heads_alike head next) refused) halted in
    (at ∙ ap (λ k. 2 + k) same.0 ∙ sym to, same.1)
one_line {text} {m} {n} {c} {d} (workload_refused a lines at head refused) (count_refused w others rest to front halts)
    =
    absurd (front_never_refused front.front
    (subst (λ t. RefusesFront t lines c) (heads_alike head front.head) refused))
one_line {text} {m} {n} {c} {d} (workload_refused a lines at head refused)
    (event_refused w others k i rest es to front counted halted) =
    absurd (front_never_refused front.front
    (subst (λ t. RefusesFront t lines c) (heads_alike head front.head) refused))
one_line {text} {m} {n} {c} {d} (count_refused w others rest at front stops) (workload_refused a lines to head refused)
    =
    absurd (front_never_refused front.front
    (subst (λ t. RefusesFront t lines d) (heads_alike head front.head) refused))
one_line {text} {m} {n} {c} {d} (event_refused w others k i rest es at front counted halted)
    (workload_refused a lines to head refused) =
    absurd (front_never_refused front.front
    (subst (λ t. RefusesFront t lines d) (heads_alike head front.head) refused))
one_line {text} {m} {n} {c} {d} (count_refused v lines x at front stops) (count_refused w others y to second halts) =
    let same = trace_fronts_alike front second in
    (at ∙ ap (λ k. 2 + k) same.lines ∙ sym to, one_count y c d (subst (λ t. StopsCount t c) same.rest stops) halts)
one_line {text} {m} {n} {c} {d} (count_refused v lines x at front stops)
    (event_refused w others k i y es to second counted halted) =
    let same = trace_fronts_alike front second in
    absurd (count_never_refused c counted (subst (λ t. StopsCount t c) same.rest stops))
one_line {text} {m} {n} {c} {d} (event_refused w others k i y es at second counted halted)
    (count_refused v lines x to front stops) =
    let same = trace_fronts_alike front second in
    absurd (count_never_refused d counted (subst (λ t. StopsCount t d) same.rest stops))
one_line {text} {m} {n} {c} {d} (event_refused v lines k i x es at front counted refused)
    (event_refused w others l j y fs to second numbered halted) =
    let same = trace_fronts_alike front second in
    let number = counts_alike (subst (λ t. CountLine t k es) same.rest counted) numbered in
    let one = one_event (events_turned same.workload number.0 number.1 refused) halted in
    (at ∙ ap (λ s. 3 + s + i) same.lines ∙ ap (λ s. 3 + others + s) one.0 ∙ sym to, one.1)
