-- What came of writing an answer.
use Rattle.std.proofs.Common.{◌≡◌, [], List, ℕ, refl, subst, sym}
use Rattle.std.specs.Prelude.{⊤, Option, Result, Ok, Err}
use Rattle.outside.specs.declared.source.Failed.{Failed}
use Rattle.sink_printer.specs.Due.{Told, Sent}
use Rattle.split_top.specs.declared.answer.Stop.{Stop}
use Rattle.split_top.specs.declared.answer.Stop.TheVariants as stop
use Rattle.split_types.specs.declared.workload.Workload.{Workload}
use Rattle.split_types.specs.WorkloadText.{Spells}
use Rattle.split_types.specs.Legal.{IsLegal, go_actors, play}
use Rattle.split_types.specs.Draining.{IsWhole}
use Rattle.split_types.proofs.Shared.{play_legal, drains_whole, bills_conserve, commits_in_order}
use Rattle.split_top.specs.declared.call.Status.{Status}
use Rattle.split_top.specs.declared.call.Status.TheVariants as status
use Rattle.split_top.specs.Replay.{text_of, run_of}
use Rattle.split_top.specs.Answers.{AnswersTo, Answers, Writes, WritesAnswer, Replies}

pub fails : {K : Type 0} {told : Told K} {before now : K} {text : List ℕ} {sent : Result ⊤ Failed} {failed : Failed}
    {result : Result ⊤ Stop}
    → Sent told before now text sent → sent ≡ Err failed → result ≡ Err stop.Write → Writes told before now text result
fails {told = told} {before = before} {now = now} {text = text} {failed = failed} s is wrote =
    let front : Sent told before now text (Err failed) = subst (λ r. Sent told before now text r) is s in
    subst (λ r. Writes told before now text r) (sym wrote) (record {
      whole = tt;
      front = λ _. front.front;
      rose = λ _. front.rose;
      none = λ e. absurd (cc e);
      no_read = λ e. absurd (cc e);
      same_room = front.same_room;
    })

-- an answer that was written as a whole
pub answers : {K : Type 0} {told : Told K} {before now : K} (input text : List ℕ) (s : Status) {sent : Result ⊤ Stop}
    {u : ⊤}
    → AnswersTo input text s → Writes told before now text sent → sent ≡ Ok u
    → WritesAnswer told before now input (Ok s)
answers {told = told} {before = before} {now = now} input text s {u = u} answer w is =
    let whole : Writes told before now text (Ok u) = subst (λ r. Writes told before now text r) is w in
    record {
      whole = (text, answer, whole.whole);
      front = λ e. absurd (cc e);
      rose = λ e. absurd (cc e);
      none = λ e. absurd (cc e);
      no_read = λ e. absurd (cc e);
      same_room = w.same_room;
    }

-- an answer that wasn't
pub stops : {K : Type 0} {told : Told K} {before now : K} (input text : List ℕ) (s : Status) {sent : Result ⊤ Stop}
    {e : Stop} {result : Result Status Stop}
    → AnswersTo input text s → Writes told before now text sent → sent ≡ Err e → result ≡ Err e
    → WritesAnswer told before now input result
stops {told = told} {before = before} {now = now} input text s {e = stop.Write} answer w is same =
    subst (λ r. WritesAnswer told before now input r) (sym same) (record {
      whole = tt;
      front = λ _. (text, s, answer, w.front is);
      rose = λ _. w.rose is;
      none = λ f. absurd (cc f);
      no_read = λ f. absurd (cc f);
      same_room = w.same_room;
    })
stops {told = told} {before = before} {now = now} input text s {e = stop.Memory} answer w is same =
    subst (λ r. WritesAnswer told before now input r) (sym same) (record {
      whole = tt;
      front = λ f. absurd (cc f);
      rose = λ f. absurd (cc f);
      none = λ _. w.none is;
      no_read = λ f. absurd (cc f);
      same_room = w.same_room;
    })
stops input text s {e = stop.Read} answer w is same = absurd (w.no_read is)

-- the run of a workload answers the input that spells it
pub is_run : (input : List ℕ) (w : Workload) → Spells input w → AnswersTo input (text_of w (run_of w)) status.Ok
is_run input w spells =
    let played : IsLegal w (play w [] (go_actors w)) = play_legal w [] (go_actors w) tt in
    let whole : IsWhole w (run_of w) = drains_whole w (play w [] (go_actors w)) spells.accepted played in (
      w,
      run_of w,
      record {
        spells = spells;
        run = refl;
        whole = whole;
        conserves = bills_conserve w (run_of w) spells.accepted whole.legal;
        ordered = commits_in_order w (run_of w) spells.accepted whole.legal;
        text_is = refl;
      },
    )

-- the same of an answer to what was left of a source
pub replies_stop : {K : Type 0} {told : Told K} {before now : K} (left left_now : Option (List ℕ)) (text : List ℕ)
    (s : Status) {sent : Result ⊤ Stop} {e : Stop} {result : Result Status Stop}
    → Answers left left_now text s → Writes told before now text sent → sent ≡ Err e → result ≡ Err e
    → Replies told left left_now before now result
replies_stop {told = told} {before = before} {now = now} left left_now text s {e = stop.Write} answer w is same =
    subst (λ r. Replies told left left_now before now r) (sym same) (record {
      whole = tt;
      front = λ _. record { text = text; s = s; answer = answer; written = w.front is };
      rose = λ _. w.rose is;
      none = λ f. absurd (cc f);
      unread = λ f. absurd (cc f);
      same_room = w.same_room;
    })
replies_stop {told = told} {before = before} {now = now} left left_now text s {e = stop.Memory} answer w is same =
    subst (λ r. Replies told left left_now before now r) (sym same) (record {
      whole = tt;
      front = λ f. absurd (cc f);
      rose = λ f. absurd (cc f);
      none = λ _. w.none is;
      unread = λ f. absurd (cc f);
      same_room = w.same_room;
    })
replies_stop left left_now text s {e = stop.Read} answer w is same = absurd (w.no_read is)
