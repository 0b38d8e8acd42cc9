-- The lines of returns and completions, behind what they begin with.
use Rattle.std.proofs.Common.{◌≡◌, ◌≢◌, ℕ, ◌∙◌, Bool, List, [], ◌∷◌, ◌++◌, if◌then◌else◌, Option, ap, refl, sym, subst}
use Rattle.split_types.specs.declared.ids.Pid.{Pid}
use Rattle.split_types.specs.declared.ids.ReqId.{ReqId}
use Rattle.split_types.specs.declared.call.Reply.{Reply}
use Rattle.split_types.specs.declared.call.Reply.TheVariants as reply
use Rattle.split_types.specs.declared.request.ReqKind.{ReqKind}
use Rattle.split_types.specs.declared.request.ReqKind.TheVariants as kind
use Rattle.split_types.specs.declared.event.Event.{Event}
use Rattle.split_types.specs.declared.event.Event.TheVariants as event
use Rattle.split_types.specs.Lines.{numeral}
use Rattle.split_types.specs.EventText.{numerals, reply_words}
use Rattle.workload_reader.specs.Fields.{NumberAt, FieldAt, behind}
use Rattle.workload_reader.proofs.Alike.{cancel, after_field}
use Rattle.trace_text.specs.declared.row.ReplyRow.{ReplyRow}
use Rattle.trace_text.specs.declared.row.ReplyRow.TheVariants as answer
use Rattle.trace_text.specs.EventLines.{EventLine, Shown, reply_smalls, reply_wides, IsFormed}
use Rattle.trace_text.specs.Numbers.{LineNumbers, HasCounts, number_words}
use Rattle.trace_text.specs.Rows.{Returns, Completes, reply_head, reply_count, reply_is_wide, reply_of}
use Rattle.trace_text.specs.Tails.{added_row, row_of, last_words, outcome_words, tail, Says}
use Rattle.trace_text.proofs.ThreadEvents.{reply_smalls_are, reply_wides_are}
use Rattle.trace_text.proofs.LineHeads.{starts}
use Rattle.trace_text.proofs.TailLaws.{number_here, after_number}

-- what an answer begins with
unfoldable pub answer_row : Reply → ReplyRow
answer_row reply.Done = answer.Done
answer_row (reply.Count n sum) = answer.Count
answer_row reply.NoFile = answer.NoFile
answer_row reply.Exists = answer.Exists
answer_row reply.NoSlot = answer.NoSlot
answer_row reply.TooBig = answer.TooBig
answer_row (reply.NoSpace n) = answer.NoSpace
answer_row reply.Stopped = answer.Stopped
answer_row reply.ReadFault = answer.ReadFault

pub answer_text : (r : Reply) (rest : List ℕ) → behind (reply_words r) rest ≡ reply_head (answer_row r)
    ++ behind (number_words (reply_smalls r, reply_wides r)) rest
unfolding answer_row
answer_text reply.Done rest = refl
answer_text (reply.Count n sum) rest = refl
answer_text reply.NoFile rest = refl
answer_text reply.Exists rest = refl
answer_text reply.NoSlot rest = refl
answer_text reply.TooBig rest = refl
answer_text (reply.NoSpace n) rest = refl
answer_text reply.Stopped rest = refl
answer_text reply.ReadFault rest = refl

pub answer_counts : (r : Reply) → HasCounts (reply_count (answer_row r)) (reply_is_wide (answer_row r)) (
  reply_smalls r,
  reply_wides r,
)
unfolding answer_row
answer_counts reply.Done = (refl, refl)
answer_counts (reply.Count n sum) = (refl, refl)
answer_counts reply.NoFile = (refl, refl)
answer_counts reply.Exists = (refl, refl)
answer_counts reply.NoSlot = (refl, refl)
answer_counts reply.TooBig = (refl, refl)
answer_counts (reply.NoSpace n) = (refl, refl)
answer_counts reply.Stopped = (refl, refl)
answer_counts reply.ReadFault = (refl, refl)

row_of_reply : (row : ReplyRow) (ns ws : List ℕ) → answer_row (reply_of row ns ws) ≡ row
unfolding answer_row
row_of_reply answer.Done ns ws = refl
row_of_reply answer.Count ns ws = refl
row_of_reply answer.NoFile ns ws = refl
row_of_reply answer.Exists ns ws = refl
row_of_reply answer.NoSlot ns ws = refl
row_of_reply answer.TooBig ns ws = refl
row_of_reply answer.NoSpace ns ws = refl
row_of_reply answer.Stopped ns ws = refl
row_of_reply answer.ReadFault ns ws = refl

-- the first of these rows as which the text begins
answer_among : List ReplyRow → List ℕ → ReplyRow
answer_among [] text = answer.Done
answer_among (row ∷ rows) text = if starts (reply_head row) text then row else answer_among rows text

answers : List ReplyRow
answers =
    answer.Done ∷
    answer.Count ∷
    answer.NoFile ∷
    answer.Exists ∷
    answer.NoSlot ∷
    answer.TooBig ∷
    answer.NoSpace ∷
    answer.Stopped ∷
    answer.ReadFault ∷
    []

answer_at : List ℕ → ReplyRow
answer_at text = answer_among answers text

answer_back : (row : ReplyRow) (rest : List ℕ) → answer_at (reply_head row ++ rest) ≡ row
unfolding answer_at answer_among answers starts
answer_back answer.Done rest = refl
answer_back answer.Count rest = refl
answer_back answer.NoFile rest = refl
answer_back answer.Exists rest = refl
answer_back answer.NoSlot rest = refl
answer_back answer.TooBig rest = refl
answer_back answer.NoSpace rest = refl
answer_back answer.Stopped rest = refl
answer_back answer.ReadFault rest = refl

-- no two answers begin alike
pub answers_alike : (a b : ReplyRow) (x y : List ℕ) → reply_head a ++ x ≡ reply_head b ++ y → a ≡ b
answers_alike a b x y e = sym (answer_back a x) ∙ ap answer_at e ∙ answer_back b y

-- a text that begins as no answer does
pub reply_none : (text : List ℕ) → ((row : ReplyRow) (rest : List ℕ) → text ≢ reply_head row ++ rest)
    → (r : Reply) (rest : List ℕ) → text ≢ behind (reply_words r) (10 ∷ rest)
reply_none text none r rest e = none (answer_row r) _ (e ∙ answer_text r (10 ∷ rest))

-- an answer whose numbers can't be read
pub reply_unread : (row : ReplyRow) (text more : List ℕ) → text ≡ reply_head row ++ more
    → ((x : LineNumbers) (rest : List ℕ) → HasCounts (reply_count row) (reply_is_wide row) x
    → more ≢ behind (number_words x) (10 ∷ rest))
    → (r : Reply) (rest : List ℕ) → text ≢ behind (reply_words r) (10 ∷ rest)
reply_unread row text more is none r rest e =
    let whole = e ∙ answer_text r (10 ∷ rest) in
    let same = answers_alike (answer_row r) row _ more (sym whole ∙ is) in
    none (reply_smalls r, reply_wides r) rest (subst (λ k.
    HasCounts (reply_count k) (reply_is_wide k) (reply_smalls r, reply_wides r)) same (answer_counts r))
    (cancel (reply_head row) (sym is ∙ whole ∙ ap (λ k. reply_head k
    ++ behind (number_words (reply_smalls r, reply_wides r)) (10 ∷ rest)) same))

-- an answer that was read
pub reply_text : (row : ReplyRow) (text more last : List ℕ) (x : LineNumbers) → text ≡ reply_head row ++ more
    → HasCounts (reply_count row) (reply_is_wide row) x → more ≡ behind (number_words x) (10 ∷ last)
    → text ≡ behind (reply_words (reply_of row x.0 x.1)) (10 ∷ last)
reply_text row text more last x is counts read =
    let r = reply_of row x.0 x.1 in
    is
    ∙ ap (λ m. reply_head row ++ m) read
    ∙ ap (λ ns. reply_head row ++ behind (numerals (ns ++ x.1)) (10 ∷ last))
    (sym (reply_smalls_are row x.0 x.1 counts.0))
    ∙ ap (λ ws. reply_head row ++ behind (numerals (reply_smalls r ++ ws)) (10 ∷ last))
    (sym (reply_wides_are row x.0 x.1 counts.1))
    ∙ ap (λ k. reply_head k ++ behind (number_words (reply_smalls r, reply_wides r)) (10 ∷ last))
    (sym (row_of_reply row x.0 x.1))
    ∙ sym (answer_text r (10 ∷ last))

-- a return, and a completion
pub record IsReturn (l : EventLine) : Type 0 where
  pub by : Pid
  pub answer : Reply
  pub line_is : l ≡ Shown (event.Ret by answer)

no_return : (k : ReqKind) → added_row k ≡ Returns → ⊥
no_return (kind.Read p serial page) at = cc
no_return (kind.Pages serial page) at = cc
no_return (kind.Log t) at = cc
no_return (kind.Commit t) at = cc
no_return (kind.Home t) at = cc
no_return (kind.Clear t) at = cc

pub return_of_line : (l : EventLine) → row_of l ≡ Returns → IsReturn l
return_of_line (Shown (event.Ret by answer)) at = record { by = by; answer = answer; line_is = refl }
return_of_line (Shown (event.Add by r)) at = absurd (no_return r.kind at)
return_of_line l at = absurd (cc)

pub return_unread : (text : List ℕ) (adds : ℕ) → ((n : ℕ) (rest : List ℕ) → NumberAt text n rest → ⊥)
    → (l : EventLine) (rest : List ℕ) → IsFormed adds l → row_of l ≡ Returns → text ≢ tail l rest
return_unread text adds none l rest formed at e = let p = number_here adds Returns l rest refl formed at e in
    none p.0 _ p.2

pub return_unfinished : (text more : List ℕ) (p adds : ℕ) → NumberAt text p more
    → ((r : Reply) (rest : List ℕ) → more ≢ behind (reply_words r) (10 ∷ rest))
    → (l : EventLine) (rest : List ℕ) → IsFormed adds l → row_of l ≡ Returns → text ≢ tail l rest
return_unfinished text more p adds read none l rest formed at e =
    let r = return_of_line l at in
    none r.answer rest (after_number adds Returns l rest refl read formed at e
    ∙ ap (λ m. behind (last_words m) (10 ∷ rest)) r.line_is)

pub return_read : (text more last : List ℕ) (p most adds : ℕ) (r : Reply) (found : Option Event) → NumberAt text p more
    → more ≡ behind (reply_words r) (10 ∷ last)
    → Says most (Shown (event.Ret (record { 0 = p }) r)) found
    → (l : EventLine) × IsFormed adds l × (row_of l ≡ Returns) × (text ≡ tail l last) × Says most l found
return_read text more last p most adds r found read is says =
    (Shown (event.Ret (record { 0 = p }) r), tt, refl, read.text_is ∙ ap (λ m. numeral p ++ m) is, says)

pub record IsCompletion (l : EventLine) : Type 0 where
  pub k : ℕ
  pub id : ReqId
  pub ok : Bool
  pub line_is : l ≡ Shown (event.Done k id ok)

no_completion : (k : ReqKind) → added_row k ≡ Completes → ⊥
no_completion (kind.Read p serial page) at = cc
no_completion (kind.Pages serial page) at = cc
no_completion (kind.Log t) at = cc
no_completion (kind.Commit t) at = cc
no_completion (kind.Home t) at = cc
no_completion (kind.Clear t) at = cc

pub completion_of_line : (l : EventLine) → row_of l ≡ Completes → IsCompletion l
completion_of_line (Shown (event.Done k id ok)) at = record { k = k; id = id; ok = ok; line_is = refl }
completion_of_line (Shown (event.Add by r)) at = absurd (no_completion r.kind at)
completion_of_line l at = absurd (cc)

pub done_unread : (text : List ℕ) (adds : ℕ) → ((n : ℕ) (rest : List ℕ) → NumberAt text n rest → ⊥)
    → (l : EventLine) (rest : List ℕ) → IsFormed adds l → row_of l ≡ Completes → text ≢ tail l rest
done_unread text adds none l rest formed at e = let p = number_here adds Completes l rest refl formed at e in
    none p.0 _ p.2

-- what follows the place in flight that was read
done_after : {text more : List ℕ} {p : ℕ} (adds : ℕ) (l : EventLine) (rest : List ℕ) → NumberAt text p more
    → IsFormed adds l → row_of l ≡ Completes → text ≡ tail l rest → (d : IsCompletion l)
    → more ≡ 32 ∷ numeral d.id.0 ++ behind (outcome_words d.ok) (10 ∷ rest)
done_after adds l rest read formed at e d = after_number adds Completes l rest refl read formed at e
    ∙ ap (λ m. behind (last_words m) (10 ∷ rest)) d.line_is

pub done_unnamed : (text more : List ℕ) (p adds : ℕ) → NumberAt text p more
    → ((n : ℕ) (rest : List ℕ) → FieldAt more n rest → ⊥)
    → (l : EventLine) (rest : List ℕ) → IsFormed adds l → row_of l ≡ Completes → text ≢ tail l rest
done_unnamed text more p adds read none l rest formed at e =
    let d = completion_of_line l at in
    none d.id.0 (behind (outcome_words d.ok) (10 ∷ rest))
    (record { text_is = done_after adds l rest read formed at e d; ends = refl })

pub done_unfinished : (text more last : List ℕ) (p n adds : ℕ) → NumberAt text p more → FieldAt more n last
    → ((ok : Bool) (rest : List ℕ) → last ≢ behind (outcome_words ok) (10 ∷ rest))
    → (l : EventLine) (rest : List ℕ) → IsFormed adds l → row_of l ≡ Completes → text ≢ tail l rest
done_unfinished text more last p n adds read named none l rest formed at e =
    let d = completion_of_line l at in
    none d.ok rest (after_field d.id.0 (behind (outcome_words d.ok) (10 ∷ rest)) named
    (done_after adds l rest read formed at e d) refl)

pub done_read : (text more last end : List ℕ) (i j most adds : ℕ) (ok : Bool) (found : Option Event)
    → NumberAt text i more → FieldAt more j last → last ≡ behind (outcome_words ok) (10 ∷ end)
    → Says most (Shown (event.Done i (record { 0 = j }) ok)) found
    → (l : EventLine) × IsFormed adds l × (row_of l ≡ Completes) × (text ≡ tail l end) × Says most l found
done_read text more last end i j most adds ok found read named is says = (
  Shown (event.Done i (record { 0 = j }) ok),
  tt,
  refl,
  read.text_is
      ∙ ap (λ m. numeral i ++ m) (named.text_is ∙ ap (λ m. 32 ∷ numeral j ++ m) is),
  says,
)
