-- At the front of a text stands the line of one event.
use Rattle.std.proofs.Common.{◌≡◌, ℕ, ◌+◌, ◌≤◌, ◌==◌, ◌∙◌, Bool, true, false, List, [], ◌∷◌, ◌++◌, length, take, drop, codes, ap, refl, sym, arith, length-append}
use Rattle.std.proofs.Math.Seq.{take-append_seam, drop-append_seam}
use Rattle.std.proofs.lemmas.Bool.Decides.{nat_tests}
use Rattle.std.proofs.lemmas.List.{append-nil}
use Rattle.split_types.specs.declared.ids.Pid.{Pid}
use Rattle.split_types.specs.declared.ids.ReqId.{ReqId}
use Rattle.split_types.specs.declared.actor.Actor.{Actor}
use Rattle.split_types.specs.declared.actor.Actor.TheVariants as actor
use Rattle.split_types.specs.declared.call.Reply.{Reply}
use Rattle.split_types.specs.declared.call.Reply.TheVariants as reply
use Rattle.split_types.specs.declared.request.ReqKind.{ReqKind}
use Rattle.split_types.specs.declared.request.ReqKind.TheVariants as kind
use Rattle.split_types.specs.declared.request.Request.{Request}
use Rattle.split_types.specs.declared.event.Event.{Event}
use Rattle.split_types.specs.declared.event.Event.TheVariants as event
use Rattle.split_types.specs.Lines.{numeral}
use Rattle.split_types.specs.EventText.{numerals, flag, subject, reply_words}
use Rattle.split_types.proofs.Shared.{numeral_injective}
use Rattle.workload_reader.specs.Fields.{NumberAt, behind, ends_number}
use Rattle.workload_reader.proofs.Alike.{cancel, differ, number_alike}
use Rattle.trace_text.specs.EventLines.{EventLine, Shown, OddMap, text_line, smalls, wides, reply_smalls, reply_wides, IsAskedBy, IsFormed}
use Rattle.trace_text.specs.Numbers.{number_words}
use Rattle.trace_text.specs.Rows.{Row, Client, Thread, Asks, Returns, Reads, Completes, head, client_event, thread_line, request_event, read_event, reply_head, reply_count, reply_is_wide, reply_of}
use Rattle.trace_text.specs.Tails.{added_row, row_of, actor_number, number_of, added_words, last_words, outcome_words, tail}
use Rattle.trace_text.proofs.Fields.{numbers_alike}
use Rattle.trace_text.proofs.LineHeads.{text_is, row_at, line_back}
use Rattle.trace_text.proofs.TailLaws.{has_number, numbers_only, number_here, line_alone, line_words}
use Rattle.trace_text.proofs.ReturnLaws.{answer_row, answer_text, answer_counts, answers_alike, return_of_line, completion_of_line}

-- two lists in one are parted where their lengths say
append_alike : (ks ms xs ys : List ℕ) → length ks ≡ length ms → ks ++ xs ≡ ms ++ ys → (ks ≡ ms) × (xs ≡ ys)
append_alike ks ms xs ys same e = (
  sym (take-append_seam ks xs) ∙ ap (take (length ks)) e ∙ ap (λ n. take n (ms ++ ys)) same ∙ take-append_seam ms ys,
  sym (drop-append_seam ks xs) ∙ ap (drop (length ks)) e ∙ ap (λ n. drop n (ms ++ ys)) same ∙ drop-append_seam ms ys,
)

-- the numbers behind which a line ends are one
numbers_same : (ks ms us vs x y : List ℕ) → length ks ≡ length ms → length us ≡ length vs
    → behind (numerals (ks ++ us)) (10 ∷ x) ≡ behind (numerals (ms ++ vs)) (10 ∷ y) → (ks ≡ ms) × (us ≡ vs) × (x ≡ y)
numbers_same ks ms us vs x y first second e =
    let same = numbers_alike (ks ++ us) (ms ++ vs) (10 ∷ x) (10 ∷ y)
    (length-append ks us ∙ ap (λ n. n + length us) first ∙ ap (λ n. length ms + n) second ∙ sym (length-append ms vs))
    (λ _. refl) (λ _. refl) e in
    let parts = append_alike ks ms us vs first same.0 in
    (parts.0, parts.1, cancel (10 ∷ []) same.1)

-- the line with these numbers, where they and what it begins with say it all
made : Row → ℕ → ℕ → List ℕ → List ℕ → EventLine
made (Client row) adds p ns ws = Shown (client_event row (record { 0 = p }) ns ws)
made (Thread row) adds p ns ws = thread_line row ns ws
made (Asks row) adds p ns ws = Shown (request_event row adds ns)
made Reads adds p ns ws = Shown (read_event (record { 0 = p }) adds ns)
made Returns adds p ns ws = Shown event.Skip
made Completes adds p ns ws = Shown event.Skip

is_made : Row → Bool
is_made (Client row) = true
is_made (Thread row) = true
is_made (Asks row) = true
is_made Reads = true
is_made Returns = false
is_made Completes = false

by_pid : (f : Pid → Event) (by : Pid) (p : ℕ) → numeral by.0 ≡ numeral p → Shown (f by) ≡ Shown (f (record { 0 = p }))
by_pid f by p is = ap (λ k. let q : Pid = record { 0 = k } in Shown (f q)) (numeral_injective by.0 p is)

odd : (n : ℕ) → 2 ≤ n → ((n == 0) ≡ false) × ((n == 1) ≡ false)
odd n more = (grind (arith, nat_tests), grind (arith, nat_tests))

made_added : (by : Actor) (k : ReqKind) (adds first n p : ℕ) → IsAskedBy by k n → is_made (added_row k) ≡ true
    → (has_number (added_row k) ≡ true → actor_number by ≡ numeral p)
    → (let r : Request = record { id = record { 0 = adds }; kind = k; first = first; n = n } in
    Shown (event.Add by r) ≡ made (added_row k) adds p (first ∷ n ∷ subject k) [])
unfolding made is_made
made_added by (kind.Read q serial page) adds first n p is makes num =
    let number = numeral_injective q.0 p (sym (ap actor_number is.0) ∙ num refl) in
    rw is.0 (ap (λ k. let pid : Pid = record { 0 = k } in
    let r : Request = record { id = record { 0 = adds }; kind = kind.Read pid serial page; first = first; n = n } in
    Shown (event.Add (actor.Client pid) r)) number)
made_added by (kind.Pages serial page) adds first n p is makes num = rw is refl
made_added by (kind.Log t) adds first n p is makes num = rw is refl
made_added by (kind.Commit t) adds first n p is makes num = rw is.0 refl
made_added by (kind.Home t) adds first n p is makes num = rw is.0 refl
made_added by (kind.Clear t) adds first n p is makes num = rw is.0 refl

-- a line is the one with its numbers
remade : (adds : ℕ) (l : EventLine) (p : ℕ) → IsFormed adds l → is_made (row_of l) ≡ true
    → (has_number (row_of l) ≡ true → number_of l ≡ numeral p) → l ≡ made (row_of l) adds p (smalls l) (wides l)
unfolding made is_made
remade adds (Shown (event.Enter by k)) p formed makes num = by_pid (λ q. event.Enter q k) by p (num refl)
remade adds (Shown (event.Admit by)) p formed makes num = by_pid event.Admit by p (num refl)
remade adds (Shown (event.Make by slot serial)) p formed makes num =
    by_pid (λ q. event.Make q slot serial) by p (num refl)
remade adds (Shown (event.Put by serial page start end fill)) p formed makes num =
    by_pid (λ q. event.Put q serial page start end fill) by p (num refl)
remade adds (Shown (event.Get by serial page start end sum)) p formed makes num =
    by_pid (λ q. event.Get q serial page start end sum) by p (num refl)
remade adds (Shown (event.Drop by slot serial)) p formed makes num =
    by_pid (λ q. event.Drop q slot serial) by p (num refl)
remade adds (Shown (event.Flushed by)) p formed makes num = by_pid event.Flushed by p (num refl)
remade adds (Shown (event.Ret by answer)) p formed makes num = absurd (cc)
remade adds (Shown (event.Serve serial page n)) p formed makes num = refl
remade adds (Shown (event.Map slot serial page n block true size)) p formed makes num = refl
remade adds (Shown (event.Map slot serial page n block false size)) p formed makes num = refl
remade adds (Shown event.Skip) p formed makes num = refl
remade adds (Shown (event.Seal t k)) p formed makes num = refl
remade adds (Shown (event.Add by r)) p formed makes num =
    ap (λ i. let q : Request = record { id = record { 0 = i }; kind = r.kind; first = r.first; n = r.n } in
    Shown (event.Add by q)) formed.0 ∙ made_added by r.kind adds r.first r.n p formed.1 makes num
remade adds (Shown (event.Send id cost)) p formed makes num = refl
remade adds (Shown (event.Done k id ok)) p formed makes num = absurd (cc)
remade adds (Shown (event.Evict by serial page)) p formed makes num =
    by_pid (λ q. event.Evict q serial page) by p (num refl)
remade adds (Shown (event.Tick d)) p formed makes num = refl
remade adds (OddMap slot serial page n block new size) p formed makes num = let o = odd new formed in rw (o.0, o.1) refl

-- two lines of one row and the same numbers are one
same_made : (adds : ℕ) (row : Row) (l m : EventLine) (p : ℕ) → IsFormed adds l → IsFormed adds m → row_of l ≡ row
    → row_of m ≡ row → is_made row ≡ true → (has_number row ≡ true → number_of l ≡ numeral p)
    → number_of l ≡ number_of m → smalls l ≡ smalls m → wides l ≡ wides m → l ≡ m
same_made adds row l m p formed_l formed_m at_l at_m makes num numbers small wide =
    remade adds l p formed_l (ap is_made at_l ∙ makes) (λ has. num (sym (ap has_number at_l) ∙ has))
    ∙ ap (λ r. made r adds p (smalls l) (wides l)) (at_l ∙ sym at_m)
    ∙ ap (λ ns. made (row_of m) adds p ns (wides l)) small
    ∙ ap (λ ws. made (row_of m) adds p (smalls m) ws) wide
    ∙ sym (remade adds m p formed_m (ap is_made at_m ∙ makes)
    (λ has. sym numbers ∙ num (sym (ap has_number at_m) ∙ has)))

-- what was found of an actor's number
record NumberSame (l m : EventLine) (x y : List ℕ) : Type 0 where
  p : ℕ
  number_is : number_of l ≡ numeral p
  same : number_of l ≡ number_of m
  rest : behind (last_words l) (10 ∷ x) ≡ behind (last_words m) (10 ∷ y)

number_same : (adds : ℕ) (row : Row) (l m : EventLine) (x y : List ℕ) → has_number row ≡ true → IsFormed adds l
    → IsFormed adds m → row_of l ≡ row → row_of m ≡ row → tail l x ≡ tail m y → NumberSame l m x y
number_same adds row l m x y has formed_l formed_m at_l at_m e =
    let p = number_here adds row l x has formed_l at_l refl in
    let q = number_here adds row m y has formed_m at_m e in
    let same = number_alike p.2 q.2 in
    record { p = p.0; number_is = p.1; same = p.1 ∙ ap numeral same.0 ∙ sym q.1; rest = same.1 }

-- no actor's number is there
none_same : (adds : ℕ) (row : Row) (l m : EventLine) (x y : List ℕ) → has_number row ≡ false → IsFormed adds l
    → IsFormed adds m → row_of l ≡ row → row_of m ≡ row → tail l x ≡ tail m y
    → (number_of l ≡ number_of m) × (behind (last_words l) (10 ∷ x) ≡ behind (last_words m) (10 ∷ y))
none_same adds row l m x y none formed_l formed_m at_l at_m e =
    let p = line_alone adds l formed_l (ap has_number at_l ∙ none) in
    let q = line_alone adds m formed_m (ap has_number at_m ∙ none) in (
      p ∙ sym q,
      ap (λ w. w ++ behind (last_words l) (10 ∷ x)) (sym p) ∙ e ∙ ap (λ w. w ++ behind (last_words m) (10 ∷ y)) q,
    )

-- the other numbers, where nothing else follows
words_same : (row : Row) (l m : EventLine) (x y : List ℕ) → numbers_only row ≡ true → row_of l ≡ row → row_of m ≡ row
    → behind (last_words l) (10 ∷ x) ≡ behind (last_words m) (10 ∷ y)
    → (smalls l ≡ smalls m) × (wides l ≡ wides m) × (x ≡ y)
words_same row l m x y only at_l at_m e =
    let p = line_words row l only at_l in
    let q = line_words row m only at_m in
    numbers_same (smalls l) (smalls m) (wides l) (wides m) x y (p.1.0 ∙ sym q.1.0) (p.1.1 ∙ sym q.1.1)
    (ap (λ w. behind w (10 ∷ x)) (sym p.0) ∙ e ∙ ap (λ w. behind w (10 ∷ y)) q.0)

-- a read of a page
record IsReadLine (l : EventLine) : Type 0 where
  words_are : last_words l ≡ codes "read" ∷ numerals (smalls l ++ wides l)
  four : length (smalls l) ≡ 4
  narrow : length (wides l) ≡ 0

added_read : (by : Actor) (k : ReqKind) (first n : ℕ) → IsAskedBy by k n → added_row k ≡ Reads
    → (length (first ∷ n ∷ subject k) ≡ 4) × (added_words k first n ≡ codes "read" ∷ numerals (first ∷ n ∷ subject k))
added_read by (kind.Read p serial page) first n is at = (refl, refl)
added_read by k first n is at = absurd (cc)

read_line : (adds : ℕ) (l : EventLine) → IsFormed adds l → row_of l ≡ Reads → IsReadLine l
read_line adds (Shown (event.Add by r)) formed at =
    let is = added_read by r.kind r.first r.n formed.1 at in
    record {
      words_are = is.1 ∙ ap (λ ns. codes "read" ∷ numerals ns) (sym (append-nil (r.first ∷ r.n ∷ subject r.kind)));
      four = is.0;
      narrow = refl;
    }
read_line adds l formed at = absurd (cc)

-- answers
remade_reply : (r : Reply) → r ≡ reply_of (answer_row r) (reply_smalls r) (reply_wides r)
unfolding answer_row
remade_reply reply.Done = refl
remade_reply (reply.Count n sum) = refl
remade_reply reply.NoFile = refl
remade_reply reply.Exists = refl
remade_reply reply.NoSlot = refl
remade_reply reply.TooBig = refl
remade_reply (reply.NoSpace n) = refl
remade_reply reply.Stopped = refl
remade_reply reply.ReadFault = refl

reply_alike : (r s : Reply) (x y : List ℕ) → behind (reply_words r) (10 ∷ x) ≡ behind (reply_words s) (10 ∷ y)
    → (r ≡ s) × (x ≡ y)
reply_alike r s x y e =
    let whole = sym (answer_text r (10 ∷ x)) ∙ e ∙ answer_text s (10 ∷ y) in
    let row = answers_alike (answer_row r) (answer_row s) _ _ whole in
    let p = answer_counts r in
    let q = answer_counts s in
    let ns = numbers_same (reply_smalls r) (reply_smalls s) (reply_wides r) (reply_wides s) x y
    (p.0 ∙ ap reply_count row ∙ sym q.0) (p.1 ∙ ap (λ k. flag (reply_is_wide k)) row ∙ sym q.1)
    (cancel (reply_head (answer_row s)) (ap (λ k. reply_head k
    ++ behind (number_words (reply_smalls r, reply_wides r)) (10 ∷ x)) (sym row) ∙ whole)) in (
      remade_reply r
          ∙ ap (λ k. reply_of k (reply_smalls r) (reply_wides r)) row
          ∙ ap (λ ms. reply_of (answer_row s) ms (reply_wides r)) ns.0
          ∙ ap (λ ws. reply_of (answer_row s) (reply_smalls s) ws) ns.1
          ∙ sym (remade_reply s),
      ns.2,
    )

outcome_alike : (b c : Bool) (x y : List ℕ) → behind (outcome_words b) (10 ∷ x) ≡ behind (outcome_words c) (10 ∷ y)
    → (b ≡ c) × (x ≡ y)
outcome_alike true true x y e = (refl, cancel (codes " ok\n") e)
outcome_alike false false x y e = (refl, cancel (codes " bad\n") e)
outcome_alike true false x y e = absurd (differ 1 e refl)
outcome_alike false true x y e = absurd (differ 1 e refl)

ends_outcome : (ok : Bool) (x : List ℕ) → ends_number (behind (outcome_words ok) (10 ∷ x)) ≡ true
ends_outcome ok x = refl

-- a completion's words
completion_alike : (i j : ReqId) (b c : Bool) (x y : List ℕ)
    → 32 ∷ numeral i.0 ++ behind (outcome_words b) (10 ∷ x) ≡ 32 ∷ numeral j.0 ++ behind (outcome_words c) (10 ∷ y)
    → (i ≡ j) × (b ≡ c) × (x ≡ y)
completion_alike i j b c x y e =
    let one : NumberAt (numeral i.0 ++ behind (outcome_words b) (10 ∷ x)) i.0 (behind (outcome_words b) (10 ∷ x)) =
    record { text_is = refl; ends = refl } in
    let other : NumberAt (numeral i.0 ++ behind (outcome_words b) (10 ∷ x)) j.0 (behind (outcome_words c) (10 ∷ y)) =
    record { text_is = cancel (32 ∷ []) e; ends = refl } in
    let number = number_alike one other in
    let ok = outcome_alike b c x y number.1 in
    (ap (λ k. let id : ReqId = record { 0 = k } in id) number.0, ok.0, ok.1)

-- each row's
alike_at : (row : Row) (adds : ℕ) (l m : EventLine) (x y : List ℕ) → IsFormed adds l → IsFormed adds m → row_of l ≡ row
    → row_of m ≡ row → tail l x ≡ tail m y → (l ≡ m) × (x ≡ y)
unfolding is_made
alike_at (Client row) adds l m x y formed_l formed_m at_l at_m e =
    let n = number_same adds (Client row) l m x y refl formed_l formed_m at_l at_m e in
    let w = words_same (Client row) l m x y refl at_l at_m n.rest in
    (same_made adds (Client row) l m n.p formed_l formed_m at_l at_m refl (λ _. n.number_is) n.same w.0 w.1, w.2)
alike_at (Thread row) adds l m x y formed_l formed_m at_l at_m e =
    let n = none_same adds (Thread row) l m x y refl formed_l formed_m at_l at_m e in
    let w = words_same (Thread row) l m x y refl at_l at_m n.1 in
    (same_made adds (Thread row) l m 0 formed_l formed_m at_l at_m refl (λ has. absurd (cc)) n.0 w.0 w.1, w.2)
alike_at (Asks row) adds l m x y formed_l formed_m at_l at_m e =
    let n = none_same adds (Asks row) l m x y refl formed_l formed_m at_l at_m e in
    let w = words_same (Asks row) l m x y refl at_l at_m n.1 in
    (same_made adds (Asks row) l m 0 formed_l formed_m at_l at_m refl (λ has. absurd (cc)) n.0 w.0 w.1, w.2)
alike_at Reads adds l m x y formed_l formed_m at_l at_m e =
    let n = number_same adds Reads l m x y refl formed_l formed_m at_l at_m e in
    let p = read_line adds l formed_l at_l in
    let q = read_line adds m formed_m at_m in
    let w = numbers_same (smalls l) (smalls m) (wides l) (wides m) x y (p.four ∙ sym q.four) (p.narrow ∙ sym q.narrow)
    (cancel (codes " read") (ap (λ ws. behind ws (10 ∷ x)) (sym p.words_are) ∙ n.rest
    ∙ ap (λ ws. behind ws (10 ∷ y)) q.words_are)) in
    (same_made adds Reads l m n.p formed_l formed_m at_l at_m refl (λ _. n.number_is) n.same w.0 w.1, w.2)
alike_at Returns adds l m x y formed_l formed_m at_l at_m e =
    let n = number_same adds Returns l m x y refl formed_l formed_m at_l at_m e in
    let p = return_of_line l at_l in
    let q = return_of_line m at_m in
    let who = numeral_injective p.by.0 q.by.0 (sym (ap number_of p.line_is) ∙ n.same ∙ ap number_of q.line_is) in
    let w = reply_alike p.answer q.answer x y (ap (λ k. behind (last_words k) (10 ∷ x)) (sym p.line_is) ∙ n.rest
    ∙ ap (λ k. behind (last_words k) (10 ∷ y)) q.line_is) in (
      p.line_is
          ∙ ap (λ k. let by : Pid = record { 0 = k } in Shown (event.Ret by p.answer)) who
          ∙ ap (λ r. Shown (event.Ret q.by r)) w.0
          ∙ sym q.line_is,
      w.1,
    )
alike_at Completes adds l m x y formed_l formed_m at_l at_m e =
    let n = number_same adds Completes l m x y refl formed_l formed_m at_l at_m e in
    let p = completion_of_line l at_l in
    let q = completion_of_line m at_m in
    let place = numeral_injective p.k q.k (sym (ap number_of p.line_is) ∙ n.same ∙ ap number_of q.line_is) in
    let w = completion_alike p.id q.id p.ok q.ok x y (ap (λ k. behind (last_words k) (10 ∷ x)) (sym p.line_is) ∙ n.rest
    ∙ ap (λ k. behind (last_words k) (10 ∷ y)) q.line_is) in (
      p.line_is
          ∙ ap (λ k. Shown (event.Done k p.id p.ok)) place
          ∙ ap (λ i. Shown (event.Done q.k i p.ok)) w.0
          ∙ ap (λ b. Shown (event.Done q.k q.id b)) w.1
          ∙ sym q.line_is,
      w.2,
    )

-- two lines at the front of one text, behind as many requests, are one, and so is what follows them
pub line_alike : (adds : ℕ) (l m : EventLine) (x y : List ℕ) → IsFormed adds l → IsFormed adds m
    → text_line l ++ x ≡ text_line m ++ y → (l ≡ m) × (x ≡ y)
line_alike adds l m x y formed_l formed_m e =
    let whole = sym (text_is adds l x formed_l) ∙ e ∙ text_is adds m y formed_m in
    let at = sym (line_back adds l x formed_l) ∙ ap row_at whole ∙ line_back adds m y formed_m in
    alike_at (row_of m) adds l m x y formed_l formed_m at refl
    (cancel (head (row_of m)) (ap (λ r. head r ++ tail l x) (sym at) ∙ whole))
