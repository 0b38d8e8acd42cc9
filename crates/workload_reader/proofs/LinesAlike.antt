-- At the front of a text stands one line.
use Rattle.std.proofs.Common.{◌≡◌, ℕ, ◌+◌, ◌∙◌, true, List, [], ◌∷◌, ◌++◌, codes, get_or, drop, length, not, ◌&&◌}
use Rattle.std.proofs.Common.{IsTrue, nat_le, nat_lt, ap, refl, sym, arith, ℤ, pos, negsuc}
use Rattle.std.proofs.lemmas.Bool.Decides.{nat_tests}
use Rattle.std.proofs.lemmas.List.{append-nil}
use Rattle.std.specs.Char.{is_ascii_digit}
use Rattle.std.specs.List.{list_all}
use Rattle.split_types.specs.declared.actor.Actor.{Actor}
use Rattle.split_types.specs.declared.actor.Actor.TheVariants as actor
use Rattle.split_types.specs.declared.call.Call.{Call}
use Rattle.split_types.specs.declared.call.Call.TheVariants as call
use Rattle.split_types.specs.declared.ids.Pid.{Pid}
use Rattle.split_types.specs.declared.workload.Account.{Account}
use Rattle.split_types.specs.declared.workload.Process.{Process}
use Rattle.split_types.specs.declared.workload.Preset.{Preset}
use Rattle.split_types.specs.declared.workload.Go.{Go}
use Rattle.split_types.specs.declared.workload.Sched.{Sched}
use Rattle.split_types.specs.declared.workload.Sched.TheVariants as sched
use Rattle.split_types.specs.Calls.{name_of}
use Rattle.split_types.specs.Lines.{numeral, signed_numeral, actor_word}
use Rattle.split_types.specs.Names.{is_name, is_name_byte}
use Rattle.split_types.specs.WorkloadText.{sched_word, action_fields}
use Rattle.split_types.proofs.Shared.{numeral_injective, numeral_digits}
use Rattle.workload_reader.specs.declared.line.Line.{Line}
use Rattle.workload_reader.specs.declared.line.Line.TheVariants as kind
use Rattle.workload_reader.specs.Fields.{is_end, behind}
use Rattle.workload_reader.specs.Line.{IsFormed, place, line_fields, text_line}
use Rattle.workload_reader.proofs.ActorLaws.{letter}
use Rattle.workload_reader.proofs.Alike.{stops, both, run_alike, cancel, differ, inside_name}
use Rattle.workload_reader.proofs.Amounts.{minus_is_no_digit}
use Rattle.workload_reader.proofs.HeadLaws.{HasHead, text_behind, splitload_head, device_head, cache_head, depth_head}
use Rattle.workload_reader.proofs.HeadLaws.{sched_head, account_head, proc_head, file_head, call_head, fail_head}
use Rattle.workload_reader.proofs.HeadLaws.{go_head}
use Rattle.workload_reader.proofs.HeadLaws.{end_head}

-- no space or newline stands in the word
abbrev Inside : List ℕ → Type 0
Inside word = list_all (λ b. not (is_end b)) word ≡ true

abbrev AllInside : List (List ℕ) → Type 0
AllInside [] = Unit {0}
AllInside (word ∷ words) = Inside word × AllInside words

digit_inside : (b : ℕ) → is_ascii_digit b ≡ true → not (is_end b) ≡ true
digit_inside b digit = grind (arith, nat_tests)

digits_inside : (bytes : List ℕ) → list_all is_ascii_digit bytes ≡ true → Inside bytes
digits_inside [] digits = refl
digits_inside (b ∷ bs) digits =
    let p = both (is_ascii_digit b) (list_all is_ascii_digit bs) digits in
    ap (λ c. c && list_all (λ d. not (is_end d)) bs) (digit_inside b p.0) ∙ digits_inside bs p.1

number_inside : (n : ℕ) → Inside (numeral n)
number_inside n = digits_inside (numeral n) (numeral_digits n)

amount_inside : (z : ℤ) → Inside (signed_numeral z)
amount_inside (pos n) = number_inside n
amount_inside (negsuc n) = number_inside (n + 1)

sched_inside : (s : Sched) → Inside (sched_word s)
sched_inside sched.Fifo = refl
sched_inside sched.Afq = refl
sched_inside sched.Deadline = refl
sched_inside sched.Token = refl

named_inside : (name : List ℕ) → IsTrue (is_name name) → Inside name
named_inside name named =
    inside_name name (both (nat_lt 0 (length name) && nat_le (length name) 32) (list_all is_name_byte name) named).1

action_inside : (c : Call) → IsTrue (is_name (name_of c)) → AllInside (action_fields c)
action_inside (call.Creat name) named = (refl, (named_inside name named, tt))
action_inside (call.Write name off len fill) named =
    (refl, (named_inside name named, (number_inside off, (number_inside len, (number_inside fill, tt)))))
action_inside (call.Read name off len) named =
    (refl, (named_inside name named, (number_inside off, (number_inside len, tt))))
action_inside (call.Fsync name) named = (refl, (named_inside name named, tt))
action_inside (call.Unlink name) named = (refl, (named_inside name named, tt))

actor_inside : (a : Actor) → Inside (actor_word a)
actor_inside (actor.Client p) = number_inside p.0
actor_inside actor.Wb = refl
actor_inside actor.Cm = refl
actor_inside actor.Dq = refl
actor_inside (actor.Dn k) = number_inside k
actor_inside actor.Tk = refl

inside : (l : Line) → IsFormed l → AllInside (line_fields l)
inside (kind.Version n) formed = (number_inside n, tt)
inside (kind.Device n) formed = (number_inside n, tt)
inside (kind.Cache n) formed = (number_inside n, tt)
inside (kind.Depth n) formed = (number_inside n, tt)
inside (kind.Sched s) formed = (sched_inside s, tt)
inside (kind.Account a) formed = (number_inside a.rate, (number_inside a.cap, (amount_inside a.start, tt)))
inside (kind.Process p) formed = (number_inside p.account, (number_inside p.weight, (number_inside p.deadline, tt)))
inside (kind.File f) formed = (named_inside f.name formed, (number_inside f.pages, (number_inside f.fill, tt)))
inside (kind.Call p c) formed = (number_inside p.0, action_inside c formed)
inside (kind.Fail s) formed = (number_inside s, tt)
inside (kind.Go g) formed = (actor_inside g.actor, (number_inside g.times, tt))
inside kind.End formed = tt

stops_behind : (words : List (List ℕ)) (rest : List ℕ) → stops (λ b. not (is_end b)) (behind words (10 ∷ rest)) ≡ true
stops_behind [] rest = refl
stops_behind (word ∷ words) rest = refl

-- words behind spaces up to a newline are parted in one way
fields_alike : (us vs : List (List ℕ)) (x y : List ℕ) → AllInside us → AllInside vs
    → behind us (10 ∷ x) ≡ behind vs (10 ∷ y) → (us ≡ vs) × (x ≡ y)
fields_alike [] [] x y inside_u inside_v e = (refl, cancel (10 ∷ []) e)
fields_alike [] (v ∷ vs) x y inside_u inside_v e = absurd (differ 0 e refl)
fields_alike (u ∷ us) [] x y inside_u inside_v e = absurd (differ 0 e refl)
fields_alike (u ∷ us) (v ∷ vs) x y inside_u inside_v e =
    let first = run_alike (λ b. not (is_end b)) u v (behind us (10 ∷ x)) (behind vs (10 ∷ y)) inside_u.0 inside_v.0
    (stops_behind us x) (stops_behind vs y) (cancel (32 ∷ []) e) in
    let others = fields_alike us vs x y inside_u.1 inside_v.1 first.1 in
    (ap (λ w. w ∷ us) first.0 ∙ ap (λ ws. v ∷ ws) others.0, others.1)

-- each line begins with the word of its place
headed : (l : Line) → (word : List ℕ) × HasHead word (place l)
headed (kind.Version n) = (codes "splitload", splitload_head)
headed (kind.Device n) = (codes "device", device_head)
headed (kind.Cache n) = (codes "cache", cache_head)
headed (kind.Depth n) = (codes "depth", depth_head)
headed (kind.Sched s) = (codes "sched", sched_head)
headed (kind.Account a) = (codes "account", account_head)
headed (kind.Process p) = (codes "proc", proc_head)
headed (kind.File f) = (codes "file", file_head)
headed (kind.Call p c) = (codes "call", call_head)
headed (kind.Fail s) = (codes "fail", fail_head)
headed (kind.Go g) = (codes "go", go_head)
headed kind.End = (codes "end", end_head)

-- two lines at the front of one text have one place, the same fields, and the same text behind them
parts_alike : {word : List ℕ} (l m : Line) (x y : List ℕ) → HasHead word (place m) → IsFormed l → IsFormed m
    → text_line l ++ x ≡ text_line m ++ y → (place l ≡ place m) × (line_fields l ≡ line_fields m) × (x ≡ y)
parts_alike {word} l m x y head formed_l formed_m e =
    let text_m = text_behind head m y refl in
    let here = head.only l x (behind (line_fields m) (10 ∷ y)) (e ∙ text_m) in
    let same = fields_alike (line_fields l) (line_fields m) x y (inside l formed_l) (inside m formed_m)
    (cancel word (sym (text_behind head l x here) ∙ e ∙ text_m)) in
    (here, same.0, same.1)

-- amounts of one word are one
same_amount : (y z : ℤ) → signed_numeral y ≡ signed_numeral z → y ≡ z
same_amount (pos m) (pos n) e = ap pos (numeral_injective m n e)
same_amount (pos m) (negsuc n) e = absurd (minus_is_no_digit m (numeral (n + 1)) [] (append-nil (numeral m) ∙ e))
same_amount (negsuc m) (pos n) e = absurd (minus_is_no_digit n (numeral (m + 1)) [] (append-nil (numeral n) ∙ sym e))
same_amount (negsuc m) (negsuc n) e =
    let next : m + 1 ≡ n + 1 = numeral_injective (m + 1) (n + 1) (cancel (45 ∷ []) e) in
    let one : m ≡ n = omega arith in
    ap negsuc one

same_sched : (s t : Sched) → sched_word s ≡ sched_word t → s ≡ t
same_sched sched.Fifo sched.Fifo e = refl
same_sched sched.Afq sched.Afq e = refl
same_sched sched.Deadline sched.Deadline e = refl
same_sched sched.Token sched.Token e = refl
same_sched s t e = absurd (differ 0 e refl)

same_actor : (a b : Actor) → actor_word a ≡ actor_word b → a ≡ b
same_actor (actor.Client p) (actor.Client q) e =
    let number = numeral_injective p.0 q.0 (cancel (99 ∷ []) e) in
    ap (λ k. let pid : Pid = record { 0 = k } in actor.Client pid) number
same_actor actor.Wb actor.Wb e = refl
same_actor actor.Cm actor.Cm e = refl
same_actor actor.Dq actor.Dq e = refl
same_actor (actor.Dn k) (actor.Dn j) e = ap (λ i. actor.Dn i) (numeral_injective k j (cancel (100 ∷ 110 ∷ []) e))
same_actor actor.Tk actor.Tk e = refl
same_actor (actor.Client p) actor.Cm e =
    absurd (letter p.0 109 [] [] refl (append-nil (numeral p.0) ∙ cancel (99 ∷ []) e))
same_actor actor.Cm (actor.Client p) e =
    absurd (letter p.0 109 [] [] refl (append-nil (numeral p.0) ∙ sym (cancel (99 ∷ []) e)))
same_actor actor.Dq (actor.Dn k) e = absurd (differ 1 e refl)
same_actor (actor.Dn k) actor.Dq e = absurd (differ 1 e refl)
same_actor a b e = absurd (differ 0 e refl)

same_action : (c d : Call) → action_fields c ≡ action_fields d → c ≡ d
same_action (call.Creat name) (call.Creat other) e = ap (λ n. call.Creat n) (ap (λ ws. get_or ws 1 []) e)
same_action (call.Write name off len fill) (call.Write other o l f) e =
    ap (λ n. call.Write n off len fill) (ap (λ ws. get_or ws 1 []) e)
    ∙ ap (λ n. call.Write other n len fill) (numeral_injective off o (ap (λ ws. get_or ws 2 []) e))
    ∙ ap (λ n. call.Write other o n fill) (numeral_injective len l (ap (λ ws. get_or ws 3 []) e))
    ∙ ap (λ n. call.Write other o l n) (numeral_injective fill f (ap (λ ws. get_or ws 4 []) e))
same_action (call.Read name off len) (call.Read other o l) e =
    ap (λ n. call.Read n off len) (ap (λ ws. get_or ws 1 []) e)
    ∙ ap (λ n. call.Read other n len) (numeral_injective off o (ap (λ ws. get_or ws 2 []) e))
    ∙ ap (λ n. call.Read other o n) (numeral_injective len l (ap (λ ws. get_or ws 3 []) e))
same_action (call.Fsync name) (call.Fsync other) e = ap (λ n. call.Fsync n) (ap (λ ws. get_or ws 1 []) e)
same_action (call.Unlink name) (call.Unlink other) e = ap (λ n. call.Unlink n) (ap (λ ws. get_or ws 1 []) e)
same_action c d e = absurd (differ 0 (ap (λ ws. get_or ws 0 []) e) refl)

same_account : (a b : Account) → line_fields (kind.Account a) ≡ line_fields (kind.Account b) → a ≡ b
same_account a b e =
    ap (λ n. let x : Account = record { rate = n; cap = a.cap; start = a.start } in x)
    (numeral_injective a.rate b.rate (ap (λ ws. get_or ws 0 []) e))
    ∙ ap (λ n. let x : Account = record { rate = b.rate; cap = n; start = a.start } in x)
    (numeral_injective a.cap b.cap (ap (λ ws. get_or ws 1 []) e))
    ∙ ap (λ z. let x : Account = record { rate = b.rate; cap = b.cap; start = z } in x)
    (same_amount a.start b.start (ap (λ ws. get_or ws 2 []) e))

same_process : (p q : Process) → line_fields (kind.Process p) ≡ line_fields (kind.Process q) → p ≡ q
same_process p q e =
    ap (λ n. let x : Process = record { account = n; weight = p.weight; deadline = p.deadline } in x)
    (numeral_injective p.account q.account (ap (λ ws. get_or ws 0 []) e))
    ∙ ap (λ n. let x : Process = record { account = q.account; weight = n; deadline = p.deadline } in x)
    (numeral_injective p.weight q.weight (ap (λ ws. get_or ws 1 []) e))
    ∙ ap (λ n. let x : Process = record { account = q.account; weight = q.weight; deadline = n } in x)
    (numeral_injective p.deadline q.deadline (ap (λ ws. get_or ws 2 []) e))

same_preset : (f g : Preset) → line_fields (kind.File f) ≡ line_fields (kind.File g) → f ≡ g
same_preset f g e =
    ap (λ n. let x : Preset = record { name = n; pages = f.pages; fill = f.fill } in x) (ap (λ ws. get_or ws 0 []) e)
    ∙ ap (λ n. let x : Preset = record { name = g.name; pages = n; fill = f.fill } in x)
    (numeral_injective f.pages g.pages (ap (λ ws. get_or ws 1 []) e))
    ∙ ap (λ n. let x : Preset = record { name = g.name; pages = g.pages; fill = n } in x)
    (numeral_injective f.fill g.fill (ap (λ ws. get_or ws 2 []) e))

same_go : (g h : Go) → line_fields (kind.Go g) ≡ line_fields (kind.Go h) → g ≡ h
same_go g h e =
    ap (λ a. let x : Go = record { actor = a; times = g.times } in x)
    (same_actor g.actor h.actor (ap (λ ws. get_or ws 0 []) e))
    ∙ ap (λ n. let x : Go = record { actor = h.actor; times = n } in x)
    (numeral_injective g.times h.times (ap (λ ws. get_or ws 1 []) e))

only_number : (m n : ℕ) → numeral m ∷ [] ≡ numeral n ∷ [] → m ≡ n
only_number m n e = numeral_injective m n (ap (λ ws. get_or ws 0 []) e)

-- lines of one place that have the same fields are one
same_line : (l m : Line) → place l ≡ place m → line_fields l ≡ line_fields m → l ≡ m
same_line (kind.Version n) (kind.Version k) at e = ap (λ i. kind.Version i) (only_number n k e)
same_line (kind.Device n) (kind.Device k) at e = ap (λ i. kind.Device i) (only_number n k e)
same_line (kind.Cache n) (kind.Cache k) at e = ap (λ i. kind.Cache i) (only_number n k e)
same_line (kind.Depth n) (kind.Depth k) at e = ap (λ i. kind.Depth i) (only_number n k e)
same_line (kind.Sched s) (kind.Sched t) at e = ap (λ i. kind.Sched i) (same_sched s t (ap (λ ws. get_or ws 0 []) e))
same_line (kind.Account a) (kind.Account b) at e = ap (λ i. kind.Account i) (same_account a b e)
same_line (kind.Process p) (kind.Process q) at e = ap (λ i. kind.Process i) (same_process p q e)
same_line (kind.File f) (kind.File g) at e = ap (λ i. kind.File i) (same_preset f g e)
same_line (kind.Call p c) (kind.Call q d) at e =
    let number = numeral_injective p.0 q.0 (ap (λ ws. get_or ws 0 []) e) in
    ap (λ k. let pid : Pid = record { 0 = k } in kind.Call pid c) number
    ∙ ap (λ a. kind.Call q a) (same_action c d (ap (drop 1) e))
same_line (kind.Fail s) (kind.Fail t) at e = ap (λ i. kind.Fail i) (only_number s t e)
same_line (kind.Go g) (kind.Go h) at e = ap (λ i. kind.Go i) (same_go g h e)
same_line kind.End kind.End at e = refl
same_line l m at e = absurd (omega (arith, at))

-- two lines at the front of one text are one, and so is what follows them
pub line_alike : (l m : Line) (x y : List ℕ) → IsFormed l → IsFormed m → text_line l ++ x ≡ text_line m ++ y
    → (l ≡ m) × (x ≡ y)
line_alike l m x y formed_l formed_m e =
    let same = parts_alike l m x y (headed m).1 formed_l formed_m e in
    (same_line l m same.0 same.1, same.2)
