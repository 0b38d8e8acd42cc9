-- Right lines are those of what they say.
use Rattle.std.proofs.Common.{◌≡◌, ℕ, zero, suc, ◌+◌, ◌<◌, ◌≤◌, ◌∙◌, List, [], ◌∷◌, ◌++◌, true, arith, refl, sym, ap}
use Rattle.std.proofs.lemmas.Bool.Decides.{nat_tests}
use Rattle.std.proofs.lemmas.List.{append_assoc, append-nil}
use Rattle.split_types.specs.Lines.{line as line_of, lines_of}
use Rattle.split_types.specs.WorkloadText.{workload_text, account_words, process_words, preset_words, call_words}
use Rattle.split_types.specs.WorkloadText.{fail_words, go_words}
use Rattle.split_types.specs.declared.ids.Pid.{Pid}
use Rattle.split_types.specs.declared.call.Call.{Call}
use Rattle.split_types.specs.declared.workload.Account.{Account}
use Rattle.split_types.specs.declared.workload.Process.{Process}
use Rattle.split_types.specs.declared.workload.Preset.{Preset}
use Rattle.split_types.specs.declared.workload.Go.{Go}
use Rattle.split_types.specs.declared.workload.Workload.{Workload}
use Rattle.workload_reader.specs.declared.line.Line.{Line}
use Rattle.workload_reader.specs.declared.line.Line.TheVariants as kind
use Rattle.workload_reader.specs.Line.{place, stands, stage, has_ended, text_line, lines_text, said, with_line}
use Rattle.workload_reader.specs.Refusal.{AreRight}

-- lines of one kind, behind others; the last line stands first
abbrev pub push : {X : Type 0} → (X → Line) → List X → List Line → List Line
push f [] base = base
push f (x ∷ xs) base = push f xs (f x ∷ base)

push-more : {X : Type 0} (f : X → Line) (xs : List X) (x : X) (base : List Line)
    → push f (xs ++ x ∷ []) base ≡ f x ∷ push f xs base
push-more f [] x base = refl
push-more f (y ∷ xs) x base = push-more f xs x (f y ∷ base)

abbrev pub call_line : Pid × Call → Line
call_line c = kind.Call c.0 c.1

-- the lists' lines, behind others
abbrev pub stack : List Account → List Process → List Preset → List (Pid × Call) → List ℕ → List Go → List Line
    → List Line
stack accounts procs files calls fails go base =
    push (λ g. kind.Go g) go
    (push (λ s. kind.Fail s) fails
    (push call_line calls
    (push (λ f. kind.File f) files (push (λ p. kind.Process p) procs (push (λ a. kind.Account a) accounts base)))))

-- the first lines, which stand once: so many of them
abbrev pub heads : ℕ → Workload → List Line
heads zero w = []
heads (suc zero) w = kind.Version w.version ∷ []
heads (suc (suc zero)) w = kind.Device w.device ∷ kind.Version w.version ∷ []
heads (suc (suc (suc zero))) w = kind.Cache w.cache ∷ kind.Device w.device ∷ kind.Version w.version ∷ []
heads (suc (suc (suc (suc zero)))) w =
    kind.Depth w.depth ∷ kind.Cache w.cache ∷ kind.Device w.device ∷ kind.Version w.version ∷ []
heads _ w =
    kind.Sched w.sched ∷ kind.Depth w.depth ∷ kind.Cache w.cache ∷ kind.Device w.device ∷ kind.Version w.version ∷ []

abbrev pub body : Workload → List Line
body w = stack w.accounts w.procs w.files w.calls w.fails w.go (heads 5 w)

-- lists of which nothing was said yet
pub record Unsaid (w : Workload) (at : ℕ) : Type 0 where
  pub accounts : at ≤ 5 → w.accounts ≡ []
  pub procs : at ≤ 6 → w.procs ≡ []
  pub files : at ≤ 7 → w.files ≡ []
  pub calls : at ≤ 8 → w.calls ≡ []
  pub fails : at ≤ 9 → w.fails ≡ []
  pub go : at ≤ 10 → w.go ≡ []

-- the lines are those of what they say
pub record Are (before : List Line) : Type 0 where
  pub early : stage before < 5 → before ≡ heads (stage before) (said before)
  pub late : 5 ≤ stage before → stage before < 12 → before ≡ body (said before)
  pub over : stage before ≡ 12 → before ≡ kind.End ∷ body (said before)
  pub unsaid : Unsaid (said before) (stage before)

none : Are []
none = record {
  early = λ _. refl;
  late = λ h _. absurd (omega (arith, h));
  over = λ h. absurd (omega (arith, h));
  unsaid = record {
    accounts = λ _. refl;
    procs = λ _. refl;
    files = λ _. refl;
    calls = λ _. refl;
    fails = λ _. refl;
    go = λ _. refl;
  };
}

-- an item stands behind the head
item : (at k : ℕ) → 5 ≤ k → stands at k ≡ true → (5 ≤ at) × (at ≤ k + 1) × (at < 12)
item at k late may = (grind (arith, nat_tests), grind (arith, nat_tests), grind (arith, nat_tests))

head : (at k : ℕ) → k < 5 → stands at k ≡ true → at ≡ k
head at k early may = grind (arith, nat_tests)

add_account : (l : Account) (w : Workload) (before : List Line) → before ≡ body w → w.procs ≡ [] → w.files ≡ []
    → w.calls ≡ [] → w.fails ≡ [] → w.go ≡ [] → kind.Account l ∷ before ≡ body (with_line w (kind.Account l))
add_account l w before is procs files calls fails go =
    rw is
    (rw procs (rw files (rw calls (rw fails (rw go (sym (push-more (λ a. kind.Account a) w.accounts l (heads 5 w))))))))

add_process : (l : Process) (w : Workload) (before : List Line) → before ≡ body w → w.files ≡ [] → w.calls ≡ []
    → w.fails ≡ [] → w.go ≡ [] → kind.Process l ∷ before ≡ body (with_line w (kind.Process l))
add_process l w before is files calls fails go =
    rw is
    (rw files
    (rw calls
    (rw fails
    (rw go (sym (push-more (λ p. kind.Process p) w.procs l (push (λ a. kind.Account a) w.accounts (heads 5 w))))))))

add_file : (l : Preset) (w : Workload) (before : List Line) → before ≡ body w → w.calls ≡ [] → w.fails ≡ [] → w.go ≡ []
    → kind.File l ∷ before ≡ body (with_line w (kind.File l))
add_file l w before is calls fails go =
    rw is
    (rw calls
    (rw fails
    (rw go
    (sym
    (push-more (λ f. kind.File f) w.files l
    (push (λ p. kind.Process p) w.procs (push (λ a. kind.Account a) w.accounts (heads 5 w))))))))

add_call : (l : Pid × Call) (w : Workload) (before : List Line) → before ≡ body w → w.fails ≡ [] → w.go ≡ []
    → call_line l ∷ before ≡ body (with_line w (call_line l))
add_call l w before is fails go =
    rw is
    (rw fails
    (rw go
    (sym
    (push-more call_line w.calls l
    (push (λ f. kind.File f) w.files
    (push (λ p. kind.Process p) w.procs (push (λ a. kind.Account a) w.accounts (heads 5 w))))))))

add_fail : (l : ℕ) (w : Workload) (before : List Line) → before ≡ body w → w.go ≡ []
    → kind.Fail l ∷ before ≡ body (with_line w (kind.Fail l))
add_fail l w before is go =
    rw is
    (rw go
    (sym
    (push-more (λ s. kind.Fail s) w.fails l
    (push call_line w.calls
    (push (λ f. kind.File f) w.files
    (push (λ p. kind.Process p) w.procs (push (λ a. kind.Account a) w.accounts (heads 5 w))))))))

add_go : (l : Go) (w : Workload) (before : List Line) → before ≡ body w
    → kind.Go l ∷ before ≡ body (with_line w (kind.Go l))
add_go l w before is =
    rw is
    (sym
    (push-more (λ g. kind.Go g) w.go l
    (push (λ s. kind.Fail s) w.fails
    (push call_line w.calls
    (push (λ f. kind.File f) w.files
    (push (λ p. kind.Process p) w.procs (push (λ a. kind.Account a) w.accounts (heads 5 w))))))))

-- the lines were the head's
was_head : (before : List Line) (k : ℕ) → Are before → k < 5 → stands (stage before) k ≡ true
    → before ≡ heads k (said before)
was_head before k are early may =
    let at : stage before ≡ k = head (stage before) k early may in
    are.early (omega (arith, at, early)) ∙ ap (λ n. heads n (said before)) at

-- the lines were the head's and those of lists
was_body : (before : List Line) (k : ℕ) → Are before → 5 ≤ k → stands (stage before) k ≡ true
    → before ≡ body (said before)
was_body before k are late may = let at = item (stage before) k late may in are.late at.0 at.2

below : (at k : ℕ) → stands at k ≡ true → at ≤ k + 1
below at k may = grind (arith, nat_tests)

-- one line more
grows : (l : Line) (before : List Line) → stands (stage before) (place l) ≡ true → Are before → Are (l ∷ before)
grows (kind.Version n) before may are =
    let u = are.unsaid in
    let most = below (stage before) 0 may in
    let was = was_head before 0 are (omega arith) may in
    record {
      early = λ _. ap (λ b. kind.Version n ∷ b) was;
      late = λ h most. absurd (omega (arith, h, most));
      over = λ h. absurd (omega (arith, h));
      unsaid = record {
        accounts = λ h. u.accounts (omega (arith, h, most));
        procs = λ h. u.procs (omega (arith, h, most));
        files = λ h. u.files (omega (arith, h, most));
        calls = λ h. u.calls (omega (arith, h, most));
        fails = λ h. u.fails (omega (arith, h, most));
        go = λ h. u.go (omega (arith, h, most));
      };
    }
grows (kind.Device n) before may are =
    let u = are.unsaid in
    let most = below (stage before) 1 may in
    let was = was_head before 1 are (omega arith) may in
    record {
      early = λ _. ap (λ b. kind.Device n ∷ b) was;
      late = λ h most. absurd (omega (arith, h, most));
      over = λ h. absurd (omega (arith, h));
      unsaid = record {
        accounts = λ h. u.accounts (omega (arith, h, most));
        procs = λ h. u.procs (omega (arith, h, most));
        files = λ h. u.files (omega (arith, h, most));
        calls = λ h. u.calls (omega (arith, h, most));
        fails = λ h. u.fails (omega (arith, h, most));
        go = λ h. u.go (omega (arith, h, most));
      };
    }
grows (kind.Cache n) before may are =
    let u = are.unsaid in
    let most = below (stage before) 2 may in
    let was = was_head before 2 are (omega arith) may in
    record {
      early = λ _. ap (λ b. kind.Cache n ∷ b) was;
      late = λ h most. absurd (omega (arith, h, most));
      over = λ h. absurd (omega (arith, h));
      unsaid = record {
        accounts = λ h. u.accounts (omega (arith, h, most));
        procs = λ h. u.procs (omega (arith, h, most));
        files = λ h. u.files (omega (arith, h, most));
        calls = λ h. u.calls (omega (arith, h, most));
        fails = λ h. u.fails (omega (arith, h, most));
        go = λ h. u.go (omega (arith, h, most));
      };
    }
grows (kind.Depth n) before may are =
    let u = are.unsaid in
    let most = below (stage before) 3 may in
    let was = was_head before 3 are (omega arith) may in
    record {
      early = λ _. ap (λ b. kind.Depth n ∷ b) was;
      late = λ h most. absurd (omega (arith, h, most));
      over = λ h. absurd (omega (arith, h));
      unsaid = record {
        accounts = λ h. u.accounts (omega (arith, h, most));
        procs = λ h. u.procs (omega (arith, h, most));
        files = λ h. u.files (omega (arith, h, most));
        calls = λ h. u.calls (omega (arith, h, most));
        fails = λ h. u.fails (omega (arith, h, most));
        go = λ h. u.go (omega (arith, h, most));
      };
    }
grows (kind.Sched s) before may are =
    let u = are.unsaid in
    let most = below (stage before) 4 may in
    let was = was_head before 4 are (omega arith) may in
    record {
      early = λ h. absurd (omega (arith, h));
      late =
          λ _ _. rw (u.accounts (omega (arith, most)))
          (rw (u.procs (omega (arith, most)))
          (rw (u.files (omega (arith, most)))
          (rw (u.calls (omega (arith, most)))
          (rw (u.fails (omega (arith, most))) (rw (u.go (omega (arith, most))) (ap (λ b. kind.Sched s ∷ b) was))))));
      over = λ h. absurd (omega (arith, h));
      unsaid = record {
        accounts = λ h. u.accounts (omega (arith, h, most));
        procs = λ h. u.procs (omega (arith, h, most));
        files = λ h. u.files (omega (arith, h, most));
        calls = λ h. u.calls (omega (arith, h, most));
        fails = λ h. u.fails (omega (arith, h, most));
        go = λ h. u.go (omega (arith, h, most));
      };
    }
grows (kind.Account a) before may are =
    let u = are.unsaid in
    let most = below (stage before) 5 may in
    let was = was_body before 5 are (omega arith) may in
    record {
      early = λ h. absurd (omega (arith, h));
      late =
          λ _ _. add_account a (said before) before was (u.procs (omega (arith, most))) (u.files (omega (arith, most)))
          (u.calls (omega (arith, most))) (u.fails (omega (arith, most))) (u.go (omega (arith, most)));
      over = λ h. absurd (omega (arith, h));
      unsaid = record {
        accounts = λ h. absurd (omega (arith, h));
        procs = λ h. u.procs (omega (arith, h, most));
        files = λ h. u.files (omega (arith, h, most));
        calls = λ h. u.calls (omega (arith, h, most));
        fails = λ h. u.fails (omega (arith, h, most));
        go = λ h. u.go (omega (arith, h, most));
      };
    }
grows (kind.Process p) before may are =
    let u = are.unsaid in
    let most = below (stage before) 6 may in
    let was = was_body before 6 are (omega arith) may in
    record {
      early = λ h. absurd (omega (arith, h));
      late =
          λ _ _. add_process p (said before) before was (u.files (omega (arith, most))) (u.calls (omega (arith, most)))
          (u.fails (omega (arith, most))) (u.go (omega (arith, most)));
      over = λ h. absurd (omega (arith, h));
      unsaid = record {
        accounts = λ h. absurd (omega (arith, h));
        procs = λ h. absurd (omega (arith, h));
        files = λ h. u.files (omega (arith, h, most));
        calls = λ h. u.calls (omega (arith, h, most));
        fails = λ h. u.fails (omega (arith, h, most));
        go = λ h. u.go (omega (arith, h, most));
      };
    }
grows (kind.File f) before may are =
    let u = are.unsaid in
    let most = below (stage before) 7 may in
    let was = was_body before 7 are (omega arith) may in
    record {
      early = λ h. absurd (omega (arith, h));
      late =
          λ _ _. add_file f (said before) before was (u.calls (omega (arith, most))) (u.fails (omega (arith, most)))
          (u.go (omega (arith, most)));
      over = λ h. absurd (omega (arith, h));
      unsaid = record {
        accounts = λ h. absurd (omega (arith, h));
        procs = λ h. absurd (omega (arith, h));
        files = λ h. absurd (omega (arith, h));
        calls = λ h. u.calls (omega (arith, h, most));
        fails = λ h. u.fails (omega (arith, h, most));
        go = λ h. u.go (omega (arith, h, most));
      };
    }
grows (kind.Call p c) before may are =
    let u = are.unsaid in
    let most = below (stage before) 8 may in
    let was = was_body before 8 are (omega arith) may in
    record {
      early = λ h. absurd (omega (arith, h));
      late =
          λ _ _. add_call (p, c) (said before) before was (u.fails (omega (arith, most))) (u.go (omega (arith, most)));
      over = λ h. absurd (omega (arith, h));
      unsaid = record {
        accounts = λ h. absurd (omega (arith, h));
        procs = λ h. absurd (omega (arith, h));
        files = λ h. absurd (omega (arith, h));
        calls = λ h. absurd (omega (arith, h));
        fails = λ h. u.fails (omega (arith, h, most));
        go = λ h. u.go (omega (arith, h, most));
      };
    }
grows (kind.Fail s) before may are =
    let u = are.unsaid in
    let most = below (stage before) 9 may in
    let was = was_body before 9 are (omega arith) may in
    record {
      early = λ h. absurd (omega (arith, h));
      late = λ _ _. add_fail s (said before) before was (u.go (omega (arith, most)));
      over = λ h. absurd (omega (arith, h));
      unsaid = record {
        accounts = λ h. absurd (omega (arith, h));
        procs = λ h. absurd (omega (arith, h));
        files = λ h. absurd (omega (arith, h));
        calls = λ h. absurd (omega (arith, h));
        fails = λ h. absurd (omega (arith, h));
        go = λ h. u.go (omega (arith, h, most));
      };
    }
grows (kind.Go g) before may are =
    let u = are.unsaid in
    let most = below (stage before) 10 may in
    let was = was_body before 10 are (omega arith) may in
    record {
      early = λ h. absurd (omega (arith, h));
      late = λ _ _. add_go g (said before) before was;
      over = λ h. absurd (omega (arith, h));
      unsaid = record {
        accounts = λ h. absurd (omega (arith, h));
        procs = λ h. absurd (omega (arith, h));
        files = λ h. absurd (omega (arith, h));
        calls = λ h. absurd (omega (arith, h));
        fails = λ h. absurd (omega (arith, h));
        go = λ h. absurd (omega (arith, h));
      };
    }
grows kind.End before may are =
    let u = are.unsaid in
    let most = below (stage before) 11 may in
    let was = was_body before 11 are (omega arith) may in
    record {
      early = λ h. absurd (omega (arith, h));
      late = λ h most. absurd (omega (arith, h, most));
      over = λ _. ap (λ b. kind.End ∷ b) was;
      unsaid = record {
        accounts = λ h. absurd (omega (arith, h));
        procs = λ h. absurd (omega (arith, h));
        files = λ h. absurd (omega (arith, h));
        calls = λ h. absurd (omega (arith, h));
        fails = λ h. absurd (omega (arith, h));
        go = λ h. absurd (omega (arith, h));
      };
    }

pub all_are : (before : List Line) → AreRight before → Are before
all_are [] right = none
all_are (l ∷ before) right = grows l before right.2 (all_are before right.0)

-- the text of lines of one kind
push_text : {X : Type 0} (f : X → Line) (words : X → List (List ℕ)) → ((x : X) → text_line (f x) ≡ line_of (words x))
    → (xs : List X) (base : List Line)
    → lines_text (push f xs base) ≡ lines_text base ++ lines_of words xs
push_text f words same [] base = sym (append-nil (lines_text base))
push_text f words same (x ∷ xs) base =
    push_text f words same xs (f x ∷ base)
    ∙ append_assoc (lines_text base) (text_line (f x)) (lines_of words xs)
    ∙ ap (λ t. lines_text base ++ (t ++ lines_of words xs)) (same x)

-- behind a text that is known
behind_text : {X : Type 0} (f : X → Line) (words : X → List (List ℕ)) → ((x : X) → text_line (f x) ≡ line_of (words x))
    → (xs : List X) (base : List Line) (text : List ℕ)
    → lines_text base ≡ text → lines_text (push f xs base) ≡ text ++ lines_of words xs
behind_text f words same xs base text is = push_text f words same xs base ∙ ap (λ t. t ++ lines_of words xs) is

-- the text of the lines is the text of the workload
pub body_text : (w : Workload) → lines_text (kind.End ∷ body w) ≡ workload_text w
body_text w = ap (λ t. t ++ text_line kind.End)
    (behind_text (λ g. kind.Go g) go_words (λ _. refl) w.go _ _
    (behind_text (λ s. kind.Fail s) fail_words (λ _. refl) w.fails _ _
    (behind_text call_line call_words (λ _. refl) w.calls _ _
    (behind_text (λ f. kind.File f) preset_words (λ _. refl) w.files _ _
    (behind_text (λ p. kind.Process p) process_words (λ _. refl) w.procs _ _
    (push_text (λ a. kind.Account a) account_words (λ _. refl) w.accounts _))))))

-- lines up to `end` are those of what they say
pub whole_is : (before : List Line) → AreRight before → has_ended before ≡ true → before ≡ kind.End ∷ body (said before)
whole_is before right ended = (all_are before right).over (grind (ended, arith, nat_tests))
