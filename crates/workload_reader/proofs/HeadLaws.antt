-- The first words of lines.
use Rattle.std.proofs.Common.{◌≡◌, ℕ, ◌+◌, ◌<◌, ◌≤◌, true, false, List, [], ◌∷◌, ◌++◌, codes, ap, refl, sym, ◌∙◌, arith}
use Rattle.std.proofs.Common.{append_assoc, Option, Some, None, Result, Bor}
use Rattle.std.proofs.lemmas.Bool.Decides.{nat_tests}
use Rattle.split_types.specs.declared.workload.Workload.{Workload}
use Rattle.split_types.specs.Lines.{fields, line}
use Rattle.workload_reader.specs.declared.cause.Cause.{Cause}
use Rattle.workload_reader.specs.declared.line.Line.{Line}
use Rattle.workload_reader.specs.declared.line.Line.TheVariants as kind
use Rattle.workload_reader.specs.Fields.{behind, Reads}
use Rattle.workload_reader.specs.Line.{IsAt, place, stands, line_words, line_fields, text_line}
use Rattle.workload_reader.specs.ReadsLine.{ReadsLine}
use Rattle.workload_reader.specs.Table.{InRange, Refers}
use Rattle.workload_reader.specs.Weighed.{Weighed}
use Rattle.workload_reader.proofs.Alike.{differ, cancel}

-- words behind spaces, a newline and what follows
pub fields_behind : (words : List (List ℕ)) (rest : List ℕ)
    → (fields words ++ 10 ∷ []) ++ rest ≡ behind words (10 ∷ rest)
fields_behind [] rest = refl
fields_behind (word ∷ words) rest =
    ap (λ l. 32 ∷ l ++ rest) (append_assoc word (fields words) (10 ∷ []))
    ∙ ap (λ l. 32 ∷ l) (append_assoc word (fields words ++ 10 ∷ []) rest)
    ∙ ap (λ l. 32 ∷ word ++ l) (fields_behind words rest)

-- the lines of a place have this first word
pub record HasHead (word : List ℕ) (k : ℕ) : Type 0 where
  pub first : (l : Line) → place l ≡ k → line_words l ≡ word ∷ line_fields l
  pub only : (l : Line) (rest more : List ℕ) → text_line l ++ rest ≡ word ++ more → place l ≡ k

pub text_behind : {word : List ℕ} {k : ℕ} → HasHead word k → (l : Line) (rest : List ℕ) → place l ≡ k
    → text_line l ++ rest ≡ word ++ behind (line_fields l) (10 ∷ rest)
text_behind {word} {k} head l rest at =
    ap (λ words. line words ++ rest) (head.first l at)
    ∙ append_assoc word (fields (line_fields l) ++ 10 ∷ []) rest
    ∙ ap (λ m. word ++ m) (fields_behind (line_fields l) rest)

-- what was read behind that word is what was read
pub at_head : {word : List ℕ} {k : ℕ} → HasHead word k
    → (w : Workload) (stage : ℕ) (text more : List ℕ) (r : Option (Result Line Cause × Bor (List ℕ)))
    → text ≡ word ++ more → stands stage k ≡ true
    → Reads (IsAt k) line_fields (Weighed (InRange w) (Refers w)) more r → ReadsLine w stage text r
at_head {word} {k} head w stage text more (Some r) is may p = (
  p.0,
  p.1.1,
  ap (stands stage) p.1.0 ∙ may,
  is ∙ ap (λ l. word ++ l) p.2
      ∙ sym (text_behind head p.0 r.1.now p.1.0),
  p.3,
)
at_head {word} {k} head w stage text more None is may p = λ l rest formed stand e.
    let at = head.only l rest more (sym e ∙ is) in
    p l rest (at, formed) (cancel word (sym is ∙ e ∙ text_behind head l rest at))

-- a line of that word may not stand here
pub not_here : {word : List ℕ} {k : ℕ} → HasHead word k → (w : Workload) (stage : ℕ) (text more : List ℕ)
    → text ≡ word ++ more → stands stage k ≡ false → ReadsLine w stage text None
not_here {word} {k} head w stage text more is not l rest formed stand e =
    let at = head.only l rest more (sym e ∙ is) in absurd (cc (sym (ap (stands stage) at ∙ not) ∙ stand))

pub splitload_head : HasHead (codes "splitload") 0
splitload_head = record { first = first; only = only } where
  first : (l : Line) → place l ≡ 0 → line_words l ≡ codes "splitload" ∷ line_fields l
  first (kind.Version n) at = refl
  first l at = absurd (omega arith)

  only : (l : Line) (rest more : List ℕ) → text_line l ++ rest ≡ codes "splitload" ++ more → place l ≡ 0
  only (kind.Version n) rest more e = refl
  only (kind.Sched s) rest more e = absurd (differ 1 e refl)
  only l rest more e = absurd (differ 0 e refl)

pub device_head : HasHead (codes "device") 1
device_head = record { first = first; only = only } where
  first : (l : Line) → place l ≡ 1 → line_words l ≡ codes "device" ∷ line_fields l
  first (kind.Device n) at = refl
  first l at = absurd (omega arith)

  only : (l : Line) (rest more : List ℕ) → text_line l ++ rest ≡ codes "device" ++ more → place l ≡ 1
  only (kind.Device n) rest more e = refl
  only (kind.Depth n) rest more e = absurd (differ 2 e refl)
  only l rest more e = absurd (differ 0 e refl)

pub cache_head : HasHead (codes "cache") 2
cache_head = record { first = first; only = only } where
  first : (l : Line) → place l ≡ 2 → line_words l ≡ codes "cache" ∷ line_fields l
  first (kind.Cache n) at = refl
  first l at = absurd (omega arith)

  only : (l : Line) (rest more : List ℕ) → text_line l ++ rest ≡ codes "cache" ++ more → place l ≡ 2
  only (kind.Cache n) rest more e = refl
  only (kind.Call p c) rest more e = absurd (differ 2 e refl)
  only l rest more e = absurd (differ 0 e refl)

pub depth_head : HasHead (codes "depth") 3
depth_head = record { first = first; only = only } where
  first : (l : Line) → place l ≡ 3 → line_words l ≡ codes "depth" ∷ line_fields l
  first (kind.Depth n) at = refl
  first l at = absurd (omega arith)

  only : (l : Line) (rest more : List ℕ) → text_line l ++ rest ≡ codes "depth" ++ more → place l ≡ 3
  only (kind.Depth n) rest more e = refl
  only (kind.Device n) rest more e = absurd (differ 2 e refl)
  only l rest more e = absurd (differ 0 e refl)

pub sched_head : HasHead (codes "sched") 4
sched_head = record { first = first; only = only } where
  first : (l : Line) → place l ≡ 4 → line_words l ≡ codes "sched" ∷ line_fields l
  first (kind.Sched s) at = refl
  first l at = absurd (omega arith)

  only : (l : Line) (rest more : List ℕ) → text_line l ++ rest ≡ codes "sched" ++ more → place l ≡ 4
  only (kind.Sched s) rest more e = refl
  only (kind.Version n) rest more e = absurd (differ 1 e refl)
  only l rest more e = absurd (differ 0 e refl)

pub account_head : HasHead (codes "account") 5
account_head = record { first = first; only = only } where
  first : (l : Line) → place l ≡ 5 → line_words l ≡ codes "account" ∷ line_fields l
  first (kind.Account a) at = refl
  first l at = absurd (omega arith)

  only : (l : Line) (rest more : List ℕ) → text_line l ++ rest ≡ codes "account" ++ more → place l ≡ 5
  only (kind.Account a) rest more e = refl
  only l rest more e = absurd (differ 0 e refl)

pub proc_head : HasHead (codes "proc") 6
proc_head = record { first = first; only = only } where
  first : (l : Line) → place l ≡ 6 → line_words l ≡ codes "proc" ∷ line_fields l
  first (kind.Process p) at = refl
  first l at = absurd (omega arith)

  only : (l : Line) (rest more : List ℕ) → text_line l ++ rest ≡ codes "proc" ++ more → place l ≡ 6
  only (kind.Process p) rest more e = refl
  only l rest more e = absurd (differ 0 e refl)

pub file_head : HasHead (codes "file") 7
file_head = record { first = first; only = only } where
  first : (l : Line) → place l ≡ 7 → line_words l ≡ codes "file" ∷ line_fields l
  first (kind.File f) at = refl
  first l at = absurd (omega arith)

  only : (l : Line) (rest more : List ℕ) → text_line l ++ rest ≡ codes "file" ++ more → place l ≡ 7
  only (kind.File f) rest more e = refl
  only (kind.Fail s) rest more e = absurd (differ 1 e refl)
  only l rest more e = absurd (differ 0 e refl)

pub call_head : HasHead (codes "call") 8
call_head = record { first = first; only = only } where
  first : (l : Line) → place l ≡ 8 → line_words l ≡ codes "call" ∷ line_fields l
  first (kind.Call p c) at = refl
  first l at = absurd (omega arith)

  only : (l : Line) (rest more : List ℕ) → text_line l ++ rest ≡ codes "call" ++ more → place l ≡ 8
  only (kind.Call p c) rest more e = refl
  only (kind.Cache n) rest more e = absurd (differ 2 e refl)
  only l rest more e = absurd (differ 0 e refl)

pub fail_head : HasHead (codes "fail") 9
fail_head = record { first = first; only = only } where
  first : (l : Line) → place l ≡ 9 → line_words l ≡ codes "fail" ∷ line_fields l
  first (kind.Fail s) at = refl
  first l at = absurd (omega arith)

  only : (l : Line) (rest more : List ℕ) → text_line l ++ rest ≡ codes "fail" ++ more → place l ≡ 9
  only (kind.Fail s) rest more e = refl
  only (kind.File f) rest more e = absurd (differ 1 e refl)
  only l rest more e = absurd (differ 0 e refl)

pub go_head : HasHead (codes "go") 10
go_head = record { first = first; only = only } where
  first : (l : Line) → place l ≡ 10 → line_words l ≡ codes "go" ∷ line_fields l
  first (kind.Go g) at = refl
  first l at = absurd (omega arith)

  only : (l : Line) (rest more : List ℕ) → text_line l ++ rest ≡ codes "go" ++ more → place l ≡ 10
  only (kind.Go g) rest more e = refl
  only l rest more e = absurd (differ 0 e refl)

pub end_head : HasHead (codes "end") 11
end_head = record { first = first; only = only } where
  first : (l : Line) → place l ≡ 11 → line_words l ≡ codes "end" ∷ line_fields l
  first kind.End at = refl
  first l at = absurd (omega arith)

  only : (l : Line) (rest more : List ℕ) → text_line l ++ rest ≡ codes "end" ++ more → place l ≡ 11
  only kind.End rest more e = refl
  only l rest more e = absurd (differ 0 e refl)

pub may : (stage k : ℕ) → 5 ≤ k → 5 ≤ stage → stage ≤ k + 1 → stage < 12 → stands stage k ≡ true
may stage k item begun late below = grind (arith, nat_tests)
