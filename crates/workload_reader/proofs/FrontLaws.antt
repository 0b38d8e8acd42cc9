-- The lines of a text, read one by one.
use Rattle.std.proofs.Common.{◌≡◌, ℕ, ◌+◌, ◌<◌, ◌≤◌, List, [], ◌∷◌, ◌++◌, length, true, false, arith, refl, sym, ap}
use Rattle.std.proofs.Common.{◌∙◌, length-append, eq-eqb}
use Rattle.std.proofs.lemmas.List.{append_assoc}
use Rattle.std.proofs.lemmas.Bool.{ne_eqb}
use Rattle.split_types.specs.Lines.{fields, line as line_of}
use Rattle.split_types.specs.declared.workload.Workload.{Workload}
use Rattle.workload_reader.specs.declared.cause.Cause.{Cause}
use Rattle.workload_reader.specs.declared.line.Line.{Line}
use Rattle.workload_reader.specs.declared.line.Line.TheVariants as kind
use Rattle.workload_reader.specs.declared.seen.Seen.{Seen}
use Rattle.workload_reader.specs.Line.{place, stage, has_ended, line_words, text_line, lines_text, said, nothing}
use Rattle.workload_reader.specs.Refusal.{AreRight, Stops, ReadsFront, RefusesFront}
use Rattle.workload_reader.specs.Taking.{TookLine}

-- no place is above that of `end`
pub place-most : (l : Line) → place l ≤ 11
place-most (kind.Version n) = omega arith
place-most (kind.Device n) = omega arith
place-most (kind.Cache n) = omega arith
place-most (kind.Depth n) = omega arith
place-most (kind.Sched n) = omega arith
place-most (kind.Account n) = omega arith
place-most (kind.Process n) = omega arith
place-most (kind.File n) = omega arith
place-most (kind.Call p c) = omega arith
place-most (kind.Fail n) = omega arith
place-most (kind.Go n) = omega arith
place-most kind.End = omega arith

pub stage-most : (before : List Line) → stage before ≤ 12
stage-most [] = omega arith
stage-most (l ∷ before) = omega (arith, place-most l)

-- a line has a byte at least
pub line-some : (words : List (List ℕ)) → 1 ≤ length (line_of words)
line-some [] = omega arith
line-some (word ∷ words) =
    omega (arith, length-append word (fields words ++ 10 ∷ []), length-append (fields words) (10 ∷ []))

pub not-ended : (before : List Line) → stage before < 12 → has_ended before ≡ false
not-ended before below = ne_eqb (stage before) 12 (λ e. omega (arith, e, below))

pub all-ended : (before : List Line) → 12 ≤ stage before → has_ended before ≡ true
all-ended before over = eq-eqb (stage before) 12 (omega (arith, over, stage-most before))

-- these lines were read, and rest follows them
pub record Walks (text : List ℕ) (first : ℕ) (workload : Workload) (at : ℕ) (rest : List ℕ) (line : ℕ) : Type 0 where
  pub before : List Line
  pub right : AreRight before
  pub said_is : said before ≡ workload
  pub stage_is : stage before ≡ at
  pub number : first + length before ≡ line
  pub text_is : text ≡ lines_text before ++ rest
  pub few : length before + length rest ≤ length text

pub begins : (text : List ℕ) (first : ℕ) (workload : Workload) (at : ℕ) → workload ≡ nothing → at ≡ 0
    → Walks text first workload at text first
begins text first workload at said at-is = record {
  before = [];
  right = tt;
  said_is = sym said;
  stage_is = sym at-is;
  number = omega arith;
  text_is = refl;
  few = omega arith;
}

-- one line more was read
pub goes : (text : List ℕ) (first : ℕ) (old new : Seen) (rest more : List ℕ) (line : ℕ)
    → Walks text first old.workload old.stage rest line → TookLine old new rest more
    → Walks text first new.workload new.stage more (line + 1)
goes text first old new rest more line walks took =
    let l : Line = took.l in
    let is : said walks.before ≡ old.workload = walks.said_is in
    let at : stage walks.before ≡ old.stage = walks.stage_is in
    record {
      before = l ∷ walks.before;
      right = (walks.right, took.takes.formed, rw at took.takes.may, rw is took.takes.right);
      said_is = rw is (sym took.adds.workload_is);
      stage_is = sym took.adds.stage_is;
      number = omega (walks.number, arith);
      text_is =
          walks.text_is ∙ ap (λ r. lines_text walks.before ++ r) took.takes.text_is
          ∙ sym (append_assoc (lines_text walks.before) (text_line l) more);
      few =
          omega
          (arith, walks.few, ap length took.takes.text_is, length-append (text_line l) more, line-some (line_words l));
    }

-- the next line is refused
pub halts : (text : List ℕ) (first : ℕ) (seen : Seen) (rest : List ℕ) (line : ℕ) (c : Cause)
    → Walks text first seen.workload seen.stage rest line → seen.stage < 12 → Stops seen.workload seen.stage rest c
    → (lines : ℕ) × (first + lines ≡ line) × RefusesFront text lines c
halts text first seen rest line c walks going stops =
    let is : said walks.before ≡ seen.workload = walks.said_is in
    let at : stage walks.before ≡ seen.stage = walks.stage_is in (
      length walks.before,
      walks.number,
      record {
        before = walks.before;
        rest = rest;
        right = walks.right;
        going = not-ended walks.before (rw walks.stage_is going);
        number = refl;
        text_is = walks.text_is;
        stops = rw is (rw at stops);
      },
    )

-- `end` was read
pub arrives : (text : List ℕ) (first : ℕ) (seen : Seen) (rest : List ℕ) (line : ℕ)
    → Walks text first seen.workload seen.stage rest line → 12 ≤ seen.stage
    → (lines : ℕ) × (first + lines ≡ line) × ReadsFront text seen.workload lines rest
arrives text first seen rest line walks over = (
  length walks.before,
  walks.number,
  record {
    before = walks.before;
    right = walks.right;
    ended = all-ended walks.before (rw walks.stage_is over);
    said_is = walks.said_is;
    number = refl;
    text_is = walks.text_is;
  },
)

lines_some : (before : List Line) → length before ≤ length (lines_text before)
lines_some [] = omega arith
lines_some (l ∷ before) =
    omega (arith, lines_some before, length-append (lines_text before) (text_line l), line-some (line_words l))

-- each line of a workload has a byte at least
pub front_some : {text rest : List ℕ} {w : Workload} {lines : ℕ} → ReadsFront text w lines rest
    → lines + length rest ≤ length text
front_some {text} {rest} {w} {lines} front = omega (
  arith,
  front.number,
  lines_some front.before,
  ap length front.text_is,
  length-append (lines_text front.before) rest,
)
