-- Laws of the stages of commit: what a request that comes next tells of them, and what is kept.
use Rattle.std.proofs.Common.{◌≡◌, ℕ, ◌+◌, ◌-◌, ◌<◌, ◌≤◌, Bool, true, false, Option, Some, None, length, refl, ap, sym, subst, arith}
use Rattle.std.specs.Prelude.{IsSome, IfSome, IsTrue, not, nat_lt, ◌==◌, ◌&&◌, ◌||◌, if◌then◌else◌}
use Rattle.std.proofs.lemmas.Bool.{false≢true}
use Rattle.std.proofs.lemmas.Bool.Decides.{nat_tests}
use Rattle.split_types.specs.declared.ids.Txn.{Txn}
use Rattle.split_types.specs.declared.request.ReqKind.{ReqKind}
use Rattle.split_types.specs.declared.request.ReqKind.TheVariants as kind
use Rattle.proxies.specs.declared.commit.Commit.{Commit}
use Rattle.proxies.specs.declared.commit.Commit.TheVariants.{Idle, Log, Marking, Homes, Clear}
use Rattle.journal_core.specs.declared.work.Due.{Due}
use Rattle.journal_core.specs.declared.work.Work.{Work}
use Rattle.journal_core.specs.Work.{txn, begun, one_more, added_work, done_work, cleared_slot, alone, due_in, slot_in, is_idle, FitsStage, IsWork}
use Rattle.journal_core.specs.Journaled.{Journaled, next_due, next_home, goes_home, marked_count, first_used, IsOf, IsUnderWay}
use Rattle.journal_core.proofs.PlaceLaws.{some-left}

some-true : (b : Bool) (due : Due) → IsSome (if b then Some due else None) → b ≡ true
some-true true due some = refl
some-true false due some = absurd (false≢true some)

is-zero : (n : ℕ) → (n == 0) ≡ true → n ≡ 0
is-zero n is = grind (arith, nat_tests)

-- a request that is added alone has none before it
alone-first : (unfinished : ℕ) (k : ReqKind) (first n : ℕ) → IsSome (alone unfinished k first n) → unfinished ≡ 0
alone-first unfinished k first n some =
    is-zero unfinished (some-true (unfinished == 0) (record { kind = k; first = first; n = n }) some)

-- a request about no slot has a home
stage-home : (stage : Commit ℕ) (unfinished logged : ℕ) (home : Option ℕ) → slot_in stage ≡ None
    → IsSome (due_in stage unfinished logged home) → IsSome home
stage-home Idle unfinished logged home is some = absurd (false≢true some)
stage-home (Log t slot) unfinished logged home is some = cc
stage-home (Marking t slot) unfinished logged home is some = cc
stage-home (Homes t slot added) unfinished logged None is some = some
stage-home (Homes t slot added) unfinished logged (Some block) is some = refl
stage-home (Clear t slot) unfinished logged home is some = cc

due-some : (b : Bool) (due : Option Due) → IsSome (if b then None else due) → IsSome due
due-some true due some = absurd (false≢true some)
due-some false due some = some

pub due-next : {C : Type 0} (j : Journaled C) (all : Bool) → IsSome (next_due j all)
    → IsSome (due_in (begun j.work) j.work.unfinished (length j.logged) (next_home j))
due-next j all some = due-some (is_idle j.work.stage && not (goes_home j all))
    (due_in (begun j.work) j.work.unfinished (length j.logged) (next_home j)) some

pub due-home : {C : Type 0} (j : Journaled C) → IsSome (next_due j true) → slot_in (begun j.work) ≡ None
    → IsSome (next_home j)
due-home j some is = stage-home (begun j.work) j.work.unfinished (length j.logged) (next_home j) is
    (due-next j true some)

-- what holds of a stage holds when its next request was added
fits-added : (stage : Commit ℕ) (unfinished sealed committed used more after logged : ℕ) (home : Option ℕ)
    → (let w : Work = record {
      stage = stage;
      unfinished = unfinished;
      sealed = sealed;
      committed = committed;
      used =
          used;
    } in
    FitsStage more w stage → 1 ≤ used → more ≤ 261 → (slot_in (begun w) ≡ None → after + 1 ≡ more)
    → IsSome (due_in (begun w) unfinished logged home) → FitsStage after (added_work w) (one_more (begun w)))
fits-added Idle unfinished sealed committed used more after logged home fits some few less due =
    (omega (arith, some), omega (arith, few, less refl), omega (arith, fits))
fits-added (Log t slot) unfinished sealed committed used more after logged home fits some few less due =
    let none = alone-first unfinished _ _ _ due in (fits.0, fits.1, omega (arith, none))
fits-added (Marking t slot) unfinished sealed committed used more after logged home fits some few less due =
    let none = alone-first unfinished _ _ _ due in (fits.0, fits.1, omega (arith, none))
fits-added (Homes t slot added) unfinished sealed committed used more after logged home fits some few less due =
    (fits.0, omega (arith, fits.1, less refl), omega (arith, fits.2))
fits-added (Clear t slot) unfinished sealed committed used more after logged home fits some few less due =
    let none = alone-first unfinished _ _ _ due in (fits.0, fits.1, omega (arith, none))

pub work-added : (w : Work) (more after logged : ℕ) (home : Option ℕ) → IsWork more w → 1 ≤ w.used → more ≤ 261
    → (slot_in (begun w) ≡ None → after + 1 ≡ more) → IsSome (due_in (begun w) w.unfinished logged home)
    → IsWork after (added_work w)
work-added w more after logged home is some few less due = record {
  few = is.few;
  counted = is.counted;
  fits = is.fits;
  stage = fits-added w.stage w.unfinished w.sealed w.committed w.used more after logged home is.stage some few less due;
}

-- the first slot that is used stays when a request is added
used-of : (stage : Commit ℕ) (unfinished sealed committed used : ℕ)
    → (let w : Work = record {
      stage = stage;
      unfinished = unfinished;
      sealed = sealed;
      committed = committed;
      used =
          used;
    } in
    first_used (one_more (begun w)) ≡ first_used stage)
used-of Idle unfinished sealed committed used = refl
used-of (Log t slot) unfinished sealed committed used = refl
used-of (Marking t slot) unfinished sealed committed used = refl
used-of (Homes t slot added) unfinished sealed committed used = refl
used-of (Clear t slot) unfinished sealed committed used = refl

pub used-added : (w : Work) → first_used (one_more (begun w)) ≡ first_used w.stage
used-added w = used-of w.stage w.unfinished w.sealed w.committed w.used

-- what a seal needs
pub idle-first : (stage : Commit ℕ) → is_idle stage ≡ true → first_used stage ≡ 0
idle-first Idle is = refl
idle-first (Log t slot) is = absurd (false≢true is)
idle-first (Marking t slot) is = absurd (false≢true is)
idle-first (Homes t slot added) is = absurd (false≢true is)
idle-first (Clear t slot) is = absurd (false≢true is)

pub all-three : (a b c : Bool) → IsTrue (a && b && c) → (a ≡ true) × (b ≡ true) × (c ≡ true)
all-three true true true is = (refl, refl, refl)
all-three true true false is = absurd (false≢true is)
all-three true false c is = absurd (false≢true is)
all-three false b c is = absurd (false≢true is)

-- a request comes next where some slot is used
used-from : (stage : Commit ℕ) (more : ℕ) (w : Work) → FitsStage more w stage → (is_idle stage ≡ true → 1 ≤ w.used)
    → 1 ≤ w.used
used-from Idle more w fits idle = idle refl
used-from (Log t slot) more w fits idle = omega (arith, fits.1)
used-from (Marking t slot) more w fits idle = omega (arith, fits.1)
used-from (Homes t slot added) more w fits idle = omega (arith, fits.0)
used-from (Clear t slot) more w fits idle = omega (arith, fits.1)

none-false : (b : Bool) (due : Option Due) → IsSome (if b then None else due) → b ≡ false
none-false true due some = absurd (false≢true some)
none-false false due some = refl

home-goes : (a b c : Bool) → a ≡ true → (a && not (b && c)) ≡ false → b ≡ true
home-goes true true c idle none = refl
home-goes true false c idle none = sym none
home-goes false b c idle none = absurd (false≢true idle)

pub due-used : {C : Type 0} (j : Journaled C) (more : ℕ) → IsWork more j.work → IsSome (next_due j true)
    → 1 ≤ j.work.used
due-used j more is some =
    used-from j.work.stage more j.work is.stage
    (λ idle.
    some-left j.work.used
    (home-goes (is_idle j.work.stage) (nat_lt 0 j.work.used) (j.work.used == length j.slots
    || (true && marked_count j == 0)) idle
    (none-false (is_idle j.work.stage && not (goes_home j true))
    (due_in (begun j.work) j.work.unfinished (length j.logged) (next_home j)) some)))

-- ---- a request is done

-- what a stage is after one of its requests, where no transaction is being cleared
pub record AreDone (more sealed used first : ℕ) (w : Work) : Type 0 where
  pub stage : FitsStage more w w.stage
  pub same_sealed : w.sealed ≡ sealed
  pub same_used : w.used ≡ used
  pub same_first : first_used w.stage ≡ first

homes-done : (b : Bool) (w : Work) (more added : ℕ) → (added + more ≤ 261) → w.unfinished ≤ added → (slot : ℕ)
    → slot + 1 ≡ w.used
    → w.used ≤ w.sealed → (t : Txn) → w.stage ≡ Homes t slot added
    → AreDone more w.sealed w.used 0
    (if b then record w { unfinished = w.unfinished - 1 } else
    record w { stage = Clear (txn (w.sealed + 1 - w.used)) 0; unfinished = 0 })
homes-done true w more added few waits slot last counted t is = record {
  stage = rw is (last, few, omega (arith, waits));
  same_sealed = refl;
  same_used = refl;
  same_first = rw is refl;
}
homes-done false w more added few waits slot last counted t is = record {
  stage = (omega (arith, counted), omega (arith, last), omega arith);
  same_sealed = refl;
  same_used = refl;
  same_first = refl;
}

done-by : (stage : Commit ℕ) (unfinished sealed committed used more : ℕ) (left : Bool)
    → (let w : Work = record {
      stage = stage;
      unfinished = unfinished;
      sealed = sealed;
      committed = committed;
      used =
          used;
    } in
    cleared_slot stage ≡ None → FitsStage more w stage → used ≤ sealed
    → AreDone more sealed used (first_used stage) (done_work left w))
done-by Idle unfinished sealed committed used more left none fits counted =
    record { stage = fits; same_sealed = refl; same_used = refl; same_first = refl }
done-by (Log t slot) unfinished sealed committed used more left none fits counted =
    record { stage = (fits.0, fits.1, omega arith); same_sealed = refl; same_used = refl; same_first = refl }
done-by (Marking t slot) unfinished sealed committed used more left none fits counted =
    record { stage = refl; same_sealed = refl; same_used = refl; same_first = refl }
done-by (Homes t slot added) unfinished sealed committed used more left none fits counted =
    homes-done (left || nat_lt 1 unfinished)
    (record {
      stage = Homes t slot added;
      unfinished = unfinished;
      sealed = sealed;
      committed = committed;
      used =
          used;
    }) more added fits.1 fits.2
    slot fits.0 counted t refl
done-by (Clear t slot) unfinished sealed committed used more left none fits counted = cc

pub work-done : (w : Work) (more : ℕ) (left : Bool) → cleared_slot w.stage ≡ None → IsWork more w
    → AreDone more w.sealed w.used (first_used w.stage) (done_work left w)
work-done w more left none is =
    done-by w.stage w.unfinished w.sealed w.committed w.used more left none is.stage is.counted

cleared-by : (stage : Commit ℕ) (w : Work) (more slot : ℕ) → cleared_slot stage ≡ Some slot → FitsStage more w stage
    → slot < w.used
cleared-by Idle w more slot is fits = cc
cleared-by (Log t s) w more slot is fits = cc
cleared-by (Marking t s) w more slot is fits = cc
cleared-by (Homes t s added) w more slot is fits = cc
cleared-by (Clear t s) w more slot is fits = let same : s ≡ slot = cc in omega (arith, same, fits.1)

pub cleared-used : (w : Work) (more slot : ℕ) → cleared_slot w.stage ≡ Some slot → IsWork more w → slot < w.used
cleared-used w more slot is kept = cleared-by w.stage w more slot is kept.stage

-- ---- what was added is under way

some-is : (b : Bool) (made due : Due) → (if b then Some made else None) ≡ Some due → made ≡ due
some-is true made due is = cc
some-is false made due is = cc

none-else : (b : Bool) (made : Option Due) (due : Due) → (if b then None else made) ≡ Some due → made ≡ Some due
none-else true made due is = cc
none-else false made due is = is

due-kind : (made due : Due) → made ≡ due → due.kind ≡ made.kind
due-kind made due is = ap (λ (d : Due). d.kind) (sym is)

due-first : (made due : Due) → made ≡ due → due.first ≡ made.first
due-first made due is = ap (λ (d : Due). d.first) (sym is)

stage-under : {C : Type 0} (j : Journaled C) (stage : Commit ℕ) (unfinished logged : ℕ) (home : Option ℕ) (due : Due)
    → due_in stage unfinished logged home ≡ Some due → IsOf j (one_more stage) due.kind due.first
stage-under j Idle unfinished logged home due is = cc
stage-under j (Log t slot) unfinished logged home due is =
    let made = some-is (unfinished == 0) _ due is in (due-kind _ due made, due-first _ due made)
stage-under j (Marking t slot) unfinished logged home due is =
    let made = some-is (unfinished == 0) _ due is in (due-kind _ due made, due-first _ due made)
stage-under j (Homes t slot added) unfinished logged None due is = cc
stage-under j (Homes t slot added) unfinished logged (Some block) due is =
    let made : Due = record { kind = kind.Home t; first = block; n = 1 } in due-kind made due cc
stage-under j (Clear t slot) unfinished logged home due is =
    let made = some-is (unfinished == 0) _ due is in (due-kind _ due made, due-first _ due made)

if-some : (made : Option Due) (P : Due → Type 0) → ((due : Due) → made ≡ Some due → P due) → IfSome made P
if-some None P each = tt
if-some (Some due) P each = each due refl

pub under-way : {C : Type 0} (j now : Journaled C) → now.work ≡ added_work j.work
    → IfSome (next_due j true) (λ due. IsUnderWay now due.kind due.first)
under-way j now is = if-some (next_due j true) (λ due. IsUnderWay now due.kind due.first) (λ due here. record {
  some = rw is (omega arith);
  of_stage =
      subst (λ (w : Work). IsOf now w.stage due.kind due.first) (sym is)
      (stage-under now (begun j.work) j.work.unfinished (length j.logged) (next_home j) due
      (none-else (is_idle j.work.stage && not (goes_home j true))
      (due_in (begun j.work) j.work.unfinished (length j.logged) (next_home j)) due here));
})
