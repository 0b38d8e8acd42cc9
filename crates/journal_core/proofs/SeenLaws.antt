-- Laws of a journal over a store: what its calls move, and what is seen of it afterwards.
use Rattle.std.proofs.Common.{◌≡◌, ℕ, ◌+◌, ◌<◌, ◌≤◌, List, length, get_or, set, replicate, Option, Some, None, refl, ap, ◌∙◌, arith}
use Rattle.std.specs.Prelude.{Result, Ok, Err, OnOk, OnErr}
use Rattle.std.proofs.lemmas.List.{map-set}
use Rattle.cause_set.specs.Tags.{Tags, Moved, no_use, one_use, same, use_in, held}
use Rattle.cause_set.proofs.TagLaws.{use_in-held, held-set, held-empty}
use Rattle.journal_core.specs.Causes.{Covered, causes_in, causes_at, wider, joined_all, whole_of}
use Rattle.journal_core.specs.Journaled.{Journaled, seen, held_by, with_mark}
use Rattle.journal_core.proofs.CauseLaws.{causes_at-keeps}

-- a call that was lent a store for a part
pub moved-part : (old new : Tags) (gone come others : ℕ → ℕ) → Moved old new gone come
    → Moved old new (λ n. gone n + others n) (λ n. come n + others n)
moved-part old new gone come others m =
    record { uses = λ n. omega (arith, m.uses n); keeps = λ n some. m.keeps n (omega (arith, some)) }

-- ---- a buffer is marked

pub marked-moved : (old new : Tags) (j : Journaled ℕ) (marks : List (Option ℕ))
    → Moved old new (held same j.marks) (held same marks)
    → Moved old new (held_by j) (held_by (record j { marks = marks }))
marked-moved old new j marks m =
    moved-part old new (held same j.marks) (held same marks) (λ n. held same j.round n + held same j.slots n) m

pub marked-seen : (old new : Tags) (j : Journaled ℕ) (marks : List (Option ℕ)) → Covered (held_by j) old
    → Moved old new (held same j.marks) (held same marks)
    → seen new (record j { marks = marks }) ≡ record (seen old j) { marks = causes_at same new marks }
marked-seen old new j marks covers m =
    let round : causes_at same new j.round ≡ causes_at same old j.round =
    causes_at-keeps same old new (held same j.marks) (held same marks) j.round m (λ n. omega (arith, covers n)) in
    let slots : causes_at same new j.slots ≡ causes_at same old j.slots =
    causes_at-keeps same old new (held same j.marks) (held same marks) j.slots m (λ n. omega (arith, covers n)) in
    rw (round, slots) refl

-- what a mark's answer says
pub marked-result : {X E : Type 0} (result : Result X E) (old new : Tags) (j : Journaled ℕ) (marks : List (Option ℕ))
    (at place : ℕ) (more : List ℕ)
    → at ≡ place → Covered (held_by j) old → Moved old new (held same j.marks) (held same marks)
    → OnOk result (causes_at same new marks ≡ set (causes_at same old j.marks) at
    (Some (wider (get_or (causes_at same old j.marks) at None) more)))
    → OnOk result (seen new (record j { marks = marks }) ≡ with_mark place more (seen old j))
marked-result (Ok x) old new j marks at place more here covers m set =
    marked-seen old new j marks covers m ∙ ap (λ xs. record (seen old j) { marks = xs }) set
    ∙ ap (λ p. with_mark p more (seen old j)) here
marked-result (Err e) old new j marks at place more here covers m set = tt

pub marked-same : {X E : Type 0} (result : Result X E) (j now : Journaled ℕ) (marks : List (Option ℕ)) → j ≡ now
    → OnErr result (marks ≡ j.marks) → OnErr result (record j { marks = marks } ≡ now)
marked-same (Ok x) j now marks is same = tt
marked-same (Err e) j now marks is same = ap (λ xs. record j { marks = xs }) same ∙ is

-- ---- a place is emptied

-- one place of a list is emptied, beside what else is held
pub freed-moved : (old new : Tags) (places : List (Option ℕ)) (at : ℕ) → at < length places
    → Moved old new (use_in same (get_or places at None)) no_use
    → Moved old new (held same places) (held same (set places at None))
freed-moved old new places at within m = record {
  uses = λ n. omega (arith, m.uses n, held-set same places at None n within);
  keeps = λ n some. m.keeps n (omega (arith, some, use_in-held same places at n));
}

pub freed-causes : (old new : Tags) (places : List (Option ℕ)) (at : ℕ) → at < length places
    → Covered (held same places) old
    → Moved old new (use_in same (get_or places at None)) no_use
    → causes_at same new (set places at None) ≡ set (causes_at same old places) at None
freed-causes old new places at within covers m =
    causes_at-keeps same old new (use_in same (get_or places at None)) no_use (set places at None) m
    (λ n. omega (arith, covers n, held-set same places at None n within))
    ∙ map-set (causes_in same old) places at None

-- what is held beside a place that is emptied
pub freed-beside : (old new : Tags) (places others : List (Option ℕ)) (at : ℕ)
    → ((n : ℕ) → held same places n + held same others n ≤ old.uses n)
    → Moved old new (use_in same (get_or places at None)) no_use
    → causes_at same new others ≡ causes_at same old others
freed-beside old new places others at covers m =
    causes_at-keeps same old new (use_in same (get_or places at None)) no_use others m
    (λ n. omega (arith, covers n, use_in-held same places at n))

pub carried-moved : (old new : Tags) (j : Journaled ℕ) (at : ℕ) → at < length j.round
    → Moved old new (use_in same (get_or j.round at None)) no_use
    → Moved old new (held_by j) (held_by (record j { round = set j.round at None }))
carried-moved old new j at within m =
    let part = freed-moved old new j.round at within m in
    record {
      uses = λ n. omega (arith, part.uses n);
      keeps = λ n some. part.keeps n (omega (arith, some));
    }

pub carried-seen : (old new : Tags) (j : Journaled ℕ) (at : ℕ) → at < length j.round → Covered (held_by j) old
    → Moved old new (use_in same (get_or j.round at None)) no_use
    → seen new (record j { round = set j.round at None })
    ≡ record (seen old j) { round = set (seen old j).round at None }
carried-seen old new j at within covers m =
    let marks : causes_at same new j.marks ≡ causes_at same old j.marks =
    freed-beside old new j.round j.marks at (λ n. omega (arith, covers n)) m in
    let round : causes_at same new (set j.round at None) ≡ set (causes_at same old j.round) at None =
    freed-causes old new j.round at within (λ n. omega (arith, covers n)) m in
    let slots : causes_at same new j.slots ≡ causes_at same old j.slots =
    freed-beside old new j.round j.slots at (λ n. omega (arith, covers n)) m in
    rw (marks, round, slots) refl

pub cleared-moved : (old new : Tags) (j : Journaled ℕ) (at : ℕ) → at < length j.slots
    → Moved old new (use_in same (get_or j.slots at None)) no_use
    → Moved old new (held_by j) (held_by (record j { slots = set j.slots at None }))
cleared-moved old new j at within m =
    let part = freed-moved old new j.slots at within m in
    record {
      uses = λ n. omega (arith, part.uses n);
      keeps = λ n some. part.keeps n (omega (arith, some));
    }

pub cleared-seen : (old new : Tags) (j : Journaled ℕ) (at : ℕ) → at < length j.slots → Covered (held_by j) old
    → Moved old new (use_in same (get_or j.slots at None)) no_use
    → seen new (record j { slots = set j.slots at None })
    ≡ record (seen old j) { slots = set (seen old j).slots at None }
cleared-seen old new j at within covers m =
    let marks : causes_at same new j.marks ≡ causes_at same old j.marks =
    freed-beside old new j.slots j.marks at (λ n. omega (arith, covers n)) m in
    let round : causes_at same new j.round ≡ causes_at same old j.round =
    freed-beside old new j.slots j.round at (λ n. omega (arith, covers n)) m in
    let slots : causes_at same new (set j.slots at None) ≡ set (causes_at same old j.slots) at None =
    freed-causes old new j.slots at within (λ n. omega (arith, covers n)) m in
    rw (marks, round, slots) refl

-- ---- a seal

-- The steps of a seal over a store: a tag for all marks, the round's tags joined with them, the marks given up, and the
-- tag put into a slot
pub record Seals (t0 t1 t2 t3 t4 : Tags) (c : ℕ) (marks round after slots : List (Option ℕ)) (used : ℕ) : Type 0 where
  pub within : used < length slots
  pub covers : (n : ℕ) → held same marks n + (held same round n + held same slots n) ≤ t0.uses n
  pub whole : Moved t0 t1 no_use (one_use c)
  pub causes : Some (t1.members c) ≡ whole_of (causes_at same t0 marks)
  pub joins : Moved t1 t2 (held same round) (held same after)
  pub joined : causes_at same t2 after ≡ joined_all (causes_at same t1 round) (causes_at same t1 marks)
  pub freed : Moved t2 t3 (held same marks) no_use
  pub placed : Moved t3 t4 (use_in same (get_or slots used None)) no_use

module _ (t0 t1 t2 t3 t4 : Tags) (c : ℕ) (marks round after slots : List (Option ℕ)) (used : ℕ)
    (s : Seals t0 t1 t2 t3 t4 c marks round after slots used) where
  slot-held : (n : ℕ) → held same (set slots used (Some c)) n + use_in same (get_or slots used None) n
      ≡ held same slots n + one_use c n
  slot-held n = held-set same slots used (Some c) n s.within

  pub sealed-moved : Moved t0 t4 (λ n. held same marks n + (held same round n + held same slots n))
      (λ n. held same (replicate (length marks) None) n + (held same after n + held same (set slots used (Some c)) n))
  sealed-moved = record {
    uses =
        λ n.
        omega (
          arith,
          s.whole.uses n,
          s.joins.uses n,
          s.freed.uses n,
          s.placed.uses n,
          slot-held n,
          held-empty same (length marks) n,
        );
    keeps =
        λ n some.
        s.placed.keeps n (omega (
          arith,
          some,
          s.whole.uses n,
          s.joins.uses n,
          s.freed.uses n,
          use_in-held same slots used n,
        ))
        ∙ s.freed.keeps n (omega (arith, some, s.whole.uses n, s.joins.uses n))
        ∙ s.joins.keeps n (omega (arith, some, s.whole.uses n))
        ∙ s.whole.keeps n (omega (arith, some));
  }

  pub sealed-round : causes_at same t4 after ≡ joined_all (causes_at same t0 round) (causes_at same t0 marks)
  sealed-round =
      let placed : causes_at same t4 after ≡ causes_at same t3 after =
      causes_at-keeps same t3 t4 (use_in same (get_or slots used None)) no_use after s.placed
      (λ n. omega (arith, s.covers n, s.whole.uses n, s.joins.uses n, s.freed.uses n, use_in-held same slots used n)) in
      let freed : causes_at same t3 after ≡ causes_at same t2 after =
      causes_at-keeps same t2 t3 (held same marks) no_use after s.freed (λ n.
      omega (arith, s.covers n, s.whole.uses n, s.joins.uses n)) in
      let first : causes_at same t1 round ≡ causes_at same t0 round =
      causes_at-keeps same t0 t1 no_use (one_use c) round s.whole (λ n. omega (arith, s.covers n)) in
      let second : causes_at same t1 marks ≡ causes_at same t0 marks =
      causes_at-keeps same t0 t1 no_use (one_use c) marks s.whole (λ n. omega (arith, s.covers n)) in
      placed ∙ freed ∙ s.joined ∙ ap (λ x. joined_all x (causes_at same t1 marks)) first
      ∙ ap (λ x. joined_all (causes_at same t0 round) x) second

  pub sealed-slots : causes_at same t4 (set slots used (Some c))
      ≡ set (causes_at same t0 slots) used (whole_of (causes_at same t0 marks))
  sealed-slots =
      let now = set slots used (Some c) in
      let placed : causes_at same t4 now ≡ causes_at same t3 now =
      causes_at-keeps same t3 t4 (use_in same (get_or slots used None)) no_use now s.placed
      (λ n. omega (arith, s.covers n, s.whole.uses n, s.joins.uses n, s.freed.uses n, slot-held n)) in
      let freed : causes_at same t3 now ≡ causes_at same t2 now =
      causes_at-keeps same t2 t3 (held same marks) no_use now s.freed
      (λ n. omega (arith, s.covers n, s.whole.uses n, s.joins.uses n, slot-held n)) in
      let joins : causes_at same t2 now ≡ causes_at same t1 now =
      causes_at-keeps same t1 t2 (held same round) (held same after) now s.joins
      (λ n. omega (arith, s.covers n, s.whole.uses n, slot-held n)) in
      let whole : causes_at same t1 slots ≡ causes_at same t0 slots =
      causes_at-keeps same t0 t1 no_use (one_use c) slots s.whole (λ n. omega (arith, s.covers n)) in
      placed ∙ freed ∙ joins ∙ map-set (causes_in same t1) slots used (Some c)
      ∙ ap (λ x. set x used (Some (t1.members c))) whole ∙ ap (λ x. set (causes_at same t0 slots) used x) s.causes
