-- The fields of a set.
use Rattle.std.specs.Prelude.{◌≡◌}
use Rattle.std.proofs.Common.{ap}
use Rattle.cause_set.specs.Marks.{marked, words_of, AreMarks}
use Rattle.cause_set.specs.declared.causes.Causes.TheInside.{Inside}

-- the fields that a set's processes give back
pub fields_back : (a : Inside) → AreMarks a.marks
    → (let b : Inside = record { marks = words_of (marked a.marks) } in b ≡ a)
fields_back a are = ap (λ marks. let b : Inside = record { marks = marks } in b) are
