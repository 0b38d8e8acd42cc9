-- The marks of the processes below one are its rank.
use Rattle.std.proofs.Common.{◌≡◌, ℕ, ◌-◌, min, List, length, subst, ap, sym, ◌∙◌, arith}
use Rattle.std.specs.Prelude.{filter}
use Rattle.std.specs.List.{range_with_len}
use Rattle.split_types.specs.Sets.{IsSet}
use Rattle.split_types.specs.Share.{rank}
use Rattle.split_types.proofs.Shared.{rank-below}
use Rattle.cause_set.specs.Marks.{is_marked}
use Rattle.cause_set.proofs.Marks.{marked-is_set}
use Rattle.cause_set.proofs.Counts.{rank-marked}
use Rattle.cause_set.proofs.causes.Causes.rank.Goals as goal

pub returns-clause-value : goal.returns-clause-value
returns-clause-value c =
    let before : c.min.result ≡ min (c.args.p.0 - 1) 256 = omega (arith, c.min.ensures, c.saturating_sub.ensures) in
    c.marks_below.ensures ∙ ap (λ n. length (filter (is_marked c.self.inside.marks) (range_with_len 1 n))) before
    ∙ sym (rank-marked c.self.inside.marks c.args.p.0) ∙ ap (λ s. rank s c.args.p.0) c.self.view_is

pub returns-clause-below : goal.returns-clause-below
returns-clause-below c = λ h. rw (returns-clause-value c) (rank-below c.args.self.now c.args.p.0 h)

pub returns-clause-rising : goal.returns-clause-rising
returns-clause-rising c =
    let P : List ℕ → Type 0 = λ s. IsSet s in subst P c.self.view_is (marked-is_set c.self.inside.marks)
