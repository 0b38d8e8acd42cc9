use Rattle.std.proofs.Common.{◌≡◌, ℕ, ◌+◌, cond, arith, sym, ◌∙◌}
use Rattle.slab.specs.Slab.{get}
use Rattle.sim_disk.specs.Runs.{uses_in, is_in}
use Rattle.sim_disk.proofs.RunLaws.{settled_kept, settled_blocks, settled_run}
use Rattle.sim_disk.proofs.runs.settle.Goals as goal

pub returns-clause-kept : goal.returns-clause-kept
returns-clause-kept c =
    let old = c.index-old.result.now in
    let uses : (k : ℕ) → uses_in (get c.leave.new.runs k) + cond (is_in k old) 1 0 ≡ uses_in
    (get c.args.runs.now k) + cond (is_in k c.args.p) 1 0 = λ k. c.leave.ensures.uses k
    ∙ c.enter.ensures.uses k in
    settled_kept c.args.places.now.items c.args.runs.now c.leave.new.runs c.args.b c.args.p old c.requires.kept
    (omega arith) (sym c.index-old.ensures) uses
    (λ k some. c.leave.ensures.bytes k some ∙ c.enter.ensures.bytes k) c.requires.within

pub returns-clause-blocks : goal.returns-clause-blocks
returns-clause-blocks c =
    let old = c.index-old.result.now in
    let uses : (k : ℕ) → uses_in (get c.leave.new.runs k) + cond (is_in k old) 1 0 ≡ uses_in
    (get c.args.runs.now k) + cond (is_in k c.args.p) 1 0 = λ k. c.leave.ensures.uses k
    ∙ c.enter.ensures.uses k in
    settled_blocks c.args.places.now.items c.args.runs.now c.leave.new.runs c.args.b c.args.p old c.requires.kept
    (omega arith) (sym c.index-old.ensures) uses
    (λ k some. c.leave.ensures.bytes k some ∙ c.enter.ensures.bytes k) c.requires.within

pub returns-clause-run : goal.returns-clause-run
returns-clause-run c =
    let old = c.index-old.result.now in
    let uses : (k : ℕ) → uses_in (get c.leave.new.runs k) + cond (is_in k old) 1 0 ≡ uses_in
    (get c.args.runs.now k) + cond (is_in k c.args.p) 1 0 = λ k. c.leave.ensures.uses k
    ∙ c.enter.ensures.uses k in
    settled_run c.args.places.now.items c.args.runs.now c.leave.new.runs c.args.b c.args.p old c.requires.kept
    (omega arith) (sym c.index-old.ensures) uses
    (λ k some. c.leave.ensures.bytes k some ∙ c.enter.ensures.bytes k) c.requires.within
