-- A process is a set; any other number has none.
use Rattle.std.proofs.Common.{◌≡◌, ◌∷◌, [], arith, sym, ◌∙◌, false}
use Rattle.std.proofs.lemmas.Bool.Decides.{nat_tests}
use Rattle.split_types.specs.Sets.{pids, has}
use Rattle.split_types.proofs.Shared.{union-one, one-is_set, has-pids}
use Rattle.provenance.proofs.Strangers.{stranger}
use Rattle.provenance.proofs.blaming.set_of.Goals.{else-p-ge1-via-then-p-ge1+else-p-le256, else-p-ge1-via-else-p-ge1}
use Rattle.provenance.proofs.blaming.set_of.Goals as goal

pub returns-then-p-le256 : goal.returns-then-p-le256
returns-then-p-le256 c =
    c.one.ensures ∙ sym (union-one (c.args.p.0 ∷ []) (one-is_set c.args.p.0 c.if-p-ge1.true c.if-p-le256.true))

pub returns-else-p-ge1 : goal.returns-else-p-ge1
returns-else-p-ge1 c =
    let number = c.args.p.0 in
    let outside : has pids number ≡ false = elim c.else-p-ge1.branch [
      | else-p-ge1-via-then-p-ge1+else-p-le256 w ↦ grind (arith, nat_tests, has-pids number, w.if-p-le256)
      | else-p-ge1-via-else-p-ge1 w ↦ grind (arith, nat_tests, has-pids number, w.if-p-ge1)
    ] in
    c.none.ensures ∙ stranger number outside
