use Rattle.std.proofs.Common.{arith}
use Rattle.page_cache.proofs.PatchLaws.{sum-between}
use Rattle.page_cache.proofs.patch.Patch.sum.Goals as goal

pub overflow_sub-result : goal.overflow_sub-result
overflow_sub-result c =
    let sums = sum-between c.args.self.now c.args.from c.args.to c.requires.order in
    omega (arith, sums, c.sum_up_to.ensures, c.sum_up_to-2.ensures)

pub returns : goal.returns
returns c =
    let sums = sum-between c.args.self.now c.args.from c.args.to c.requires.order in
    omega (arith, sums, c.sum_up_to.ensures, c.sum_up_to-2.ensures)
