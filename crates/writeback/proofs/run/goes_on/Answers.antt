-- A page that is dirty and not busy has a number that a page of a file can have.
use Rattle.std.proofs.Common.{◌+◌, sym, ◌∙◌}
use Rattle.writeback.proofs.run.goes_on.Goals as goal

pub map_of-requires-clause-page : goal.map_of-requires-clause-page
map_of-requires-clause-page g c =
    let start = c.args.start.now in
    c.requires.serve.numbers start.serial (start.page + c.args.k) (sym c.is_ready.ensures ∙ c.if-is_ready.true)
