use Rattle.std.proofs.Common.{◌+◌, length, length-append, replicate, ap, arith}
use Rattle.std.specs.Prelude.{vec_len}
use Rattle.std.proofs.lemmas.List.{length-replicate}
use Rattle.page_cache.proofs.ContentLaws.{resized}
use Rattle.page_cache.proofs.bytes.append.Goals as goal

pub returns-clause-items : goal.returns-clause-items
returns-clause-items c =
    resized c.resize.result c.args.run.now.items c.resize.new.self.items (vec_len c.args.run.now)
    (c.len.result + c.args.count) c.args.count c.args.byte c.resize.ensures.items
    (c.resize.ensures.succeeds (omega (arith, c.len.ensures, c.requires))) (omega (arith, c.len.ensures))
    c.args.run.now.ok.0

pub returns-clause-len : goal.returns-clause-len
returns-clause-len c =
    let items = resized c.resize.result c.args.run.now.items c.resize.new.self.items (vec_len c.args.run.now)
    (c.len.result + c.args.count) c.args.count c.args.byte c.resize.ensures.items
    (c.resize.ensures.succeeds (omega (arith, c.len.ensures, c.requires))) (omega (arith, c.len.ensures))
    c.args.run.now.ok.0 in
    omega (
      arith,
      c.resize.new.self.ok.0,
      ap length items,
      length-append c.args.run.now.items (replicate c.args.count c.args.byte),
      length-replicate c.args.count c.args.byte,
      c.args.run.now.ok.0,
    )
