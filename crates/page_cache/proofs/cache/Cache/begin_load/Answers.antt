use Rattle.std.proofs.Common.{◌∙◌, ap, sym, arith}
use Rattle.page_cache.specs.Cached.{Cached}
use Rattle.page_cache.proofs.MoreLaws.{key-buf, key-number, key-there}
use Rattle.page_cache.proofs.WriteLaws.{begins}
use Rattle.page_cache.proofs.cache.Cache.begin_load.Goals as goal

pub unwrap-requires : goal.unwrap-requires
unwrap-requires g c = rw c.of.ensures (key-there c.args.b c.requires.page)

pub enter-requires-clause-absent : goal.enter-requires-clause-absent
enter-requires-clause-absent g c =
    rw (c.in_ok-room.ensures.rest, key-buf c.args.b c.unwrap.result (sym c.of.ensures ∙ c.unwrap.ensures))
    c.requires.absent

pub enter-requires-clause-number : goal.enter-requires-clause-number
enter-requires-clause-number g c = key-number c.args.b c.unwrap.result (sym c.of.ensures
    ∙ c.unwrap.ensures) c.requires.page

pub enter-requires-clause-free : goal.enter-requires-clause-free
enter-requires-clause-free g c = rw c.in_ok-room.ensures.rest c.requires.free

pub returns-clause-ok : goal.returns-clause-ok
returns-clause-ok g c =
    begins c.args.self.now c.room.new.self c.enter.new.self c.args.b c.args.by c.unwrap.result c.enter.result
    c.in_ok-room.ensures.rest
    (sym c.of.ensures ∙ c.unwrap.ensures) c.requires.absent c.enter.ensures

pub returns-clause-spare : goal.returns-clause-spare
returns-clause-spare g c =
    let spent = ap (λ (v : Cached). v.spare) c.enter.ensures.is in omega (arith, spent, c.in_ok-room.ensures.spare)
