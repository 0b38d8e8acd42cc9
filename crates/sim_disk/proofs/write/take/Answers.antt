-- The write at the place that was found is the request's, and the only one.
use Rattle.std.proofs.Common.{◌≡◌, Some, true, arith, sym, ◌∙◌, subst}
use Rattle.std.specs.List.{slice_get}
use Rattle.std.specs.Option.{IsSomeAnd}
use Rattle.std.proofs.lemmas.Grind.{common_steps}
use Rattle.std.proofs.lemmas.Option.{gets}
use Rattle.split_types.proofs.Lists.{filter_one}
use Rattle.sim_disk.specs.Medium.{is_of}
use Rattle.sim_disk.proofs.WriteLaws.{find_filtered}
use Rattle.sim_disk.proofs.write.take.Goals as goal

pub returns-clause-write : goal.returns-clause-write
returns-clause-write c =
    let writes = c.args.writes.now.items in
    let w = c.remove.result in
    let found = rw c.deref.ensures.value at c.place_of-at.ensures in
    let read : slice_get writes c.place_of-at.result ≡ Some w = grind (arith, common_steps, gets) in
    let passes : is_of c.args.id w ≡ true = subst (λ o. IsSomeAnd o (λ v. is_of c.args.id v ≡ true)) read found in
    find_filtered (is_of c.args.id) writes w _ (filter_one (is_of c.args.id)
    writes c.place_of-at.result w read passes c.requires.once).0

pub returns-clause-others : goal.returns-clause-others
returns-clause-others c =
    let writes = c.args.writes.now.items in
    let w = c.remove.result in
    let found = rw c.deref.ensures.value at c.place_of-at.ensures in
    let read : slice_get writes c.place_of-at.result ≡ Some w = grind (arith, common_steps, gets) in
    let passes : is_of c.args.id w ≡ true = subst (λ o. IsSomeAnd o (λ v. is_of c.args.id v ≡ true)) read found in
    c.remove.ensures.items ∙ sym (filter_one (is_of c.args.id)
    writes c.place_of-at.result w read passes c.requires.once).1
