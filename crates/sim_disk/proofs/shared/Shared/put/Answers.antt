use Rattle.std.proofs.Common.{◌≡◌, [], ◌-◌, map, get_or, arith, sym, subst, ap, ◌∙◌}
use Rattle.std.proofs.lemmas.List.{map-set}
use Rattle.sim_disk.specs.Shared.{IsMade, AreFilled}
use Rattle.sim_disk.proofs.SharedLaws.{made_here, made_still, made_more, some_left}
use Rattle.sim_disk.proofs.shared.Shared.put.Goals as goal

pub overflow_sub-self : goal.overflow_sub-self
overflow_sub-self c =
    let blocks = map (λ v. v.items) c.self.inside.blocks.items in
    let none : get_or blocks c.args.byte [] ≡ [] = ap (λ s. get_or s.blocks c.args.byte []) c.self.view_is ∙ c.requires.none in
    some_left blocks c.args.byte c.self.inside.left c.args.block.items c.self.invariant (omega arith) c.requires.block none

pub invariant_of-self : goal.invariant_of-self
invariant_of-self c =
    let blocks = map (λ v. v.items) c.self.inside.blocks.items in
    let none : get_or blocks c.args.byte [] ≡ [] = ap (λ s. get_or s.blocks c.args.byte []) c.self.view_is ∙ c.requires.none in
    subst (λ l. AreFilled l (c.self.inside.left - 1)) (sym (map-set (λ v. v.items) c.self.inside.blocks.items c.args.byte c.args.block))
    (made_more blocks c.args.byte c.self.inside.left c.args.block.items c.self.invariant (omega arith) c.requires.block none)

pub returns-clause-made : goal.returns-clause-made
returns-clause-made c =
    let blocks = map (λ v. v.items) c.self.inside.blocks.items in
    subst (λ l. IsMade l c.args.byte) (sym (map-set (λ v. v.items) c.self.inside.blocks.items c.args.byte c.args.block))
    (made_here blocks c.args.byte c.self.inside.left c.args.block.items c.self.invariant (omega arith) c.requires.block)

pub returns-clause-others : goal.returns-clause-others
returns-clause-others c = λ other made.
    let blocks = map (λ v. v.items) c.self.inside.blocks.items in
    subst (λ l. IsMade l other) (sym (map-set (λ v. v.items) c.self.inside.blocks.items c.args.byte c.args.block))
    (made_still blocks c.args.byte c.self.inside.left c.args.block.items c.self.invariant (omega arith) c.requires.block other
    (subst (λ s. IsMade s.blocks other) (sym c.self.view_is) made))
