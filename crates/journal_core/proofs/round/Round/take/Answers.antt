use Rattle.std.proofs.Common.{◌≡◌, ◌∙◌, length, replicate, None, ap, sym, subst, arith}
use Rattle.cause_set.specs.Tags.{Moved, no_use, same, numbers, held}
use Rattle.cause_set.proofs.TagLaws.{held-same}
use Rattle.journal_core.specs.Causes.{Covered, causes_at, joined_all}
use Rattle.journal_core.specs.Places.{blocks_of}
use Rattle.journal_core.proofs.SameLaws.{swap-moved, swap-causes, causes_at-same}
use Rattle.journal_core.proofs.round.Round.take.Goals as goal

pub list_blocks-requires-clause-few : goal.list_blocks-requires-clause-few
list_blocks-requires-clause-few g c =
    let made : length c.deref-2.result.now ≡ length c.join_all.new.into.items =
    ap length (c.deref-2.ensures.value ∙ ap (λ v. v.items) c.swap.ensures.x_after) in
    omega (arith, made, c.in_ok-join_all.ensures.len, ap length c.deref.ensures.value, c.self.invariant.few)

pub list_blocks-requires-clause-room : goal.list_blocks-requires-clause-room
list_blocks-requires-clause-room g c =
    let made : length c.deref-2.result.now ≡ length c.join_all.new.into.items =
    ap length (c.deref-2.ensures.value ∙ ap (λ v. v.items) c.swap.ensures.x_after) in
    omega (arith, made, c.in_ok-join_all.ensures.len, ap length c.deref.ensures.value, c.self.invariant.enough)

pub invariant_of-self-2 : goal.invariant_of-self-2
invariant_of-self-2 g c =
    let r = c.self.inside in
    let made : c.swap.new.x.items ≡ c.join_all.new.into.items = ap (λ v. v.items) c.swap.ensures.x_after in
    let was : c.swap.new.y.items ≡ r.tags.items = ap (λ v. v.items) c.swap.ensures.y_after in
    let len : length c.swap.new.x.items ≡ length r.tags.items =
    ap length made ∙ c.in_ok-join_all.ensures.len ∙ ap length c.deref.ensures.value in
    record {
      few = omega (arith, len, c.self.invariant.few);
      empty = c.free_all.ensures.places ∙ ap (λ n. replicate n None) (ap length was ∙ sym len);
      enough = omega (arith, len, c.self.invariant.enough, c.list_blocks.ensures.room);
      left = c.list_blocks.ensures.blocks ∙ ap blocks_of c.deref-2.ensures.value;
      within = omega arith;
    }

pub returns-clause-moved : goal.returns-clause-moved
returns-clause-moved g c =
    let number = g.S.TagStore.number in
    let r = c.self.inside in
    let old = g.S.TagStore.now c.args.tags.now in
    let mid = g.S.TagStore.now c.join_all.new.tags in
    let new = g.S.TagStore.now c.free_all.new.tags in
    let made : c.swap.new.x.items ≡ c.join_all.new.into.items = ap (λ v. v.items) c.swap.ensures.x_after in
    let was : c.swap.new.y.items ≡ r.tags.items = ap (λ v. v.items) c.swap.ensures.y_after in
    let freed : Moved mid new (held number r.tags.items) no_use =
    subst (λ xs. Moved mid new (held number xs) no_use) was c.free_all.ensures.moved in
    rw made
    (subst (λ xs. Moved old new (held same xs) (held same (numbers number c.join_all.new.into.items))) c.self.view_is
    (swap-moved number old mid new r.tags.items c.join_all.new.into.items c.join_all.ensures.moved freed))

pub returns-clause-set : goal.returns-clause-set
returns-clause-set g c =
    let number = g.S.TagStore.number in
    let r = c.self.inside in
    let old = g.S.TagStore.now c.args.tags.now in
    let mid = g.S.TagStore.now c.join_all.new.tags in
    let new = g.S.TagStore.now c.free_all.new.tags in
    let made : c.swap.new.x.items ≡ c.join_all.new.into.items = ap (λ v. v.items) c.swap.ensures.x_after in
    let was : c.swap.new.y.items ≡ r.tags.items = ap (λ v. v.items) c.swap.ensures.y_after in
    let freed : Moved mid new (held number r.tags.items) no_use =
    subst (λ xs. Moved mid new (held number xs) no_use) was c.free_all.ensures.moved in
    let covers : Covered (held number r.tags.items) old =
    λ n. omega (arith, c.requires.uses n, held-same number r.tags.items n, ap (λ xs. held same xs n) c.self.view_is) in
    let joins : causes_at number mid c.join_all.new.into.items
    ≡ joined_all (causes_at same old c.args.self.now) (causes_at number old c.args.marks.now) =
    c.in_ok-join_all.ensures.set
    ∙ ap (λ xs. joined_all (causes_at number old xs) (causes_at number old c.args.marks.now)) c.deref.ensures.value
    ∙ ap (λ xs. joined_all xs (causes_at number old c.args.marks.now))
    (sym (causes_at-same number old r.tags.items) ∙ ap (causes_at same old) c.self.view_is) in
    rw made
    (swap-causes number old mid new r.tags.items c.join_all.new.into.items
    (joined_all (causes_at same old c.args.self.now) (causes_at number old c.args.marks.now)) covers
    c.join_all.ensures.moved freed joins)
