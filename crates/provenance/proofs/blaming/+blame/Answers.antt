-- The parents come before the event, and their causes are gathered one by one.
use Rattle.std.proofs.Common.{◌≡◌, ◌<◌, ℕ, [], ◌∷◌, length, get_or, arith, refl, ap, ◌∙◌}
use Rattle.split_types.specs.Sets.{union_of}
use Rattle.split_types.specs.Blame.{own_blame}
use Rattle.provenance.proofs.Blames.{own-alone, parent-more, all-parents, parent-below}
use Rattle.provenance.proofs.blaming.+blame.Goals as goal

pub loop-parent-init : goal.loop-parent-init
loop-parent-init g t c = own-alone (own_blame c.at-e.result) c.own-causes.result c.own-causes.ensures

pub blame-requires : goal.blame-requires
blame-requires g t c κs within =
    let items = c.as_slice-parent-items.result.now in
    let j : ℕ = get_or items c.loop-parent.parent-index 0 in
    let low : j < c.args.i =
    parent-below c.args.h.now.events c.at-e.result c.args.i c.loop-parent.parent-index j items
    c.at-e.ensures.event (c.as_slice-parent-items.ensures ∙ c.in_ok-parents.ensures) c.loop-parent-test.true refl in
    (omega arith, (within, (omega arith, c.requires.short)))

pub loop-parent-preserved : goal.loop-parent-preserved
loop-parent-preserved g t c =
    let items = c.as_slice-parent-items.result.now in
    let j : ℕ = get_or items c.loop-parent.parent-index 0 in
    parent-more c.args.h.now.events items c.loop-parent.parent-index j c.own-causes.result c.loop-parent.causes
    c.union-causes.result
    c.loop-parent.invariant c.loop-parent-test.true refl
    (c.union-causes.ensures ∙ ap (λ b. union_of (c.loop-parent.causes ∷ b ∷ [])) c.in_ok-blame.ensures)

pub returns : goal.returns
returns g t c =
    let items = c.as_slice-parent-items.result.now in
    let full : c.loop-parent.parent-index ≡ length items = omega arith in
    all-parents c.args.h.now.events c.at-e.result c.args.i c.loop-parent.parent-index items c.own-causes.result
    c.loop-parent.causes
    c.at-e.ensures.event (c.as_slice-parent-items.ensures
    ∙ c.in_ok-parents.ensures) c.own-causes.ensures full c.loop-parent.invariant
