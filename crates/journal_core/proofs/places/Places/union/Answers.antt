use Rattle.std.proofs.Common.{◌<◌, ◌∙◌, length, ap, sym, arith}
use Rattle.cause_set.specs.Tags.{same}
use Rattle.journal_core.specs.Causes.{causes_in, causes_at, whole_of}
use Rattle.journal_core.specs.Places.{blocks_of}
use Rattle.journal_core.proofs.CauseLaws.{whole-some, made-some}
use Rattle.journal_core.proofs.PlaceLaws.{blocks-map}
use Rattle.journal_core.proofs.SameLaws.{causes_at-same}
use Rattle.journal_core.proofs.places.Places.union.Goals as goal

pub unwrap-requires : goal.unwrap-requires
unwrap-requires g c =
    let number = g.S.TagStore.number in
    let old = g.S.TagStore.now c.args.tags.now in
    let new = g.S.TagStore.now c.union.new.tags in
    let places = c.self.inside.tags.items in
    let some : 0 < length (blocks_of (causes_at number old places)) =
    omega (
      arith,
      c.requires.some,
      ap (λ xs. length (blocks_of xs)) c.self.view_is,
      ap length (blocks-map number 1 places),
      ap length (blocks-map (λ t. old.members (number t)) 1 places),
    ) in
    made-some number new c.in_ok-made.made (whole_of (causes_at number old places))
    (c.in_ok-made.ensures.set ∙ ap (λ xs. whole_of (causes_at number old xs)) c.deref.ensures.value)
    (whole-some (causes_at number old places) some)

pub returns-clause-set : goal.returns-clause-set
returns-clause-set g c =
    let number = g.S.TagStore.number in
    let old = g.S.TagStore.now c.args.tags.now in
    let new = g.S.TagStore.now c.union.new.tags in
    let places = c.self.inside.tags.items in
    ap (causes_in number new) (sym c.unwrap.ensures) ∙ c.in_ok-made.ensures.set
    ∙ ap (λ xs. whole_of (causes_at number old xs)) c.deref.ensures.value
    ∙ ap whole_of (sym (causes_at-same number old places)) ∙ ap (λ xs. whole_of (causes_at same old xs)) c.self.view_is
