-- The page that was written is taken out.
use Rattle.std.proofs.Common.{◌≡◌, ℕ, ◌+◌, subst, arith}
use Rattle.split_types.specs.declared.buf.Buf.TheVariants.{Page}
use Rattle.cause_set.proofs.TagLaws.{one_use-same}
use Rattle.page_cache.specs.Changes.{IsReady}
use Rattle.layer_runs.proofs.tests.cached_pages.tag_taken.Goals as goal

pub take_tag-requires-clause-ready : goal.take_tag-requires-clause-ready
take_tag-requires-clause-ready g c =
    λ k less.
    let zero : 0 ≡ k = omega (arith, less) in
    subst (λ (j : ℕ). IsReady c.in_ok-cache.cache (Page (record { 0 = 0 }) (3 + j))) zero c.in_ok-cache.ensures.ready

pub release-requires : goal.release-requires
release-requires g c =
    let by = g.S.TagStore.number c.in_ok-tag.tag in
    omega (arith, c.in_ok-tag.ensures.moved.uses by, c.in_ok-cache.ensures.covers by, one_use-same by)
