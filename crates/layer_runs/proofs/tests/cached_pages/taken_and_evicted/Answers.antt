-- The page that was written is taken out, and is busy then.
use Rattle.std.proofs.Common.{◌≡◌, ◌∙◌, ℕ, ◌+◌, Option, None, Some, true, ap, refl, subst, arith}
use Rattle.std.specs.Option.{option_map}
use Rattle.split_types.specs.declared.buf.Buf.TheVariants.{Page}
use Rattle.cause_set.proofs.TagLaws.{one_use-same}
use Rattle.page_cache.specs.Held.{Held}
use Rattle.page_cache.specs.Cached.{page_of, is_ready, is_busy}
use Rattle.page_cache.specs.Changes.{IsReady, taken_among}
use Rattle.layer_runs.proofs.tests.cached_pages.taken_and_evicted.Goals as goal

busy : (x : Option Held) → is_ready x ≡ true
    → is_busy (option_map (taken_among (record { 0 = 0 }) 3 1 (Page (record { 0 = 0 }) 3)) x) ≡ true
busy None ready = absurd (cc ready)
busy (Some p) ready = refl

pub take_out-requires-clause-ready : goal.take_out-requires-clause-ready
take_out-requires-clause-ready g c =
    λ k less.
    let zero : 0 ≡ k = omega (arith, less) in
    subst (λ (j : ℕ). IsReady c.in_ok-cache.cache (Page (record { 0 = 0 }) (3 + j))) zero c.in_ok-cache.ensures.ready

pub release-requires : goal.release-requires
release-requires g c =
    let by = g.S.TagStore.number c.in_ok-bytes.tag in
    omega (arith, c.in_ok-bytes.ensures.moved.uses by, c.in_ok-cache.ensures.covers by, one_use-same by)

pub written-requires : goal.written-requires
written-requires g c =
    let b = Page (record { 0 = 0 }) 3 in
    ap (λ (x : Option Held). is_busy x) (c.in_ok-bytes.ensures.pages.pages b)
    ∙ busy (page_of c.in_ok-cache.cache b) c.in_ok-cache.ensures.ready
