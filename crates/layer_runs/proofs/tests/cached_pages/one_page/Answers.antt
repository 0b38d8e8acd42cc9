-- A page that was written into an empty cache is held, not loading, and dirty.
use Rattle.std.proofs.Common.{◌≡◌, ◌∙◌, Option, false, IsSomeAnd, Some, ap, sym, subst, refl, arith}
use Rattle.split_types.specs.declared.buf.Buf.TheVariants.{Page}
use Rattle.page_cache.specs.Held.{Held, state_in}
use Rattle.page_cache.specs.Cached.{page_of, is_ready}
use Rattle.page_cache.specs.Changes.{page_as, bytes_in}
use Rattle.page_cache.specs.Bytes.{filled}
use Rattle.layer_runs.proofs.WrittenPages.{only_page}
use Rattle.layer_runs.proofs.tests.cached_pages.one_page.Goals as goal

pub returns-clause-loaded : goal.returns-clause-loaded
returns-clause-loaded g c =
    let b = Page c.args.s 3 in
    let new = c.in_ok-cache.cache in
    let empty = c.in_ok-cache.ensures.empty b in
    let w = c.in_ok-write.ensures.ok in
    let bytes = filled (bytes_in (page_of new b)) 0 10 7 in
    let now = w.page.page ∙ ap (λ (p : Option Held). page_as b bytes (Some w.tag) (state_in p)) empty in
    subst (λ (p : Option Held). IsSomeAnd p (λ x. x.state.loading ≡ false)) (sym now) refl

pub returns-clause-ready : goal.returns-clause-ready
returns-clause-ready g c =
    let b = Page c.args.s 3 in
    let new = c.in_ok-cache.cache in
    let empty = c.in_ok-cache.ensures.empty b in
    let w = c.in_ok-write.ensures.ok in
    let bytes = filled (bytes_in (page_of new b)) 0 10 7 in
    let now = w.page.page ∙ ap (λ (p : Option Held). page_as b bytes (Some w.tag) (state_in p)) empty in
    ap (λ (p : Option Held). is_ready p) now

pub returns-clause-covers : goal.returns-clause-covers
returns-clause-covers g c = λ n. omega (arith, c.write.ensures.moved.uses n, c.in_ok-cache.ensures.tags n)

pub returns-clause-alone : goal.returns-clause-alone
returns-clause-alone g c =
    only_page c.in_ok-cache.cache c.write.new.self c.args.s 3 c.in_ok-cache.ensures.empty c.in_ok-write.ensures.ok.page.others
