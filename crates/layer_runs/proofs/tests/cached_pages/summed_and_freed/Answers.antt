-- A page that is read keeps its tag, and no other page is held.
use Rattle.std.proofs.Common.{◌≡◌, ℕ, IsSome, ap, arith, subst}
use Rattle.split_types.specs.declared.buf.Buf.TheVariants.{Page}
use Rattle.cause_set.specs.Tags.{same, held}
use Rattle.page_cache.specs.Cached.{Cached, page_of, tags_in}
use Rattle.layer_runs.proofs.tests.cached_pages.summed_and_freed.Goals as goal

pub free-requires : goal.free-requires
free-requires g c =
    record {
      tags = λ n.
          let kept : held same (tags_in c.get-sum.new.self) n ≡ held same (tags_in c.in_ok-cache.cache) n =
          ap (λ (x : Cached). held same (tags_in x) n) c.get-sum.ensures.rest in
          omega (arith, kept, c.in_ok-cache.ensures.covers n);
      below = λ k there.
          let was : IsSome (page_of c.in_ok-cache.cache (Page (record { 0 = 0 }) k)) =
          subst (λ (x : Cached). IsSome (page_of x (Page (record { 0 = 0 }) k))) c.get-sum.ensures.rest there in
          omega (arith, c.in_ok-cache.ensures.alone k was);
    }
