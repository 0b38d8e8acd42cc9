-- Each write adds the next page of the file.
use Rattle.std.proofs.Common.{◌≡◌, ◌∙◌, ap, is_some, sym, arith}
use Rattle.split_types.specs.declared.buf.Buf.TheVariants.{Page}
use Rattle.layer_runs.proofs.WrittenPages.{may_be_written, holds_one_more, ready_is_held}
use Rattle.layer_runs.proofs.tests.served_runs.three_pages.Goals as goal

pub loop-page-init : goal.loop-page-init
loop-page-init g c = record {
  holds = record {
    limit = c.in_ok-cache.ensures.limit;
    held = c.in_ok-cache.ensures.none;
    pages = λ t k there. absurd (cc (sym there ∙ ap is_some (c.in_ok-cache.ensures.empty (Page t k))));
  };
  covers = λ n. omega (arith, c.in_ok-cache.ensures.tags n);
}

pub write-requires-clause-place : goal.write-requires-clause-place
write-requires-clause-place g c =
    may_be_written c.loop-page.cache c.args.s c.loop-page.page c.loop-page.invariant.holds (omega arith)

pub loop-page-preserved : goal.loop-page-preserved
loop-page-preserved g c = record {
  holds = holds_one_more _ _ _ _ _ _ _ _ _ _ c.loop-page.invariant.holds c.in_ok-write.ensures.ok;
  covers = λ n. omega (arith, c.write.ensures.moved.uses n, c.loop-page.invariant.covers n);
}

pub returns : goal.returns
returns g c = λ t k ready.
    let held = c.loop-page.invariant.holds.pages t k (ready_is_held c.loop-page.cache (Page t k) ready) in
    (held.0, omega (arith, held.1))
