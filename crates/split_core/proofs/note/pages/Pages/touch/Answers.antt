-- A page that isn't held stays as it is.
use Rattle.std.proofs.Common.{sym, ◌∙◌, refl, is_some}
use Rattle.std.proofs.lemmas.Bool.{both_ways}
use Rattle.page_cache.specs.Cached.{page_of}
use Rattle.split_core.proofs.PageStart.{found_loaded}
use Rattle.split_core.proofs.note.pages.Pages.touch.Goals as goal

pub get-sum-requires-clause-page : goal.get-sum-requires-clause-page
get-sum-requires-clause-page c =
    found_loaded (page_of c.args.self.now.cache c.args.b) (sym c.holds.ensures ∙ c.if-holds.true) c.requires.loaded

pub returns-then-holds : goal.returns-then-holds
returns-then-holds c = record {
  rest = c.get-sum.ensures.rest;
  touched = λ is. c.get-sum.ensures.touched;
  still = λ out. absurd (both_ways (is_some (page_of c.args.self.now.cache c.args.b)) out
      (sym c.holds.ensures ∙ c.if-holds.true));
}

pub returns-else-holds : goal.returns-else-holds
returns-else-holds c = record {
  rest = refl;
  touched = λ is. absurd (both_ways (is_some (page_of c.args.self.now.cache c.args.b))
      (sym c.holds.ensures ∙ c.if-holds.false) is);
  still = λ no. refl;
}
