-- A page that isn't loading stays as it is.
use Rattle.std.proofs.Common.{◌≡◌, true, refl, sym, subst, ◌∙◌, List, ℕ}
use Rattle.std.specs.Option.{option_map}
use Rattle.std.proofs.lemmas.Bool.{both_ways}
use Rattle.split_types.specs.declared.buf.Buf.{Buf}
use Rattle.sim_disk.specs.Bytes.{filled}
use Rattle.page_cache.specs.Cached.{Cached, page_of, is_loading}
use Rattle.page_cache.specs.Changes.{ChangesOnly, Touches, loaded}
use Rattle.split_core.specs.Pages.{Loads}
use Rattle.split_core.proofs.note.pages.Pages.load.Goals as goal

loads_now : (old new : Cached) (b : Buf) (bytes : List ℕ) → is_loading (page_of old b) ≡ true
    → ChangesOnly old new b (option_map (loaded bytes) (page_of old b)) → Touches old new b → Loads old new b bytes
loads_now old new b bytes loading page touched = record {
  page = λ is. page;
  touched = λ is. touched;
  still = λ out. absurd (both_ways (is_loading (page_of old b)) out loading);
}

pub load-requires-clause-loading : goal.load-requires-clause-loading
load-requires-clause-loading c = sym c.is_loading.ensures ∙ c.if-not-is_loading.false

pub load_filled-requires : goal.load_filled-requires
load_filled-requires c = sym c.is_loading.ensures ∙ c.if-not-is_loading.false

pub returns-then-not-is_loading : goal.returns-then-not-is_loading
returns-then-not-is_loading c =
    let out = sym c.is_loading.ensures ∙ c.if-not-is_loading.true
    in record {
      page = λ is. absurd (both_ways (is_loading (page_of c.args.self.now.cache c.args.b)) out is);
      touched = λ is. absurd (both_ways (is_loading (page_of c.args.self.now.cache c.args.b)) out is);
      still = λ no. refl;
    }

pub returns-in-Some : goal.returns-in-Some
unfolding filled
returns-in-Some c =
    subst (Loads c.args.self.now.cache c.load_filled.new.self c.args.b) (sym c.in-Some.ensures)
    (loads_now c.args.self.now.cache c.load_filled.new.self c.args.b _
    (sym c.is_loading.ensures ∙ c.if-not-is_loading.false) c.load_filled.ensures.page c.load_filled.ensures.touched)

pub returns-in-None : goal.returns-in-None
returns-in-None c =
    subst (Loads c.args.self.now.cache c.load.new.self c.args.b) c.read.ensures.bytes
    (loads_now c.args.self.now.cache c.load.new.self c.args.b _
    (sym c.is_loading.ensures ∙ c.if-not-is_loading.false) c.load.ensures.page c.load.ensures.touched)
