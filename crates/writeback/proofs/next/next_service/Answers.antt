-- The run begins at the first page of the cache that is dirty and not busy.
use Rattle.std.proofs.Common.{◌≡◌, ℕ, ◌∙◌, Bool, true, false, sym, ap, subst}
use Rattle.split_types.specs.declared.ids.Serial.{Serial}
use Rattle.small_fs.specs.Files.{Files}
use Rattle.page_cache.specs.Cached.{Cached}
use Rattle.page_cache.specs.Changes.{IsFirstReady}
use Rattle.writeback.specs.ServedRun.{goes_on}
use Rattle.writeback.proofs.RunLaws.{first_is_page}
use Rattle.writeback.proofs.next.next_service.Goals as goal

same_start : (c : Cached) (fs : Files) (s t : Serial) (g j k : ℕ) (goes : Bool) → t ≡ s → j ≡ g
    → goes_on c fs t j k ≡ goes → goes_on c fs s g k ≡ goes
same_start c fs s t g j k goes serial page is =
    ap (λ (x : Serial). goes_on c fs x g k) (sym serial) ∙ ap (λ (x : ℕ). goes_on c fs t x k) (sym page) ∙ is

pub unreachable-requires : goal.unreachable-requires
unreachable-requires g c =
    let page = first_is_page c.args.c.now c.in_ok-serial.field-0 c.in_ok-serial.ensures.first in
    c.in_default.not-Page page.0 page.1 page.2

pub of-start-requires-clause-number : goal.of-start-requires-clause-number
of-start-requires-clause-number g c =
    let first = subst (IsFirstReady c.args.c.now) c.in-Page.is c.in_ok-serial.ensures.first in
    c.requires.numbers c.in-Page.serial c.in-Page.page first.ready

pub of-start-requires-clause-file : goal.of-start-requires-clause-file
of-start-requires-clause-file g c =
    let first = subst (IsFirstReady c.args.c.now) c.in-Page.is c.in_ok-serial.ensures.first in
    c.requires.files c.in-Page.serial c.in-Page.page first.ready

pub returns : goal.returns
returns g c =
    let start = c.of-start.result in
    let same = same_start c.args.c.now c.args.fs.now c.in-Page.serial start.serial c.in-Page.page start.page in
    let is = c.of-start.ensures in
    let n = c.run_length.result in
    record {
      first = subst (IsFirstReady c.args.c.now) c.in-Page.is c.in_ok-serial.ensures.first;
      some = c.run_length.ensures.some;
      most = c.run_length.ensures.most;
      goes = λ k below. same k true is.serial is.page (c.run_length.ensures.goes k below);
      stops = λ short. same n false is.serial is.page (c.run_length.ensures.stops short);
    }
