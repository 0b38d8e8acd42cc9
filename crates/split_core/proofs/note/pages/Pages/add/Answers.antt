-- A request takes pages out, or lets one load.
use Rattle.std.proofs.Common.{is_ok, refl, ap, ◌∙◌, arith}
use Rattle.std.proofs.lemmas.Bool.{both_ways}
use Rattle.split_types.specs.Transactions.{is_of_commit}
use Rattle.tag_table.specs.Tags.{tags_of}
use Rattle.split_core.proofs.PageTags.{on_ok}
use Rattle.split_core.proofs.PageAdds.{load_of, after_load, taken_load}
use Rattle.split_core.proofs.PageCargo.{run_of, after_run, taken_run}
use Rattle.split_core.proofs.PageCommits.{commits, after_commit_add}
use Rattle.split_core.proofs.note.pages.Pages.add.Goals as goal

pub begin_load-requires : goal.begin_load-requires
begin_load-requires c =
    let of = load_of c.args.w.now c.args.h.now.events c.args.by c.args.request.now c.in-Read.by c.in-Read.serial
    c.in-Read.page c.args.self.now (tags_of c.args.tags.now) c.requires c.in-Read.is
    in record { page = of.few; absent = of.empty; free = of.free }

pub one-requires : goal.one-requires
one-requires c =
    let of = load_of c.args.w.now c.args.h.now.events c.args.by c.args.request.now c.in-Read.by c.in-Read.serial
    c.in-Read.page c.args.self.now (tags_of c.args.tags.now) c.requires c.in-Read.is
    in record { first = of.first; last = of.last }

pub take-requires : goal.take-requires
take-requires c =
    let of = run_of c.args.w.now c.args.h.now.events c.args.by c.args.request.now c.in-Pages.serial c.in-Pages.page
    c.args.self.now (tags_of c.args.tags.now) c.requires c.in-Pages.is
    in record {
      some = of.some;
      few = of.few;
      ready = of.ready;
      tags = c.requires.tags;
      room = c.requires.room refl;
      within = of.within;
    }

pub returns-in-Read : goal.returns-in-Read
returns-in-Read c =
    record {
      pages = after_load c.args.w.now c.args.h.now.events c.args.by c.args.request.now c.in-Read.by c.in-Read.serial
          c.in-Read.page c.args.self.now _ (tags_of c.args.tags.now) c.requires c.in-Read.is
          (on_ok c.begin_load.result _ (ap is_ok c.unwrap.ensures) c.begin_load.ensures.ok);
      spare = omega arith;
      taken = λ other. taken_load c.args.w.now c.args.h.now.events c.args.by c.args.request.now c.in-Read.by c.in-Read.serial
          c.in-Read.page c.args.self.now (tags_of c.args.tags.now) c.of.result c.requires c.in-Read.is
          (c.of.ensures.tag ∙ c.one.ensures);
    }

pub returns-in-Pages : goal.returns-in-Pages
returns-in-Pages c =
    record {
      pages = after_run c.args.w.now c.args.h.now.events c.args.by c.args.request.now c.in-Pages.serial c.in-Pages.page
          c.args.self.now c.take.new.self (tags_of c.args.tags.now) (tags_of c.take.new.tags) c.requires c.in-Pages.is
          c.take.ensures.pages c.take.ensures.causes c.take.ensures.moved;
      spare = c.take.ensures.spare;
      taken = λ other. taken_run c.args.w.now c.args.h.now.events c.args.by c.args.request.now c.in-Pages.serial
          c.in-Pages.page c.args.self.now (tags_of c.args.tags.now) c.take.result c.requires c.in-Pages.is
          c.take.ensures.cargo c.take.ensures.set;
    }

pub returns-in_default : goal.returns-in_default
returns-in_default c =
    let own = commits c.args.request.now c.in_default.not-Read c.in_default.not-Pages
    in record {
      pages = after_commit_add c.args.w.now c.args.h.now.events c.args.by c.args.request.now c.args.self.now
          (tags_of c.args.tags.now) c.requires own;
      spare = omega arith;
      taken = λ other. absurd (both_ways (is_of_commit c.args.request.now) other own);
    }
