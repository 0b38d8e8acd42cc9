-- A page that was read has its bytes; pages that were written aren't busy.
use Rattle.std.proofs.Common.{refl, arith}
use Rattle.sim_disk.specs.Bytes.{block_at}
use Rattle.tag_table.specs.Tags.{tags_of}
use Rattle.split_core.proofs.PageDones.{done_of, read_of, after_read_done}
use Rattle.split_core.proofs.PageRunsDone.{run_small, after_run_done}
use Rattle.split_core.proofs.PageCommits.{commits, after_commit_done}
use Rattle.split_core.proofs.note.pages.Pages.done.Goals as goal

pub load-requires : goal.load-requires
load-requires c =
    let d = done_of c.args.w.now c.args.h.now.events c.args.e.now c.args.request.now c.args.self.now
    (tags_of c.args.tags.now) c.requires.before c.requires.is
    in let of = read_of c.args.w.now c.args.h.now.events c.args.request.now c.in-Read.field-0 c.in-Read.serial
    c.in-Read.page d.kind c.in-Read.is
    in omega (arith, c.requires.medium.size, of.within)

pub returns-in-Read : goal.returns-in-Read
returns-in-Read c =
    after_read_done c.args.w.now c.args.h.now.events c.args.e.now c.args.request.now c.in-Read.field-0 c.in-Read.serial
    c.in-Read.page c.args.medium.now (block_at c.args.medium.now.disk.blocks c.args.request.now.first) c.args.self.now c.load.new.self (tags_of c.args.tags.now)
    c.requires.before c.requires.is c.in-Read.is c.requires.medium refl
    c.load.ensures

pub release-requires : goal.release-requires
release-requires c =
    run_small c.args.w.now c.args.h.now.events c.args.e.now c.args.request.now c.in-Pages.serial c.in-Pages.page
    c.args.self.now (tags_of c.args.tags.now) c.requires.before c.requires.is c.in-Pages.is

pub returns-in-Pages : goal.returns-in-Pages
returns-in-Pages c =
    after_run_done c.args.w.now c.args.h.now.events c.args.e.now c.args.request.now c.in-Pages.serial c.in-Pages.page
    c.args.self.now c.release.new.self (tags_of c.args.tags.now) c.requires.before c.requires.is c.in-Pages.is
    c.release.ensures

pub returns-in_default : goal.returns-in_default
returns-in_default c =
    after_commit_done c.args.w.now c.args.h.now.events c.args.e.now c.args.request.now c.args.self.now
    (tags_of c.args.tags.now) c.requires.before c.requires.is
    (commits c.args.request.now c.in_default.not-Read c.in_default.not-Pages)
