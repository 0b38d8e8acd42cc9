-- One more page, and one more tag that has both.
use Rattle.std.proofs.Common.{◌≡◌, ◌+◌, true, is_some, subst, arith}
use Rattle.split_types.specs.declared.buf.Buf.TheVariants.{Page}
use Rattle.tag_table.specs.Tags.{tags_of}
use Rattle.page_cache.specs.Cached.{page_of, tag_in}
use Rattle.split_core.proofs.PageUnions.{found_tag, tag_is, tag_used, union_more}
use Rattle.split_core.proofs.note.pages.Pages.tag_of.Goals as goal

pub unwrap-first-requires : goal.unwrap-first-requires
unwrap-first-requires c =
    let r = c.args.run in
    found_tag _ _ _ c.tag.ensures
    (subst (λ g. is_some (tag_in (page_of c.args.self.now.cache (Page r.serial g))) ≡ true) (omega arith)
    (c.requires.dirty 0 (omega arith)))

pub again-requires : goal.again-requires
again-requires c =
    tag_used (tags_of c.args.tags.now) c.args.self.now.cache (Page c.args.run.serial c.args.run.page)
    c.unwrap-first.result.now.number c.requires.covered (tag_is _ _ _ _ c.tag.ensures c.unwrap-first.ensures)

pub unwrap-more-requires : goal.unwrap-more-requires
unwrap-more-requires c =
    found_tag _ _ _ c.tag-in-loop-k.ensures (c.requires.dirty c.loop-k.k c.loop-k-test.true)

pub join-requires-clause-b : goal.join-requires-clause-b
join-requires-clause-b c =
    let t = c.unwrap-more.result.now.number in
    let used = tag_used (tags_of c.args.tags.now) c.args.self.now.cache
    (Page c.args.run.serial (c.args.run.page + c.loop-k.k)) t c.requires.covered
    (tag_is _ _ _ _ c.tag-in-loop-k.ensures c.unwrap-more.ensures) in
    omega (arith, used, c.loop-k.invariant.moved.uses t)

pub loop-k-preserved : goal.loop-k-preserved
loop-k-preserved c =
    let came = rw c.unwrap-joined.ensures at c.join.ensures.moved in
    let members = rw c.unwrap-joined.ensures at c.join.ensures.set in
    let gone = rw c.replace.ensures.value at c.release.ensures.moved in
    rw c.replace.ensures.after
    (union_more (tags_of c.args.tags.now) (tags_of c.loop-k.tags) (tags_of c.join.new.self)
    (tags_of c.release.new.self) c.args.self.now.cache c.args.run.serial c.args.run.page c.loop-k.k
    c.loop-k.all.number c.unwrap-more.result.now.number c.unwrap-joined.result.number c.loop-k.invariant
    c.requires.covered (tag_is _ _ _ _ c.tag-in-loop-k.ensures c.unwrap-more.ensures) came members
    c.join.ensures.spare gone c.release.ensures.spare)
