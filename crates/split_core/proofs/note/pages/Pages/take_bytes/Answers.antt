-- Pages are taken out, and the tag of all is released.
use Rattle.std.proofs.Common.{is_ok, ap, ◌∙◌}
use Rattle.tag_table.specs.Tags.{tags_of}
use Rattle.split_core.proofs.PageTags.{on_ok, in_use, tags_released, causes_released}
use Rattle.split_core.proofs.note.pages.Pages.take_bytes.Goals as goal

pub let_go-requires : goal.let_go-requires
let_go-requires c =
    let moved = rw c.unwrap-bytes.ensures at c.take_out.ensures.moved
    in in_use (tags_of c.args.tags.now) (tags_of c.take_out.new.tags) c.args.self.now.cache c.take_out.new.self
    c.unwrap-bytes.result.1.number moved c.requires.tags

pub returns-clause-causes : goal.returns-clause-causes
returns-clause-causes c = λ k other.
    let moved = rw c.unwrap-bytes.ensures at c.take_out.ensures.moved
    in causes_released (tags_of c.args.tags.now) (tags_of c.take_out.new.tags) c.args.self.now.cache c.take_out.new.self
    c.unwrap-bytes.result.1.number moved c.requires.tags (tags_of c.let_go.new.tags) c.let_go.ensures.moved k
    ∙ on_ok c.take_out.result _ (ap is_ok c.unwrap-bytes.ensures) c.take_out.ensures.causes k other

pub returns-clause-moved : goal.returns-clause-moved
returns-clause-moved c =
    let moved = rw c.unwrap-bytes.ensures at c.take_out.ensures.moved
    in tags_released (tags_of c.args.tags.now) (tags_of c.take_out.new.tags) c.args.self.now.cache c.take_out.new.self
    c.unwrap-bytes.result.1.number moved c.requires.tags (tags_of c.let_go.new.tags) c.let_go.ensures.moved
