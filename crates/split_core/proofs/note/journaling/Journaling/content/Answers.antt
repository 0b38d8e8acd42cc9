-- The request that comes next is the one that the journal has due.
use Rattle.std.proofs.Common.{◌∙◌, sym}
use Rattle.tag_table.specs.Tags.{tags_of}
use Rattle.split_core.proofs.JournalNotesAdds.{due_some, content_brings}
use Rattle.split_core.proofs.note.journaling.Journaling.content.Goals as goal

pub content-requires : goal.content-requires
content-requires c =
    due_some c.args.w.now c.args.h.now.events c.args.e.now c.args.self.now (tags_of c.args.tags.now)
    c.requires.accepted c.requires.legal c.requires.stands (sym c.is_commit_add.ensures ∙ c.if-is_commit_add.true)

pub returns-then-is_commit_add : goal.returns-then-is_commit_add
returns-then-is_commit_add c =
    content_brings c.args.w.now c.args.h.now.events c.args.e.now c.args.self.now (tags_of c.args.tags.now)
    c.content.result (λ bytes. bytes.items) c.requires.accepted c.requires.legal c.requires.stands c.content.ensures
