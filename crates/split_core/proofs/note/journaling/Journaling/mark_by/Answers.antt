-- A tag of the process alone is given, and released once all is marked.
use Rattle.std.proofs.Common.{◌∷◌, []}
use Rattle.split_types.specs.Hooks.{dirties}
use Rattle.tag_table.specs.Tags.{tags_of}
use Rattle.split_core.proofs.JournalNotesMarks.{marks_seen}
use Rattle.split_core.proofs.note.journaling.Journaling.mark_by.Goals as goal

pub returns-clause-marked : goal.returns-clause-marked
returns-clause-marked c =
    marks_seen (tags_of c.args.tags.now) (tags_of c.single.new.self) (tags_of c.mark.new.tags)
    (tags_of c.release.new.self) c.args.self.now.journal c.mark.new.self.journal c.unwrap-tag.result.number
    (record {
      covers = c.requires.uses;
      gives = (let m = rw c.unwrap-tag.ensures at c.single.ensures.moved in m);
      marks = c.mark.ensures.moved;
      releases = c.release.ensures.moved;
    })
    (dirties c.args.e.now) (c.args.by.0 ∷ []) (let m = rw c.unwrap-tag.ensures at c.single.ensures.set in m)
    c.mark.ensures.marked
