-- The request that comes next is added for those for whom the journal has it due.
use Rattle.std.proofs.Common.{subst, sym}
use Rattle.tag_table.specs.Tags.{tags_of}
use Rattle.split_core.specs.Takings.{Brings}
use Rattle.split_core.proofs.JournalNotesAdds.{due_some, tagged}
use Rattle.split_core.proofs.note.journaling.Journaling.take.Goals as goal

pub tag-requires : goal.tag-requires
tag-requires c =
    due_some c.args.w.now c.args.h.now.events c.args.e.now c.args.self.now (tags_of c.args.tags.now)
    c.requires.accepted c.requires.fits.legal c.requires.stands c.requires.add

pub returns : goal.returns
returns c = record {
  bytes = subst (Brings c.args.w.now c.args.h.now.events c.args.e.now) (sym c.of.ensures) c.requires.content;
  tag = tagged c.args.w.now c.args.h.now.events c.args.e.now c.args.self.now (tags_of c.args.tags.now)
      c.tag.result.now.number c.members.result.now c.requires.accepted c.requires.fits.legal c.requires.stands
      c.requires.add c.tag.ensures.tag c.members.ensures.value;
}
