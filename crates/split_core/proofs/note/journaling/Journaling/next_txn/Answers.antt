-- The journal counts its seals.
use Rattle.std.proofs.Common.{◌∙◌, ◌+◌, ap}
use Rattle.journal_core.specs.Work.{txn}
use Rattle.journal_core.specs.Journaled.{seen}
use Rattle.split_core.proofs.JournalNotes.{shown, few_sealed}
use Rattle.split_core.proofs.note.journaling.Journaling.next_txn.Goals as goal

pub to_seal-requires : goal.to_seal-requires
to_seal-requires c =
    let at = c.requires.stands in
    few_sealed c.args.w.now c.args.h.now.events (seen at.0 c.args.self.now.journal)
    (shown c.args.w.now c.args.h.now.events c.args.self.now at.0 c.requires.accepted c.requires.legal at.1)
    c.requires.short

pub returns : goal.returns
returns c =
    let at = c.requires.stands in
    ap (λ p. p.0) c.to_seal.ensures
    ∙ ap (λ n. txn (n + 1))
    (shown c.args.w.now c.args.h.now.events c.args.self.now at.0 c.requires.accepted c.requires.legal at.1).sealed_is
