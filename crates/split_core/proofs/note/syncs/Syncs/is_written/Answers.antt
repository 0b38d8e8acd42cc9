-- What is kept of the fsync of a process says whether all puts that it waits for are on the disk.
use Rattle.std.proofs.Common.{not, ◌&&◌, ap, sym, ◌∙◌}
use Rattle.std.specs.List.{list_any}
use Rattle.split_core.proofs.SyncReads.{call_at, call_written}
use Rattle.split_core.proofs.note.syncs.Syncs.is_written.Goals as goal

pub returns-then-is_some : goal.returns-then-is_some
returns-then-is_some c =
    let w = c.args.w.now in
    let h = c.args.h.now.events in
    let p = c.args.p.0 in
    let x = c.index-call.result.now in
    let kept = call_at w h c.args.self.now p x c.requires.first c.requires.last c.requires.stands
    c.index-call.ensures in
    λ syncs.
    c.is_written.ensures
    ∙ ap (λ b. b && (not (list_any (λ y. y) x.pages.dirty) && not (list_any (λ y. y) x.pages.flying)))
    (sym c.if-is_some.true ∙ c.is_some.ensures)
    ∙ call_written w h p x c.requires.accepted c.requires.legal kept syncs

pub returns-else-is_some : goal.returns-else-is_some
returns-else-is_some c =
    let w = c.args.w.now in
    let h = c.args.h.now.events in
    let p = c.args.p.0 in
    let x = c.index-call.result.now in
    let kept = call_at w h c.args.self.now p x c.requires.first c.requires.last c.requires.stands
    c.index-call.ensures in
    λ syncs.
    c.if-is_some.false
    ∙ ap (λ b. b && (not (list_any (λ y. y) x.pages.dirty) && not (list_any (λ y. y) x.pages.flying)))
    (sym c.if-is_some.false ∙ c.is_some.ensures)
    ∙ call_written w h p x c.requires.accepted c.requires.legal kept syncs
