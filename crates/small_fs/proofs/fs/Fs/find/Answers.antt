use Rattle.std.proofs.Common.{sym, subst, ap, ◌∙◌}
use Rattle.std.specs.Prelude.{Option, option_map, IsSome}
use Rattle.split_types.specs.declared.ids.Slot.{Slot}
use Rattle.split_types.specs.LiveFiles.{file_at, slot_named}
use Rattle.small_fs.specs.Files.{Files}
use Rattle.small_fs.specs.Keys.{name_key}
use Rattle.small_fs.proofs.KeyLaws.{keyed_live, named, unnamed}
use Rattle.small_fs.proofs.fs.Fs.find.Goals as goal

pub returns-in_err-at-clause-slot : goal.returns-in_err-at-clause-slot
returns-in_err-at-clause-slot c =
    let i = c.self.inside in
    ap (λ (o : Option Slot). option_map (λ slot. slot.0) o) c.from_residual.ensures
    ∙ sym (unnamed i.files.items i.names c.args.n.now c.self.invariant.indexed.names_are c.in_err-at.ensures.none)
    ∙ ap (λ (fs : Files). slot_named fs.slots c.args.n.now) c.self.view_is

pub returns-clause-slot : goal.returns-clause-slot
returns-clause-slot c =
    let i = c.self.inside in
    sym (named i.files.items i.names c.args.n.now c.in_ok-at.at c.self.invariant.indexed.names_are
    c.in_ok-at.ensures.place)
    ∙ ap (λ (fs : Files). slot_named fs.slots c.args.n.now) c.self.view_is

pub returns-clause-live : goal.returns-clause-live
returns-clause-live c =
    let i = c.self.inside in
    let at = c.in_ok-at.at in
    subst (λ (fs : Files). IsSome (file_at fs.slots at)) c.self.view_is
    (keyed_live name_key i.files.items i.names _ at c.self.invariant.indexed.names_are c.in_ok-at.ensures.place.here)
