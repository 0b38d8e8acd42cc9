use Rattle.std.proofs.Common.{sym, subst, ap, ◌∙◌}
use Rattle.std.specs.Prelude.{Option, option_map, IsSome}
use Rattle.split_types.specs.declared.ids.Slot.{Slot}
use Rattle.split_types.specs.LiveFiles.{file_at, slot_of_serial}
use Rattle.small_fs.specs.Files.{Files}
use Rattle.small_fs.specs.Keys.{serial_key}
use Rattle.small_fs.proofs.KeyLaws.{keyed_live, numbered, unnumbered}
use Rattle.small_fs.proofs.fs.Fs.slot_of.Goals as goal

pub returns-in_err-at-clause-slot : goal.returns-in_err-at-clause-slot
returns-in_err-at-clause-slot c =
    let i = c.self.inside in
    ap (λ (o : Option Slot). option_map (λ slot. slot.0) o) c.from_residual.ensures
    ∙ sym (unnumbered i.files.items i.serials c.args.s c.self.invariant.indexed.serials_are c.in_err-at.ensures.none)
    ∙ ap (λ (fs : Files). slot_of_serial fs.slots c.args.s) c.self.view_is

pub returns-clause-slot : goal.returns-clause-slot
returns-clause-slot c =
    let i = c.self.inside in
    sym (numbered i.files.items i.serials c.args.s c.in_ok-at.at c.self.invariant.indexed.serials_are
    c.in_ok-at.ensures.place)
    ∙ ap (λ (fs : Files). slot_of_serial fs.slots c.args.s) c.self.view_is

pub returns-clause-live : goal.returns-clause-live
returns-clause-live c =
    let i = c.self.inside in
    let at = c.in_ok-at.at in
    subst (λ (fs : Files). IsSome (file_at fs.slots at)) c.self.view_is
    (keyed_live serial_key i.files.items i.serials _ at c.self.invariant.indexed.serials_are
    c.in_ok-at.ensures.place.here)
