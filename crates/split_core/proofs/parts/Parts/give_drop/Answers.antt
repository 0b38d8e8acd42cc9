-- The file that is dropped is there, and its size is the one that is kept.
use Rattle.std.proofs.Common.{◌≡◌, sym, subst, refl, Option}
use Rattle.std.specs.Prelude.{IsSome, IfSome}
use Rattle.split_types.specs.LiveFiles.{LiveFile}
use Rattle.split_core.proofs.FilesRead.{file_here}
use Rattle.split_core.proofs.parts.Parts.give_drop.Goals as goal

pub size_of-given-requires : goal.size_of-given-requires
size_of-given-requires c =
    subst IsSome
    (sym (file_here c.args.w.now c.args.h.now.events c.args.self.now.filing.fs c.args.slot c.args.serial
    c.requires.accepted c.requires.legal c.requires.stands.filing.files c.requires.file)) refl

pub returns : goal.returns
returns c =
    let size = subst (λ (o : Option LiveFile). IfSome o (λ f. c.size_of-given.result ≡ f.size))
    (file_here c.args.w.now c.args.h.now.events c.args.self.now.filing.fs c.args.slot c.args.serial
    c.requires.accepted c.requires.legal c.requires.stands.filing.files c.requires.file) c.size_of-given.ensures in
    record { size_is = size; promised_is = c.promises_of-given.ensures; next_is = c.next_txn-given.ensures }
