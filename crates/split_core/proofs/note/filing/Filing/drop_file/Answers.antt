-- The blocks of the file wait, and its promises are taken back.
use Rattle.std.proofs.Common.{subst, ◌∙◌}
use Rattle.std.proofs.lemmas.Option.{IfSome_then}
use Rattle.split_types.specs.LiveFiles.{file_at}
use Rattle.split_core.specs.Filing.{LetsGo}
use Rattle.split_core.proofs.FilingFilesLetGo.{promises_back, taken_of}
use Rattle.split_core.proofs.note.filing.Filing.drop_file.Goals as goal

pub let_go-requires : goal.let_go-requires
let_go-requires c =
    let a = c.args.self.now.alloc
    in taken_of (file_at c.args.self.now.fs.slots c.args.slot.0) a c.as_slice.result.now c.requires.live
    c.requires.taken (IfSome_then (file_at c.args.self.now.fs.slots c.args.slot.0) c.drop_file-blocks.ensures.blocks
    (λ f e. c.as_slice.ensures ∙ e))

pub returns-clause-blocks : goal.returns-clause-blocks
returns-clause-blocks c =
    IfSome_then (file_at c.args.self.now.fs.slots c.args.slot.0) c.drop_file-blocks.ensures.blocks
    (λ f e. promises_back c.args.self.now.alloc c.let_go.new.alloc c.take_back.new.alloc c.args.t _
    c.args.promised
    (subst (λ b. LetsGo c.args.self.now.alloc c.let_go.new.alloc c.args.t b 0) (c.as_slice.ensures ∙ e)
    c.let_go.ensures) c.take_back.ensures.states c.take_back.ensures.reserved)
