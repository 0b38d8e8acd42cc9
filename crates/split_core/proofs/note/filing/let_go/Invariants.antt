-- The blocks so far wait.
use Rattle.split_core.proofs.FilingFilesLetGo.{GoneTo}
use Rattle.split_core.proofs.note.filing.let_go.Given as goal

abbrev pub invariant-loop-block : goal.invariant-loop-block
invariant-loop-block l = GoneTo l.initial.alloc l.alloc l.t l.blocks l.block-index
