use Rattle.std.proofs.Common.{sym, ◌∙◌}
use Rattle.fs_layout.proofs.DirectoryLaws.{free_read, file_read, mapped}
use Rattle.fs_layout.proofs.directory.read_entry.Goals as goal

pub returns-then-number-eq0 : goal.returns-then-number-eq0
returns-then-number-eq0 c = rw c.then_some.ensures (free_read _ _ c.requires (sym c.number_at-number.ensures
    ∙ c.if-number-eq0.true) c.is_zero.ensures)

pub returns-else-number-eq0 : goal.returns-else-number-eq0
returns-else-number-eq0 c = rw (mapped _ _ c.map.ensures.cases) (file_read _ _ (λ zero. c.if-number-eq0.false
    (c.number_at-number.ensures ∙ zero)) c.read_file.ensures)
