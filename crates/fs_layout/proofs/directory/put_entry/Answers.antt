use Rattle.std.proofs.Common.{ap, sym, arith, set}
use Rattle.fs_layout.proofs.DirectoryLaws.{entry_written, free_written}
use Rattle.fs_layout.proofs.directory.put_entry.Goals as goal

pub returns-in-None : goal.returns-in-None
returns-in-None c = rw c.in-None.is (free_written _ _ c.requires.len c.clear.ensures)

pub returns-in-Some : goal.returns-in-Some
returns-in-Some c =
    let few = sym c.len.ensures.len in
    rw c.in-Some.is (entry_written c.in-Some.file.serial c.in-Some.file.name _ _ _ (set c.put_number.new.out 4
    c.len.result) _ (omega (arith, few, c.len.ensures.most)) c.requires.len c.clear.ensures c.put_number.ensures
    (ap (set c.put_number.new.out 4) c.len.ensures.len) (rw c.as_slice.ensures at c.put.ensures))
