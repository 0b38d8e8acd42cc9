-- One block is written.
use Rattle.std.proofs.Common.{refl}
use Rattle.split_core.proofs.MediumNotesStart.{written_one}
use Rattle.split_core.proofs.note.medium.write_block.Goals as goal

pub returns-clause-blocks : goal.returns-clause-blocks
returns-clause-blocks c =
    written_one c.args.disk.now c.start.new.self c.finish.new.self (record { 0 = 0 }) c.args.block c.args.bytes.items
    c.requires.long c.requires.none c.in_ok-start.ensures.writes c.in_ok-start.ensures.blocks (c.finish.ensures.ok refl)
