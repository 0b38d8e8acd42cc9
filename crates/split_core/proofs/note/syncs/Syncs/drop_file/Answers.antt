-- Where no process has an fsync, none is changed.
use Rattle.std.proofs.Common.{sym, arith}
use Rattle.split_core.specs.Syncs.{call_dropped}
use Rattle.split_core.proofs.SyncNotes.{map_none, undropped}
use Rattle.split_core.proofs.note.syncs.Syncs.drop_file.Goals as goal

pub returns-else-self-gt0-clause-calls : goal.returns-else-self-gt0-clause-calls
returns-else-self-gt0-clause-calls c =
    sym (map_none (call_dropped c.args.serial) c.args.self.now.calls.items
    (omega (arith, c.requires.admitted, c.if-self-gt0.false)) (undropped c.args.serial))
