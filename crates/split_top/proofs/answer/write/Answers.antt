-- The sink failed, and took a front of the text.
use Rattle.std.proofs.Common.{rules}
use Rattle.split_top.proofs.Stops.{fails}
use Rattle.split_top.proofs.answer.write.Goals as goal

pub returns-in_err-send : goal.returns-in_err-send
returns-in_err-send g c = fails c.send.ensures c.in_err-send.was (search rules)
