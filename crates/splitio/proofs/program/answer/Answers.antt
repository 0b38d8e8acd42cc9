-- Where there is no memory to pass the words on nothing was touched.
use Rattle.std.proofs.Common.{refl, inr}
use Rattle.split_top.specs.declared.call.Status.TheVariants as status
use Rattle.splitio.proofs.program.answer.Goals as goal

pub returns-in-Err : goal.returns-in-Err
returns-in-Err g c = (status.OutOfMemory, record { code_is = refl; outcome = inr (refl, refl, refl) })
