-- Why a line is refused.
use Rattle.std.proofs.Common.{◌≡◌, ℕ, List, ◌++◌, true, Result, Ok, Err}
use Rattle.split_types.specs.declared.workload.Workload.{Workload}
use Rattle.workload_reader.specs.declared.cause.Cause.{Cause}
use Rattle.workload_reader.specs.declared.cause.Cause.TheVariants as cause
use Rattle.workload_reader.specs.declared.line.Line.{Line}
use Rattle.workload_reader.specs.Line.{IsFormed, place, stands, text_line}
use Rattle.workload_reader.specs.Refusal.{Stops}
use Rattle.workload_reader.specs.Table.{InRange, Refers, Fails}
use Rattle.workload_reader.specs.Weighed.{Weighed}

-- what a line fails stops the reading at it
pub fails_stop : (w : Workload) (stage : ℕ) (text : List ℕ) (l : Line) (rest : List ℕ) → IsFormed l
    → stands stage (place l) ≡ true → text ≡ text_line l ++ rest → (c : Cause) → Fails w l c → Stops w stage text c
fails_stop w stage text l rest formed may is cause.Range f = (l, rest, formed, may, is, f)
fails_stop w stage text l rest formed may is cause.Ref f = (l, rest, formed, may, is, f)
fails_stop w stage text l rest formed may is cause.Name f = (l, rest, formed, may, is, f)
fails_stop w stage text l rest formed may is cause.Limit f = (l, rest, formed, may, is, f)
fails_stop w stage text l rest formed may is cause.Space f = (l, rest, formed, may, is, f)
fails_stop w stage text l rest formed may is cause.NotBuilt f = (l, rest, formed, may, is, f)
fails_stop w stage text l rest formed may is c f = absurd f

-- a number out of its range or a name of nothing is what the line fails first
pub weighed_fails : (w : Workload) (l : Line) (c : Cause)
    → Weighed (InRange w) (Refers w) l (let r : Result Line Cause = Err c in r) → Fails w l c
weighed_fails w l cause.Range f = f
weighed_fails w l cause.Ref f = f
weighed_fails w l c f = absurd f

-- where both are there, the line is the one that was read
pub weighed_is : (w : Workload) (l m : Line) → Weighed (InRange w) (Refers w) l (let r : Result Line Cause = Ok m in r)
    → m ≡ l
weighed_is w l m f = f.0
