-- The line that refuses an input.
use Rattle.std.specs.Prelude.{ℕ, List, [], ◌∷◌, ◌++◌, codes}
use Rattle.split_types.specs.Lines.{numeral, line}
use Rattle.workload_reader.specs.declared.cause.Cause.{Cause}
use Rattle.workload_reader.specs.declared.cause.Cause.TheVariants as cause
use Rattle.workload_reader.specs.declared.fault.LineFault.{LineFault}

abbrev pub cause_word : Cause → List ℕ
cause_word cause.Form = codes "form"
cause_word cause.Range = codes "range"
cause_word cause.Ref = codes "ref"
cause_word cause.Name = codes "name"
cause_word cause.Limit = codes "limit"
cause_word cause.Space = codes "space"
cause_word cause.NotBuilt = codes "notbuilt"
cause_word cause.Cut = codes "cut"
cause_word cause.After = codes "after"
cause_word cause.Long = codes "long"

-- refused line, its number and a colon, and the cause
unfoldable pub refusal_text : LineFault → List ℕ
refusal_text f = line (codes "refused" ∷ codes "line" ∷ (numeral f.line ++ codes ":") ∷ cause_word f.cause ∷ [])
