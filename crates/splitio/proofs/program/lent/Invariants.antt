use Rattle.std.proofs.Common.{◌≡◌, map, take}
use Rattle.splitio.proofs.program.lent.Given as goal

abbrev pub invariant-loop-word : goal.invariant-loop-word
invariant-loop-word g l = map (λ word. word.now) l.lent.items
    ≡ map (λ word. word.bytes.items) (take l.word-index l.words)
