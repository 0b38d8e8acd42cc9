-- Lines of text.
use Rattle.std.proofs.Common.{◌≡◌, ◌++◌, ◌∷◌, ◌∙◌, [], List, ap, refl, sym, append_assoc, ℕ}
use Rattle.split_types.specs.Lines.{line, lines_of}

-- the lines of two lists, one after another
pub lines_of_append : {X : Type 0} (words : X → List (List ℕ)) (xs ys : List X)
    → lines_of words (xs ++ ys) ≡ lines_of words xs ++ lines_of words ys
lines_of_append words [] ys = refl
lines_of_append words (x ∷ xs) ys = ap (λ l. line (words x) ++ l) (lines_of_append words xs ys)
    ∙ sym (append_assoc (line (words x)) (lines_of words xs) (lines_of words ys))
