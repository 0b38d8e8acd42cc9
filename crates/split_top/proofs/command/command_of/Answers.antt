-- The words are one or two, which were compared.
use Rattle.std.proofs.Common.{◌≡◌, ℕ, ◌<◌, ◌≤◌, ◌∙◌, true, List, [], ◌∷◌, length, get_or, map, codes, ap, sym, arith, Bor}
use Rattle.std.proofs.lemmas.Slice.Eq.{bytes_eq-Decides}
use Rattle.std.specs.Str.{bytes_eq}
use Rattle.split_top.proofs.command.command_of.Goals as goal

one_word : (words : List (Bor (List ℕ))) (d : Bor (List ℕ)) (first : List ℕ) → 1 ≤ length words → length words < 2
    → (get_or words 0 d).now ≡ first → map (λ w. w.now) words ≡ first ∷ []
one_word [] d first some few is = absurd (omega (arith, some))
one_word (w ∷ []) d first some few is = ap (λ t. t ∷ []) is
one_word (w ∷ v ∷ ws) d first some few is = absurd (omega (arith, few))

two_words : (words : List (Bor (List ℕ))) (d e : Bor (List ℕ)) (first second : List ℕ) → 2 ≤ length words
    → length words < 3 → (get_or words 0 d).now ≡ first → (get_or words 1 e).now ≡ second
    → map (λ w. w.now) words ≡ first ∷ second ∷ []
two_words [] d e first second some few is then = absurd (omega (arith, some))
two_words (w ∷ []) d e first second some few is then = absurd (omega (arith, some))
two_words (w ∷ v ∷ []) d e first second some few is then = ap (λ t. t ∷ v.now ∷ []) is ∙ ap (λ t. first ∷ t ∷ []) then
two_words (w ∷ v ∷ u ∷ ws) d e first second some few is then = absurd (omega (arith, few))

same : (xs ys : List ℕ) → bytes_eq xs ys ≡ true → xs ≡ ys
same xs ys e = (bytes_eq-Decides xs ys).0 e

pub returns-then-eq : goal.returns-then-eq
returns-then-eq c = record {
  words_are = one_word c.args.words.now _ (codes "replay") c.in-len1.len_at_least c.in-len1.len_below
      (same _ (codes "replay") (sym c.eq.ensures ∙ c.if-eq.true));
  short = tt;
}

pub returns-in_ok-number_of-in-len2 : goal.returns-in_ok-number_of-in-len2
returns-in_ok-number_of-in-len2 c = record {
  words_are = two_words c.args.words.now _ _ (codes "gen") _ c.in-len2.len_at_least c.in-len2.len_below
      (same _ (codes "gen") (sym c.eq-in-len2.ensures ∙ c.if-eq-2.true))
      (sym c.as_bytes.ensures.value ∙ c.in_ok-number_of-in-len2.ensures);
  short = omega arith;
}
