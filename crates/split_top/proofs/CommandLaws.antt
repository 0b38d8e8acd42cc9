-- Words that ask for something.
use Rattle.std.proofs.Common.{◌≡◌, ◌≢◌, ℕ, ◌<◌, ◌^◌, List, [], ◌∷◌, length, get_or, codes, ap, refl, sym, ◌∙◌, arith}
use Rattle.split_types.specs.Lines.{numeral}
use Rattle.split_types.proofs.Shared.{numeral_injective}
use Rattle.split_top.specs.declared.command.Command.{Command}
use Rattle.split_top.specs.declared.command.Command.TheVariants.{Replay, Gen}
use Rattle.split_top.specs.Command.{Asks, AskNothing}

-- no other number of words asks for anything
pub neither_one_nor_two : (words : List (List ℕ)) → length words ≢ 1 → length words ≢ 2 → AskNothing words
neither_one_nor_two words not_one not_two Replay asks = not_one (ap length asks.words_are)
neither_one_nor_two words not_one not_two (Gen n) asks = not_two (ap length asks.words_are)

-- one word that isn't `replay`
pub another_word : (word : List ℕ) → word ≢ codes "replay" → AskNothing (word ∷ [])
another_word word other Replay asks = other (ap (λ ws. get_or ws 0 []) asks.words_are)
another_word word other (Gen n) asks = let two = ap length asks.words_are in absurd (omega arith)

-- two words of which the first isn't `gen`
pub another_first : (word number : List ℕ) → word ≢ codes "gen" → AskNothing (word ∷ number ∷ [])
another_first word number other Replay asks = let one = ap length asks.words_are in absurd (omega arith)
another_first word number other (Gen n) asks = other (ap (λ ws. get_or ws 0 []) asks.words_are)

-- or the second is no number
pub no_number : (word number : List ℕ) → ((n : ℕ) → n < 2 ^ 32 → number ≢ numeral n)
    → AskNothing (word ∷ number ∷ [])
no_number word number none Replay asks = let one = ap length asks.words_are in absurd (omega arith)
no_number word number none (Gen n) asks = none n asks.short (ap (λ ws. get_or ws 1 []) asks.words_are)

-- words ask for one thing
never_both : {words : List (List ℕ)} {n : ℕ} → Asks words Replay → Asks words (Gen n) → ⊥
never_both {words} {n} replay gen = let e = ap length (sym replay.words_are ∙ gen.words_are) in absurd (omega arith)

one_number : {words : List (List ℕ)} {m n : ℕ} → Asks words (Gen m) → Asks words (Gen n) → m ≡ n
one_number {words} {m} {n} a b = numeral_injective m n (ap (λ ws. get_or ws 1 []) (sym a.words_are ∙ b.words_are))

pub one_command : {words : List (List ℕ)} (c d : Command) → Asks words c → Asks words d → c ≡ d
one_command Replay Replay a b = refl
one_command Replay (Gen n) a b = absurd (never_both a b)
one_command (Gen m) Replay a b = absurd (never_both b a)
one_command (Gen m) (Gen n) a b = ap (λ k. Gen k) (one_number a b)

pub ruleset nothing_asked = (neither_one_nor_two, another_word, another_first, no_number)
