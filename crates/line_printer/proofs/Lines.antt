-- Lines of text.
use Rattle.std.proofs.Common.{◌≡◌, ◌++◌, ◌∷◌, ◌∙◌, [], List, ap, refl, sym, append_assoc, ℕ, ◌+◌, ◌<◌, length, map, take, get_or, arith, length-take}
use Rattle.std.proofs.lemmas.List.{append-nil, take_more, map_more}
use Rattle.std.specs.List.{enumerate_from}
use Rattle.line_printer.specs.Puts.{Puts}
use Rattle.line_printer.proofs.Chains.{and_then, in_all}
use Rattle.split_types.specs.Lines.{line, fields, lines_of}

-- the lines of two lists, one after another
pub lines_of_append : {X : Type 0} (words : X → List (List ℕ)) (xs ys : List X)
    → lines_of words (xs ++ ys) ≡ lines_of words xs ++ lines_of words ys
lines_of_append words [] ys = refl
lines_of_append words (x ∷ xs) ys = ap (λ l. line (words x) ++ l) (lines_of_append words xs ys)
    ∙ sym (append_assoc (line (words x)) (lines_of words xs) (lines_of words ys))

-- the lines of one item more
pub lines_of_more : {X : Type 0} (words : X → List (List ℕ)) (xs : List X) (i : ℕ) (d : X) → i < length xs
    → lines_of words (take (i + 1) xs) ≡ lines_of words (take i xs) ++ line (words (get_or xs i d))
lines_of_more words xs i d below =
    ap (lines_of words) (take_more xs i d below)
    ∙ lines_of_append words (take i xs) (get_or xs i d ∷ [])
    ∙ ap (λ l. lines_of words (take i xs) ++ l) (append-nil (line (words (get_or xs i d))))

-- the line of the item that a loop has come to is added after those of the items before it
pub puts_more : {X : Type 0} (words : X → List (List ℕ)) (xs : List X) (i : ℕ) (d : X) {P : Type 0} {due : P → List ℕ
    → P → List ℕ → Type 0} {old was now : P} → i < length xs → Puts due old was (lines_of words (take i xs))
    → Puts due was now (line (words (get_or xs i d))) → Puts due old now (lines_of words (take (i + 1) xs))
puts_more words xs i d below before one = in_all _ (and_then before one) (sym (lines_of_more words xs i d below))

-- the same of an item that owns memory, which has a name of its own
pub puts_item : {X : Type 0} (words : X → List (List ℕ)) (xs : List X) (i : ℕ) (x : X) {P : Type 0} {due : P → List ℕ
    → P → List ℕ → Type 0} {old was now : P} → i < length xs → x ≡ get_or xs i x
    → Puts due old was (lines_of words (take i xs)) → Puts due was now (line (words x))
    → Puts due old now (lines_of words (take (i + 1) xs))
puts_item words xs i x below is before one = puts_more words xs i x below before
    (in_all _ one (ap (λ y. line (words y)) is))

-- words after the first one, in two parts
pub fields_append : (xs ys : List (List ℕ)) → fields (xs ++ ys) ≡ fields xs ++ fields ys
fields_append [] ys = refl
fields_append (x ∷ xs) ys = ap (λ l. 32 ∷ x ++ l) (fields_append xs ys)
    ∙ sym (append_assoc (32 ∷ x) (fields xs) (fields ys))

pub fields_then : (xs ys : List (List ℕ)) {P : Type 0} {due : P → List ℕ → P → List ℕ → Type 0} {old was now : P}
    → Puts due old was (fields xs) → Puts due was now (fields ys) → Puts due old now (fields (xs ++ ys))
fields_then xs ys p q = in_all _ (and_then p q) (sym (fields_append xs ys))

-- a line of a word, more words, and its end
pub whole_line : (word : List ℕ) (words : List (List ℕ)) {P : Type 0} {due : P → List ℕ → P → List ℕ
    → Type 0} {old was mid now : P} → Puts due old was word → Puts due was mid (fields words)
    → Puts due mid now (10 ∷ []) → Puts due old now (line (word ∷ words))
whole_line word words p q r = in_all _ (and_then (and_then p q) r) (append_assoc word (fields words) (10 ∷ []))

-- one word more
pub puts_field : {X : Type 0} (word : X → List ℕ) (xs : List X) (i : ℕ) (d : X) {P : Type 0} {due : P → List ℕ → P
    → List ℕ → Type 0} {old was now : P} → i < length xs → Puts due old was (fields (map word (take i xs)))
    → Puts due was now (32 ∷ word (get_or xs i d)) → Puts due old now (fields (map word (take (i + 1) xs)))
puts_field word xs i d below before one =
    let last = word (get_or xs i d) in
    in_all _ (and_then before one)
    (ap (λ l. fields (map word (take i xs)) ++ l) (sym (append-nil (32 ∷ last)))
    ∙ sym (fields_append (map word (take i xs)) (last ∷ []))
    ∙ ap fields (sym (map_more word xs i d below)))

-- numbered items, and one more
enumerate-more : {X : Type 0} (n : ℕ) (xs : List X) (y : X)
    → enumerate_from n (xs ++ y ∷ []) ≡ enumerate_from n xs ++ (n + length xs, y) ∷ []
enumerate-more n [] y = ap (λ k. (k, y) ∷ []) (omega arith)
enumerate-more n (x ∷ xs) y = ap (λ l. (n, x) ∷ l) (enumerate-more (n + 1) xs y
    ∙ ap (λ k. enumerate_from (n + 1) xs ++ (k, y) ∷ []) (omega arith))

-- the line of the next numbered item is added after those of the items before it
pub puts_numbered : {X : Type 0} (words : ℕ × X → List (List ℕ)) (xs : List X) (i : ℕ) (d : X) {P : Type 0} {due : P
    → List ℕ → P → List ℕ → Type 0} {old was now : P} → i < length xs
    → Puts due old was (lines_of words (enumerate_from 1 (take i xs)))
    → Puts due was now (line (words (i + 1, get_or xs i d)))
    → Puts due old now (lines_of words (enumerate_from 1 (take (i + 1) xs)))
puts_numbered {X} words xs i d below before one =
    let y = get_or xs i d in
    let front = enumerate_from 1 (take i xs) in
    let number : 1 + length (take i xs) ≡ i + 1 = omega (arith, length-take i xs) in
    let all : enumerate_from 1 (take (i + 1) xs) ≡ front ++ (i + 1, y) ∷ [] =
    ap (enumerate_from 1) (take_more xs i d below) ∙ enumerate-more 1 (take i xs) y
    ∙ ap (λ k. front ++ (k, y) ∷ []) number in
    in_all _ (and_then before one)
    (ap (λ l. lines_of words front ++ l) (sym (append-nil (line (words (i + 1, y)))))
    ∙ sym (lines_of_append words front ((i + 1, y) ∷ []))
    ∙ ap (lines_of words) (sym all))
