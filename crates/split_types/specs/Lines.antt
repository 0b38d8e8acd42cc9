-- Lines of text: words parted by one space, and a newline at the end.
use Rattle.std.specs.Prelude.{ℕ, ◌+◌, ◌==◌, List, [], ◌∷◌, ◌++◌, map, codes, if◌then◌else◌, ℤ, pos, negsuc}
use Rattle.std.specs.Int.Digits.{digits_of}
use Rattle.split_types.specs.declared.actor.Actor.{Actor}
use Rattle.split_types.specs.declared.actor.Actor.TheVariants.{Client, Wb, Cm, Dq, Dn, Tk}

-- a number's word, however great it is: its decimal digits, with no zero before them
unfoldable pub numeral : ℕ → List ℕ
numeral n = if n == 0 then codes "0" else map (λ digit. 48 + digit) (digits_of 10 n)

-- an amount's word: a number with a minus before it where it is below zero
abbrev pub signed_numeral : ℤ → List ℕ
signed_numeral (pos n) = numeral n
signed_numeral (negsuc n) = 45 ∷ numeral (n + 1)

-- words, each behind a space
abbrev pub fields : List (List ℕ) → List ℕ
fields [] = []
fields (word ∷ words) = 32 ∷ word ++ fields words

-- a line: its first word, the others each behind a space, and a newline
abbrev pub line : List (List ℕ) → List ℕ
line [] = 10 ∷ []
line (word ∷ words) = word ++ (fields words ++ 10 ∷ [])

-- the lines of the items of a list
abbrev pub lines_of : {X : Type 0} → (X → List (List ℕ)) → List X → List ℕ
lines_of words [] = []
lines_of words (x ∷ xs) = line (words x) ++ lines_of words xs

-- an actor's word: c and its process, wb, cm, dq, dn and its place, tk
abbrev pub actor_word : Actor → List ℕ
actor_word (Client p) = 99 ∷ numeral p.0
actor_word Wb = codes "wb"
actor_word Cm = codes "cm"
actor_word Dq = codes "dq"
actor_word (Dn k) = 100 ∷ 110 ∷ numeral k
actor_word Tk = codes "tk"
