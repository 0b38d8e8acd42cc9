-- What stands at the front of a text, and what follows it.
use Rattle.std.specs.Prelude.{◌≡◌, ◌≢◌, ℕ, ◌==◌, ◌^◌, ◌≤◌, List, [], ◌∷◌, ◌++◌, nat_lt, Bool, true, false, not, ◌||◌}
use Rattle.std.specs.Prelude.{if◌then◌else◌, Option, Some, None, IsTrue, ℤ, ◌≤ℤ◌}
use Rattle.std.specs.Char.{is_ascii_digit}
use Rattle.std.specs.Borrow.{Bor}
use Rattle.std.specs.List.{list_all}
use Rattle.split_types.specs.Names.{is_name}
use Rattle.split_types.specs.Lines.{numeral, signed_numeral}

-- the bytes don't begin with a digit
abbrev pub ends_number : List ℕ → Bool
ends_number [] = true
ends_number (b ∷ bs) = not (is_ascii_digit b)

-- digits at the front, which together with a number's own are the word of another
pub record DigitsAt (first : ℕ) (text : List ℕ) (n : ℕ) (rest : List ℕ) : Type 0 where
  pub digits : List ℕ
  pub text_is : text ≡ digits ++ rest
  pub word_is : numeral n ≡ numeral first ++ digits
  pub ends : ends_number rest ≡ true

-- a number at the front
pub record NumberAt (text : List ℕ) (n : ℕ) (rest : List ℕ) : Type 0 where
  pub text_is : text ≡ numeral n ++ rest
  pub ends : ends_number rest ≡ true

-- the number in 64 bits, which may be too few
abbrev pub narrowed : ℕ → Option ℕ
narrowed n = if nat_lt n (2 ^ 64) then Some n else None

-- the value where it has the property, else none
abbrev pub Keeps : {X : Type 0} → (X → Type 0) → X → Option X → Type 0
Keeps P x None = P x → ⊥
Keeps P x (Some y) = (y ≡ x) × P x

-- in this range, whose ends count
abbrev pub IsWithin : ℕ → ℕ → ℕ → Type 0
IsWithin low high n = (low ≤ n) × (n ≤ high)

abbrev pub IsAmountWithin : ℤ → ℤ → ℤ → Type 0
IsAmountWithin low high z = (low ≤ℤ z) × (z ≤ℤ high)

-- a number behind a space
pub record FieldAt (text : List ℕ) (n : ℕ) (rest : List ℕ) : Type 0 where
  pub text_is : text ≡ 32 ∷ numeral n ++ rest
  pub ends : ends_number rest ≡ true

-- an amount behind a space
pub record AmountAt (text : List ℕ) (z : ℤ) (rest : List ℕ) : Type 0 where
  pub text_is : text ≡ 32 ∷ signed_numeral z ++ rest
  pub ends : ends_number rest ≡ true

-- a space or a newline
abbrev pub is_end : ℕ → Bool
is_end b = b == 32 || b == 10

-- the bytes begin with a space or a newline
abbrev pub ends_word : List ℕ → Bool
ends_word [] = false
ends_word (b ∷ bs) = is_end b

-- a word at the front, up to a space or a newline
pub record WordAt (text word rest : List ℕ) : Type 0 where
  pub text_is : text ≡ word ++ rest
  pub inside : list_all (λ b. not (is_end b)) word ≡ true
  pub ends : ends_word rest ≡ true

-- a word behind a space, up to a space or a newline
pub record SpacedAt (text word rest : List ℕ) : Type 0 where
  pub text_is : text ≡ 32 ∷ word ++ rest
  pub inside : list_all (λ b. not (is_end b)) word ≡ true
  pub ends : ends_word rest ≡ true

-- words, each behind a space, and then the rest
abbrev pub behind : List (List ℕ) → List ℕ → List ℕ
behind [] rest = rest
behind (word ∷ words) rest = 32 ∷ word ++ behind words rest

-- a name and two numbers, each behind a space
pub record ExtentAt (text name : List ℕ) (off len : ℕ) (rest : List ℕ) : Type 0 where
  pub text_is : text ≡ behind (name ∷ numeral off ∷ numeral len ∷ []) rest
  pub named : IsTrue (is_name name)
  pub ends : ends_number rest ≡ true

-- what was read of a line behind its first word: something with these fields and the newline, and in r what was found
-- out of it, with what follows the line; or no such thing stands there
abbrev pub Reads : {X Y : Type 0} → (X → Type 0) → (X → List (List ℕ)) → (X → Y → Type 0) → List ℕ
    → Option (Y × Bor (List ℕ)) → Type 0
Reads {X} IsFormed fields Says text None = (x : X) (rest : List ℕ) → IsFormed x → text ≢ behind (fields x) (10 ∷ rest)
Reads {X} IsFormed fields Says text (Some r) =
    (x : X) × IsFormed x × (text ≡ behind (fields x) (10 ∷ r.1.now)) × Says x r.0
