-- Names of files.
use Rattle.std.specs.Prelude.{◌≡◌, ℕ, ◌-◌, ◌≤◌, ◌==◌, List, ◌++◌, length, take, drop, replicate, nat_lt, nat_le, Bool, ◌&&◌, ◌||◌, IsTrue}
use Rattle.std.specs.Char.{is_ascii_digit, is_ascii_lowercase}
use Rattle.std.specs.List.{list_all}
use Rattle.std.proofs.Common.{arith, ap, ◌∙◌, sym, length-take, take-append-drop}

-- a to z, 0 to 9, '.', '_' and '-'
abbrev pub is_name_byte : ℕ → Bool
is_name_byte b = is_ascii_lowercase b || is_ascii_digit b || b == 46 || b == 95 || b == 45

-- 1 to 32 such bytes
abbrev pub is_name : List ℕ → Bool
is_name bytes = nat_lt 0 (length bytes) && nat_le (length bytes) 32 && list_all is_name_byte bytes

-- a name's bytes, filled up with zeros to 32
abbrev pub padded : List ℕ → List ℕ
padded bytes = bytes ++ replicate (32 - length bytes) 0

-- what holds of a name in memory
pub record IsPadded (bytes : List ℕ) (len : ℕ) : Type 0 where
  pub size : length bytes ≡ 32
  pub within : len ≤ 32
  pub zeros : drop len bytes ≡ replicate (32 - len) 0
  pub named : IsTrue (is_name (take len bytes))

pub length-front : (bytes : List ℕ) (len : ℕ) → IsPadded bytes len → length (take len bytes) ≡ len
length-front bytes len h = omega (arith, h.size, h.within, length-take len bytes)

pub padded-front : (bytes : List ℕ) (len : ℕ) → IsPadded bytes len → padded (take len bytes) ≡ bytes
padded-front bytes len h =
    ap (λ n. take len bytes ++ replicate (32 - n) 0) (length-front bytes len h)
    ∙ ap (λ l. take len bytes ++ l) (sym h.zeros) ∙ take-append-drop len bytes
