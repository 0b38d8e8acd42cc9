-- Numbers at the front of a text, each behind a space.
use Rattle.std.proofs.Common.{◌≡◌, ℕ, suc, ◌<◌, ◌≤◌, ◌∙◌, true, List, [], ◌∷◌, ◌++◌, length, drop, ap, refl, arith}
use Rattle.split_types.specs.Lines.{numeral}
use Rattle.split_types.specs.EventText.{numerals}
use Rattle.workload_reader.specs.Fields.{ends_number, behind}
use Rattle.workload_reader.proofs.Alike.{number_alike, cancel}
use Rattle.workload_reader.specs.Fields.{NumberAt}

-- no digit follows a number, if none follows the last one
pub ends_behind : (ns : List ℕ) (rest : List ℕ) → ends_number rest ≡ true
    → ends_number (behind (numerals ns) rest) ≡ true
ends_behind [] rest ends = ends
ends_behind (n ∷ ns) rest ends = refl

-- the same where there is one at least
ends_more : (ns : List ℕ) (rest : List ℕ) → (0 < suc (length ns) → ends_number rest ≡ true)
    → ends_number (behind (numerals ns) rest) ≡ true
ends_more ns rest ends = ends_behind ns rest (ends (omega arith))

-- the numbers of a text are one, and what follows them
pub numbers_alike : (ns ms x y : List ℕ) → length ns ≡ length ms → (0 < length ns → ends_number x ≡ true)
    → (0 < length ms → ends_number y ≡ true)
    → behind (numerals ns) x ≡ behind (numerals ms) y → (ns ≡ ms) × (x ≡ y)
numbers_alike [] [] x y same ends_x ends_y e = (refl, e)
numbers_alike [] (m ∷ ms) x y same ends_x ends_y e = absurd (omega arith)
numbers_alike (n ∷ ns) [] x y same ends_x ends_y e = absurd (omega arith)
numbers_alike (n ∷ ns) (m ∷ ms) x y same ends_x ends_y e =
    let ex = ends_more ns x ends_x in
    let ey = ends_more ms y ends_y in
    let one : NumberAt (numeral n ++ behind (numerals ns) x) n (behind (numerals ns) x) =
    record { text_is = refl; ends = ex } in
    let other : NumberAt (numeral n ++ behind (numerals ns) x) m (behind (numerals ms) y) =
    record { text_is = cancel (32 ∷ []) e; ends = ey } in
    let first = number_alike one other in
    let others = numbers_alike ns ms x y (omega arith) (λ _. ends_x (omega arith)) (λ _. ends_y (omega arith)) first.1
    in
    (ap (λ k. k ∷ ns) first.0 ∙ ap (λ l. m ∷ l) others.0, others.1)

-- what follows the first numbers that were read is what follows them in the text
pub numbers_after : (ns ms x y : List ℕ) → length ns ≤ length ms → (0 < length ns → ends_number x ≡ true)
    → ends_number y ≡ true
    → behind (numerals ns) x ≡ behind (numerals ms) y → x ≡ behind (numerals (drop (length ns) ms)) y
numbers_after [] ms x y few ends_x ends_y e = e
numbers_after (n ∷ ns) [] x y few ends_x ends_y e = absurd (omega arith)
numbers_after (n ∷ ns) (m ∷ ms) x y few ends_x ends_y e =
    let ex = ends_more ns x ends_x in
    let ey = ends_behind ms y ends_y in
    let one : NumberAt (numeral n ++ behind (numerals ns) x) n (behind (numerals ns) x) =
    record { text_is = refl; ends = ex } in
    let other : NumberAt (numeral n ++ behind (numerals ns) x) m (behind (numerals ms) y) =
    record { text_is = cancel (32 ∷ []) e; ends = ey } in
    numbers_after ns ms x y (omega arith) (λ _. ends_x (omega arith)) ends_y (number_alike one other).1

-- one number more
pub behind_push : (ns : List ℕ) (n : ℕ) (rest : List ℕ)
    → behind (numerals (ns ++ n ∷ [])) rest ≡ behind (numerals ns) (32 ∷ numeral n ++ rest)
behind_push [] n rest = refl
behind_push (m ∷ ns) n rest = ap (λ l. 32 ∷ numeral m ++ l) (behind_push ns n rest)

-- two lists of numbers
pub behind_append : (ns ms : List ℕ) (rest : List ℕ) → behind (numerals (ns ++ ms)) rest
    ≡ behind (numerals ns) (behind (numerals ms) rest)
behind_append [] ms rest = refl
behind_append (n ∷ ns) ms rest = ap (λ l. 32 ∷ numeral n ++ l) (behind_append ns ms rest)
