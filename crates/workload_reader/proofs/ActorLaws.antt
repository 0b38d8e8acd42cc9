-- Actors at the front of a text.
use Rattle.std.proofs.Common.{◌≡◌, ℕ, List, [], ◌∷◌, ◌++◌, ap, refl, sym, ◌∙◌, false}
use Rattle.std.proofs.lemmas.Bool.{false≢true}
use Rattle.std.specs.Char.{is_ascii_digit}
use Rattle.split_types.specs.declared.actor.Actor.{Actor}
use Rattle.split_types.specs.declared.actor.Actor.TheVariants.{Client, Wb, Cm, Dq, Dn, Tk}
use Rattle.split_types.specs.Lines.{numeral, actor_word}
use Rattle.split_types.proofs.Shared.{front}
use Rattle.workload_reader.specs.Fields.{NumberAt}
use Rattle.workload_reader.specs.Actors.{IsEnded, ActorAt}
use Rattle.workload_reader.proofs.Alike.{differ, cancel, number_alike}

-- a number's word begins with a digit
pub letter : (n b : ℕ) (x y : List ℕ) → is_ascii_digit b ≡ false → numeral n ++ x ≡ b ∷ y → ⊥
letter n b x y other e =
    let f = front n in
    let first : f.first ≡ b = let g = sym (ap (λ l. l ++ x) f.word_is) ∙ e in cc in
    false≢true (sym other ∙ sym (ap is_ascii_digit first) ∙ f.digit)

numbers : (m n : ℕ) (x y : List ℕ) → IsEnded (Dn m) x → IsEnded (Dn n) y → numeral m ++ x ≡ numeral n ++ y → x ≡ y
numbers m n x y end_x end_y e =
    let one : NumberAt (numeral m ++ x) m x = record { text_is = refl; ends = end_x } in
    let other : NumberAt (numeral m ++ x) n y = record { text_is = e; ends = end_y } in
    (number_alike one other).1

actors : (a b : Actor) (x y : List ℕ) → IsEnded a x → IsEnded b y → 32 ∷ actor_word a ++ x ≡ 32 ∷ actor_word b ++ y
    → x ≡ y
actors (Client p) (Client q) x y end_x end_y e = numbers p.0 q.0 x y end_x end_y (cancel (32 ∷ 99 ∷ []) e)
actors Wb Wb x y end_x end_y e = cancel (32 ∷ 119 ∷ 98 ∷ []) e
actors Cm Cm x y end_x end_y e = cancel (32 ∷ 99 ∷ 109 ∷ []) e
actors Dq Dq x y end_x end_y e = cancel (32 ∷ 100 ∷ 113 ∷ []) e
actors (Dn k) (Dn j) x y end_x end_y e = numbers k j x y end_x end_y (cancel (32 ∷ 100 ∷ 110 ∷ []) e)
actors Tk Tk x y end_x end_y e = cancel (32 ∷ 116 ∷ 107 ∷ []) e
actors (Client p) Cm x y end_x end_y e = absurd (letter p.0 109 x y refl (cancel (32 ∷ 99 ∷ []) e))
actors Cm (Client p) x y end_x end_y e = absurd (letter p.0 109 y x refl (sym (cancel (32 ∷ 99 ∷ []) e)))
actors Dq (Dn k) x y end_x end_y e = absurd (differ 2 e refl)
actors (Dn k) Dq x y end_x end_y e = absurd (differ 2 e refl)
actors a b x y end_x end_y e = absurd (differ 1 e refl)

-- what follows the actor that was read is what follows it in the text
pub after_actor : {text x : List ℕ} {a : Actor} (b : Actor) (rest : List ℕ) → ActorAt text a x
    → text ≡ 32 ∷ actor_word b ++ rest → IsEnded b rest → x ≡ rest
after_actor {text} {x} {a} b rest at e ends = actors a b x rest at.ends ends (sym at.text_is ∙ e)

-- a space ends each
pub ended : (a : Actor) (rest : List ℕ) → IsEnded a (32 ∷ rest)
ended (Client p) rest = refl
ended (Dn k) rest = refl
ended a rest = tt
