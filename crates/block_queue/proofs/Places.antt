-- What is left of a list without its front, after a move or a removal behind it.
use Rattle.std.proofs.Common.{◌≡◌, ℕ, suc, ◌+◌, ◌-◌, ◌<◌, ◌≤◌, List, ◌++◌, length, take, drop, get_or, Some, sym, ap, ◌∙◌, arith, append_assoc}
use Rattle.std.specs.List.{remove, slice_get}
use Rattle.std.proofs.lemmas.List.{drop_at, drop-drop, get_or-drop, length-drop, length-take-le, take-append-drop}
use Rattle.std.proofs.lemmas.List.Edits.{remove-append_right}
use Rattle.std.proofs.lemmas.Option.{slice_get-get_or}
use lib.Seq.{paste}

module _ {X : Type 0} (xs : List X) (start : ℕ) where
  -- the i elements behind the front moved up by one, over the next one
  pub drop-moved_up : (i : ℕ) → start + i < length xs → drop (start + 1) (paste xs (start + 1) (drop start xs) i)
      ≡ remove (drop start xs) i
  drop-moved_up i within =
      let next : start + 1 + i ≡ start + suc i = omega arith in
      ap (drop (start + 1)) (append_assoc (take (start + 1) xs) (take i (drop start xs)) (drop (start + 1 + i) xs))
      ∙ drop_at (take (start + 1) xs) _ (start + 1) (length-take-le (start + 1) xs (omega arith))
      ∙ ap (λ l. take i (drop start xs) ++ l) (ap (λ n. drop n xs) next ∙ sym (drop-drop (suc i) start xs))

  -- an element behind the front taken out
  pub drop-remove : (i : ℕ) → start ≤ length xs → drop start (remove xs (start + i)) ≡ remove (drop start xs) i
  drop-remove i within =
      let front : length (take start xs) ≡ start = length-take-le start xs within in
      let rest : start + i - start ≡ i = omega arith in
      ap (λ l. drop start (remove l (start + i))) (sym (take-append-drop start xs))
      ∙ ap (drop start) (remove-append_right (take start xs) (drop start xs) start (start + i) front (omega arith))
      ∙ drop_at (take start xs) _ start front ∙ ap (remove (drop start xs)) rest

  -- an element behind the front
  pub slice_get-behind : (i : ℕ) (x : X) → start + i < length xs → x ≡ get_or xs (start + i) x
      → slice_get (drop start xs) i ≡ Some x
  slice_get-behind i x within is =
      slice_get-get_or (drop start xs) i x (omega (arith, length-drop start xs))
      ∙ ap (λ y. Some y) (get_or-drop start xs i x ∙ sym is)
