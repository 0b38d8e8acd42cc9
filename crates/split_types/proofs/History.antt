-- Laws of places, and of a history that has one event more.
use Rattle.std.proofs.Common.{◌≡◌, ℕ, zero, suc, ◌+◌, ◌<◌, ◌≤◌, List, [], ◌∷◌, ◌++◌, length, reverse, inl, inr, arith, refl, ap, sym, ◌∙◌}
use Rattle.std.specs.Prelude.{Some, None, slice_get, ◌==◌, if◌then◌else◌}
use Rattle.std.proofs.lemmas.Bool.{cases_lt}
use Rattle.std.proofs.lemmas.List.{reverse-append}
use Rattle.std.proofs.lemmas.Grind.{common_steps}
use Rattle.split_types.specs.declared.event.Event.{Event}
use Rattle.split_types.specs.History.{◌▹◌, event_at, older}

pub event_at-new : (h : List Event) (e : Event) → event_at (h ▹ e) (length h) ≡ Some e
event_at-new h e = grind (arith, common_steps)

pub event_at-stays : (h : List Event) (e : Event) (i : ℕ) → i < length h → event_at (h ▹ e) i ≡ event_at h i
event_at-stays h e i lt = grind (arith, common_steps)

pub event_at-none : (h : List Event) (i : ℕ) → length h ≤ i → event_at h i ≡ None
event_at-none [] i le = refl
event_at-none (h ▹ e) i le = grind (arith, common_steps, event_at-none h i)

pub older-all : (h : List Event) (n : ℕ) → length h ≤ n → older h n ≡ h
older-all [] n le = refl
older-all (h ▹ e) n le = grind (arith, common_steps)

pub older-stays : (h : List Event) (e : Event) (n : ℕ) → n ≤ length h → older (h ▹ e) n ≡ older h n
older-stays h e n le = grind (arith, common_steps)

pub older-before : (h : List Event) (e : Event) → older (h ▹ e) (length h) ≡ h
older-before h e = grind (arith, common_steps, older-all h (length h), older-stays h e (length h))

pub length-older : (h : List Event) (n : ℕ) → length (older h n) ≤ length h
length-older [] n = omega arith
length-older (h ▹ e) n = grind (arith, common_steps, length-older h n)

pub length-older_at : (h : List Event) (n : ℕ) → n ≤ length h → length (older h n) ≡ n
length-older_at [] n le = omega arith
length-older_at (h ▹ e) n le = grind (arith, common_steps, length-older_at h n)

pub event_at-within : (h : List Event) (e : Event) (i : ℕ) → event_at h i ≡ Some e → i < length h
event_at-within [] e i at = cc
event_at-within (h ▹ f) e i at = grind (arith, common_steps, event_at-within h e i)

-- the history of one event more
pub older-next : (h : List Event) (e : Event) (i : ℕ) → event_at h i ≡ Some e → older h (i + 1) ≡ older h i ▹ e
older-next [] e i at = cc
older-next (h ▹ f) e i at = elim (cases_lt i (length h)) [
  | inl below ↦
      older-stays h f (i + 1) (omega arith) ∙ older-next h e i (sym (event_at-stays h f i below) ∙ at)
      ∙ ap (λ l. l ▹ e) (sym (older-stays h f i (omega arith)))
  | inr beyond ↦
      let same : i ≡ length h = omega (arith, event_at-within (h ▹ f) e i at) in
      let found : Some f ≡ Some e = sym (event_at-new h f) ∙ ap (event_at (h ▹ f)) (sym same) ∙ at in
      let one : f ≡ e = cc in
      older-all (h ▹ f) (i + 1) (omega arith) ∙ ap (λ x. h ▹ x) one
      ∙ ap (λ l. l ▹ e) (sym (ap (older (h ▹ f)) same ∙ older-before h f))
]

-- a read of a list with one item more
slice_get-push : {X : Type 0} (xs : List X) (y : X) (i : ℕ)
    → slice_get (xs ++ y ∷ []) i ≡ (if i == length xs then Some y else slice_get xs i)
slice_get-push [] y zero = refl
slice_get-push [] y (suc i) = grind (arith, common_steps)
slice_get-push (x ∷ xs) y zero = grind (arith, common_steps)
slice_get-push (x ∷ xs) y (suc i) = grind (arith, common_steps, slice_get-push xs y i)

-- the event at a place, read from the oldest on
pub slice_get-reverse : (h : List Event) (i : ℕ) → slice_get (reverse h) i ≡ event_at h i
slice_get-reverse [] i = refl
slice_get-reverse (h ▹ e) i =
    ap (λ l. slice_get l i) (reverse-append (e ∷ []) h)
    ∙ slice_get-push (reverse h) e i
    ∙ grind (arith, common_steps, slice_get-reverse h i)
