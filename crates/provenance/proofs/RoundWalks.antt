-- The seals of a transaction's round, as a walk back through a history comes by them.
use Rattle.std.proofs.Common.{◌≡◌, ℕ, ◌+◌, ◌≤◌, ◌==◌, Bool, true, false, ◌||◌, List, [], ◌∷◌, ◌++◌, map, arith, refl, ap, sym, ◌∙◌, append_assoc}
use Rattle.std.specs.Prelude.{Option, Some, if◌then◌else◌}
use Rattle.std.specs.List.{list_any}
use Rattle.std.proofs.lemmas.List.{append-nil, map-append}
use Rattle.std.proofs.lemmas.List.Folds.{list_any-append}
use Rattle.std.proofs.lemmas.Grind.{common_steps}
use Rattle.split_types.specs.declared.ids.Txn.{Txn}
use Rattle.split_types.specs.declared.event.Event.{Event}
use Rattle.split_types.specs.declared.event.Event.TheVariants.{Seal, Add}
use Rattle.split_types.specs.History.{◌▹◌, event_at, older}
use Rattle.split_types.specs.Rounds.{Sealing, open_round, round_of}
use Rattle.split_types.specs.ByPlace.{is_seal, is_seal_of, is_clear_add}
use Rattle.split_types.proofs.Shared.{older-next}
use Rattle.provenance.specs.Found.{sealing_at, sealed_txn}
use Rattle.provenance.proofs.Walks.{older-none}

-- the seal is that of the transaction
abbrev pub is_own : Txn → Sealing → Bool
is_own t s = s.txn.0 == t.0

-- the seals at some places
abbrev pub seals_at : List Event → List ℕ → List Sealing
seals_at h places = map (sealing_at h) places

-- the transaction's round, where these seals come after h and no clear request was added since
abbrev pub round_with : List Sealing → List Event → Txn → List Sealing
round_with seals h t = if list_any (is_own t) (seals ++ open_round h) then seals ++ open_round h else round_of h t

same_choice : {A : Type 0} (a b : Bool) (x y z : A) → (if a || b then x else z)
    ≡ (if a || b then x else (if b then y else z))
same_choice true b x y z = refl
same_choice false true x y z = refl
same_choice false false x y z = refl

same_round : {A : Type 0} (b : Bool) (x y : A) → (if b then x else (if b then x else y)) ≡ (if b then x else y)
same_round true x y = refl
same_round false x y = refl

-- without any seal it is the round of h
pub round-start : (h : List Event) (t : Txn) → round_with [] h t ≡ round_of h t
round-start [] t = refl
round-start (h ▹ e) t = same_round (list_any (is_own t) (open_round (h ▹ e))) (open_round (h ▹ e)) (round_of h t)

-- what an event changes stands in the round under way alone
round_more : (h : List Event) (e : Event) (t : Txn) (seals : List Sealing)
    → (if list_any (is_own t) (seals ++ open_round (h ▹ e)) then seals ++ open_round (h ▹ e) else round_of h t)
    ≡ round_with seals (h ▹ e) t
round_more h e t seals =
    rw (list_any-append (is_own t) seals (open_round (h ▹ e)))
    (same_choice (list_any (is_own t) seals) (list_any (is_own t) (open_round (h ▹ e))) (seals ++ open_round (h ▹ e))
    (open_round (h ▹ e)) (round_of h t))

round_seal : (h : List Event) (u t : Txn) (k : ℕ) (seals : List Sealing)
    → round_with (seals ++ record { txn = u; before = h } ∷ []) h t ≡ round_with seals (h ▹ Seal u k) t
round_seal h u t k seals =
    let one : List Sealing = record { txn = u; before = h } ∷ [] in
    ap (λ l. if list_any (is_own t) l then l else round_of h t) (append_assoc seals one (open_round h))
    ∙ round_more h (Seal u k) t seals

open_other : (h : List Event) (e : Event) → is_seal e ≡ false
    → open_round (h ▹ e) ≡ (if is_clear_add e then [] else open_round h)
open_other h (Seal t k) other = absurd (cc)
open_other h (Add by r) other = refl
open_other h e other = refl

round_other : (h : List Event) (e : Event) (t : Txn) (seals : List Sealing) → is_seal e ≡ false → is_clear_add e ≡ false
    → round_with seals h t ≡ round_with seals (h ▹ e) t
round_other h e t seals other kept =
    let is : open_round (h ▹ e) ≡ open_round h = open_other h e other ∙ ap (λ b. if b then [] else open_round h) kept in
    ap (λ l. if list_any (is_own t) (seals ++ l) then seals ++ l else round_of h t) (sym is) ∙ round_more h e t seals

round_clear : (h : List Event) (e : Event) (t : Txn) (seals : List Sealing) → is_seal e ≡ false → is_clear_add e ≡ true
    → (if list_any (is_own t) seals then seals else round_of h t) ≡ round_with seals (h ▹ e) t
round_clear h e t seals other clear =
    let is : open_round (h ▹ e) ≡ [] = open_other h e other ∙ ap (λ b. if b then [] else open_round h) clear in
    ap (λ l. if list_any (is_own t) l then l else round_of h t) (sym (append-nil seals))
    ∙ ap (λ l. if list_any (is_own t) (seals ++ l) then seals ++ l else round_of h t) (sym is)
    ∙ round_more h e t seals

sealed_here : (h : List Event) (e : Event) (n : ℕ) (t : Txn) (places : List ℕ) → event_at h n ≡ Some e
    → is_seal e ≡ true
    → round_with (seals_at h places ++ sealing_at h n ∷ []) (older h n) t
    ≡ round_with (seals_at h places) (older h n ▹ e) t
sealed_here h (Seal u k) n t places at is =
    ap (λ (o : Option Event). round_with (seals_at h places ++ record { txn = sealed_txn o; before = older h n } ∷ [])
    (older h n) t) at
    ∙ round_seal (older h n) u t k (seals_at h places)
sealed_here h e n t places at is = absurd (cc)

-- ---- one step back, from place rest to the event at place n
pub walk-seal : (h : List Event) (e : Event) (n rest : ℕ) (t : Txn) (places : List ℕ) → rest ≡ n + 1
    → event_at h n ≡ Some e → is_seal e ≡ true
    → round_with (seals_at h (places ++ n ∷ [])) (older h n) t ≡ round_with (seals_at h places) (older h rest) t
walk-seal h e n rest t places is at seal =
    ap (λ l. round_with l (older h n) t) (map-append (sealing_at h) places (n ∷ []))
    ∙ sealed_here h e n t places at seal
    ∙ ap (λ l. round_with (seals_at h places) l t) (sym (older-next h e n at) ∙ ap (older h) (sym is))

pub walk-other : (h : List Event) (e : Event) (n rest : ℕ) (t : Txn) (places : List ℕ) → rest ≡ n + 1
    → event_at h n ≡ Some e
    → is_seal e ≡ false → is_clear_add e ≡ false → round_with (seals_at h places) (older h n) t
    ≡ round_with (seals_at h places) (older h rest) t
walk-other h e n rest t places is at other kept =
    round_other (older h n) e t (seals_at h places) other kept
    ∙ ap (λ l. round_with (seals_at h places) l t) (sym (older-next h e n at) ∙ ap (older h) (sym is))

-- a clear request, where the transaction's seal comes after it
pub walk-own : (h : List Event) (e : Event) (n rest : ℕ) (t : Txn) (places : List ℕ) → rest ≡ n + 1
    → event_at h n ≡ Some e
    → is_seal e ≡ false → is_clear_add e ≡ true → list_any (is_own t) (seals_at h places) ≡ true
    → seals_at h places ≡ round_with (seals_at h places) (older h rest) t
walk-own h e n rest t places is at other clear own =
    ap (λ b. if b then seals_at h places else round_of (older h n) t) (sym own)
    ∙ round_clear (older h n) e t (seals_at h places) other clear
    ∙ ap (λ l. round_with (seals_at h places) l t) (sym (older-next h e n at) ∙ ap (older h) (sym is))

-- or before it
pub walk-clear : (h : List Event) (e : Event) (n rest : ℕ) (t : Txn) (places : List ℕ) → rest ≡ n + 1
    → event_at h n ≡ Some e
    → is_seal e ≡ false → is_clear_add e ≡ true → list_any (is_own t) (seals_at h places) ≡ false
    → round_with [] (older h n) t ≡ round_with (seals_at h places) (older h rest) t
walk-clear h e n rest t places is at other clear none =
    round-start (older h n) t
    ∙ ap (λ b. if b then seals_at h places else round_of (older h n) t) (sym none)
    ∙ round_clear (older h n) e t (seals_at h places) other clear
    ∙ ap (λ l. round_with (seals_at h places) l t) (sym (older-next h e n at) ∙ ap (older h) (sym is))

-- at the end
pub walk-end : (h : List Event) (rest : ℕ) (t : Txn) (places : List ℕ) → rest ≤ 0
    → (if list_any (is_own t) (seals_at h places) then seals_at h places else [])
    ≡ round_with (seals_at h places) (older h rest) t
walk-end h rest t places le =
    let none : rest ≡ 0 = omega arith in
    let nothing : older h rest ≡ [] = ap (older h) none ∙ older-none h in
    ap (λ l. if list_any (is_own t) l then l else []) (sym (append-nil (seals_at h places)))
    ∙ ap (λ l. round_with (seals_at h places) l t) (sym nothing)

own_txn : (h : List Event) (e : Event) (n : ℕ) (t : Txn) → event_at h n ≡ Some e → is_seal e ≡ true
    → is_own t (sealing_at h n) ≡ is_seal_of t e
own_txn h (Seal u k) n t at is = ap (λ (o : Option Event). (sealed_txn o).0 == t.0) at
own_txn h e n t at is = absurd (cc)

-- whether the transaction's seal is there, with one seal more
pub own-more : (h : List Event) (e : Event) (n : ℕ) (t : Txn) (places : List ℕ) → event_at h n ≡ Some e
    → is_seal e ≡ true
    → (list_any (is_own t) (seals_at h places) || is_seal_of t e) ≡ list_any (is_own t) (seals_at h (places ++ n ∷ []))
own-more h e n t places at is =
    rw (
      map-append (sealing_at h) places (n ∷ []),
      list_any-append (is_own t) (seals_at h places) (seals_at h (n ∷ [])),
      own_txn h e n t at is,
    )
    (grind (arith, common_steps))
