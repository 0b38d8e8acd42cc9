-- Who is to blame, over a history with one event more, and over older ones.
use Rattle.std.proofs.Common.{◌≡◌, ℕ, ◌+◌, ◌==◌, ◌<◌, ◌≤◌, true, inl, inr, List, [], ◌∷◌, map, length, arith, refl, subst, sym, ap, ◌∙◌}
use Rattle.std.specs.Prelude.{Some}
use Rattle.std.proofs.lemmas.Grind.{common_steps}
use Rattle.std.proofs.lemmas.Bool.{or_left, or_right, or_cases, and_from, and_parts, cases_order, cases_lt, cases_Bool, cond-true, cond-false}
use Rattle.std.proofs.lemmas.Option.{same_Some}
use Rattle.std.proofs.lemmas.Bool.Decides.{nat_tests}
use Rattle.split_types.specs.declared.request.Request.{Request}
use Rattle.split_types.specs.declared.actor.Actor.{Actor}
use Rattle.split_types.specs.declared.event.Event.{Event}
use Rattle.split_types.specs.declared.event.Event.TheVariants.{Add}
use Rattle.split_types.specs.History.{◌▹◌, adds, event_at, older}
use Rattle.split_types.specs.Parents.{parents_of}
use Rattle.split_types.specs.Sets.{pids, has, some_has, union_of, IsSet}
use Rattle.split_types.specs.Blame.{own_blame, blame, tag}
use Rattle.split_types.specs.ByPlace.{IsBlamed, BlamedAreBlamed, BlameIsSet, TagIsBlame}
use Rattle.split_types.proofs.Sets.{has-pids, has-union_of, none-is_set, union-is_set}
use Rattle.split_types.proofs.Members.{list_any-map_at}
use Rattle.split_types.proofs.History.{event_at-new, event_at-stays, event_at-within, older-all, older-before, older-stays, older-next, length-older_at}
use Rattle.split_types.proofs.Parents.{parents-below}

pub blame-stays : (h : List Event) (e : Event) (i : ℕ) → i < length h → blame (h ▹ e) i ≡ blame h i
blame-stays h e i lt = grind (arith, common_steps)

pub blame-new : (h : List Event) (e : Event)
    → blame (h ▹ e) (length h) ≡ union_of (own_blame e ∷ map (blame h) (parents_of h e))
blame-new h e = grind (arith, common_steps)

-- the blame of an event looks at that event and at what came before it
pub blame-older : (h : List Event) (i : ℕ) → blame h i ≡ blame (older h (i + 1)) i
blame-older [] i = refl
blame-older (h ▹ e) i = grind (arith, common_steps, blame-older h i)

-- an event that has a place in a part of a history is to be blamed on the same processes there
pub blame-part : (h : List Event) (n i : ℕ) → i < n → blame (older h n) i ≡ blame h i
blame-part [] n i lt = refl
blame-part (h ▹ e) n i lt = elim (cases_lt (length h) n) [
  | inl whole ↦ ap (λ l. blame l i) (older-all (h ▹ e) n (omega arith))
  | inr part ↦
      ap (λ l. blame l i) (older-stays h e n part) ∙ blame-part h n i lt ∙ sym (blame-stays h e i (omega arith))
]

parts-blame : (h : List Event) (n : ℕ) (places : List ℕ) → ((j : ℕ) → has places j ≡ true → j < n)
    → map (blame (older h n)) places ≡ map (blame h) places
parts-blame h n [] low = refl
parts-blame h n (j ∷ js) low =
    let here : blame (older h n) j ≡ blame h j = blame-part h n j (low j (grind (arith, nat_tests))) in
    let rest : map (blame (older h n)) js ≡ map (blame h) js =
    parts-blame h n js (λ k is. low k (grind (arith, nat_tests))) in
    cc

-- the blame of the event at a place, by its parents
pub blame-at : (h : List Event) (e : Event) (i : ℕ) → event_at h i ≡ Some e
    → blame h i ≡ union_of (own_blame e ∷ map (blame h) (parents_of (older h i) e))
blame-at h e i at =
    let lt = event_at-within h e i at in
    let last : older h (i + 1) ≡ older h i ▹ e = older-next h e i at in
    let new : blame (older h i ▹ e) i ≡ union_of (own_blame e ∷ map (blame (older h i)) (parents_of (older h i) e)) =
    ap (blame (older h i ▹ e)) (sym (length-older_at h i (omega arith))) ∙ blame-new (older h i) e in
    blame-older h i ∙ ap (λ l. blame l i) last ∙ new
    ∙ ap (λ l. union_of (own_blame e ∷ l))
    (parts-blame h i (parents_of (older h i) e)
    (λ j is. omega (arith, parents-below (older h i) e j is, length-older_at h i (omega arith))))

pub tag-stays : (h : List Event) (e : Event) (id : ℕ) → id < adds h → tag (h ▹ e) id ≡ tag h id
tag-stays h (Add by r) id lt = grind (arith, common_steps)
tag-stays h e id lt = refl

pub tag-new : (h : List Event) (by : Actor) (r : Request)
    → tag (h ▹ Add by r) (adds h) ≡ blame (h ▹ Add by r) (length h)
tag-new h by r = grind (arith, common_steps)

-- ---- by place
-- more requests were added than before an add
adds_more : (h : List Event) (e : Event) → adds h ≤ adds (h ▹ e)
adds_more h (Add by r) = omega arith
adds_more h e = omega arith

adds-older : (h : List Event) (i : ℕ) (by : Actor) (r : Request) → event_at h i ≡ Some (Add by r)
    → adds (older h i) < adds h
adds-older [] i by r at = absurd (cc)
adds-older (h ▹ e) i by r at = elim (cases_order i (length h)) [
  | inl same ↦
      (let here : e ≡ Add by r = same_Some e (Add by r) (sym (event_at-new h e) ∙ ap (event_at (h ▹ e)) (sym same) ∙ at)
      in let before : older (h ▹ e) i ≡ h = ap (older (h ▹ e)) same ∙ older-before h e
      in omega (arith, ap adds before, ap (λ d. adds (h ▹ d)) here))
  | inr (inl below) ↦
      omega (
        arith,
        adds-older h i by r (sym (event_at-stays h e i below) ∙ at),
        adds_more h e,
        ap adds (older-stays h e i (omega arith)),
      )
  | inr (inr past) ↦ (let within = event_at-within (h ▹ e) (Add by r) i at in absurd (omega arith))
]

-- who stands in one of the lists of some places stands in that of one of them
pub has_at : (f : ℕ → List ℕ) (places : List ℕ) (p : ℕ) → some_has (map f places) p ≡ true
    → (i : ℕ) × (has places i ≡ true) × (has (f i) p ≡ true)
has_at f [] p is = absurd (cc)
has_at f (j ∷ js) p is = elim (or_cases (has (f j) p) (some_has (map f js) p) is) [
  | inl here ↦ (j, grind (arith, nat_tests), here)
  | inr later ↦ (let more = has_at f js p later in (more.0, or_right (j == more.0) (has js more.0) more.1, more.2))
]

pid_within : (p : ℕ) → has pids p ≡ true → (1 ≤ p) × (p ≤ 256)
pid_within p is = (grind (arith, nat_tests, has-pids p), grind (arith, nat_tests, has-pids p))

pid_from : (p : ℕ) → 1 ≤ p → p ≤ 256 → has pids p ≡ true
pid_from p least most = has-pids p ∙ grind (arith, nat_tests)

is_blamed : (h : List Event) (e : Event) (i p : ℕ) → event_at h i ≡ Some e → has (blame h i) p ≡ true → IsBlamed h e i p
is_blamed h e i p at is =
    let sets = own_blame e ∷ map (blame h) (parents_of (older h i) e)
    in let both =
    and_parts (has pids p) (some_has sets p)
    (sym (ap (λ l. has l p) (blame-at h e i at) ∙ has-union_of sets p) ∙ is)
    in let within = pid_within p both.0
    in record {
      least = within.0;
      most = within.1;
      cause = elim (or_cases (has (own_blame e) p) (some_has (map (blame h) (parents_of (older h i) e)) p) both.1) [
        | inl own ↦ inl own
        | inr parent ↦ (let there = has_at (blame h) (parents_of (older h i) e) p parent in inr (record {
          parent = there.0;
          is_parent = there.1;
          blamed = there.2;
        }))
      ];
    }

blamed_is : (h : List Event) (e : Event) (i p : ℕ) → event_at h i ≡ Some e → IsBlamed h e i p → has (blame h i) p ≡ true
blamed_is h e i p at b =
    let sets = own_blame e ∷ map (blame h) (parents_of (older h i) e)
    in ap (λ l. has l p) (blame-at h e i at) ∙ has-union_of sets p
    ∙ and_from (has pids p) (some_has sets p) (pid_from p b.least b.most) (elim b.cause [
      | inl own ↦ or_left (has (own_blame e) p) (some_has (map (blame h) (parents_of (older h i) e)) p) own
      | inr at_parent ↦ or_right (has (own_blame e) p) (some_has (map (blame h) (parents_of (older h i) e)) p)
          (list_any-map_at (λ xs. has xs p) (blame h)
          (parents_of (older h i) e) at_parent.parent at_parent.is_parent at_parent.blamed)
    ])

pub blamed_are_blamed : BlamedAreBlamed
blamed_are_blamed h e i p at = (is_blamed h e i p at, blamed_is h e i p at)

pub blame_is_set : BlameIsSet
blame_is_set [] i = none-is_set
blame_is_set (h ▹ e) i = elim (cases_Bool (i == length h)) [
  | inl same ↦
      subst IsSet
      (sym (cond-true (i == length h) (union_of (own_blame e ∷ map (blame h) (parents_of h e))) (blame h i) same))
      (union-is_set (own_blame e ∷ map (blame h) (parents_of h e)))
  | inr other ↦
      subst IsSet
      (sym (cond-false (i == length h) (union_of (own_blame e ∷ map (blame h) (parents_of h e))) (blame h i) other))
      (blame_is_set h i)
]

-- ---- tags
pub tag-blame : TagIsBlame
tag-blame [] i by r at = absurd (cc)
tag-blame (h ▹ e) i by r at = elim (cases_order i (length h)) [
  | inl same ↦
      (let here : e ≡ Add by r = same_Some e (Add by r) (sym (event_at-new h e) ∙ ap (event_at (h ▹ e)) (sym same) ∙ at)
      in let before : older (h ▹ e) i ≡ h = ap (older (h ▹ e)) same ∙ older-before h e
      in ap (tag (h ▹ e)) (ap adds before) ∙ newest e here ∙ ap (blame (h ▹ e)) (sym same))
  | inr (inl below) ↦
      (let there = sym (event_at-stays h e i below) ∙ at
      in let before : older (h ▹ e) i ≡ older h i = older-stays h e i (omega arith)
      in ap (tag (h ▹ e)) (ap adds before) ∙ tag-stays h e (adds (older h i)) (adds-older h i by r there)
      ∙ tag-blame h i by r there ∙ sym (blame-stays h e i below))
  | inr (inr past) ↦ (let within = event_at-within (h ▹ e) (Add by r) i at in absurd (omega arith))
]
  where
    newest : (d : Event) → d ≡ Add by r → tag (h ▹ d) (adds h) ≡ blame (h ▹ d) (length h)
    newest d is = subst (λ x. tag (h ▹ x) (adds h) ≡ blame (h ▹ x) (length h)) (sym is) (tag-new h by r)
