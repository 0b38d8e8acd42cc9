-- What an event makes of the causes of a buffer.
use Rattle.std.proofs.Common.{◌≡◌, ℕ, ◌<◌, List, [], ◌∷◌, ◌++◌, length, map, Bool, true, false, ◌||◌, arith, refl, subst, sym, ◌∙◌, ap, if◌then◌else◌}
use Rattle.std.specs.List.{flat_map}
use Rattle.std.proofs.lemmas.Bool.{cond-true, cond-false}
use Rattle.std.proofs.lemmas.Bool.Decides.{nat_tests}
use Rattle.std.proofs.lemmas.List.{append-nil, map-append}
use Rattle.std.proofs.lemmas.List.Concat.{flat_map-cons}
use Rattle.std.proofs.lemmas.List.Folds.{list_any-append}
use Rattle.split_types.specs.declared.ids.ReqId.{ReqId}
use Rattle.split_types.specs.declared.ids.Serial.{Serial}
use Rattle.split_types.specs.declared.actor.Actor.{Actor}
use Rattle.split_types.specs.declared.buf.Buf.{Buf}
use Rattle.split_types.specs.declared.request.ReqKind.TheVariants.{Pages}
use Rattle.split_types.specs.declared.request.Request.{Request}
use Rattle.split_types.specs.declared.event.Event.{Event}
use Rattle.split_types.specs.declared.event.Event.TheVariants.{Add}
use Rattle.split_types.specs.History.{◌▹◌}
use Rattle.split_types.specs.Hooks.{is_dirtied, is_freed, is_out}
use Rattle.split_types.specs.OpenDirtyings.{open_at}
use Rattle.split_types.specs.Parents.{pages_of}
use Rattle.split_types.specs.Sets.{has, some_has, union_of}
use Rattle.split_types.specs.Blame.{blame, causes}
use Rattle.split_types.specs.RunningCauses.{causes_of, RunningCauses}
use Rattle.split_types.proofs.Sets.{union-empty, union-flat, union-nest, union-none, union-same}
use Rattle.split_types.proofs.OpenDirtyings.{open_at-below}
use Rattle.split_types.proofs.Blame.{blame-stays, blame-new}

-- ---- blames of older places
pub blames-stay : (h : List Event) (e : Event) (places : List ℕ) → ((j : ℕ) → has places j ≡ true → j < length h)
    → map (blame (h ▹ e)) places ≡ map (blame h) places
blames-stay h e [] low = refl
blames-stay h e (j ∷ js) low =
    let here : blame (h ▹ e) j ≡ blame h j = blame-stays h e j (low j (grind (arith, nat_tests))) in
    let rest : map (blame (h ▹ e)) js ≡ map (blame h) js =
    blames-stay h e js (λ k is. low k (grind (arith, nat_tests))) in
    cc

open-stay : (h : List Event) (e : Event) (b : Buf) → map (blame (h ▹ e)) (open_at h b) ≡ map (blame h) (open_at h b)
open-stay h e b = blames-stay h e (open_at h b) (open_at-below h b)

-- ---- the causes of one buffer
pub causes-one : (h : List Event) (b : Buf) → causes_of h b ≡ union_of (map (blame h) (open_at h b))
causes-one h b = ap (λ l. union_of (map (blame h) l)) (flat_map-cons (open_at h) b [] ∙ append-nil (open_at h b))

open-is : (h : List Event) (e : Event) (b : Buf) (new old : List ℕ)
    → (if is_dirtied e b then length h ∷ [] else []) ≡ new
    → (if is_freed e b || is_out e b then [] else open_at h b) ≡ old
    → open_at (h ▹ e) b ≡ new ++ old
open-is h e b new old p q =
    ap (λ l. l ++ (if is_freed e b || is_out e b then [] else open_at h b)) p ∙ ap (λ l. new ++ l) q

causes-kept : (h : List Event) (e : Event) (b : Buf) → is_dirtied e b ≡ false → (is_freed e b || is_out e b) ≡ false
    → causes_of (h ▹ e) b ≡ causes_of h b
causes-kept h e b clean stays =
    causes-one (h ▹ e) b
    ∙ ap (λ l. union_of (map (blame (h ▹ e)) l))
    (open-is h e b [] (open_at h b) (cond-false (is_dirtied e b) (length h ∷ []) [] clean)
    (cond-false (is_freed e b || is_out e b) [] (open_at h b) stays))
    ∙ ap union_of (open-stay h e b) ∙ sym (causes-one h b)

causes-ended : (h : List Event) (e : Event) (b : Buf) → is_dirtied e b ≡ false → (is_freed e b || is_out e b) ≡ true
    → causes_of (h ▹ e) b ≡ []
causes-ended h e b clean ends =
    causes-one (h ▹ e) b
    ∙ ap (λ l. union_of (map (blame (h ▹ e)) l))
    (open-is h e b [] [] (cond-false (is_dirtied e b) (length h ∷ []) [] clean)
    (cond-true (is_freed e b || is_out e b) [] (open_at h b) ends))
    ∙ union-none

causes-dirtied : (h : List Event) (e : Event) (b : Buf) → is_dirtied e b ≡ true → (is_freed e b || is_out e b) ≡ false
    → causes_of (h ▹ e) b ≡ union_of (causes_of h b ∷ blame (h ▹ e) (length h) ∷ [])
causes-dirtied h e b dirty stays =
    let own = blame (h ▹ e) (length h)
    in let old = map (blame h) (open_at h b)
    in causes-one (h ▹ e) b
    ∙ ap (λ l. union_of (map (blame (h ▹ e)) l))
    (open-is h e b (length h ∷ []) (open_at h b) (cond-true (is_dirtied e b) (length h ∷ []) [] dirty)
    (cond-false (is_freed e b || is_out e b) [] (open_at h b) stays))
    ∙ ap (λ l. union_of (own ∷ l)) (open-stay h e b)
    ∙ union-same (own ∷ old) (old ++ own ∷ []) (λ p is. turned own old p)
    ∙ sym (union-flat old (own ∷ []))
    ∙ ap (λ s. union_of (s ∷ own ∷ [])) (sym (causes-one h b))
  where
    turned : (own : List ℕ) (old : List (List ℕ)) (p : ℕ) → some_has (own ∷ old) p ≡ some_has (old ++ own ∷ []) p
    turned own old p = or_turned (has own p) (some_has old p) ∙ sym (list_any-append (λ xs. has xs p) old (own ∷ []))
      where
        or_turned : (x y : Bool) → (x || y) ≡ (y || (x || false))
        or_turned true true = refl
        or_turned true false = refl
        or_turned false true = refl
        or_turned false false = refl

-- ---- the request that takes pages
-- the blames of the open dirtyings of some buffers, buffer by buffer
blames-flat : (h : List Event) (bs : List Buf)
    → flat_map (λ b. map (blame h) (flat_map (open_at h) (b ∷ []))) bs ≡ map (blame h) (flat_map (open_at h) bs)
blames-flat h [] = refl
blames-flat h (b ∷ bs) =
    let each : Buf → List (List ℕ) = λ c. map (blame h) (flat_map (open_at h) (c ∷ []))
    in flat_map-cons each b bs
    ∙ ap (λ l. each b ++ l) (blames-flat h bs)
    ∙ ap (λ l. map (blame h) l ++ map (blame h) (flat_map (open_at h) bs))
    (flat_map-cons (open_at h) b [] ∙ append-nil (open_at h b))
    ∙ sym (map-append (blame h) (open_at h b) (flat_map (open_at h) bs))
    ∙ ap (map (blame h)) (sym (flat_map-cons (open_at h) b bs))

pub causes-all : (h : List Event) (bs : List Buf) → union_of (map (causes_of h) bs) ≡ causes h bs
causes-all h bs = union-nest (λ b. map (blame h) (flat_map (open_at h) (b ∷ []))) bs ∙ ap union_of (blames-flat h bs)

pages_add : (h : List Event) (by : Actor) (id : ReqId) (s : Serial) (g first n : ℕ) (r : Request)
    → r ≡ record { id = id; kind = Pages s g; first = first; n = n }
    → blame (h ▹ Add by r) (length h) ≡ causes h (pages_of s g n)
pages_add h by id s g first n r is =
    subst (λ x. blame (h ▹ Add by x) (length h) ≡ causes h (pages_of s g n)) (sym is)
    (blame-new h (Add by (record { id = id; kind = Pages s g; first = first; n = n }))
    ∙ union-empty (map (blame h) (flat_map (open_at h) (pages_of s g n))))

blame-pages : (h : List Event) (by : Actor) (r : Request) (s : Serial) (g : ℕ) → r.kind ≡ Pages s g
    → blame (h ▹ Add by r) (length h) ≡ union_of (map (causes_of h) (pages_of s g r.n))
blame-pages h by r s g kind =
    pages_add h by r.id s g r.first r.n r (ap (λ k. record { id = r.id; kind = k; first = r.first; n = r.n }) kind)
    ∙ sym (causes-all h (pages_of s g r.n))

pub running_causes : RunningCauses
running_causes = record { kept = causes-kept; ended = causes-ended; dirtied = causes-dirtied; pages = blame-pages }
