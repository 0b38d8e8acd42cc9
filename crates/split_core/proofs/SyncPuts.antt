-- What each event makes of the puts of a page that are open, and of those that requests took which aren't done.
use Rattle.std.proofs.Common.{◌≡◌, ℕ, suc, ◌==◌, Bool, true, false, not, ◌&&◌, ◌||◌, List, [], ◌∷◌, ◌++◌, length, slice_get, filter, Some, inl, inr, refl, ap, sym, ◌∙◌, subst, arith, nat_lt, if◌then◌else◌}
use Rattle.std.specs.List.{list_any, flat_map}
use Rattle.std.proofs.lemmas.Bool.{cases_Bool, both_ways, eqb-true, false_from_ne_true}
use Rattle.std.proofs.lemmas.Option.{slice_get_within}
use Rattle.std.proofs.lemmas.List.Folds.{list_any-append}
use Rattle.split_types.specs.declared.ids.Pid.{Pid}
use Rattle.split_types.specs.declared.ids.Serial.{Serial}
use Rattle.split_types.specs.declared.ids.Slot.{Slot}
use Rattle.split_types.specs.declared.ids.ReqId.{ReqId}
use Rattle.split_types.specs.declared.actor.Actor.{Actor}
use Rattle.split_types.specs.declared.buf.Buf.{Buf}
use Rattle.split_types.specs.declared.buf.Buf.TheVariants.{Page}
use Rattle.split_types.specs.declared.request.Request.{Request}
use Rattle.split_types.specs.declared.workload.Workload.{Workload}
use Rattle.split_types.specs.declared.event.Event.{Event}
use Rattle.split_types.specs.declared.event.Event.TheVariants.{Put, Drop, Map, Add, Done}
use Rattle.split_types.specs.History.{◌▹◌}
use Rattle.split_types.specs.Hooks.{covers, same_buf}
use Rattle.split_types.specs.OpenDirtyings.{open_at}
use Rattle.split_types.specs.Requests.{is_numbered, requests, unfinished}
use Rattle.split_types.specs.DiskBytes.{adding}
use Rattle.split_types.specs.Syncing.{taken_puts}
use Rattle.split_types.specs.Accepted.{IsAccepted}
use Rattle.split_types.specs.Legal.{IsLegal}
use Rattle.split_types.specs.Proving.Known.{Known}
use Rattle.split_types.proofs.Shared.{known, adding_new, adding_kept, adding_there, find_some, list_any_here, case_false}
use Rattle.split_core.specs.Fits.{Frees}
use Rattle.split_core.specs.Syncs.{is_any_before, flying_puts}

-- ---- lists
pub any_flat : {X Y : Type 0} (p : Y → Bool) (f : X → List Y) (xs : List X)
    → list_any p (flat_map f xs) ≡ list_any (λ x. list_any p (f x)) xs
any_flat p f [] = refl
any_flat p f (x ∷ xs) = list_any-append p (f x) (flat_map f xs) ∙ ap (λ b. list_any p (f x) || b) (any_flat p f xs)

any_same : {X : Type 0} (p q : X → Bool) (xs : List X)
    → ((k : ℕ) (x : X) → slice_get xs k ≡ Some x → p x ≡ q x) → list_any p xs ≡ list_any q xs
any_same p q [] same = refl
any_same p q (x ∷ xs) same =
    ap (λ b. b || list_any p xs) (same 0 x refl)
    ∙ ap (λ b. q x || b) (any_same p q xs (λ k y at. same (suc k) y at))

any_left : {X : Type 0} (p q : X → Bool) (xs : List X) → ((x : X) → q x ≡ false → p x ≡ false)
    → list_any p (filter q xs) ≡ list_any p xs
any_left p q [] none = refl
any_left p q (x ∷ xs) none = by_test (q x) refl (any_left p q xs none)
  where
    by_test : (b : Bool) → q x ≡ b → list_any p (filter q xs) ≡ list_any p xs
        → list_any p (if b then x ∷ filter q xs else filter q xs) ≡ (p x || list_any p xs)
    by_test true is rest = ap (λ c. p x || c) rest
    by_test false is rest = rest ∙ ap (λ c. c || list_any p xs) (sym (none x is))

or_none : (b : Bool) → (b || false) ≡ b
or_none true = refl
or_none false = refl

not_false : (b : Bool) → not b ≡ false → b ≡ true
not_false true is = refl
not_false false is = absurd (cc)

-- ---- puts that a request took
-- some of them came before a place
abbrev pub is_flying : List Event → Buf → ℕ → Request → Bool
is_flying h b at r = is_any_before at (taken_puts b (adding h r.id))

pub flying_any : (h : List Event) (b : Buf) (at : ℕ)
    → is_any_before at (flying_puts h b) ≡ list_any (is_flying h b at) (unfinished h)
flying_any h b at = any_flat (λ i. nat_lt i at) (λ r. taken_puts b (adding h r.id)) (unfinished h)

-- a request that isn't done well took some only where it covers the page
flying_covers : (w : Workload) (h : List Event) (b : Buf) (at : ℕ) (r : Request) → IsAccepted w → IsLegal w h
    → slice_get (requests h) r.id.0 ≡ Some r → covers r b ≡ false → is_flying h b at r ≡ false
flying_covers w h b at r accepted legal there out =
    let a = adding_there w h r.id.0 r accepted legal there
    in ap (λ o. is_any_before at (taken_puts b o)) a.1
    ∙ ap (is_any_before at) (case_false (covers r b) (open_at a.0 b) [] out)

pub unfinished_covers : (w : Workload) (h : List Event) (b : Buf) (at : ℕ) → IsAccepted w → IsLegal w h
    → list_any (λ r. covers r b) (unfinished h) ≡ false → is_any_before at (flying_puts h b) ≡ false
unfinished_covers w h b at accepted legal none =
    flying_any h b at ∙ false_from_ne_true (list_any (is_flying h b at) (unfinished h)) (λ any. some any)
  where
    some : list_any (is_flying h b at) (unfinished h) ≡ true → ⊥
    some any =
        let found = find_some (is_flying h b at) (unfinished h) any
        in let r : Request = found.element
        in let own : slice_get (requests h) r.id.0 ≡ Some r =
        (known w h accepted legal).waiting.left_of found.place r found.there
        in elim (cases_Bool (covers r b)) [
          | inl is ↦ both_ways (list_any (λ q. covers q b) (unfinished h)) none
              (list_any_here (λ q. covers q b) (unfinished h) found.place r found.there is)
          | inr out ↦ both_ways (is_flying h b at r) (flying_covers w h b at r accepted legal own out) found.passes
        ]

-- ---- a put
pub open_put : (h : List Event) (by : Pid) (t : Serial) (j from to fill : ℕ) (s : Serial) (k at : ℕ)
    → is_any_before at (open_at (h ▹ Put by t j from to fill) (Page s k))
    ≡ ((same_buf (Page s k) (Page t j) && nat_lt (length h) at) || is_any_before at (open_at h (Page s k)))
open_put h by t j from to fill s k at = by_test (same_buf (Page s k) (Page t j))
  where
    by_test : (b : Bool) → is_any_before at ((if b || false then length h ∷ [] else []) ++ open_at h (Page s k))
        ≡ ((b && nat_lt (length h) at) || is_any_before at (open_at h (Page s k)))
    by_test true = refl
    by_test false = refl

-- ---- a drop
pub open_drop : (h : List Event) (by : Pid) (slot : Slot) (t s : Serial) (k at : ℕ)
    → is_any_before at (open_at (h ▹ Drop by slot t) (Page s k))
    ≡ (not (t.0 == s.0) && is_any_before at (open_at h (Page s k)))
open_drop h by slot t s k at = by_test (t.0 == s.0)
  where
    by_test : (b : Bool) → is_any_before at (if b || false then [] else open_at h (Page s k))
        ≡ (not b && is_any_before at (open_at h (Page s k)))
    by_test true = refl
    by_test false = refl

-- ---- a request that is added
pub open_add : (h : List Event) (by : Actor) (r : Request) (s : Serial) (k at : ℕ)
    → is_any_before at (open_at (h ▹ Add by r) (Page s k))
    ≡ (not (covers r (Page s k)) && is_any_before at (open_at h (Page s k)))
open_add h by r s k at = by_test (covers r (Page s k))
  where
    by_test : (b : Bool) → is_any_before at (if b then [] else open_at h (Page s k))
        ≡ (not b && is_any_before at (open_at h (Page s k)))
    by_test true = refl
    by_test false = refl

pub flying_add : (w : Workload) (h : List Event) (by : Actor) (r : Request) (b : Buf) (at : ℕ) → IsAccepted w
    → IsLegal w (h ▹ Add by r)
    → is_any_before at (flying_puts (h ▹ Add by r) b)
    ≡ (is_any_before at (flying_puts h b) || (covers r b && is_any_before at (open_at h b)))
flying_add w h by r b at accepted legal =
    flying_any (h ▹ Add by r) b at
    ∙ list_any-append (is_flying (h ▹ Add by r) b at) (unfinished h) (r ∷ [])
    ∙ ap (λ c. c || (is_flying (h ▹ Add by r) b at r || false))
    (any_same (is_flying (h ▹ Add by r) b at) (is_flying h b at) (unfinished h) old ∙ sym (flying_any h b at))
    ∙ ap (λ c. is_any_before at (flying_puts h b) || c)
    (ap (λ c. c || false) (ap (λ o. is_any_before at (taken_puts b o)) (adding_new h by r)) ∙ new (covers r b))
  where
    f : Known w h
    f = known w h accepted legal.1

    old : (k : ℕ) (q : Request) → slice_get (unfinished h) k ≡ Some q
        → is_flying (h ▹ Add by r) b at q ≡ is_flying h b at q
    old k q there =
        let own = f.waiting.left_of k q there
        in ap (λ o. is_any_before at (taken_puts b o))
        (adding_kept w h (Add by r) q.id legal
        (omega (arith, slice_get_within (requests h) q.id.0 q own, f.numbered.counted)))

    new : (c : Bool)
        → (is_any_before at (elim c [ true ↦ open_at h b | false ↦ [] ]) || false)
        ≡ (c && is_any_before at (open_at h b))
    new true = or_none (is_any_before at (open_at h b))
    new false = refl

-- ---- a request that is done
pub flying_done : (w : Workload) (h : List Event) (k : ℕ) (id : ReqId) (r : Request) (b : Buf) (at : ℕ)
    → IsAccepted w → IsLegal w (h ▹ Done k id true) → slice_get (requests h) id.0 ≡ Some r
    → Frees h (Done k id true) r
    → is_any_before at (flying_puts (h ▹ Done k id true) b)
    ≡ (not (covers r b) && is_any_before at (flying_puts h b))
flying_done w h k id r b at accepted legal there frees = by_test (covers r b) refl
  where
    number : r.id.0 ≡ id.0
    number = (known w h accepted legal.1).numbered.number_is id.0 r there

    out : covers r b ≡ false → (q : Request) → not (is_numbered id q) ≡ false → is_flying h b at q ≡ false
    out none q numbered =
        let same : q.id.0 ≡ id.0 = eqb-true q.id.0 id.0 (not_false (q.id.0 == id.0) numbered)
        in subst (λ n. is_any_before at (taken_puts b (adding h (record { 0 = n }))) ≡ false)
        (number ∙ sym same)
        (flying_covers w h b at r accepted legal.1
        (subst (λ n. slice_get (requests h) n ≡ Some r) (sym number) there) none)

    by_test : (c : Bool) → covers r b ≡ c
        → is_any_before at (flying_puts (h ▹ Done k id true) b) ≡ (not c && is_any_before at (flying_puts h b))
    by_test true is =
        unfinished_covers w (h ▹ Done k id true) b at accepted legal
        (frees b ∙ ap (λ c. not c && list_any (λ q. covers q b) (unfinished h)) is)
    by_test false is =
        flying_any (h ▹ Done k id true) b at
        ∙ any_left (is_flying h b at) (λ q. not (is_numbered id q)) (unfinished h) (out is)
        ∙ sym (flying_any h b at)

-- ---- other events
-- an event puts a page, drops a file, adds a request, or says that one is done
abbrev pub moves_pages : Event → Bool
moves_pages (Put by s g from to fill) = true
moves_pages (Drop by slot s) = true
moves_pages (Add by r) = true
moves_pages (Done k id ok) = true
moves_pages e = false

pub open_quiet : (h : List Event) (e : Event) (s : Serial) (g : ℕ) → moves_pages e ≡ false
    → open_at (h ▹ e) (Page s g) ≡ open_at h (Page s g)
open_quiet h (Put by t k from to fill) s g quiet = absurd (cc quiet)
open_quiet h (Drop by slot t) s g quiet = absurd (cc quiet)
open_quiet h (Add by r) s g quiet = absurd (cc quiet)
open_quiet h (Map slot t k n block true size) s g quiet = refl
open_quiet h (Map slot t k n block false size) s g quiet = refl
open_quiet h e s g quiet = refl

pub flying_quiet : (h : List Event) (e : Event) (b : Buf) → moves_pages e ≡ false
    → flying_puts (h ▹ e) b ≡ flying_puts h b
flying_quiet h (Add by r) b quiet = absurd (cc quiet)
flying_quiet h (Done k id ok) b quiet = absurd (cc quiet)
flying_quiet h e b quiet = refl
