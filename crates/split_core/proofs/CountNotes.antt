-- How many events each actor made.
use Rattle.std.proofs.Common.{◌≡◌, ℕ, ◌+◌, ◌^◌, ◌<◌, ◌≤◌, List, [], length, Bool, true, false, ◌==◌, cond, refl, ap}
use Rattle.std.proofs.Common.{sym, ◌∙◌, arith, inl, inr, slice_index, eq-eqb, ne_eqb}
use Rattle.std.specs.Prelude.{slice_set}
use Rattle.std.proofs.lemmas.Bool.{cases_eq}
use Rattle.std.proofs.lemmas.Bool.Decides.{nat_tests}
use Rattle.std.proofs.lemmas.List.{get_or-set_same, get_or-set_other, length-set}
use Rattle.std.proofs.lemmas.List.Sums.{sum_by-cons}
use Rattle.split_types.specs.declared.actor.Actor.{Actor}
use Rattle.split_types.specs.declared.actor.Actor.TheVariants.{Client, Wb, Cm, Dq, Dn, Tk}
use Rattle.split_types.specs.declared.request.Request.{Request}
use Rattle.split_types.specs.declared.request.ReqKind.TheVariants.{Pages}
use Rattle.split_types.specs.declared.workload.Workload.{Workload}
use Rattle.split_types.specs.declared.event.Event.{Event}
use Rattle.split_types.specs.declared.event.Event.TheVariants.{Add}
use Rattle.split_types.specs.History.{◌▹◌}
use Rattle.split_types.specs.Hooks.{maker}
use Rattle.split_types.specs.FactsOf.{is_by, made}
use Rattle.split_core.specs.declared.note.counts.Counts.{Counts}
use Rattle.split_core.specs.Fits.{Fits}
use Rattle.split_core.specs.Counts.{place_of, IsActor, CountsStand}

-- the actor that makes an event has a place
pub maker_in : (w : Workload) (h : List Event) (e : Event) → Fits w h e → IsActor (length w.procs) (maker e)
maker_in w h e fits = by_actor (maker e) refl
  where
    by_actor : (a : Actor) → maker e ≡ a → IsActor (length w.procs) a
    by_actor (Client p) is = let by = fits.by p is in (by.first, by.last)
    by_actor a is = tt

pub place_within : (n : ℕ) (a : Actor) → IsActor n a → place_of n a < n + 5
place_within n (Client p) is = omega (arith, is)
place_within n Wb is = omega arith
place_within n Cm is = omega arith
place_within n Dq is = omega arith
place_within n (Dn k) is = omega arith
place_within n Tk is = omega arith

-- a request that stands for any
some_request : Request
some_request = record { id = record { 0 = 0 }; kind = Pages (record { 0 = 0 }) 0; first = 0; n = 0 }

-- two actors are counted together where they have one place
one_place : (n : ℕ) (a b : Actor) (r : Request) → IsActor n a → IsActor n b
    → is_by a (Add b r) ≡ (place_of n a == place_of n b)
one_place n (Client p) (Client q) r ia ib = grind (arith, nat_tests)
one_place n (Client p) Wb r ia ib = grind (arith, nat_tests)
one_place n (Client p) Cm r ia ib = grind (arith, nat_tests)
one_place n (Client p) Dq r ia ib = grind (arith, nat_tests)
one_place n (Client p) (Dn k) r ia ib = grind (arith, nat_tests)
one_place n (Client p) Tk r ia ib = grind (arith, nat_tests)
one_place n a b r ia ib = grind (arith, nat_tests)

by_place : (n : ℕ) (a : Actor) (e : Event) → IsActor n a → IsActor n (maker e)
    → is_by a e ≡ (place_of n a == place_of n (maker e))
by_place n a e ia ib = one_place n a (maker e) some_request ia ib

-- one event more
made_more : (h : List Event) (e : Event) (a : Actor) → made (h ▹ e) a ≡ cond (is_by a e) 1 0 + made h a
made_more h e a = sum_by-cons (λ x. cond (is_by a x) 1 0) e h

made_most : (h : List Event) (a : Actor) → made h a ≤ length h
made_most [] a = omega arith
made_most (h ▹ e) a = by_test (is_by a e) (made_more h e a) (made_most h a)
  where
    by_test : (b : Bool) → made (h ▹ e) a ≡ cond b 1 0 + made h a → made h a ≤ length h
        → made (h ▹ e) a ≤ length (h ▹ e)
    by_test true more most = omega (arith, more, most)
    by_test false more most = omega (arith, more, most)

-- the count of the actor that makes an event is small
pub count_small : (w : Workload) (h : List Event) (e : Event) (c : Counts) → Fits w h e → CountsStand w c h
    → slice_index c.made.items (place_of (length w.procs) (maker e)) < 2 ^ 31
count_small w h e c fits stands = omega (
  arith,
  stands.made_are (maker e) (maker_in w h e fits),
  made_most h (maker e),
  fits.short,
)

pub counts_after : (w : Workload) (h : List Event) (e : Event) (c new : Counts) → Fits w h e → CountsStand w c h
    → new.made.items ≡ slice_set c.made.items (place_of (length w.procs) (maker e))
    (slice_index c.made.items (place_of (length w.procs) (maker e)) + 1)
    → CountsStand w new (h ▹ e)
counts_after w h e c new fits stands items = record {
  actors = ap length items ∙ length-set c.made.items at more ∙ stands.actors;
  made_are = λ a is. ap (λ l. slice_index l (place_of n a)) items ∙ elim (cases_eq (place_of n a) at) [
    | inl same ↦
        ap (slice_index (slice_set c.made.items at more)) same
        ∙ get_or-set_same c.made.items at more 0 (omega (arith, place_within n (maker e) by, stands.actors))
        ∙ ap (λ k. slice_index c.made.items k + 1) (sym same) ∙ ap (λ k. k + 1) (stands.made_are a is)
        ∙ sym (made_more h e a ∙ ap (λ b. cond b 1 0 + made h a) (by_place n a e is by ∙ eq-eqb (place_of n a) at same)
        ∙ add_one (made h a))
    | inr other ↦
        get_or-set_other c.made.items at (place_of n a) more 0 other ∙ stands.made_are a is
        ∙ sym (made_more h e a ∙ ap (λ b. cond b 1 0 + made h a) (by_place n a e is by ∙ ne_eqb (place_of n a) at other)
        ∙ add_none (made h a))
  ];
}
  where
    n : ℕ
    n = length w.procs

    at : ℕ
    at = place_of (length w.procs) (maker e)

    more : ℕ
    more = slice_index c.made.items (place_of (length w.procs) (maker e)) + 1

    by : IsActor (length w.procs) (maker e)
    by = maker_in w h e fits

    add_one : (m : ℕ) → 1 + m ≡ m + 1
    add_one m = omega arith

    add_none : (m : ℕ) → 0 + m ≡ m
    add_none m = omega arith
