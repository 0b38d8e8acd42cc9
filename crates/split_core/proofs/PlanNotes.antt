-- What the workload alone fixes, as it is built.
use Rattle.std.proofs.Common.{◌≡◌, ℕ, ◌+◌, ◌-◌, ◌<◌, ◌≤◌, List, [], ◌∷◌, ◌++◌, length, map, filter, take, true}
use Rattle.std.proofs.Common.{false, Some, refl, ap, sym, ◌∙◌, arith, inl, inr, slice_get}
use Rattle.std.proofs.Common.{slice_index_or, eq-eqb, ne_eqb, append-nil}
use Rattle.std.specs.Prelude.{slice_set}
use Rattle.std.proofs.lemmas.Bool.{cases_eq}
use Rattle.std.proofs.lemmas.List.{map-append, get_or-set_same, get_or-set_other}
use Rattle.std.proofs.lemmas.List.Elements.{filter-append}
use Rattle.split_types.specs.declared.ids.Pid.{Pid}
use Rattle.split_types.specs.declared.call.Call.{Call}
use Rattle.split_types.specs.Workloads.{is_call_of}
use Rattle.split_types.proofs.Shared.{take_at_some}

-- the calls of process p among these
abbrev pub calls_in : List (Pid × Call) → ℕ → List Call
calls_in calls p = map (λ x. x.1) (filter (is_call_of p) calls)

-- one call more, of this process or another
call_more : (calls : List (Pid × Call)) (i : ℕ) (c : Pid × Call) (p : ℕ) → slice_get calls i ≡ Some c
    → calls_in (take (i + 1) calls) p ≡ calls_in (take i calls) p ++ calls_in (c ∷ []) p
call_more calls i c p at =
    ap (λ l. calls_in l p) (take_at_some calls i c at)
    ∙ ap (map (λ (x : Pid × Call). x.1)) (filter-append (is_call_of p) (take i calls) (c ∷ []))
    ∙ map-append (λ (x : Pid × Call). x.1) (filter (is_call_of p) (take i calls)) (filter (is_call_of p) (c ∷ []))

pub calls_more : (calls : List (Pid × Call)) (i : ℕ) (c : Pid × Call) (items : List (List Call)) (new : List Call)
    (procs : ℕ) → slice_get calls i ≡ Some c → 1 ≤ c.0.0 → c.0.0 ≤ procs → length items ≡ procs
    → ((p : ℕ) → p < procs → slice_index_or items p [] ≡ calls_in (take i calls) (p + 1))
    → new ≡ slice_index_or items (c.0.0 - 1) [] ++ c.1 ∷ []
    → (p : ℕ) → p < procs
    → slice_index_or (slice_set items (c.0.0 - 1) new) p [] ≡ calls_in (take (i + 1) calls) (p + 1)
calls_more calls i c items new procs at least most long before is p within = elim (cases_eq p (c.0.0 - 1)) [
  | inl same ↦
      let mine : is_call_of (p + 1) c ≡ true = eq-eqb c.0.0 (p + 1) (omega (arith, same, least)) in
      let one : calls_in (c ∷ []) (p + 1) ≡ c.1 ∷ [] = rw mine refl in
      ap (λ k. slice_index_or (slice_set items (c.0.0 - 1) new) k []) same
      ∙ get_or-set_same items (c.0.0 - 1) new [] (omega (arith, least, most, long)) ∙ is
      ∙ ap (λ k. slice_index_or items k [] ++ c.1 ∷ []) (sym same)
      ∙ ap (λ l. l ++ c.1 ∷ []) (before p within)
      ∙ ap (λ l. calls_in (take i calls) (p + 1) ++ l) (sym one)
      ∙ sym (call_more calls i c (p + 1) at)
  | inr other ↦
      let not_mine : is_call_of (p + 1) c ≡ false =
      ne_eqb c.0.0 (p + 1) (λ (e : c.0.0 ≡ p + 1). other (omega (arith, e))) in
      let none : calls_in (c ∷ []) (p + 1) ≡ [] = rw not_mine refl in
      get_or-set_other items (c.0.0 - 1) p new [] other ∙ before p within
      ∙ sym (call_more calls i c (p + 1) at ∙ ap (λ l. calls_in (take i calls) (p + 1) ++ l) none ∙ append-nil _)
]
