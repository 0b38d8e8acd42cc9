-- What is kept of the puts of a file after one event more.
use Rattle.std.proofs.Common.{◌≡◌, ℕ, ◌+◌, ◌<◌, ◌≤◌, ◌==◌, Bool, true, false, not, ◌&&◌, ◌||◌, List, length, slice_get, Some, ◌⊎◌, inl, inr, refl, ap, sym, ◌∙◌, arith, nat_lt, nat_le}
use Rattle.std.specs.Prelude.{replicate, slice_set}
use Rattle.std.proofs.lemmas.Bool.{cases_eq, cases_lt, eq-eqb, ne_eqb, lt-ltb, le-ltb, le-leb, and_from}
use Rattle.std.proofs.lemmas.Bool.Decides.{nat_tests}
use Rattle.std.proofs.lemmas.List.{length-set, length-replicate}
use Rattle.split_types.specs.declared.ids.Pid.{Pid}
use Rattle.split_types.specs.declared.ids.Serial.{Serial}
use Rattle.split_types.specs.declared.ids.Slot.{Slot}
use Rattle.split_types.specs.declared.ids.ReqId.{ReqId}
use Rattle.split_types.specs.declared.actor.Actor.{Actor}
use Rattle.split_types.specs.declared.buf.Buf.TheVariants.{Page}
use Rattle.split_types.specs.declared.request.ReqKind.TheVariants.{Pages}
use Rattle.split_types.specs.declared.request.Request.{Request}
use Rattle.split_types.specs.declared.workload.Workload.{Workload}
use Rattle.split_types.specs.declared.event.Event.{Event}
use Rattle.split_types.specs.declared.event.Event.TheVariants.{Put, Drop, Add, Done}
use Rattle.split_types.specs.History.{◌▹◌}
use Rattle.split_types.specs.Hooks.{covers, same_buf}
use Rattle.split_types.specs.OpenDirtyings.{open_at}
use Rattle.split_types.specs.Requests.{requests}
use Rattle.split_types.specs.Accepted.{IsAccepted}
use Rattle.split_types.specs.Legal.{IsLegal}
use Rattle.split_core.specs.declared.note.syncs.Unwritten.{Unwritten}
use Rattle.split_core.specs.Fits.{Frees}
use Rattle.split_core.specs.Syncs.{is_in, is_any_before, flying_puts, page_put, pages_taken, pages_done, PutsAre}
use Rattle.split_core.proofs.SyncPages.{in_none, in_here, in_other, taken_from, done_from, IsTakenFrom, IsDoneFrom}
use Rattle.split_core.proofs.SyncPuts.{open_put, open_drop, open_add, flying_add, flying_done, moves_pages, open_quiet, flying_quiet}

-- ---- where the history says the same
pub puts_same : (h e : List Event) (s : Serial) (at : ℕ) (u : Unwritten)
    → ((g : ℕ) → is_any_before at (open_at e (Page s g)) ≡ is_any_before at (open_at h (Page s g)))
    → ((g : ℕ) → is_any_before at (flying_puts e (Page s g)) ≡ is_any_before at (flying_puts h (Page s g)))
    → PutsAre h s at u → PutsAre e s at u
puts_same h e s at u opens flies are = record {
  dirty_long = are.dirty_long;
  flying_long = are.flying_long;
  dirty_are = λ g. are.dirty_are g ∙ sym (opens g);
  flying_are = λ g. are.flying_are g ∙ sym (flies g);
}

pub puts_quiet : (h : List Event) (e : Event) (s : Serial) (at : ℕ) (u : Unwritten) → moves_pages e ≡ false
    → PutsAre h s at u → PutsAre (h ▹ e) s at u
puts_quiet h e s at u quiet are = puts_same h (h ▹ e) s at u
    (λ g. ap (is_any_before at) (open_quiet h e s g quiet))
    (λ g. ap (is_any_before at) (flying_quiet h e (Page s g) quiet)) are

-- ---- a put
-- of another file, or behind the place
pub puts_other : (h : List Event) (by : Pid) (t : Serial) (j from to fill : ℕ) (s : Serial) (at : ℕ) (u : Unwritten)
    → ((t.0 ≡ s.0 → ⊥) ⊎ (at ≤ length h)) → PutsAre h s at u → PutsAre (h ▹ Put by t j from to fill) s at u
puts_other h by t j from to fill s at u apart are = puts_same h (h ▹ Put by t j from to fill) s at u
    (λ g. open_put h by t j from to fill s g at ∙ ap (λ b. b || is_any_before at (open_at h (Page s g))) (none g))
    (λ g. refl) are
  where
    both_none : (a b : Bool) → ((a ≡ false) ⊎ (b ≡ false)) → (a && b) ≡ false
    both_none true b (inl is) = absurd (cc)
    both_none true b (inr is) = is
    both_none false b is = refl

    none : (g : ℕ) → (same_buf (Page s g) (Page t j) && nat_lt (length h) at) ≡ false
    none g = elim apart [
      | inl other ↦ both_none (same_buf (Page s g) (Page t j)) (nat_lt (length h) at)
          (inl (ap (λ b. b && (g == j)) (ne_eqb s.0 t.0 (λ (same : s.0 ≡ t.0). other (sym same)))))
      | inr behind ↦ both_none (same_buf (Page s g) (Page t j)) (nat_lt (length h) at)
          (inr (le-ltb (length h) at behind))
    ]

-- of the file, before the place
pub puts_here : (h : List Event) (by : Pid) (t : Serial) (j from to fill : ℕ) (s : Serial) (at : ℕ) (u : Unwritten)
    → t.0 ≡ s.0 → length h < at → j < 1008 → PutsAre h s at u
    → PutsAre (h ▹ Put by t j from to fill) s at (page_put j u)
puts_here h by t j from to fill s at u same before within are = record {
  dirty_long = length-set u.dirty j true ∙ are.dirty_long;
  flying_long = are.flying_long;
  dirty_are = λ g. bit g ∙ sym (open_put h by t j from to fill s g at);
  flying_are = are.flying_are;
}
  where
    file : (s.0 == t.0) ≡ true
    file = eq-eqb s.0 t.0 (sym same)

    bit : (g : ℕ) → is_in (slice_set u.dirty j true) g
        ≡ ((same_buf (Page s g) (Page t j) && nat_lt (length h) at) || is_any_before at (open_at h (Page s g)))
    bit g = elim (cases_eq g j) [
      | inl here ↦ ap (is_in (slice_set u.dirty j true)) here
          ∙ in_here u.dirty j true (omega (arith, within, are.dirty_long))
          ∙ sym (ap (λ b. b || is_any_before at (open_at h (Page s g)))
          (and_from (same_buf (Page s g) (Page t j)) (nat_lt (length h) at)
          (and_from (s.0 == t.0) (g == j) file (eq-eqb g j here)) (lt-ltb (length h) at before)))
      | inr other ↦ in_other u.dirty j g true other ∙ are.dirty_are g
          ∙ sym (ap (λ b. (b && nat_lt (length h) at) || is_any_before at (open_at h (Page s g)))
          (ap (λ b. (s.0 == t.0) && b) (ne_eqb g j other) ∙ ap (λ b. b && false) file))
    ]

-- ---- a drop
pub puts_dropped : (h : List Event) (by : Pid) (slot : Slot) (t s : Serial) (at : ℕ) (u : Unwritten)
    → t.0 ≡ s.0 → PutsAre h s at u
    → PutsAre (h ▹ Drop by slot t) s at (record u { dirty = replicate 1008 false })
puts_dropped h by slot t s at u same are = record {
  dirty_long = length-replicate 1008 false;
  flying_long = are.flying_long;
  dirty_are = λ g. in_none g
      ∙ sym (open_drop h by slot t s g at
      ∙ ap (λ b. not b && is_any_before at (open_at h (Page s g))) (eq-eqb t.0 s.0 same));
  flying_are = are.flying_are;
}

pub puts_kept : (h : List Event) (by : Pid) (slot : Slot) (t s : Serial) (at : ℕ) (u : Unwritten)
    → (t.0 ≡ s.0 → ⊥) → PutsAre h s at u → PutsAre (h ▹ Drop by slot t) s at u
puts_kept h by slot t s at u other are = puts_same h (h ▹ Drop by slot t) s at u
    (λ g. open_drop h by slot t s g at
    ∙ ap (λ b. not b && is_any_before at (open_at h (Page s g))) (ne_eqb t.0 s.0 other))
    (λ g. refl) are

-- ---- which pages a request covers
-- the n pages of a file from this one on
pub covers_in : (r : Request) (s : Serial) (p k : ℕ) → r.kind ≡ Pages s p → p ≤ k → k < p + r.n
    → covers r (Page s k) ≡ true
covers_in r s p k is from to =
    rw is (and_from ((s.0 == s.0) && nat_le p k) (nat_lt k (p + r.n))
    (and_from (s.0 == s.0) (nat_le p k) (eq-eqb s.0 s.0 refl) (le-leb p k from)) (lt-ltb k (p + r.n) to))

pub covers_out : (r : Request) (s : Serial) (p k : ℕ) → r.kind ≡ Pages s p → (p ≤ k → k < p + r.n → ⊥)
    → covers r (Page s k) ≡ false
covers_out r s p k is out = rw is (grind (arith, nat_tests, out))

pub covers_other : (r : Request) (t s : Serial) (p k : ℕ) → r.kind ≡ Pages t p → (t.0 ≡ s.0 → ⊥)
    → covers r (Page s k) ≡ false
covers_other r t s p k is other = rw is (ap (λ b. (b && nat_le p k) && nat_lt k (p + r.n)) (ne_eqb t.0 s.0 other))

-- the page is among them or isn't
pub by_range : {C : Type 0} (p n k : ℕ) → (p ≤ k → k < p + n → C) → ((p ≤ k → k < p + n → ⊥) → C) → C
by_range p n k inside outside = elim (cases_lt k p) [
  | inl before ↦ outside (λ from to. omega (arith, before, from))
  | inr from ↦ elim (cases_lt k (p + n)) [
    | inl to ↦ inside from to
    | inr behind ↦ outside (λ low high. omega (arith, behind, high))
  ]
]

-- ---- a request that is added
or_none : (b : Bool) → (b || false) ≡ b
or_none true = refl
or_none false = refl

or_turned : (a b : Bool) → (a || b) ≡ (b || a)
or_turned true true = refl
or_turned true false = refl
or_turned false true = refl
or_turned false false = refl

-- it covers no page of the file
pub puts_uncovered : (w : Workload) (h : List Event) (by : Actor) (r : Request) (s : Serial) (at : ℕ) (u : Unwritten)
    → IsAccepted w → IsLegal w (h ▹ Add by r) → ((g : ℕ) → covers r (Page s g) ≡ false)
    → PutsAre h s at u → PutsAre (h ▹ Add by r) s at u
puts_uncovered w h by r s at u accepted legal out are = puts_same h (h ▹ Add by r) s at u
    (λ g. open_add h by r s g at ∙ ap (λ b. not b && is_any_before at (open_at h (Page s g))) (out g))
    (λ g. flying_add w h by r (Page s g) at accepted legal
    ∙ ap (λ b. is_any_before at (flying_puts h (Page s g)) || (b && is_any_before at (open_at h (Page s g)))) (out g)
    ∙ or_none (is_any_before at (flying_puts h (Page s g)))) are

pub puts_taken : (w : Workload) (h : List Event) (by : Actor) (r : Request) (s : Serial) (p at : ℕ) (u : Unwritten)
    → IsAccepted w → IsLegal w (h ▹ Add by r) → r.kind ≡ Pages s p → p + r.n ≤ 1008
    → PutsAre h s at u → PutsAre (h ▹ Add by r) s at (pages_taken p r.n u)
puts_taken w h by r s p at u accepted legal is within are = record {
  dirty_long = t.dirty_long ∙ are.dirty_long;
  flying_long = t.flying_long ∙ are.flying_long;
  dirty_are = λ g. by_range p r.n g
      (λ from to. t.dirty_in g from to
      ∙ sym (ap (λ b. not b && is_any_before at (open_at h (Page s g))) (covers_in r s p g is from to)))
      (λ out. t.dirty_out g out ∙ are.dirty_are g
      ∙ sym (ap (λ b. not b && is_any_before at (open_at h (Page s g))) (covers_out r s p g is out)))
      ∙ sym (open_add h by r s g at);
  flying_are = λ g. by_range p r.n g
      (λ from to. t.flying_in g from to
      ∙ or_turned (is_in u.dirty g) (is_in u.flying g)
      ∙ ap (λ b. b || is_in u.dirty g) (are.flying_are g)
      ∙ ap (λ b. is_any_before at (flying_puts h (Page s g)) || b) (are.dirty_are g)
      ∙ sym (ap (λ b. is_any_before at (flying_puts h (Page s g)) || (b && is_any_before at (open_at h (Page s g))))
      (covers_in r s p g is from to)))
      (λ out. t.flying_out g out ∙ are.flying_are g ∙ sym (or_none (is_any_before at (flying_puts h (Page s g))))
      ∙ sym (ap (λ b. is_any_before at (flying_puts h (Page s g)) || (b && is_any_before at (open_at h (Page s g))))
      (covers_out r s p g is out)))
      ∙ sym (flying_add w h by r (Page s g) at accepted legal);
}
  where
    t : IsTakenFrom p r.n u (pages_taken p r.n u)
    t = taken_from p r.n u within are.dirty_long are.flying_long

-- ---- a request that is done
pub puts_undone : (w : Workload) (h : List Event) (k : ℕ) (id : ReqId) (r : Request) (s : Serial) (at : ℕ)
    (u : Unwritten) → IsAccepted w → IsLegal w (h ▹ Done k id true) → slice_get (requests h) id.0 ≡ Some r
    → Frees h (Done k id true) r → ((g : ℕ) → covers r (Page s g) ≡ false)
    → PutsAre h s at u → PutsAre (h ▹ Done k id true) s at u
puts_undone w h k id r s at u accepted legal there frees out are = puts_same h (h ▹ Done k id true) s at u
    (λ g. refl)
    (λ g. flying_done w h k id r (Page s g) at accepted legal there frees
    ∙ ap (λ b. not b && is_any_before at (flying_puts h (Page s g))) (out g)) are

pub puts_done : (w : Workload) (h : List Event) (k : ℕ) (id : ReqId) (r : Request) (s : Serial) (p at : ℕ)
    (u : Unwritten) → IsAccepted w → IsLegal w (h ▹ Done k id true) → slice_get (requests h) id.0 ≡ Some r
    → Frees h (Done k id true) r → r.kind ≡ Pages s p → p + r.n ≤ 1008
    → PutsAre h s at u → PutsAre (h ▹ Done k id true) s at (pages_done p r.n u)
puts_done w h k id r s p at u accepted legal there frees is within are = record {
  dirty_long = ap length t.dirty_is ∙ are.dirty_long;
  flying_long = t.flying_long ∙ are.flying_long;
  dirty_are = λ g. ap (λ set. is_in set g) t.dirty_is ∙ are.dirty_are g;
  flying_are = λ g. by_range p r.n g
      (λ from to. t.flying_in g from to
      ∙ sym (ap (λ b. not b && is_any_before at (flying_puts h (Page s g))) (covers_in r s p g is from to)))
      (λ out. t.flying_out g out ∙ are.flying_are g
      ∙ sym (ap (λ b. not b && is_any_before at (flying_puts h (Page s g))) (covers_out r s p g is out)))
      ∙ sym (flying_done w h k id r (Page s g) at accepted legal there frees);
}
  where
    t : IsDoneFrom p r.n u (pages_done p r.n u)
    t = done_from p r.n u within are.flying_long
