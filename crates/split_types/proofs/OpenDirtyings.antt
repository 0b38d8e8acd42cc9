-- Where the open dirtyings of a buffer stand.
use Rattle.std.proofs.Common.{◌≡◌, ℕ, ◌+◌, ◌<◌, true, false, ◌⊎◌, inl, inr, List, [], length, arith, sym, ◌∙◌, ap}
use Rattle.std.specs.Prelude.{Some, None}
use Rattle.std.proofs.lemmas.Bool.{cases_order}
use Rattle.std.proofs.lemmas.Grind.{common_steps}
use Rattle.split_types.specs.declared.buf.Buf.{Buf}
use Rattle.split_types.specs.declared.event.Event.{Event}
use Rattle.split_types.specs.History.{◌▹◌, event_at}
use Rattle.split_types.specs.Hooks.{is_dirtied, is_freed, is_out}
use Rattle.split_types.specs.OpenDirtyings.{open_at}
use Rattle.split_types.specs.Sets.{has}
use Rattle.split_types.specs.ByPlace.{IsOpen, OpenAreOpen}
use Rattle.split_types.proofs.Members.{has-append}
use Rattle.split_types.proofs.History.{event_at-new, event_at-stays, event_at-none}

pub open_at-below : (h : List Event) (b : Buf) (i : ℕ) → has (open_at h b) i ≡ true → i < length h
open_at-below [] b i t = cc
open_at-below (h ▹ e) b i t = grind (arith, common_steps, has-append, open_at-below h b i)

-- an open dirtying of the history with one event more: the event's own place, or one that stays open
pub open_at-more : (h : List Event) (e : Event) (b : Buf) (i : ℕ) → has (open_at (h ▹ e) b) i ≡ true
    → ((i ≡ length h) × (is_dirtied e b ≡ true))
    ⊎ ((has (open_at h b) i ≡ true) × ((is_freed e b ≡ false) × (is_out e b ≡ false)))
open_at-more h e b i t = grind (arith, common_steps, has-append)

-- what an event's own place needs to be open
opened : (h : List Event) (e : Event) (b : Buf) (i : ℕ) → i ≡ length h → is_dirtied e b ≡ true → IsOpen (h ▹ e) b i
opened h e b i at_end dirty = record {
  within = omega arith;
  dirtied = λ f at. let found : Some e ≡ Some f = grind (arith, event_at-new h e) in cc;
  kept = λ j f lt at. let gone : event_at (h ▹ e) j ≡ None = event_at-none (h ▹ e) j (omega arith) in cc;
}

-- what stays open over one event more
stays_open : (h : List Event) (e : Event) (b : Buf) (i : ℕ) → IsOpen h b i → is_freed e b ≡ false
    → is_out e b ≡ false → IsOpen (h ▹ e) b i
stays_open h e b i o free out = record {
  within = omega arith;
  dirtied = λ f at. o.dirtied f (sym (event_at-stays h e i o.within) ∙ at);
  kept = λ j f lt at. elim (cases_order j (length h)) [
    | inl same ↦ let found : Some e ≡ Some f = sym (event_at-new h e) ∙ ap (event_at (h ▹ e)) (sym same) ∙ at in
        (cc, cc)
    | inr (inl below) ↦ o.kept j f lt (sym (event_at-stays h e j below) ∙ at)
    | inr (inr above) ↦ let gone : event_at (h ▹ e) j ≡ None = event_at-none (h ▹ e) j (omega arith) in cc
  ];
}

-- what was open before the event, where it is open after it
was_open : (h : List Event) (e : Event) (b : Buf) (i : ℕ) → i < length h → IsOpen (h ▹ e) b i → IsOpen h b i
was_open h e b i lt o = record {
  within = lt;
  dirtied = λ f at. o.dirtied f (event_at-stays h e i lt ∙ at);
  kept = λ j f above at. elim (cases_order j (length h)) [
    | inl same ↦ let gone : event_at h j ≡ None = event_at-none h j (omega arith) in cc
    | inr (inl below) ↦ o.kept j f above (event_at-stays h e j below ∙ at)
    | inr (inr beyond) ↦ let gone : event_at h j ≡ None = event_at-none h j (omega arith) in cc
  ];
}

pub is_open : (h : List Event) (b : Buf) (i : ℕ) → has (open_at h b) i ≡ true → IsOpen h b i
is_open [] b i t = cc
is_open (h ▹ e) b i t = elim (open_at-more h e b i t) [
  | inl new ↦ opened h e b i new.0 new.1
  | inr old ↦ stays_open h e b i (is_open h b i old.0) old.1.0 old.1.1
]

pub open_is_there : (h : List Event) (b : Buf) (i : ℕ) → IsOpen h b i → has (open_at h b) i ≡ true
open_is_there [] b i o = let lt : i < 0 = o.within in absurd (omega arith)
open_is_there (h ▹ e) b i o = elim (cases_order i (length h)) [
  | inl same ↦ let dirty : is_dirtied e b ≡ true = o.dirtied e (ap (event_at (h ▹ e)) same ∙ event_at-new h e) in
      grind (arith, common_steps, has-append)
  | inr (inl below) ↦
      let kept = o.kept (length h) e below (event_at-new h e) in
      let old : has (open_at h b) i ≡ true = open_is_there h b i (was_open h e b i below o) in
      grind (arith, common_steps, has-append)
  | inr (inr above) ↦ let lt : i < length h + 1 = omega (arith, o.within) in absurd (omega arith)
]

pub open_are_open : OpenAreOpen
open_are_open h b i = (is_open h b i, open_is_there h b i)
